use Rattle.std.proofs.Common.{◌≡◌, ◌++◌, drop}
use Rattle.gmp_draw.specs.Svg.{escaped}
use Rattle.gmp_draw.proofs.svg.put_escaped.Given as goal

-- what is written and what is left are all
abbrev pub invariant-loop-byte : goal.invariant-loop-byte
invariant-loop-byte l = l.out.items ++ escaped (drop l.byte-index l.text) ≡ l.fn.out.items ++ escaped l.text
