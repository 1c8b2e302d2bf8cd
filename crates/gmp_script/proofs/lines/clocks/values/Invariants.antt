use Rattle.std.proofs.Common.{◌≡◌, map, take, Some}
use Rattle.gmp_script.specs.Lines.{value}
use Rattle.gmp_script.proofs.lines.clocks.values.Given as goal

abbrev pub invariant-loop-word : goal.invariant-loop-word
invariant-loop-word l = map Some l.values.items ≡ take l.word-index (map (λ word. value word.now) l.words)
