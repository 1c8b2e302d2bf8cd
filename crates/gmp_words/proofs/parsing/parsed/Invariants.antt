use Rattle.std.proofs.Common.{◌≡◌, length, take}
use Rattle.gmp_script.specs.Lines.{lines, IsScript}
use Rattle.gmp_words.proofs.parsing.parsed.Given as goal

abbrev pub invariant-loop-line : goal.invariant-loop-line
invariant-loop-line l = record {
  counted : l.number ≡ length l.yielded;
  good : IsScript (take (length l.yielded) (lines l.text)) l.script.capacities.items l.script.readings.items l.script.bodies.items;
}
