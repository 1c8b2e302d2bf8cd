use Rattle.std.proofs.Common.{ℕ, List}
use Rattle.gmp_script.specs.Lines.{IsScript}
use Rattle.gmp_test_races.proofs.playing.script.Given as goal

-- the lines so far are the script
abbrev pub invariant-loop-line : goal.invariant-loop-line
invariant-loop-line l = (before : List (List ℕ)) × IsScript before l.script.capacities.items l.script.readings.items l.script.bodies.items
