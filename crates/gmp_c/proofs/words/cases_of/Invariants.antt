use Rattle.std.proofs.Common.{◌≡◌, map, take}
use Rattle.gmp_c.specs.Words.{case_of}
use Rattle.gmp_c.proofs.words.cases_of.Given as goal

-- the cases so far
abbrev pub invariant-loop-one : goal.invariant-loop-one
invariant-loop-one l = l.cases ≡ map case_of (take l.one-index l.words)
