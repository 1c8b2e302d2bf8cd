use Rattle.gmp_host.specs.Search.{AreWell}
use Rattle.gmp_host.proofs.searching.search.Given as goal

-- each seed so far ended well
abbrev pub invariant-loop-seed : goal.invariant-loop-seed
invariant-loop-seed g l = AreWell (λ seed result. g.F.Fn.post l.run (seed, tt) result) l.fn.seeds.start l.seed
