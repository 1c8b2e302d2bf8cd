use Rattle.std.proofs.Common.{◌≡◌, ◌⊎◌, ◌≤◌}
use Rattle.gmp_host.specs.Search.{Compares}
use Rattle.gmp_host.proofs.searching.shortest.Given as goal

-- the shortest of the seeds so far
abbrev pub invariant-loop-seed : goal.invariant-loop-seed
invariant-loop-seed g l = record {
  compared : Compares (λ seed result. g.F.Fn.post l.run (seed, tt) result) l.fn.seeds.start l.seed l.least;
  from : l.fn.seeds.start ≤ l.seed;
  within : (l.seed ≤ l.fn.seeds.end) ⊎ (l.seed ≡ l.fn.seeds.start);
}
