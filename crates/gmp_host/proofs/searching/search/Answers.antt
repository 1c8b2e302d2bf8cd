use Rattle.std.proofs.Common.{◌≡◌, ℕ, Ok, inl, inr, arith, subst}
use Rattle.std.proofs.lemmas.Bool.{cases_lt}
use Rattle.gmp_host.specs.declared.ending.Ended.{Ended}
use Rattle.gmp_host.specs.Search.{IsWell}
use Rattle.gmp_host.proofs.searching.search.Goals as goal

pub loop-seed-preserved : goal.loop-seed-preserved
loop-seed-preserved g c seed from below =
    let ended = c.in-Ok.ended in
    let well : IsWell ended = c.is_well.ensures.0 c.if-not-is_well.false in
    elim (cases_lt seed c.loop-seed.seed) [
      | inl before ↦ c.loop-seed.invariant seed from before
      | inr behind ↦
          let here : c.loop-seed.seed ≡ seed = omega (arith, behind, below) in
          subst (λ (s : ℕ). (e : Ended) × g.F.Fn.post c.args.run (s, tt) (Ok e) × IsWell e) here (ended, c.in-Ok.ensures, well)
    ]

-- all did
pub returns-clause-found : goal.returns-clause-found
returns-clause-found g c seed from below = c.loop-seed.invariant seed from (omega (arith, below, c.loop-seed-test.false))
