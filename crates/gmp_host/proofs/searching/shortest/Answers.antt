use Rattle.std.proofs.Common.{inl, arith}
use Rattle.gmp_host.proofs.Searches.{all_of, one_more}
use Rattle.gmp_host.proofs.searching.shortest.Goals as goal

-- with one seed more
pub loop-seed-preserved : goal.loop-seed-preserved
loop-seed-preserved g c =
    let so = c.loop-seed.invariant in
    let below = c.loop-seed-test.true in
    record {
      compared = one_more (λ seed result. g.F.Fn.post c.args.run (seed, tt) result) c.args.seeds.start c.loop-seed.seed c.in-Ok.ended c.in-Ok.ensures so.from c.loop-seed.least c.compared-least.result c.compared-least.ensures so.compared;
      from = (let from = so.from in omega (arith, from));
      within = inl (omega (arith, below));
    }

-- all ran
pub returns-clause-found : goal.returns-clause-found
returns-clause-found g c =
    let so = c.loop-seed.invariant in
    all_of (λ seed result. g.F.Fn.post c.args.run (seed, tt) result) c.args.seeds.start c.loop-seed.seed c.args.seeds.end c.loop-seed.least so.within (let over = c.loop-seed-test.false in omega (arith, over)) so.compared
