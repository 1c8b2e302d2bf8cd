use Rattle.std.proofs.Common.{◌≡◌, rules, Some, None, arith}
use Rattle.std.proofs.lemmas.Grind.{elements}
use Rattle.std.specs.List.{slice_get}
use Rattle.gmp_check.proofs.Making.{entry_leads, on_error}
use Rattle.gmp_check.proofs.Consistency.{consistent_few}
use Rattle.gmp_check.proofs.state.State.step.Goals as goal

pub count_one-requires-clause-few : goal.count_one-requires-clause-few
count_one-requires-clause-few c = consistent_few c.args.limits c.args.self.now c.effect.new.self.counts c.requires c.effect.ensures.rest.0

pub returns-in_err-effect-clause-needed : goal.returns-in_err-effect-clause-needed
returns-in_err-effect-clause-needed c =
    let a = c.args in
    let number : slice_get a.self.now.counts a.entry.now.m.0 ≡ Some a.entry.now.k = search rules in
    let ongoing : a.self.now.outcome ≡ None = search rules in
    on_error c.from_residual.result _ (entry_leads a.limits a.entry.now a.self.now number ongoing c.in_err-effect.ensures.needed)

pub count_one-requires-clause-counted : goal.count_one-requires-clause-counted
count_one-requires-clause-counted c = grind (arith, elements)
