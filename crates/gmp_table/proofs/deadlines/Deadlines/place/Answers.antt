use Rattle.std.proofs.Common.{List, rules, subst, sym, ap, ◌∙◌}
use Rattle.std.proofs.lemmas.List.Sorted.{IsPartitionPoint-from_clause}
use Rattle.std.specs.List.Sorted.{IsPartitionedBy}
use Rattle.gmp_table.specs.declared.deadlines.Deadline.{Deadline}
use Rattle.gmp_table.specs.Due.{is_sooner}
use Rattle.gmp_table.proofs.Due.{IsPlace, latest_partitioned}
use Rattle.gmp_table.proofs.deadlines.Deadlines.place.Goals as goal

pub returns-clause-later : goal.returns-clause-later
returns-clause-later c =
    let list = c.deref.ensures.value in
    let now = list ∙ ap (λ v. v.list) c.self.view_is in
    let parted = subst (IsPartitionedBy (is_sooner c.args.x)) (sym list) (latest_partitioned c.args.x c.self.inside.list.items c.self.invariant) in
    let point = IsPartitionPoint-from_clause (is_sooner c.args.x) c.deref.result.now _ c.partition_point.ensures.partitioned parted (λ a r q k. search rules) in
    subst (λ (l : List Deadline). IsPlace c.args.x l c.partition_point.result) now point
