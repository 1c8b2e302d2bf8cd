use Rattle.std.proofs.Common.{◌<◌, List, length, length-set, set, refl, sym, ◌∙◌, subst, arith}
use Rattle.std.proofs.lemmas.Grind.{common_steps}
use Rattle.std.proofs.lemmas.List.Sums.{count_by-le-length}
use Rattle.std.proofs.lemmas.Option.{slice_get_read}
use Rattle.gmp_seq.specs.declared.status.Goroutine.{Goroutine}
use Rattle.gmp_table.specs.Contents.{has_deadline}
use Rattle.gmp_table.proofs.Startable.{below_set}
use Rattle.gmp_table.proofs.Timed.{new_differs, due_set, timed_set}
use Rattle.gmp_table.proofs.rows.Rows.set.Goals as goal

pub add-requires-clause-new : goal.add-requires-clause-new
add-requires-clause-new c =
    let rows = c.self.inside.list.items in
    let within = subst (λ (l : List Goroutine). c.args.g.0 < length l) (sym c.self.view_is) c.requires in
    let at = slice_get_read rows (length rows) c.args.g.0 c.index.result.now refl within c.index.ensures in
    rw c.of-2.ensures (new_differs rows c.args.g c.index.result.now c.args.row at _ _ c.self.invariant.each (rw c.of.ensures at c.withdraw.ensures.each))

pub add-requires-clause-room : goal.add-requires-clause-room
add-requires-clause-room c =
    let rows = c.self.inside.list.items in
    let within = subst (λ (l : List Goroutine). c.args.g.0 < length l) (sym c.self.view_is) c.requires in
    let at = slice_get_read rows (length rows) c.args.g.0 c.index.result.now refl within c.index.ensures in
    let left = rw c.of.ensures at c.withdraw.ensures.each in
    let size = rw c.of.ensures at c.withdraw.ensures.size in
    let timed = timed_set rows c.args.g c.index.result.now c.args.row at _ _ c.self.invariant.each left size c.self.invariant.counted.timed_is in
    let most = count_by-le-length (λ (z : Goroutine). has_deadline z.status) (set rows c.args.g.0 c.args.row) in
    let same = length-set rows c.args.g.0 c.args.row in
    rw c.of-2.ensures (omega (arith, timed, most, same, c.self.invariant.counted.size, c.self.invariant.room, c.withdraw.ensures.room))

pub invariant_of-self : goal.invariant_of-self
invariant_of-self c =
    let rows = c.self.inside.list.items in
    let within = subst (λ (l : List Goroutine). c.args.g.0 < length l) (sym c.self.view_is) c.requires in
    let at = slice_get_read rows (length rows) c.args.g.0 c.index.result.now refl within c.index.ensures in
    let left = rw c.of.ensures at c.withdraw.ensures.each in
    let size = rw c.of.ensures at c.withdraw.ensures.size in
    let put = rw c.of-2.ensures at c.add.ensures.each in
    let timed = timed_set rows c.args.g c.index.result.now c.args.row at _ _ c.self.invariant.each left size c.self.invariant.counted.timed_is in
    record {
      counted = record {
        size = rw length-set c.self.invariant.counted.size;
        going_is = grind (arith, common_steps);
        calling_is = grind (arith, common_steps);
        timed_is = (rw c.of-2.ensures at c.add.ensures.size) ∙ timed;
      };
      each = due_set rows c.args.g c.index.result.now c.args.row at _ _ c.self.invariant.each left _ put;
      room = omega (arith, c.self.invariant.room, c.withdraw.ensures.room, c.add.ensures.room);
      few = c.self.invariant.few;
      startable = below_set rows c.args.g.0 c.args.row _ _ within c.self.invariant.startable c.lowered-self-inside.ensures.below c.lowered-self-inside.ensures.at;
    }
