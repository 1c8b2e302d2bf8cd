use Rattle.std.proofs.Common.{◌≤◌, List, length, Contains, sym, ap, subst}
use Rattle.gmp_table.specs.declared.deadlines.Deadline.{Deadline}
use Rattle.gmp_table.proofs.Due.{IsPlace, ordered_inserted, contains_inserted}
use Rattle.gmp_table.proofs.deadlines.Deadlines.add.Goals as goal

pub invariant_of-self : goal.invariant_of-self
invariant_of-self c =
    let list = c.self.inside.list.items in
    let now = sym (ap (λ v. v.list) c.self.view_is) in
    let fits = subst (λ (l : List Deadline). c.place-i.result ≤ length l) now c.place-i.ensures.within in
    let place = subst (λ (l : List Deadline). IsPlace c.in-Some.x l c.place-i.result) now c.place-i.ensures.later in
    let new = subst (λ (l : List Deadline). Contains l c.in-Some.x → ⊥) now (rw c.in-Some.is at c.requires.new) in
    rw (rw c.unwrap.ensures at c.insert.ensures.items) (ordered_inserted c.in-Some.x list c.place-i.result fits c.self.invariant place new)

pub returns-clause-each : goal.returns-clause-each
returns-clause-each c =
    let list = c.self.inside.list.items in
    let now = sym (ap (λ v. v.list) c.self.view_is) in
    let fits = subst (λ (l : List Deadline). c.place-i.result ≤ length l) now c.place-i.ensures.within in
    λ d. rw (now, c.in-Some.is, (rw c.unwrap.ensures at c.insert.ensures.items)) (contains_inserted c.in-Some.x list c.place-i.result fits d)
