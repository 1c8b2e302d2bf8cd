use Rattle.std.proofs.Common.{◌≡◌, true, List, Contains, sym, ap, subst}
use Rattle.std.proofs.lemmas.List.Quantifiers.{all_pairs_remove}
use Rattle.gmp_table.specs.declared.deadlines.Deadline.{Deadline}
use Rattle.gmp_table.specs.Due.{is_sooner}
use Rattle.gmp_table.proofs.Due.{IsPlace, found, contains_removed}
use Rattle.gmp_table.proofs.deadlines.Deadlines.withdraw.Goals as goal

pub invariant_of-self : goal.invariant_of-self
invariant_of-self c =
    let list = c.self.inside.list.items in
    let now = sym (ap (λ v. v.list) c.self.view_is) in
    let place = subst (λ (l : List Deadline). IsPlace c.in-Some.x l c.place-i.result) now c.place-i.ensures.later in
    let there = subst (λ (l : List Deadline). Contains l c.in-Some.x) now (rw c.in-Some.is at c.requires.there) in
    rw c.remove.ensures.items (all_pairs_remove (λ (x y : Deadline). is_sooner y x ≡ true) list c.place-i.result (found c.in-Some.x list c.place-i.result c.self.invariant place there).0 c.self.invariant)

pub returns-clause-each : goal.returns-clause-each
returns-clause-each c =
    let list = c.self.inside.list.items in
    let now = sym (ap (λ v. v.list) c.self.view_is) in
    let place = subst (λ (l : List Deadline). IsPlace c.in-Some.x l c.place-i.result) now c.place-i.ensures.later in
    let there = subst (λ (l : List Deadline). Contains l c.in-Some.x) now (rw c.in-Some.is at c.requires.there) in
    let at = found c.in-Some.x list c.place-i.result c.self.invariant place there in
    λ d. rw (now, c.in-Some.is, c.remove.ensures.items) (contains_removed c.in-Some.x list c.place-i.result c.self.invariant at.0 at.1 d)
