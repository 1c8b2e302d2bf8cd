use Rattle.std.proofs.Common.{◌≡◌, ◌<◌, ◌^◌, ◌++◌, ℕ, List, length, take, drop, map, sym, ap, subst, ◌∙◌, arith}
use Rattle.std.proofs.lemmas.Grind.{common_steps}
use Rattle.std.proofs.lemmas.List.{length-map}
use Rattle.std.specs.List.{slice_get}
use Rattle.gmp_seq.specs.declared.status.Goroutine.{Goroutine}
use Rattle.gmp_seq.specs.Table.{Table, woken_with}
use Rattle.gmp_check.proofs.Last.{woken_last}
use Rattle.gmp_check.proofs.Young.{young_rows}
use Rattle.gmp_check.specs.Causes.{answer_for}
use Rattle.gmp_check.specs.Last.{AreLast}
use Rattle.gmp_check.proofs.table.Table.wake.Goals as goal

-- rows that are as many as before take their place
whole : (items rows : List Goroutine) (n : ℕ) → length rows ≡ length items → n ≡ length items → take n (rows ++ drop (length rows) items) ≡ rows
whole items rows n same is = grind (arith, common_steps)

pub wake_all-requires : goal.wake_all-requires
wake_all-requires c k x is =
    young_rows c.args.self.now c.requires.young k x
    (ap (λ (t : Table). slice_get t.goroutines k) (sym c.self.view_is) ∙ ap (λ rows. slice_get rows k) (sym c.deref_mut.ensures.value) ∙ is)

pub invariant_of-self : goal.invariant_of-self
invariant_of-self c =
    let i = c.self.inside in
    let items : List Goroutine = i.goroutines.items in
    let t : Table = record { goroutines = items; arrivals = i.arrivals; clock = i.clock } in
    let woken : List Goroutine = map (λ (x : Goroutine). woken_with (answer_for c.args.cause x.status) x) items in
    let are : c.wake_all.new.rows ≡ woken = c.wake_all.ensures ∙ ap (map (λ (x : Goroutine). woken_with (answer_for c.args.cause x.status) x)) c.deref_mut.ensures.value in
    let long : length woken ≡ length items = length-map items (λ (x : Goroutine). woken_with (answer_for c.args.cause x.status) x) in
    let rows = whole items c.wake_all.new.rows i.goroutines.len (ap length are ∙ long) (sym c.deref_mut.ensures.len ∙ ap length c.deref_mut.ensures.value) in
    subst (λ (l : List Goroutine). (length l < 2 ^ 16) × AreLast i.last (record { goroutines = l; arrivals = i.arrivals; clock = i.clock })) (sym (rows ∙ are))
    (omega (arith, long, c.self.invariant.0), woken_last i.last t (answer_for c.args.cause) c.self.invariant.1)
