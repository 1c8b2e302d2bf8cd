-- Traces in order are one right trace.
use Rattle.std.proofs.Common.{◌≡◌, ◌<◌, ◌^◌, ◌++◌, Option, length, refl, subst, ◌∙◌, arith}
use Rattle.gmp_seq.proofs.Counts.{run_total}
use Rattle.gmp_seq.proofs.Runs.{run_join}
use Rattle.gmp_seq.specs.declared.call.Limits.{Limits}
use Rattle.gmp_seq.specs.declared.call.Outcome.{Outcome}
use Rattle.gmp_seq.specs.Run.{Run}
use Rattle.gmp_seq.specs.State.{State}
use Rattle.gmp_trace.specs.Text.{Content}
use Rattle.gmp_check.proofs.Checking.{starts_consistent}
use Rattle.gmp_check.proofs.Consistency.{consistent_few}
use Rattle.gmp_check.proofs.Keeping.{run_keeps}
use Rattle.gmp_check.proofs.Texts.{join_has_text, joined_right}
use Rattle.gmp_check.specs.Checked.{IsRight, start_of}
use Rattle.gmp_check.specs.Parts.{IsJoined, Meets}
use Rattle.gmp_parts.specs.Parts.{IsRightTrace}
use Rattle.gmp_parts.specs.Parts.{AreInOrder, Parts, entries_of, whole}
use Rattle.gmp_parts.specs.Parts.Parts.{NoPart, Then}

joined_run : (x y : Content) (t : State) → Meets x y → Run y.limits (start_of y) y.entries t → Run x.limits (start_of x) (x.entries ++ y.entries) t
joined_run x y t meets run =
    run_join x.limits (start_of x) (start_of y) t x.entries y.entries meets.led (subst (λ (l : Limits). Run l (start_of y) y.entries t) meets.limits run)

-- what goes on where the last part stops goes on where all of them stop
meets_whole : (parts : Parts) (x y : Content) → AreInOrder (Then parts x) → Meets x y → Meets (whole parts x) y
meets_whole NoPart x y in_order meets = record { limits = meets.limits; bodies = meets.bodies; led = meets.led }
meets_whole (Then parts z) x y in_order meets =
    let before = meets_whole parts z x in_order.0 in_order.2 in
    record {
      limits = meets.limits ∙ before.limits;
      bodies = meets.bodies ∙ before.bodies;
      led = joined_run (whole parts z) x (start_of y) before meets.led;
    }

pub one_run : (parts : Parts) (x : Content) → AreInOrder (Then parts x) → IsRightTrace (whole parts x)
one_run NoPart x in_order = in_order.1
one_run (Then parts y) x in_order =
    let before : IsRightTrace (whole parts y) = one_run parts y in_order.0 in
    let joined : IsJoined (whole parts y) x (whole (Then parts y) x) = record { meets = meets_whole parts y x in_order.0 in_order.2; whole = refl } in
    let right = in_order.1 in
    record {
      has_text = join_has_text (whole parts y) x (whole (Then parts y) x) right.outcome before.has_text right.has_text right.right joined;
      outcome = right.outcome;
      right = joined_right (whole parts y) x (whole (Then parts y) x) right.outcome before.right.range right.right joined;
    }

-- a right trace has few entries
right_few : (x : Content) (o : Option Outcome) → IsRight x o → length x.entries < 2 ^ 63
right_few x o right = by_end right.run.ends where
  by_end : (s : State) × Run x.limits (start_of x) x.entries s × (s.outcome ≡ o) → length x.entries < 2 ^ 63
  by_end (s, run, told) =
      let consistent = run_keeps x.limits (start_of x) s x.entries (starts_consistent x.limits x.bodies x.begins right.range) run in
      omega (arith, run_total x.limits (start_of x) s x.entries run, consistent_few x.limits s s.counts consistent refl)

-- so parts in order have few
pub parts_few : (parts : Parts) → AreInOrder parts → length (entries_of parts) < 2 ^ 63
parts_few NoPart in_order = omega arith
parts_few (Then parts x) in_order = let right = one_run parts x in_order in right_few (whole parts x) right.outcome right.right
