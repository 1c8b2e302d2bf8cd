-- Each step keeps a state consistent.
use Rattle.std.proofs.Common.{◌≡◌, ℕ, List, [], ◌∷◌, refl, sym, subst, ◌∙◌}
use Rattle.gmp_seq.proofs.Determined.{step_determined}
use Rattle.gmp_seq.proofs.InOrder.{legal_in_order, step_together, together_manned}
use Rattle.gmp_seq.specs.declared.call.Entry.{Entry}
use Rattle.gmp_seq.specs.declared.call.Limits.{Limits}
use Rattle.gmp_seq.specs.Fits.{AreLimits}
use Rattle.gmp_seq.specs.Run.{IsStep, Run}
use Rattle.gmp_seq.specs.State.{State, opening}
use Rattle.gmp_check.specs.Consistent.{IsConsistentUnder}

pub step_keeps : (limits : Limits) (e : Entry) (old new : State) → IsConsistentUnder limits old → IsStep limits e old new → IsConsistentUnder limits new
step_keeps limits e old new is step = record { limit = is.limit; together = step_together limits e old new is.together step }

pub opening_consistent : (limits : Limits) (bodies : ℕ) (capacities : List ℕ) → AreLimits limits bodies capacities → IsConsistentUnder limits (opening limits bodies capacities)
opening_consistent limits bodies capacities within =
    record { limit = within.entries.1; together = (legal_in_order limits bodies capacities [] (opening limits bodies capacities) within refl).together }

-- the entry fixes the state that follows
pub next_fixed : (limits : Limits) (e : Entry) (old a b : State) → IsConsistentUnder limits old → IsStep limits e old a → IsStep limits e old b → a ≡ b
next_fixed limits e old a b is one two = step_determined limits e.m e.call e.reply old a b (together_manned limits old is.together) one.1 two.1

-- and entries the one that follows them all
pub run_fixed : (limits : Limits) (old a b : State) (h : List Entry) → IsConsistentUnder limits old → Run limits old h a → Run limits old h b → a ≡ b
run_fixed limits old a b [] is one two = one ∙ sym two
run_fixed limits old a b (e ∷ h) is (x, step, rest) (y, step_too, rest_too) =
    let same : y ≡ x = next_fixed limits e old y x is step_too step in
    run_fixed limits x a b h (step_keeps limits e old x is step) rest (subst (λ (s : State). Run limits s h b) same rest_too)

pub run_keeps : (limits : Limits) (old new : State) (h : List Entry) → IsConsistentUnder limits old → Run limits old h new → IsConsistentUnder limits new
run_keeps limits old new [] is run = subst (IsConsistentUnder limits) (sym run) is
run_keeps limits old new (e ∷ h) is (mid, step, rest) = run_keeps limits mid new h (step_keeps limits e old mid is step) rest
