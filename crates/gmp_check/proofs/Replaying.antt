-- A replay, entry by entry.
use Rattle.std.proofs.Common.{◌≡◌, ℕ, zero, suc, Result, Ok, Err, ◌+◌, Bool, true, false, Some, List, [], ◌∷◌, ◌++◌, take, refl, sym, ap, subst, add-one}
use Rattle.std.specs.List.{slice_get}
use Rattle.std.specs.Result.{IfErr, IsErrAnd}
use Rattle.gmp_seq.proofs.Runs.{run_join}
use Rattle.gmp_seq.specs.declared.call.Entry.{Entry}
use Rattle.gmp_seq.specs.declared.call.Limits.{Limits}
use Rattle.gmp_seq.specs.Run.{IsStep, Run}
use Rattle.gmp_seq.specs.State.{State}
use Rattle.gmp_check.proofs.Keeping.{step_keeps}
use Rattle.gmp_check.specs.declared.error.OpenError.{OpenError}
use Rattle.gmp_check.specs.declared.error.OpenError.TheVariants as open_error
use Rattle.gmp_check.specs.declared.error.ReplayError.{ReplayError}
use Rattle.gmp_check.specs.Decides.{Decides}
use Rattle.gmp_check.specs.Consistent.{IsConsistentUnder}
use Rattle.gmp_check.specs.Replayed.{IsNoStep, IsOpenError, IsReplayError, as_replay_error}

-- a run and a step
pub run_next : (limits : Limits) (start old new : State) (h : List Entry) (e : Entry) → Run limits start h old → IsStep limits e old new → Run limits start (h ++ e ∷ []) new
run_next limits start old new h e run step = run_join limits start old new h (e ∷ []) run (new, step, refl)

pub consistent_next : (limits : Limits) (e : Entry) (old new : State) (b : Bool) → IsConsistentUnder limits old → Decides (IsStep limits e) old new b → IsConsistentUnder limits new
consistent_next limits e old new true is step = step_keeps limits e old new is step
consistent_next limits e old new false is same = subst (IsConsistentUnder limits) (sym same.0) is

-- Errors

pub with_error : {T E : Type 0} (r : Result T E) (P Q : E → Type 0) → ((e : E) → P e → Q e) → IsErrAnd r P → IfErr r Q
with_error (Ok x) P Q on is = absurd is
with_error (Err e) P Q on is = on e is

pub opened_error : (limits : Limits) (bodies : ℕ) (capacities : List ℕ) (h : List Entry) (why : OpenError) (e : ReplayError) → e ≡ as_replay_error why
    → IsOpenError limits bodies capacities why → IsReplayError limits bodies capacities h e
opened_error limits bodies capacities h open_error.BadLimits e is beyond = subst (IsReplayError limits bodies capacities h) (sym is) beyond
opened_error limits bodies capacities h open_error.OutOfMemory e is within = subst (IsReplayError limits bodies capacities h) (sym is) within

-- the entry at the index is no step
pub no_step : (limits : Limits) (start old new : State) (h : List Entry) (i : ℕ) (e : Entry) → Run limits start (take i h) old → slice_get h i ≡ Some e
    → Decides (IsStep limits e) old new false → IsNoStep limits start h i
no_step limits start old new h i e run at is = (old, run, e, at, is.1)

-- one entry more
pub one_entry_more : (h : List Entry) (i : ℕ) (e : Entry) → slice_get h i ≡ Some e → take (i + 1) h ≡ take i h ++ e ∷ []
one_entry_more h i e at = rw (add-one i) (longer h i at) where
  longer : (h : List Entry) (i : ℕ) → slice_get h i ≡ Some e → take (suc i) h ≡ take i h ++ e ∷ []
  longer [] i at = absurd cc
  longer (x ∷ h) zero at = let same : x ≡ e = cc in ap (λ y. y ∷ []) same
  longer (x ∷ h) (suc i) at = ap (λ l. x ∷ l) (longer h i at)
