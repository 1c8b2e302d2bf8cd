-- The entries of a legal run are numbered.
use Rattle.std.proofs.Common.{◌≡◌, ℕ, zero, suc, ◌<◌, ◌==◌, true, Some, List, [], ◌∷◌, ◌++◌, length, sum, refl, sym, subst, ◌∙◌, IsTrue, All, arith}
use Rattle.std.proofs.lemmas.List.{length-map, length-replicate}
use Rattle.std.proofs.lemmas.List.Sums.{length-filter}
use Rattle.std.specs.List.{AllByRecursion, slice_get}
use Rattle.gmp_base.specs.declared.number.MNo.{MNo}
use Rattle.gmp_seq.proofs.Counts.{index_from_get, replicate_at, run_counted}
use Rattle.gmp_seq.proofs.Runs.{run_join}
use Rattle.gmp_seq.specs.declared.call.Entry.{Entry}
use Rattle.gmp_seq.specs.declared.call.Limits.{Limits}
use Rattle.gmp_seq.specs.Fits.{AreLimits, Fits}
use Rattle.gmp_seq.specs.Run.{Run, IsLegal, made}
use Rattle.gmp_seq.specs.State.{State, opening}
use Rattle.gmp_trace.proofs.Answered.{effect_answers}
use Rattle.gmp_trace.proofs.StartBack.{sizes_back}
use Rattle.gmp_trace.specs.Pieces.{is_whole}
use Rattle.gmp_trace.specs.HasText.{HasText, AreNumbered, IsBeginning, Origin, answers, origin, turns}
use Rattle.gmp_trace.specs.StartWhole.{IsStart}
use Rattle.gmp_trace.specs.Text.Begins.{AtOpening, AtState}
use Rattle.gmp_trace.specs.Text.{Begins, Content}

-- what is got stands at a place
is_place : {A : Type 0} (xs : List A) (i : ℕ) (x : A) → slice_get xs i ≡ Some x → i < length xs
is_place [] i x is = absurd cc
is_place (y ∷ ys) zero x is = omega arith
is_place (y ∷ ys) (suc i) x is = let below = is_place ys i x is in omega arith

-- a machine's calls are as many as its entries
length-made : (es : List Entry) (m : MNo) → length (made es m) ≡ turns m es
length-made es m = length-map _ _ ∙ length-filter (λ (e : Entry). e.m.0 == m.0) es

run_answered : (limits : Limits) (old new : State) (es : List Entry) → Run limits old es new → AllByRecursion (λ (e : Entry). IsTrue (answers e.call e.reply)) es
run_answered limits old new [] run = tt
run_answered limits old new (e ∷ es) (mid, (number, (ongoing, effect, counts, outcome)), run) =
    (effect_answers limits e.m e.call e.reply old mid effect, run_answered limits mid new es run)

-- where the entries of a run begin
record BeginsAt (start : State) (from : Origin) : Type 0 where
  machines : from.machines ≡ length start.counts
  made : (m : MNo) (k : ℕ) → slice_get start.counts m.0 ≡ Some k → k ≡ from.made m

run_numbered : (limits : Limits) (start : State) (from : Origin) → BeginsAt start from → (before es : List Entry) (old new : State)
    → Run limits start before old → Run limits old es new → AreNumbered from before es
run_numbered limits start from at before [] old new led run = tt
run_numbered limits start from at before (e ∷ es) old new led (mid, step, run) =
    let counted = run_counted limits start old before e.m e.k led step.0 in
    let there : e.m.0 < length start.counts = is_place start.counts e.m.0 counted.0 counted.1 in
    let farther = run_join limits start old mid before (e ∷ []) led (mid, step, refl) in (
      omega (arith, there, at.machines),
      counted.2 ∙ omega (arith, at.made e.m counted.0 counted.1, length-made before e.m),
      run_numbered limits start from at (before ++ e ∷ []) es mid new farther run,
    )

from_opening : (limits : Limits) (bodies : ℕ) (capacities : List ℕ) → BeginsAt (opening limits bodies capacities) (origin limits.machines (AtOpening capacities))
from_opening limits bodies capacities = record {
  machines = sym (length-replicate limits.machines 0);
  made = λ m k at. replicate_at limits.machines 0 m.0 k at;
}

from_state : (limits : Limits) (s : State) → length s.counts ≡ limits.machines → BeginsAt s (origin limits.machines (AtState s))
from_state limits s size = record { machines = sym size; made = λ m k at. sym (index_from_get s.counts m.0 k at) }

pub legal_text : (x : Content) (capacities : List ℕ) (s : State) → x.begins ≡ AtOpening capacities → AreLimits x.limits x.bodies capacities
    → is_whole x.limits ≡ true → IsLegal x.limits x.bodies capacities x.entries s → All Fits x.entries → HasText x
legal_text x capacities s begun are whole legal fits =
    let start = opening x.limits x.bodies capacities in
    let numbered = run_numbered x.limits start (origin x.limits.machines (AtOpening capacities)) (from_opening x.limits x.bodies capacities) [] x.entries start s refl legal in
    record {
      beginning = subst (λ (b : Begins). IsBeginning x.limits x.bodies b) (sym begun) (are, whole);
      fits = fits;
      numbered = subst (λ (b : Begins). AreNumbered (origin x.limits.machines b) [] x.entries) (sym begun) numbered;
      answered = run_answered x.limits start s x.entries legal;
    }

pub run_text : (x : Content) (start s : State) → x.begins ≡ AtState start → AreLimits x.limits x.bodies [] → IsStart x.limits x.bodies start
    → Run x.limits start x.entries s → All Fits x.entries → HasText x
run_text x start s begun are is run fits =
    let size = (sizes_back x.limits x.bodies (sum start.counts) start is.lines).counts in
    let numbered = run_numbered x.limits start (origin x.limits.machines (AtState start)) (from_state x.limits start size) [] x.entries start s refl run in
    record {
      beginning = subst (λ (b : Begins). IsBeginning x.limits x.bodies b) (sym begun) (are, is);
      fits = fits;
      numbered = subst (λ (b : Begins). AreNumbered (origin x.limits.machines b) [] x.entries) (sym begun) numbered;
      answered = run_answered x.limits start s x.entries run;
    }
