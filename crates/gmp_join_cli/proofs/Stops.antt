-- Where a right trace stops.
use Rattle.std.proofs.Common.{◌≡◌, ◌≢◌, ◌↔◌, inl, inr, ℕ, Bool, true, false, IsTrue, Option, None, Some, Result, Ok, Err, IfOk, List, length, take, refl, sym, ap, subst, ◌∙◌, arith}
use Rattle.std.proofs.lemmas.Bool.{false≢true}
use Rattle.std.proofs.lemmas.List.{take_all}
use Rattle.gmp_seq.specs.declared.call.Entry.{Entry}
use Rattle.gmp_seq.specs.declared.call.Outcome.{Outcome}
use Rattle.gmp_seq.specs.declared.call.Outcome.TheVariants as outcome
use Rattle.gmp_seq.specs.Run.{Run}
use Rattle.gmp_seq.specs.State.{State}
use Rattle.gmp_trace.specs.declared.trace.End.{End}
use Rattle.gmp_trace.specs.declared.trace.End.TheVariants as end_
use Rattle.gmp_trace.specs.Text.{Begins, Content, end_of}
use Rattle.gmp_trace.specs.Text.Begins.{AtOpening, AtState}
use Rattle.gmp_check.proofs.Beginning.{starts_begin}
use Rattle.gmp_check.proofs.Checking.{starts_consistent}
use Rattle.gmp_check.proofs.Keeping.{run_fixed}
use Rattle.gmp_check.proofs.Parting.{lasts}
use Rattle.gmp_check.specs.Checked.{IsRight, MayStart, part_of, start_at, start_of}
use Rattle.gmp_check.specs.Parts.{IsPastEnd, Meets}

within_all : (h : List Entry) (end : End) (n : ℕ) → n ≡ length h → end ≡ end_.Running → IsPastEnd h end n → ⊥
within_all h end n is running (inl past) = omega (arith, is, past)
within_all h end n is running (inr ended) = ended.1 running

-- the run of a trace that says so lasts behind its last entry
pub lasts_behind : (x : Content) (o : Option Outcome) (n : ℕ) → IsRight x o → x.end ≡ end_.Running → n ≡ length x.entries
    → (s : State) → Run x.limits (start_of x) (take n x.entries) s → s.outcome ≡ None
lasts_behind x o n right running all s led =
    lasts (part_of x) n (starts_begin x.limits x.bodies x.begins right.range) (within_all x.entries x.end n all running) o right.run s led

-- all entries were made
pub led_by_all : (x : Content) (n : ℕ) (s : State) → n ≡ length x.entries → Run x.limits (start_of x) (take n x.entries) s → Run x.limits (start_of x) x.entries s
led_by_all x n s all led = subst (λ (h : List Entry). Run x.limits (start_of x) h s) (take_all n x.entries (omega (arith, all))) led

-- a run that may begin so has not ended
begins_without : (limits : _) (bodies : ℕ) (b : Begins) → MayStart limits bodies b → (start_at limits bodies b).outcome ≡ None
begins_without limits bodies (AtOpening capacities) may = refl
begins_without limits bodies (AtState s) may = may.1.lasts

lasting_end : (end : End) (o : Option Outcome) → end ≡ end_of o → o ≡ None → end ≡ end_.Running
lasting_end end None told none = told
lasting_end end (Some outcome.MainEnded) told none = absurd cc
lasting_end end (Some outcome.AllAsleep) told none = absurd cc
lasting_end end (Some outcome.BookFull) told none = absurd cc

-- nothing goes on where a run has ended
pub ended_apart : (x y : Content) (o p : Option Outcome) → IsRight x o → IsRight y p → x.end ≢ end_.Running → Meets x y → ⊥
ended_apart x y o p right right_too ended meets = by_end right.run.ends where
  by_end : (s : State) × Run x.limits (start_of x) x.entries s × (s.outcome ≡ o) → ⊥
  by_end (s, run, told) =
      let same : s ≡ start_of y = run_fixed x.limits (start_of x) s (start_of y) x.entries (starts_consistent x.limits x.bodies x.begins right.range) run meets.led in
      let none : o ≡ None = sym told ∙ ap (λ (t : State). t.outcome) same ∙ begins_without y.limits y.bodies y.begins right_too.range in
      ended (lasting_end x.end o right.run.told none)

-- a trace leads to one state
pub one_stop : (x : Content) (o : Option Outcome) (s t : State) → IsRight x o → Run x.limits (start_of x) x.entries s → Run x.limits (start_of x) x.entries t → s ≡ t
one_stop x o s t right run other = run_fixed x.limits (start_of x) s t x.entries (starts_consistent x.limits x.bodies x.begins right.range) run other

-- what is no state before the first entry keeps two traces apart
pub not_same : {E : Type 0} (r : Result Bool E) (s a : State) (Q : Type 0) → IfOk r (λ b. IsTrue b ↔ (s ≡ a)) → ((s ≡ a → ⊥) → Q) → IfOk r (λ b. b ≡ false → Q)
not_same (Ok true) s a Q decides apart = λ no. absurd cc
not_same (Ok false) s a Q decides apart = λ no. apart (λ same. false≢true (decides.1 same))
not_same (Err e) s a Q decides apart = tt
