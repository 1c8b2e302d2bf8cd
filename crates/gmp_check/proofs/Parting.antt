-- A run in two parts.
use Rattle.std.proofs.Common.{◌≡◌, ◌≢◌, ◌⊎◌, inl, inr, ℕ, zero, suc, ◌+◌, ◌<◌, ◌≤◌, Option, None, Some, List, [], ◌∷◌, ◌++◌, drop, length, take, refl, sym, ap, subst, ◌∙◌, arith, add-one}
use Rattle.std.proofs.lemmas.Bool.{cases_lt}
use Rattle.std.proofs.lemmas.List.{append_assoc, take_all}
use Rattle.std.specs.List.{slice_get}
use Rattle.circular_buffer.proofs.Places.{slice_get-some}
use Rattle.gmp_seq.proofs.Runs.{run_join}
use Rattle.gmp_seq.specs.declared.call.Entry.{Entry}
use Rattle.gmp_seq.specs.declared.call.Limits.{Limits}
use Rattle.gmp_seq.specs.declared.call.Outcome.{Outcome}
use Rattle.gmp_seq.specs.declared.call.Outcome.TheVariants as outcome
use Rattle.gmp_seq.specs.Run.{Run}
use Rattle.gmp_seq.specs.State.{State}
use Rattle.gmp_trace.specs.declared.trace.End.{End}
use Rattle.gmp_trace.specs.declared.trace.End.TheVariants as end_
use Rattle.gmp_trace.specs.Text.{end_of}
use Rattle.gmp_check.proofs.Beginning.{begins_on}
use Rattle.gmp_check.proofs.Checking.{split}
use Rattle.gmp_check.proofs.Keeping.{run_fixed}
use Rattle.gmp_check.specs.Checked.{IsRightPart, Part}
use Rattle.gmp_check.specs.Consistent.{MayBegin}
use Rattle.gmp_check.specs.Parts.{AreJoined, IsPastEnd, IsSecond}

-- a run goes through the state before entry n, and on from there
run_at : (limits : Limits) (a c : State) (h : List Entry) (n : ℕ) → Run limits a h c → (mid : State) × Run limits a (take n h) mid × Run limits mid (drop n h) c
run_at limits a c h zero run = (a, refl, run)
run_at limits a c [] (suc n) run = (a, refl, run)
run_at limits a c (e ∷ h) (suc n) (next, step, rest) = let later = run_at limits next c h n rest in (later.0, (next, step, later.1), later.2)

running_is : (end : End) (o : Option Outcome) → end ≡ end_of o → (end ≢ end_.Running → ⊥) → o ≡ None
running_is end None told not = refl
running_is end (Some outcome.MainEnded) told not = absurd (not (λ e. cc))
running_is end (Some outcome.AllAsleep) told not = absurd (not (λ e. cc))
running_is end (Some outcome.BookFull) told not = absurd (not (λ e. cc))

module _ (x : Part) (n : ℕ) (begins : MayBegin x.limits x.start) (within : IsPastEnd x.entries x.end n → ⊥) where
  pub few_first : n ≤ length x.entries
  few_first = by_place (cases_lt (length x.entries) n) where
    by_place : (length x.entries < n) ⊎ (n ≤ length x.entries) → n ≤ length x.entries
    by_place (inl past) = absurd (within (inl past))
    by_place (inr l) = l

  -- the run lasts there
  pub lasts : (o : Option Outcome) → IsRightPart x o → (s : State) → Run x.limits x.start (take n x.entries) s → s.outcome ≡ None
  lasts o right s led = by_end right.ends (cases_lt n (length x.entries)) where
    by_end : (t : State) × Run x.limits x.start x.entries t × (t.outcome ≡ o) → (n < length x.entries) ⊎ (length x.entries ≤ n) → s.outcome ≡ None
    by_end (t, whole, told) (inl less) =
        let row = slice_get-some x.entries n less in
        let parts = split x.limits x.start t x.entries n row.0 whole row.1 in
        let same : parts.0 ≡ s = run_fixed x.limits x.start parts.0 s (take n x.entries) begins.consistent parts.1 led in
        ap (λ (y : State). y.outcome) (sym same) ∙ parts.2.1.1.0
    by_end (t, whole, told) (inr all) =
        let full : Run x.limits x.start x.entries s = subst (λ (h : List Entry). Run x.limits x.start h s) (take_all n x.entries all) led in
        let same : t ≡ s = run_fixed x.limits x.start t s x.entries begins.consistent whole full in
        let is_all : length x.entries ≡ n = omega (arith, all, few_first) in
        let none : o ≡ None = running_is x.end o right.told (λ other. within (inr (is_all, other))) in
        ap (λ (y : State). y.outcome) (sym same) ∙ told ∙ none

  pub is_second : (start : State) (h : List Entry) → Run x.limits x.start (take n x.entries) start → h ≡ drop n x.entries → IsSecond x n start h
  is_second start h led rest =
      record {
        within = within;
        led = led;
        rest = rest;
        begins = begins_on x.limits x.start start (take n x.entries) begins led;
        right = λ o whole. record { ends = goes_on o whole.ends; told = whole.told };
      }
    where
      goes_on : (o : Option Outcome) → (t : State) × Run x.limits x.start x.entries t × (t.outcome ≡ o) → (t : State) × Run x.limits start h t × (t.outcome ≡ o)
      goes_on o (t, whole, told) =
          let parts = run_at x.limits x.start t x.entries n whole in
          let same : parts.0 ≡ start = run_fixed x.limits x.start parts.0 start (take n x.entries) begins.consistent parts.1 led in
          let later : Run x.limits start (drop n x.entries) t = subst (λ (s : State). Run x.limits s (drop n x.entries) t) same parts.2 in
          (t, subst (λ (l : List Entry). Run x.limits start l t) (sym rest) later, told)

pub are_joined : (limits : Limits) (a b : State) (h k all : List Entry) → Run limits a h b → all ≡ h ++ k → AreJoined limits a h b k all
are_joined limits a b h k all led is = record { led = led; all_are = is; ends = both } where
  both : (o : Option Outcome) → (t : State) × Run limits b k t × (t.outcome ≡ o) → (t : State) × Run limits a all t × (t.outcome ≡ o)
  both o (t, run, told) = (t, subst (λ (l : List Entry). Run limits a l t) (sym is) (run_join limits a b t h k led run), told)

-- an entry more is added
pub added : (old h all : List Entry) (i : ℕ) (e : Entry) → slice_get h i ≡ Some e → old ++ drop i h ≡ all → (old ++ e ∷ []) ++ drop (i + 1) h ≡ all
added old h all i e at is =
    let rest : drop i h ≡ e ∷ drop (i + 1) h = rw (add-one i) (next h i at) in
    append_assoc old (e ∷ []) (drop (i + 1) h) ∙ ap (λ (l : List Entry). old ++ l) (sym rest) ∙ is
  where
    next : (h : List Entry) (i : ℕ) → slice_get h i ≡ Some e → drop i h ≡ e ∷ drop (suc i) h
    next [] i at = absurd cc
    next (x ∷ h) zero at = let same : x ≡ e = cc in ap (λ y. y ∷ h) same
    next (x ∷ h) (suc i) at = next h i at
