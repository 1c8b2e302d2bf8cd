-- Who is at each machine, where rows change.
use Rattle.std.proofs.Common.{◌≡◌, ◌↔◌, ◌<◌, length, inl, inr, ◌⊎◌, ◌||◌, ℕ, zero, suc, eqb, Bool, true, false, Option, None, Some, IfNone, IfSome, is_some, List, [], ◌∷◌, map, set, refl, sym, ap, subst, ◌∙◌}
use Rattle.std.proofs.lemmas.Bool.{eqb-true, eq-eqb, false≢true}
use Rattle.std.proofs.lemmas.Map.Keys.{any_passes_from_place}
use Rattle.circular_buffer.proofs.Places.{slice_get-set_same, slice_get-set_other}
use Rattle.std.specs.List.{slice_get, list_any}
use Rattle.std.specs.Option.{option_map}
use Rattle.gmp_base.specs.declared.ask.Woke.{Woke}
use Rattle.gmp_base.specs.declared.number.GNo.{GNo}
use Rattle.gmp_base.specs.declared.number.MNo.{MNo}
use Rattle.gmp_seq.proofs.Epochs.{at_set}
use Rattle.gmp_seq.specs.declared.status.Goroutine.{Goroutine}
use Rattle.gmp_seq.specs.declared.status.Status.{Status}
use Rattle.gmp_seq.specs.declared.status.Status.TheVariants as status
use Rattle.gmp_seq.specs.Table.{Table, IsHeld, IsRunning, all_woken, is_running_on, some_status, status_at, woken_with}
use Rattle.gmp_check.specs.Last.{AreLast, IsAlone, IsAt}

abbrev status_of : Option Goroutine → Option Status
status_of o = option_map (λ (x : Goroutine). x.status) o

abbrev machine : ℕ → MNo
machine n = record { 0 = n }

abbrev goroutine : ℕ → GNo
goroutine n = record { 0 = n }

-- a goroutine is there or not
pub is_at : (m : MNo) (s : Status) → IsAt m s ⊎ (IsAt m s → ⊥)
is_at m (status.Running n) = same_or (eqb n.0 m.0) refl where
  same_or : (b : Bool) → eqb n.0 m.0 ≡ b → (n ≡ m) ⊎ (n ≡ m → ⊥)
  same_or true e = inl (ap machine (eqb-true n.0 m.0 e))
  same_or false e = inr (λ same. false≢true (sym e ∙ eq-eqb n.0 m.0 (ap (λ (k : MNo). k.0) same)))
is_at m (status.Calling n) = same_or (eqb n.0 m.0) refl where
  same_or : (b : Bool) → eqb n.0 m.0 ≡ b → (n ≡ m) ⊎ (n ≡ m → ⊥)
  same_or true e = inl (ap machine (eqb-true n.0 m.0 e))
  same_or false e = inr (λ same. false≢true (sym e ∙ eq-eqb n.0 m.0 (ap (λ (k : MNo). k.0) same)))
is_at m _ = inr (λ is. is)

-- one that is held has the status of one that is there, and the other way round
pub held_at : (t : Table) (g : GNo) (m : MNo) → IsHeld t g m → (s : Status) × (status_at t g ≡ Some s) × IsAt m s
held_at t g m (inl runs) = (status.Running m, runs, refl)
held_at t g m (inr calls) = (status.Calling m, calls, refl)

pub at_held : (t : Table) (g : GNo) (m : MNo) (s : Status) → status_at t g ≡ Some s → IsAt m s → IsHeld t g m
at_held t g m (status.Running n) at is = inl (subst (λ k. status_at t g ≡ Some (status.Running k)) is at)
at_held t g m (status.Calling n) at is = inr (subst (λ k. status_at t g ≡ Some (status.Calling k)) is at)
at_held t g m _ at is = absurd is

-- one comes
module _ (last : List GNo) (g : GNo) (s : Status) (k : ℕ) (m : MNo) (o : Option MNo) (tells : (n : MNo) → IsAt n s ↔ (o ≡ Some n)) (is : o ≡ Some m) (same : k ≡ m.0) where
  pub come_here : k < length last → (n : MNo) → IsAt n s → slice_get (set last k g) n.0 ≡ Some g
  come_here within n at =
      let e : Some m ≡ Some n = sym is ∙ (tells n).0 at in
      let here : m ≡ n = cc in
      subst (λ i. slice_get (set last k g) i ≡ Some g) (same ∙ ap (λ (x : MNo). x.0) here) (slice_get-set_same last k g within)

  pub come_there : (n : MNo) → (IsAt n s → ⊥) → slice_get (set last k g) n.0 ≡ slice_get last n.0
  come_there n not =
      slice_get-set_other last k n.0 g (λ e. not ((tells n).1 (is ∙ ap Some (ap machine (sym same ∙ sym e)))))

-- one row is written
pub set_last : (last new : List GNo) (t : Table) (g : GNo) (row : Goroutine) → AreLast last t → IsAlone t g row.status
    → ((m : MNo) → IsAt m row.status → slice_get new m.0 ≡ Some g)
    → ((m : MNo) → (IsAt m row.status → ⊥) → slice_get new m.0 ≡ slice_get last m.0)
    → AreLast new (record t { goroutines = set t.goroutines g.0 row })
set_last last new t g row are alone here there m h held =
    let (s, at, is) = held_at (record t { goroutines = set t.goroutines g.0 row }) h m held in
    at_set (λ o. status_of o ≡ Some s → slice_get new m.0 ≡ Some h) t.goroutines g.0 h.0 row
    (λ same e.
    let written : row.status ≡ s = cc in
    subst (λ k. slice_get new m.0 ≡ Some k) (ap goroutine same) (here m (subst (IsAt m) (sym written) is)))
    (λ e.
    let before = at_held t h m s e is in
    by_place (is_at m row.status) before)
    at where
      by_place : (IsAt m row.status ⊎ (IsAt m row.status → ⊥)) → IsHeld t h m → slice_get new m.0 ≡ Some h
      by_place (inl comes) before = subst (λ k. slice_get new m.0 ≡ Some k) (sym (alone m h comes before)) (here m comes)
      by_place (inr stays) before = there m stays ∙ are m h before

-- nobody comes to a machine where some are woken
woken_back : (answer : Status → Option Woke) (gs : List Goroutine) (i : ℕ) (m : MNo) (s : Status) → IsAt m s
    → status_of (slice_get (map (λ (x : Goroutine). woken_with (answer x.status) x) gs) i) ≡ Some s → status_of (slice_get gs i) ≡ Some s
woken_back answer [] i m s is e = absurd cc
woken_back answer (x ∷ gs) zero m s is e = by_answer (answer x.status) e where
  by_answer : (o : Option Woke) → Some (woken_with o x).status ≡ Some s → Some x.status ≡ Some s
  by_answer None a = a
  by_answer (Some woke) a = let ready : s ≡ (woken_with (Some woke) x).status = cc in absurd (subst (IsAt m) ready is)
woken_back answer (x ∷ gs) (suc i) m s is e = woken_back answer gs i m s is e

pub woken_last : (last : List GNo) (t : Table) (answer : Status → Option Woke) → AreLast last t → AreLast last (all_woken answer t)
woken_last last t answer are m h held =
    let (s, at, is) = held_at (all_woken answer t) h m held in
    are m h (at_held t h m s (woken_back answer t.goroutines h.0 m s is at) is)

-- who isn't the last there isn't there
pub none_else : (last : List GNo) (t : Table) (m : MNo) (g : GNo) → AreLast last t → slice_get last m.0 ≡ Some g → (IsHeld t g m → ⊥) → (h : GNo) → IsHeld t h m → ⊥
none_else last t m g are at not h held =
    let e : Some g ≡ Some h = sym at ∙ are m h held in
    let same : g ≡ h = cc in not (subst (λ k. IsHeld t k m) (sym same) held)

-- whether somebody runs, by who runs
any_none : {A : Type 0} (p : A → Bool) (xs : List A) → ((i : ℕ) (x : A) → slice_get xs i ≡ Some x → p x ≡ true → ⊥) → list_any p xs ≡ false
any_none p [] none = refl
any_none p (x ∷ xs) none = by_test (p x) refl (any_none p xs (λ i. none (suc i))) where
  by_test : (b : Bool) → p x ≡ b → list_any p xs ≡ false → b || list_any p xs ≡ false
  by_test true e rest = absurd (none 0 x refl e)
  by_test false e rest = rest

runs_is : (m : MNo) (s : Status) → is_running_on m s ≡ true → s ≡ status.Running m
runs_is m (status.Running n) e = ap status.Running (ap machine (sym (eqb-true m.0 n.0 e)))
runs_is m _ e = absurd (false≢true e)

pub runs_some_is : (t : Table) (m : MNo) (o : Option GNo) → IfSome o (λ g. IsRunning t g m) → IfNone o ((g : GNo) → IsRunning t g m → ⊥) → is_some o ≡ some_status (is_running_on m) t
runs_some_is t m (Some g) runs _ = by_row (slice_get t.goroutines g.0) refl runs where
  by_row : (o : Option Goroutine) → slice_get t.goroutines g.0 ≡ o → status_of o ≡ Some (status.Running m) → true ≡ some_status (is_running_on m) t
  by_row None at e = absurd cc
  by_row (Some x) at e =
      let is : x.status ≡ status.Running m = cc in
      sym (any_passes_from_place (λ (x : Goroutine). is_running_on m x.status) t.goroutines g.0 x at (ap (is_running_on m) is ∙ eq-eqb m.0 m.0 refl))
runs_some_is t m None _ none =
    sym (any_none (λ (x : Goroutine). is_running_on m x.status) t.goroutines
    (λ i x at runs. none (goroutine i) (ap status_of at ∙ ap Some (runs_is m x.status runs))))
