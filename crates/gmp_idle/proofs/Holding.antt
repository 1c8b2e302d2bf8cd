-- Which machines hold a processor: the flags, and how often a machine is among the holders.
use Rattle.std.proofs.Common.{◌≡◌, ℕ, ◌+◌, ◌<◌, ◌≤◌, ◌==◌, ◌⊎◌, Bool, true, false, not, cond, ◌||◌, Option, Some, None, List, [], ◌∷◌, length, get_or, set, refl, sym, ap, ◌∙◌, inl, inr, arith}
use Rattle.std.specs.Prelude.{count_by, slice_get, unwrap_or}
use Rattle.std.specs.List.{list_any}
use Rattle.std.proofs.lemmas.Bool.{cases_eq, cases_lt, eq-eqb, ne_eqb, false≢true}
use Rattle.std.proofs.lemmas.List.{get_or-set_same, get_or-set_other, get_or_past, length-set}
use Rattle.std.proofs.lemmas.List.Sums.{sum_by-cons, sum_by-set}
use Rattle.std.proofs.lemmas.Option.{get_or_from_slice_get, slice_get_within, unwrap_or-slice_get}
use Rattle.gmp_base.specs.declared.number.MNo.{MNo}
use Rattle.gmp_seq.specs.declared.status.Mode.{Mode}
use Rattle.gmp_seq.specs.declared.status.Mode.TheVariants.{Awake, Parked, Calling}
use Rattle.gmp_seq.specs.Machines.{is_awake_mode, is_held_by, is_parked_mode}
use Rattle.gmp_seq.proofs.Epochs.{at_set}
use Rattle.gmp_idle.specs.Kept.{HaveFlags, flag_of}

pub not_parked : (mode : Mode) → (mode ≡ Awake) ⊎ (mode ≡ Calling) → is_parked_mode mode ≡ false
not_parked mode (inl is) = ap is_parked_mode is
not_parked mode (inr is) = ap is_parked_mode is

pub not_awake : (mode : Mode) → (mode ≡ Parked) ⊎ (mode ≡ Calling) → is_awake_mode mode ≡ false
not_awake mode (inl is) = ap is_awake_mode is
not_awake mode (inr is) = ap is_awake_mode is

-- 1 where it holds
abbrev pub number_of : Bool → ℕ
number_of b = cond b 1 0

-- some element passes where the passing ones are not 0
pub list_any-count_by : {X : Type 0} (p : X → Bool) (xs : List X) → list_any p xs ≡ not (count_by p xs == 0)
list_any-count_by p [] = refl
list_any-count_by p (x ∷ xs) = by_test (p x) refl (list_any-count_by p xs)
  where
    by_test : (b : Bool) → p x ≡ b → list_any p xs ≡ not (count_by p xs == 0) → list_any p (x ∷ xs) ≡ not (count_by p (x ∷ xs) == 0)
    by_test true is rest =
        let counted : count_by p (x ∷ xs) ≡ 1 + count_by p xs = sum_by-cons (λ y. number_of (p y)) x xs ∙ ap (λ b. number_of b + count_by p xs) is in
        let some : (count_by p (x ∷ xs) == 0) ≡ false = ne_eqb (count_by p (x ∷ xs)) 0 (λ e. omega arith) in
        ap (λ (b : Bool). b || list_any p xs) is ∙ ap not (sym some)
    by_test false is rest =
        let counted : count_by p (x ∷ xs) ≡ 0 + count_by p xs = sum_by-cons (λ y. number_of (p y)) x xs ∙ ap (λ b. number_of b + count_by p xs) is in
        ap (λ (b : Bool). b || list_any p xs) is ∙ (rest ∙ ap (λ n. not (n == 0)) (omega arith))

number_of_told : (b : Bool) → not (number_of b == 0) ≡ b
number_of_told true = refl
number_of_told false = refl

-- the flag says whether the machine is among the holders
pub flag_told : (holders : List (Option MNo)) (modes : List Mode) (holding spinning : List Bool) (m : MNo) → HaveFlags holders modes holding spinning
    → flag_of holding m ≡ list_any (is_held_by m) holders
flag_told holders modes holding spinning m kept =
    sym (list_any-count_by (is_held_by m) holders ∙ (ap (λ n. not (n == 0)) (kept.held m) ∙ number_of_told (flag_of holding m)))

pub flag-set_same : (flags : List Bool) (k : ℕ) (m : MNo) (b : Bool) → k < length flags → m.0 ≡ k → flag_of (set flags k b) m ≡ b
flag-set_same flags k m b within same =
    unwrap_or-slice_get (set flags k b) m.0 false ∙ (ap (λ i. get_or (set flags k b) i false) same ∙ get_or-set_same flags k b false within)

flag-set_other : (flags : List Bool) (k : ℕ) (m : MNo) (b : Bool) → (m.0 ≡ k → ⊥) → flag_of (set flags k b) m ≡ flag_of flags m
flag-set_other flags k m b other =
    unwrap_or-slice_get (set flags k b) m.0 false ∙ (get_or-set_other flags k m.0 b false other ∙ sym (unwrap_or-slice_get flags m.0 false))

same_flag : (flags : List Bool) (n m : MNo) → n.0 ≡ m.0 → flag_of flags n ≡ flag_of flags m
same_flag flags n m same = ap (λ k. unwrap_or (slice_get flags k) false) same

counts_true : (b : Bool) → 1 ≤ number_of b → b ≡ true
counts_true true some = refl
counts_true false some = absurd (omega arith)

-- only a number below the length has a flag that is true
pub flagged_within : (flags : List Bool) (m : MNo) → flag_of flags m ≡ true → m.0 < length flags
flagged_within flags m is = by_place (cases_lt m.0 (length flags))
  where
    by_place : (m.0 < length flags) ⊎ (length flags ≤ m.0) → m.0 < length flags
    by_place (inl below) = below
    by_place (inr past) = absurd (false≢true (sym (unwrap_or-slice_get flags m.0 false ∙ get_or_past flags m.0 false past) ∙ is))

-- how the count changes with one holder
held_set : (holders : List (Option MNo)) (i : ℕ) (x y : Option MNo) (n : MNo) → slice_get holders i ≡ Some x
    → count_by (is_held_by n) (set holders i y) + number_of (is_held_by n x) ≡ count_by (is_held_by n) holders + number_of (is_held_by n y)
held_set holders i x y n at =
    let f : Option MNo → ℕ = λ (h : Option MNo). number_of (is_held_by n h) in
    let read : get_or holders i x ≡ x = get_or_from_slice_get holders i x x at in
    ap (λ h. count_by (is_held_by n) (set holders i y) + f h) (sym read) ∙ sum_by-set f holders i y x (slice_get_within holders i x at)

module _ (holders : List (Option MNo)) (modes : List Mode) (holding spinning : List Bool) (kept : HaveFlags holders modes holding spinning) where
  -- the machine holds no processor, takes an idle one, and is in no blocking call
  pub taken : (m : MNo) (i : ℕ) → slice_get holders i ≡ Some None → flag_of holding m ≡ false → m.0 < length modes
      → ((n : MNo) → slice_get modes n.0 ≡ Some Calling → n.0 ≡ m.0 → ⊥)
      → HaveFlags (set holders i (Some m)) modes (set holding m.0 true) spinning
  taken m i idle bare within awake = record {
    flags = length-set holding m.0 true ∙ kept.flags;
    spinners = kept.spinners;
    held = λ n. held n (cases_eq n.0 m.0);
    callers = λ n calls. flag-set_other holding m.0 n true (awake n calls) ∙ kept.callers n calls;
  }
    where
      held : (n : MNo) → (n.0 ≡ m.0) ⊎ (n.0 ≡ m.0 → ⊥) → count_by (is_held_by n) (set holders i (Some m)) ≡ number_of (flag_of (set holding m.0 true) n)
      held n (inl same) =
          let step = held_set holders i None (Some m) n idle in
          let one : number_of (is_held_by n (Some m)) ≡ 1 = ap number_of (eq-eqb n.0 m.0 same) in
          let none : count_by (is_held_by n) holders ≡ 0 = kept.held n ∙ ap number_of (same_flag holding n m same ∙ bare) in
          let counted : count_by (is_held_by n) (set holders i (Some m)) ≡ 1 = omega arith in
          let each = kept.flags in
          counted ∙ ap number_of (sym (flag-set_same holding m.0 n true (omega arith) same))
      held n (inr other) =
          let step = held_set holders i None (Some m) n idle in
          let none : number_of (is_held_by n (Some m)) ≡ 0 = ap number_of (ne_eqb n.0 m.0 other) in
          let counted : count_by (is_held_by n) (set holders i (Some m)) ≡ count_by (is_held_by n) holders = omega arith in
          counted ∙ (kept.held n ∙ ap number_of (sym (flag-set_other holding m.0 n true other)))

  -- a holder's flag is true, and it holds one processor
  pub holder_flagged : (m n : MNo) (i : ℕ) → slice_get holders i ≡ Some (Some m) → n.0 ≡ m.0 → flag_of holding n ≡ true
  holder_flagged m n i holds same =
      let step = held_set holders i (Some m) None n holds in
      let one : number_of (is_held_by n (Some m)) ≡ 1 = ap number_of (eq-eqb n.0 m.0 same) in
      let counted = kept.held n in
      counts_true (flag_of holding n) (omega arith)

  -- a holder's number is that of a machine
  pub holder_within : (m : MNo) (i : ℕ) → slice_get holders i ≡ Some (Some m) → m.0 < length holding
  holder_within m i holds = flagged_within holding m (holder_flagged m m i holds refl)

  -- the machine gives up a processor that it holds
  pub given_up : (m : MNo) (i : ℕ) → slice_get holders i ≡ Some (Some m) → HaveFlags (set holders i None) modes (set holding m.0 false) spinning
  given_up m i holds = record {
    flags = length-set holding m.0 false ∙ kept.flags;
    spinners = kept.spinners;
    held = λ n. held n (cases_eq n.0 m.0);
    callers = λ n calls. callers n calls (cases_eq n.0 m.0);
  }
    where
      held : (n : MNo) → (n.0 ≡ m.0) ⊎ (n.0 ≡ m.0 → ⊥) → count_by (is_held_by n) (set holders i None) ≡ number_of (flag_of (set holding m.0 false) n)
      held n (inl same) =
          let step = held_set holders i (Some m) None n holds in
          let one : number_of (is_held_by n (Some m)) ≡ 1 = ap number_of (eq-eqb n.0 m.0 same) in
          let had : count_by (is_held_by n) holders ≡ 1 = kept.held n ∙ ap number_of (holder_flagged m n i holds same) in
          let counted : count_by (is_held_by n) (set holders i None) ≡ 0 = omega arith in
          counted ∙ ap number_of (sym (flag-set_same holding m.0 n false (holder_within m i holds) same))
      held n (inr other) =
          let step = held_set holders i (Some m) None n holds in
          let none : number_of (is_held_by n (Some m)) ≡ 0 = ap number_of (ne_eqb n.0 m.0 other) in
          let counted : count_by (is_held_by n) (set holders i None) ≡ count_by (is_held_by n) holders = omega arith in
          counted ∙ (kept.held n ∙ ap number_of (sym (flag-set_other holding m.0 n false other)))

      callers : (n : MNo) → slice_get modes n.0 ≡ Some Calling → (n.0 ≡ m.0) ⊎ (n.0 ≡ m.0 → ⊥) → flag_of (set holding m.0 false) n ≡ false
      callers n calls (inl same) = flag-set_same holding m.0 n false (holder_within m i holds) same
      callers n calls (inr other) = flag-set_other holding m.0 n false other ∙ kept.callers n calls

  -- a machine does something else; it holds no processor where that is a blocking call
  pub turned : (m : MNo) (mode : Mode) → (mode ≡ Calling → flag_of holding m ≡ false) → HaveFlags holders (set modes m.0 mode) holding spinning
  turned m mode bare = record {
    flags = kept.flags ∙ sym (length-set modes m.0 mode);
    spinners = kept.spinners ∙ sym (length-set modes m.0 mode);
    held = kept.held;
    callers = λ n. at_set (λ o. o ≡ Some Calling → flag_of holding n ≡ false) modes m.0 n.0 mode (here n) (kept.callers n);
  }
    where
      here : (n : MNo) → m.0 ≡ n.0 → Some mode ≡ Some Calling → flag_of holding n ≡ false
      here n same calls = same_flag holding n m (sym same) ∙ bare cc

  pub spun : (other : List Bool) → length other ≡ length spinning → HaveFlags holders modes holding other
  spun other same = record { flags = kept.flags; spinners = same ∙ kept.spinners; held = kept.held; callers = kept.callers }
