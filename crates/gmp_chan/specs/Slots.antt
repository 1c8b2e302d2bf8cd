-- Those who wait, as they stand in the slots of a slab, and in order: by arrival, and then by case.
use Rattle.std.specs.Prelude.{◌≡◌, ◌≤◌, ◌<◌, ◌+◌, ◌*◌, ◌==◌, ◌||◌, ◌&&◌, ℕ, Bool, true, false, get_or, nat_le, nat_lt, Option, Some, None, List, [], ◌∷◌, if◌then◌else◌}
use Rattle.gmp_seq.specs.declared.status.Waiter.{Waiter}

-- by arrival, and then by case, which is below 256
abbrev pub rank : Waiter → ℕ
rank w = w.arrival * 256 + w.offer.case

-- before the first that ranks no lower
abbrev pub insert : Waiter → List Waiter → List Waiter
insert x [] = x ∷ []
insert x (y ∷ ys) = if nat_le (rank x) (rank y) then x ∷ y ∷ ys else y ∷ insert x ys

-- those in the slots, by rank
abbrev pub in_order : List (Option Waiter) → List Waiter
in_order [] = []
in_order (None ∷ slots) = in_order slots
in_order (Some x ∷ slots) = insert x (in_order slots)

-- all in the slots rank lower than w
abbrev pub IsLast : List (Option Waiter) → Waiter → Type 0
IsLast slots w = (k : ℕ) (x : Waiter) → get_or slots k None ≡ Some x → rank x < rank w

-- w is the first of those in the slots that pass
pub record IsFirstSlot (p : Waiter → Bool) (slots : List (Option Waiter)) (w : Waiter) : Type 0 where
  pub key : ℕ
  pub there : get_or slots key None ≡ Some w
  pub passes : p w ≡ true
  pub least : (k : ℕ) (x : Waiter) → get_or slots k None ≡ Some x → p x ≡ true → rank w ≤ rank x

-- what is under the key passes
pub record IsThere (p : Waiter → Bool) (slots : List (Option Waiter)) (key : ℕ) : Type 0 where
  pub waiter : Waiter
  pub there : get_or slots key None ≡ Some waiter
  pub passes : p waiter ≡ true

-- none in the slots passes
abbrev pub IsNowhere : (Waiter → Bool) → List (Option Waiter) → Type 0
IsNowhere p slots = (k : ℕ) (x : Waiter) → get_or slots k None ≡ Some x → p x ≡ false

-- the earlier of two
abbrev pub earlier_of : Option Waiter → Option Waiter → Option Waiter
earlier_of None None = None
earlier_of (Some v) None = Some v
earlier_of None (Some w) = Some w
earlier_of (Some v) (Some w) = if nat_lt v.arrival w.arrival || ((v.arrival == w.arrival) && nat_lt v.offer.case w.offer.case) then Some v else Some w
