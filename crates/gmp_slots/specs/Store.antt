-- What a store holds.
use Rattle.std.specs.Prelude.{◌≡◌, ◌≢◌, ℕ, ◌*◌, ◌/◌, ◌%◌, ◌==◌, Option, None, Some, if◌then◌else◌}
use Rattle.slab.specs.Slab.{get, slab_len}
use Rattle.gmp_slots.specs.declared.Slot.{Slot}
use Rattle.gmp_slots.specs.declared.Store.{Store}

module _ {T : Type 0} where
  -- how many numbers a round has
  abbrev pub span : Store T → ℕ
  span s = s.slots.capacity

  -- the first number of the next round: all that were given are below it
  abbrev pub next : Store T → ℕ
  next s = s.rounds * span s

  -- how many values it holds
  abbrev pub count : Store T → ℕ
  count s = slab_len s.slots

  -- the value of the slot, if it was put in this round
  abbrev pub of_round : ℕ → Option (Slot T) → Option T
  of_round round None = None
  of_round round (Some slot) = if slot.round == round then Some slot.value else None

  -- the value that stands at this number
  abbrev pub there : Store T → ℕ → Option T
  there s number = of_round (number / span s) (get s.slots (number % span s))

  -- this stands at the number now, and at each other what stood there
  pub record Changes (old new : Store T) (number : ℕ) (value : Option T) : Type 0 where
    pub changed : there new number ≡ value
    pub others : (other : ℕ) → other ≢ number → there new other ≡ there old other
