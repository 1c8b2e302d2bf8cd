-- Whether some state follows.
use Rattle.std.specs.Prelude.{◌≡◌, Bool, true, false}

-- Yes: the relation leads from old to new. No: it leads nowhere from old, and nothing changes.
abbrev pub Decides : {X : Type 0} → (X → X → Type 0) → X → X → Bool → Type 0
Decides {X} R old new true = R old new
Decides {X} R old new false = (new ≡ old) × ((other : X) → R old other → ⊥)

-- it leads somewhere from old
abbrev pub Leads : {X : Type 0} → (X → X → Type 0) → X → Type 0
Leads {X} R old = (new : X) × R old new
