-- The local queues of a run, as they are opened.
use Rattle.std.specs.Prelude.{◌≡◌, ℕ, ◌-◌, ◌<◌, true, List, [], ◌∷◌, ◌++◌, length, All, slice_index_or}
use Rattle.std.specs.List.{AllZip}
use Rattle.std.specs.Global.{Vec}
use Rattle.gmp_queue.specs.declared.ends.Owner.{Owner}
use Rattle.gmp_queue.specs.declared.ends.Thief.{Thief}
use Rattle.gmp_queue.specs.Queue.{all_parts, view_with, lent}
use Rattle.gmp_queue.specs.Ends.{owner_run, owner_view, thief_view, IsThiefOf}

-- nothing was put or taken yet, and the thief of each machine has a part
abbrev pub IsFresh : ℕ → ℕ → Owner → Type 0
IsFresh run machines o = (owner_run o ≡ run) × (owner_view o ≡ view_with true (all_parts - machines) [] [])

abbrev pub IsFreshThiefOf : Owner → Thief → Type 0
IsFreshThiefOf o t = IsThiefOf o t × (thief_view t ≡ lent)

-- each row has a thief of each owner, in order
abbrev pub AreThievesOf : List Owner → List (Vec Thief) → Type 0
AreThievesOf owners rows = All (λ (row : Vec Thief). AllZip IsFreshThiefOf owners row.items) rows

-- the owners of the queues, and for each machine its thieves, one of each queue
abbrev pub IsOpened : ℕ → ℕ → List Owner → List (Vec Thief) → Type 0
IsOpened run machines owners rows = All (IsFresh run machines) owners × (length rows ≡ machines) × AreThievesOf owners rows

-- each row has a thief of this owner more
abbrev pub AddsThief : Owner → List (Vec Thief) → List (Vec Thief) → Type 0
AddsThief o old new = (k : ℕ) (d : Vec Thief) → k < length old → (t : Thief) × ((slice_index_or new k d).items ≡ (slice_index_or old k d).items ++ t ∷ []) × IsFreshThiefOf o t
