-- A local queue, as it is closed.
use Rattle.std.specs.Prelude.{◌≡◌, ℕ, ◌<◌, List, [], ◌∷◌, ◌++◌, All, flat_map, map, IsPermutation}
use Rattle.gmp_base.specs.declared.number.GNo.{GNo}
use Rattle.gmp_queue.specs.declared.rule.View.{View}
use Rattle.gmp_queue.specs.declared.rule.Taken.{Taken}
use Rattle.gmp_queue.specs.declared.ends.Owner.{Owner}
use Rattle.gmp_queue.specs.declared.ends.Thief.{Thief}
use Rattle.gmp_queue.specs.Queue.{all_parts, TookAll, AreBefore}
use Rattle.gmp_queue.specs.Ends.{owner_view, thief_view, SameOwner, AreTheEnds, taken_by}

-- goroutine and epoch of what was taken
abbrev pub pair_taken : Taken → GNo × ℕ
pair_taken t = (t.readiness.g, t.readiness.epoch)

-- taken one after another
abbrev pub IsRising : List Taken → Type 0
IsRising [] = Unit {0}
IsRising (t ∷ ts) = All (λ (u : Taken). t.at < u.at) ts × IsRising ts

-- these were appended, one after another
abbrev pub AppendsTaken : List Taken → List (GNo × ℕ) → List (GNo × ℕ) → Type 0
AppendsTaken left old new = (new ≡ old ++ map pair_taken left) × IsRising left

-- what was appended and what the ends had taken is all that was put, from each position once
abbrev pub ClosesQueue : Owner → List Thief → List (GNo × ℕ) → List (GNo × ℕ) → Type 0
ClosesQueue o thieves old new = (left : List Taken) × AppendsTaken left old new × TookAll (owner_view o).put (taken_by o thieves ++ left)

-- all ends come back, and what was appended is what they have taken beside what they had
pub record GivesBack (o : Owner) (thieves : List Thief) (old new : List (GNo × ℕ)) (p : Owner) (back : List Thief) : Type 0 where
  pub ends : AreTheEnds p back
  pub same : SameOwner o p
  pub put : (owner_view p).put ≡ (owner_view o).put
  pub left : List Taken
  pub appended : AppendsTaken left old new
  pub took : IsPermutation (taken_by o thieves ++ left) (taken_by p back)

-- what was taken, after all that the view had taken from before, is appended
abbrev pub Drains : View → View → List (GNo × ℕ) → List (GNo × ℕ) → Type 0
Drains v w old new =
    (popped : List Taken) × (w ≡ record v { took = v.took ++ popped }) × (new ≡ old ++ map pair_taken popped)
    × IsRising popped × All (λ (t : Taken). AreBefore t.at v.took) popped

-- the view of an owner to which its thieves gave theirs
abbrev pub Gathers : View → List Thief → View → Type 0
Gathers v thieves w = w ≡ record v { parts = all_parts; took = v.took ++ flat_map (λ (t : Thief). (thief_view t).took) thieves }
