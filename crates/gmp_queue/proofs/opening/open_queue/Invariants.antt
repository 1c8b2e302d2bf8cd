use Rattle.std.proofs.Common.{◌≡◌, ℕ, ◌-◌, ◌<◌, ◌≤◌, ◌∷◌, ◌++◌, [], true}
use Rattle.std.specs.Global.{Vec}
use Rattle.std.specs.List.{slice_index_or}
use Rattle.gmp_queue.specs.declared.ends.Thief.{Thief}
use Rattle.gmp_queue.specs.Queue.{all_parts, view_with}
use Rattle.gmp_queue.specs.Ends.{owner_view}
use Rattle.gmp_queue.specs.Opened.{IsFreshThiefOf}
use Rattle.gmp_queue.proofs.opening.open_queue.Given as goal

abbrev pub invariant-loop-row : goal.invariant-loop-row
invariant-loop-row l = record {
  run : l.owner.run ≡ l.run;
  view_with : owner_view l.owner ≡ view_with true (all_parts - l.row-index) [] [];
  done : (k : ℕ) (d : Vec Thief) → k < l.row-index → (t : Thief) × ((slice_index_or l.rows k d).items ≡ (slice_index_or l.initial.rows k d).items ++ t ∷ []) × IsFreshThiefOf l.owner t;
  undone : (k : ℕ) (d : Vec Thief) → l.row-index ≤ k → slice_index_or l.rows k d ≡ slice_index_or l.initial.rows k d;
}
