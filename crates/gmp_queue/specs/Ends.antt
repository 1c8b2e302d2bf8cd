-- What clauses say of the ends of a local queue.
use Rattle.std.specs.Prelude.{◌≡◌, ℕ, ◌+◌, List, All, sum_by, flat_map, ◌++◌}
use Rattle.crossbeam_deque.specs.Handles.{view, worker_view, worker_deque, stealer_deque}
use Rattle.gmp_base.specs.declared.value.Ticket.{Ticket}
use Rattle.gmp_queue.specs.declared.rule.View.{View}
use Rattle.gmp_queue.specs.declared.rule.Taken.{Taken}
use Rattle.gmp_queue.specs.Queue.{all_parts}
use Rattle.gmp_queue.specs.declared.ends.Owner.{Owner}
use Rattle.gmp_queue.specs.declared.ends.Thief.{Thief}
use Rattle.gmp_queue.specs.declared.ends.Stole.{Stole}
use Rattle.gmp_queue.specs.declared.ends.Stole.TheVariants.{Got, Empty, Unsure}

-- the run that its tickets are of
abbrev pub owner_run : Owner → ℕ
owner_run o = o.run

abbrev pub thief_run : Thief → ℕ
thief_run t = t.run

-- what its pass has put and taken
abbrev pub owner_view : Owner → View
owner_view o = worker_view o.worker

abbrev pub thief_view : Thief → View
thief_view t = view t.pass

-- the same run and the same queue
abbrev pub SameOwner : Owner → Owner → Type 0
SameOwner old new = (owner_run new ≡ owner_run old) × (worker_deque new.worker ≡ worker_deque old.worker)

abbrev pub SameThief : Thief → Thief → Type 0
SameThief old new = (thief_run new ≡ thief_run old) × (stealer_deque new.stealer ≡ stealer_deque old.stealer)

-- the same run, the same queue and the same parts
abbrev pub KeepsOwner : Owner → Owner → Type 0
KeepsOwner old new = SameOwner old new × ((owner_view new).parts ≡ (owner_view old).parts)

abbrev pub KeepsThief : Thief → Thief → Type 0
KeepsThief old new = SameThief old new × ((thief_view new).parts ≡ (thief_view old).parts)

-- the thief is of the owner's queue
abbrev pub IsThiefOf : Owner → Thief → Type 0
IsThiefOf o t = (thief_run t ≡ owner_run o) × (stealer_deque t.stealer ≡ worker_deque o.worker)

-- all ends of one queue
abbrev pub AreTheEnds : Owner → List Thief → Type 0
AreTheEnds o thieves = All (IsThiefOf o) thieves × ((owner_view o).parts + sum_by (λ (t : Thief). (thief_view t).parts) thieves ≡ all_parts)

-- what they have taken
abbrev pub taken_by : Owner → List Thief → List Taken
taken_by o thieves = (owner_view o).took ++ flat_map (λ (t : Thief). (thief_view t).took) thieves

-- a fact for each answer of a steal
abbrev pub MatchStole : Stole → (Ticket → Type 0) → Type 0 → Type 0 → Type 0
MatchStole (Got t) got empty unsure = got t
MatchStole Empty got empty unsure = empty
MatchStole Unsure got empty unsure = unsure
