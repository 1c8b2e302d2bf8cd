-- A core whose machines act in turn, with what is outside it.
use Rattle.std.specs.Prelude.{◌≡◌, ◌≢◌, ℕ, ◌+◌, ◌%◌, ◌<◌, Bool, true, false, List, [], ◌∷◌, map, length, None, Some, slice_get}
use Rattle.std.specs.Option.{option_map_or}
use Rattle.gmp_base.specs.declared.number.MNo.{MNo}
use Rattle.gmp_seq.specs.declared.call.Limits.{Limits}
use Rattle.gmp_seq.specs.Machines.{is_parked_mode}
use Rattle.gmp_seq.specs.State.{main}
use Rattle.gmp_acts.specs.Headline.{opening_system}
use Rattle.gmp_acts.specs.System.{System, machine_at}
use Rattle.gmp_driver.specs.Machine.{is_done}
use Rattle.gmp_core.specs.Whole.{IsKept, IsWhole, Whole}

-- all machines together with the goroutines' bodies, what is outside, and the machine whose turn it is
pub record Stage (T O : Type 0) : Type 0 where
  pub core : Whole T
  pub outside : O
  pub turn : ℕ

-- no act was made yet, and main is on the shelf; all machines are fair, or none is; there is one run, number 0
abbrev pub opening_stage : {T O : Type 0} → Bool → Limits → List ℕ → List T → O → Stage T O
opening_stage is_fair limits capacities bodies outside = record {
  core = record { system = opening_system is_fair 0 limits (length bodies) capacities; stock = map Some bodies; shelf = main ∷ [] };
  outside = outside;
  turn = 0;
}

abbrev pub machines_of : System → ℕ
machines_of k = k.book.limits.machines

-- so many machines are there, all entries are kept, and none was handed out
pub record IsManned (machines : ℕ) (k : System) : Type 0 where
  pub machines_are : machines ≡ machines_of k
  pub kept : IsKept k.book.limits
  pub whole : IsWhole k

-- the book has parked the machine
abbrev pub parked : System → ℕ → Bool
parked k m = option_map_or is_parked_mode (slice_get k.book.state.machines.modes m) false

-- It is the first machine that isn't parked, from the one whose turn it is on, going round by number.
pub record HasTurn (k : System) (turn : ℕ) (m : MNo) : Type 0 where
  pub passed : ℕ
  pub few : passed < machines_of k
  pub there : m.0 ≡ (turn + passed) % machines_of k
  pub awake : parked k m.0 ≡ false
  pub asleep : (i : ℕ) → i < passed → parked k ((turn + i) % machines_of k) ≡ true

-- the run has an outcome, and each machine that isn't parked is done
pub record IsOver (k : System) : Type 0 where
  pub outcome : k.book.state.outcome ≢ None
  pub done : (m : MNo) → m.0 < machines_of k → parked k m.0 ≡ false → is_done (machine_at k m).place ≡ true

-- no machine is left to act
abbrev pub AreParked : System → Type 0
AreParked k = (m : MNo) → m.0 < machines_of k → parked k m.0 ≡ true
