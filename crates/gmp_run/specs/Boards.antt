-- The machines as they last left the lock.
use Rattle.std.specs.Prelude.{◌≡◌, ℕ, ◌+◌, Bool, List, Some, slice_get}
use Rattle.gmp_base.specs.declared.pass.Pass.{Pass}
use Rattle.gmp_seq.specs.declared.call.Entry.{Entry}
use Rattle.gmp_journal.specs.Log.{Log}
use Rattle.gmp_driver.specs.Machine.{Machine}
use Rattle.gmp_acts.specs.Hands.{plain_machine}
use Rattle.gmp_run.specs.Trails.{CameTo, first_machine, first_pass}

-- The machine at this place of a board, on which the last of so many machines stands first: its pass is in, and has made as many calls as are
-- counted of it.
pub record IsCounted {T Q : Type 0} (counts : List ℕ) (machines place : ℕ) (x : Machine T Q) : Type 0 where
  pub pass : Pass
  pub has_pass : x.pass ≡ Some pass
  pub its : pass.m.0 + (place + 1) ≡ machines
  pub counted : slice_get counts pass.m.0 ≡ Some pass.calls

-- so of each machine on it
abbrev pub AreCounted : {T Q : Type 0} → List ℕ → ℕ → List (Machine T Q) → Type 0
AreCounted {T} {Q} counts machines board = (place : ℕ) (x : Machine T Q) → slice_get board place ≡ Some x → IsCounted counts machines place x

-- machine m on it, of so many, is this one
abbrev pub IsOn : {T Q : Type 0} → ℕ → List (Machine T Q) → ℕ → Machine T Q → Type 0
IsOn machines board m x = (place : ℕ) × (m + (place + 1) ≡ machines) × (slice_get board place ≡ Some x)

-- each machine on it has made no act
abbrev pub AreFirst : {T Q : Type 0} → ℕ → ℕ → Bool → ℕ → List (Machine T Q) → Type 0
AreFirst {T} {Q} machines run is_fair procs board = (m : ℕ) (x : Machine T Q) → IsOn machines board m x → plain_machine x ≡ first_machine (first_pass run m) procs is_fair

-- each machine on it came to where it is along this history, which leads to the log's state
abbrev pub AreLed : {T Q : Type 0} → ℕ → ℕ → Bool → Log → List (Machine T Q) → List Entry → Type 0
AreLed {T} {Q} machines run is_fair log board h = (m : ℕ) (x : Machine T Q) → IsOn machines board m x
    → ∥ CameTo run is_fair log.limits log.bodies log.capacities log.state h m (plain_machine x) ∥₁
