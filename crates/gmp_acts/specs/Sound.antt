-- What every act keeps.
use Rattle.std.specs.Prelude.{◌≡◌, ◌≢◌, ◌⊎◌, ◌↔◌, ◌<◌, ◌≤◌, Bool, true, false, map, length, Option, None, Some, slice_get}
use Rattle.gmp_base.specs.declared.number.GNo.{GNo}
use Rattle.gmp_base.specs.declared.number.MNo.{MNo}
use Rattle.gmp_base.specs.declared.number.PNo.{PNo}
use Rattle.gmp_base.specs.declared.number.Readiness.{Readiness}
use Rattle.gmp_base.specs.declared.pass.Pass.{Pass}
use Rattle.gmp_seq.specs.declared.status.Mode.{Mode}
use Rattle.gmp_seq.specs.declared.status.Mode.TheVariants as mode
use Rattle.gmp_seq.specs.Fits.{AreLimits}
use Rattle.gmp_seq.specs.Machines.{Holds, spins}
use Rattle.gmp_seq.specs.Run.{IsLegal}
use Rattle.gmp_seq.specs.State.{State}
use Rattle.gmp_seq.specs.Table.{IsRunning, IsCalling}
use Rattle.gmp_driver.specs.declared.place.Place.{Place}
use Rattle.gmp_driver.specs.declared.place.Place.TheVariants as place
use Rattle.gmp_driver.specs.Fits.{IsDriver}
use Rattle.gmp_driver.specs.Seen.{own_processor}
use Rattle.gmp_acts.specs.Acts.{HasFewCases}
use Rattle.gmp_acts.specs.Hands.{PlainMachine}
use Rattle.gmp_acts.specs.System.{BookRun, System, Has, count_of, count_of_all, machine_at, held_number, called_number, elsewhere, out, made_of}

-- What the book says of a machine at each place

-- awake, but for a blocking call, and for one that parked and may be woken at any time
abbrev pub ModeAt : Place → Option Mode → Type 0
ModeAt place.Block what = what ≡ Some mode.Calling
ModeAt (place.Leave number) what = what ≡ Some mode.Calling
ModeAt place.Rest what = (what ≡ Some mode.Awake) ⊎ (what ≡ Some mode.Parked)
ModeAt here what = what ≡ Some mode.Awake

-- it spins from the answer at Spin on until Unspin is answered
abbrev pub spins_at : Place → Bool
spins_at (place.Hunt r) = true
spins_at (place.More v goal) = true
spins_at (place.StoreMore v goal) = true
spins_at (place.PutMore v goal) = true
spins_at place.Unspin = true
spins_at here = false

-- while the run lasts: what the machine holds is what the book says, both ways
pub record Sees (s : State) (m : MNo) (x : PlainMachine) : Type 0 where
  pub holds : (p : PNo) → own_processor x.hand ≡ Some p ↔ Holds s.machines m p
  pub runs : (g : GNo) → held_number x.hand.held ≡ Some g ↔ IsRunning s.table g m
  pub calls : (g : GNo) → called_number x.hand.called ≡ Some g ↔ IsCalling s.table g m
  pub does : ModeAt x.place (slice_get s.machines.modes m.0)
  pub spinning : spins s.machines m ≡ spins_at x.place

abbrev pub IsEnd : Place → Type 0
IsEnd place.Over = Unit {0}
IsEnd place.Done = Unit {0}
IsEnd here = ⊥

-- what its body asked has at most 8 cases
abbrev pub HasFewAt : Place → Type 0
HasFewAt (place.Do asked) = HasFewCases asked
HasFewAt here = Unit {0}

-- A machine agrees with the book.
pub record Agrees (book : BookRun) (m : MNo) (x : PlainMachine) : Type 0 where
  pub driver : IsDriver x
  pub pass : Pass
  pub has_pass : x.pass ≡ Some pass
  pub run : (x.run ≡ book.run) × (pass.run ≡ book.run)
  pub its : pass.m ≡ m
  pub turn : pass.calls ≡ count_of book m
  pub seen : pass.seen ≤ count_of_all book
  pub procs : x.procs ≡ book.limits.procs
  pub few : HasFewAt x.place
  pub ended : IsEnd x.place → book.state.outcome ≢ None
  pub sees : book.state.outcome ≡ None → Sees book.state m x
  pub has : Has book.state m x.hand

-- What every act keeps.
pub record IsSound (k : System) : Type 0 where
  pub within : AreLimits k.book.limits k.book.bodies k.book.capacities
  pub legal : IsLegal k.book.limits k.book.bodies k.book.capacities k.book.history k.book.state
  pub own : map made_of k.book.history ≡ k.own
  pub count : length k.machines ≡ k.book.limits.machines
  pub queues : length k.queues ≡ k.book.limits.procs
  pub each : (m : MNo) → m.0 < length k.machines → Agrees k.book m (machine_at k m)
  -- a ticket that stands in a queue or a hand is given out, and each that is given out stands in one of them
  pub tickets : (r : Readiness) → elsewhere r k ≤ out r k.book.state.table
  pub all_tickets : (r : Readiness) → k.book.state.outcome ≡ None → elsewhere r k ≡ out r k.book.state.table
