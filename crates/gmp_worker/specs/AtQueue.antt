-- One act of a machine at the local queues: what it is told, and what it holds then.
use Rattle.std.specs.Prelude.{◌≡◌, ◌⊎◌, ℕ, Bool, true, false, is_some, List, [], ◌∷◌, Option, Some, None, slice_get, slice_set}
use Rattle.gmp_base.specs.declared.number.PNo.{PNo}
use Rattle.gmp_base.specs.declared.number.Readiness.{Readiness}
use Rattle.gmp_driver.specs.declared.act.Act.{Act}
use Rattle.gmp_driver.specs.declared.act.Act.TheVariants as act
use Rattle.gmp_driver.specs.declared.act.Told.{Told}
use Rattle.gmp_driver.specs.declared.act.Told.TheVariants as told
use Rattle.gmp_driver.specs.declared.act.Tried.{Tried}
use Rattle.gmp_driver.specs.declared.act.Tried.TheVariants as tried
use Rattle.gmp_driver.specs.declared.registers.Registers.{Registers}
use Rattle.gmp_driver.specs.Hunt.{begun, victim_of}
use Rattle.gmp_driver.specs.Local.{tells}
use Rattle.gmp_driver.specs.Machine.{Machine}
use Rattle.gmp_driver.specs.Own.{owner_held, with_owner, with_found}
use Rattle.gmp_driver.specs.Seen.{seen}
use Rattle.gmp_driver.specs.Table.{after, next_act}
use Rattle.gmp_queue.specs.declared.ends.Owner.{Owner}
use Rattle.gmp_queue.specs.declared.ends.Thief.{Thief}
use Rattle.gmp_queue.specs.Ends.{KeepsOwner, KeepsThief, owner_run, owner_view, thief_run, thief_view}
use Rattle.gmp_queue.specs.Queue.{FoundNone, PoppedFirst, PutLast, StoleFirst}

-- The act is one at a local queue.
abbrev pub IsQueueAct : Act → Type 0
IsQueueAct act.Pop = Unit {0}
IsQueueAct act.Drain = Unit {0}
IsQueueAct act.Push = Unit {0}
IsQueueAct act.Hunt = Unit {0}
IsQueueAct (act.Steal victim) = Unit {0}
IsQueueAct _ = ⊥

-- The own queue

-- The own end before and behind, of the same queue and with the same parts: this step was made.
pub record UsesOwn {T : Type 0} (hand : Registers T Owner) (Step : Owner → Owner → Type 0) : Type 0 where
  pub before : Owner
  pub behind : Owner
  pub own : owner_held hand ≡ Some before
  pub same : KeepsOwner before behind
  pub step : Step before behind

-- Pushed: the ticket to store went last, and is in hand no more; none goes onto a queue of another run. Refused: it is in hand as before, and the queue is as it was.
abbrev pub Pushes : {T : Type 0} → ℕ → Registers T Owner → Told → Registers T Owner → Type 0
Pushes run hand told.Pushed hand' =
    (r : Readiness) × (hand.to_store ≡ Some r)
    × UsesOwn hand (λ o p. (owner_run o ≡ run) × PutLast (owner_view o) (r ∷ []) (owner_view p) × (hand' ≡ record (with_owner p hand) { to_store = None }))
Pushes run hand told.PushRefused hand' = UsesOwn hand (λ o p. (owner_view p ≡ owner_view o) × (hand' ≡ with_owner p hand))
Pushes run hand _ hand' = ⊥

-- The first ticket was taken, and is in hand: to claim, or to store.
abbrev pub TakesOwn : {T : Type 0} → Bool → ℕ → Registers T Owner → Registers T Owner → Type 0
TakesOwn is_to_store run hand hand' =
    (r : Readiness)
    × UsesOwn hand (λ o p. (owner_run o ≡ run) × PoppedFirst (owner_view o) (r ∷ []) (owner_view p) × (hand' ≡ with_found r is_to_store (with_owner p hand)))

-- None was taken; in a queue of another run there is none for the machine.
abbrev pub FindsOwnEmpty : {T : Type 0} → ℕ → Registers T Owner → Registers T Owner → Type 0
FindsOwnEmpty run hand hand' =
    UsesOwn hand (λ o p. (owner_view p ≡ owner_view o) × (owner_run o ≡ run → FoundNone (owner_view o)) × (hand' ≡ with_owner p hand))

-- Got: a ticket to claim was taken. Empty: none was.
abbrev pub PopsOwn : {T : Type 0} → ℕ → Registers T Owner → Told → Registers T Owner → Type 0
PopsOwn run hand told.Got hand' = TakesOwn false run hand hand'
PopsOwn run hand told.Empty hand' = FindsOwnEmpty run hand hand'
PopsOwn run hand _ hand' = ⊥

-- Drained: a ticket to store was taken. Empty: none was.
abbrev pub DrainsOwn : {T : Type 0} → ℕ → Registers T Owner → Told → Registers T Owner → Type 0
DrainsOwn run hand told.Drained hand' = TakesOwn true run hand hand'
DrainsOwn run hand told.Empty hand' = FindsOwnEmpty run hand hand'
DrainsOwn run hand _ hand' = ⊥

-- one of the two
abbrev pub PopsFor : {T : Type 0} → Bool → ℕ → Registers T Owner → Told → Registers T Owner → Type 0
PopsFor false = PopsOwn
PopsFor true = DrainsOwn

-- Others' queues

-- The thief of queue v before and behind, of the same queue and with the same parts: this step was made. All other thieves are as they were.
pub record UsesThief (v : PNo) (thieves thieves' : List Thief) (Step : Thief → Thief → Type 0) : Type 0 where
  pub before : Thief
  pub behind : Thief
  pub its : slice_get thieves v.0 ≡ Some before
  pub others : thieves' ≡ slice_set thieves v.0 behind
  pub same : KeepsThief before behind
  pub step : Step before behind

-- Got: the first ticket of queue v was taken, and is in hand, to claim, and where there is one to claim, to store. Empty: none was taken; in a queue of another run, or of which the machine has no thief, there is none for it. Unsure: a race was lost, and none was taken.
abbrev pub Steals : {T : Type 0} → ℕ → PNo → List Thief → Bool → Registers T Owner → Tried → Registers T Owner → List Thief → Type 0
Steals run v thieves has hand (tried.Got hint) hand' thieves' =
    (r : Readiness) × UsesThief v thieves thieves' (λ t u. (thief_run t ≡ run) × StoleFirst (thief_view t) (r ∷ []) (thief_view u)) × (hand' ≡ with_found r has hand)
Steals run v thieves has hand tried.Empty hand' thieves' =
    (UsesThief v thieves thieves' (λ t u. thief_view u ≡ thief_view t) ⊎ (slice_get thieves v.0 ≡ None) × (thieves' ≡ thieves)) × (hand' ≡ hand)
Steals run v thieves has hand tried.Unsure hand' thieves' =
    UsesThief v thieves thieves' (λ t u. (thief_run t ≡ run) × (thief_view u ≡ thief_view t)) × (hand' ≡ hand)

-- One act

-- What is in hand then came of this step, and the machine was told what came of it.
pub record IsToldOf {T : Type 0} (x : Machine T Owner) (Step : Told → Registers T Owner → Type 0) (x' : Machine T Owner) : Type 0 where
  pub what : Told
  pub hand : Registers T Owner
  pub step : Step what hand
  pub machine : x' ≡ after (record x { hand = hand }) what

-- a steal from queue v, of which the machine is told: with the word, where it drew one
abbrev pub StealsFrom : {T : Type 0} → Machine T Owner → Option ℕ → PNo → List Thief → List Thief → Told → Registers T Owner → Type 0
StealsFrom x drawn v thieves thieves' what hand' =
    (how : Tried) × (what ≡ tells drawn how) × Steals x.run v thieves (is_some x.hand.to_claim) x.hand how hand' thieves'

-- by the act that is next: what is told, and what is in hand then
abbrev pub Tries : {T : Type 0} → Act → Machine T Owner → ℕ → Registers T Owner → List Thief → Told → Registers T Owner → List Thief → Type 0
Tries act.Pop x word hand thieves what hand' thieves' = PopsOwn x.run hand what hand' × (thieves' ≡ thieves)
Tries act.Drain x word hand thieves what hand' thieves' = DrainsOwn x.run hand what hand' × (thieves' ≡ thieves)
Tries act.Push x word hand thieves what hand' thieves' = Pushes x.run hand what hand' × (thieves' ≡ thieves)
Tries act.Hunt x word hand thieves what hand' thieves' =
    (how : Tried) × (what ≡ told.Drew word how) × Steals x.run (victim_of x.procs (begun (seen x) word)) thieves (is_some x.hand.to_claim) hand how hand' thieves'
Tries (act.Steal v) x word hand thieves what hand' thieves' =
    (how : Tried) × (what ≡ told.Tried how) × Steals x.run v thieves (is_some x.hand.to_claim) hand how hand' thieves'
Tries _ x word hand thieves what hand' thieves' = ⊥

-- The push, pop or steal that the machine names was tried once, and the machine was told exactly what came of it.
pub record TurnsOnQueue {T : Type 0} (x : Machine T Owner) (thieves : List Thief) (word : ℕ) (x' : Machine T Owner) (thieves' : List Thief) : Type 0 where
  pub what : Told
  pub hand : Registers T Owner
  pub tries : Tries (next_act x) x word x.hand thieves what hand thieves'
  pub machine : x' ≡ after (record x { hand = hand }) what
