-- What a machine does in one turn: acts in a row, each dealt what was handed in, until it needs something from outside.
use Rattle.std.specs.Prelude.{◌≡◌, ◌⊎◌, ℕ, suc, ◌<◌, ◌≤◌, true, false, List, [], ◌∷◌, length, Option, None, Some, IsSome}
use Rattle.gmp_base.specs.declared.ask.Woke.{Woke}
use Rattle.gmp_base.specs.declared.number.GNo.{GNo}
use Rattle.gmp_base.specs.declared.number.MNo.{MNo}
use Rattle.gmp_driver.specs.Machine.{held_at, is_done}
use Rattle.gmp_driver.specs.Table.{next_act}
use Rattle.gmp_acts.specs.declared.choice.Choice.{Choice}
use Rattle.gmp_acts.specs.Acts.{Acts, ActsAll}
use Rattle.gmp_acts.specs.Headline.{NoClaimIsRefused}
use Rattle.gmp_acts.specs.System.{System, machine_at}
use Rattle.gmp_core.specs.declared.want.Want.{Want}
use Rattle.gmp_core.specs.declared.want.Want.TheVariants as want
use Rattle.gmp_core.specs.Plays.{IsSettled}
use Rattle.gmp_core.specs.Stage.{machines_of, parked}
use Rattle.gmp_core.specs.Whole.{GrantsAll, HasRoom, NoCallIsRefused, TakesFixed, Whole, goroutine_in_hand, wanted_by}
use Rattle.gmp_stand.specs.declared.event.Event.{Event}
use Rattle.gmp_stand.specs.declared.event.Event.TheVariants as event
use Rattle.gmp_stand.specs.declared.event.Handed.{Handed}

-- the scheduler, and what is left of what was handed in
pub record Desk : Type 0 where
  pub core : Whole GNo
  pub handed : Handed

-- what machine m's next act reads
abbrev pub wanted_at : System → MNo → Want
wanted_at k m = wanted_by (next_act (machine_at k m))

-- An act

-- the deadline that a machine minds has come, or the turn begins: then the machine looks round once more
abbrev pub IsDue : Option ℕ → ℕ → ℕ → Type 0
IsDue None moment made = Unit {0}
IsDue (Some deadline) moment made = (deadline ≤ moment) ⊎ (made ≡ 0)

-- What an act that wants this can go on with: an ask or an answer that was handed in, at the turn's first act; or a moment that is due. One
-- that reads nothing is made by a machine that is neither parked nor done.
abbrev pub Suffices : Want → System → MNo → Handed → ℕ → Type 0
Suffices want.Ask k m handed made = IsSome handed.ask × (made ≡ 0)
Suffices want.Number k m handed made = IsSome handed.number × (made ≡ 0)
Suffices (want.Moment minded) k m handed made = IsDue minded handed.moment made
Suffices want.Nothing k m handed made = (parked k m.0 ≡ false) × (is_done (machine_at k m).place ≡ false)

-- Machine m goes on, so many acts of its turn having been made: it is there, its history has room, and what it needs was handed in.
pub record GoesOn (k : System) (m : MNo) (handed : Handed) (made : ℕ) : Type 0 where
  pub there : m.0 < machines_of k
  pub room : HasRoom k
  pub suffices : Suffices (wanted_at k m) k m handed made

-- What an act that wants this is dealt, and what is left of what was handed in: an ask serves one act, and so does an answer.
abbrev pub IsDealt : Want → Handed → Choice → Handed → Type 0
IsDealt want.Ask handed choice left = (handed.ask ≡ Some choice.ask) × (left ≡ record handed { ask = None })
IsDealt want.Number handed choice left = (handed.number ≡ Some choice.number) × (left ≡ record handed { number = None })
IsDealt (want.Moment minded) handed choice left = (choice.moment ≡ handed.moment) × (left ≡ handed)
IsDealt want.Nothing handed choice left = left ≡ handed

-- this move is one of machine m, which goes on, dealt what was handed in
pub record Moves (m : MNo) (made : ℕ) (move : MNo × Choice) (s s' : Desk) : Type 0 where
  pub its : move.0 ≡ m
  pub goes_on : GoesOn s.core.system m s.handed made
  pub settled : IsSettled s.handed.word move.1
  pub dealt : IsDealt (wanted_at s.core.system m) s.handed move.1 s'.handed
  pub acts : Acts s.core.system m move.1 s'.core.system

-- some move of machine m, by which no call and no claim is refused, and which takes what is fixed
pub record Advances (m : MNo) (made : ℕ) (s s' : Desk) : Type 0 where
  pub choice : Choice
  pub moves : Moves m made (m, choice) s s'
  pub calls : NoCallIsRefused s.core.system m s'.core.system
  pub claims : NoClaimIsRefused s.core.system m s'.core.system
  pub fixed : TakesFixed s.core m choice.word s'.core

-- such moves in a row, so many having been made before
abbrev pub MovesAll : MNo → ℕ → List (MNo × Choice) → Desk → Desk → Type 0
MovesAll m made [] s s' = s' ≡ s
MovesAll m made (move ∷ moves) s s' = (mid : Desk) × Moves m made move s mid × MovesAll m (suc made) moves mid s'

-- A turn

-- this event is that the goroutine in machine m's hand is to be told what it waits for
pub record Resumes (k : System) (m : MNo) (result : Event) : Type 0 where
  pub g : GNo
  pub woke : Woke
  pub is : result ≡ event.Resume g woke
  pub in_hand : goroutine_in_hand k m ≡ Some g
  pub told : held_at (machine_at k m).place (machine_at k m).hand.held ≡ Some woke

-- Why a turn ends with this event, so many acts having been made.
abbrev pub EndsAt : Event → System → MNo → Handed → ℕ → Type 0
-- as many acts were made as one turn may have
EndsAt event.More k m left made = made ≡ 4096
EndsAt event.Parked k m left made = (wanted_at k m ≡ want.Nothing) × (parked k m.0 ≡ true)
-- it is done, or isn't there
EndsAt event.Done k m left made = (is_done (machine_at k m).place ≡ true) ⊎ (machines_of k ≤ m.0)
-- the goroutine in hand is to be told this, and was not since
EndsAt (event.Resume g woke) k m left made =
    (wanted_at k m ≡ want.Ask) × ((left.ask ≡ None) ⊎ (0 < made)) × (goroutine_in_hand k m ≡ Some g) × (held_at (machine_at k m).place (machine_at k m).hand.held ≡ Some woke)
-- the goroutine in hand is to make its blocking call, and did not since
EndsAt (event.Call g) k m left made = (wanted_at k m ≡ want.Number) × ((left.number ≡ None) ⊎ (0 < made)) × (goroutine_in_hand k m ≡ Some g)
-- the deadline that it minds hasn't come, and it looked round
EndsAt (event.Wait deadline) k m left made = (wanted_at k m ≡ want.Moment (Some deadline)) × (left.moment < deadline) × (0 < made)
-- it could go on, but for want of room: so what it waits for is handed in again with its next turn
EndsAt event.Full k m left made = Suffices (wanted_at k m) k m left made × ¬ (HasRoom k)

-- The acts of one turn of machine m, at most 4096, lead from this to that, and the turn ends with this event.
pub record TakesTurn (m : MNo) (handed : Handed) (result : Event) (k k' : Whole GNo) : Type 0 where
  pub moves : List (MNo × Choice)
  pub left : Handed
  pub few : length moves ≤ 4096
  pub made : MovesAll m 0 moves (record { core = k; handed = handed }) (record { core = k'; handed = left })
  -- they are acts of the definitions, no call and no claim of them is refused, and each takes what is fixed
  pub acts : ActsAll k.system moves k'.system
  pub granted : GrantsAll k moves k'
  pub ends : EndsAt result k'.system m left (length moves)
