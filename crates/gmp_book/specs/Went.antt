-- What becomes of a goroutine by the reply to what it asked.
use Rattle.std.specs.Prelude.{◌≡◌, ℕ, Bool, false, Option, None, Some, List}
use Rattle.std.specs.Option.{option_map}
use Rattle.gmp_base.specs.declared.pass.Pass.{Pass}
use Rattle.gmp_base.specs.declared.value.Held.{Held}
use Rattle.gmp_base.specs.declared.value.Ticket.{Ticket}
use Rattle.gmp_base.specs.declared.cases.Case.{Case}
use Rattle.gmp_base.specs.Values.{ticket_by}
use Rattle.gmp_seq.specs.declared.call.Call.{Call}
use Rattle.gmp_seq.specs.declared.call.Call.TheVariants as call
use Rattle.gmp_seq.specs.declared.call.Reply.{Reply}
use Rattle.gmp_seq.specs.declared.call.Reply.TheVariants as reply
use Rattle.gmp_seq.specs.Step.{closed_in, is_wait, ticket_in, woke_after}
use Rattle.gmp_book.specs.declared.went.Moved.{Moved}
use Rattle.gmp_book.specs.declared.went.Moved.TheVariants.{On, Waits}
use Rattle.gmp_book.specs.declared.went.Went.{Went}
use Rattle.gmp_book.specs.Book.{BookContents, SameValues, TakesBack}
use Rattle.gmp_goroutines.specs.Choice.{IsChoice}
use Rattle.gmp_journal.specs.Log.{Log, Records}
use Rattle.gmp_book.specs.declared.values.Way.TheVariants.{Stays, Home}
use Rattle.gmp_book.specs.Hands.{way_of}

-- it goes on: it is told what the reply says, and the ticket that the reply gives out is to be pushed
pub record GoesOn {T : Type 0} (answer : Reply) (held : Held T) (w : Went T) : Type 0 where
  pub told : w.held ≡ record held { woke = woke_after answer }
  pub push : w.push ≡ option_map (ticket_by held.run) (ticket_in answer)

-- it goes on, or waits exactly where the reply says so
abbrev pub Moves : {T : Type 0} → Reply → Held T → Moved T → Type 0
Moves answer held (On w) = (is_wait answer ≡ false) × GoesOn answer held w
Moves answer held Waits = answer ≡ reply.Waits

-- the same of any call: where it doesn't go on its body is back in its place
abbrev pub GoesBy : {T : Type 0} → Reply → Held T → Moved T → Type 0
GoesBy answer held (On w) = (way_of answer ≡ Stays) × GoesOn answer held w
GoesBy answer held Waits = way_of answer ≡ Home

-- The call was accepted with some reply, by which the goroutine that asked goes on.
pub record ProceedsOn {T : Type 0} (old : Log) (before : Pass) (call : Call) (held : Held T) (now : Log) (after : Pass) (w : Went T) : Type 0 where
  pub answer : Reply
  pub records : Records old before call answer now after
  pub goes : GoesOn answer held w

-- The same, where it may wait.
pub record ProceedsOrWaits {T : Type 0} (old : Log) (before : Pass) (call : Call) (held : Held T) (now : Log) (after : Pass) (moved : Moved T) : Type 0 where
  pub answer : Reply
  pub records : Records old before call answer now after
  pub moves : Moves answer held moved

-- The same of a select: the case that is taken is the one that the word chooses.
pub record ProceedsByChoice {T : Type 0} (old : Log) (before : Pass) (cases : List Case) (has_default : Bool) (until : Option ℕ) (word : ℕ) (held : Held T) (now : Log) (after : Pass) (moved : Moved T) : Type 0 where
  pub answer : Reply
  pub records : Records old before (call.Select cases has_default until) answer now after
  pub moves : Moves answer held moved
  pub choice : IsChoice old.state cases word answer

-- The same of a close, which counts those whom it woke.
pub record ProceedsBy {T : Type 0} (old : Log) (before : Pass) (call : Call) (held : Held T) (now : Log) (after : Pass) (w : Went T) (count : ℕ) : Type 0 where
  pub answer : Reply
  pub records : Records old before call answer now after
  pub goes : GoesOn answer held w
  pub counted : count ≡ closed_in answer

-- the bodies stay where it goes on; where it waits, its body is back in its place
abbrev pub MovesBody : {T Q : Type 0} → BookContents T Q → BookContents T Q → Held T → Moved T → Type 0
MovesBody old now held (On w) = SameValues old now
MovesBody old now held Waits = TakesBack old now held

-- it goes on
abbrev pub IsOn : {T : Type 0} → Moved T → Type 0
IsOn (On w) = Unit {0}
IsOn Waits = ⊥

-- it goes on where there is one, with this ticket
abbrev pub moved_of : {T : Type 0} → Option (Held T) → Option Ticket → Moved T
moved_of (Some held) push = On (record { held = held; push = push })
moved_of None push = Waits
