-- One act of one machine, with the book and the queues, in full: which values move, and not only their numbers.
use Rattle.std.specs.Prelude.{◌≡◌, None, Some, Result}
use Rattle.gmp_base.specs.declared.number.MNo.{MNo}
use Rattle.gmp_base.specs.declared.refusal.Refusal.{Refusal}
use Rattle.gmp_seq.specs.declared.call.Reply.{Reply}
use Rattle.gmp_book.specs.Book.{BookContents}
use Rattle.gmp_driver.specs.declared.act.Act.{Act}
use Rattle.gmp_driver.specs.declared.act.Act.TheVariants as act
use Rattle.gmp_driver.specs.declared.act.Told.TheVariants as told
use Rattle.gmp_driver.specs.Hunt.{begun, victim_of}
use Rattle.gmp_driver.specs.Machine.{Machine}
use Rattle.gmp_driver.specs.Seen.{seen}
use Rattle.gmp_driver.specs.Table.{after}
use Rattle.gmp_acts.specs.declared.choice.Choice.{Choice}
use Rattle.gmp_acts.specs.Acts.{WithQueues, drained, popped, pushed, stolen}
use Rattle.gmp_acts.specs.Hands.{plain_machine}
use Rattle.gmp_turn.specs.Surrenders.{Surrenders}
use Rattle.gmp_turn.specs.Turns.{Turns}
use Rattle.gmp_core.specs.Queues.{Rings}
use Rattle.gmp_core.specs.Local.{KeepsHand}

-- what one act of a machine can change: the machine, the book, and the queues
pub record Desk (T : Type 0) : Type 0 where
  pub machine : Machine T Unit
  pub book : BookContents T Unit
  pub rings : Rings

-- the act is on a queue, a body or the clock: it leads there in plain parts, and no body and no owner moves
pub record Locally {T : Type 0} (there : WithQueues) (old now : Desk T) : Type 0 where
  pub leads : (plain_machine now.machine, now.rings.queues) ≡ there
  pub hand : KeepsHand old.machine.hand now.machine.hand
  pub book : now.book ≡ old.book
  pub room : now.rings.room ≡ old.rings.room

-- what machine m does at this desk
abbrev pub Does : {T : Type 0} → Act → MNo → Choice → Desk T → Desk T → Type 0
Does (act.Call asked) m choice old now = (result : Result Reply Refusal) × Turns old.machine old.book asked choice.word result now.machine now.book × (now.rings ≡ old.rings)
Does act.Pop m choice old now = Locally (popped (plain_machine old.machine) old.rings.queues) old now
Does act.Drain m choice old now = Locally (drained (plain_machine old.machine) old.rings.queues) old now
Does act.Push m choice old now = Locally (pushed (plain_machine old.machine) old.rings.queues old.machine.hand.to_store choice.push_refused) old now
Does act.Hunt m choice old now =
    Locally (stolen (plain_machine old.machine) (Some choice.word) old.rings.queues (victim_of old.machine.procs (begun (seen old.machine) choice.word)) choice.unsure) old now
Does (act.Steal v) m choice old now = Locally (stolen (plain_machine old.machine) None old.rings.queues v choice.unsure) old now
Does act.Resume m choice old now = now ≡ record old { machine = after old.machine (told.Asked choice.ask) }
Does act.Block m choice old now = now ≡ record old { machine = after old.machine (told.Number choice.number) }
Does (act.Clock minded) m choice old now = now ≡ record old { machine = after old.machine (told.Moment choice.moment) }
Does (act.Surrender which) m choice old now = (result : Result Unit Refusal) × Surrenders old.machine old.book which result now.machine now.book × (now.rings ≡ old.rings)
Does act.Nothing m choice old now = now ≡ old
