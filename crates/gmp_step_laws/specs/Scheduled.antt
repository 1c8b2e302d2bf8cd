-- Acts of machines with a script's bodies, under any scheduling: any machine acts next, with any choice, but that a body that is resumed asks
-- what its next command asks by what it is told, and that one in a blocking call answers what its last command says.
use Rattle.std.specs.Prelude.{◌≡◌, ℕ, ◌<◌, Option, Some, None, List, [], ◌∷◌, length, slice_get, slice_set}
use Rattle.gmp_base.specs.declared.ask.Ask.{Ask}
use Rattle.gmp_base.specs.declared.ask.Woke.{Woke}
use Rattle.gmp_base.specs.declared.number.GNo.{GNo}
use Rattle.gmp_base.specs.declared.number.MNo.{MNo}
use Rattle.gmp_seq.specs.declared.call.Call.{Call}
use Rattle.gmp_seq.specs.Needs.{WantsMemory}
use Rattle.gmp_driver.specs.declared.act.Act.TheVariants as act
use Rattle.gmp_driver.specs.Machine.{held_at}
use Rattle.gmp_driver.specs.Table.{next_act}
use Rattle.gmp_acts.specs.declared.choice.Choice.{Choice}
use Rattle.gmp_acts.specs.Acts.{Acts}
use Rattle.gmp_acts.specs.System.{System, machine_at}
use Rattle.gmp_core.specs.declared.want.Want.{Want}
use Rattle.gmp_core.specs.declared.want.Want.TheVariants as want
use Rattle.gmp_core.specs.Whole.{goroutine_in_hand, wanted_by}
use Rattle.gmp_script.specs.Script.{AsksTold, Commands, asked_last}

-- the body in machine m's hand, told what it waits for, asks so and goes on
pub record TakesAsk (k : System) (m : MNo) (asked : Ask) (stock stock' : List (Option Commands)) : Type 0 where
  pub g : GNo
  pub in_hand : goroutine_in_hand k m ≡ Some g
  pub before : Commands
  pub has : slice_get stock g.0 ≡ Some (Some before)
  pub told : Woke
  pub holds : held_at (machine_at k m).place (machine_at k m).hand.held ≡ Some told
  pub after : Commands
  pub asks : AsksTold before told asked after
  pub goes : stock' ≡ slice_set stock g.0 (Some after)

-- the body in machine m's hand, which is in its blocking call, answers so, and stays
pub record AnswersLast (k : System) (m : MNo) (number : ℕ) (stock stock' : List (Option Commands)) : Type 0 where
  pub g : GNo
  pub in_hand : goroutine_in_hand k m ≡ Some g
  pub body : Commands
  pub has : slice_get stock g.0 ≡ Some (Some body)
  pub says : number ≡ asked_last body
  pub stays : stock' ≡ stock

-- what an act of machine m that wants this makes of the bodies
abbrev pub LeadsStock : Want → System → MNo → Choice → List (Option Commands) → List (Option Commands) → Type 0
LeadsStock want.Ask k m choice stock stock' = TakesAsk k m choice.ask stock stock'
LeadsStock want.Number k m choice stock stock' = AnswersLast k m choice.number stock stock'
LeadsStock _ k m choice stock stock' = stock' ≡ stock

-- acts in a row
abbrev pub ActsBy : System → List (Option Commands) → List (MNo × Choice) → System → List (Option Commands) → Type 0
ActsBy k stock [] k' stock' = (k' ≡ k) × (stock' ≡ stock)
ActsBy k stock (move ∷ moves) k' stock' = (mid : System) × (between : List (Option Commands))
    × Acts k move.0 move.1 mid
    × LeadsStock (wanted_by (next_act (machine_at k move.0))) k move.0 move.1 stock between
    × ActsBy mid between moves k' stock'

-- while the run lasts, memory is refused for the make that machine m asks: there is no entry
pub record IsUnmade (k : System) (m : MNo) (k' : System) : Type 0 where
  pub inside : m.0 < length k.machines
  pub asked : Call
  pub asks : next_act (machine_at k m) ≡ act.Call asked
  pub lasts : k.book.state.outcome ≡ None
  pub wants : WantsMemory k.book.limits asked k.book.state
  pub same : k'.book ≡ k.book

-- memory is refused for no make of these acts
abbrev pub NoneUnmade : (k : System) (stock : List (Option Commands)) (moves : List (MNo × Choice)) (k' : System) (stock' : List (Option Commands)) → ActsBy k stock moves k' stock' → Type 0
NoneUnmade k stock [] k' stock' acts = Unit {0}
NoneUnmade k stock (move ∷ moves) k' stock' acts = ¬ (IsUnmade k move.0 acts.0) × NoneUnmade acts.0 acts.1 moves k' stock' acts.4
