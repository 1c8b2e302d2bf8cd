-- One speaker and one call.
use Rattle.std.specs.Prelude.{◌≡◌, ℕ}
use Rattle.gmp_base.specs.declared.ask.Ask.{Ask}
use Rattle.gmp_base.specs.declared.ask.Woke.TheVariants as woke
use Rattle.gmp_driver.specs.Table.{call_for}
use Rattle.gmp_said.specs.Said.{Speaker}
use Rattle.gmp_script.specs.Script.{AsksTold, Commands, asked_last}
use Rattle.gmp_seq.specs.declared.call.Call.{Call}
use Rattle.gmp_seq.specs.declared.call.Call.TheVariants as call
use Rattle.gmp_seq.specs.declared.call.Reply.{Reply}
use Rattle.gmp_seq.specs.Step.{woke_after}
use Rattle.gmp_follow.specs.declared.calls.Part.{Part}
use Rattle.gmp_follow.specs.declared.calls.Part.TheVariants.{Asked, Claims, Brings, Own}

-- the body asks for this call, told what it is to be told, and is to be told the reply
pub record AsksCall (what : Call) (answer : Reply) (before after : Speaker Commands) : Type 0 where
  pub asked : Ask
  pub behind : Commands
  pub asks : AsksTold before.body before.woke asked behind
  pub calls : what ≡ call_for asked
  pub goes : after ≡ record { body = behind; woke = woke_after answer }

-- its blocking call brings this number, and it is to be told it
abbrev pub BringsNumber : ℕ → Speaker Commands → Speaker Commands → Type 0
BringsNumber number before after = (number ≡ asked_last before.body) × (after ≡ record before { woke = woke.Number number })

-- what a call has to do with the speakers
abbrev pub part_of : Call → Part
part_of (call.Claim r) = Claims r
part_of (call.Leave number) = Brings number
part_of call.Acquire = Own
part_of call.Take = Own
part_of (call.Put r) = Own
part_of call.Spin = Own
part_of call.Woken = Own
part_of call.Keep = Own
part_of call.Unspin = Own
part_of call.Poke = Own
part_of call.Declare = Own
part_of call.Bare = Own
part_of call.Park = Own
part_of (call.Tick moment) = Own
part_of _ = Asked
