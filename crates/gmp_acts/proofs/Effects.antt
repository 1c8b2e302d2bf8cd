-- What each call does to machines.
use Rattle.std.proofs.Common.{ℕ, Bool, Option, None, Some, List, refl}
use Rattle.gmp_base.specs.declared.ask.Fault.TheVariants as fault
use Rattle.gmp_base.specs.declared.cases.Case.{Case}
use Rattle.gmp_base.specs.declared.cases.Case.TheVariants as case
use Rattle.gmp_base.specs.declared.number.CNo.{CNo}
use Rattle.gmp_base.specs.declared.number.GNo.{GNo}
use Rattle.gmp_base.specs.declared.number.MNo.{MNo}
use Rattle.gmp_seq.specs.declared.call.Call.{Call}
use Rattle.gmp_seq.specs.declared.call.Call.TheVariants as call
use Rattle.gmp_seq.specs.declared.call.Limits.{Limits}
use Rattle.gmp_seq.specs.declared.call.Reply.{Reply}
use Rattle.gmp_seq.specs.declared.call.Reply.TheVariants as reply
use Rattle.gmp_seq.specs.State.{State, SameMachines}
use Rattle.gmp_seq.specs.Step
use Rattle.gmp_driver.specs.Seen.{own_processor}
use Rattle.gmp_acts.specs.Hands.{PlainHand}
use Rattle.gmp_driver.specs.Uses.{Uses}
use Rattle.gmp_acts.specs.Hands.{hand_after}
use Rattle.gmp_acts.proofs.Gears.{Gear, Standing, same_gear, goes_gear, take_processor, put_processor, acquires_gear, spins_gear, unspins_gear, pokes_gear, sets_gear, keeps_gear, declares_gear, bares_gear, looks_gear, enters_gear, returns_gear, parks_gear}

deals_same : (g : GNo) (c : Case) (answer : Reply) (old new : State) → Step.Deals g c answer old new → SameMachines old new
deals_same g c (reply.Sent to) old new (made, (how, h, told, is, more)) = more
deals_same g c (reply.Got v sent from) old new (made, (how, h, told, is, more)) = more
deals_same g c (reply.Fault fault.SendOnClosed) old new (made, (how, h, told, is, more)) = more
deals_same g c reply.Waits old new (made, (blocked, is, rest, more)) = more
deals_same g c (reply.Fault fault.NoSuchChannel) old new (made, (is, rest, more)) = more
deals_same g c _ old new h = absurd h

selects_same : (g : GNo) (cases : List Case) (has_default : Bool) (until : Option ℕ) (answer : Reply) (old new : State) → Step.Selects g cases has_default until answer old new
    → SameMachines old new
selects_same g cases has_default until (reply.Chose i told) old new (made, c, at, (how, h, told_is, is, more)) = more
selects_same g cases has_default until reply.Default old new (made, allowed, none, (is, rest, more)) = more
selects_same g cases has_default until reply.Waits old new (made, no_default, (blocked, is, rest, more)) = more
selects_same g cases has_default until (reply.Fault fault.NoSuchChannel) old new (made, (is, rest, more)) = more
selects_same g cases has_default until _ old new h = absurd h

closes_same : (c : Option CNo) (answer : Reply) (old new : State) → Step.Closes c answer old new → SameMachines old new
closes_same (Some c) (reply.Closed n) old new (made, open_, channels, is, count, more) = more
closes_same (Some c) (reply.Fault fault.CloseOfClosed) old new (made, closed, (is, rest, more)) = more
closes_same (Some c) (reply.Fault fault.NoSuchChannel) old new (made, (is, rest, more)) = more
closes_same None (reply.Fault fault.CloseOfNil) old new (is, rest, more) = more
closes_same _ _ old new h = absurd h

-- What it does to machines
pub effect_gear : (limits : Limits) (m : MNo) (c : Call) (answer : Reply) (old new : State) (hand : PlainHand) → Uses c hand → Standing old m → Step.Effect limits m c answer old new
    → Gear m c answer old.machines new.machines (own_processor hand) (own_processor (hand_after old.table c answer hand))
effect_gear limits m call.Acquire answer old new hand u s (h, is, rest) = acquires_gear m _ _ old.table hand answer u h
effect_gear limits m call.Take answer old new hand u s (awake, (h, rest, more)) = same_gear m call.Take answer _ _ _ _ more (take_processor old.table answer hand) refl refl
effect_gear limits m (call.Put r) answer old new hand u s (awake, (h, rest, more)) = same_gear m (call.Put r) answer _ _ _ _ more (put_processor hand.to_store hand) refl refl
effect_gear limits m (call.Claim r) answer old new hand u s (free, holds, (h, rest, more)) = same_gear m (call.Claim r) answer _ _ _ _ more refl refl refl
effect_gear limits m (call.Go k) answer old new hand u s (g, running, (h, rest, more)) = goes_gear m (call.Go k) answer _ _ hand refl refl more
effect_gear limits m call.Spawn answer old new hand u s (g, running, (h, rest, more)) = goes_gear m call.Spawn answer _ _ hand refl refl more
effect_gear limits m call.Yield answer old new hand u s (g, running, (h, rest, more)) = same_gear m call.Yield answer _ _ _ _ more refl refl refl
effect_gear limits m call.Exit answer old new hand u s (g, running, (h, rest, more)) = same_gear m call.Exit answer _ _ _ _ more refl refl refl
effect_gear limits m (call.Make capacity) answer old new hand u s (g, running, (h, is, more)) = goes_gear m (call.Make capacity) answer _ _ hand refl refl more
effect_gear limits m (call.Send c v) answer old new hand u s (g, running, h) = goes_gear m (call.Send c v) answer _ _ hand refl refl (deals_same g (case.Send c v) answer old new h)
effect_gear limits m (call.Recv c) answer old new hand u s (g, running, h) = goes_gear m (call.Recv c) answer _ _ hand refl refl (deals_same g (case.Recv c) answer old new h)
effect_gear limits m (call.Close c) answer old new hand u s (g, running, h) = goes_gear m (call.Close c) answer _ _ hand refl refl (closes_same c answer old new h)
effect_gear limits m (call.Len c) answer old new hand u s (g, running, (h, is, more)) = goes_gear m (call.Len c) answer _ _ hand refl refl more
effect_gear limits m (call.Cap c) answer old new hand u s (g, running, (h, is, more)) = goes_gear m (call.Cap c) answer _ _ hand refl refl more
effect_gear limits m (call.Procs n) answer old new hand u s (g, running, (h, is, rest)) = sets_gear m _ _ old.table hand n answer h
effect_gear limits m (call.Select cases has_default until) answer old new hand u s (few, (g, running, h)) =
    goes_gear m (call.Select cases has_default until) answer _ _ hand refl refl (selects_same g cases has_default until answer old new h)
effect_gear limits m (call.Sleep until) answer old new hand u s (g, running, (h, rest, more)) = goes_gear m (call.Sleep until) answer _ _ hand refl refl more
effect_gear limits m call.Gopark answer old new hand u s (g, running, (h, rest, more)) = goes_gear m call.Gopark answer _ _ hand refl refl more
effect_gear limits m (call.Ready k) answer old new hand u s (g, running, (h, rest, more)) = goes_gear m (call.Ready k) answer _ _ hand refl refl more
effect_gear limits m call.Enter answer old new hand u s (g, running, (is, h, more)) = enters_gear m _ _ old.table hand answer (s.runner g running) h
effect_gear limits m (call.Leave number) answer old new hand u s (g, calling, (h, machines, more)) = returns_gear m _ _ old.table hand number answer u.2 (s.caller g calling) machines
effect_gear limits m call.Spin answer old new hand u s (free, (h, is, rest)) = spins_gear m _ _ old.table hand answer s.spins_row s.spins_at h
effect_gear limits m call.Woken answer old new hand u s (h, is, rest) = looks_gear m _ _ old.table hand answer h
effect_gear limits m call.Keep answer old new hand u s (h, is, rest) = keeps_gear m _ _ old.table hand answer h
effect_gear limits m call.Unspin answer old new hand u s (h, is, rest) = unspins_gear m _ _ old.table hand answer s.spins_row s.spins_at h
effect_gear limits m call.Poke answer old new hand u s (h, is, rest) = pokes_gear m _ _ old.table hand answer h
effect_gear limits m call.Declare answer old new hand u s (free, (h, is, rest)) = declares_gear m _ _ old.table hand answer h
effect_gear limits m call.Bare answer old new hand u s (h, is, rest) = bares_gear m _ _ old.table hand answer h
effect_gear limits m call.Park answer old new hand u s (bare, h) = parks_gear m answer old new hand bare.0 h
effect_gear limits m (call.Tick moment) answer old new hand u s (awake, (h, rest, more)) = same_gear m (call.Tick moment) answer _ _ _ _ more refl refl refl
