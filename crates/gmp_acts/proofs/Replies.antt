-- How each call may be answered.
use Rattle.std.proofs.Common.{◌≡◌, ℕ, Bool, true, false, Option, None, Some, List}
use Rattle.std.specs.List.{slice_get}
use Rattle.gmp_base.specs.declared.cases.Case.{Case}
use Rattle.gmp_base.specs.declared.cases.Case.TheVariants as case
use Rattle.gmp_base.specs.declared.number.CNo.{CNo}
use Rattle.gmp_base.specs.declared.number.GNo.{GNo}
use Rattle.gmp_base.specs.declared.number.MNo.{MNo}
use Rattle.gmp_seq.specs.declared.call.Call.{Call}
use Rattle.gmp_seq.specs.declared.call.Call.TheVariants as call
use Rattle.gmp_seq.specs.declared.call.Limits.{Limits}
use Rattle.gmp_seq.specs.declared.call.Reply.{Reply}
use Rattle.gmp_seq.specs.declared.call.Reply.TheVariants as reply
use Rattle.gmp_seq.specs.declared.status.Mode.{Mode}
use Rattle.gmp_seq.specs.declared.status.Mode.TheVariants as mode
use Rattle.gmp_seq.specs.Machines.{Looks, Machines}
use Rattle.gmp_seq.specs.State.{State}
use Rattle.gmp_seq.specs.Step.{Closes, Deals, Effect, Selects}

-- the answers by which the goroutine that asked goes on, or waits
abbrev pub Goes : Reply → Type 0
Goes (reply.Ticket r) = Unit {0}
Goes (reply.Channel c) = Unit {0}
Goes (reply.Sent to) = Unit {0}
Goes (reply.Got v sent from) = Unit {0}
Goes reply.Waits = Unit {0}
Goes (reply.Closed n) = Unit {0}
Goes (reply.Number n) = Unit {0}
Goes (reply.Chose i how) = Unit {0}
Goes reply.Default = Unit {0}
Goes (reply.Fault f) = Unit {0}
Goes _ = ⊥

-- the answers that a call may get
abbrev pub CanReply : Call → Reply → Type 0
CanReply call.Acquire (reply.Proc p) = Unit {0}
CanReply call.Acquire reply.Nothing = Unit {0}
CanReply call.Acquire _ = ⊥
CanReply call.Take (reply.Ticket r) = Unit {0}
CanReply call.Take reply.Nothing = Unit {0}
CanReply call.Take _ = ⊥
CanReply (call.Put r) reply.Shelf = Unit {0}
CanReply (call.Put r) _ = ⊥
CanReply (call.Claim r) reply.Held = Unit {0}
CanReply (call.Claim r) _ = ⊥
CanReply call.Yield (reply.Shelved r) = Unit {0}
CanReply call.Yield _ = ⊥
CanReply call.Exit reply.Dead = Unit {0}
CanReply call.Exit reply.MainEnded = Unit {0}
CanReply call.Exit _ = ⊥
CanReply call.Enter (reply.Entered p n) = Unit {0}
CanReply call.Enter _ = ⊥
CanReply (call.Leave number) (reply.Runs p) = Unit {0}
CanReply (call.Leave number) (reply.Shelved r) = Unit {0}
CanReply (call.Leave number) _ = ⊥
CanReply call.Spin (reply.Answer b) = Unit {0}
CanReply call.Spin _ = ⊥
CanReply call.Woken (reply.Answer b) = Unit {0}
CanReply call.Keep (reply.Answer b) = Unit {0}
CanReply call.Keep _ = ⊥
CanReply call.Woken _ = ⊥
CanReply call.Unspin reply.Done = Unit {0}
CanReply call.Unspin _ = ⊥
CanReply call.Poke (reply.Wakes k) = Unit {0}
CanReply call.Poke reply.Nothing = Unit {0}
CanReply call.Poke _ = ⊥
CanReply call.Declare (reply.Idle p) = Unit {0}
CanReply call.Declare _ = ⊥
CanReply call.Bare reply.Done = Unit {0}
CanReply call.Bare _ = ⊥
CanReply call.Park reply.Parked = Unit {0}
CanReply call.Park reply.Work = Unit {0}
CanReply call.Park (reply.Mind until) = Unit {0}
CanReply call.Park reply.AllAsleep = Unit {0}
CanReply call.Park reply.LookAgain = Unit {0}
CanReply call.Park _ = ⊥
CanReply (call.Tick moment) (reply.Woke n) = Unit {0}
CanReply (call.Tick moment) _ = ⊥
CanReply _ answer = Goes answer

deals : (g : GNo) (c : Case) (answer : Reply) (old new : State) → Deals g c answer old new → Goes answer
deals g c (reply.Sent to) old new h = tt
deals g c (reply.Got v sent from) old new h = tt
deals g c (reply.Fault f) old new h = tt
deals g c reply.Waits old new h = tt
deals g c _ old new h = absurd h

selects : (g : GNo) (cases : List Case) (has_default : Bool) (until : Option ℕ) (answer : Reply) (old new : State) → Selects g cases has_default until answer old new → Goes answer
selects g cases has_default until (reply.Chose i told) old new h = tt
selects g cases has_default until reply.Default old new h = tt
selects g cases has_default until reply.Waits old new h = tt
selects g cases has_default until (reply.Fault f) old new h = tt
selects g cases has_default until _ old new h = absurd h

closes : (c : Option CNo) (answer : Reply) (old new : State) → Closes c answer old new → Goes answer
closes c (reply.Closed n) old new h = tt
closes c (reply.Fault f) old new h = tt
closes None _ old new h = absurd h
closes (Some c) _ old new h = absurd h

pub replies : (limits : Limits) (m : MNo) (c : Call) (answer : Reply) (old new : State) → Effect limits m c answer old new → CanReply c answer
replies limits m call.Acquire (reply.Proc p) old new h = tt
replies limits m call.Acquire reply.Nothing old new h = tt
replies limits m call.Acquire _ old new h = absurd h.0
replies limits m call.Take (reply.Ticket r) old new h = tt
replies limits m call.Take reply.Nothing old new h = tt
replies limits m call.Take _ old new h = absurd h.1.0
replies limits m (call.Put r) reply.Shelf old new h = tt
replies limits m (call.Put r) _ old new h = absurd h.1.0
replies limits m (call.Claim r) reply.Held old new h = tt
replies limits m (call.Claim r) _ old new h = absurd h.2.0
replies limits m (call.Go k) (reply.Ticket r) old new h = tt
replies limits m (call.Go k) (reply.Fault f) old new h = tt
replies limits m (call.Go k) _ old new h = absurd h.2.0
replies limits m call.Spawn (reply.Ticket r) old new h = tt
replies limits m call.Spawn (reply.Fault f) old new h = tt
replies limits m call.Spawn _ old new h = absurd h.2.0
replies limits m call.Yield (reply.Shelved r) old new h = tt
replies limits m call.Yield _ old new h = absurd h.2.0
replies limits m call.Exit reply.Dead old new h = tt
replies limits m call.Exit reply.MainEnded old new h = tt
replies limits m call.Exit _ old new h = absurd h.2.0
replies limits m (call.Make capacity) (reply.Channel c) old new h = tt
replies limits m (call.Make capacity) (reply.Fault f) old new h = tt
replies limits m (call.Make capacity) _ old new h = absurd h.2.0
replies limits m (call.Send c v) answer old new (g, runs, h) = deals g (case.Send c v) answer old new h
replies limits m (call.Recv c) answer old new (g, runs, h) = deals g (case.Recv c) answer old new h
replies limits m (call.Close c) answer old new (g, runs, h) = closes c answer old new h
replies limits m (call.Len c) (reply.Number n) old new h = tt
replies limits m (call.Len c) (reply.Fault f) old new h = tt
replies limits m (call.Len c) _ old new h = absurd h.2.0
replies limits m (call.Cap c) (reply.Number n) old new h = tt
replies limits m (call.Cap c) (reply.Fault f) old new h = tt
replies limits m (call.Cap c) _ old new h = absurd h.2.0
replies limits m (call.Procs n) (reply.Number b) old new h = tt
replies limits m (call.Procs n) (reply.Fault f) old new h = tt
replies limits m (call.Procs n) _ old new h = absurd h.2.0
replies limits m (call.Select cases has_default until) answer old new (few, (g, runs, h)) = selects g cases has_default until answer old new h
replies limits m (call.Sleep until) reply.Waits old new h = tt
replies limits m (call.Sleep until) _ old new h = absurd h.2.0
replies limits m call.Gopark reply.Waits old new h = tt
replies limits m call.Gopark _ old new h = absurd h.2.0
replies limits m (call.Ready k) (reply.Ticket r) old new h = tt
replies limits m (call.Ready k) (reply.Fault f) old new h = tt
replies limits m (call.Ready k) _ old new h = absurd h.2.0
replies limits m call.Enter (reply.Entered p n) old new h = tt
replies limits m call.Enter _ old new h = absurd h.2.1
replies limits m (call.Leave number) (reply.Runs p) old new h = tt
replies limits m (call.Leave number) (reply.Shelved r) old new h = tt
replies limits m (call.Leave number) _ old new h = absurd h.2.0
replies limits m call.Spin (reply.Answer b) old new h = tt
replies limits m call.Spin _ old new h = absurd h.1.0
replies limits m call.Woken (reply.Answer b) old new h = tt
replies limits m call.Woken _ old new h = absurd h.0
replies limits m call.Keep (reply.Answer b) old new h = tt
replies limits m call.Keep _ old new h = absurd h.0
replies limits m call.Unspin reply.Done old new h = tt
replies limits m call.Unspin _ old new h = absurd h.0
replies limits m call.Poke (reply.Wakes n) old new h = tt
replies limits m call.Poke reply.Nothing old new h = tt
replies limits m call.Poke _ old new h = absurd h.0
replies limits m call.Declare (reply.Idle p) old new h = tt
replies limits m call.Declare _ old new h = absurd h.1.0
replies limits m call.Bare reply.Done old new h = tt
replies limits m call.Bare _ old new h = absurd h.0
replies limits m call.Park reply.Parked old new h = tt
replies limits m call.Park reply.Work old new h = tt
replies limits m call.Park (reply.Mind until) old new h = tt
replies limits m call.Park reply.AllAsleep old new h = tt
replies limits m call.Park reply.LookAgain old new h = tt
replies limits m call.Park _ old new h = absurd h.1
replies limits m (call.Tick moment) (reply.Woke n) old new h = tt
replies limits m (call.Tick moment) _ old new h = absurd h.1.0

-- a machine that is told true by `woken` is awake
abbrev pub Awoke : Call → Reply → Option Mode → Type 0
Awoke call.Woken (reply.Answer true) what = what ≡ Some mode.Awake
Awoke _ answer what = Unit {0}

looks_awoke : (m : MNo) (answer : Reply) (old new : Machines) → Looks m answer old new → Awoke call.Woken answer (slice_get old.modes m.0)
looks_awoke m (reply.Answer true) old new (awake, is) = awake
looks_awoke m (reply.Answer false) old new h = tt
looks_awoke m _ old new h = absurd h

pub awoke : (limits : Limits) (m : MNo) (c : Call) (answer : Reply) (old new : State) → Effect limits m c answer old new → Awoke c answer (slice_get old.machines.modes m.0)
awoke limits m call.Woken answer old new (h, is, rest) = looks_awoke m answer _ _ h
awoke limits m _ answer old new h = tt
