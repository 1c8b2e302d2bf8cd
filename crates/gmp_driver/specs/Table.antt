-- The table of a machine's program: which act there is at each place, and where what came of it leads. One row is one act.
use Rattle.std.specs.Prelude.{ℕ, ◌+◌, ◌-◌, ◌==◌, ◌&&◌, min, nat_le, nat_lt, Bool, true, false, Option, Some, None, is_some, if◌then◌else◌}
use Rattle.gmp_base.specs.declared.ask.Ask.{Ask}
use Rattle.gmp_base.specs.declared.ask.Ask.TheVariants as ask
use Rattle.gmp_base.specs.declared.number.PNo.{PNo}
use Rattle.gmp_base.specs.declared.number.Readiness.{Readiness}
use Rattle.gmp_base.specs.declared.refusal.Refusal.TheVariants as refusal
use Rattle.gmp_seq.specs.declared.call.Call.{Call}
use Rattle.gmp_seq.specs.declared.call.Call.TheVariants as call
use Rattle.gmp_seq.specs.declared.call.Reply.{Reply}
use Rattle.gmp_seq.specs.declared.call.Reply.TheVariants as reply
use Rattle.gmp_seq.specs.Step.{closed_in, ticket_in}
use Rattle.gmp_driver.specs.declared.act.Act.{Act}
use Rattle.gmp_driver.specs.declared.act.Act.TheVariants as act
use Rattle.gmp_driver.specs.declared.act.Told.{Told}
use Rattle.gmp_driver.specs.declared.act.Told.TheVariants as told
use Rattle.gmp_driver.specs.declared.act.Tried.TheVariants as tried
use Rattle.gmp_driver.specs.declared.place.Aside.{Aside}
use Rattle.gmp_driver.specs.declared.place.Aside.TheVariants as aside
use Rattle.gmp_driver.specs.declared.place.Place.{Place}
use Rattle.gmp_driver.specs.declared.place.Place.TheVariants as place
use Rattle.gmp_driver.specs.declared.seen.Seen.{Seen}
use Rattle.gmp_driver.specs.Hunt.{begun, hunted, more, victim_of}
use Rattle.gmp_driver.specs.Machine.{Machine}
use Rattle.gmp_driver.specs.Seen.{seen}

-- Acts

-- the call that stands for an ask
abbrev pub call_for : Ask → Call
call_for ask.Yield = call.Yield
call_for (ask.Go g) = call.Go g
call_for ask.Spawn = call.Spawn
call_for (ask.Make capacity) = call.Make capacity
call_for (ask.Send c v) = call.Send c v
call_for (ask.Recv c) = call.Recv c
call_for (ask.Close c) = call.Close c
call_for (ask.Len c) = call.Len c
call_for (ask.Cap c) = call.Cap c
call_for (ask.Select cases has_default until) = call.Select cases has_default until
call_for (ask.Sleep until) = call.Sleep until
call_for (ask.Procs n) = call.Procs n
call_for ask.Park = call.Gopark
call_for (ask.Ready g) = call.Ready g
call_for ask.Block = call.Enter
call_for ask.Exit = call.Exit

-- the ticket is put onto the shelf
abbrev pub put_call : Option Readiness → Act
put_call (Some r) = act.Call (call.Put r)
put_call None = act.Nothing

-- the ticket is claimed
abbrev pub claim_call : Option Readiness → Act
claim_call (Some r) = act.Call (call.Claim r)
claim_call None = act.Nothing

-- the act at each place
abbrev pub act_at : Seen → Place → Act
act_at x place.Start = act.Call call.Acquire
act_at x place.Look = if nat_le 16 x.turns then act.Clock None else act.Pop
act_at x (place.Ticking now) = act.Call (call.Tick now)
act_at x place.Keep = act.Call call.Keep
act_at x place.Glance = act.Call call.Take
act_at x (place.Peek v) = act.Steal v
act_at x place.Drain = act.Drain
act_at x place.PutDrain = put_call x.to_store
act_at x place.Global = act.Call call.Take
act_at x place.Spin = act.Call call.Spin
act_at x (place.Hunt None) = act.Hunt
act_at x (place.Hunt (Some r)) = act.Steal (victim_of x.procs r)
act_at x (place.More v goal) = act.Steal v
act_at x (place.StoreMore v goal) = act.Push
act_at x (place.PutMore v goal) = put_call x.to_store
act_at x place.Unspin = act.Call call.Unspin
act_at x place.Claim = if x.fresh then act.Call call.Poke else claim_call x.to_claim
act_at x place.Run = act.Resume
act_at x (place.Do asked) = act.Call (call_for asked)
act_at x place.Store = act.Push
act_at x place.PutStore = put_call x.to_store
act_at x place.Poke = act.Call call.Poke
act_at x place.Block = act.Block
act_at x (place.Leave number) = act.Call (call.Leave number)
act_at x place.Drop = act.Call call.Declare
act_at x place.Bare = act.Call call.Bare
act_at x (place.Scan v) = act.Steal v
act_at x place.Have = act.Call call.Acquire
act_at x place.PutHave = put_call x.to_claim
act_at x place.Park = act.Call call.Park
act_at x place.Rest = act.Call call.Woken
act_at x (place.Mind deadline) = act.Clock (Some deadline)
act_at x (place.MindTick now) = act.Call (call.Tick now)
act_at x place.Over = act.Surrender x.first
act_at x place.Done = act.Nothing

abbrev pub next_act : {T Q : Type 0} → Machine T Q → Act
next_act x = act_at (seen x) x.place

-- Where it stands then

-- more processors are active than before
abbrev pub raised : ℕ → Ask → Bool
raised before (ask.Procs n) = nat_lt before n
raised before asked = false

-- after a call of the body. It waits, is shelved or is dead: Look. Entered: Block. Main ended: Over. It goes on otherwise: with a ticket Store,
-- after a close that woke somebody, and where more processors are active, Poke, else Run.
abbrev pub after_ask : Ask → Reply → Place
after_ask asked reply.Waits = place.Look
after_ask asked (reply.Shelved r) = place.Look
after_ask asked reply.Dead = place.Look
after_ask asked (reply.Entered p m) = place.Block
after_ask asked reply.MainEnded = place.Over
after_ask asked (reply.Number before) = if raised before asked then place.Poke else place.Run
after_ask asked answer = if is_some (ticket_in answer) then place.Store else if nat_lt 0 (closed_in answer) then place.Poke else place.Run

-- empty: the next queue, after the last Park
abbrev pub scanned : ℕ → PNo → Place
scanned np v = if nat_lt (v.0 + 1) np then place.Scan (record { 0 = v.0 + 1 }) else place.Park

-- Looks aside

-- a fair machine made 16 claims, and is to look aside before it claims again
abbrev pub is_late : Seen → Bool
is_late x = is_some x.aside && nat_le 16 x.turns

-- where it looks then: at the shelf, or at a queue; one that is not fair at its own queue alone
abbrev pub aside_at : Option Aside → Place
aside_at None = place.Look
aside_at (Some (aside.Shelf v)) = place.Glance
aside_at (Some (aside.Queue v)) = place.Peek v

-- the queue before this one, and before the first the last
abbrev pub queue_before : ℕ → PNo → PNo
queue_before procs v = record { 0 = if v.0 == 0 then procs - 1 else v.0 - 1 }

-- where a machine looks aside first
abbrev pub first_aside : Bool → Option Aside
first_aside true = Some (aside.Shelf (record { 0 = 0 }))
first_aside false = None

-- where it looks the next time: in turn at the shelf and at a queue, and at one queue after another
abbrev pub turned : ℕ → Option Aside → Option Aside
turned procs None = None
turned procs (Some (aside.Shelf v)) = Some (aside.Queue v)
turned procs (Some (aside.Queue v)) = Some (aside.Shelf (queue_before procs v))

-- Where the machine stands after what came of its act. What it holds then is in its registers. No other outcome comes: then the place stays,
-- and at Do the goroutine goes on.
abbrev pub next_place : Seen → Place → Told → Place
-- a call that finds the run over leads to Over, from every place
next_place x here (told.Refused refusal.Over) = place.Over
next_place x place.Start (told.Replied (reply.Proc p)) = place.Look
next_place x place.Start (told.Replied reply.Nothing) = place.Bare
next_place x place.Look (told.Moment now) = place.Ticking now
next_place x (place.Ticking now) (told.Replied (reply.Woke n)) = if x.procs == 1 then aside_at x.aside else place.Keep
next_place x place.Keep (told.Replied (reply.Answer true)) = aside_at x.aside
next_place x place.Keep (told.Replied (reply.Answer false)) = place.Drain
next_place x place.Glance (told.Replied (reply.Ticket r)) = place.Claim
next_place x place.Glance (told.Replied reply.Nothing) = place.Look
next_place x (place.Peek v) (told.Tried (tried.Got hint)) = place.Claim
next_place x (place.Peek v) (told.Tried tried.Empty) = place.Look
next_place x (place.Peek v) (told.Tried tried.Unsure) = place.Peek v
next_place x place.Drain told.Drained = place.PutDrain
next_place x place.Drain told.Empty = place.Drop
next_place x place.PutDrain (told.Replied reply.Shelf) = place.Drain
next_place x place.Look told.Got = place.Claim
next_place x place.Look told.Empty = place.Global
next_place x place.Global (told.Replied (reply.Ticket r)) = place.Claim
next_place x place.Global (told.Replied reply.Nothing) = if x.procs == 1 then place.Drop else place.Spin
next_place x place.Spin (told.Replied (reply.Answer true)) = place.Hunt None
next_place x place.Spin (told.Replied (reply.Answer false)) = place.Drop
next_place x (place.Hunt None) (told.Drew word how) = hunted x (begun x word) how
next_place x (place.Hunt (Some r)) (told.Tried how) = hunted x r how
next_place x (place.More v goal) (told.Tried (tried.Got hint)) = place.StoreMore v (goal - 1)
next_place x (place.More v goal) (told.Tried tried.Empty) = place.Unspin
next_place x (place.More v goal) (told.Tried tried.Unsure) = place.Unspin
next_place x (place.StoreMore v goal) told.Pushed = more v goal
next_place x (place.StoreMore v goal) told.PushRefused = place.PutMore v goal
next_place x (place.PutMore v goal) (told.Replied reply.Shelf) = more v goal
next_place x place.Unspin (told.Replied reply.Done) = if is_some x.to_claim then place.Claim else place.Drop
next_place x place.Claim (told.Replied (reply.Wakes m)) = place.Claim
next_place x place.Claim (told.Replied reply.Nothing) = place.Claim
next_place x place.Claim (told.Replied reply.Held) = place.Run
next_place x place.Run (told.Asked asked) = place.Do asked
next_place x (place.Do asked) (told.Replied answer) = after_ask asked answer
-- a make without memory
next_place x (place.Do (ask.Make capacity)) (told.Refused refusal.OutOfMemory) = place.Run
next_place x place.Store told.Pushed = place.Poke
next_place x place.Store told.PushRefused = place.PutStore
next_place x place.PutStore (told.Replied reply.Shelf) = place.Poke
next_place x place.Poke (told.Replied (reply.Wakes m)) = place.Run
next_place x place.Poke (told.Replied reply.Nothing) = place.Run
next_place x place.Block (told.Number number) = place.Leave number
next_place x (place.Leave number) (told.Replied (reply.Runs p)) = place.Run
next_place x (place.Leave number) (told.Replied (reply.Shelved r)) = place.Bare
next_place x place.Drop (told.Replied (reply.Idle p)) = place.Scan (record { 0 = 0 })
next_place x place.Bare (told.Replied reply.Done) = place.Scan (record { 0 = 0 })
next_place x (place.Scan v) (told.Tried (tried.Got hint)) = if is_late x then place.PutHave else place.Have
next_place x (place.Scan v) (told.Tried tried.Empty) = scanned x.procs v
next_place x (place.Scan v) (told.Tried tried.Unsure) = place.Scan v
next_place x place.Have (told.Replied (reply.Proc p)) = place.Claim
next_place x place.Have (told.Replied reply.Nothing) = place.PutHave
next_place x place.PutHave (told.Replied reply.Shelf) = if is_late x then place.Start else place.Bare
next_place x place.Park (told.Replied reply.Parked) = place.Rest
next_place x place.Park (told.Replied reply.Work) = place.Start
next_place x place.Park (told.Replied (reply.Mind deadline)) = place.Mind deadline
next_place x place.Park (told.Replied reply.AllAsleep) = place.Over
next_place x place.Park (told.Replied reply.LookAgain) = place.Bare
next_place x place.Rest (told.Replied (reply.Answer true)) = place.Start
next_place x place.Rest (told.Replied (reply.Answer false)) = place.Rest
next_place x (place.Mind deadline) (told.Moment now) = place.MindTick now
next_place x (place.MindTick now) (told.Replied (reply.Woke n)) = place.Start
next_place x place.Over told.Surrendered = place.Over
next_place x place.Over told.Nothing = place.Done
next_place x here what = here

-- fresh: a tick woke somebody, or a ticket or work was found that another machine may not know of. The poke at Claim ends it.
abbrev pub next_fresh : Seen → Place → Told → Bool
next_fresh x (place.Ticking now) (told.Replied (reply.Woke n)) = if n == 0 then x.fresh else true
next_fresh x place.Unspin (told.Replied reply.Done) = if is_some x.to_claim then true else x.fresh
next_fresh x place.Claim (told.Replied (reply.Wakes m)) = false
next_fresh x place.Claim (told.Replied reply.Nothing) = false
next_fresh x place.Have (told.Replied (reply.Proc p)) = true
next_fresh x place.Park (told.Replied reply.Work) = true
next_fresh x place.Rest (told.Replied (reply.Answer true)) = true
next_fresh x (place.MindTick now) (told.Replied (reply.Woke n)) = true
next_fresh x here what = x.fresh

-- claims since the last tick, up to 16; of a fair machine since the last tick behind which it looked aside: one that may not keep its processor is
-- late still, and a tick for a deadline that it minds does not count
abbrev pub next_turns : Seen → Place → Told → ℕ
next_turns x (place.Ticking now) (told.Replied (reply.Woke n)) = 0
next_turns x place.Keep (told.Replied (reply.Answer false)) = if is_some x.aside then 16 else x.turns
next_turns x place.Claim (told.Replied reply.Held) = min (x.turns + 1) 16
next_turns x (place.MindTick now) (told.Replied (reply.Woke n)) = if is_some x.aside then x.turns else 0
next_turns x here what = x.turns

-- where it looks aside next: it turns as it goes there
abbrev pub next_aside : Seen → Place → Told → Option Aside
next_aside x (place.Ticking now) (told.Replied (reply.Woke n)) = if x.procs == 1 then turned x.procs x.aside else x.aside
next_aside x place.Keep (told.Replied (reply.Answer true)) = turned x.procs x.aside
next_aside x here what = x.aside

-- the machine, which holds this now, once it was told what came of its act
abbrev pub after : {T Q : Type 0} → Machine T Q → Told → Machine T Q
after x what = record x { place = next_place (seen x) x.place what; fresh = next_fresh (seen x) x.place what; turns = next_turns (seen x) x.place what; aside = next_aside (seen x) x.place what }
