-- Where a machine stands before a call that its body asks for, or one that ends its blocking call, and where it does not.
use Rattle.std.proofs.Common.{◌≡◌, ◌⊎◌, inl, inr, ℕ, zero, suc, ◌+◌, ◌-◌, ◌==◌, Bool, true, false, if◌then◌else◌, nat_le, nat_lt, is_some, Option, None, Some, refl}
use Rattle.gmp_base.specs.declared.ask.Ask.{Ask}
use Rattle.gmp_base.specs.declared.number.PNo.{PNo}
use Rattle.gmp_base.specs.declared.number.Readiness.{Readiness}
use Rattle.gmp_base.specs.declared.refusal.Refusal.TheVariants as refusal
use Rattle.gmp_seq.specs.declared.call.Call.{Call}
use Rattle.gmp_seq.specs.declared.call.Call.TheVariants as call
use Rattle.gmp_seq.specs.declared.call.Reply.{Reply}
use Rattle.gmp_seq.specs.declared.call.Reply.TheVariants as reply
use Rattle.gmp_seq.specs.Step.{closed_in, ticket_in}
use Rattle.gmp_driver.specs.declared.act.Act.{Act}
use Rattle.gmp_driver.specs.declared.act.Act.TheVariants as act
use Rattle.gmp_driver.specs.declared.act.Told.{Told}
use Rattle.gmp_driver.specs.declared.act.Told.TheVariants as told
use Rattle.gmp_driver.specs.declared.act.Tried.{Tried}
use Rattle.gmp_driver.specs.declared.act.Tried.TheVariants as tried
use Rattle.gmp_driver.specs.declared.place.Aside.{Aside}
use Rattle.gmp_driver.specs.declared.place.Aside.TheVariants as aside
use Rattle.gmp_driver.specs.declared.place.Place.{Place}
use Rattle.gmp_driver.specs.declared.place.Place.TheVariants as place
use Rattle.gmp_driver.specs.declared.place.Round.{Round}
use Rattle.gmp_driver.specs.declared.seen.Seen.{Seen}
use Rattle.gmp_driver.specs.Hunt.{begun, hunt_goal, hunted, more, skipped, victim_of}
use Rattle.gmp_driver.specs.Table.{act_at, after_ask, aside_at, call_for, claim_call, is_late, next_place, put_call, raised, scanned}
use Rattle.gmp_acts.specs.Sound.{IsEnd}
use Rattle.gmp_said.specs.Standing.{due_at}

-- what is told comes of no body
abbrev pub IsOfNone : Told → Type 0
IsOfNone (told.Asked asked) = ⊥
IsOfNone (told.Number number) = ⊥
IsOfNone what = Unit {0}

-- Where an act leads

either : (b : Bool) (p q : Place) → due_at p ≡ None → due_at q ≡ None → due_at (if b then p else q) ≡ None
either true p q hp hq = hp
either false p q hp hq = hq

mores : (v : PNo) (goal : ℕ) → due_at (more v goal) ≡ None
mores v zero = refl
mores v (suc goal) = refl

hunts : (s : Seen) (r : Round) (how : Tried) → due_at (hunted s r how) ≡ None
hunts s r (tried.Got hint) = mores (victim_of s.procs r) (hunt_goal s.aside hint - 1)
hunts s r tried.Empty = either (nat_lt (skipped s r.word (r.number + 1)) s.procs) (place.Hunt (Some (record { word = r.word; number = skipped s r.word (r.number + 1) }))) place.Unspin refl refl
hunts s r tried.Unsure = refl

scans : (np : ℕ) (v : PNo) → due_at (scanned np v) ≡ None
scans np v = either (nat_lt (v.0 + 1) np) (place.Scan (record { 0 = v.0 + 1 })) place.Park refl refl

asides : (a : Option Aside) → due_at (aside_at a) ≡ None
asides None = refl
asides (Some (aside.Shelf v)) = refl
asides (Some (aside.Queue v)) = refl

-- after a call that its body asked for
pub answered : (asked : Ask) (answer : Reply) → due_at (after_ask asked answer) ≡ None
answered asked reply.Waits = refl
answered asked (reply.Shelved r) = refl
answered asked reply.Dead = refl
answered asked (reply.Entered p m) = refl
answered asked reply.MainEnded = refl
answered asked (reply.Number before) = either (raised before asked) place.Poke place.Run refl refl
answered asked answer =
    either (is_some (ticket_in answer)) place.Store (if nat_lt 0 (closed_in answer) then place.Poke else place.Run) refl (either (nat_lt 0 (closed_in answer)) place.Poke place.Run refl refl)

-- after any other act, which tells nothing of a body's
pub stays : (s : Seen) (here : Place) (what : Told) → due_at here ≡ None → IsOfNone what → due_at (next_place s here what) ≡ None
stays s here (told.Refused refusal.Over) h n = refl
stays s (place.Do asked) what h n = absurd (let no : Some (inl asked) ≡ None = h in cc)
stays s (place.Leave number) what h n = absurd (let no : Some (inr number) ≡ None = h in cc)
stays s place.Run (told.Asked asked) h n = absurd n
stays s place.Start (told.Replied (reply.Proc p)) h n = refl
stays s place.Start (told.Replied reply.Nothing) h n = refl
stays s place.Look (told.Moment now) h n = refl
stays s (place.Ticking now) (told.Replied (reply.Woke k)) h n = either (s.procs == 1) (aside_at s.aside) place.Keep (asides s.aside) refl
stays s place.Keep (told.Replied (reply.Answer true)) h n = asides s.aside
stays s place.Glance (told.Replied (reply.Ticket r)) h n = refl
stays s place.Glance (told.Replied reply.Nothing) h n = refl
stays s (place.Peek v) (told.Tried (tried.Got hint)) h n = refl
stays s (place.Peek v) (told.Tried tried.Empty) h n = refl
stays s (place.Peek v) (told.Tried tried.Unsure) h n = refl
stays s place.Keep (told.Replied (reply.Answer false)) h n = refl
stays s place.Drain told.Drained h n = refl
stays s place.Drain told.Empty h n = refl
stays s place.PutDrain (told.Replied reply.Shelf) h n = refl
stays s place.Look told.Got h n = refl
stays s place.Look told.Empty h n = refl
stays s place.Global (told.Replied (reply.Ticket r)) h n = refl
stays s place.Global (told.Replied reply.Nothing) h n = either (s.procs == 1) place.Drop place.Spin refl refl
stays s place.Spin (told.Replied (reply.Answer true)) h n = refl
stays s place.Spin (told.Replied (reply.Answer false)) h n = refl
stays s (place.Hunt None) (told.Drew word how) h n = hunts s (begun s word) how
stays s (place.Hunt (Some r)) (told.Tried how) h n = hunts s r how
stays s (place.More v goal) (told.Tried (tried.Got hint)) h n = refl
stays s (place.More v goal) (told.Tried tried.Empty) h n = refl
stays s (place.More v goal) (told.Tried tried.Unsure) h n = refl
stays s (place.StoreMore v goal) told.Pushed h n = mores v goal
stays s (place.StoreMore v goal) told.PushRefused h n = refl
stays s (place.PutMore v goal) (told.Replied reply.Shelf) h n = mores v goal
stays s place.Unspin (told.Replied reply.Done) h n = either (is_some s.to_claim) place.Claim place.Drop refl refl
stays s place.Claim (told.Replied (reply.Wakes m)) h n = refl
stays s place.Claim (told.Replied reply.Nothing) h n = refl
stays s place.Claim (told.Replied reply.Held) h n = refl
stays s place.Store told.Pushed h n = refl
stays s place.Store told.PushRefused h n = refl
stays s place.PutStore (told.Replied reply.Shelf) h n = refl
stays s place.Poke (told.Replied (reply.Wakes m)) h n = refl
stays s place.Poke (told.Replied reply.Nothing) h n = refl
stays s place.Block (told.Number number) h n = absurd n
stays s place.Drop (told.Replied (reply.Idle p)) h n = refl
stays s place.Bare (told.Replied reply.Done) h n = refl
stays s (place.Scan v) (told.Tried (tried.Got hint)) h n = either (is_late s) place.PutHave place.Have refl refl
stays s (place.Scan v) (told.Tried tried.Empty) h n = scans s.procs v
stays s (place.Scan v) (told.Tried tried.Unsure) h n = refl
stays s place.Have (told.Replied (reply.Proc p)) h n = refl
stays s place.Have (told.Replied reply.Nothing) h n = refl
stays s place.PutHave (told.Replied reply.Shelf) h n = either (is_late s) place.Start place.Bare refl refl
stays s place.Park (told.Replied reply.Parked) h n = refl
stays s place.Park (told.Replied reply.Work) h n = refl
stays s place.Park (told.Replied (reply.Mind deadline)) h n = refl
stays s place.Park (told.Replied reply.AllAsleep) h n = refl
stays s place.Park (told.Replied reply.LookAgain) h n = refl
stays s place.Rest (told.Replied (reply.Answer true)) h n = refl
stays s place.Rest (told.Replied (reply.Answer false)) h n = refl
stays s (place.Mind deadline) (told.Moment now) h n = refl
stays s (place.MindTick now) (told.Replied (reply.Woke k)) h n = refl
stays s place.Over told.Surrendered h n = refl
stays s place.Over told.Nothing h n = refl
stays s _ _ h n = refl

-- after the end of a blocking call
pub left : (s : Seen) (number : ℕ) (answer : Reply) (asked : Ask) → due_at (next_place s (place.Leave number) (told.Replied answer)) ≡ Some (inl asked) → ⊥
left s number (reply.Runs p) asked h = let no : None ≡ Some (inl asked) = h in cc
left s number (reply.Shelved r) asked h = let no : None ≡ Some (inl asked) = h in cc
left s number answer asked h = let no : Some (inr number) ≡ Some (inl asked) = h in cc

-- What an act says of the place

-- a call of the machine's own: neither a body's call, nor one that ends a blocking call
abbrev pub IsOwn : Call → Type 0
IsOwn call.Acquire = Unit {0}
IsOwn call.Take = Unit {0}
IsOwn (call.Put r) = Unit {0}
IsOwn (call.Claim r) = Unit {0}
IsOwn call.Spin = Unit {0}
IsOwn call.Woken = Unit {0}
IsOwn call.Keep = Unit {0}
IsOwn call.Unspin = Unit {0}
IsOwn call.Poke = Unit {0}
IsOwn call.Declare = Unit {0}
IsOwn call.Bare = Unit {0}
IsOwn call.Park = Unit {0}
IsOwn (call.Tick moment) = Unit {0}
IsOwn _ = ⊥

-- a call is what the body asked, or ends a blocking one with what was answered, or it stands elsewhere and it is neither; a body is resumed
-- at Run, and answers at Block; all else is elsewhere
abbrev pub TellsPlace : Place → Act → Type 0
TellsPlace here (act.Call c) =
    ((asked : Ask) × (here ≡ place.Do asked) × (c ≡ call_for asked))
    ⊎ ((number : ℕ) × (here ≡ place.Leave number) × (c ≡ call.Leave number))
    ⊎ ((due_at here ≡ None) × IsOwn c)
TellsPlace here act.Resume = here ≡ place.Run
TellsPlace here act.Block = here ≡ place.Block
TellsPlace here _ = due_at here ≡ None

looks : (b : Bool) → TellsPlace place.Look (if b then act.Clock None else act.Pop)
looks true = refl
looks false = refl

puts : (here : Place) (o : Option Readiness) → due_at here ≡ None → TellsPlace here (put_call o)
puts here None h = h
puts here (Some r) h = inr (inr (h, tt))

claims : (b : Bool) (o : Option Readiness) → TellsPlace place.Claim (if b then act.Call call.Poke else claim_call o)
claims true o = inr (inr (refl, tt))
claims false None = refl
claims false (Some r) = inr (inr (refl, tt))

pub tells_place : (s : Seen) (here : Place) → TellsPlace here (act_at s here)
tells_place s place.Start = inr (inr (refl, tt))
tells_place s place.Look = looks (nat_le 16 s.turns)
tells_place s (place.Ticking now) = inr (inr (refl, tt))
tells_place s place.Keep = inr (inr (refl, tt))
tells_place s place.Glance = inr (inr (refl, tt))
tells_place s (place.Peek v) = refl
tells_place s place.Drain = refl
tells_place s place.PutDrain = puts place.PutDrain s.to_store refl
tells_place s place.Global = inr (inr (refl, tt))
tells_place s place.Spin = inr (inr (refl, tt))
tells_place s (place.Hunt None) = refl
tells_place s (place.Hunt (Some r)) = refl
tells_place s (place.More v goal) = refl
tells_place s (place.StoreMore v goal) = refl
tells_place s (place.PutMore v goal) = puts (place.PutMore v goal) s.to_store refl
tells_place s place.Unspin = inr (inr (refl, tt))
tells_place s place.Claim = claims s.fresh s.to_claim
tells_place s place.Run = refl
tells_place s (place.Do asked) = inl (asked, refl, refl)
tells_place s place.Store = refl
tells_place s place.PutStore = puts place.PutStore s.to_store refl
tells_place s place.Poke = inr (inr (refl, tt))
tells_place s place.Block = refl
tells_place s (place.Leave number) = inr (inl (number, refl, refl))
tells_place s place.Drop = inr (inr (refl, tt))
tells_place s place.Bare = inr (inr (refl, tt))
tells_place s (place.Scan v) = refl
tells_place s place.Have = inr (inr (refl, tt))
tells_place s place.PutHave = puts place.PutHave s.to_claim refl
tells_place s place.Park = inr (inr (refl, tt))
tells_place s place.Rest = inr (inr (refl, tt))
tells_place s (place.Mind deadline) = refl
tells_place s (place.MindTick now) = inr (inr (refl, tt))
tells_place s place.Over = refl
tells_place s place.Done = refl

-- where the machine is done, it gives back what it has, or does nothing
abbrev pub IsEndAct : Act → Type 0
IsEndAct (act.Surrender which) = Unit {0}
IsEndAct act.Nothing = Unit {0}
IsEndAct _ = ⊥

pub end_act : (s : Seen) (here : Place) → IsEnd here → IsEndAct (act_at s here)
end_act s place.Over e = tt
end_act s place.Done e = tt
end_act s _ e = absurd e
