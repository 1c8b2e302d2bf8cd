-- A state, a machine and its call fix the reply, but for what the scheduler chooses.
use Rattle.std.proofs.Common.{◌≡◌, ℕ, Bool, true, false, not, ◌||◌, cond, eqb, ◌⊎◌, inl, inr, Option, None, Some, List, [], ◌∷◌, arith, refl, sym, ap, subst, ◌∙◌}
use Rattle.std.proofs.lemmas.Bool.{eq-eqb, ne_eqb, or_left, or_right}
use Rattle.std.specs.List.{slice_get}
use Rattle.std.specs.Option.{option_map, option_map_or}
use Rattle.gmp_base.specs.declared.ask.Fault.TheVariants as fault
use Rattle.gmp_base.specs.declared.ask.Woke.{Woke}
use Rattle.gmp_base.specs.declared.cases.Case.{Case}
use Rattle.gmp_base.specs.declared.cases.Case.TheVariants as case
use Rattle.gmp_base.specs.declared.number.CNo.{CNo}
use Rattle.gmp_base.specs.declared.number.GNo.{GNo}
use Rattle.gmp_base.specs.declared.number.MNo.{MNo}
use Rattle.gmp_base.specs.declared.number.Readiness.{Readiness}
use Rattle.gmp_seq.proofs.Asleep.{fails_at}
use Rattle.gmp_seq.proofs.Determined.{proceeds_fixed}
use Rattle.gmp_seq.specs.declared.call.Call.{Call}
use Rattle.gmp_seq.specs.declared.call.Call.TheVariants as call
use Rattle.gmp_seq.specs.declared.call.Limits.{Limits}
use Rattle.gmp_seq.specs.declared.call.Reply.{Reply}
use Rattle.gmp_seq.specs.declared.call.Reply.TheVariants as reply
use Rattle.gmp_seq.specs.declared.call.Taken.{Taken}
use Rattle.gmp_seq.specs.declared.call.Taken.TheVariants as taken
use Rattle.gmp_seq.specs.declared.status.Direction.TheVariants.{Sending, Receiving}
use Rattle.gmp_seq.specs.declared.status.Goroutine.{Goroutine}
use Rattle.gmp_seq.specs.declared.status.TicketPlace.{TicketPlace}
use Rattle.gmp_seq.specs.declared.status.TicketPlace.TheVariants.{Shelf}
use Rattle.gmp_seq.specs.declared.status.Status.{Status}
use Rattle.gmp_seq.specs.declared.status.Transfer.{Transfer}
use Rattle.gmp_seq.specs.declared.status.Transfer.TheVariants.{Failed, Handed, Stored, First, Relayed, Drained}
use Rattle.gmp_seq.specs.declared.status.Waiter.{Waiter}
use Rattle.gmp_seq.specs.Laws.{FitsTogether}
use Rattle.gmp_seq.specs.Machines
use Rattle.gmp_seq.specs.State.{State}
use Rattle.gmp_seq.specs.Step
use Rattle.gmp_seq.specs.Table.{Table, IsReady, IsHeld, status_at, epoch_at, next_of, some_status, is_dormant, is_parked, is_shelved, is_startable, is_astir, minded, ticked, how_many_woken, due_answer}
use Rattle.gmp_seq.specs.Waits as wait
use Rattle.gmp_step_laws.proofs.Alike.{AreAlike}
use Rattle.gmp_step_laws.proofs.MachineReplies.{acquires_one, bares_told, both_ways, declares_one, enters_one, keeps_one, looks_told, open_none, pokes_one, sets_told, spins_told, unspins_told}

-- The table

-- a goroutine whose status passes the test is some
passes_none : (test : Status → Bool) (t : Table) (g : GNo) (x : Goroutine) → some_status test t ≡ false → slice_get t.goroutines g.0 ≡ Some x → test x.status ≡ true → ⊥
passes_none test t g x none row passes = both_ways passes (fails_at (λ (y : Goroutine). test y.status) t.goroutines g.0 x none row)

-- the same by its status
passing_none : (test : Status → Bool) (t : Table) (g : GNo) → some_status test t ≡ false → option_map test (status_at t g) ≡ Some true → ⊥
passing_none test t g none passes = by_row (slice_get t.goroutines g.0) refl passes where
  by_row : (o : Option Goroutine) → slice_get t.goroutines g.0 ≡ o → option_map test (option_map (λ (x : Goroutine). x.status) o) ≡ Some true → ⊥
  by_row None row e = absurd cc
  by_row (Some x) row e = let pass : test x.status ≡ true = cc in passes_none test t g x none row pass

-- a ready goroutine's epoch is that of its readiness
ready_epoch : (t : Table) (r : Readiness) (place : TicketPlace) (answer : Woke) → IsReady t r place answer → epoch_at t r.g ≡ r.epoch
ready_epoch t r place answer ready = ap (λ (o : Option Goroutine). option_map_or (λ (x : Goroutine). x.epoch) o 0) ready

same_readiness : (r t : Readiness) → r.g ≡ t.g → r.epoch ≡ t.epoch → r ≡ t
same_readiness r t g epoch =
    ap (λ (x : GNo). let y : Readiness = record { g = x; epoch = r.epoch } in y) g ∙ ap (λ (n : ℕ). let y : Readiness = record { g = t.g; epoch = n } in y) epoch

takes_one : (answer too : Reply) (old a b : Table) → Step.Takes answer old a → Step.Takes too old b → AreAlike call.Take answer too → answer ≡ too
takes_one (reply.Ticket r) (reply.Ticket t) old a b (x, ready, is) (y, again, is_too) alike =
    ap reply.Ticket (same_readiness r t alike (sym (ready_epoch old r Shelf x ready) ∙ ap (epoch_at old) alike ∙ ready_epoch old t Shelf y again))
takes_one reply.Nothing reply.Nothing old a b h k alike = refl
takes_one (reply.Ticket r) reply.Nothing old a b (x, ready, is) (none, is_too) alike = absurd (passes_none is_shelved old r.g _ none ready refl)
takes_one reply.Nothing (reply.Ticket t) old a b (none, is) (y, again, is_too) alike = absurd (passes_none is_shelved old t.g _ none again refl)
takes_one (reply.Ticket r) _ old a b h k alike = absurd k
takes_one reply.Nothing _ old a b h k alike = absurd k
takes_one _ too old a b h k alike = absurd h

spawns_one : (answer too : Reply) (old a b : Table) → Step.Spawns answer old a → Step.Spawns too old b → AreAlike call.Spawn answer too → answer ≡ too
spawns_one (reply.Ticket r) (reply.Ticket t) old a b (startable, next, is) (startable_too, next_too, is_too) alike = ap reply.Ticket (next ∙ ap (next_of old) alike ∙ sym next_too)
spawns_one (reply.Fault fault.NoSuchBody) (reply.Fault fault.NoSuchBody) old a b h k alike = refl
spawns_one (reply.Ticket r) (reply.Fault fault.NoSuchBody) old a b (startable, next, is) (none, is_too) alike = absurd (passing_none is_startable old r.g none startable)
spawns_one (reply.Fault fault.NoSuchBody) (reply.Ticket t) old a b (none, is) (startable, next, is_too) alike = absurd (passing_none is_startable old t.g none startable)
spawns_one (reply.Ticket r) _ old a b h k alike = absurd k
spawns_one (reply.Fault fault.NoSuchBody) _ old a b h k alike = absurd k
spawns_one _ too old a b h k alike = absurd h

-- Where nothing is chosen, the reply is told from the state alone

-- by a test of what may be absent
abbrev by_found : Option Bool → Reply → Reply → Reply → Reply
by_found None absent passes fails = absent
by_found (Some true) absent passes fails = passes
by_found (Some false) absent passes fails = fails

puts_told : (r : Readiness) (answer : Reply) (old a : Table) → Step.Puts r answer old a → answer ≡ reply.Shelf
puts_told r reply.Shelf old a h = refl
puts_told r _ old a h = absurd h

claims_told : (m : MNo) (r : Readiness) (answer : Reply) (old a : Table) → Step.Claims m r answer old a → answer ≡ reply.Held
claims_told m r reply.Held old a h = refl
claims_told m r _ old a h = absurd h

starts_told : (g : GNo) (answer : Reply) (old a : Table) → Step.Starts g answer old a
    → answer ≡ by_found (option_map is_dormant (status_at old g)) (reply.Fault fault.NoSuchBody) (reply.Ticket (next_of old g)) (reply.Fault fault.AlreadyStarted)
starts_told g (reply.Ticket r) old a (dormant, next, is) = rw dormant (ap reply.Ticket next)
starts_told g (reply.Fault fault.NoSuchBody) old a (none, is) = rw none refl
starts_told g (reply.Fault fault.AlreadyStarted) old a (started, is) = rw started refl
starts_told g _ old a h = absurd h

readies_told : (g : GNo) (answer : Reply) (old a : Table) → Step.Readies g answer old a
    → answer ≡ by_found (option_map is_parked (status_at old g)) (reply.Fault fault.NoSuchBody) (reply.Ticket (next_of old g)) (reply.Fault fault.NotParked)
readies_told g (reply.Ticket r) old a (parked, next, is) = rw parked (ap reply.Ticket next)
readies_told g (reply.Fault fault.NoSuchBody) old a (none, is) = rw none refl
readies_told g (reply.Fault fault.NotParked) old a (other, is) = rw other refl
readies_told g _ old a h = absurd h

yields_told : (g : GNo) (answer : Reply) (old a : Table) → Step.Yields g answer old a → answer ≡ reply.Shelved (next_of old g)
yields_told g (reply.Shelved r) old a (next, is) = ap reply.Shelved next
yields_told g _ old a h = absurd h

exits_told : (g : GNo) (answer : Reply) (old a : Table) → Step.Exits g answer old a → answer ≡ cond (eqb g.0 0) reply.MainEnded reply.Dead
exits_told g reply.Dead old a (other, is) = rw (ne_eqb g.0 0 other) refl
exits_told g reply.MainEnded old a (main, is) = rw (eq-eqb g.0 0 main) refl
exits_told g _ old a h = absurd h

sleeps_told : (g : GNo) (until : ℕ) (answer : Reply) (old a : Table) → Step.Sleeps g until answer old a → answer ≡ reply.Waits
sleeps_told g until reply.Waits old a h = refl
sleeps_told g until _ old a h = absurd h

goparks_told : (g : GNo) (answer : Reply) (old a : Table) → Step.Goparks g answer old a → answer ≡ reply.Waits
goparks_told g reply.Waits old a h = refl
goparks_told g _ old a h = absurd h

ticks_told : (moment : ℕ) (answer : Reply) (old a : Table) → Step.Ticks moment answer old a → answer ≡ reply.Woke (how_many_woken (due_answer (ticked old moment).clock) old)
ticks_told moment (reply.Woke n) old a (is, count) = ap reply.Woke (count ∙ ap (λ (x : Table). how_many_woken (due_answer x.clock) old) is)
ticks_told moment _ old a h = absurd h

-- Channels

makes_one : (limits : Limits) (capacity : ℕ) (answer too : Reply) (old a b : List wait.Channel) → Step.Makes limits capacity answer old a → Step.Makes limits capacity too old b → answer ≡ too
makes_one limits capacity (reply.Channel c) (reply.Channel d) old a b h k =
    ap (λ (n : ℕ). reply.Channel (record { 0 = n })) (h.2 ∙ sym k.2)
makes_one limits capacity (reply.Fault fault.BadCapacity) (reply.Fault fault.BadCapacity) old a b h k = refl
makes_one limits capacity (reply.Fault fault.TooManyChannels) (reply.Fault fault.TooManyChannels) old a b h k = refl
makes_one limits capacity (reply.Channel c) (reply.Fault fault.BadCapacity) old a b h k = absurd (omega (arith, h.0, k.0))
makes_one limits capacity (reply.Channel c) (reply.Fault fault.TooManyChannels) old a b h k = absurd (omega (arith, h.1, k.1))
makes_one limits capacity (reply.Fault fault.BadCapacity) (reply.Channel d) old a b h k = absurd (omega (arith, h.0, k.0))
makes_one limits capacity (reply.Fault fault.BadCapacity) (reply.Fault fault.TooManyChannels) old a b h k = absurd (omega (arith, h.0, k.0))
makes_one limits capacity (reply.Fault fault.TooManyChannels) (reply.Channel d) old a b h k = absurd (omega (arith, h.1, k.1))
makes_one limits capacity (reply.Fault fault.TooManyChannels) (reply.Fault fault.BadCapacity) old a b h k = absurd (omega (arith, h.0, k.0))
makes_one limits capacity (reply.Channel c) _ old a b h k = absurd k
makes_one limits capacity (reply.Fault fault.BadCapacity) _ old a b h k = absurd k
makes_one limits capacity (reply.Fault fault.TooManyChannels) _ old a b h k = absurd k
makes_one limits capacity _ too old a b h k = absurd h

tells_told : (number : CNo → ℕ) (c : Option CNo) (answer : Reply) (old a : List wait.Channel) → Step.Tells number c answer old a
    → answer ≡ cond (wait.names_no_missing old c) (reply.Number (option_map_or number c 0)) (reply.Fault fault.NoSuchChannel)
tells_told number c (reply.Number n) old a (made, is, same) = rw made (ap reply.Number is)
tells_told number c (reply.Fault fault.NoSuchChannel) old a (missing, same) = rw missing refl
tells_told number c _ old a h = absurd h

-- the first of these waits, so somebody does
first_some : (ws : List Waiter) (w : Waiter) → slice_get ws 0 ≡ Some w → not (wait.is_empty ws) ≡ true
first_some [] w first = absurd cc
first_some (x ∷ ws) w first = refl

-- what proceeds can
proceeds_can : (channels new : List wait.Channel) (all : List Waiter) (c : Case) (how : Transfer) → wait.Proceeds channels all c how new → wait.can channels all c ≡ true
proceeds_can channels new all (case.Send (Some c) v) Failed p = rw p.0 refl
proceeds_can channels new all (case.Send (Some c) v) (Handed w) p =
    let waits : not (wait.is_empty (wait.waits all c Receiving)) ≡ true = first_some (wait.waits all c Receiving) w p.1 in
    or_right (wait.is_closed channels c || wait.has_room channels c) (not (wait.is_empty (wait.waits all c Receiving))) waits
proceeds_can channels new all (case.Send (Some c) v) Stored p = rw (p.0, p.2) refl
proceeds_can channels new all (case.Recv (Some c)) (First v) p = rw p.1 refl
proceeds_can channels new all (case.Recv (Some c)) (Relayed v w) p =
    let waits : not (wait.is_empty (wait.waits all c Sending)) ≡ true = first_some (wait.waits all c Sending) w p.1 in
    or_left (not (wait.is_empty (wait.items_at channels c)) || not (wait.is_empty (wait.waits all c Sending))) (wait.is_closed channels c)
    (or_right (not (wait.is_empty (wait.items_at channels c))) (not (wait.is_empty (wait.waits all c Sending))) waits)
proceeds_can channels new all (case.Recv (Some c)) Drained p = rw (p.0, p.1, p.2) refl
proceeds_can channels new all (case.Send (Some c) v) (First z) p = absurd p
proceeds_can channels new all (case.Send (Some c) v) (Relayed z w) p = absurd p
proceeds_can channels new all (case.Send (Some c) v) Drained p = absurd p
proceeds_can channels new all (case.Recv (Some c)) Failed p = absurd p
proceeds_can channels new all (case.Recv (Some c)) (Handed w) p = absurd p
proceeds_can channels new all (case.Recv (Some c)) Stored p = absurd p
proceeds_can channels new all (case.Send None v) how p = absurd p
proceeds_can channels new all (case.Recv None) how p = absurd p

-- a case that proceeds is one that can
none_proceeds : (cases : List Case) (i : ℕ) (c : Case) (told : Taken) (old a : State) → Step.some_can old cases ≡ false → slice_get cases i ≡ Some c → Step.Communicates c told old a → ⊥
none_proceeds cases i c told old a none at (how, goes, told_is, is, same) =
    both_ways (proceeds_can old.channels a.channels (wait.waiters old.table) c how goes) (fails_at (wait.can old.channels (wait.waiters old.table)) cases i c none at)

-- of one communication one thing is told
communicates_one : (c : Case) (told too : Taken) (old a b : State) → Step.Communicates c told old a → Step.Communicates c too old b → told ≡ too
communicates_one c told too old a b (how, goes, told_is, is, same) (how_too, goes_too, told_too, is_too, same_too) =
    told_is ∙ ap (Step.told_of old.table) (proceeds_fixed old.channels a.channels b.channels (wait.waiters old.table) c how how_too goes goes_too).0 ∙ sym told_too

-- the reply that tells of a single communication
abbrev told_reply : Taken → Reply
told_reply (taken.Sent to) = reply.Sent to
told_reply (taken.Got v sent from) = reply.Got v sent from
told_reply taken.Failed = reply.Fault fault.SendOnClosed

-- a single send or receive names a channel that was not made, or proceeds, or waits
abbrev IsMissing : Case → Reply → State → Type 0
IsMissing c answer old = (wait.names_no_missing old.channels (wait.channel_of c) ≡ false) × (answer ≡ reply.Fault fault.NoSuchChannel)

abbrev IsTold : Case → Reply → State → State → Type 0
IsTold c answer old a = (wait.names_no_missing old.channels (wait.channel_of c) ≡ true) × (told : Taken) × Step.Communicates c told old a × (answer ≡ told_reply told)

abbrev IsBlocked : Case → Reply → State → Type 0
IsBlocked c answer old = (wait.names_no_missing old.channels (wait.channel_of c) ≡ true) × (Step.some_can old (c ∷ []) ≡ false) × (answer ≡ reply.Waits)

deals_told : (g : GNo) (c : Case) (answer : Reply) (old a : State) → Step.Deals g c answer old a → IsMissing c answer old ⊎ (IsTold c answer old a ⊎ IsBlocked c answer old)
deals_told g c (reply.Sent to) old a (made, goes) = inr (inl (made, taken.Sent to, goes, refl))
deals_told g c (reply.Got v sent from) old a (made, goes) = inr (inl (made, taken.Got v sent from, goes, refl))
deals_told g c (reply.Fault fault.SendOnClosed) old a (made, goes) = inr (inl (made, taken.Failed, goes, refl))
deals_told g c reply.Waits old a (made, (none, is, same, more)) = inr (inr (made, none, refl))
deals_told g c (reply.Fault fault.NoSuchChannel) old a (missing, same) = inl (missing, refl)
deals_told g c _ old a h = absurd h

deals_one : (g k : GNo) (c : Case) (answer too : Reply) (old a b : State) → Step.Deals g c answer old a → Step.Deals k c too old b → answer ≡ too
deals_one g k c answer too old a b h j = by_ways (deals_told g c answer old a h) (deals_told k c too old b j) where
  by_ways : IsMissing c answer old ⊎ (IsTold c answer old a ⊎ IsBlocked c answer old) → IsMissing c too old ⊎ (IsTold c too old b ⊎ IsBlocked c too old) → answer ≡ too
  by_ways (inl (missing, is)) (inl (missing_too, is_too)) = is ∙ sym is_too
  by_ways (inr (inl (made, told, goes, is))) (inr (inl (made_too, told_too, goes_too, is_too))) = is ∙ ap told_reply (communicates_one c told told_too old a b goes goes_too) ∙ sym is_too
  by_ways (inr (inr (made, none, is))) (inr (inr (made_too, none_too, is_too))) = is ∙ sym is_too
  by_ways (inl x) (inr (inl y)) = absurd (both_ways y.0 x.0)
  by_ways (inl x) (inr (inr y)) = absurd (both_ways y.0 x.0)
  by_ways (inr (inl x)) (inl y) = absurd (both_ways x.0 y.0)
  by_ways (inr (inr x)) (inl y) = absurd (both_ways x.0 y.0)
  by_ways (inr (inl (made, told, goes, is))) (inr (inr y)) = absurd (none_proceeds (c ∷ []) 0 c told old a y.1 refl goes)
  by_ways (inr (inr x)) (inr (inl (made, told, goes, is))) = absurd (none_proceeds (c ∷ []) 0 c told old b x.1 refl goes)

module _ (g k : GNo) (cases : List Case) (has_default : Bool) (until : Option ℕ) (old a b : State) where
  abbrev Selects : GNo → Reply → State → Type 0
  Selects i answer s = Step.Selects i cases has_default until answer old s

  selects_one : (answer too : Reply) → Selects g answer a → Selects k too b → AreAlike (call.Select cases has_default until) answer too → answer ≡ too
  selects_one (reply.Chose i told) (reply.Chose j told_too) (made, c, at, goes) (made_too, d, at_too, goes_too) alike =
      let e : Some d ≡ Some c = sym at_too ∙ ap (slice_get cases) (sym alike) ∙ at in
      let same : d ≡ c = cc in
      ap (λ (n : ℕ). reply.Chose n told) alike
      ∙ ap (reply.Chose j) (communicates_one c told told_too old a b goes (subst (λ (x : Case). Step.Communicates x told_too old b) same goes_too))
  selects_one reply.Default reply.Default h j alike = refl
  selects_one reply.Waits reply.Waits h j alike = refl
  selects_one (reply.Fault fault.NoSuchChannel) (reply.Fault fault.NoSuchChannel) h j alike = refl
  selects_one (reply.Chose i told) reply.Default (made, c, at, goes) j alike = absurd (none_proceeds cases i c told old a j.2 at goes)
  selects_one (reply.Chose i told) reply.Waits (made, c, at, goes) (made_too, fails, (none, is, same, more)) alike = absurd (none_proceeds cases i c told old a none at goes)
  selects_one reply.Default (reply.Chose i told) h (made, c, at, goes) alike = absurd (none_proceeds cases i c told old b h.2 at goes)
  selects_one reply.Waits (reply.Chose i told) (made, fails, (none, is, same, more)) (made_too, c, at, goes) alike = absurd (none_proceeds cases i c told old b none at goes)
  selects_one reply.Default reply.Waits h j alike = absurd (both_ways h.1 j.1)
  selects_one reply.Waits reply.Default h j alike = absurd (both_ways j.1 h.1)
  selects_one (reply.Chose i told) (reply.Fault fault.NoSuchChannel) h j alike = absurd (both_ways h.0 j.0)
  selects_one reply.Default (reply.Fault fault.NoSuchChannel) h j alike = absurd (both_ways h.0 j.0)
  selects_one reply.Waits (reply.Fault fault.NoSuchChannel) h j alike = absurd (both_ways h.0 j.0)
  selects_one (reply.Fault fault.NoSuchChannel) (reply.Chose i told) h j alike = absurd (both_ways j.0 h.0)
  selects_one (reply.Fault fault.NoSuchChannel) reply.Default h j alike = absurd (both_ways j.0 h.0)
  selects_one (reply.Fault fault.NoSuchChannel) reply.Waits h j alike = absurd (both_ways j.0 h.0)
  selects_one (reply.Chose i told) _ h j alike = absurd j
  selects_one reply.Default _ h j alike = absurd j
  selects_one reply.Waits _ h j alike = absurd j
  selects_one (reply.Fault fault.NoSuchChannel) _ h j alike = absurd j
  selects_one _ too h j alike = absurd h

-- what a close is answered
abbrev close_reply : Option CNo → State → Reply
close_reply None old = reply.Fault fault.CloseOfNil
close_reply (Some c) old =
    cond (wait.names_no_missing old.channels (Some c))
    (cond (wait.is_closed old.channels c) (reply.Fault fault.CloseOfClosed) (reply.Closed (how_many_woken (wait.close_answer c) old.table)))
    (reply.Fault fault.NoSuchChannel)

closes_told : (c : Option CNo) (answer : Reply) (old a : State) → Step.Closes c answer old a → answer ≡ close_reply c old
closes_told (Some c) (reply.Closed n) old a (made, open_, channels, is, count, same) = rw (made, open_) (ap reply.Closed count)
closes_told (Some c) (reply.Fault fault.CloseOfClosed) old a (made, closed, same) = rw (made, closed) refl
closes_told (Some c) (reply.Fault fault.NoSuchChannel) old a (missing, same) = rw missing refl
closes_told None (reply.Fault fault.CloseOfNil) old a h = refl
closes_told _ _ old a h = absurd h

-- what a machine with nothing to do is answered: is there work, is somebody astir, what deadline is minded, is the machine marked
abbrev park_reply : Bool → Bool → Option ℕ → Bool → Reply
park_reply true astir minds marked = reply.Work
park_reply false false minds marked = reply.AllAsleep
park_reply false true (Some until) marked = reply.Mind until
park_reply false true None true = reply.LookAgain
park_reply false true None false = reply.Parked

parks_told : (m : MNo) (answer : Reply) (old a : State) → Step.Parks m answer old a
    → answer ≡ park_reply (Step.has_work old) (some_status is_astir old.table) (minded old.table) (Machines.is_marked old.machines m)
parks_told m reply.Work old a (work, same) = rw work refl
parks_told m reply.AllAsleep old a (none, asleep, same) = rw (none, asleep) refl
parks_told m (reply.Mind until) old a (none, astir, minds, same) = rw (none, astir, minds) refl
parks_told m reply.LookAgain old a (none, astir, minds, marked, same) = rw (none, astir, minds, marked) refl
parks_told m reply.Parked old a (none, astir, minds, unmarked, ta, ca, is) = rw (none, astir, minds, unmarked) refl
parks_told m _ old a h = absurd h

-- Whole calls

module _ (limits : Limits) (m : MNo) (old a b : State) (fits : FitsTogether limits old) where
  -- the goroutine that m runs, or whose call it makes, is one, and so is what is told of it
  told_of_one : (tell : GNo → Reply) (answer too : Reply) (g k : GNo) → IsHeld old.table g m → IsHeld old.table k m → answer ≡ tell g → too ≡ tell k → answer ≡ too
  told_of_one tell answer too g k held held_too is is_too = is ∙ ap tell (fits.one_goroutine m g k held held_too) ∙ sym is_too

  -- it runs on, or its ticket is on the shelf
  leaves_one : (g k : GNo) (number : ℕ) (answer too : Reply) → IsHeld old.table g m → IsHeld old.table k m → Step.LeavesBy m g number answer old a → Step.LeavesBy m k number too old b
      → AreAlike (call.Leave number) answer too → answer ≡ too
  leaves_one g k number (reply.Runs p) (reply.Runs q) held held_too h j alike = ap reply.Runs alike
  leaves_one g k number (reply.Shelved r) (reply.Shelved t) held held_too ((next, is), h, same) ((next_too, is_too), j, same_too) alike =
      ap reply.Shelved (next ∙ ap (next_of old.table) (fits.one_goroutine m g k held held_too) ∙ sym next_too)
  leaves_one g k number (reply.Runs p) (reply.Shelved t) held held_too h j alike = absurd (open_none old.machines p j.1.0 h.1.0)
  leaves_one g k number (reply.Shelved r) (reply.Runs q) held held_too h j alike = absurd (open_none old.machines q h.1.0 j.1.0)
  leaves_one g k number (reply.Runs p) _ held held_too h j alike = absurd j.0
  leaves_one g k number (reply.Shelved r) _ held held_too h j alike = absurd j.0
  leaves_one g k number _ too held held_too h j alike = absurd h.0

  reply_one : (c : Call) (answer too : Reply) → Step.Effect limits m c answer old a → Step.Effect limits m c too old b → AreAlike c answer too → answer ≡ too
  reply_one call.Acquire answer too (h, ta, ca) (k, tb, cb) alike = acquires_one m answer too old.machines a.machines b.machines h k alike
  reply_one call.Take answer too (awake, (h, ca, ma)) (awake_too, (k, cb, mb)) alike = takes_one answer too old.table a.table b.table h k alike
  reply_one (call.Put r) answer too (awake, (h, ca, ma)) (awake_too, (k, cb, mb)) alike = puts_told r answer old.table a.table h ∙ sym (puts_told r too old.table b.table k)
  reply_one (call.Claim r) answer too (free, holds, (h, ca, ma)) (free_too, holds_too, (k, cb, mb)) alike =
      claims_told m r answer old.table a.table h ∙ sym (claims_told m r too old.table b.table k)
  reply_one (call.Go h) answer too (g, runs, (x, ca, ma)) (k, runs_too, (y, cb, mb)) alike = starts_told h answer old.table a.table x ∙ sym (starts_told h too old.table b.table y)
  reply_one call.Spawn answer too (g, runs, (x, ca, ma)) (k, runs_too, (y, cb, mb)) alike = spawns_one answer too old.table a.table b.table x y alike
  reply_one call.Yield answer too (g, runs, (x, ca, ma)) (k, runs_too, (y, cb, mb)) alike =
      told_of_one (λ (i : GNo). reply.Shelved (next_of old.table i)) answer too g k (inl runs) (inl runs_too) (yields_told g answer old.table a.table x) (yields_told k too old.table b.table y)
  reply_one call.Exit answer too (g, runs, (x, ca, ma)) (k, runs_too, (y, cb, mb)) alike =
      told_of_one (λ (i : GNo). cond (eqb i.0 0) reply.MainEnded reply.Dead) answer too g k (inl runs) (inl runs_too)
      (exits_told g answer old.table a.table x) (exits_told k too old.table b.table y)
  reply_one (call.Make capacity) answer too (g, runs, (x, ta, ma)) (k, runs_too, (y, tb, mb)) alike = makes_one limits capacity answer too old.channels a.channels b.channels x y
  reply_one (call.Send c v) answer too (g, runs, x) (k, runs_too, y) alike = deals_one g k (case.Send c v) answer too old a b x y
  reply_one (call.Recv c) answer too (g, runs, x) (k, runs_too, y) alike = deals_one g k (case.Recv c) answer too old a b x y
  reply_one (call.Close c) answer too (g, runs, x) (k, runs_too, y) alike = closes_told c answer old a x ∙ sym (closes_told c too old b y)
  reply_one (call.Len c) answer too (g, runs, (x, ta, ma)) (k, runs_too, (y, tb, mb)) alike =
      tells_told _ c answer old.channels a.channels x ∙ sym (tells_told _ c too old.channels b.channels y)
  reply_one (call.Cap c) answer too (g, runs, (x, ta, ma)) (k, runs_too, (y, tb, mb)) alike =
      tells_told _ c answer old.channels a.channels x ∙ sym (tells_told _ c too old.channels b.channels y)
  reply_one (call.Procs n) answer too (g, runs, (x, ta, ca)) (k, runs_too, (y, tb, cb)) alike =
      sets_told n answer old.machines a.machines x ∙ sym (sets_told n too old.machines b.machines y)
  reply_one (call.Select cases has_default until) answer too (few, (g, runs, x)) (few_too, (k, runs_too, y)) alike = selects_one g k cases has_default until old a b answer too x y alike
  reply_one (call.Sleep until) answer too (g, runs, (x, ca, ma)) (k, runs_too, (y, cb, mb)) alike =
      sleeps_told g until answer old.table a.table x ∙ sym (sleeps_told k until too old.table b.table y)
  reply_one call.Gopark answer too (g, runs, (x, ca, ma)) (k, runs_too, (y, cb, mb)) alike = goparks_told g answer old.table a.table x ∙ sym (goparks_told k too old.table b.table y)
  reply_one (call.Ready h) answer too (g, runs, (x, ca, ma)) (k, runs_too, (y, cb, mb)) alike = readies_told h answer old.table a.table x ∙ sym (readies_told h too old.table b.table y)
  reply_one call.Enter answer too (g, runs, (ta, x, ca)) (k, runs_too, (tb, y, cb)) alike = enters_one m answer too old.machines a.machines b.machines (fits.one_processor m) x y alike
  reply_one (call.Leave number) answer too (g, calls, x) (k, calls_too, y) alike = leaves_one g k number answer too (inr calls) (inr calls_too) x y alike
  reply_one call.Spin answer too (free, (x, ta, ca)) (free_too, (y, tb, cb)) alike = spins_told m answer old.machines a.machines x ∙ sym (spins_told m too old.machines b.machines y)
  reply_one call.Woken answer too (x, ta, ca) (y, tb, cb) alike = looks_told m answer old.machines a.machines x ∙ sym (looks_told m too old.machines b.machines y)
  reply_one call.Keep answer too (x, ta, ca) (y, tb, cb) alike = keeps_one m answer too old.machines a.machines b.machines (fits.one_processor m) x y
  reply_one call.Unspin answer too (x, ta, ca) (y, tb, cb) alike = unspins_told m answer old.machines a.machines x ∙ sym (unspins_told m too old.machines b.machines y)
  reply_one call.Poke answer too (x, ta, ca) (y, tb, cb) alike = pokes_one m answer too old.machines a.machines b.machines x y alike
  reply_one call.Declare answer too (free, (x, ta, ca)) (free_too, (y, tb, cb)) alike = declares_one m answer too old.machines a.machines b.machines (fits.one_processor m) x y
  reply_one call.Bare answer too (x, ta, ca) (y, tb, cb) alike = bares_told m answer old.machines a.machines x ∙ sym (bares_told m too old.machines b.machines y)
  reply_one call.Park answer too (bare, x) (bare_too, y) alike = parks_told m answer old a x ∙ sym (parks_told m too old b y)
  reply_one (call.Tick moment) answer too (awake, (x, ca, ma)) (awake_too, (y, cb, mb)) alike =
      ticks_told moment answer old.table a.table x ∙ sym (ticks_told moment too old.table b.table y)

-- in a state whose parts fit together, two replies to one call are one where what the scheduler may choose is chosen alike
pub reply_fixed : (limits : Limits) (m : MNo) (old a b : State) → FitsTogether limits old
    → (c : Call) (answer too : Reply) → Step.Effect limits m c answer old a → Step.Effect limits m c too old b → AreAlike c answer too → answer ≡ too
reply_fixed = reply_one
