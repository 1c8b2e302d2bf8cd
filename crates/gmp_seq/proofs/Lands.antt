-- What a step may bring a goroutine to.
use Rattle.std.proofs.Common.{◌≡◌, ◌⊎◌, inl, inr, ℕ, zero, suc, ◌+◌, Bool, true, false, Option, None, Some, List, [], ◌∷◌, map, set, max, refl, sym, ap, subst, ◌∙◌}
use Rattle.std.proofs.lemmas.List.Elements.{All-head, All-tail, All-cons, All-nil}
use Rattle.std.specs.List.{slice_get, All}
use Rattle.std.specs.Option.{option_map}
use Rattle.std.specs.Prelude.{IfSome}
use Rattle.gmp_base.specs.declared.ask.Fault.TheVariants as fault
use Rattle.gmp_base.specs.declared.ask.Woke.{Woke}
use Rattle.gmp_base.specs.declared.cases.Case.{Case}
use Rattle.gmp_base.specs.declared.cases.Case.TheVariants as case
use Rattle.gmp_base.specs.declared.number.CNo.{CNo}
use Rattle.gmp_base.specs.declared.number.GNo.{GNo}
use Rattle.gmp_base.specs.declared.number.MNo.{MNo}
use Rattle.gmp_base.specs.declared.number.Readiness.{Readiness}
use Rattle.gmp_base.specs.Fits.{FitsCase, IsWord}
use Rattle.gmp_seq.proofs.Epochs.{at_set}
use Rattle.gmp_seq.proofs.Manned.{status_of}
use Rattle.gmp_seq.proofs.Waiting.{In, first_waits}
use Rattle.gmp_seq.specs.declared.call.Call.{Call}
use Rattle.gmp_seq.specs.declared.call.Call.TheVariants as call
use Rattle.gmp_seq.specs.declared.call.Limits.{Limits}
use Rattle.gmp_seq.specs.declared.call.Reply.{Reply}
use Rattle.gmp_seq.specs.declared.call.Reply.TheVariants as reply
use Rattle.gmp_seq.specs.declared.call.Taken.{Taken}
use Rattle.gmp_seq.specs.declared.status.Deal.{Deal}
use Rattle.gmp_seq.specs.declared.status.Deal.TheVariants as deal
use Rattle.gmp_seq.specs.declared.status.Direction.TheVariants.{Sending, Receiving}
use Rattle.gmp_seq.specs.declared.status.Goroutine.{Goroutine}
use Rattle.gmp_seq.specs.declared.status.Kind.{Kind}
use Rattle.gmp_seq.specs.declared.status.Offer.{Offer}
use Rattle.gmp_seq.specs.declared.status.TicketPlace.{TicketPlace}
use Rattle.gmp_seq.specs.declared.status.TicketPlace.TheVariants.{Shelf, Out}
use Rattle.gmp_seq.specs.declared.status.Status.{Status}
use Rattle.gmp_seq.specs.declared.status.Status.TheVariants as status
use Rattle.gmp_seq.specs.declared.status.Transfer.TheVariants.{Handed, Relayed}
use Rattle.gmp_seq.specs.declared.status.Wait.{Wait}
use Rattle.gmp_seq.specs.Fits.{FitsCall}
use Rattle.gmp_seq.specs.State.{State}
use Rattle.gmp_seq.specs.Step
use Rattle.gmp_seq.specs.Laws.{is_ready}
use Rattle.gmp_seq.specs.Table.{Table, IsReady, status_at, is_parked, is_startable, set_status, made_ready, made_wait, all_woken, woken_with, due_answer}
use Rattle.gmp_seq.specs.Waits.{offers_from, offers_of, close_answer}

-- an offered value is a word
abbrev pub IsWordyDeal : Deal → Type 0
IsWordyDeal (deal.Send v) = IsWord v
IsWordyDeal deal.Receive = Unit

-- all values that a wait offers are words, and so is its deadline
pub record IsWordyWait (x : Wait) : Type 0 where
  pub offers : (o : Offer) → In o x.offers → IsWordyDeal o.deal
  pub until : (moment : ℕ) → x.until ≡ Some moment → IsWord moment

-- a goroutine that was ready is to be told the same
abbrev pub KeepsWoke : Option Status → Woke → Type 0
KeepsWoke (Some (status.Ready place b)) a = b ≡ a
KeepsWoke _ a = Unit

-- where the call brings goroutine i to this status: a wait is of words where the call is, main is dead only where it was its exit, and
-- what a ready goroutine is to be told stays
abbrev pub Lands : Call → Reply → Option Status → ℕ → Status → Type 0
Lands c answer before i (status.Waiting x) = FitsCall c → IsWordyWait x
Lands c answer before i status.Dead = i ≡ 0 → answer ≡ reply.MainEnded
Lands c answer before i (status.Ready place a) = KeepsWoke before a
Lands c answer before i _ = Unit

-- a goroutine's status is as it was, or P allows it
abbrev pub Into : (Option Status → ℕ → Status → Type 0) → List Goroutine → List Goroutine → Type 0
Into P old new = (i : ℕ) (s : Status) → status_of (slice_get new i) ≡ Some s → (status_of (slice_get old i) ≡ Some s) ⊎ P (status_of (slice_get old i)) i s

-- one row is written
into_set : (P : Option Status → ℕ → Status → Type 0) (gs : List Goroutine) (k : ℕ) (y : Goroutine) → P (status_of (slice_get gs k)) k y.status → Into P gs (set gs k y)
into_set P gs k y h i s =
    at_set (λ (o : Option Goroutine). status_of o ≡ Some s → (status_of (slice_get gs i) ≡ Some s) ⊎ P (status_of (slice_get gs i)) i s) gs k i y
    (λ same e. let is : y.status ≡ s = cc in inr (subst (λ (n : ℕ). P (status_of (slice_get gs n)) n s) same (subst (P (status_of (slice_get gs k)) k) is h)))
    (λ e. inl e)

-- those with an answer become ready
into_woken : (P : Option Status → ℕ → Status → Type 0) (answer : Status → Option Woke)
    → ((i : ℕ) (before : Status) (a : Woke) → answer before ≡ Some a → P (Some before) i (status.Ready Shelf a)) → (gs : List Goroutine)
    → Into P gs (map (λ (x : Goroutine). woken_with (answer x.status) x) gs)
into_woken P answer h [] i s e = absurd cc
into_woken P answer h (y ∷ gs) zero s e = by_answer (answer y.status) refl e where
  by_answer : (o : Option Woke) → answer y.status ≡ o → Some (woken_with o y).status ≡ Some s → (Some y.status ≡ Some s) ⊎ P (Some y.status) 0 s
  by_answer None is e = inl e
  by_answer (Some a) is e = let same : status.Ready Shelf a ≡ s = cc in inr (subst (P (Some y.status) 0) same (h 0 y.status a is))
into_woken P answer h (y ∷ gs) (suc i) s e = into_woken (λ o n. P o (suc n)) answer (λ n. h (suc n)) gs i s e

-- who wasn't ready is to be told anything
unready_keeps : (o : Option Status) (s : Status) (a : Woke) → o ≡ Some s → is_ready s ≡ false → KeepsWoke o a
unready_keeps o (status.Ready place b) a e unready = absurd cc
unready_keeps o status.Dormant a e unready = subst (λ (x : Option Status). KeepsWoke x a) (sym e) tt
unready_keeps o (status.Running m) a e unready = subst (λ (x : Option Status). KeepsWoke x a) (sym e) tt
unready_keeps o (status.Calling m) a e unready = subst (λ (x : Option Status). KeepsWoke x a) (sym e) tt
unready_keeps o (status.Waiting w) a e unready = subst (λ (x : Option Status). KeepsWoke x a) (sym e) tt
unready_keeps o status.Dead a e unready = subst (λ (x : Option Status). KeepsWoke x a) (sym e) tt

parked_keeps : (o : Option Status) (a : Woke) → option_map is_parked o ≡ Some true → KeepsWoke o a
parked_keeps (Some (status.Ready place b)) a e = absurd cc
parked_keeps _ a e = tt

startable_keeps : (o : Option Status) (a : Woke) → option_map is_startable o ≡ Some true → KeepsWoke o a
startable_keeps (Some (status.Ready place b)) a e = absurd cc
startable_keeps _ a e = tt

due_keeps : (now : ℕ) (before : Status) (a : Woke) → due_answer now before ≡ Some a → KeepsWoke (Some before) a
due_keeps now (status.Ready place b) a e = absurd cc
due_keeps now _ a e = tt

close_keeps : (d : CNo) (before : Status) (a : Woke) → close_answer d before ≡ Some a → KeepsWoke (Some before) a
close_keeps d (status.Ready place b) a e = absurd cc
close_keeps d _ a e = tt

-- The offers of a call's cases are words where the cases are

offers_wordy : (n : ℕ) (cases : List Case) → All FitsCase cases → (o : Offer) → In o (offers_from n cases) → IsWordyDeal o.deal
offers_wordy n [] fit o h = absurd h
offers_wordy n (case.Send None v ∷ cases) fit o h = offers_wordy (n + 1) cases (All-tail FitsCase _ cases fit) o h
offers_wordy n (case.Send (Some c) v ∷ cases) fit o (inl same) = subst (λ (x : Offer). IsWordyDeal x.deal) same (All-head FitsCase (case.Send (Some c) v) cases fit).1
offers_wordy n (case.Send (Some c) v ∷ cases) fit o (inr h) = offers_wordy (n + 1) cases (All-tail FitsCase _ cases fit) o h
offers_wordy n (case.Recv None ∷ cases) fit o h = offers_wordy (n + 1) cases (All-tail FitsCase _ cases fit) o h
offers_wordy n (case.Recv (Some c) ∷ cases) fit o (inl same) = subst (λ (x : Offer). IsWordyDeal x.deal) same tt
offers_wordy n (case.Recv (Some c) ∷ cases) fit o (inr h) = offers_wordy (n + 1) cases (All-tail FitsCase _ cases fit) o h

-- Calls, by their relations

module _ (c : Call) (answer : Reply) (old new : Table) where
  abbrev pub Moves : Type 0
  Moves = Into (Lands c answer) old.goroutines new.goroutines

  stays : new ≡ old → Moves
  stays is i s e = inl (subst (λ (t : Table). status_of (slice_get t.goroutines i) ≡ Some s) is e)

  turns : (g : GNo) (after : Status) → new ≡ set_status old g after → Lands c answer (status_at old g) g.0 after → Moves
  turns g after is h = subst (λ (t : Table). Into (Lands c answer) old.goroutines t.goroutines) (sym is) (into_set (Lands c answer) old.goroutines g.0 _ h)

  readied : (g : GNo) (place : TicketPlace) (woke : Woke) → new ≡ made_ready old g place woke → KeepsWoke (status_at old g) woke → Moves
  readied g place woke is h = subst (λ (t : Table). Into (Lands c answer) old.goroutines t.goroutines) (sym is) (into_set (Lands c answer) old.goroutines g.0 _ h)

  waits : (g : GNo) (why : Kind) (offers : List Offer) (until : Option ℕ) → new ≡ made_wait old g why offers until
      → (FitsCall c → IsWordyWait (record { arrival = old.arrivals; kind = why; offers = offers; until = until })) → Moves
  waits g why offers until is h = subst (λ (t : Table). Into (Lands c answer) old.goroutines t.goroutines) (sym is) (into_set (Lands c answer) old.goroutines g.0 _ h)

  woken : (told : Status → Option Woke) → ((before : Status) (a : Woke) → told before ≡ Some a → KeepsWoke (Some before) a) → new.goroutines ≡ (all_woken told old).goroutines → Moves
  woken told keeps is = subst (Into (Lands c answer) old.goroutines) (sym is) (into_woken (Lands c answer) told (λ i. keeps) old.goroutines)

-- who is ready by a ticket stays ready with the same answer
stays_told : (t : Table) (r : Readiness) (place : TicketPlace) (told : Woke) → IsReady t r place told → KeepsWoke (status_at t r.g) told
stays_told t r place told ready = subst (λ (o : Option Goroutine). KeepsWoke (status_of o) told) (sym ready) refl

takes : (c : Call) (answer : Reply) (old new : Table) → Step.Takes answer old new → Moves c answer old new
takes c (reply.Ticket r) old new (told, ready, is) = turns c (reply.Ticket r) old new r.g _ is (stays_told old r Shelf told ready)
takes c reply.Nothing old new (none, is) = stays c reply.Nothing old new is
takes c _ old new h = absurd h

puts : (c : Call) (r : Readiness) (answer : Reply) (old new : Table) → Step.Puts r answer old new → Moves c answer old new
puts c r reply.Shelf old new (told, ready, is) = turns c reply.Shelf old new r.g _ is (stays_told old r Out told ready)
puts c r _ old new h = absurd h

claims : (c : Call) (m : MNo) (r : Readiness) (answer : Reply) (old new : Table) → Step.Claims m r answer old new → Moves c answer old new
claims c m r reply.Held old new (told, ready, is) = turns c reply.Held old new r.g _ is tt
claims c m r _ old new h = absurd h

starts : (c : Call) (k : GNo) (answer : Reply) (old new : Table) → Step.Starts k answer old new → Moves c answer old new
starts c k (reply.Ticket r) old new (dormant, next, is) = readied c (reply.Ticket r) old new k _ _ is (unready_keeps _ status.Dormant _ dormant refl)
starts c k (reply.Fault fault.NoSuchBody) old new (none, is) = stays c (reply.Fault fault.NoSuchBody) old new is
starts c k (reply.Fault fault.AlreadyStarted) old new (started, is) = stays c (reply.Fault fault.AlreadyStarted) old new is
starts c k _ old new h = absurd h

spawns : (c : Call) (answer : Reply) (old new : Table) → Step.Spawns answer old new → Moves c answer old new
spawns c (reply.Ticket r) old new (startable, next, is) = readied c (reply.Ticket r) old new r.g _ _ is (startable_keeps (status_at old r.g) _ startable)
spawns c (reply.Fault fault.NoSuchBody) old new (none, is) = stays c (reply.Fault fault.NoSuchBody) old new is
spawns c _ old new h = absurd h

yields : (c : Call) (m : MNo) (g : GNo) (answer : Reply) (old new : Table) → status_at old g ≡ Some (status.Running m) → Step.Yields g answer old new → Moves c answer old new
yields c m g (reply.Shelved r) old new running (next, is) = readied c (reply.Shelved r) old new g _ _ is (unready_keeps _ (status.Running m) _ running refl)
yields c m g _ old new running h = absurd h

exits : (c : Call) (g : GNo) (answer : Reply) (old new : Table) → Step.Exits g answer old new → Moves c answer old new
exits c g reply.Dead old new (other, is) = turns c reply.Dead old new g _ is (λ main. absurd (other main))
exits c g reply.MainEnded old new (main, is) = turns c reply.MainEnded old new g _ is (λ same. refl)
exits c g _ old new h = absurd h

sleeps : (g : GNo) (until : ℕ) (answer : Reply) (old new : Table) → Step.Sleeps g until answer old new → Moves (call.Sleep until) answer old new
sleeps g until reply.Waits old new is =
    waits (call.Sleep until) reply.Waits old new g _ _ _ is
    (λ fits. record { offers = λ o h. absurd h; until = λ moment e. let same : until ≡ moment = cc in subst IsWord same fits })
sleeps g until _ old new h = absurd h

goparks : (c : Call) (g : GNo) (answer : Reply) (old new : Table) → Step.Goparks g answer old new → Moves c answer old new
goparks c g reply.Waits old new is = waits c reply.Waits old new g _ _ _ is (λ fits. record { offers = λ o h. absurd h; until = λ moment e. absurd cc })
goparks c g _ old new h = absurd h

readies : (c : Call) (k : GNo) (answer : Reply) (old new : Table) → Step.Readies k answer old new → Moves c answer old new
readies c k (reply.Ticket r) old new (parked, next, is) = readied c (reply.Ticket r) old new k _ _ is (parked_keeps (status_at old k) _ parked)
readies c k (reply.Fault fault.NoSuchBody) old new (none, is) = stays c (reply.Fault fault.NoSuchBody) old new is
readies c k (reply.Fault fault.NotParked) old new (other, is) = stays c (reply.Fault fault.NotParked) old new is
readies c k _ old new h = absurd h

resumes : (c : Call) (g : GNo) (m : MNo) (number : ℕ) (answer : Reply) (old new : Table) → status_at old g ≡ Some (status.Calling m) → Step.Resumes g m number answer old new → Moves c answer old new
resumes c g m number (reply.Runs p) old new calling is = turns c (reply.Runs p) old new g _ is tt
resumes c g m number (reply.Shelved r) old new calling (next, is) = readied c (reply.Shelved r) old new g _ _ is (unready_keeps _ (status.Calling m) _ calling refl)
resumes c g m number _ old new calling h = absurd h

ticks : (c : Call) (moment : ℕ) (answer : Reply) (old new : Table) → Step.Ticks moment answer old new → Moves c answer old new
ticks c moment (reply.Woke n) old new (is, count) = woken c (reply.Woke n) old new (due_answer (max old.clock moment)) (due_keeps (max old.clock moment)) (ap (λ (t : Table). t.goroutines) is)
ticks c moment _ old new h = absurd h

communicates : (c : Call) (answer : Reply) (x : Case) (told : Taken) (old new : State) → Step.Communicates x told old new → Moves c answer old.table new.table
communicates c answer (case.Send (Some d) v) told old new (Handed w, goes, told_is, is, machines) =
    readied c answer old.table new.table w.g _ _ is (unready_keeps _ _ _ (first_waits old.table d Receiving w goes.1).0.status refl)
communicates c answer (case.Recv (Some d)) told old new (Relayed v w, goes, told_is, is, machines) =
    readied c answer old.table new.table w.g _ _ is (unready_keeps _ _ _ (first_waits old.table d Sending w goes.1).0.status refl)
communicates c answer (case.Send None v) told old new (how, goes, told_is, is, machines) = absurd goes
communicates c answer (case.Recv None) told old new (how, goes, told_is, is, machines) = absurd goes
communicates c answer (case.Send (Some d) v) told old new (how, goes, told_is, is, machines) = stays c answer old.table new.table is
communicates c answer (case.Recv (Some d)) told old new (how, goes, told_is, is, machines) = stays c answer old.table new.table is

blocks : (c : Call) (answer : Reply) (g : GNo) (why : Kind) (cases : List Case) (until : Option ℕ) (old new : State) → Step.Blocks g why cases until old new
    → (FitsCall c → All FitsCase cases × ((moment : ℕ) → until ≡ Some moment → IsWord moment)) → Moves c answer old.table new.table
blocks c answer g why cases until old new (none, is, rest, more) fit =
    waits c answer old.table new.table g why (offers_of cases) until is (λ fits. record { offers = offers_wordy 0 cases (fit fits).0; until = (fit fits).1 })

deals : (c : Call) (g : GNo) (x : Case) (answer : Reply) (old new : State) → Step.Deals g x answer old new → (FitsCall c → FitsCase x) → Moves c answer old.table new.table
deals c g x (reply.Sent to) old new (made, h) fit = communicates c (reply.Sent to) x _ old new h
deals c g x (reply.Got v sent from) old new (made, h) fit = communicates c (reply.Got v sent from) x _ old new h
deals c g x (reply.Fault fault.SendOnClosed) old new (made, h) fit = communicates c (reply.Fault fault.SendOnClosed) x _ old new h
deals c g x reply.Waits old new (made, h) fit =
    blocks c reply.Waits g _ (x ∷ []) None old new h (λ fits. (All-cons FitsCase x [] (fit fits) (All-nil FitsCase), λ moment e. absurd cc))
deals c g x (reply.Fault fault.NoSuchChannel) old new (made, (is, rest, more)) fit = stays c (reply.Fault fault.NoSuchChannel) old.table new.table is
deals c g x _ old new h fit = absurd h

until_word : (until : Option ℕ) (moment : ℕ) → IfSome until IsWord → until ≡ Some moment → IsWord moment
until_word None moment fits e = absurd cc
until_word (Some x) moment fits e = let same : x ≡ moment = cc in subst IsWord same fits

selects : (g : GNo) (cases : List Case) (has_default : Bool) (until : Option ℕ) (answer : Reply) (old new : State) → Step.Selects g cases has_default until answer old new
    → Moves (call.Select cases has_default until) answer old.table new.table
selects g cases has_default until (reply.Chose i told) old new (made, x, at, h) = communicates (call.Select cases has_default until) (reply.Chose i told) x told old new h
selects g cases has_default until reply.Default old new (made, allowed, none, (is, rest, more)) = stays (call.Select cases has_default until) reply.Default old.table new.table is
selects g cases has_default until reply.Waits old new (made, no_default, h) =
    blocks (call.Select cases has_default until) reply.Waits g _ cases until old new h
    (λ fits. (fits.1, λ moment. until_word until moment fits.2))
selects g cases has_default until (reply.Fault fault.NoSuchChannel) old new (made, (is, rest, more)) =
    stays (call.Select cases has_default until) (reply.Fault fault.NoSuchChannel) old.table new.table is
selects g cases has_default until _ old new h = absurd h

closes : (c : Call) (d : Option CNo) (answer : Reply) (old new : State) → Step.Closes d answer old new → Moves c answer old.table new.table
closes c (Some d) (reply.Closed n) old new (made, open_, channels, is, count, machines) =
    woken c (reply.Closed n) old.table new.table (close_answer d) (close_keeps d) (ap (λ (t : Table). t.goroutines) is)
closes c (Some d) (reply.Fault fault.CloseOfClosed) old new (made, closed, (is, rest, more)) = stays c (reply.Fault fault.CloseOfClosed) old.table new.table is
closes c (Some d) (reply.Fault fault.NoSuchChannel) old new (made, (is, rest, more)) = stays c (reply.Fault fault.NoSuchChannel) old.table new.table is
closes c None (reply.Fault fault.CloseOfNil) old new (is, rest, more) = stays c (reply.Fault fault.CloseOfNil) old.table new.table is
closes c _ _ old new h = absurd h

parks : (c : Call) (m : MNo) (answer : Reply) (old new : State) → Step.Parks m answer old new → Moves c answer old.table new.table
parks c m reply.Work old new (work, (is, rest, more)) = stays c reply.Work old.table new.table is
parks c m reply.AllAsleep old new (work, asleep, (is, rest, more)) = stays c reply.AllAsleep old.table new.table is
parks c m (reply.Mind until) old new (work, astir, minds, (is, rest, more)) = stays c (reply.Mind until) old.table new.table is
parks c m reply.LookAgain old new (work, astir, minds, marked, (is, rest, more)) = stays c reply.LookAgain old.table new.table is
parks c m reply.Parked old new (work, astir, minds, unmarked, is, rest, more) = stays c reply.Parked old.table new.table is
parks c m _ old new h = absurd h

pub effect_lands : (limits : Limits) (m : MNo) (c : Call) (answer : Reply) (old new : State) → Step.Effect limits m c answer old new → Moves c answer old.table new.table
effect_lands limits m call.Acquire answer old new (h, is, rest) = stays call.Acquire answer old.table new.table is
effect_lands limits m call.Take answer old new (awake, (h, rest, more)) = takes call.Take answer _ _ h
effect_lands limits m (call.Put r) answer old new (awake, (h, rest, more)) = puts (call.Put r) r answer _ _ h
effect_lands limits m (call.Claim r) answer old new (free, holds, (h, rest, more)) = claims (call.Claim r) m r answer _ _ h
effect_lands limits m (call.Go k) answer old new (g, running, (h, rest, more)) = starts (call.Go k) k answer _ _ h
effect_lands limits m call.Spawn answer old new (g, running, (h, rest, more)) = spawns call.Spawn answer _ _ h
effect_lands limits m call.Yield answer old new (g, running, (h, rest, more)) = yields call.Yield m g answer _ _ running h
effect_lands limits m call.Exit answer old new (g, running, (h, rest, more)) = exits call.Exit g answer _ _ h
effect_lands limits m (call.Make capacity) answer old new (g, running, (h, is, rest)) = stays (call.Make capacity) answer old.table new.table is
effect_lands limits m (call.Send c v) answer old new (g, running, h) = deals (call.Send c v) g (case.Send c v) answer old new h (λ fits. fits)
effect_lands limits m (call.Recv c) answer old new (g, running, h) = deals (call.Recv c) g (case.Recv c) answer old new h (λ fits. fits)
effect_lands limits m (call.Close c) answer old new (g, running, h) = closes (call.Close c) c answer old new h
effect_lands limits m (call.Len c) answer old new (g, running, (h, is, rest)) = stays (call.Len c) answer old.table new.table is
effect_lands limits m (call.Cap c) answer old new (g, running, (h, is, rest)) = stays (call.Cap c) answer old.table new.table is
effect_lands limits m (call.Procs n) answer old new (g, running, (h, is, rest)) = stays (call.Procs n) answer old.table new.table is
effect_lands limits m (call.Select cases has_default until) answer old new (few, (g, running, h)) = selects g cases has_default until answer old new h
effect_lands limits m (call.Sleep until) answer old new (g, running, (h, rest, more)) = sleeps g until answer _ _ h
effect_lands limits m call.Gopark answer old new (g, running, (h, rest, more)) = goparks call.Gopark g answer _ _ h
effect_lands limits m (call.Ready k) answer old new (g, running, (h, rest, more)) = readies (call.Ready k) k answer _ _ h
effect_lands limits m call.Enter answer old new (g, running, (is, rest, more)) = turns call.Enter answer old.table new.table g _ is tt
effect_lands limits m (call.Leave number) answer old new (g, calling, (h, rest, more)) = resumes (call.Leave number) g m number answer _ _ calling h
effect_lands limits m call.Spin answer old new (free, (h, is, rest)) = stays call.Spin answer old.table new.table is
effect_lands limits m call.Woken answer old new (h, is, rest) = stays call.Woken answer old.table new.table is
effect_lands limits m call.Keep answer old new (h, is, rest) = stays call.Keep answer old.table new.table is
effect_lands limits m call.Unspin answer old new (h, is, rest) = stays call.Unspin answer old.table new.table is
effect_lands limits m call.Poke answer old new (h, is, rest) = stays call.Poke answer old.table new.table is
effect_lands limits m call.Declare answer old new (free, (h, is, rest)) = stays call.Declare answer old.table new.table is
effect_lands limits m call.Bare answer old new (h, is, rest) = stays call.Bare answer old.table new.table is
effect_lands limits m call.Park answer old new (bare, h) = parks call.Park m answer old new h
effect_lands limits m (call.Tick moment) answer old new (awake, (h, rest, more)) = ticks (call.Tick moment) moment answer _ _ h

-- what a ready goroutine is to be told stays, while it is ready
pub step_keeps_woke : (limits : Limits) (m : MNo) (c : Call) (answer : Reply) (old new : State) → Step.Step limits m c answer old new → (g : GNo) (p q : TicketPlace) (a b : Woke)
    → status_at old.table g ≡ Some (status.Ready p a) → status_at new.table g ≡ Some (status.Ready q b) → a ≡ b
step_keeps_woke limits m c answer old new (ongoing, effect, counted, ended) g p q a b was is =
    elim (effect_lands limits m c answer old new effect g.0 (status.Ready q b) is) [
      | inl still ↦
          let both : Some (status.Ready p a) ≡ Some (status.Ready q b) = sym was ∙ still in
          let same : status.Ready p a ≡ status.Ready q b = cc in
          told_same p q a b same
      | inr keeps ↦ subst (λ (o : Option Status). KeepsWoke o b) was keeps
    ] where
      told_same : (p q : TicketPlace) (a b : Woke) → status.Ready p a ≡ status.Ready q b → a ≡ b
      told_same p q a b e = cc
