-- How the bodies and owners that are in a book change by each call and reply.
use Rattle.std.proofs.Common.{◌≡◌, ℕ, Bool, true, false, not, max, Option, None, Some, List, [], ◌∷◌, map, set, slice_get, is_some, refl, sym, ap, ◌∙◌, inl, inr}
use Rattle.std.specs.Prelude.{is_none}
use Rattle.std.specs.Option.{option_map}
use Rattle.std.proofs.lemmas.Bool.{false≢true}
use Rattle.gmp_base.specs.declared.ask.Fault.TheVariants as fault
use Rattle.gmp_base.specs.declared.ask.Woke.{Woke}
use Rattle.gmp_base.specs.declared.cases.Case.{Case}
use Rattle.gmp_base.specs.declared.cases.Case.TheVariants as case
use Rattle.gmp_base.specs.declared.number.CNo.{CNo}
use Rattle.gmp_base.specs.declared.number.GNo.{GNo}
use Rattle.gmp_base.specs.declared.number.MNo.{MNo}
use Rattle.gmp_base.specs.declared.number.PNo.{PNo}
use Rattle.gmp_seq.specs.declared.call.Call.{Call}
use Rattle.gmp_seq.specs.declared.call.Call.TheVariants as call
use Rattle.gmp_seq.specs.declared.call.Limits.{Limits}
use Rattle.gmp_seq.specs.declared.call.Reply.{Reply}
use Rattle.gmp_seq.specs.declared.call.Reply.TheVariants as reply
use Rattle.gmp_seq.specs.declared.call.Taken.{Taken}
use Rattle.gmp_seq.specs.declared.status.Direction.TheVariants.{Sending, Receiving}
use Rattle.gmp_seq.specs.declared.status.Goroutine.{Goroutine}
use Rattle.gmp_seq.specs.declared.status.Kind.{Kind}
use Rattle.gmp_seq.specs.declared.status.Offer.{Offer}
use Rattle.gmp_seq.specs.declared.status.Status.{Status}
use Rattle.gmp_seq.specs.declared.status.Status.TheVariants as status
use Rattle.gmp_seq.specs.declared.status.Transfer.TheVariants.{Handed, Relayed}
use Rattle.gmp_seq.specs.Machines.{Machines, Holds, IsIdle}
use Rattle.gmp_seq.specs.State.{State, SameTable, SameMachines}
use Rattle.gmp_seq.specs.Step.{Effect, Communicates, Deals, Selects, Closes, Parks}
use Rattle.gmp_seq.specs.Table.{Table, IsHeld, IsRunning, due_answer, is_held, is_parked, is_startable, made_wait, status_at, woken_with}
use Rattle.gmp_seq.specs.Waits.{close_answer}
use Rattle.gmp_seq.proofs.OneEach.{row_at}
use Rattle.gmp_seq.proofs.Waiting.{first_waits}
use Rattle.gmp_book.specs.declared.values.Way.{Way}
use Rattle.gmp_book.specs.declared.values.Way.TheVariants as way
use Rattle.gmp_book.specs.Hands.{claimed, way_of}
use Rattle.gmp_book.specs.Kinds.{gives_body, gives_proc, goes_on, hands_called, hands_held, hands_proc}
use Rattle.gmp_book.proofs.Bodies.{is_in, set_map, set_same}

-- What changes

-- whose body is in
abbrev pub ins : Table → List Bool
ins t = map is_in t.goroutines

-- whose owner is in
abbrev pub idles : Machines → List Bool
idles w = map is_none w.holders

-- the same bodies and owners are in
abbrev pub Still : State → State → Type 0
Still old new = (ins new.table ≡ ins old.table) × (idles new.machines ≡ idles old.machines)

-- How they change

-- by the way of the body
abbrev pub BodyMoves : Way → Call → MNo → Table → Table → Type 0
BodyMoves way.Stays c m old new = ins new ≡ ins old
BodyMoves way.Home c m old new = (goes_on c ≡ false) × (hands_called c ≡ not (hands_held c)) × (g : GNo) × IsHeld old g m × (ins new ≡ set (ins old) g.0 true)
BodyMoves way.OutOfPlace c m old new =
    (gives_body c ≡ true) × (hands_held c ≡ false) × (x : Goroutine) × (slice_get old.goroutines (claimed c).0 ≡ Some x) × (is_in x ≡ true) × (ins new ≡ set (ins old) (claimed c).0 false)
BodyMoves way.IntoCall c m old new = (hands_proc c ≡ true) × (hands_called c ≡ false) × (ins new ≡ ins old)
BodyMoves way.OutOfCall c m old new = (hands_called c ≡ true) × (hands_held c ≡ false) × (ins new ≡ ins old)

-- the owner of p comes out
abbrev pub GivesOwner : PNo → Call → Machines → Machines → Type 0
GivesOwner p c old new = (gives_proc c ≡ true) × (hands_held c ≡ false) × (hands_proc c ≡ false) × IsIdle old p × (idles new ≡ set (idles old) p.0 false)

-- the owner of p, which m holds, comes in
abbrev pub TakesOwner : PNo → Call → MNo → Machines → Machines → Type 0
TakesOwner p c m old new = (hands_proc c ≡ true) × Holds old m p × (idles new ≡ set (idles old) p.0 true)

-- by the reply
abbrev pub OwnerMoves : Reply → Call → MNo → Machines → Machines → Type 0
OwnerMoves (reply.Proc p) c m old new = GivesOwner p c old new
OwnerMoves (reply.Runs p) c m old new = GivesOwner p c old new
OwnerMoves (reply.Entered p woken) c m old new = TakesOwner p c m old new
OwnerMoves (reply.Idle p) c m old new = TakesOwner p c m old new
OwnerMoves _ c m old new = idles new ≡ idles old

abbrev pub BothMove : Call → Reply → MNo → State → State → Type 0
BothMove c answer m old new = BodyMoves (way_of answer) c m old.table new.table × OwnerMoves answer c m old.machines new.machines

-- Parts that stay, and one that changes

same_ins : (old new : Table) → new ≡ old → ins new ≡ ins old
same_ins old new is = ap ins is

same_idles : (old new : Machines) → new ≡ old → idles new ≡ idles old
same_idles old new is = ap idles is

still : (old new : State) → SameTable old new → SameMachines old new → Still old new
still old new is machines = (same_ins old.table new.table is, same_idles old.machines new.machines machines)

rows : (new t : Table) → new ≡ t → new.goroutines ≡ t.goroutines
rows new t is = ap (λ (u : Table). u.goroutines) is

one_in : (old new : Table) (g : GNo) (y : Goroutine) → new.goroutines ≡ set old.goroutines g.0 y → ins new ≡ set (ins old) g.0 (is_in y)
one_in old new g y is = ap (λ (xs : List Goroutine). map is_in xs) is ∙ set_map is_in old.goroutines g.0 y

-- a status changes, and the body stays where it is
turns : (old new : Table) (g : GNo) (s : Status) (y : Goroutine) → status_at old g ≡ Some s → is_held s ≡ is_held y.status → new.goroutines ≡ set old.goroutines g.0 y → ins new ≡ ins old
turns old new g s y was same is =
    let row = row_at old g s was in
    ap (λ (xs : List Goroutine). map is_in xs) is
    ∙ set_same is_in old.goroutines g.0 row.0 y row.1 (ap (λ (x : Status). not (is_held x)) row.2 ∙ ap not same)

holders : (new w : Machines) → new ≡ w → new.holders ≡ w.holders
holders new w is = ap (λ (u : Machines). u.holders) is

one_idle : (old new : Machines) (p : PNo) (holder : Option MNo) → new.holders ≡ set old.holders p.0 holder → idles new ≡ set (idles old) p.0 (is_none holder)
one_idle old new p holder is = ap (λ (xs : List (Option MNo)). map is_none xs) is ∙ set_map is_none old.holders p.0 holder

-- Those who are woken

woken_row : (answer : Status → Option Woke) → ((s : Status) → is_some (answer s) ≡ true → is_held s ≡ false) → (x : Goroutine) → is_in (woken_with (answer x.status) x) ≡ is_in x
woken_row answer free x = by_answer (answer x.status) refl
  where
    by_answer : (o : Option Woke) → answer x.status ≡ o → is_in (woken_with o x) ≡ is_in x
    by_answer None e = refl
    by_answer (Some told) e = sym (ap not (free x.status (ap is_some e)))

woken_rows : (answer : Status → Option Woke) → ((s : Status) → is_some (answer s) ≡ true → is_held s ≡ false) → (xs : List Goroutine)
    → map is_in (map (λ (x : Goroutine). woken_with (answer x.status) x) xs) ≡ map is_in xs
woken_rows answer free [] = refl
woken_rows answer free (x ∷ xs) =
    ap (λ (b : Bool). b ∷ map is_in (map (λ (u : Goroutine). woken_with (answer u.status) u) xs)) (woken_row answer free x)
    ∙ ap (λ (bs : List Bool). is_in x ∷ bs) (woken_rows answer free xs)

close_free : (c : CNo) (s : Status) → is_some (close_answer c s) ≡ true → is_held s ≡ false
close_free c (status.Running m) h = absurd (false≢true h)
close_free c (status.Calling m) h = absurd (false≢true h)
close_free c _ h = refl

due_free : (now : ℕ) (s : Status) → is_some (due_answer now s) ≡ true → is_held s ≡ false
due_free now (status.Running m) h = absurd (false≢true h)
due_free now (status.Calling m) h = absurd (false≢true h)
due_free now _ h = refl

startable_status : (o : Option Status) → option_map is_startable o ≡ Some true → (s : Status) × (o ≡ Some s) × (is_held s ≡ false)
startable_status (Some status.Dormant) e = (status.Dormant, refl, refl)
startable_status (Some status.Dead) e = (status.Dead, refl, refl)
startable_status None e = absurd cc
startable_status (Some s) e = absurd cc

parked_status : (o : Option Status) → option_map is_parked o ≡ Some true → (s : Status) × (o ≡ Some s) × (is_held s ≡ false)
parked_status None e = absurd cc
parked_status (Some (status.Running m)) e = absurd cc
parked_status (Some (status.Calling m)) e = absurd cc
parked_status (Some s) e = (s, refl, refl)

-- Communications

communicates : (c : Case) (told : Taken) (old new : State) → Communicates c told old new → Still old new
communicates (case.Send (Some c) v) told old new (Handed w, how, told_is, is, machines) =
    (turns old.table new.table w.g _ _ (first_waits old.table c Receiving w how.1).0.status refl (rows new.table _ is), same_idles old.machines new.machines machines)
communicates (case.Recv (Some c)) told old new (Relayed v w, how, told_is, is, machines) =
    (turns old.table new.table w.g _ _ (first_waits old.table c Sending w how.1).0.status refl (rows new.table _ is), same_idles old.machines new.machines machines)
communicates (case.Send None v) told old new (how, never, told_is, is, machines) = absurd never
communicates (case.Recv None) told old new (how, never, told_is, is, machines) = absurd never
communicates (case.Send (Some c) v) told old new (how, _, told_is, is, machines) = still old new is machines
communicates (case.Recv (Some c)) told old new (how, _, told_is, is, machines) = still old new is machines

-- A call of the goroutine g, which runs on m

module _ (asked : Call) (m : MNo) (g : GNo) (old new : State) (rests : goes_on asked ≡ false) (only : hands_called asked ≡ not (hands_held asked)) (runs : IsRunning old.table g m) where
  waits : (why : Kind) (offers : List Offer) (until : Option ℕ) → new.table ≡ made_wait old.table g why offers until → SameMachines old new → BothMove asked reply.Waits m old new
  waits why offers until is machines = ((rests, only, g, inl runs, one_in old.table new.table g _ (rows new.table (made_wait old.table g why offers until) is)), same_idles old.machines new.machines machines)

  deals : (c : Case) (answer : Reply) → Deals g c answer old new → BothMove asked answer m old new
  deals c (reply.Sent to) (made, h) = communicates c _ old new h
  deals c (reply.Got v sent from) (made, h) = communicates c _ old new h
  deals c (reply.Fault fault.SendOnClosed) (made, h) = communicates c _ old new h
  deals c reply.Waits (made, (blocked, is, rest, machines)) = waits _ _ _ is machines
  deals c (reply.Fault fault.NoSuchChannel) (made, (is, rest, machines)) = still old new is machines
  deals c _ h = absurd h

  selects : (cases : List Case) (has_default : Bool) (until : Option ℕ) (answer : Reply) → Selects g cases has_default until answer old new → BothMove asked answer m old new
  selects cases has_default until (reply.Chose i told) (made, c, at, h) = communicates c told old new h
  selects cases has_default until reply.Default (made, default, none, (is, rest, machines)) = still old new is machines
  selects cases has_default until reply.Waits (made, default, (blocked, is, rest, machines)) = waits _ _ _ is machines
  selects cases has_default until (reply.Fault fault.NoSuchChannel) (missing, (is, rest, machines)) = still old new is machines
  selects cases has_default until _ h = absurd h

closes : (asked : Call) (m : MNo) (c : Option CNo) (answer : Reply) (old new : State) → Closes c answer old new → BothMove asked answer m old new
closes asked m (Some c) (reply.Closed n) old new (made, open_, channels, is, count, machines) =
    (ap ins is ∙ woken_rows (close_answer c) (close_free c) old.table.goroutines, same_idles old.machines new.machines machines)
closes asked m (Some c) (reply.Fault fault.CloseOfClosed) old new (made, closed, (is, rest, machines)) = still old new is machines
closes asked m (Some c) (reply.Fault fault.NoSuchChannel) old new (made, (is, rest, machines)) = still old new is machines
closes asked m None (reply.Fault fault.CloseOfNil) old new (is, rest, machines) = still old new is machines
closes asked m _ _ old new h = absurd h

parks : (asked : Call) (m : MNo) (answer : Reply) (old new : State) → Parks m answer old new → BothMove asked answer m old new
parks asked m reply.Work old new (work, (is, rest, machines)) = still old new is machines
parks asked m reply.AllAsleep old new (work, asleep, (is, rest, machines)) = still old new is machines
parks asked m (reply.Mind until) old new (work, astir, minds, (is, rest, machines)) = still old new is machines
parks asked m reply.LookAgain old new (work, astir, minds, marked, (is, rest, machines)) = still old new is machines
parks asked m reply.Parked old new (work, astir, minds, unmarked, is, rest, machines) = (same_ins old.table new.table is, ap idles machines)
parks asked m _ old new h = absurd h

-- All calls

pub moves : (limits : Limits) (m : MNo) (c : Call) (answer : Reply) (old new : State) → Effect limits m c answer old new → BothMove c answer m old new
moves limits m call.Acquire (reply.Proc p) old new (h, is, rest) =
    (same_ins old.table new.table is, (refl, refl, refl, h.2.0, one_idle old.machines new.machines p (Some m) (holders new.machines _ h.3)))
moves limits m call.Acquire reply.Nothing old new (h, is, rest) = (same_ins old.table new.table is, same_idles old.machines new.machines h.3)
moves limits m call.Acquire _ old new (h, is, rest) = absurd h
moves limits m call.Take (reply.Ticket r) old new (awake, ((told, ready, is), rest, machines)) =
    (turns old.table new.table r.g _ _ (ap (option_map (λ (x : Goroutine). x.status)) ready) refl (rows new.table _ is), same_idles old.machines new.machines machines)
moves limits m call.Take reply.Nothing old new (awake, ((none, is), rest, machines)) = still old new is machines
moves limits m call.Take _ old new (awake, (h, rest, machines)) = absurd h
moves limits m (call.Put r) reply.Shelf old new (awake, ((told, ready, is), rest, machines)) =
    (turns old.table new.table r.g _ _ (ap (option_map (λ (x : Goroutine). x.status)) ready) refl (rows new.table _ is), same_idles old.machines new.machines machines)
moves limits m (call.Put r) _ old new (awake, (h, rest, machines)) = absurd h
moves limits m (call.Claim r) reply.Held old new (free, holds, ((told, ready, is), rest, machines)) =
    ((refl, refl, _, ready, refl, one_in old.table new.table r.g _ (rows new.table _ is)), same_idles old.machines new.machines machines)
moves limits m (call.Claim r) _ old new (free, holds, (h, rest, machines)) = absurd h
moves limits m (call.Go k) (reply.Ticket r) old new (g, runs, ((dormant, ticket, is), rest, machines)) =
    (turns old.table new.table k _ _ dormant refl (rows new.table _ is), same_idles old.machines new.machines machines)
moves limits m (call.Go k) (reply.Fault fault.NoSuchBody) old new (g, runs, ((none, is), rest, machines)) = still old new is machines
moves limits m (call.Go k) (reply.Fault fault.AlreadyStarted) old new (g, runs, ((started, is), rest, machines)) = still old new is machines
moves limits m (call.Go k) _ old new (g, runs, (h, rest, machines)) = absurd h
moves limits m call.Spawn (reply.Ticket r) old new (g, runs, ((startable, ticket, is), rest, machines)) =
    let was = startable_status (status_at old.table r.g) startable in
    (turns old.table new.table r.g _ _ was.1 was.2 (rows new.table _ is), same_idles old.machines new.machines machines)
moves limits m call.Spawn (reply.Fault fault.NoSuchBody) old new (g, runs, ((none, is), rest, machines)) = still old new is machines
moves limits m call.Spawn _ old new (g, runs, (h, rest, machines)) = absurd h
moves limits m call.Yield (reply.Shelved r) old new (g, runs, ((ticket, is), rest, machines)) =
    ((refl, refl, g, inl runs, one_in old.table new.table g _ (rows new.table _ is)), same_idles old.machines new.machines machines)
moves limits m call.Yield _ old new (g, runs, (h, rest, machines)) = absurd h
moves limits m call.Exit reply.Dead old new (g, runs, ((other, is), rest, machines)) =
    ((refl, refl, g, inl runs, one_in old.table new.table g _ (rows new.table _ is)), same_idles old.machines new.machines machines)
moves limits m call.Exit reply.MainEnded old new (g, runs, ((main, is), rest, machines)) =
    ((refl, refl, g, inl runs, one_in old.table new.table g _ (rows new.table _ is)), same_idles old.machines new.machines machines)
moves limits m call.Exit _ old new (g, runs, (h, rest, machines)) = absurd h
moves limits m (call.Make capacity) (reply.Channel c) old new (g, runs, (h, is, machines)) = still old new is machines
moves limits m (call.Make capacity) (reply.Fault f) old new (g, runs, (h, is, machines)) = still old new is machines
moves limits m (call.Make capacity) _ old new (g, runs, (h, is, machines)) = absurd h
moves limits m (call.Send c v) answer old new (g, runs, h) = deals (call.Send c v) m g old new refl refl runs (case.Send c v) answer h
moves limits m (call.Recv c) answer old new (g, runs, h) = deals (call.Recv c) m g old new refl refl runs (case.Recv c) answer h
moves limits m (call.Close c) answer old new (g, runs, h) = closes (call.Close c) m c answer old new h
moves limits m (call.Len c) (reply.Number n) old new (g, runs, (h, is, machines)) = still old new is machines
moves limits m (call.Len c) (reply.Fault f) old new (g, runs, (h, is, machines)) = still old new is machines
moves limits m (call.Len c) _ old new (g, runs, (h, is, machines)) = absurd h
moves limits m (call.Cap c) (reply.Number n) old new (g, runs, (h, is, machines)) = still old new is machines
moves limits m (call.Cap c) (reply.Fault f) old new (g, runs, (h, is, machines)) = still old new is machines
moves limits m (call.Cap c) _ old new (g, runs, (h, is, machines)) = absurd h
moves limits m (call.Procs n) (reply.Number before) old new (g, runs, (h, is, rest)) = (same_ins old.table new.table is, ap idles h.2)
moves limits m (call.Procs n) (reply.Fault fault.BadProcs) old new (g, runs, (h, is, rest)) = (same_ins old.table new.table is, ap idles h.1)
moves limits m (call.Procs n) _ old new (g, runs, (h, is, rest)) = absurd h
moves limits m (call.Select cases has_default until) answer old new (few, (g, runs, h)) =
    selects (call.Select cases has_default until) m g old new refl refl runs cases has_default until answer h
moves limits m (call.Sleep until) reply.Waits old new (g, runs, (is, rest, machines)) = waits (call.Sleep until) m g old new refl refl runs _ _ _ is machines
moves limits m (call.Sleep until) _ old new (g, runs, (h, rest, machines)) = absurd h
moves limits m call.Gopark reply.Waits old new (g, runs, (is, rest, machines)) = waits call.Gopark m g old new refl refl runs _ _ _ is machines
moves limits m call.Gopark _ old new (g, runs, (h, rest, machines)) = absurd h
moves limits m (call.Ready k) (reply.Ticket r) old new (g, runs, ((parked, ticket, is), rest, machines)) =
    let was = parked_status (status_at old.table k) parked in
    (turns old.table new.table k was.0 _ was.1 was.2 (rows new.table _ is), same_idles old.machines new.machines machines)
moves limits m (call.Ready k) (reply.Fault fault.NoSuchBody) old new (g, runs, ((none, is), rest, machines)) = still old new is machines
moves limits m (call.Ready k) (reply.Fault fault.NotParked) old new (g, runs, ((other, is), rest, machines)) = still old new is machines
moves limits m (call.Ready k) _ old new (g, runs, (h, rest, machines)) = absurd h
moves limits m call.Enter (reply.Entered p None) old new (g, runs, (is, h, rest)) =
    ((refl, refl, turns old.table new.table g _ _ runs refl (rows new.table _ is)), (refl, h.0, one_idle old.machines new.machines p None (holders new.machines _ h.2)))
moves limits m call.Enter (reply.Entered p (Some n)) old new (g, runs, (is, h, rest)) =
    ((refl, refl, turns old.table new.table g _ _ runs refl (rows new.table _ is)), (refl, h.0, one_idle old.machines new.machines p None (holders new.machines _ h.2)))
moves limits m call.Enter _ old new (g, runs, (is, h, rest)) = absurd h
moves limits m (call.Leave number) (reply.Runs p) old new (g, calls, (is, h, rest)) =
    ((refl, refl, turns old.table new.table g _ _ calls refl (rows new.table _ is)), (refl, refl, refl, h.0.0, one_idle old.machines new.machines p (Some m) (holders new.machines _ h.1)))
moves limits m (call.Leave number) (reply.Shelved r) old new (g, calls, ((ticket, is), h, rest)) =
    ((refl, refl, g, inr calls, one_in old.table new.table g _ (rows new.table _ is)), ap idles h.1)
moves limits m (call.Leave number) _ old new (g, calls, (h, returns, rest)) = absurd h
moves limits m call.Spin (reply.Answer true) old new (free, (h, is, rest)) = (same_ins old.table new.table is, ap idles h.2)
moves limits m call.Spin (reply.Answer false) old new (free, (h, is, rest)) = (same_ins old.table new.table is, ap idles h.2)
moves limits m call.Spin _ old new (free, (h, is, rest)) = absurd h
moves limits m call.Woken (reply.Answer true) old new (h, is, rest) = (same_ins old.table new.table is, ap idles h.1)
moves limits m call.Woken (reply.Answer false) old new (h, is, rest) = (same_ins old.table new.table is, ap idles h.1)
moves limits m call.Woken _ old new (h, is, rest) = absurd h
moves limits m call.Keep (reply.Answer b) old new (h, is, rest) = (same_ins old.table new.table is, ap idles h.4)
moves limits m call.Keep _ old new (h, is, rest) = absurd h
moves limits m call.Unspin reply.Done old new (h, is, rest) = (same_ins old.table new.table is, ap idles h.1)
moves limits m call.Unspin _ old new (h, is, rest) = absurd h
moves limits m call.Poke (reply.Wakes n) old new (h, is, rest) = (same_ins old.table new.table is, ap idles h.3)
moves limits m call.Poke reply.Nothing old new (h, is, rest) = (same_ins old.table new.table is, ap idles h.2)
moves limits m call.Poke _ old new (h, is, rest) = absurd h
moves limits m call.Declare (reply.Idle p) old new (free, (h, is, rest)) =
    (same_ins old.table new.table is, (refl, h.1, one_idle old.machines new.machines p None (holders new.machines _ h.2)))
moves limits m call.Declare _ old new (free, (h, is, rest)) = absurd h
moves limits m call.Bare reply.Done old new (h, is, rest) = (same_ins old.table new.table is, ap idles h.1)
moves limits m call.Bare _ old new (h, is, rest) = absurd h
moves limits m call.Park answer old new (bare, h) = parks call.Park m answer old new h
moves limits m (call.Tick moment) (reply.Woke n) old new (awake, (h, rest, machines)) =
    let due = max old.table.clock moment in
    (ap ins h.0 ∙ woken_rows (due_answer due) (due_free due) old.table.goroutines, same_idles old.machines new.machines machines)
moves limits m (call.Tick moment) _ old new (awake, (h, rest, machines)) = absurd h
