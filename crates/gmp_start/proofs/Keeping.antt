-- Each call whose numbers fit keeps the forms.
use Rattle.std.proofs.Common.{◌≡◌, ◌≤◌, lit<, ℕ, ◌+◌, ◌-◌, ◌&&◌, Bool, true, Option, None, Some, List, [], ◌∷◌, length, map, max, set, refl, sym, ap, subst, arith}
use Rattle.std.proofs.lemmas.List.{length-set, length-append, length-map}
use Rattle.std.proofs.lemmas.List.Elements.{All-head, All-tail, All-cons, All-nil}
use Rattle.std.specs.List.{All}
use Rattle.gmp_base.specs.declared.ask.Fault.TheVariants as fault
use Rattle.gmp_base.specs.declared.ask.Woke.{Woke}
use Rattle.gmp_base.specs.declared.cases.Case.{Case}
use Rattle.gmp_base.specs.declared.cases.Case.TheVariants as case
use Rattle.gmp_base.specs.declared.number.CNo.{CNo}
use Rattle.gmp_base.specs.declared.number.GNo.{GNo}
use Rattle.gmp_base.specs.declared.number.MNo.{MNo}
use Rattle.gmp_base.specs.declared.number.Readiness.{Readiness}
use Rattle.gmp_base.specs.Fits.{FitsCase, IsWord}
use Rattle.gmp_seq.proofs.Arranged.{rise_pairs}
use Rattle.gmp_seq.proofs.Words.{case_fits, effect_wordy}
use Rattle.gmp_seq.specs.declared.call.Call.{Call}
use Rattle.gmp_seq.specs.declared.call.Call.TheVariants as call
use Rattle.gmp_seq.specs.declared.call.Entry.{Entry}
use Rattle.gmp_seq.specs.declared.call.Limits.{Limits}
use Rattle.gmp_seq.specs.declared.call.Reply.{Reply}
use Rattle.gmp_seq.specs.declared.call.Reply.TheVariants as reply
use Rattle.gmp_seq.specs.declared.call.Taken.{Taken}
use Rattle.gmp_seq.specs.declared.status.Direction.TheVariants.{Sending, Receiving}
use Rattle.gmp_seq.specs.declared.status.Kind.{Kind}
use Rattle.gmp_seq.specs.declared.status.Offer.{Offer}
use Rattle.gmp_seq.specs.declared.status.TicketPlace.{TicketPlace}
use Rattle.gmp_seq.specs.declared.status.TicketPlace.TheVariants.{Shelf, Out}
use Rattle.gmp_seq.specs.declared.status.Status.{Status}
use Rattle.gmp_seq.specs.declared.status.Status.TheVariants as status
use Rattle.gmp_seq.specs.declared.status.Transfer.{Transfer}
use Rattle.gmp_seq.specs.declared.status.Transfer.TheVariants.{Failed, Handed, Stored, First, Relayed, Drained}
use Rattle.gmp_seq.specs.declared.status.Waiter.{Waiter}
use Rattle.gmp_seq.specs.Fits.{AreLimits, FitsCall}
use Rattle.gmp_seq.specs.Run.{Run, IsLegal}
use Rattle.gmp_seq.specs.State.{State, opening}
use Rattle.gmp_seq.specs.Step
use Rattle.gmp_seq.specs.Table.{Table, IsReady, set_status, made_ready, made_wait, due_answer}
use Rattle.gmp_seq.specs.Waits as wait
use Rattle.gmp_start.proofs.Formed.{AreFormed, close_fits, due_fits, first_fits, formed_more, channels_fit, new_formed, offers_few, offers_fit, offers_rise, opening_formed, plain_suits, receiver_fits, rows_fit, sender_fits, set_formed, waits_fit, woken_formed}
use Rattle.gmp_start.specs.Forms.{FitsOffer, FitsWoke, HasForms, IsFormed, IsFormedWait}

-- Tables

-- all rows and the clock
pub record IsFormedTable (n : ℕ) (t : Table) : Type 0 where
  pub rows : AreFormed n t.goroutines
  pub clock : IsWord t.clock

abbrev Keeps : ℕ → Table → Table → Type 0
Keeps n old new = IsFormedTable n old → IsFormedTable n new

stays : (n : ℕ) (old new : Table) → new ≡ old → Keeps n old new
stays n old new is formed = subst (IsFormedTable n) (sym is) formed

turns : (n : ℕ) (old new : Table) (g : GNo) (after : Status) → new ≡ set_status old g after → (IsFormedTable n old → IsFormed n after) → Keeps n old new
turns n old new g after is h formed =
    subst (IsFormedTable n) (sym is) (record { rows = set_formed n old.goroutines g.0 _ formed.rows (h formed); clock = formed.clock })

readied : (n : ℕ) (old new : Table) (g : GNo) (place : TicketPlace) (told : Woke) → new ≡ made_ready old g place told → (IsFormedTable n old → FitsWoke told) → Keeps n old new
readied n old new g place told is h formed =
    subst (IsFormedTable n) (sym is) (record { rows = set_formed n old.goroutines g.0 _ formed.rows (h formed); clock = formed.clock })

waits : (n : ℕ) (old new : Table) (g : GNo) (why : Kind) (offers : List Offer) (until : Option ℕ) → new ≡ made_wait old g why offers until
    → IsFormedWait n (record { arrival = old.arrivals; kind = why; offers = offers; until = until }) → Keeps n old new
waits n old new g why offers until is h formed =
    subst (IsFormedTable n) (sym is) (record { rows = set_formed n old.goroutines g.0 _ formed.rows h; clock = formed.clock })

-- who is ready by a ticket is told what fits
ready_told : (n : ℕ) (t : Table) (r : Readiness) (place : TicketPlace) (told : Woke) → IsReady t r place told → IsFormedTable n t → FitsWoke told
ready_told n t r place told ready formed = formed.rows r.g.0 (status.Ready place told) (rw ready refl)

module _ (n : ℕ) (old new : Table) where
  takes : (answer : Reply) → Step.Takes answer old new → Keeps n old new
  takes (reply.Ticket r) (told, ready, is) = turns n old new r.g _ is (ready_told n old r Shelf told ready)
  takes reply.Nothing (none, is) = stays n old new is
  takes _ h = absurd h

  puts : (r : Readiness) (answer : Reply) → Step.Puts r answer old new → Keeps n old new
  puts r reply.Shelf (told, ready, is) = turns n old new r.g _ is (ready_told n old r Out told ready)
  puts r _ h = absurd h

  claims : (m : MNo) (r : Readiness) (answer : Reply) → Step.Claims m r answer old new → Keeps n old new
  claims m r reply.Held (told, ready, is) = turns n old new r.g _ is (λ formed. tt)
  claims m r _ h = absurd h

  starts : (k : GNo) (answer : Reply) → Step.Starts k answer old new → Keeps n old new
  starts k (reply.Ticket r) (dormant, next, is) = readied n old new k _ _ is (λ formed. tt)
  starts k (reply.Fault fault.NoSuchBody) (none, is) = stays n old new is
  starts k (reply.Fault fault.AlreadyStarted) (started, is) = stays n old new is
  starts k _ h = absurd h

  spawns : (answer : Reply) → Step.Spawns answer old new → Keeps n old new
  spawns (reply.Ticket r) (startable, next, is) = readied n old new r.g _ _ is (λ formed. tt)
  spawns (reply.Fault fault.NoSuchBody) (none, is) = stays n old new is
  spawns _ h = absurd h

  yields : (g : GNo) (answer : Reply) → Step.Yields g answer old new → Keeps n old new
  yields g (reply.Shelved r) (next, is) = readied n old new g _ _ is (λ formed. tt)
  yields g _ h = absurd h

  exits : (g : GNo) (answer : Reply) → Step.Exits g answer old new → Keeps n old new
  exits g reply.Dead (other, is) = turns n old new g _ is (λ formed. tt)
  exits g reply.MainEnded (main, is) = turns n old new g _ is (λ formed. tt)
  exits g _ h = absurd h

  sleeps : (g : GNo) (until : ℕ) (answer : Reply) → IsWord until → Step.Sleeps g until answer old new → Keeps n old new
  sleeps g until reply.Waits fits is =
      waits n old new g _ _ _ is (record { few = omega arith; until = fits; offers = All-nil (FitsOffer n); kind = (refl, λ e. absurd cc) })
  sleeps g until _ fits h = absurd h

  goparks : (g : GNo) (answer : Reply) → Step.Goparks g answer old new → Keeps n old new
  goparks g reply.Waits is = waits n old new g _ _ _ is (record { few = omega arith; until = tt; offers = All-nil (FitsOffer n); kind = (refl, refl) })
  goparks g _ h = absurd h

  readies : (k : GNo) (answer : Reply) → Step.Readies k answer old new → Keeps n old new
  readies k (reply.Ticket r) (parked, next, is) = readied n old new k _ _ is (λ formed. tt)
  readies k (reply.Fault fault.NoSuchBody) (none, is) = stays n old new is
  readies k (reply.Fault fault.NotParked) (other, is) = stays n old new is
  readies k _ h = absurd h

  resumes : (g : GNo) (m : MNo) (number : ℕ) (answer : Reply) → IsWord number → Step.Resumes g m number answer old new → Keeps n old new
  resumes g m number (reply.Runs p) fits is = turns n old new g _ is (λ formed. tt)
  resumes g m number (reply.Shelved r) fits (next, is) = readied n old new g _ _ is (λ formed. fits)
  resumes g m number _ fits h = absurd h

  ticks : (moment : ℕ) (answer : Reply) → IsWord moment → Step.Ticks moment answer old new → Keeps n old new
  ticks moment (reply.Woke count) fits (is, many) formed =
      subst (IsFormedTable n) (sym is)
      (record { rows = woken_formed n (due_answer (max old.clock moment)) (due_fits n (max old.clock moment)) old.goroutines formed.rows; clock = later })
    where
      later : IsWord (max old.clock moment)
      later = let was = formed.clock in omega arith
  ticks moment _ fits h formed = absurd h

-- Calls on channels

-- channels are at least as many, and not more than they may be
abbrev Grows : Limits → List wait.Channel → List wait.Channel → Type 0
Grows limits old new = (length old ≤ length new) × (length old ≤ limits.channels → length new ≤ limits.channels)

same_many : (limits : Limits) (old new : List wait.Channel) → length new ≡ length old → Grows limits old new
same_many limits old new same = (omega (arith, same), λ few. omega (arith, same, few))

stay : (limits : Limits) (old new : List wait.Channel) → new ≡ old → Grows limits old new
stay limits old new same = same_many limits old new (ap (λ (xs : List wait.Channel). length xs) same)

written : (old new : List wait.Channel) (k : ℕ) (x : wait.Channel) → new ≡ set old k x → length new ≡ length old
written old new k x is = rw is (length-set old k x)

goes : (x : Case) (how : Transfer) (all : List Waiter) (old new : List wait.Channel) → wait.Proceeds old all x how new → length new ≡ length old
goes (case.Send (Some c) v) Failed all old new (closed, is) = ap (λ (xs : List wait.Channel). length xs) is
goes (case.Send (Some c) v) (Handed w) all old new (open_, first, is) = ap (λ (xs : List wait.Channel). length xs) is
goes (case.Send (Some c) v) Stored all old new (open_, nobody, room, is) = written old new c.0 _ is
goes (case.Recv (Some c)) (First v) all old new (rest, items, nobody, is) = written old new c.0 _ is
goes (case.Recv (Some c)) (Relayed v w) all old new (rest, first, items, is) = written old new c.0 _ is
goes (case.Recv (Some c)) Drained all old new (empty, nobody, closed, is) = ap (λ (xs : List wait.Channel). length xs) is
goes (case.Send (Some c) v) _ all old new h = absurd h
goes (case.Recv (Some c)) _ all old new h = absurd h
goes (case.Send None v) how all old new h = absurd h
goes (case.Recv None) how all old new h = absurd h

makes : (limits : Limits) (capacity : ℕ) (answer : Reply) (old new : List wait.Channel) → Step.Makes limits capacity answer old new → Grows limits old new
makes limits capacity (reply.Channel c) old new (fits, room, number, is) =
    let more : length new ≡ length old + 1 = rw is (length-append old (wait.new_channel capacity ∷ [])) in (omega (arith, more), λ few. omega (arith, more, room))
makes limits capacity (reply.Fault fault.BadCapacity) old new (large, is) = stay limits old new is
makes limits capacity (reply.Fault fault.TooManyChannels) old new (fits, many, is) = stay limits old new is
makes limits capacity _ old new h = absurd h

tells : (limits : Limits) (number : CNo → ℕ) (c : Option CNo) (answer : Reply) (old new : List wait.Channel) → Step.Tells number c answer old new → Grows limits old new
tells limits number c (reply.Number n) old new (made, told, is) = stay limits old new is
tells limits number c (reply.Fault fault.NoSuchChannel) old new (made, is) = stay limits old new is
tells limits number c _ old new h = absurd h

-- both
abbrev pub Keeps2 : Limits → State → State → Type 0
Keeps2 limits old new = Keeps (length old.channels) old.table new.table × Grows limits old.channels new.channels

both : (a b : Bool) → a ≡ true → b ≡ true → (a && b) ≡ true
both a b p q = rw (p, q) refl

module _ (limits : Limits) (old new : State) where
  abbrev n : ℕ
  n = length old.channels

  communicates : (x : Case) (told : Taken) → FitsCase x → Step.Communicates x told old new → Keeps2 limits old new
  communicates (case.Send (Some d) v) told fits (Handed w, how, told_is, is, machines) = (
    readied n old.table new.table w.g _ _ is (λ formed. receiver_fits n w.kind w.offer v true (first_fits n old.table d Receiving w formed.rows how.1) fits.1),
    same_many limits old.channels new.channels (goes (case.Send (Some d) v) (Handed w) _ old.channels new.channels how),
  )
  communicates (case.Recv (Some d)) told fits (Relayed v w, how, told_is, is, machines) = (
    readied n old.table new.table w.g _ _ is (λ formed. sender_fits n w (first_fits n old.table d Sending w formed.rows how.1)),
    same_many limits old.channels new.channels (goes (case.Recv (Some d)) (Relayed v w) _ old.channels new.channels how),
  )
  communicates (case.Send None v) told fits (way, how, told_is, is, machines) = absurd how
  communicates (case.Recv None) told fits (way, how, told_is, is, machines) = absurd how
  communicates (case.Send (Some d) v) told fits (way, how, told_is, is, machines) =
      (stays n old.table new.table is, same_many limits old.channels new.channels (goes (case.Send (Some d) v) way (wait.waiters old.table) old.channels new.channels how))
  communicates (case.Recv (Some d)) told fits (way, how, told_is, is, machines) =
      (stays n old.table new.table is, same_many limits old.channels new.channels (goes (case.Recv (Some d)) way (wait.waiters old.table) old.channels new.channels how))

  same : Step.IsUnchanged old new → Keeps2 limits old new
  same (is, rest, machines) = (stays n old.table new.table is, stay limits old.channels new.channels rest)

  deals : (g : GNo) (x : Case) (answer : Reply) → FitsCase x → Step.Deals g x answer old new → Keeps2 limits old new
  deals g x (reply.Sent to) fits (made, h) = communicates x _ fits h
  deals g x (reply.Got v sent from) fits (made, h) = communicates x _ fits h
  deals g x (reply.Fault fault.SendOnClosed) fits (made, h) = communicates x _ fits h
  deals g x reply.Waits fits (made, (none, is, rest, machines)) = (
    waits n old.table new.table g _ _ _ is
        (record {
          few = let few = offers_few 0 (x ∷ []) in omega arith;
          until = tt;
          offers = offers_fit old.channels 0 (x ∷ []) (All-cons FitsCase x [] fits (All-nil FitsCase))
              (both (wait.names_no_missing old.channels (wait.channel_of x)) true made refl) (omega arith);
          kind = plain_suits x;
        }),
    stay limits old.channels new.channels rest,
  )
  deals g x (reply.Fault fault.NoSuchChannel) fits (made, h) = same h
  deals g x _ fits h = absurd h

  selects : (g : GNo) (cases : List Case) (has_default : Bool) (until : Option ℕ) (answer : Reply) → FitsCall (call.Select cases has_default until)
      → Step.Selects g cases has_default until answer old new → Keeps2 limits old new
  selects g cases has_default until (reply.Chose i told) fits (made, x, at, h) = communicates x told (case_fits cases i x fits.1 at) h
  selects g cases has_default until reply.Default fits (made, allowed, none, h) = same h
  selects g cases has_default until reply.Waits fits (made, no_default, (none, is, rest, machines)) = (
    waits n old.table new.table g _ _ _ is
        (record {
          few = let few = offers_few 0 cases in let most = fits.0 in omega arith;
          until = fits.2;
          offers = offers_fit old.channels 0 cases fits.1 made (let most = fits.0 in omega arith);
          kind = rise_pairs (wait.offers_of cases) (offers_rise 0 cases);
        }),
    stay limits old.channels new.channels rest,
  )
  selects g cases has_default until (reply.Fault fault.NoSuchChannel) fits (made, h) = same h
  selects g cases has_default until _ fits h = absurd h

  closes : (c : Option CNo) (answer : Reply) → Step.Closes c answer old new → Keeps2 limits old new
  closes (Some c) (reply.Closed count) (made, open_, channels, is, many, machines) = (
    λ formed. subst (IsFormedTable n) (sym is)
        (record { rows = woken_formed n (wait.close_answer c) (close_fits n c) old.table.goroutines formed.rows; clock = formed.clock }),
    same_many limits old.channels new.channels (written old.channels new.channels c.0 _ channels),
  )
  closes (Some c) (reply.Fault fault.CloseOfClosed) (made, closed, h) = same h
  closes (Some c) (reply.Fault fault.NoSuchChannel) (made, h) = same h
  closes None (reply.Fault fault.CloseOfNil) h = same h
  closes _ _ h = absurd h

  parks : (m : MNo) (answer : Reply) → Step.Parks m answer old new → Keeps2 limits old new
  parks m reply.Work (work, h) = same h
  parks m reply.AllAsleep (work, asleep, h) = same h
  parks m (reply.Mind until) (work, astir, minds, h) = same h
  parks m reply.LookAgain (work, astir, minds, marked, h) = same h
  parks m reply.Parked (work, astir, minds, unmarked, is, rest, more) = (stays n old.table new.table is, stay limits old.channels new.channels rest)
  parks m _ h = absurd h

  -- the table changes so, and the channels stay
  on_table : Keeps n old.table new.table → new.channels ≡ old.channels → Keeps2 limits old new
  on_table keeps rest = (keeps, stay limits old.channels new.channels rest)

  -- nothing of the table changes
  on_channels : Grows limits old.channels new.channels → new.table ≡ old.table → Keeps2 limits old new
  on_channels grows is = (stays n old.table new.table is, grows)

  still : new.table ≡ old.table → new.channels ≡ old.channels → Keeps2 limits old new
  still is rest = (stays n old.table new.table is, stay limits old.channels new.channels rest)

  effect_keeps : (m : MNo) (c : Call) (answer : Reply) → FitsCall c → Step.Effect limits m c answer old new → Keeps2 limits old new
  effect_keeps m call.Acquire answer fits (h, is, rest) = still is rest
  effect_keeps m call.Take answer fits (awake, (h, rest, more)) = on_table (takes n old.table new.table answer h) rest
  effect_keeps m (call.Put r) answer fits (awake, (h, rest, more)) = on_table (puts n old.table new.table r answer h) rest
  effect_keeps m (call.Claim r) answer fits (free, holds, (h, rest, more)) = on_table (claims n old.table new.table m r answer h) rest
  effect_keeps m (call.Go k) answer fits (g, running, (h, rest, more)) = on_table (starts n old.table new.table k answer h) rest
  effect_keeps m call.Spawn answer fits (g, running, (h, rest, more)) = on_table (spawns n old.table new.table answer h) rest
  effect_keeps m call.Yield answer fits (g, running, (h, rest, more)) = on_table (yields n old.table new.table g answer h) rest
  effect_keeps m call.Exit answer fits (g, running, (h, rest, more)) = on_table (exits n old.table new.table g answer h) rest
  effect_keeps m (call.Make capacity) answer fits (g, running, (h, is, rest)) = on_channels (makes limits capacity answer old.channels new.channels h) is
  effect_keeps m (call.Send c v) answer fits (g, running, h) = deals g (case.Send c v) answer fits h
  effect_keeps m (call.Recv c) answer fits (g, running, h) = deals g (case.Recv c) answer fits h
  effect_keeps m (call.Close c) answer fits (g, running, h) = closes c answer h
  effect_keeps m (call.Len c) answer fits (g, running, (h, is, rest)) = on_channels (tells limits _ c answer old.channels new.channels h) is
  effect_keeps m (call.Cap c) answer fits (g, running, (h, is, rest)) = on_channels (tells limits _ c answer old.channels new.channels h) is
  effect_keeps m (call.Procs count) answer fits (g, running, (h, is, rest)) = still is rest
  effect_keeps m (call.Select cases has_default until) answer fits (few, (g, running, h)) = selects g cases has_default until answer fits h
  effect_keeps m (call.Sleep until) answer fits (g, running, (h, rest, more)) = on_table (sleeps n old.table new.table g until answer fits h) rest
  effect_keeps m call.Gopark answer fits (g, running, (h, rest, more)) = on_table (goparks n old.table new.table g answer h) rest
  effect_keeps m (call.Ready k) answer fits (g, running, (h, rest, more)) = on_table (readies n old.table new.table k answer h) rest
  effect_keeps m call.Enter answer fits (g, running, (is, h, rest)) = on_table (turns n old.table new.table g _ is (λ formed. tt)) rest
  effect_keeps m (call.Leave number) answer fits (g, calling, (h, machines, rest)) = on_table (resumes n old.table new.table g m number answer fits h) rest
  effect_keeps m call.Spin answer fits (free, (h, is, rest)) = still is rest
  effect_keeps m call.Woken answer fits (h, is, rest) = still is rest
  effect_keeps m call.Keep answer fits (h, is, rest) = still is rest
  effect_keeps m call.Unspin answer fits (h, is, rest) = still is rest
  effect_keeps m call.Poke answer fits (h, is, rest) = still is rest
  effect_keeps m call.Declare answer fits (free, (h, is, rest)) = still is rest
  effect_keeps m call.Bare answer fits (h, is, rest) = still is rest
  effect_keeps m call.Park answer fits (bare, h) = parks m answer h
  effect_keeps m (call.Tick moment) answer fits (awake, (h, rest, more)) = on_table (ticks n old.table new.table moment answer fits h) rest

-- The forms

rows_at : (limits : Limits) (s : State) → HasForms limits s → AreFormed (length s.channels) s.table.goroutines
rows_at limits s forms i does e = forms.rows (record { 0 = i }) does e

pub effect_forms : (limits : Limits) (m : MNo) (c : Call) (answer : Reply) (old new : State) → HasForms limits old → FitsCall c → Step.Effect limits m c answer old new
    → HasForms limits new
effect_forms limits m c answer old new forms fits effect =
    let keeps = effect_keeps limits old new m c answer fits effect in
    let rows : AreFormed (length old.channels) old.table.goroutines = rows_at limits old forms in
    let table : IsFormedTable (length old.channels) new.table = keeps.0 (record { rows = rows; clock = forms.clock }) in
    let wordy = effect_wordy limits m c answer old new (record { waits = waits_fit (length old.channels) old.table.goroutines rows; rows = rows_fit old.channels forms.channels }) fits effect in
    record {
      rows = λ g does e. formed_more (length old.channels) (length new.channels) keeps.1.0 does (table.rows g.0 does e);
      few_channels = keeps.1.1 forms.few_channels;
      channels = channels_fit new.channels wordy.rows;
      clock = table.clock;
    }

pub opening_forms : (limits : Limits) (bodies : ℕ) (capacities : List ℕ) → AreLimits limits bodies capacities → HasForms limits (opening limits bodies capacities)
opening_forms limits bodies capacities are =
    record {
      rows = λ g does e. formed_more 0 (length (map wait.new_channel capacities)) (omega arith) does (opening_formed (bodies - 1) g.0 does e);
      few_channels = let all : length (map wait.new_channel capacities) ≡ length capacities = length-map capacities wait.new_channel in let few = are.channels.0 in omega arith;
      channels = new_formed capacities are.buffers;
      clock = lit< tt;
    }

pub step_forms : (limits : Limits) (m : MNo) (c : Call) (answer : Reply) (old new : State) → HasForms limits old → FitsCall c → Step.Step limits m c answer old new
    → HasForms limits new
step_forms limits m c answer old new forms fits step = effect_forms limits m c answer old new forms fits step.1

pub run_forms : (limits : Limits) (old new : State) (h : List Entry) → HasForms limits old → All (λ (e : Entry). FitsCall e.call) h → Run limits old h new
    → HasForms limits new
run_forms limits old new [] forms fit same = subst (HasForms limits) (sym same) forms
run_forms limits old new (e ∷ h) forms fit (mid, step, rest) =
    run_forms limits mid new h
    (step_forms limits e.m e.call e.reply old mid forms (All-head (λ (x : Entry). FitsCall x.call) e h fit) step.1)
    (All-tail (λ (x : Entry). FitsCall x.call) e h fit) rest

pub legal_forms : (limits : Limits) (bodies : ℕ) (capacities : List ℕ) (h : List Entry) (s : State) → AreLimits limits bodies capacities
    → All (λ (e : Entry). FitsCall e.call) h → IsLegal limits bodies capacities h s → HasForms limits s
legal_forms limits bodies capacities h s are fit run =
    run_forms limits (opening limits bodies capacities) s h (opening_forms limits bodies capacities are) fit run
