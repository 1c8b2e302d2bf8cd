-- Each entry of a legal run fits its types, where its call does.
use Rattle.std.proofs.Common.{◌^◌, ◌≡◌, ◌≤◌, ◌<◌, inl, lit<, ℕ, zero, suc, ◌+◌, Bool, true, false, cond, Option, None, Some, List, [], ◌∷◌, ◌++◌, length, refl, sym, ap, subst, arith}
use Rattle.std.proofs.lemmas.List.Elements.{All-head, All-tail, All-cons, All-nil}
use Rattle.std.proofs.lemmas.List.Sums.{count_by-le-length, sum_by-cons}
use Rattle.std.proofs.lemmas.Option.{slice_get_within}
use Rattle.std.specs.List.{slice_get, All, sum}
use Rattle.std.specs.Option.{option_map, is_some}
use Rattle.gmp_base.specs.declared.ask.Fault.TheVariants as fault
use Rattle.gmp_base.specs.declared.ask.Woke.{Woke}
use Rattle.gmp_base.specs.declared.cases.Case.{Case}
use Rattle.gmp_base.specs.declared.cases.Case.TheVariants as case
use Rattle.gmp_base.specs.declared.number.CNo.{CNo}
use Rattle.gmp_base.specs.declared.number.GNo.{GNo}
use Rattle.gmp_base.specs.declared.number.MNo.{MNo}
use Rattle.gmp_base.specs.declared.number.Readiness.{Readiness}
use Rattle.gmp_base.specs.Fits.{FitsCase, IsWord}
use Rattle.gmp_seq.proofs.Epochs.{epoch_of}
use Rattle.gmp_seq.proofs.InOrder.{legal_in_order}
use Rattle.gmp_seq.proofs.Legal.{legal_sound}
use Rattle.gmp_seq.proofs.Runs.{run_join}
use Rattle.gmp_seq.proofs.Sizes.{legal_sizes}
use Rattle.gmp_seq.proofs.Sound.{row_items, row_capacity}
use Rattle.gmp_seq.proofs.Waiting.{In, first_waits}
use Rattle.gmp_seq.proofs.Words.{IsWordy, least_word, first_word, relayed_words, case_fits, effect_wordy, opening_wordy}
use Rattle.gmp_seq.specs.declared.call.Call.{Call}
use Rattle.gmp_seq.specs.declared.call.Call.TheVariants as call
use Rattle.gmp_seq.specs.declared.call.Entry.{Entry}
use Rattle.gmp_seq.specs.declared.call.Limits.{Limits}
use Rattle.gmp_seq.specs.declared.call.Reply.{Reply}
use Rattle.gmp_seq.specs.declared.call.Reply.TheVariants as reply
use Rattle.gmp_seq.specs.declared.call.Taken.{Taken}
use Rattle.gmp_seq.specs.declared.call.Taken.TheVariants as taken
use Rattle.gmp_seq.specs.declared.status.Direction.{Direction}
use Rattle.gmp_seq.specs.declared.status.Direction.TheVariants.{Sending, Receiving}
use Rattle.gmp_seq.specs.declared.status.Goroutine.{Goroutine}
use Rattle.gmp_seq.specs.declared.status.TicketPlace.{TicketPlace}
use Rattle.gmp_seq.specs.declared.status.Status.{Status}
use Rattle.gmp_seq.specs.declared.status.Status.TheVariants as status
use Rattle.gmp_seq.specs.declared.status.Transfer.{Transfer}
use Rattle.gmp_seq.specs.declared.status.Transfer.TheVariants.{Failed, Handed, Stored, First, Relayed, Drained}
use Rattle.gmp_seq.specs.declared.status.Waiter.{Waiter}
use Rattle.gmp_seq.specs.Fits.{Fits, FitsCall, FitsReply, FitsTaken, FitsReadiness, AreLimits}
use Rattle.gmp_seq.specs.Machines
use Rattle.gmp_seq.specs.Run.{Run, IsStep, IsLegal}
use Rattle.gmp_seq.specs.State.{State, opening}
use Rattle.gmp_seq.specs.Step
use Rattle.gmp_seq.specs.Table.{Table, IsReady, status_at, epoch_at, next_of, is_parked, is_startable, least_deadline, some_status, due_answer, is_ready_or_running}
use Rattle.gmp_seq.specs.Waits as wait

-- how large a state is, and that its values are words
record IsSmall (limits : Limits) (s : State) : Type 0 where
  wordy : IsWordy s
  goroutines : length s.table.goroutines ≤ 4096
  epochs : (g : GNo) → epoch_at s.table g ≤ 2 ^ 63
  holders : length s.machines.holders ≤ 32
  modes : length s.machines.modes ≤ 64
  active : s.machines.active ≤ 32
  room : (i : ℕ) → length (row_items (slice_get s.channels i)) ≤ row_capacity (slice_get s.channels i)
  stock : limits.channels ≤ 1024

-- Readiness

-- what fails for one that isn't in the stock holds only of one that is
in_stock : (t : Table) (g : GNo) (P : Option Status → Type 0) → (P None → ⊥) → P (status_at t g) → g.0 < length t.goroutines
in_stock t g P none h = by_row (slice_get t.goroutines g.0) refl h where
  by_row : (o : Option Goroutine) → slice_get t.goroutines g.0 ≡ o → P (option_map (λ (x : Goroutine). x.status) o) → g.0 < length t.goroutines
  by_row None e k = absurd (none k)
  by_row (Some x) e k = slice_get_within t.goroutines g.0 x e

does_in_stock : (t : Table) (g : GNo) (s : Status) → status_at t g ≡ Some s → g.0 < length t.goroutines
does_in_stock t g s h = in_stock t g (λ (o : Option Status). o ≡ Some s) (λ e. absurd cc) h

module _ (t : Table) (few : length t.goroutines ≤ 4096) (epochs : (g : GNo) → epoch_at t g ≤ 2 ^ 63) where
  ready_fits : (r : Readiness) (place : TicketPlace) (answer : Woke) → IsReady t r place answer → FitsReadiness r
  ready_fits r place answer ready =
      let within : r.g.0 < length t.goroutines = slice_get_within t.goroutines r.g.0 _ ready in
      let epoch : epoch_at t r.g ≡ r.epoch = ap epoch_of ready in
      let low : epoch_at t r.g ≤ 2 ^ 63 = epochs r.g in
      (omega arith, omega arith)

  next_fits : (g : GNo) → g.0 < length t.goroutines → FitsReadiness (next_of t g)
  next_fits g within = let low : epoch_at t g ≤ 2 ^ 63 = epochs g in (omega arith, omega arith)

  next_is_fit : (g : GNo) (r : Readiness) → g.0 < length t.goroutines → r ≡ next_of t g → FitsReadiness r
  next_is_fit g r within is = subst FitsReadiness (sym is) (next_fits g within)

  -- the one that is served
  served_fits : (c : CNo) (d : Direction) (w : Waiter) → wait.first_on (wait.waiters t) c d ≡ Some w → FitsReadiness (next_of t w.g)
  served_fits c d w first = next_fits w.g (does_in_stock t w.g _ (first_waits t c d w first).0.status)

  takes : (answer : Reply) (new : Table) → Step.Takes answer t new → FitsReply answer
  takes (reply.Ticket r) new (told, ready, is) = ready_fits r _ told ready
  takes reply.Nothing new (none, is) = tt
  takes _ new h = absurd h

  starts : (k : GNo) (answer : Reply) (new : Table) → Step.Starts k answer t new → FitsReply answer
  starts k (reply.Ticket r) new (dormant, next, is) = next_is_fit k r (does_in_stock t k _ dormant) next
  starts k (reply.Fault fault.NoSuchBody) new h = tt
  starts k (reply.Fault fault.AlreadyStarted) new h = tt
  starts k _ new h = absurd h

  spawns : (answer : Reply) (new : Table) → Step.Spawns answer t new → FitsReply answer
  spawns (reply.Ticket r) new (startable, next, is) =
      next_is_fit r.g r (in_stock t r.g (λ (o : Option Status). option_map is_startable o ≡ Some true) (λ e. absurd cc) startable) next
  spawns (reply.Fault fault.NoSuchBody) new h = tt
  spawns _ new h = absurd h

  yields : (m : MNo) (g : GNo) (answer : Reply) (new : Table) → status_at t g ≡ Some (status.Running m) → Step.Yields g answer t new → FitsReply answer
  yields m g (reply.Shelved r) new running (next, is) = next_is_fit g r (does_in_stock t g _ running) next
  yields m g _ new running h = absurd h

  readies : (k : GNo) (answer : Reply) (new : Table) → Step.Readies k answer t new → FitsReply answer
  readies k (reply.Ticket r) new (parked, next, is) =
      next_is_fit k r (in_stock t k (λ (o : Option Status). option_map is_parked o ≡ Some true) (λ e. absurd cc) parked) next
  readies k (reply.Fault fault.NoSuchBody) new h = tt
  readies k (reply.Fault fault.NotParked) new h = tt
  readies k _ new h = absurd h

  resumes : (g : GNo) (m : MNo) (number : ℕ) (answer : Reply) (new : Table) (old_machines new_machines : Machines.Machines) → length old_machines.holders ≤ 32
      → status_at t g ≡ Some (status.Calling m) → Step.Resumes g m number answer t new → Machines.Returns m answer old_machines new_machines → FitsReply answer
  resumes g m number (reply.Runs p) new old_machines new_machines holders calling is ((idle, active), held) =
      let within = slice_get_within old_machines.holders p.0 _ idle in omega arith
  resumes g m number (reply.Shelved r) new old_machines new_machines holders calling (next, is) h = next_is_fit g r (does_in_stock t g _ calling) next
  resumes g m number _ new old_machines new_machines holders calling h machines = absurd h

  ticks : (moment : ℕ) (answer : Reply) (new : Table) → Step.Ticks moment answer t new → FitsReply answer
  ticks moment (reply.Woke n) new (is, count) =
      let most = count_by-le-length (λ (x : Goroutine). is_some (due_answer new.clock x.status)) t.goroutines in omega arith
  ticks moment _ new h = absurd h

exits : (g : GNo) (answer : Reply) (old new : Table) → Step.Exits g answer old new → FitsReply answer
exits g reply.Dead old new h = tt
exits g reply.MainEnded old new h = tt
exits g _ old new h = absurd h

puts : (r : Readiness) (answer : Reply) (old new : Table) → Step.Puts r answer old new → FitsReply answer
puts r reply.Shelf old new h = tt
puts r _ old new h = absurd h

claims : (m : MNo) (r : Readiness) (answer : Reply) (old new : Table) → Step.Claims m r answer old new → FitsReply answer
claims m r reply.Held old new h = tt
claims m r _ old new h = absurd h

sleeps : (g : GNo) (until : ℕ) (answer : Reply) (old new : Table) → Step.Sleeps g until answer old new → FitsReply answer
sleeps g until reply.Waits old new h = tt
sleeps g until _ old new h = absurd h

goparks : (g : GNo) (answer : Reply) (old new : Table) → Step.Goparks g answer old new → FitsReply answer
goparks g reply.Waits old new h = tt
goparks g _ old new h = absurd h

-- Machines

module _ (m : MNo) (old new : Machines.Machines) (holders : length old.holders ≤ 32) (modes : length old.modes ≤ 64) where
  acquires : (answer : Reply) → Machines.Acquires m answer old new → FitsReply answer
  acquires (reply.Proc p) (awake, bare, (idle, active), is) = let within = slice_get_within old.holders p.0 _ idle in omega arith
  acquires reply.Nothing h = tt
  acquires _ h = absurd h

  spins : (answer : Reply) → Machines.Spins m answer old new → FitsReply answer
  spins (reply.Answer true) h = tt
  spins (reply.Answer false) h = tt
  spins _ h = absurd h

  unspins : (answer : Reply) → Machines.Unspins m answer old new → FitsReply answer
  unspins reply.Done h = tt
  unspins _ h = absurd h

  pokes : (answer : Reply) → Machines.Pokes m answer old new → FitsReply answer
  pokes (reply.Wakes n) (awake, wants, parked, is) = let within = slice_get_within old.modes n.0 _ parked in omega arith
  pokes reply.Nothing h = tt
  pokes _ h = absurd h

  declares : (answer : Reply) → Machines.Declares m answer old new → FitsReply answer
  declares (reply.Idle p) (still, holds, is) = let within = slice_get_within old.holders p.0 _ holds in omega arith
  declares _ h = absurd h

  bares : (answer : Reply) → Machines.Bares m answer old new → FitsReply answer
  bares reply.Done h = tt
  bares _ h = absurd h

  looks : (answer : Reply) → Machines.Looks m answer old new → FitsReply answer
  looks (reply.Answer true) h = tt
  looks (reply.Answer false) h = tt
  looks _ h = absurd h

  enters : (answer : Reply) → Machines.Enters m answer old new → FitsReply answer
  enters (reply.Entered p None) (holds, none, is) = (let within = slice_get_within old.holders p.0 _ holds in omega arith, tt)
  enters (reply.Entered p (Some n)) (holds, parked, is) =
      (let within = slice_get_within old.holders p.0 _ holds in omega arith, let within = slice_get_within old.modes n.0 _ parked in omega arith)
  enters _ h = absurd h

  sets : (n : ℕ) → old.active ≤ 32 → (answer : Reply) → Machines.Sets n answer old new → FitsReply answer
  sets n active (reply.Number before) (good, told, is) = omega (arith, active, told)
  sets n active (reply.Fault fault.BadProcs) h = tt
  sets n active _ h = absurd h

  keeps : (answer : Reply) → Machines.MayKeep m answer old new → FitsReply answer
  keeps (reply.Answer b) h = tt
  keeps _ h = absurd h

-- Channels

makes : (limits : Limits) (capacity : ℕ) (answer : Reply) (old new : List wait.Channel) → limits.channels ≤ 1024 → Step.Makes limits capacity answer old new → FitsReply answer
makes limits capacity (reply.Channel c) old new stock (fits, room, number, is) = omega arith
makes limits capacity (reply.Fault fault.BadCapacity) old new stock h = tt
makes limits capacity (reply.Fault fault.TooManyChannels) old new stock h = tt
makes limits capacity _ old new stock h = absurd h

tells : (number : CNo → ℕ) (c : Option CNo) (answer : Reply) (old new : List wait.Channel) → ((d : CNo) → number d ≤ 4096) → Step.Tells number c answer old new → FitsReply answer
tells number None (reply.Number n) old new low (made, told, is) = omega arith
tells number (Some d) (reply.Number n) old new low (made, told, is) = let most = low d in omega arith
tells number c (reply.Fault fault.NoSuchChannel) old new low h = tt
tells number c _ old new low h = absurd h

module _ (limits : Limits) (old new : State) (small : IsSmall limits old) where
  -- what is told of a communication
  told_fits : (x : Case) (how : Transfer) → FitsCase x → wait.Proceeds old.channels (wait.waiters old.table) x how new.channels → FitsTaken (Step.told_of old.table how)
  told_fits (case.Send (Some c) v) Failed fits h = tt
  told_fits (case.Send (Some c) v) (Handed w) fits (open_, first, is) = served_fits old.table small.goroutines small.epochs c Receiving w first
  told_fits (case.Send (Some c) v) Stored fits h = tt
  told_fits (case.Recv (Some c)) (First v) fits (rest, items, nobody, is) = ((small.wordy.rows c.0).items v (subst (In v) (sym items) (inl refl)), tt)
  told_fits (case.Recv (Some c)) (Relayed v w) fits (rest, first, items, is) = (
    relayed_words old.table old.channels c w small.wordy.waits small.wordy.rows first v (subst (In v) (sym items) (inl refl)),
    (served_fits old.table small.goroutines small.epochs c Sending w first, first_word old.table c Sending w small.wordy.waits first),
  )
  told_fits (case.Recv (Some c)) Drained fits h = (lit< tt, tt)
  told_fits (case.Send (Some c) v) _ fits h = absurd h
  told_fits (case.Recv (Some c)) _ fits h = absurd h
  told_fits (case.Send None v) how fits h = absurd h
  told_fits (case.Recv None) how fits h = absurd h

  communicates : (x : Case) (told : Taken) → FitsCase x → Step.Communicates x told old new → FitsTaken told
  communicates x told fits (how, goes, is, rest, machines) = subst FitsTaken (sym is) (told_fits x how fits goes)

  deals : (g : GNo) (x : Case) (answer : Reply) → FitsCase x → Step.Deals g x answer old new → FitsReply answer
  deals g x (reply.Sent to) fits (made, h) = communicates x (taken.Sent to) fits h
  deals g x (reply.Got v sent from) fits (made, h) = communicates x (taken.Got v sent from) fits h
  deals g x (reply.Fault fault.SendOnClosed) fits h = tt
  deals g x reply.Waits fits h = tt
  deals g x (reply.Fault fault.NoSuchChannel) fits h = tt
  deals g x _ fits h = absurd h

  selects : (g : GNo) (cases : List Case) (has_default : Bool) (until : Option ℕ) (answer : Reply) → length cases ≤ 8 → All FitsCase cases
      → Step.Selects g cases has_default until answer old new → FitsReply answer
  selects g cases has_default until (reply.Chose i told) few fit (made, x, at, h) =
      (let within = slice_get_within cases i x at in omega arith, communicates x told (case_fits cases i x fit at) h)
  selects g cases has_default until reply.Default few fit h = tt
  selects g cases has_default until reply.Waits few fit h = tt
  selects g cases has_default until (reply.Fault fault.NoSuchChannel) few fit h = tt
  selects g cases has_default until _ few fit h = absurd h

  closes : (c : Option CNo) (answer : Reply) → Step.Closes c answer old new → FitsReply answer
  closes (Some c) (reply.Closed n) (made, open_, channels, is, count, machines) =
      let most = count_by-le-length (λ (x : Goroutine). is_some (wait.close_answer c x.status)) old.table.goroutines in let few = small.goroutines in omega arith
  closes (Some c) (reply.Fault fault.CloseOfClosed) h = tt
  closes (Some c) (reply.Fault fault.NoSuchChannel) h = tt
  closes None (reply.Fault fault.CloseOfNil) h = tt
  closes _ _ h = absurd h

  -- the moment that is minded is a deadline
  minds : (until : ℕ) → (b : Bool) → cond b None (least_deadline old.table) ≡ Some until → IsWord until
  minds until true e = absurd cc
  minds until false e = least_word old.table.goroutines small.wordy.waits until e

  parks : (m : MNo) (answer : Reply) → Step.Parks m answer old new → FitsReply answer
  parks m reply.Work h = tt
  parks m reply.AllAsleep h = tt
  parks m (reply.Mind until) (work, astir, minded, same) = minds until (some_status is_ready_or_running old.table) minded
  parks m reply.LookAgain h = tt
  parks m reply.Parked h = tt
  parks m _ h = absurd h

  -- the number of a channel's values, and its capacity
  low_capacity : (c : CNo) → wait.capacity_at old.channels c ≤ 4096
  low_capacity c = (small.wordy.rows c.0).capacity

  low_length : (c : CNo) → length (wait.items_at old.channels c) ≤ 4096
  low_length c = let low = (small.wordy.rows c.0).capacity in let within = small.room c.0 in omega arith

  effect_fits : (m : MNo) (c : Call) (answer : Reply) → FitsCall c → Step.Effect limits m c answer old new → FitsReply answer
  effect_fits m call.Acquire answer fits (h, is, rest) = acquires m old.machines new.machines small.holders small.modes answer h
  effect_fits m call.Take answer fits (awake, (h, rest, more)) = takes old.table small.goroutines small.epochs answer new.table h
  effect_fits m (call.Put r) answer fits (awake, (h, rest, more)) = puts r answer old.table new.table h
  effect_fits m (call.Claim r) answer fits (free, holds, (h, rest, more)) = claims m r answer old.table new.table h
  effect_fits m (call.Go k) answer fits (g, running, (h, rest, more)) = starts old.table small.goroutines small.epochs k answer new.table h
  effect_fits m call.Spawn answer fits (g, running, (h, rest, more)) = spawns old.table small.goroutines small.epochs answer new.table h
  effect_fits m call.Yield answer fits (g, running, (h, rest, more)) = yields old.table small.goroutines small.epochs m g answer new.table running h
  effect_fits m call.Exit answer fits (g, running, (h, rest, more)) = exits g answer old.table new.table h
  effect_fits m (call.Make capacity) answer fits (g, running, (h, is, rest)) = makes limits capacity answer old.channels new.channels small.stock h
  effect_fits m (call.Send c v) answer fits (g, running, h) = deals g (case.Send c v) answer fits h
  effect_fits m (call.Recv c) answer fits (g, running, h) = deals g (case.Recv c) answer fits h
  effect_fits m (call.Close c) answer fits (g, running, h) = closes c answer h
  effect_fits m (call.Len c) answer fits (g, running, (h, is, rest)) = tells _ c answer old.channels new.channels low_length h
  effect_fits m (call.Cap c) answer fits (g, running, (h, is, rest)) = tells _ c answer old.channels new.channels low_capacity h
  effect_fits m (call.Procs n) answer fits (g, running, (h, is, rest)) = sets m old.machines new.machines small.holders small.modes n small.active answer h
  effect_fits m (call.Select cases has_default until) answer fits (few, (g, running, h)) = selects g cases has_default until answer few fits.1 h
  effect_fits m (call.Sleep until) answer fits (g, running, (h, rest, more)) = sleeps g until answer old.table new.table h
  effect_fits m call.Gopark answer fits (g, running, (h, rest, more)) = goparks g answer old.table new.table h
  effect_fits m (call.Ready k) answer fits (g, running, (h, rest, more)) = readies old.table small.goroutines small.epochs k answer new.table h
  effect_fits m call.Enter answer fits (g, running, (is, h, rest)) = enters m old.machines new.machines small.holders small.modes answer h
  effect_fits m (call.Leave number) answer fits (g, calling, (h, machines, rest)) =
      resumes old.table small.goroutines small.epochs g m number answer new.table old.machines new.machines small.holders calling h machines
  effect_fits m call.Spin answer fits (free, (h, is, rest)) = spins m old.machines new.machines small.holders small.modes answer h
  effect_fits m call.Woken answer fits (h, is, rest) = looks m old.machines new.machines small.holders small.modes answer h
  effect_fits m call.Keep answer fits (h, is, rest) = keeps m old.machines new.machines small.holders small.modes answer h
  effect_fits m call.Unspin answer fits (h, is, rest) = unspins m old.machines new.machines small.holders small.modes answer h
  effect_fits m call.Poke answer fits (h, is, rest) = pokes m old.machines new.machines small.holders small.modes answer h
  effect_fits m call.Declare answer fits (free, (h, is, rest)) = declares m old.machines new.machines small.holders small.modes answer h
  effect_fits m call.Bare answer fits (h, is, rest) = bares m old.machines new.machines small.holders small.modes answer h
  effect_fits m call.Park answer fits (bare, h) = parks m answer h
  effect_fits m (call.Tick moment) answer fits (awake, (h, rest, more)) = ticks old.table small.goroutines small.epochs moment answer new.table h

-- All runs

-- each count is at most their sum
count_low : (counts : List ℕ) (m k : ℕ) → slice_get counts m ≡ Some k → k ≤ sum counts
count_low [] m k at = absurd cc
count_low (x ∷ xs) zero k at = let same : x ≡ k = cc in let all = sum_by-cons (λ (n : ℕ). n) x xs in omega arith
count_low (x ∷ xs) (suc m) k at = let rest = count_low xs m k at in let all = sum_by-cons (λ (n : ℕ). n) x xs in omega arith

module _ (limits : Limits) (bodies : ℕ) (capacities : List ℕ) (are : AreLimits limits bodies capacities) where
  small_after : (h : List Entry) (s : State) → IsLegal limits bodies capacities h s → IsWordy s → IsSmall limits s
  small_after h s run wordy =
      let order = legal_in_order limits bodies capacities h s are run in
      let sizes = legal_sizes limits bodies capacities h s are run in
      let sound = legal_sound limits bodies capacities h s run in
      let most : sum s.counts ≤ limits.entries = order.together.entries in
      let entries : limits.entries < 2 ^ 63 = are.entries.1 in
      let procs : limits.procs ≤ 32 = are.procs.1 in
      let machines : limits.machines ≤ 64 = are.machines.1 in
      let stock : bodies ≤ 4096 = are.stock.1 in
      let rows : length s.table.goroutines ≡ bodies = sizes.goroutines in
      let holders : length s.machines.holders ≡ limits.procs = sizes.holders in
      let modes : length s.machines.modes ≡ limits.machines = sizes.modes in
      record {
        wordy = wordy;
        goroutines = omega arith;
        epochs = λ g. let low : epoch_at s.table g ≤ sum s.counts + 1 = order.together.epochs g in omega arith;
        holders = omega arith;
        modes = omega arith;
        active = (let most_active = order.active.1 in omega (arith, most_active, holders, procs));
        room = sound.within;
        stock = are.channels.1;
      }

  -- an entry after a legal run
  entry_fits : (h : List Entry) (e : Entry) (old new : State) → IsLegal limits bodies capacities h old → IsWordy old → FitsCall e.call → IsStep limits e old new → Fits e
  entry_fits h e old new run wordy fits (number, (ongoing, effect, counted, ended)) =
      let order = legal_in_order limits bodies capacities h old are run in
      let sizes = legal_sizes limits bodies capacities h old are run in
      let most : sum old.counts ≤ limits.entries = order.together.entries in
      let entries : limits.entries < 2 ^ 63 = are.entries.1 in
      let machines : limits.machines ≤ 64 = are.machines.1 in
      let rows : length old.counts ≡ limits.machines = sizes.counts in
      let within : e.m.0 < length old.counts = slice_get_within old.counts e.m.0 e.k number in
      let low : e.k ≤ sum old.counts = count_low old.counts e.m.0 e.k number in
      (omega arith, omega arith, fits, effect_fits limits old new (small_after h old run wordy) e.m e.call e.reply fits effect)

  run_fits : (before h : List Entry) (old new : State) → IsLegal limits bodies capacities before old → IsWordy old → Run limits old h new
      → All (λ (e : Entry). FitsCall e.call) h → All Fits h
  run_fits before [] old new run wordy rest fit = All-nil Fits
  run_fits before (e ∷ h) old new run wordy (mid, step, rest) fit =
      let fits : FitsCall e.call = All-head (λ (x : Entry). FitsCall x.call) e h fit in
      let effect : Step.Effect limits e.m e.call e.reply old mid = step.1.1 in
      All-cons Fits e h (entry_fits before e old mid run wordy fits step)
      (run_fits (before ++ e ∷ []) h mid new (run_join limits (opening limits bodies capacities) old mid before (e ∷ []) run (mid, step, refl))
      (effect_wordy limits e.m e.call e.reply old mid wordy fits effect) rest (All-tail (λ (x : Entry). FitsCall x.call) e h fit))

pub legal_entries_fit : (limits : Limits) (bodies : ℕ) (capacities : List ℕ) (h : List Entry) (s : State) → AreLimits limits bodies capacities
    → IsLegal limits bodies capacities h s → All (λ (e : Entry). FitsCall e.call) h → All Fits h
legal_entries_fit limits bodies capacities h s are run fit =
    run_fits limits bodies capacities are [] h (opening limits bodies capacities) s refl (opening_wordy limits bodies capacities are) run fit
