-- The values that channels and waits hold are words, and no capacity is above 4096.
use Rattle.std.proofs.Common.{◌≡◌, ◌≤◌, inl, inr, lit<, ℕ, zero, suc, ◌-◌, Bool, Option, None, Some, List, [], ◌∷◌, ◌++◌, min, map, refl, sym, ap, subst, arith}
use Rattle.std.proofs.lemmas.List.Elements.{All-head, All-tail}
use Rattle.std.specs.List.{slice_get, All}
use Rattle.gmp_base.specs.declared.ask.Fault.TheVariants as fault
use Rattle.gmp_base.specs.declared.cases.Case.{Case}
use Rattle.gmp_base.specs.declared.cases.Case.TheVariants as case
use Rattle.gmp_base.specs.declared.number.CNo.{CNo}
use Rattle.gmp_base.specs.declared.number.GNo.{GNo}
use Rattle.gmp_base.specs.declared.number.MNo.{MNo}
use Rattle.gmp_base.specs.Fits.{FitsCase, IsWord}
use Rattle.gmp_seq.proofs.Epochs.{at_set}
use Rattle.gmp_seq.proofs.Lands.{IsWordyDeal, IsWordyWait, effect_lands}
use Rattle.gmp_seq.proofs.Legal.{nobody_waits}
use Rattle.gmp_seq.proofs.Manned.{status_of}
use Rattle.gmp_seq.proofs.Sound.{row_items, row_capacity}
use Rattle.gmp_seq.proofs.Waiting.{In, in_append, first_waits}
use Rattle.gmp_seq.specs.declared.call.Call.{Call}
use Rattle.gmp_seq.specs.declared.call.Call.TheVariants as call
use Rattle.gmp_seq.specs.declared.call.Limits.{Limits}
use Rattle.gmp_seq.specs.declared.call.Reply.{Reply}
use Rattle.gmp_seq.specs.declared.call.Reply.TheVariants as reply
use Rattle.gmp_seq.specs.declared.call.Taken.{Taken}
use Rattle.gmp_seq.specs.declared.status.Deal.{Deal}
use Rattle.gmp_seq.specs.declared.status.Deal.TheVariants as deal
use Rattle.gmp_seq.specs.declared.status.Direction.{Direction}
use Rattle.gmp_seq.specs.declared.status.Direction.TheVariants.{Sending}
use Rattle.gmp_seq.specs.declared.status.Goroutine.{Goroutine}
use Rattle.gmp_seq.specs.declared.status.Status.{Status}
use Rattle.gmp_seq.specs.declared.status.Status.TheVariants as status
use Rattle.gmp_seq.specs.declared.status.Transfer.{Transfer}
use Rattle.gmp_seq.specs.declared.status.Transfer.TheVariants.{Failed, Handed, Stored, First, Relayed, Drained}
use Rattle.gmp_seq.specs.declared.status.Wait.{Wait}
use Rattle.gmp_seq.specs.declared.status.Waiter.{Waiter}
use Rattle.gmp_seq.specs.Fits.{FitsCall, AreLimits}
use Rattle.gmp_seq.specs.State.{State, opening}
use Rattle.gmp_seq.specs.Step
use Rattle.gmp_seq.specs.Table.{Table, earlier, deadline_of, least_of}
use Rattle.gmp_seq.specs.Waits as wait

-- Waits

-- whoever waits offers words until a word
abbrev pub WaitsFit : List Goroutine → Type 0
WaitsFit gs = (i : ℕ) (x : Wait) → status_of (slice_get gs i) ≡ Some (status.Waiting x) → IsWordyWait x

-- the value that a waiter offers
pub offered_word : (w : Waiter) → IsWordyDeal w.offer.deal → IsWord (wait.offered w)
offered_word w h = by_deal w.offer.deal refl h where
  by_deal : (d : Deal) → w.offer.deal ≡ d → IsWordyDeal d → IsWord (wait.offered w)
  by_deal (deal.Send v) e word = rw e word
  by_deal deal.Receive e word = rw e (lit< tt)

-- and that of the first on a channel
pub first_word : (t : Table) (c : CNo) (d : Direction) (w : Waiter) → WaitsFit t.goroutines → wait.first_on (wait.waiters t) c d ≡ Some w → IsWord (wait.offered w)
first_word t c d w waits first =
    let is = (first_waits t c d w first).0 in
    offered_word w ((waits w.g.0 is.wait is.status).offers w.offer is.offer)

-- Deadlines

earlier_word : (a b : Option ℕ) → ((u : ℕ) → a ≡ Some u → IsWord u) → ((u : ℕ) → b ≡ Some u → IsWord u) → (u : ℕ) → earlier a b ≡ Some u → IsWord u
earlier_word None b one two u e = two u e
earlier_word (Some x) None one two u e = one u e
earlier_word (Some x) (Some y) one two u e =
    let same : min x y ≡ u = cc in let first = one x refl in let second = two y refl in omega arith

pub least_word : (gs : List Goroutine) → WaitsFit gs → (u : ℕ) → least_of gs ≡ Some u → IsWord u
least_word [] waits u e = absurd cc
least_word (x ∷ gs) waits u e =
    earlier_word (deadline_of x.status) (least_of gs) (of_one x.status refl) (least_word gs (λ i. waits (suc i))) u e where
      of_one : (s : Status) → x.status ≡ s → (v : ℕ) → deadline_of s ≡ Some v → IsWord v
      of_one (status.Waiting w) is v same = (waits 0 w (ap Some is)).until v same
      of_one _ is v same = absurd cc

-- Channels

-- a row's values are words
pub record IsWordyRow (o : Option wait.Channel) : Type 0 where
  pub items : (v : ℕ) → In v (row_items o) → IsWord v
  pub capacity : row_capacity o ≤ 4096

abbrev pub RowsFit : List wait.Channel → Type 0
RowsFit channels = (i : ℕ) → IsWordyRow (slice_get channels i)

-- a row gets another list of words
with_words : (channels : List wait.Channel) (c : CNo) (items : List ℕ) → RowsFit channels → ((v : ℕ) → In v items → IsWord v) → RowsFit (wait.with_items channels c items)
with_words channels c items rows words i = at_set IsWordyRow channels c.0 i _ (λ same. record { items = words; capacity = (rows c.0).capacity }) (rows i)

one_word : (x v : ℕ) → IsWord x → In v (x ∷ []) → IsWord v
one_word x v word (inl same) = subst IsWord same word
one_word x v word (inr h) = absurd h

-- the values of two lists
both_words : (xs ys : List ℕ) → ((v : ℕ) → In v xs → IsWord v) → ((v : ℕ) → In v ys → IsWord v) → (v : ℕ) → In v (xs ++ ys) → IsWord v
both_words xs ys one two v h = elim (in_append v xs ys h) [ inl a ↦ one v a | inr b ↦ two v b ]

-- what is in a list of words is one
words_along : (xs ys : List ℕ) → xs ≡ ys → ((v : ℕ) → In v xs → IsWord v) → (v : ℕ) → In v ys → IsWord v
words_along xs ys e words v h = words v (subst (In v) (sym e) h)

-- the list with a waiting sender's value
pub relayed_words : (t : Table) (channels : List wait.Channel) (c : CNo) (w : Waiter) → WaitsFit t.goroutines → RowsFit channels
    → wait.first_on (wait.waiters t) c Sending ≡ Some w → (v : ℕ) → In v (wait.items_at channels c ++ wait.offered w ∷ []) → IsWord v
relayed_words t channels c w waits rows first =
    both_words (wait.items_at channels c) (wait.offered w ∷ []) (rows c.0).items (λ v. one_word (wait.offered w) v (first_word t c Sending w waits first))

goes_words : (t : Table) (old new : List wait.Channel) (x : Case) (how : Transfer) → WaitsFit t.goroutines → RowsFit old → FitsCase x
    → wait.Proceeds old (wait.waiters t) x how new → RowsFit new
goes_words t old new (case.Send (Some c) v) Failed waits rows fits (closed, is) = subst RowsFit (sym is) rows
goes_words t old new (case.Send (Some c) v) (Handed w) waits rows fits (open_, first, is) = subst RowsFit (sym is) rows
goes_words t old new (case.Send (Some c) v) Stored waits rows fits (open_, nobody, room, is) =
    subst RowsFit (sym is) (with_words old c _ rows (both_words (wait.items_at old c) (v ∷ []) (rows c.0).items (λ u. one_word v u fits.1)))
goes_words t old new (case.Recv (Some c)) (First v) waits rows fits (rest, items, nobody, is) =
    subst RowsFit (sym is) (with_words old c rest rows (λ u h. words_along (wait.items_at old c) (v ∷ rest) items (rows c.0).items u (inr h)))
goes_words t old new (case.Recv (Some c)) (Relayed v w) waits rows fits (rest, first, items, is) =
    subst RowsFit (sym is) (with_words old c rest rows
    (λ u h. words_along (wait.items_at old c ++ wait.offered w ∷ []) (v ∷ rest) items (relayed_words t old c w waits rows first) u (inr h)))
goes_words t old new (case.Recv (Some c)) Drained waits rows fits (empty, nobody, closed, is) = subst RowsFit (sym is) rows
goes_words t old new (case.Send (Some c) v) _ waits rows fits h = absurd h
goes_words t old new (case.Recv (Some c)) _ waits rows fits h = absurd h
goes_words t old new (case.Send None v) how waits rows fits h = absurd h
goes_words t old new (case.Recv None) how waits rows fits h = absurd h

-- A state's

pub record IsWordy (s : State) : Type 0 where
  pub waits : WaitsFit s.table.goroutines
  pub rows : RowsFit s.channels

stay : (old new : State) → RowsFit old.channels → new.channels ≡ old.channels → RowsFit new.channels
stay old new rows same = subst RowsFit (sym same) rows

communicates : (x : Case) (told : Taken) (old new : State) → IsWordy old → FitsCase x → Step.Communicates x told old new → RowsFit new.channels
communicates x told old new wordy fits (how, goes, told_is, is, machines) = goes_words old.table old.channels new.channels x how wordy.waits wordy.rows fits goes

deals : (g : GNo) (x : Case) (answer : Reply) (old new : State) → IsWordy old → FitsCase x → Step.Deals g x answer old new → RowsFit new.channels
deals g x (reply.Sent to) old new wordy fits (made, h) = communicates x _ old new wordy fits h
deals g x (reply.Got v sent from) old new wordy fits (made, h) = communicates x _ old new wordy fits h
deals g x (reply.Fault fault.SendOnClosed) old new wordy fits (made, h) = communicates x _ old new wordy fits h
deals g x reply.Waits old new wordy fits (made, (none, is, same, more)) = stay old new wordy.rows same
deals g x (reply.Fault fault.NoSuchChannel) old new wordy fits (made, (is, same, more)) = stay old new wordy.rows same
deals g x _ old new wordy fits h = absurd h

-- a case of a select fits
pub case_fits : (cases : List Case) (i : ℕ) (x : Case) → All FitsCase cases → slice_get cases i ≡ Some x → FitsCase x
case_fits [] i x fit at = absurd cc
case_fits (y ∷ cases) zero x fit at = let same : y ≡ x = cc in subst FitsCase same (All-head FitsCase y cases fit)
case_fits (y ∷ cases) (suc i) x fit at = case_fits cases i x (All-tail FitsCase y cases fit) at

selects : (g : GNo) (cases : List Case) (has_default : Bool) (until : Option ℕ) (answer : Reply) (old new : State) → IsWordy old → All FitsCase cases
    → Step.Selects g cases has_default until answer old new → RowsFit new.channels
selects g cases has_default until (reply.Chose i told) old new wordy fit (made, x, at, h) = communicates x told old new wordy (case_fits cases i x fit at) h
selects g cases has_default until reply.Default old new wordy fit (made, allowed, none, (is, same, more)) = stay old new wordy.rows same
selects g cases has_default until reply.Waits old new wordy fit (made, no_default, (none, is, same, more)) = stay old new wordy.rows same
selects g cases has_default until (reply.Fault fault.NoSuchChannel) old new wordy fit (made, (is, same, more)) = stay old new wordy.rows same
selects g cases has_default until _ old new wordy fit h = absurd h

closes : (c : Option CNo) (answer : Reply) (old new : State) → IsWordy old → Step.Closes c answer old new → RowsFit new.channels
closes (Some c) (reply.Closed n) old new wordy (made, open_, channels, is, count, machines) =
    subst RowsFit (sym channels) (λ i. at_set IsWordyRow old.channels c.0 i _ (λ same. record { items = (wordy.rows c.0).items; capacity = (wordy.rows c.0).capacity }) (wordy.rows i))
closes (Some c) (reply.Fault fault.CloseOfClosed) old new wordy (made, closed, (is, same, more)) = stay old new wordy.rows same
closes (Some c) (reply.Fault fault.NoSuchChannel) old new wordy (made, (is, same, more)) = stay old new wordy.rows same
closes None (reply.Fault fault.CloseOfNil) old new wordy (is, same, more) = stay old new wordy.rows same
closes _ _ old new wordy h = absurd h

-- a new channel is empty
push_words : (channels : List wait.Channel) (capacity : ℕ) → RowsFit channels → capacity ≤ 4096 → RowsFit (channels ++ wait.new_channel capacity ∷ [])
push_words [] capacity rows le zero = record { items = λ v h. absurd h; capacity = le }
push_words [] capacity rows le (suc i) = rows i
push_words (x ∷ channels) capacity rows le zero = rows 0
push_words (x ∷ channels) capacity rows le (suc i) = push_words channels capacity (λ j. rows (suc j)) le i

makes : (limits : Limits) (capacity : ℕ) (answer : Reply) (old new : List wait.Channel) → RowsFit old → Step.Makes limits capacity answer old new → RowsFit new
makes limits capacity (reply.Channel c) old new rows (fits, room, number, is) = subst RowsFit (sym is) (push_words old capacity rows fits)
makes limits capacity (reply.Fault fault.BadCapacity) old new rows (large, is) = subst RowsFit (sym is) rows
makes limits capacity (reply.Fault fault.TooManyChannels) old new rows (fits, many, is) = subst RowsFit (sym is) rows
makes limits capacity _ old new rows h = absurd h

tells : (number : CNo → ℕ) (c : Option CNo) (answer : Reply) (old new : List wait.Channel) → RowsFit old → Step.Tells number c answer old new → RowsFit new
tells number c (reply.Number n) old new rows (made, told, is) = subst RowsFit (sym is) rows
tells number c (reply.Fault fault.NoSuchChannel) old new rows (made, is) = subst RowsFit (sym is) rows
tells number c _ old new rows h = absurd h

parks : (m : MNo) (answer : Reply) (old new : State) → IsWordy old → Step.Parks m answer old new → RowsFit new.channels
parks m reply.Work old new wordy (work, (is, same, more)) = stay old new wordy.rows same
parks m reply.AllAsleep old new wordy (work, asleep, (is, same, more)) = stay old new wordy.rows same
parks m (reply.Mind until) old new wordy (work, astir, minds, (is, same, more)) = stay old new wordy.rows same
parks m reply.LookAgain old new wordy (work, astir, minds, marked, (is, same, more)) = stay old new wordy.rows same
parks m reply.Parked old new wordy (work, astir, minds, unmarked, is, same, more) = stay old new wordy.rows same
parks m _ old new wordy h = absurd h

effect_rows : (limits : Limits) (m : MNo) (c : Call) (answer : Reply) (old new : State) → IsWordy old → FitsCall c → Step.Effect limits m c answer old new → RowsFit new.channels
effect_rows limits m call.Acquire answer old new wordy fits (h, is, same) = stay old new wordy.rows same
effect_rows limits m call.Take answer old new wordy fits (awake, (h, same, more)) = stay old new wordy.rows same
effect_rows limits m (call.Put r) answer old new wordy fits (awake, (h, same, more)) = stay old new wordy.rows same
effect_rows limits m (call.Claim r) answer old new wordy fits (free, holds, (h, same, more)) = stay old new wordy.rows same
effect_rows limits m (call.Go k) answer old new wordy fits (g, running, (h, same, more)) = stay old new wordy.rows same
effect_rows limits m call.Spawn answer old new wordy fits (g, running, (h, same, more)) = stay old new wordy.rows same
effect_rows limits m call.Yield answer old new wordy fits (g, running, (h, same, more)) = stay old new wordy.rows same
effect_rows limits m call.Exit answer old new wordy fits (g, running, (h, same, more)) = stay old new wordy.rows same
effect_rows limits m (call.Make capacity) answer old new wordy fits (g, running, (h, is, more)) = makes limits capacity answer old.channels new.channels wordy.rows h
effect_rows limits m (call.Send c v) answer old new wordy fits (g, running, h) = deals g (case.Send c v) answer old new wordy fits h
effect_rows limits m (call.Recv c) answer old new wordy fits (g, running, h) = deals g (case.Recv c) answer old new wordy fits h
effect_rows limits m (call.Close c) answer old new wordy fits (g, running, h) = closes c answer old new wordy h
effect_rows limits m (call.Len c) answer old new wordy fits (g, running, (h, is, more)) = tells _ c answer old.channels new.channels wordy.rows h
effect_rows limits m (call.Cap c) answer old new wordy fits (g, running, (h, is, more)) = tells _ c answer old.channels new.channels wordy.rows h
effect_rows limits m (call.Procs n) answer old new wordy fits (g, running, (h, is, same)) = stay old new wordy.rows same
effect_rows limits m (call.Select cases has_default until) answer old new wordy fits (few, (g, running, h)) = selects g cases has_default until answer old new wordy fits.1 h
effect_rows limits m (call.Sleep until) answer old new wordy fits (g, running, (h, same, more)) = stay old new wordy.rows same
effect_rows limits m call.Gopark answer old new wordy fits (g, running, (h, same, more)) = stay old new wordy.rows same
effect_rows limits m (call.Ready k) answer old new wordy fits (g, running, (h, same, more)) = stay old new wordy.rows same
effect_rows limits m call.Enter answer old new wordy fits (g, running, (is, h, same)) = stay old new wordy.rows same
effect_rows limits m (call.Leave number) answer old new wordy fits (g, calling, (h, machines, same)) = stay old new wordy.rows same
effect_rows limits m call.Spin answer old new wordy fits (free, (h, is, same)) = stay old new wordy.rows same
effect_rows limits m call.Woken answer old new wordy fits (h, is, same) = stay old new wordy.rows same
effect_rows limits m call.Keep answer old new wordy fits (h, is, same) = stay old new wordy.rows same
effect_rows limits m call.Unspin answer old new wordy fits (h, is, same) = stay old new wordy.rows same
effect_rows limits m call.Poke answer old new wordy fits (h, is, same) = stay old new wordy.rows same
effect_rows limits m call.Declare answer old new wordy fits (free, (h, is, same)) = stay old new wordy.rows same
effect_rows limits m call.Bare answer old new wordy fits (h, is, same) = stay old new wordy.rows same
effect_rows limits m call.Park answer old new wordy fits (bare, h) = parks m answer old new wordy h
effect_rows limits m (call.Tick moment) answer old new wordy fits (awake, (h, same, more)) = stay old new wordy.rows same

-- after a call whose numbers fit
pub effect_wordy : (limits : Limits) (m : MNo) (c : Call) (answer : Reply) (old new : State) → IsWordy old → FitsCall c → Step.Effect limits m c answer old new → IsWordy new
effect_wordy limits m c answer old new wordy fits effect =
    record {
      waits = λ i x e. elim (effect_lands limits m c answer old new effect i (status.Waiting x) e) [ inl was ↦ wordy.waits i x was | inr lands ↦ lands fits ];
      rows = effect_rows limits m c answer old new wordy fits effect;
    }

new_words : (capacities : List ℕ) → All (λ (capacity : ℕ). capacity ≤ 4096) capacities → RowsFit (map wait.new_channel capacities)
new_words [] fit i = record { items = λ v h. absurd h; capacity = omega arith }
new_words (x ∷ xs) fit zero = record { items = λ v h. absurd h; capacity = All-head (λ (capacity : ℕ). capacity ≤ 4096) x xs fit }
new_words (x ∷ xs) fit (suc i) = new_words xs (All-tail (λ (capacity : ℕ). capacity ≤ 4096) x xs fit) i

pub opening_wordy : (limits : Limits) (bodies : ℕ) (capacities : List ℕ) → AreLimits limits bodies capacities → IsWordy (opening limits bodies capacities)
opening_wordy limits bodies capacities are =
    record { waits = λ i x e. absurd (nobody_waits (bodies - 1) i x e); rows = new_words capacities are.buffers }
