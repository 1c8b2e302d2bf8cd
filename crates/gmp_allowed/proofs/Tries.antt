-- Of each call every reply that could be its answer is tried.
use Rattle.std.proofs.Common.{◌≡◌, ◌<◌, ◌⊎◌, ℕ, ◌+◌, ◌%◌, ◌^◌, inl, inr, Bool, true, false, cond, max, Option, None, Some, List, [], ◌∷◌, ◌++◌, Contains, get_or, length, refl, sym, ap, subst, ◌∙◌, arith}
use Rattle.std.proofs.lemmas.Bool.{cond-true, eq-eqb}
use Rattle.std.proofs.lemmas.Option.{slice_get_read, slice_get_within}
use Rattle.std.specs.List.{slice_get}
use Rattle.std.specs.Option.{option_map, option_map_or, unwrap_or}
use Rattle.gmp_base.specs.declared.ask.Fault.TheVariants as fault
use Rattle.gmp_base.specs.declared.number.CNo.{CNo}
use Rattle.gmp_base.specs.declared.number.GNo.{GNo}
use Rattle.gmp_base.specs.declared.number.MNo.{MNo}
use Rattle.gmp_base.specs.declared.number.PNo.{PNo}
use Rattle.gmp_base.specs.declared.number.Readiness.{Readiness}
use Rattle.gmp_seq.specs.declared.call.Call.{Call}
use Rattle.gmp_seq.specs.declared.call.Call.TheVariants as call
use Rattle.gmp_seq.specs.declared.call.Reply.{Reply}
use Rattle.gmp_seq.specs.declared.call.Reply.TheVariants as reply
use Rattle.gmp_seq.specs.declared.status.Goroutine.{Goroutine}
use Rattle.gmp_seq.specs.declared.status.Status.{Status}
use Rattle.gmp_seq.specs.declared.status.Status.TheVariants as status
use Rattle.gmp_seq.specs.declared.status.TicketPlace.TheVariants.{Shelf}
use Rattle.gmp_seq.specs.Channels.{capacity_at, items_at}
use Rattle.gmp_seq.specs.Fits.{FitsReadiness}
use Rattle.gmp_seq.specs.State.{State}
use Rattle.gmp_seq.specs.Table.{Table, due_answer, epoch_at, how_many_woken, is_calling_on, is_ready_or_running, is_running_on, is_startable, least_of, next_of, some_status}
use Rattle.gmp_seq.specs.Waits.{close_answer}
use Rattle.gmp_allowed.specs.declared.numbered.Naming.{Naming}
use Rattle.gmp_allowed.specs.declared.numbered.Naming.TheVariants as naming
use Rattle.gmp_allowed.specs.Tried.{AddsEach, Before, HasAll, IsAnswer, IsEntered, IsNamed, IsOfRow, next_word, raised, row_reply}
use Rattle.gmp_allowed.proofs.Adding.{added}

-- What was added is all, where the call is this one

-- these alone
pub has_these : (m : MNo) (c k : Call) (s : State) (old new more : List Reply) → c ≡ k → new ≡ old ++ more → ((r : Reply) → IsAnswer m k s r → Contains more r) → HasAll m c s new
has_these m c k s old new more call is among = subst (λ (x : Call). HasAll m x s new) (sym call) (added (IsAnswer m k s) old new more is among).each

-- some sort
pub has_sort : (m : MNo) (c k : Call) (s : State) (P : Reply → Type 0) (old new : List Reply) → c ≡ k → AddsEach P old new → ((r : Reply) → IsAnswer m k s r → P r) → HasAll m c s new
has_sort m c k s P old new call sort of = subst (λ (x : Call). HasAll m x s new) (sym call) (λ r is. sort.each r (of r is))

-- the same of these goroutines, and of this call
pub rows_same : (m : MNo) (c k : Call) (rows all : List Goroutine) (old new : List Reply) → c ≡ k → rows ≡ all → AddsEach (Before (IsOfRow m c rows) (length rows)) old new
    → AddsEach (Before (IsOfRow m k all) (length all)) old new
rows_same m c k rows all old new call is sort =
    subst (λ (x : Call). AddsEach (Before (IsOfRow m x all) (length all)) old new) call (subst (λ (l : List Goroutine). AddsEach (Before (IsOfRow m c l) (length l)) old new) is sort)

-- of so many
pub count_same : (sort : Naming) (n k : ℕ) (old new : List Reply) → n ≡ k → AddsEach (Before (IsNamed sort) n) old new → AddsEach (Before (IsNamed sort) k) old new
count_same sort n k old new is = subst (λ (i : ℕ). AddsEach (Before (IsNamed sort) i) old new) is

pub entered_same : (m : MNo) (n k : ℕ) (holders all : List (Option MNo)) (old new : List Reply) → n ≡ k → holders ≡ all → AddsEach (Before (IsEntered m n holders) (length holders)) old new
    → AddsEach (Before (IsEntered m k all) (length all)) old new
entered_same m n k holders all old new is same sort =
    subst (λ (i : ℕ). AddsEach (Before (IsEntered m i all) (length all)) old new) is (subst (λ (l : List (Option MNo)). AddsEach (Before (IsEntered m n l) (length l)) old new) same sort)

-- of some goroutine, or this
pub has_row_or : (m : MNo) (c k : Call) (s : State) (rows : List Goroutine) (none : Reply) (old new : List Reply) → c ≡ k → rows ≡ s.table.goroutines
    → AddsEach (λ (r : Reply). Before (IsOfRow m c rows) (length rows) r ⊎ (none ≡ r)) old new
    → ((r : Reply) → IsAnswer m k s r → Before (IsOfRow m k s.table.goroutines) (length s.table.goroutines) r ⊎ (none ≡ r)) → HasAll m c s new
has_row_or m c k s rows none old new call is sort of =
    let all : List Goroutine = s.table.goroutines in
    has_sort m c k s (λ (r : Reply). Before (IsOfRow m k all) (length all) r ⊎ (none ≡ r)) old new call
    (subst (λ (x : Call). AddsEach (λ (r : Reply). Before (IsOfRow m x all) (length all) r ⊎ (none ≡ r)) old new) call
    (subst (λ (l : List Goroutine). AddsEach (λ (r : Reply). Before (IsOfRow m c l) (length l) r ⊎ (none ≡ r)) old new) is sort)) of

-- with some number, or nothing
pub has_number_or : (m : MNo) (c k : Call) (s : State) (sort : Naming) (n count : ℕ) (old new : List Reply) → c ≡ k → n ≡ count
    → AddsEach (λ (r : Reply). Before (IsNamed sort) n r ⊎ (reply.Nothing ≡ r)) old new → ((r : Reply) → IsAnswer m k s r → Before (IsNamed sort) count r ⊎ (reply.Nothing ≡ r)) → HasAll m c s new
has_number_or m c k s sort n count old new call is some of =
    has_sort m c k s (λ (r : Reply). Before (IsNamed sort) count r ⊎ (reply.Nothing ≡ r)) old new call
    (subst (λ (i : ℕ). AddsEach (λ (r : Reply). Before (IsNamed sort) i r ⊎ (reply.Nothing ≡ r)) old new) is some) of

-- Goroutines

-- what a goroutine of these gives is given by its row
pub row_given : (m : MNo) (c : Call) (rows : List Goroutine) (k : ℕ) (g : GNo) (row : Goroutine) (o : Option Reply) (r : Reply) → k < length rows → row ≡ get_or rows k row → (k < 2 ^ 16 → g.0 ≡ k)
    → o ≡ row_reply m c g row → IsOfRow m c rows k r → o ≡ Some r
row_given m c rows k g row o r within at number is (small, given, there, gives) =
    let same : row ≡ given = (let e : Some row ≡ Some given = sym (slice_get_read rows (length rows) k row refl within at) ∙ there in cc) in
    let n : g ≡ record { 0 = k } = (let e = number small in ap (λ (i : ℕ). let h : GNo = record { 0 = i } in h) e) in
    is ∙ ap (λ (h : GNo). row_reply m c h row) n ∙ ap (λ (x : Goroutine). row_reply m c (record { 0 = k }) x) same ∙ gives

-- the row of a goroutine that is there
row_of : (t : Table) (g : GNo) (o : Option Goroutine) (s : Status) → slice_get t.goroutines g.0 ≡ o → option_map (λ (x : Goroutine). x.status) o ≡ Some s
    → (row : Goroutine) × (slice_get t.goroutines g.0 ≡ Some row) × (row.status ≡ s)
row_of t g None s at is = absurd cc
row_of t g (Some row) s at is = (row, at, cc)

startable_row : (t : Table) (g : GNo) (o : Option Goroutine) → slice_get t.goroutines g.0 ≡ o → option_map is_startable (option_map (λ (x : Goroutine). x.status) o) ≡ Some true
    → (row : Goroutine) × (slice_get t.goroutines g.0 ≡ Some row) × (is_startable row.status ≡ true)
startable_row t g None at is = absurd cc
startable_row t g (Some row) at is = (row, at, cc)

-- an epoch that is a `u64` was not cut
whole_epoch : (g : GNo) (r : Readiness) (epoch : ℕ) → FitsReadiness r → r ≡ record { g = g; epoch = epoch + 1 } → raised g epoch ≡ r
whole_epoch g r epoch fits is =
    let small : epoch + 1 < 2 ^ 64 = subst (λ (x : Readiness). x.epoch < 2 ^ 64) is fits.1 in
    let whole : (epoch + 1) % 2 ^ 64 ≡ epoch + 1 = omega (arith, small) in
    ap (λ (n : ℕ). let x : Readiness = record { g = g; epoch = n } in x) whole ∙ sym is

pub raised_row : (t : Table) (g : GNo) (row : Goroutine) (r : Readiness) → slice_get t.goroutines g.0 ≡ Some row → FitsReadiness r → r ≡ next_of t g → raised g row.epoch ≡ r
raised_row t g row r at fits is =
    let epoch : epoch_at t g ≡ row.epoch = ap (λ (o : Option Goroutine). option_map_or (λ (x : Goroutine). x.epoch) o 0) at in
    whole_epoch g r row.epoch fits (is ∙ ap (λ (n : ℕ). let x : Readiness = record { g = g; epoch = n + 1 } in x) epoch)

at_machine : (m : MNo) (s : Status) → s ≡ status.Running m → is_running_on m s ≡ true
at_machine m s is = ap (is_running_on m) is ∙ eq-eqb m.0 m.0 refl

calls_at : (m : MNo) (s : Status) → s ≡ status.Calling m → is_calling_on m s ≡ true
calls_at m s is = ap (is_calling_on m) is ∙ eq-eqb m.0 m.0 refl

number_fits : (g : GNo) (r : Readiness) (epoch : ℕ) → FitsReadiness r → r ≡ record { g = g; epoch = epoch } → g.0 < 2 ^ 16
number_fits g r epoch fits is = subst (λ (x : Readiness). x.g.0 < 2 ^ 16) is fits.0

-- which replies a take could have
pub takes : (m : MNo) (s : State) (r : Reply) → IsAnswer m call.Take s r → Before (IsOfRow m call.Take s.table.goroutines) (length s.table.goroutines) r ⊎ (reply.Nothing ≡ r)
takes m s (reply.Ticket t) (fits, limits, new, (awake, h)) =
    let row : Goroutine = record { status = status.Ready Shelf h.0.0; epoch = t.epoch } in
    let at : slice_get s.table.goroutines t.g.0 ≡ Some row = h.0.1 in
    inl (t.g.0, slice_get_within s.table.goroutines t.g.0 row at, (fits.0, row, at, refl))
takes m s reply.Nothing h = inr refl
takes m s _ (fits, limits, new, (awake, h)) = absurd h.0

pub spawns : (m : MNo) (s : State) (r : Reply) → IsAnswer m call.Spawn s r → Before (IsOfRow m call.Spawn s.table.goroutines) (length s.table.goroutines) r ⊎ (reply.Fault fault.NoSuchBody ≡ r)
spawns m s (reply.Ticket t) (fits, limits, new, (g, runs, h)) =
    let there = startable_row s.table t.g (slice_get s.table.goroutines t.g.0) refl h.0.0 in
    let row : Goroutine = there.0 in
    let gives : row_reply m call.Spawn t.g row ≡ Some (reply.Ticket t) =
    cond-true _ _ _ there.2 ∙ ap (λ (x : Readiness). Some (reply.Ticket x)) (raised_row s.table t.g row t there.1 fits h.0.1) in
    inl (t.g.0, slice_get_within s.table.goroutines t.g.0 row there.1, (fits.0, row, there.1, gives))
spawns m s (reply.Fault fault.NoSuchBody) h = inr refl
spawns m s _ (fits, limits, new, (g, runs, h)) = absurd h.0

pub yields : (m : MNo) (s : State) (r : Reply) → IsAnswer m call.Yield s r → Before (IsOfRow m call.Yield s.table.goroutines) (length s.table.goroutines) r
yields m s (reply.Shelved r) (fits, limits, new, (g, runs, h)) =
    let there = row_of s.table g (slice_get s.table.goroutines g.0) (status.Running m) refl runs in
    let row : Goroutine = there.0 in
    let gives : row_reply m call.Yield g row ≡ Some (reply.Shelved r) =
    cond-true _ _ _ (at_machine m row.status there.2) ∙ ap (λ (x : Readiness). Some (reply.Shelved x)) (raised_row s.table g row r there.1 fits h.0.0) in
    (g.0, slice_get_within s.table.goroutines g.0 row there.1, (number_fits g r _ fits h.0.0, row, there.1, gives))
yields m s _ (fits, limits, new, (g, runs, h)) = absurd h.0

leaves : (m : MNo) (number : ℕ) (s : State) (r : Reply) → IsAnswer m (call.Leave number) s r
    → Before (IsNamed naming.Runs) (length s.machines.holders) r ⊎ Before (IsOfRow m (call.Leave number) s.table.goroutines) (length s.table.goroutines) r
leaves m number s (reply.Runs p) (fits, limits, new, (g, calls, h)) = inl (p.0, slice_get_within s.machines.holders p.0 None h.1.0.0, (fits, refl))
leaves m number s (reply.Shelved r) (fits, limits, new, (g, calls, h)) =
    let there = row_of s.table g (slice_get s.table.goroutines g.0) (status.Calling m) refl calls in
    let row : Goroutine = there.0 in
    let gives : row_reply m (call.Leave number) g row ≡ Some (reply.Shelved r) =
    cond-true _ _ _ (calls_at m row.status there.2) ∙ ap (λ (x : Readiness). Some (reply.Shelved x)) (raised_row s.table g row r there.1 fits h.0.0) in
    inr (g.0, slice_get_within s.table.goroutines g.0 row there.1, (number_fits g r _ fits h.0.0, row, there.1, gives))
leaves m number s _ (fits, limits, new, (g, calls, h)) = absurd h.0

pub has_left : (m : MNo) (c : Call) (number : ℕ) (s : State) (old new : List Reply) → c ≡ call.Leave number
    → AddsEach (λ (r : Reply). Before (IsNamed naming.Runs) (length s.machines.holders) r ⊎ Before (IsOfRow m c s.table.goroutines) (length s.table.goroutines) r) old new → HasAll m c s new
has_left m c number s old new is sort =
    let P : Call → Reply → Type 0 = λ (x : Call) (r : Reply). Before (IsNamed naming.Runs) (length s.machines.holders) r ⊎ Before (IsOfRow m x s.table.goroutines) (length s.table.goroutines) r in
    has_sort m c (call.Leave number) s (P (call.Leave number)) old new is (subst (λ (x : Call). AddsEach (P x) old new) is sort) (leaves m number s)

-- Processors and machines

pub acquires : (m : MNo) (s : State) (r : Reply) → IsAnswer m call.Acquire s r → Before (IsNamed naming.Proc) (length s.machines.holders) r ⊎ (reply.Nothing ≡ r)
acquires m s (reply.Proc p) (fits, limits, new, h) = inl (p.0, slice_get_within s.machines.holders p.0 None h.0.2.0, (fits, refl))
acquires m s reply.Nothing h = inr refl
acquires m s _ (fits, limits, new, h) = absurd h.0

pub declares : (m : MNo) (s : State) (r : Reply) → IsAnswer m call.Declare s r → Before (IsNamed naming.Idle) (length s.machines.holders) r
declares m s (reply.Idle p) (fits, limits, new, (nothing, h)) = (p.0, slice_get_within s.machines.holders p.0 (Some m) h.0.1, (fits, refl))
declares m s _ (fits, limits, new, (nothing, h)) = absurd h.0

pub enters : (m : MNo) (s : State) (r : Reply) → IsAnswer m call.Enter s r → Before (IsEntered m (length s.machines.modes) s.machines.holders) (length s.machines.holders) r
enters m s (reply.Entered p None) (fits, limits, new, (g, runs, h)) = (p.0, slice_get_within s.machines.holders p.0 (Some m) h.1.0, (fits.0, h.1.0, inl refl))
enters m s (reply.Entered p (Some n)) (fits, limits, new, (g, runs, h)) =
    (p.0, slice_get_within s.machines.holders p.0 (Some m) h.1.0, (fits.0, h.1.0, inr (n.0, slice_get_within s.machines.modes n.0 _ h.1.1, (fits.1, refl))))
enters m s _ (fits, limits, new, (g, runs, h)) = absurd h.1

pub pokes : (m : MNo) (s : State) (r : Reply) → IsAnswer m call.Poke s r → Before (IsNamed naming.Wakes) (length s.machines.modes) r ⊎ (reply.Nothing ≡ r)
pokes m s (reply.Wakes n) (fits, limits, new, h) = inl (n.0, slice_get_within s.machines.modes n.0 _ h.0.2, (fits, refl))
pokes m s reply.Nothing h = inr refl
pokes m s _ (fits, limits, new, h) = absurd h.0

-- the machine that holds a processor gives it up
pub entered_here : (m : MNo) (machines : ℕ) (holders : List (Option MNo)) (k : ℕ) (p q : PNo) (r : Reply) → (k < 2 ^ 8 → p.0 ≡ k) → (k < 2 ^ 8 → q.0 ≡ k) → IsEntered m machines holders k r
    → Contains (reply.Entered p None ∷ []) r ⊎ Before (IsNamed (naming.Entered q)) machines r
entered_here m machines holders k p q r one two (small, holds, inl is) = inl (0, omega arith, ap (λ (i : ℕ). reply.Entered (record { 0 = i }) None) (one small) ∙ sym is)
entered_here m machines holders k p q r one two (small, holds, inr (n, below, is)) =
    inr (n, below, (is.0, is.1 ∙ ap (λ (i : ℕ). reply.Entered (record { 0 = i }) (Some (record { 0 = n }))) (sym (two small))))

-- Channels

pub makes : (m : MNo) (capacity : ℕ) (s : State) (c : CNo) (n : ℕ) (r : Reply) → n ≡ length s.channels → (n < 2 ^ 16 → c.0 ≡ n) → IsAnswer m (call.Make capacity) s r
    → Contains (reply.Channel c ∷ reply.Fault fault.BadCapacity ∷ reply.Fault fault.TooManyChannels ∷ []) r
makes m capacity s c n (reply.Channel d) count is (fits, limits, new, (g, runs, h)) =
    let number : d.0 ≡ n = h.0.2 ∙ sym count in
    let small : n < 2 ^ 16 = subst (λ (i : ℕ). i < 2 ^ 16) number fits in
    (0, omega arith, ap (λ (n : ℕ). reply.Channel (record { 0 = n })) (is small ∙ sym number))
makes m capacity s c n (reply.Fault fault.BadCapacity) count is h = (1, omega arith, refl)
makes m capacity s c n (reply.Fault fault.TooManyChannels) count is h = (2, omega arith, refl)
makes m capacity s c n _ count is (fits, limits, new, (g, runs, h)) = absurd h.0

pub closes : (m : MNo) (c : CNo) (s : State) (n : ℕ) (r : Reply) → n ≡ how_many_woken (close_answer c) s.table → IsAnswer m (call.Close (Some c)) s r
    → Contains (reply.Closed n ∷ reply.Fault fault.CloseOfClosed ∷ reply.Fault fault.NoSuchChannel ∷ []) r
closes m c s n (reply.Closed k) is (fits, limits, new, (g, runs, h)) = (0, omega arith, ap (λ (i : ℕ). reply.Closed i) (is ∙ sym h.4))
closes m c s n (reply.Fault fault.CloseOfClosed) is h = (1, omega arith, refl)
closes m c s n (reply.Fault fault.NoSuchChannel) is h = (2, omega arith, refl)
closes m c s n _ is (fits, limits, new, (g, runs, h)) = absurd h

pub closes_nil : (m : MNo) (s : State) (r : Reply) → IsAnswer m (call.Close None) s r → Contains (reply.Fault fault.CloseOfNil ∷ []) r
closes_nil m s (reply.Fault fault.CloseOfNil) h = (0, omega arith, refl)
closes_nil m s _ (fits, limits, new, (g, runs, h)) = absurd h

pub lengths : (m : MNo) (c : Option CNo) (s : State) (n : ℕ) (r : Reply) → n ≡ option_map_or (λ k. length (items_at s.channels k)) c 0 → IsAnswer m (call.Len c) s r
    → Contains (reply.Number n ∷ reply.Fault fault.NoSuchChannel ∷ []) r
lengths m c s n (reply.Number k) is (fits, limits, new, (g, runs, h)) = (0, omega arith, ap (λ (i : ℕ). reply.Number i) (is ∙ sym h.0.1))
lengths m c s n (reply.Fault fault.NoSuchChannel) is h = (1, omega arith, refl)
lengths m c s n _ is (fits, limits, new, (g, runs, h)) = absurd h.0

pub capacities : (m : MNo) (c : Option CNo) (s : State) (n : ℕ) (r : Reply) → n ≡ option_map_or (λ k. capacity_at s.channels k) c 0 → IsAnswer m (call.Cap c) s r
    → Contains (reply.Number n ∷ reply.Fault fault.NoSuchChannel ∷ []) r
capacities m c s n (reply.Number k) is (fits, limits, new, (g, runs, h)) = (0, omega arith, ap (λ (i : ℕ). reply.Number i) (is ∙ sym h.0.1))
capacities m c s n (reply.Fault fault.NoSuchChannel) is h = (1, omega arith, refl)
capacities m c s n _ is (fits, limits, new, (g, runs, h)) = absurd h.0

-- What a goroutine does

ticket : (t : Table) (h : GNo) (r : Readiness) → FitsReadiness r → r ≡ next_of t h → Contains (reply.Ticket (next_word t h) ∷ reply.Fault fault.NoSuchBody ∷ reply.Fault fault.AlreadyStarted ∷ reply.Fault fault.NotParked ∷ []) (reply.Ticket r)
ticket t h r fits is = (0, omega arith, ap (λ (x : Readiness). reply.Ticket x) (whole_epoch h r (epoch_at t h) fits is))

pub starts : (m : MNo) (h : GNo) (s : State) (r : Reply) → IsAnswer m (call.Go h) s r
    → Contains (reply.Ticket (next_word s.table h) ∷ reply.Fault fault.NoSuchBody ∷ reply.Fault fault.AlreadyStarted ∷ reply.Fault fault.NotParked ∷ []) r
starts m h s (reply.Ticket r) (fits, limits, new, (g, runs, does)) = ticket s.table h r fits does.0.1
starts m h s (reply.Fault fault.NoSuchBody) is = (1, omega arith, refl)
starts m h s (reply.Fault fault.AlreadyStarted) is = (2, omega arith, refl)
starts m h s _ (fits, limits, new, (g, runs, does)) = absurd does.0

pub readies : (m : MNo) (h : GNo) (s : State) (r : Reply) → IsAnswer m (call.Ready h) s r
    → Contains (reply.Ticket (next_word s.table h) ∷ reply.Fault fault.NoSuchBody ∷ reply.Fault fault.AlreadyStarted ∷ reply.Fault fault.NotParked ∷ []) r
readies m h s (reply.Ticket r) (fits, limits, new, (g, runs, does)) = ticket s.table h r fits does.0.1
readies m h s (reply.Fault fault.NoSuchBody) is = (1, omega arith, refl)
readies m h s (reply.Fault fault.NotParked) is = (3, omega arith, refl)
readies m h s _ (fits, limits, new, (g, runs, does)) = absurd does.0

pub exits : (m : MNo) (s : State) (r : Reply) → IsAnswer m call.Exit s r → Contains (reply.Dead ∷ reply.MainEnded ∷ []) r
exits m s reply.Dead h = (0, omega arith, refl)
exits m s reply.MainEnded h = (1, omega arith, refl)
exits m s _ (fits, limits, new, (g, runs, h)) = absurd h.0

pub sleeps : (m : MNo) (until : ℕ) (s : State) (r : Reply) → IsAnswer m (call.Sleep until) s r → Contains (reply.Waits ∷ []) r
sleeps m until s reply.Waits h = (0, omega arith, refl)
sleeps m until s _ (fits, limits, new, (g, runs, h)) = absurd h.0

pub goparks : (m : MNo) (s : State) (r : Reply) → IsAnswer m call.Gopark s r → Contains (reply.Waits ∷ []) r
goparks m s reply.Waits h = (0, omega arith, refl)
goparks m s _ (fits, limits, new, (g, runs, h)) = absurd h.0

pub puts : (m : MNo) (t : Readiness) (s : State) (r : Reply) → IsAnswer m (call.Put t) s r → Contains (reply.Shelf ∷ []) r
puts m t s reply.Shelf h = (0, omega arith, refl)
puts m t s _ (fits, limits, new, (awake, h)) = absurd h.0

pub claims : (m : MNo) (t : Readiness) (s : State) (r : Reply) → IsAnswer m (call.Claim t) s r → Contains (reply.Held ∷ []) r
claims m t s reply.Held h = (0, omega arith, refl)
claims m t s _ (fits, limits, new, (free, held, h)) = absurd h.0

-- What a machine does

pub sets : (m : MNo) (n : ℕ) (s : State) (r : Reply) → IsAnswer m (call.Procs n) s r → Contains (reply.Number s.machines.active ∷ reply.Fault fault.BadProcs ∷ []) r
sets m n s (reply.Number before) (fits, limits, new, (g, runs, h)) = (0, omega arith, ap (λ (i : ℕ). reply.Number i) (sym h.0.1))
sets m n s (reply.Fault fault.BadProcs) h = (1, omega arith, refl)
sets m n s _ (fits, limits, new, (g, runs, h)) = absurd h.0

pub spins : (m : MNo) (s : State) (r : Reply) → IsAnswer m call.Spin s r → Contains (reply.Answer true ∷ reply.Answer false ∷ []) r
spins m s (reply.Answer true) h = (0, omega arith, refl)
spins m s (reply.Answer false) h = (1, omega arith, refl)
spins m s _ (fits, limits, new, (nothing, h)) = absurd h.0

pub looks : (m : MNo) (s : State) (r : Reply) → IsAnswer m call.Woken s r → Contains (reply.Answer true ∷ reply.Answer false ∷ []) r
looks m s (reply.Answer true) h = (0, omega arith, refl)
looks m s (reply.Answer false) h = (1, omega arith, refl)
looks m s _ (fits, limits, new, h) = absurd h.0

pub keeps : (m : MNo) (s : State) (r : Reply) → IsAnswer m call.Keep s r → Contains (reply.Answer true ∷ reply.Answer false ∷ []) r
keeps m s (reply.Answer true) h = (0, omega arith, refl)
keeps m s (reply.Answer false) h = (1, omega arith, refl)
keeps m s _ (fits, limits, new, h) = absurd h.0

pub unspins : (m : MNo) (s : State) (r : Reply) → IsAnswer m call.Unspin s r → Contains (reply.Done ∷ []) r
unspins m s reply.Done h = (0, omega arith, refl)
unspins m s _ (fits, limits, new, h) = absurd h.0

pub bares : (m : MNo) (s : State) (r : Reply) → IsAnswer m call.Bare s r → Contains (reply.Done ∷ []) r
bares m s reply.Done h = (0, omega arith, refl)
bares m s _ (fits, limits, new, h) = absurd h.0

-- the deadline that is minded is the least
minded_least : (b : Bool) (least : Option ℕ) (until : ℕ) → cond b None least ≡ Some until → unwrap_or least 0 ≡ until
minded_least true least until is = absurd cc
minded_least false least until is = ap (λ (o : Option ℕ). unwrap_or o 0) is

pub parks : (m : MNo) (s : State) (d : ℕ) (r : Reply) → d ≡ unwrap_or (least_of s.table.goroutines) 0 → IsAnswer m call.Park s r
    → Contains (reply.Parked ∷ reply.Work ∷ reply.LookAgain ∷ reply.AllAsleep ∷ reply.Mind d ∷ []) r
parks m s d reply.Parked is h = (0, omega arith, refl)
parks m s d reply.Work is h = (1, omega arith, refl)
parks m s d reply.LookAgain is h = (2, omega arith, refl)
parks m s d reply.AllAsleep is h = (3, omega arith, refl)
parks m s d (reply.Mind until) is (fits, limits, new, (bare, h)) =
    (4, omega arith, ap (λ (n : ℕ). reply.Mind n) (is ∙ minded_least (some_status is_ready_or_running s.table) (least_of s.table.goroutines) until h.2))
parks m s d _ is (fits, limits, new, (bare, h)) = absurd h

pub ticks : (m : MNo) (moment : ℕ) (s : State) (n : ℕ) (r : Reply) → n ≡ how_many_woken (due_answer (max s.table.clock moment)) s.table → IsAnswer m (call.Tick moment) s r
    → Contains (reply.Woke n ∷ []) r
ticks m moment s n (reply.Woke k) is (fits, limits, new, (awake, h)) =
    let clock : new.table.clock ≡ max s.table.clock moment = ap (λ (t : Table). t.clock) h.0.0 in
    (0, omega arith, ap (λ (i : ℕ). reply.Woke i) (is ∙ ap (λ (now : ℕ). how_many_woken (due_answer now) s.table) (sym clock) ∙ sym h.0.1))
ticks m moment s n _ is (fits, limits, new, (awake, h)) = absurd h.0
