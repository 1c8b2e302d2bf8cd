-- A step is of the goroutine and the processor that its call was handed.
use Rattle.gmp_journal.proofs.Common.{Call, ◌≡◌, ◌↔◌, ℕ, Bool, true, false, if◌then◌else◌, is_some, Option, None, Some, List, [], ◌∷◌, refl, sym, ap, subst, inl, inr, ◌∙◌, and_parts, false≢true, or_parts, option_map_or, Case, GNo, MNo, PNo, Readiness, Limits, Reply, Goroutine, Status, IsInOrder, Enters, Holds, State, Table, IsCalling, IsReady, IsRunning, some_status}
use Rattle.std.specs.List.{list_any}
use Rattle.std.specs.Option.{unwrap_or}
use Rattle.gmp_base.specs.declared.ask.Woke.{Woke}
use Rattle.gmp_base.specs.declared.ask.Woke.TheVariants as woke
use Rattle.gmp_base.specs.declared.cases.Case.TheVariants as case
use Rattle.gmp_seq.proofs.Counts.{asleep_where_said}
use Rattle.gmp_journal.specs.Done.{IsDoneTo}
use Rattle.gmp_seq.specs.declared.call.Call.TheVariants as call
use Rattle.gmp_seq.specs.declared.call.Reply.TheVariants as reply
use Rattle.gmp_seq.specs.declared.status.TicketPlace.TheVariants as place
use Rattle.gmp_seq.specs.declared.status.Status.TheVariants as status
use Rattle.gmp_seq.proofs.Asleep.{fails_at}
use Rattle.gmp_seq.proofs.Needed.{some_place}
use Rattle.gmp_seq.specs.Machines.{Declares}
use Rattle.gmp_seq.specs.Step.{ByRunning, Claims, Deals, EntersBy, Exits, Goparks, LeavesBy, OnTable, Parks, Selects, Sleeps, Yields}
use Rattle.gmp_seq.specs.Table.{answer_of_ready, deadline_of, is_astir, is_ready_or_running, is_shelved, least_deadline, least_of, minded, stored_at}
use Rattle.gmp_journal.specs.Laws.{StepsAre}

-- whichever goroutine of the machine's it is, it is this one
by_this : (limits : Limits) (m : MNo) (g : GNo) (s : State) (P : GNo → Type 0) → IsInOrder limits s → IsRunning s.table g m → ByRunning m s P → P g
by_this limits m g s P order runs (h, here, done) = subst P (order.together.one_goroutine m h g (inl here) (inl runs)) done

by_caller : (limits : Limits) (m : MNo) (g h : GNo) (s : State) (P : GNo → Type 0) → IsInOrder limits s → IsCalling s.table g m → IsCalling s.table h m → P h → P g
by_caller limits m g h s P order calls here done = subst P (order.together.one_goroutine m h g (inr here) (inr calls)) done

-- what is stored for one that is ready is what it is to be told
stored : (t : Table) (r : Readiness) (answer : Woke) → IsReady t r place.Out answer → IsReady t r place.Out (stored_at t r.g)
stored t r answer ready =
    let same : answer ≡ stored_at t r.g = sym (ap (λ (o : Option Goroutine). option_map_or (λ (x : Goroutine). unwrap_or (answer_of_ready x.status) woke.Done) o woke.Done) ready) in
    subst (IsReady t r place.Out) same ready

claims : (m : MNo) (r : Readiness) (answer : Reply) (old new : Table) → Claims m r answer old new → IsReady old r place.Out (stored_at old r.g)
claims m r reply.Held old new (answer, ready, is) = stored old r answer ready
claims m r _ old new h = absurd h

main_ends : (g : GNo) (answer : Reply) (old new : Table) → Exits g answer old new → answer ≡ reply.MainEnded ↔ (g.0 ≡ 0)
main_ends g reply.Dead old new (other, is) = (λ e. cc, λ zero. absurd (other zero))
main_ends g reply.MainEnded old new (zero, is) = (λ e. zero, λ e. refl)
main_ends g _ old new h = absurd h

-- the processor that the machine gives up is the one that it holds
enters : (limits : Limits) (m : MNo) (p : PNo) (answer : Reply) (old new : State) → IsInOrder limits old → Holds old.machines m p
    → Enters m answer old.machines new.machines → (woken : Option MNo) × (answer ≡ reply.Entered p woken)
enters limits m p (reply.Entered q None) old new order holds (here, rest, is) =
    (None, ap (λ (x : PNo). reply.Entered x None) (order.together.one_processor m q p here holds))
enters limits m p (reply.Entered q (Some n)) old new order holds (here, rest, is) =
    (Some n, ap (λ (x : PNo). reply.Entered x (Some n)) (order.together.one_processor m q p here holds))
enters limits m p _ old new order holds h = absurd h

declares : (limits : Limits) (m : MNo) (p : PNo) (answer : Reply) (old new : State) → IsInOrder limits old → Holds old.machines m p
    → Declares m answer old.machines new.machines → answer ≡ reply.Idle p
declares limits m p (reply.Idle q) old new order holds (calm, here, is) = ap reply.Idle (order.together.one_processor m q p here holds)
declares limits m p _ old new order holds h = absurd h

-- By call

claim : (r : Readiness) → StepsAre (call.Claim r) (λ m g p answer old new. IsReady old.table r place.Out (stored_at old.table r.g))
claim r limits m g p answer old new order grants (ongoing, (free, equipped, done), counted, ended) = claims m r answer old.table new.table done.0

select : (cases : List Case) (has_default : Bool) (until : Option ℕ) → StepsAre (call.Select cases has_default until) (λ m g p answer old new. Selects g cases has_default until answer old new)
select cases has_default until limits m g p answer old new order grants (ongoing, (few, done), counted, ended) =
    by_this limits m g old (λ (h : GNo). Selects h cases has_default until answer old new) order grants done

entered : StepsAre call.Enter (λ m g p answer old new. (woken : Option MNo) × (answer ≡ reply.Entered p woken))
entered limits m g p answer old new order (runs, holds, awake) (ongoing, (h, here, (table, done, same)), counted, ended) = enters limits m p answer old new order holds done

leave : (number : ℕ) → StepsAre (call.Leave number) (λ m g p answer old new. LeavesBy m g number answer old new)
leave number limits m g p answer old new order (calls, free, mode) (ongoing, (h, here, done), counted, ended) =
    by_caller limits m g h old (λ (k : GNo). LeavesBy m k number answer old new) order calls here done

declare : StepsAre call.Declare (λ m g p answer old new. answer ≡ reply.Idle p)
declare limits m g p answer old new order (free, calm, holds) (ongoing, (nothing, done), counted, ended) = declares limits m p answer old new order holds done.0

-- Parks

-- where nobody is astir no deadline stands
asleep_none : (s : Status) → is_astir s ≡ false → deadline_of s ≡ None
asleep_none (status.Waiting w) e = by_until w.until e where
  by_until : (o : Option ℕ) → is_some o ≡ false → o ≡ None
  by_until None h = refl
  by_until (Some n) h = cc
asleep_none (status.Ready at told) e = cc
asleep_none (status.Running m) e = cc
asleep_none (status.Calling m) e = cc
asleep_none _ e = refl

still_least : (xs : List Goroutine) → list_any (λ (x : Goroutine). is_astir x.status) xs ≡ false → least_of xs ≡ None
still_least [] e = refl
still_least (x ∷ xs) e =
    let parts = or_parts _ _ e in
    rw (asleep_none x.status parts.0) (still_least xs parts.1)

shelved_is_ready : (s : Status) → is_shelved s ≡ true → is_ready_or_running s ≡ true
shelved_is_ready (status.Ready place.Shelf told) h = refl
shelved_is_ready (status.Ready place.Out told) h = absurd (false≢true h)
shelved_is_ready _ h = absurd (false≢true h)

-- a deadline is minded only where nobody is ready or running, and one stands
minded_parts : (t : Table) (until : ℕ) → minded t ≡ Some until → (some_status is_ready_or_running t ≡ false) × (least_deadline t ≡ Some until)
minded_parts t until e = by_going (some_status is_ready_or_running t) refl e where
  by_going : (b : Bool) → some_status is_ready_or_running t ≡ b → (if b then None else least_deadline t) ≡ Some until
      → (some_status is_ready_or_running t ≡ false) × (least_deadline t ≡ Some until)
  by_going true is e = cc
  by_going false is e = (is, e)

says : (m : MNo) (answer : Reply) (until : ℕ) (old new : State) → Parks m answer old new → answer ≡ reply.Mind until → minded old.table ≡ Some until
says m (reply.Mind n) until old new (none, astir, minds, same) is = minds ∙ ap Some cc
says m reply.Work until old new h is = cc
says m reply.AllAsleep until old new h is = cc
says m reply.LookAgain until old new h is = cc
says m reply.Parked until old new h is = cc
says m _ until old new h is = absurd h

minds : (m : MNo) (answer : Reply) (until : ℕ) (old new : State) → Parks m answer old new → minded old.table ≡ Some until → answer ≡ reply.Mind until
minds m (reply.Mind n) until old new (none, astir, told, same) is = let both : Some n ≡ Some until = sym told ∙ is in cc
minds m reply.Work until old new (work, same) is =
    let spot = some_place (λ (x : Goroutine). is_shelved x.status) old.table.goroutines (and_parts _ _ work).0 in
    let none = (minded_parts old.table until is).0 in
    absurd (false≢true (sym (fails_at (λ (x : Goroutine). is_ready_or_running x.status) old.table.goroutines spot.0 spot.1 none spot.2) ∙ shelved_is_ready spot.1.status spot.3))
minds m reply.AllAsleep until old new (none, asleep, same) is =
    let both : None ≡ Some until = sym (still_least old.table.goroutines asleep) ∙ (minded_parts old.table until is).1 in cc
minds m reply.LookAgain until old new (none, astir, told, marked, same) is = let both : None ≡ Some until = sym told ∙ is in cc
minds m reply.Parked until old new (none, astir, told, unmarked, same, rest, machines) is = let both : None ≡ Some until = sym told ∙ is in cc
minds m _ until old new h is = absurd h

-- a park tells a deadline exactly where that is minded
parks_mind : (m : MNo) (answer : Reply) (until : ℕ) (old new : State) → Parks m answer old new → answer ≡ reply.Mind until ↔ (minded old.table ≡ Some until)
parks_mind m answer until old new done = (says m answer until old new done, minds m answer until old new done)

park_minds : (until : ℕ) → StepsAre call.Park (λ m g p answer old new. answer ≡ reply.Mind until ↔ (minded old.table ≡ Some until))
park_minds until limits m g p answer old new order grants (ongoing, (bare, done), counted, ended) = parks_mind m answer until old new done

-- All calls

pub done : (asked : Call) → StepsAre asked (IsDoneTo asked)
done (call.Claim r) limits m g p answer old new order grants step = claim r limits m g p answer old new order grants step
done call.Yield limits m g p answer old new order grants step = (by_this limits m g old (λ (h : GNo). OnTable (Yields h answer) old new) order grants step.1).0
done call.Exit limits m g p answer old new order grants step =
    let is = (by_this limits m g old (λ (h : GNo). OnTable (Exits h answer) old new) order grants step.1).0 in (is, main_ends g answer old.table new.table is)
done (call.Send c v) limits m g p answer old new order grants step = by_this limits m g old (λ (h : GNo). Deals h (case.Send c v) answer old new) order grants step.1
done (call.Recv c) limits m g p answer old new order grants step = by_this limits m g old (λ (h : GNo). Deals h (case.Recv c) answer old new) order grants step.1
done (call.Select cases has_default until) limits m g p answer old new order grants step = select cases has_default until limits m g p answer old new order grants step
done (call.Sleep until) limits m g p answer old new order grants step = (by_this limits m g old (λ (h : GNo). OnTable (Sleeps h until answer) old new) order grants step.1).0
done call.Gopark limits m g p answer old new order grants step = (by_this limits m g old (λ (h : GNo). OnTable (Goparks h answer) old new) order grants step.1).0
done call.Enter limits m g p answer old new order grants step =
    let woken = entered limits m g p answer old new order grants step in (
      (by_this limits m g old (λ (h : GNo). EntersBy m h answer old new) order grants.0 step.1).0,
      woken.0,
      woken.1,
    )
done (call.Leave number) limits m g p answer old new order grants step = leave number limits m g p answer old new order grants step
done call.Declare limits m g p answer old new order grants step = declare limits m g p answer old new order grants step
done call.Park limits m g p answer old new order grants step =
    (asleep_where_said limits m answer old new step, λ until. park_minds until limits m g p answer old new order grants step)
done _ limits m g p answer old new order grants step = tt
