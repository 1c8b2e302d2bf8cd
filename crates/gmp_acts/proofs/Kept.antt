-- A call that is accepted keeps what is sound.
use Rattle.std.proofs.Common.{◌≡◌, ◌≢◌, ◌↔◌, ◌⊎◌, inl, inr, ℕ, ◌+◌, ◌<◌, ◌≤◌, true, false, List, [], ◌∷◌, ◌++◌, map, length, get_or, set, refl, sym, ap, ◌∙◌, subst, arith, Option, Some, None, is_some, sum, sum_by, slice_index, get_or-set_same, get_or-set_other, Bool, if◌then◌else◌}
use Rattle.std.proofs.lemmas.Bool.{cases_eq, false≢true}
use Rattle.std.proofs.lemmas.List.{length-set, map-append}
use Rattle.std.proofs.lemmas.List.Sums.{sum_by-set}
use Rattle.std.proofs.lemmas.Option.{slice_get-map, slice_get-get_or}
use Rattle.std.specs.List.{slice_get}
use Rattle.std.specs.Option.{option_map}
use Rattle.gmp_base.specs.declared.ask.Woke.{Woke}
use Rattle.gmp_base.specs.declared.number.GNo.{GNo}
use Rattle.gmp_base.specs.declared.number.MNo.{MNo}
use Rattle.gmp_base.specs.declared.number.Readiness.{Readiness}
use Rattle.gmp_base.specs.declared.pass.Pass.{Pass}
use Rattle.gmp_seq.proofs.InOrder.{legal_in_order}
use Rattle.gmp_seq.proofs.Counts.{run_total}
use Rattle.gmp_seq.proofs.Runs.{run_join}
use Rattle.gmp_seq.proofs.Sizes.{legal_sizes}
use Rattle.gmp_seq.specs.declared.call.Call.{Call}
use Rattle.gmp_seq.specs.declared.call.Entry.{Entry}
use Rattle.gmp_seq.specs.declared.call.Limits.{Limits}
use Rattle.gmp_seq.specs.declared.call.Reply.{Reply}
use Rattle.gmp_seq.specs.declared.call.Reply.TheVariants as reply
use Rattle.gmp_seq.specs.declared.status.Goroutine.{Goroutine}
use Rattle.gmp_seq.specs.declared.status.Mode.{Mode}
use Rattle.gmp_seq.specs.declared.status.Mode.TheVariants as mode
use Rattle.gmp_seq.specs.declared.status.TicketPlace.TheVariants.{Shelf}
use Rattle.gmp_seq.specs.declared.status.Status.{Status}
use Rattle.gmp_seq.specs.declared.status.Status.TheVariants as status
use Rattle.gmp_seq.specs.Laws.{IsInOrder, HasSizes}
use Rattle.gmp_seq.specs.Run.{Run}
use Rattle.gmp_seq.specs.State.{State, opening}
use Rattle.gmp_seq.specs.Step.{Step, outcome_after}
use Rattle.gmp_seq.specs.Table.{Table, all_woken, is_waiting, woken_with}
use Rattle.gmp_acts.specs.System.{BookRun, count_of, count_of_all}
use Rattle.gmp_driver.specs.declared.act.Act.TheVariants as act
use Rattle.gmp_driver.specs.declared.act.Told.{Told}
use Rattle.gmp_driver.specs.declared.act.Told.TheVariants as told
use Rattle.gmp_driver.specs.declared.place.Place.{Place}
use Rattle.gmp_driver.specs.declared.place.Place.TheVariants as place
use Rattle.gmp_driver.specs.declared.seen.Seen.{Seen}
use Rattle.gmp_driver.specs.Fits.{SuitsPlace}
use Rattle.gmp_acts.specs.Hands.{PlainMachine}
use Rattle.gmp_driver.specs.Seen.{own_processor}
use Rattle.gmp_acts.specs.Hands.{PlainHand}
use Rattle.gmp_driver.specs.Seen.{seen_of}
use Rattle.gmp_driver.specs.Table.{after, next_act, next_turns}
use Rattle.gmp_driver.specs.Uses.{Uses}
use Rattle.gmp_acts.specs.Hands.{hand_after}
use Rattle.gmp_acts.specs.declared.made.Made.{Made}
use Rattle.gmp_acts.specs.System.{System, machine_at, no_machine, held_number, called_number, in_hand, in_queue, out, made_of}
use Rattle.gmp_acts.specs.Acts.{Accepted}
use Rattle.gmp_acts.specs.Sound.{ModeAt, Sees, Agrees, IsSound}
use Rattle.gmp_acts.proofs.Effects.{effect_gear}
use Rattle.gmp_acts.proofs.Replies.{awoke, replies}
use Rattle.gmp_acts.proofs.Gears.{Gear, Standing, MayWake, spins_after, holds_after, others_hold}
use Rattle.gmp_acts.proofs.Lands.{Lands, lands}
use Rattle.gmp_driver.proofs.Uses.{uses}
use Rattle.gmp_acts.proofs.Tracks.{Tracks}
use Rattle.gmp_acts.proofs.Turning.{Turn, stays, woken, turns, number, RunsOn, CallsOn, runs_after, calls_after, others_run, others_call, out_of, out_turn, effect_turn}

-- Rows that are woken

-- a row stays, or waited and is on the shelf
abbrev RowWoken : Option Goroutine → Option Goroutine → Type 0
RowWoken old new = (new ≡ old) ⊎ ((x : Goroutine) × (y : Goroutine) × (old ≡ Some x) × (new ≡ Some y) × (is_waiting x.status ≡ true) × (a : Woke) × (y.status ≡ status.Ready Shelf a))

row_woken : (answer : Status → Option Woke) → ((s : Status) → is_some (answer s) ≡ true → is_waiting s ≡ true) → (t : Table) (i : ℕ)
    → RowWoken (slice_get t.goroutines i) (slice_get (all_woken answer t).goroutines i)
row_woken answer waiting t i =
    subst (RowWoken (slice_get t.goroutines i)) (sym (slice_get-map (λ (x : Goroutine). woken_with (answer x.status) x) t.goroutines i)) (by_row (slice_get t.goroutines i)) where
      by_answer : (x : Goroutine) (o : Option Woke) → answer x.status ≡ o → RowWoken (Some x) (Some (woken_with o x))
      by_answer x None e = inl refl
      by_answer x (Some a) e = inr (x, woken_with (Some a) x, refl, refl, waiting x.status (ap is_some e), a, refl)

      by_row : (o : Option Goroutine) → RowWoken o (option_map (λ (x : Goroutine). woken_with (answer x.status) x) o)
      by_row None = inl refl
      by_row (Some x) = by_answer x (answer x.status) refl

waits_not : (s : Status) (m : MNo) → is_waiting s ≡ true → (Some s ≡ Some (status.Running m) → ⊥) × (Some s ≡ Some (status.Calling m) → ⊥)
waits_not (status.Waiting w) m e = (λ h. cc, λ h. cc)
waits_not _ m e = absurd (false≢true e)

waits_in : (s : Status) → is_waiting s ≡ true → (r : Readiness) (epoch : ℕ) → out_of r (Some (record { status = s; epoch = epoch })) ≡ 0
waits_in (status.Waiting w) e r epoch = refl
waits_in _ e r epoch = absurd (false≢true e)

shelf_in : (s : Status) (a : Woke) → s ≡ status.Ready Shelf a → (r : Readiness) (epoch : ℕ) → out_of r (Some (record { status = s; epoch = epoch })) ≡ 0
shelf_in s a e r epoch = ap (λ (z : Status). out_of r (Some (record { status = z; epoch = epoch }))) e

row_runs : (m : MNo) (old new : Option Goroutine) → RowWoken old new → RunsOn m old ↔ RunsOn m new
row_runs m old new (inl same) = (λ h. subst (RunsOn m) (sym same) h, λ h. subst (RunsOn m) same h)
row_runs m old new (inr (x, y, was, is, waits, a, now)) =
    (λ h. absurd ((waits_not x.status m waits).0 (subst (RunsOn m) was h)), λ h. absurd (let e : Some y.status ≡ Some (status.Running m) = subst (RunsOn m) is h in cc))

row_calls : (m : MNo) (old new : Option Goroutine) → RowWoken old new → CallsOn m old ↔ CallsOn m new
row_calls m old new (inl same) = (λ h. subst (CallsOn m) (sym same) h, λ h. subst (CallsOn m) same h)
row_calls m old new (inr (x, y, was, is, waits, a, now)) =
    (λ h. absurd ((waits_not x.status m waits).1 (subst (CallsOn m) was h)), λ h. absurd (let e : Some y.status ≡ Some (status.Calling m) = subst (CallsOn m) is h in cc))

row_out : (r : Readiness) (old new : Option Goroutine) → RowWoken old new → out_of r new ≡ out_of r old
row_out r old new (inl same) = ap (out_of r) same
row_out r old new (inr (x, y, was, is, waits, a, now)) =
    ap (out_of r) is ∙ shelf_in y.status a now r y.epoch ∙ sym (ap (out_of r) was ∙ waits_in x.status waits r x.epoch)

through : {A : Type 0} {P Q : Type 0} → A ↔ P → P ↔ Q → A ↔ Q
through f g = (λ a. g.0 (f.0 a), λ q. f.1 (g.1 q))

-- What a turn means

module _ (m : MNo) (old new : Table) (hand hand' : PlainHand) where
  pub turn_runs : Turn m old new hand hand' → Tracks number (RunsOn m) old.goroutines (held_number hand.held) → Tracks number (RunsOn m) new.goroutines (held_number hand'.held)
  turn_runs (stays rows same) tr = subst (λ (gs : List Goroutine). Tracks number (RunsOn m) gs (held_number hand'.held)) (sym rows) (subst (Tracks number (RunsOn m) old.goroutines) (sym same.held) tr)
  turn_runs (woken answer waiting rows same) tr =
      subst (λ (gs : List Goroutine). Tracks number (RunsOn m) gs (held_number hand'.held)) (sym rows)
      (subst (Tracks number (RunsOn m) (all_woken answer old).goroutines) (sym same.held) (λ k. through (tr k) (row_runs m _ _ (row_woken answer waiting old k.0))))
  turn_runs (turns g x y at rows role tickets) tr =
      subst (λ (gs : List Goroutine). Tracks number (RunsOn m) gs (held_number hand'.held)) (sym rows) (runs_after old.goroutines m g x y at _ _ _ _ role tr)

  pub turn_calls : Turn m old new hand hand' → Tracks number (CallsOn m) old.goroutines (called_number hand.called) → Tracks number (CallsOn m) new.goroutines (called_number hand'.called)
  turn_calls (stays rows same) tr = subst (λ (gs : List Goroutine). Tracks number (CallsOn m) gs (called_number hand'.called)) (sym rows) (subst (Tracks number (CallsOn m) old.goroutines) (sym same.called) tr)
  turn_calls (woken answer waiting rows same) tr =
      subst (λ (gs : List Goroutine). Tracks number (CallsOn m) gs (called_number hand'.called)) (sym rows)
      (subst (Tracks number (CallsOn m) (all_woken answer old).goroutines) (sym same.called) (λ k. through (tr k) (row_calls m _ _ (row_woken answer waiting old k.0))))
  turn_calls (turns g x y at rows role tickets) tr =
      subst (λ (gs : List Goroutine). Tracks number (CallsOn m) gs (called_number hand'.called)) (sym rows) (calls_after old.goroutines m g x y at _ _ _ _ role tr)

  pub turn_others_run : (n : MNo) (o : Option GNo) → n ≢ m → Turn m old new hand hand' → Tracks number (RunsOn n) old.goroutines o → Tracks number (RunsOn n) new.goroutines o
  turn_others_run n o ne (stays rows same) tr = subst (λ (gs : List Goroutine). Tracks number (RunsOn n) gs o) (sym rows) tr
  turn_others_run n o ne (woken answer waiting rows same) tr =
      subst (λ (gs : List Goroutine). Tracks number (RunsOn n) gs o) (sym rows) (λ k. through (tr k) (row_runs n _ _ (row_woken answer waiting old k.0)))
  turn_others_run n o ne (turns g x y at rows role tickets) tr =
      subst (λ (gs : List Goroutine). Tracks number (RunsOn n) gs o) (sym rows) (others_run old.goroutines m g x y at _ _ _ _ n o ne role tr)

  pub turn_others_call : (n : MNo) (o : Option GNo) → n ≢ m → Turn m old new hand hand' → Tracks number (CallsOn n) old.goroutines o → Tracks number (CallsOn n) new.goroutines o
  turn_others_call n o ne (stays rows same) tr = subst (λ (gs : List Goroutine). Tracks number (CallsOn n) gs o) (sym rows) tr
  turn_others_call n o ne (woken answer waiting rows same) tr =
      subst (λ (gs : List Goroutine). Tracks number (CallsOn n) gs o) (sym rows) (λ k. through (tr k) (row_calls n _ _ (row_woken answer waiting old k.0)))
  turn_others_call n o ne (turns g x y at rows role tickets) tr =
      subst (λ (gs : List Goroutine). Tracks number (CallsOn n) gs o) (sym rows) (others_call old.goroutines m g x y at _ _ _ _ n o ne role tr)

  -- the tickets in hand change as those that are out do
  pub turn_flow : Turn m old new hand hand' → (r : Readiness) → in_hand r hand' + out r old ≡ in_hand r hand + out r new
  turn_flow (stays rows same) r =
      let is : out r new ≡ out r old = ap (λ (gs : List Goroutine). out_of r (slice_get gs r.g.0)) rows in
      omega (arith, is, same.tickets r)
  turn_flow (woken answer waiting rows same) r =
      let is : out r new ≡ out_of r (slice_get (all_woken answer old).goroutines r.g.0) = ap (λ (gs : List Goroutine). out_of r (slice_get gs r.g.0)) rows in
      let row : out_of r (slice_get (all_woken answer old).goroutines r.g.0) ≡ out r old = row_out r _ _ (row_woken answer waiting old r.g.0) in
      omega (arith, is, row, same.tickets r)
  turn_flow (turns g x y at rows role tickets) r =
      let is : out r new ≡ out_of r (slice_get (set old.goroutines g.0 y) r.g.0) = ap (λ (gs : List Goroutine). out_of r (slice_get gs r.g.0)) rows in
      omega (arith, is, out_turn old.goroutines g x y r at, tickets r)

-- Machines in the list

pub numbered : (m n : MNo) → n.0 ≡ m.0 → n ≡ m
numbered m n e = ap (λ (k : ℕ). let x : MNo = record { 0 = k } in x) e

-- where a write at m is read
pub at_machine : (P : MNo → PlainMachine → Type 0) (xs : List PlainMachine) (m n : MNo) (x : PlainMachine) → m.0 < length xs → P m x → (n ≢ m → P n (get_or xs n.0 no_machine)) → P n (get_or (set xs m.0 x) n.0 no_machine)
at_machine P xs m n x inside here other =
    elim (cases_eq n.0 m.0) [
      | inl same ↦ subst (λ (i : MNo). P i (get_or (set xs m.0 x) i.0 no_machine)) (sym (numbered m n same)) (subst (P m) (sym (get_or-set_same xs m.0 x no_machine inside)) here)
      | inr differ ↦ subst (P n) (sym (get_or-set_other xs m.0 n.0 x no_machine differ)) (other (λ e. differ (ap (λ (i : MNo). i.0) e)))
    ]

pub hands_set : (k : System) (m : MNo) (x : PlainMachine) (r : Readiness) → m.0 < length k.machines
    → sum_by (λ (y : PlainMachine). in_hand r y.hand) (set k.machines m.0 x) + in_hand r (machine_at k m).hand ≡ sum_by (λ (y : PlainMachine). in_hand r y.hand) k.machines + in_hand r x.hand
hands_set k m x r inside = sum_by-set (λ (y : PlainMachine). in_hand r y.hand) k.machines m.0 x no_machine inside

-- Drivers

pub turns_few : (s : Seen) (here : Place) (what : Told) → s.turns ≤ 16 → next_turns s here what ≤ 16
turns_few s (place.Ticking now) (told.Replied (reply.Woke n)) h = omega arith
turns_few s place.Keep (told.Replied (reply.Answer false)) h = late (is_some s.aside) where
  late : (b : Bool) → (if b then 16 else s.turns) ≤ 16
  late true = omega arith
  late false = h
turns_few s place.Claim (told.Replied reply.Held) h = omega arith
turns_few s (place.MindTick now) (told.Replied (reply.Woke n)) h = minded (is_some s.aside) where
  minded : (b : Bool) → (if b then s.turns else 0) ≤ 16
  minded true = h
  minded false = omega arith
turns_few s _ _ h = h

-- whoever is woken was at Rest
pub wakes_at : (here : Place) (old new : Option Mode) → MayWake old new → ModeAt here old → ModeAt here new
wakes_at here old new (inl same) h = subst (ModeAt here) (sym same) h
wakes_at here old new (inr (parked, awake)) h = subst (ModeAt here) (sym awake) (by_place here (subst (ModeAt here) parked h)) where
  by_place : (p : Place) → ModeAt p (Some mode.Parked) → ModeAt p (Some mode.Awake)
  by_place place.Block e = absurd cc
  by_place (place.Leave n) e = absurd cc
  by_place place.Rest e = inl refl
  by_place _ e = absurd cc

pub same_pass : (p q : Pass) (o : Option Pass) → o ≡ Some p → o ≡ Some q → p ≡ q
same_pass p q o a b = cc

ends : (limits : Limits) (answer : Reply) (counts : List ℕ) → (answer ≡ reply.MainEnded) ⊎ (answer ≡ reply.AllAsleep) → outcome_after limits answer counts ≢ None
ends limits answer counts (inl is) e = let f : outcome_after limits reply.MainEnded counts ≡ None = subst (λ (a : Reply). outcome_after limits a counts ≡ None) is e in cc
ends limits answer counts (inr is) e = let f : outcome_after limits reply.AllAsleep counts ≡ None = subst (λ (a : Reply). outcome_after limits a counts ≡ None) is e in cc

-- One call of machine m
module _ (k : System) (m : MNo) (c : Call) (answer : Reply) (inside : m.0 < length k.machines) (s : IsSound k) (acts : next_act (machine_at k m) ≡ act.Call c)
    (s' : State) (step : Step k.book.limits m c answer k.book.state s') where
  abbrev pub mine : Agrees k.book m (machine_at k m)
  mine = s.each m inside

  order : IsInOrder k.book.limits k.book.state
  order = legal_in_order k.book.limits k.book.bodies k.book.capacities k.book.history k.book.state s.within s.legal

  sizes : HasSizes k.book.limits k.book.bodies k.book.state
  sizes = legal_sizes k.book.limits k.book.bodies k.book.capacities k.book.history k.book.state s.within s.legal

  pub within_limits : m.0 < k.book.limits.machines
  within_limits = let e = s.count in omega (arith, e, inside)

  sees : Sees k.book.state m (machine_at k m)
  sees = mine.sees step.0

  fits : SuitsPlace (machine_at k m).place (machine_at k m).hand
  fits = mine.driver.fits (ap is_some mine.has_pass)

  used : Uses c (machine_at k m).hand
  used = uses (machine_at k m) c acts fits

  standing : Standing k.book.state m
  standing =
      let few : m.0 < length k.book.state.machines.spinning = (let e = sizes.spinning in let w = within_limits in omega (arith, e, w)) in
      record {
        runner = λ g runs. (order.together.runner g m runs).0;
        caller = λ g calls. (order.together.caller m).0 (g, calls);
        spins_row = get_or k.book.state.machines.spinning m.0 false;
        spins_at = slice_get-get_or k.book.state.machines.spinning m.0 false few;
      }

  gear : Gear m c answer k.book.state.machines s'.machines (own_processor (machine_at k m).hand) (own_processor (hand_after k.book.state.table c answer (machine_at k m).hand))
  gear = effect_gear k.book.limits m c answer k.book.state s' (machine_at k m).hand used standing step.1

  turn : Turn m k.book.state.table s'.table (machine_at k m).hand (hand_after k.book.state.table c answer (machine_at k m).hand)
  turn = effect_turn k.book.limits m c answer k.book.state s' (machine_at k m).hand used sees.runs sees.calls step.1

  abbrev pub now_at : Pass → PlainMachine
  now_at behind = after (record (machine_at k m) { pass = Some behind; hand = hand_after k.book.state.table c answer (machine_at k m).hand }) (told.Replied answer)

  there : Lands (machine_at k m).procs (machine_at k m).place c answer (now_at mine.pass).place (hand_after k.book.state.table c answer (machine_at k m).hand) (slice_get k.book.state.machines.modes m.0)
  there = lands (machine_at k m).procs (machine_at k m).fresh (machine_at k m).turns (machine_at k m).aside k.book.state.table (machine_at k m).hand (slice_get k.book.state.machines.modes m.0) (machine_at k m).place c answer acts fits sees.does
      (replies k.book.limits m c answer k.book.state s' step.1) (awoke k.book.limits m c answer k.book.state s' step.1)

  sees_after : (behind : Pass) → Sees s' m (now_at behind)
  sees_after behind = record {
    holds = holds_after m k.book.state.machines.holders s'.machines.holders _ _ gear.holders sees.holds;
    runs = turn_runs m k.book.state.table s'.table _ _ turn sees.runs;
    calls = turn_calls m k.book.state.table s'.table _ _ turn sees.calls;
    does = subst (ModeAt (now_at behind).place) (sym gear.mode) there.does;
    spinning = gear.spinning ∙ ap (spins_after c answer) sees.spinning ∙ there.spinning;
  }

  pub flow_after : (r : Readiness) → in_hand r (hand_after k.book.state.table c answer (machine_at k m).hand) + out r k.book.state.table ≡ in_hand r (machine_at k m).hand + out r s'.table
  flow_after r = turn_flow m k.book.state.table s'.table _ _ turn r

  -- the machine that called
  pub caller : (log' : BookRun) (behind : Pass) → log'.run ≡ k.book.run → log'.limits ≡ k.book.limits → log'.state ≡ s' → behind ≡ record mine.pass { calls = mine.pass.calls + 1; seen = count_of_all log' }
      → Agrees log' m (now_at behind)
  caller log' behind run limits state is =
      let passes : behind.run ≡ mine.pass.run = ap (λ (p : Pass). p.run) is in
      let few : m.0 < length k.book.state.counts = (let e = sizes.counts in let w = within_limits in omega (arith, e, w)) in
      let counts : count_of log' m ≡ count_of k.book m + 1 =
      ap (λ (t : State). slice_index t.counts m.0) state ∙ ap (λ (l : List ℕ). slice_index l m.0) step.2 ∙ get_or-set_same k.book.state.counts m.0 (slice_index k.book.state.counts m.0 + 1) 0 few in
      let saw : Sees s' m (now_at behind) = sees_after behind in
      let saw' : Sees log'.state m (now_at behind) = subst (λ (t : State). Sees t m (now_at behind)) (sym state) saw in
      record {
        driver = record {
          some_procs = mine.driver.some_procs;
          few_procs = mine.driver.few_procs;
          few_turns = turns_few (seen_of (machine_at k m).procs (machine_at k m).fresh (machine_at k m).turns (machine_at k m).aside (hand_after k.book.state.table c answer (machine_at k m).hand)) (machine_at k m).place (told.Replied answer) mine.driver.few_turns;
          pass = passes ∙ mine.run.1 ∙ sym mine.run.0;
          fits = λ _. there.fits;
        };
        pass = behind;
        has_pass = refl;
        run = (mine.run.0 ∙ sym run, passes ∙ mine.run.1 ∙ sym run);
        its = ap (λ (p : Pass). p.m) is ∙ mine.its;
        turn = ap (λ (p : Pass). p.calls) is ∙ ap (λ (n : ℕ). n + 1) mine.turn ∙ sym counts;
        seen = (let e : behind.seen ≡ count_of_all log' = ap (λ (p : Pass). p.seen) is in omega (arith, e));
        procs = mine.procs ∙ ap (λ (l : Limits). l.procs) (sym limits);
        few = there.few;
        ended = λ end goes. ends k.book.limits answer s'.counts (there.ended end) (sym step.3 ∙ ap (λ (t : State). t.outcome) (sym state) ∙ goes);
        sees = λ _. saw';
        has = record { holds = λ p. (saw'.holds p).0; runs = λ g. (saw'.runs g).0; calls = λ g. (saw'.calls g).0 };
      }

  -- another machine
  pub bystander : (log' : BookRun) (n : MNo) (y : PlainMachine) → n ≢ m → log'.run ≡ k.book.run → log'.limits ≡ k.book.limits → log'.state ≡ s' → count_of_all k.book ≤ count_of_all log' → Agrees k.book n y → Agrees log' n y
  bystander log' n y ne run limits state longer h =
      let was : Sees k.book.state n y = h.sees step.0 in
      let differ : n.0 ≢ m.0 = (λ (e : n.0 ≡ m.0). ne (numbered m n e)) in
      let counts : count_of log' n ≡ count_of k.book n =
      ap (λ (t : State). slice_index t.counts n.0) state ∙ ap (λ (l : List ℕ). slice_index l n.0) step.2 ∙ get_or-set_other k.book.state.counts m.0 n.0 (slice_index k.book.state.counts m.0 + 1) 0 differ in
      let saw : Sees s' n y = record {
        holds = others_hold m n k.book.state.machines.holders s'.machines.holders _ _ (own_processor y.hand) ne gear.holders was.holds;
        runs = turn_others_run m k.book.state.table s'.table _ _ n (held_number y.hand.held) ne turn was.runs;
        calls = turn_others_call m k.book.state.table s'.table _ _ n (called_number y.hand.called) ne turn was.calls;
        does = wakes_at y.place _ _ (gear.others n ne) was.does;
        spinning = gear.still n ne ∙ was.spinning;
      } in
      let saw' : Sees log'.state n y = subst (λ (t : State). Sees t n y) (sym state) saw in
      record {
        driver = h.driver;
        pass = h.pass;
        has_pass = h.has_pass;
        run = (h.run.0 ∙ sym run, h.run.1 ∙ sym run);
        its = h.its;
        turn = h.turn ∙ sym counts;
        seen = (let e = h.seen in omega (arith, e, longer));
        procs = h.procs ∙ ap (λ (l : Limits). l.procs) (sym limits);
        few = h.few;
        ended = λ end. absurd (h.ended end step.0);
        sees = λ _. saw';
        has = record { holds = λ p. (saw'.holds p).0; runs = λ g. (saw'.runs g).0; calls = λ g. (saw'.calls g).0 };
      }

  few_counts : m.0 < length k.book.state.counts
  few_counts = let n = sizes.counts in let w = within_limits in omega (arith, n, w)

  by_step : Run k.book.limits k.book.state (record { m = m; k = count_of k.book m; call = c; reply = answer } ∷ []) s'
  by_step = (s', (slice_get-get_or k.book.state.counts m.0 0 few_counts, step), refl)

  pub one_more : count_of_all k.book + 1 ≡ sum s'.counts
  one_more = let n = run_total k.book.limits k.book.state s' (record { m = m; k = count_of k.book m; call = c; reply = answer } ∷ []) by_step in omega (arith, n)

  -- the run goes on by the step
  pub legal_after : Run k.book.limits (opening k.book.limits k.book.bodies k.book.capacities) (k.book.history ++ record { m = m; k = count_of k.book m; call = c; reply = answer } ∷ []) s'
  legal_after = run_join k.book.limits (opening k.book.limits k.book.bodies k.book.capacities) k.book.state s' k.book.history (record { m = m; k = count_of k.book m; call = c; reply = answer } ∷ []) s.legal by_step

pub accepted_sound : (k : System) (m : MNo) (c : Call) (x : PlainMachine) (log' : BookRun) (own : List Made) → m.0 < length k.machines → IsSound k → next_act (machine_at k m) ≡ act.Call c
    → Accepted (machine_at k m) m c k.book k.own x log' own → IsSound (record k { book = log'; machines = set k.machines m.0 x; own = own })
accepted_sound k m c x log' own inside s acts done =
    let mine : Agrees k.book m (machine_at k m) = s.each m inside in
    let answer : Reply = done.answer in
    let same : done.granted.may.pass ≡ mine.pass = same_pass done.granted.may.pass mine.pass (machine_at k m).pass done.granted.may.has_pass mine.has_pass in
    let run : log'.run ≡ k.book.run = ap (λ (l : BookRun). l.run) done.opened in
    let limits : log'.limits ≡ k.book.limits = ap (λ (l : BookRun). l.limits) done.opened in
    let bodies : log'.bodies ≡ k.book.bodies = ap (λ (l : BookRun). l.bodies) done.opened in
    let capacities : log'.capacities ≡ k.book.capacities = ap (λ (l : BookRun). l.capacities) done.opened in
    let e : Entry = record { m = m; k = count_of k.book m; call = c; reply = answer } in
    let longer : count_of_all k.book ≤ count_of_all log' = (let n = one_more k m c answer inside s acts log'.state done.step in omega (arith, n)) in
    let behind : Pass = record done.granted.may.pass { calls = done.granted.may.pass.calls + 1; seen = count_of_all log' } in
    let is : behind ≡ record mine.pass { calls = mine.pass.calls + 1; seen = count_of_all log' } =
    ap (λ (p : Pass). let q : Pass = record p { calls = p.calls + 1; seen = count_of_all log' } in q) same in
    let here : Agrees log' m x = subst (Agrees log' m) (sym done.machine) (caller k m c answer inside s acts log'.state done.step log' behind run limits refl is) in
    let tickets : (r : Readiness) → sum_by (in_queue r) k.queues + sum_by (λ (y : PlainMachine). in_hand r y.hand) (set k.machines m.0 x) ≡ out r log'.state.table = (λ (r : Readiness).
    let all = s.all_tickets r done.step.0 in
    let hands = hands_set k m x r inside in
    let hand : in_hand r x.hand ≡ in_hand r (hand_after k.book.state.table c answer (machine_at k m).hand) = ap (λ (y : PlainMachine). in_hand r y.hand) done.machine in
    let flow = flow_after k m c answer inside s acts log'.state done.step r in
    omega (arith, all, hands, hand, flow)) in
    record {
      within = rw (limits, bodies, capacities) s.within;
      legal = rw (limits, bodies, capacities, done.entry) (legal_after k m c answer inside s acts log'.state done.step);
      own = ap (map made_of) done.entry ∙ map-append made_of k.book.history (e ∷ []) ∙ ap (λ (l : List Made). l ++ made_of e ∷ []) s.own ∙ sym done.made;
      count = length-set k.machines m.0 x ∙ s.count ∙ ap (λ (l : Limits). l.machines) (sym limits);
      queues = s.queues ∙ ap (λ (l : Limits). l.procs) (sym limits);
      each = λ n there. (
          let there' : n.0 < length k.machines = (let l = length-set k.machines m.0 x in omega (arith, there, l)) in
          at_machine (Agrees log') k.machines m n x inside here
          (λ ne. bystander k m c answer inside s acts log'.state done.step log' n (machine_at k n) ne run limits refl longer (s.each n there')));
      tickets = λ r. (let t = tickets r in omega (arith, t));
      all_tickets = λ r _. tickets r;
    }
