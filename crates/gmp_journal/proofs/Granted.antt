-- Where no line refuses a call, and its values suit it, it is granted.
use Rattle.gmp_journal.proofs.Common.{◌≡◌, ℕ, ◌+◌, ◌^◌, ◌<◌, ◌≤◌, ◌||◌, Bool, true, false, false≢true, is_some, Option, None, Some, List, [], ◌∷◌, ◌++◌, length, slice_get, refl, sym, ap, subst, inl, inr, ◌∙◌, arith, GNo, PNo, Pass, Call, Outcome, Reply, Goroutine, Mode, IsInOrder, IsAwake, IsParked, State, IsCalling, IsRunning, RunsNothing, is_running_on, some_status, status_at, Handed, Grants, Suits, goroutine_in, processor_in, Log, entries_made, IsAllowed, IsCurrent}
use Rattle.std.proofs.Common.{◌⊎◌, ◌-◌, sum, slice_index, slice_set, get_or}
use Rattle.std.specs.Prelude.{IfNone}
use Rattle.gmp_seq.specs.declared.call.Call.TheVariants as call
use Rattle.gmp_seq.specs.declared.status.Mode.TheVariants as mode
use Rattle.gmp_seq.specs.declared.status.Status.TheVariants as status
use Rattle.std.proofs.lemmas.Option.{slice_get-get_or}
use Rattle.std.proofs.lemmas.List.{length-append}
use Rattle.std.proofs.lemmas.List.Elements.{All-append, All-cons, All-nil}
use Rattle.std.proofs.lemmas.List.Sums.{get_or-le-sum_by}
use Rattle.gmp_seq.specs.declared.call.Entry.{Entry}
use Rattle.gmp_seq.specs.Fits.{Fits}
use Rattle.gmp_seq.specs.Laws.{HasSizes}
use Rattle.gmp_seq.specs.Run.{IsLegal, Run}
use Rattle.gmp_seq.specs.Step.{Effect, Step, counted_one}
use Rattle.gmp_seq.proofs.InOrder.{legal_in_order}
use Rattle.gmp_seq.proofs.Manned.{status_of}
use Rattle.gmp_seq.proofs.Needed.{some_place}
use Rattle.gmp_seq.proofs.Runs.{run_join}
use Rattle.gmp_seq.proofs.Sizes.{legal_sizes}
use Rattle.gmp_journal.specs.Kept.{IsJournal, IsLeft}
use Rattle.gmp_journal.specs.Scene.{IsYoung}
use Rattle.gmp_journal.specs.Segments.{IsPart}
use Rattle.gmp_goroutines.proofs.Ties.{running_on}
use Rattle.gmp_journal.specs.Laws.{NeedsOf}
use Rattle.gmp_journal.proofs.Needed.{needs_of, not_false, out_test}
use Rattle.gmp_seq.specs.State.{opening}

-- all entries since the opening lead to the present state
pub since_opening : (log : Log) (part : IsPart log) → IsLegal log.limits log.bodies log.capacities (part.before ++ log.history) log.state
since_opening log part = run_join log.limits (opening log.limits log.bodies log.capacities) part.start log.state part.before log.history part.led part.run

pub sizes : (log : Log) → IsPart log → HasSizes log.limits log.bodies log.state
sizes log part = legal_sizes log.limits log.bodies log.capacities (part.before ++ log.history) log.state part.within (since_opening log part)

pub in_order : (log : Log) → IsPart log → IsInOrder log.limits log.state
in_order log part = legal_in_order log.limits log.bodies log.capacities (part.before ++ log.history) log.state part.within (since_opening log part)

-- while the run lasts another entry fits
pub ongoing_room : (old now : Log) (o : Option Outcome) → old ≡ now → IsPart old → old.state.outcome ≡ o → IfNone o (entries_made now < now.limits.entries)
ongoing_room old now (Some how) is part lasts = tt
ongoing_room old now None is part lasts = subst (λ (l : Log). entries_made l < l.limits.entries) is ((in_order old part).together.ongoing lasts)

not_stopped : (a b : Bool) → (a || b) ≡ false → b ≡ false
not_stopped true b e = absurd (false≢true (sym e))
not_stopped false b e = e

-- one entry more was made of those that were left
pub left_on : (log now : Log) (last : Entry) (left left' : ℕ) → IsLeft log left → length log.history < log.limits.room → now.history ≡ log.history ++ last ∷ [] → now.limits ≡ log.limits
    → now.stopped ≡ log.stopped → entries_made now ≡ entries_made log + 1 → left' ≤ left - 1 → (0 < left' → now.state.outcome ≡ None) → IsLeft now left'
left_on log now last left left' kept free longer limits stopped made less goes_on = record {
  room = let size = length-append log.history (last ∷ []) in rw (longer, limits) (omega (arith, size, kept.room, free, less));
  lasts = λ more.
      let was : 0 < left = omega (arith, more, less) in
      ap (λ (o : Option Outcome). is_some o || now.stopped) (goes_on more) ∙ (stopped ∙ not_stopped (is_some log.state.outcome) log.stopped (kept.lasts was));
  fits = λ more.
      let was : 0 < left = omega (arith, more, less) in
      let fits = kept.fits was in
      rw (limits, made) (omega (arith, fits, less, was));
}

module _ (log : Log) (space lasting : ℕ) (pass : Pass) (kept : IsJournal log space lasting) (current : IsCurrent log pass) where
  -- the run is longer by one step
  pub kept_on : (call : Call) (reply : Reply) (between : State) (last : Entry) (now : Log) (space' lasting' : ℕ) → length log.history < log.limits.room → Effect log.limits pass.m call reply log.state (counted_one log.limits pass.m reply between) → between.counts ≡ log.state.counts
      → last ≡ record { m = pass.m; k = pass.calls; call = call; reply = reply } → Fits last
      → now ≡ record log { history = log.history ++ last ∷ []; state = counted_one log.limits pass.m reply between; shelf = now.shelf } → space' ≡ space → lasting' ≡ lasting → IsJournal now space' lasting'
  kept_on call reply between last now space' lasting' free done counts is last_fits now_is same same' =
      let part = kept.part in
      let e : Entry = record { m = pass.m; k = slice_index log.state.counts pass.m.0; call = call; reply = reply } in
      let last_is : last ≡ e = rw (← current.turn) is in
      let counted : pass.m.0 < length log.state.counts = omega (arith, current.machine, (sizes log part).counts) in
      let number : slice_get log.state.counts pass.m.0 ≡ Some e.k = slice_get-get_or log.state.counts pass.m.0 0 counted in
      let state = counted_one log.limits pass.m reply between in
      let counts_are : state.counts ≡ slice_set log.state.counts pass.m.0 (e.k + 1) = rw counts refl in
      let step : Step log.limits pass.m call reply log.state state = (current.lasts, done, counts_are, refl) in
      let one : Run log.limits log.state (e ∷ []) state = (state, (number, step), refl) in
      let longer = length-append log.history (e ∷ []) in
      rw (now_is, last_is, same, same') (record {
        part = record {
          before = part.before;
          start = part.start;
          led = part.led;
          before_fits = part.before_fits;
          run = run_join log.limits part.start log.state state log.history (e ∷ []) part.run one;
          fits = All-append Fits log.history (e ∷ []) part.fits (All-cons Fits e [] (subst Fits last_is last_fits) (All-nil Fits));
          within = part.within;
        };
        few = omega (arith, free, longer);
        room = kept.room;
        lasts = kept.lasts;
        begins = kept.begins;
        ongoing = λ none not_closed. absurd (let empty = ap (λ (h : List Entry). length h) none in omega (arith, empty, longer));
      })

  -- a machine that is in no blocking call is awake or parked
  here : (slice_get log.state.machines.modes pass.m.0 ≡ Some mode.Calling → ⊥) → IsAwake log.state.machines pass.m ⊎ IsParked log.state.machines pass.m
  here free = by_mode (get_or log.state.machines.modes pass.m.0 mode.Awake)
      (slice_get-get_or log.state.machines.modes pass.m.0 mode.Awake (omega (arith, current.machine, (sizes log kept.part).modes))) where
        by_mode : (x : Mode) → slice_get log.state.machines.modes pass.m.0 ≡ Some x → IsAwake log.state.machines pass.m ⊎ IsParked log.state.machines pass.m
        by_mode mode.Awake at = inl at
        by_mode mode.Parked at = inr at
        by_mode mode.Calling at = absurd (free at)

  -- a machine that makes a goroutine's blocking call runs nothing
  caller_free : (g : GNo) → IsCalling log.state.table g pass.m → RunsNothing log.state.table pass.m
  caller_free g calls = by_test (some_status (is_running_on pass.m) log.state.table) refl where
    by_test : (b : Bool) → some_status (is_running_on pass.m) log.state.table ≡ b → b ≡ false
    by_test false h = refl
    by_test true h =
        let place = some_place (λ (x : Goroutine). is_running_on pass.m x.status) log.state.table.goroutines h in
        let k : GNo = record { 0 = place.0 } in
        let runs : IsRunning log.state.table k pass.m = ap status_of place.2 ∙ ap Some (running_on pass.m place.1.status place.3) in
        let same : k ≡ g = (in_order log kept.part).together.one_goroutine pass.m k g (inl runs) (inr calls) in
        let both : Some (status.Running pass.m) ≡ Some (status.Calling pass.m) = sym runs ∙ subst (λ (h : GNo). status_at log.state.table h ≡ Some (status.Calling pass.m)) (sym same) calls in
        absurd cc

  -- what it needs is met, and the run's order gives the rest
  met : (g : GNo) (p : PNo) (asked : Call) → NeedsOf pass.m g p asked log.state → Grants pass.m g p asked log.state
  met g p (call.Put r) (awake, out) = (awake, not_false _ (out_test log.state.table r out))
  met g p (call.Claim r) (free, holds, out) = (free, holds, not_false _ (out_test log.state.table r out))
  met g p call.Enter (runs, holds) = (runs, holds, ((in_order log kept.part).together.runner g pass.m runs).0)
  met g p (call.Leave number) calls = (calls, caller_free g calls, ((in_order log kept.part).together.caller pass.m).0 (g, calls))
  met g p call.Woken free = here free
  met g p _ needs = needs

  pub granted : (asked : Call) (values : Handed) → Suits asked values → IsAllowed log pass asked values
      → Grants pass.m (goroutine_in values) (processor_in values) asked log.state
  granted asked values suits allowed =
      met _ _ asked ((needs_of log.state pass.m asked values suits).0 (allowed.free, allowed.equipped, allowed.unspent, allowed.own))

-- what the effect of an allowed call and its entry ask for
pub record MayGo (log : Log) (space : ℕ) (pass : Pass) (asked : Call) (values : Handed) : Type 0 where
  pub current : IsCurrent log pass
  pub grants : Grants pass.m (goroutine_in values) (processor_in values) asked log.state
  pub young : IsYoung log.state
  pub counted : pass.m.0 < length log.state.counts
  pub few : entries_made log < 2 ^ 63
  pub free : length log.history < log.limits.room
  pub room : length log.history < space
  pub calls : pass.calls < 2 ^ 63

pub may_go : (old now : Log) (space lasting : ℕ) (pass : Pass) (asked : Call) (values : Handed) → old ≡ now → IsJournal old space lasting → Suits asked values → IsAllowed now pass asked values
    → MayGo old space pass asked values
may_go old now space lasting pass asked values is kept suits allowed =
    let may = subst (λ (l : Log). IsAllowed l pass asked values) (sym is) allowed in
    let part = kept.part in
    let order = in_order old part in
    let more : entries_made old < old.limits.entries = order.together.ongoing may.current.lasts in
    let few : entries_made old < 2 ^ 63 = omega (arith, more, part.within.entries.1) in
    let counted : pass.m.0 < length old.state.counts = omega (arith, may.current.machine, (sizes old part).counts) in
    let most : slice_index old.state.counts pass.m.0 ≤ sum old.state.counts = get_or-le-sum_by (λ (n : ℕ). n) old.state.counts pass.m.0 0 counted in
    record {
      current = may.current;
      grants = granted old space lasting pass kept may.current asked values suits may;
      young = record {
        epochs = λ g. omega (arith, order.together.epochs g, more, part.within.entries.1);
        arrivals = omega (arith, order.together.arrivals, few);
      };
      counted = counted;
      few = few;
      free = may.room;
      room = omega (arith, may.room, kept.room);
      calls = omega (arith, most, few, may.current.turn);
    }
