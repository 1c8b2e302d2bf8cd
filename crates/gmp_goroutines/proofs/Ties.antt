-- The channels' records stay those of the waiters of the table, and the list says who runs on each machine, by each change of the table.
use Rattle.gmp_goroutines.proofs.Common.{◌≡◌, ℕ, zero, suc, ◌+◌, ◌-◌, ◌<◌, ◌≤◌, Bool, true, false, inl, inr, Option, Some, None, List, [], ◌∷◌, ◌++◌, length, set, slice_get, refl, sym, ap, subst, ◌∙◌, arith, false≢true, eqb-true, cases_eq, Case, GNo, MNo, Goroutine, Kind, Offer, Status, Running, Waiting, Wait, Waiter, Table, IsRunning, status_at, status_of, as_waiters, first_waiters, waiters}
use Rattle.std.proofs.Common.{count_by, option_map, replicate, length-set}
use Rattle.std.proofs.lemmas.List.{length-replicate}
use Rattle.std.specs.Prelude.{IfNone, IfSome}
use Rattle.gmp_base.specs.declared.cases.Case.TheVariants as case
use Rattle.gmp_base.specs.declared.ask.Fault.TheVariants as fault
use Rattle.gmp_base.specs.declared.ask.Woke.TheVariants as woke
use Rattle.gmp_base.specs.declared.number.Readiness.{Readiness}
use Rattle.gmp_chan.specs.Contents.{is_of, without, without_served}
use Rattle.gmp_chan.specs.Order.{is_later}
use Rattle.gmp_chan.specs.Served.{served}
use Rattle.gmp_seq.proofs.Epochs.{at_set}
use Rattle.gmp_seq.proofs.Manned.{free_runs_none}
use Rattle.gmp_seq.proofs.Needed.{some_place}
use Rattle.gmp_seq.proofs.Waiting.{IsWaiter, first_waits}
use Rattle.gmp_seq.specs.declared.status.Direction.TheVariants.{Sending, Receiving}
use Rattle.gmp_seq.specs.declared.status.Kind.TheVariants as kind
use Rattle.gmp_seq.specs.declared.status.Transfer.{Transfer}
use Rattle.gmp_seq.specs.declared.status.Transfer.TheVariants.{Failed, Handed, Stored, First, Relayed, Drained}
use Rattle.gmp_seq.specs.State.{dormant, first_goroutine}
use Rattle.gmp_seq.specs.declared.call.Reply.TheVariants as reply
use Rattle.gmp_seq.specs.declared.status.Status.TheVariants as status
use Rattle.gmp_seq.specs.declared.status.TicketPlace.TheVariants.{Out}
use Rattle.gmp_seq.specs.Step.{Spawns, served_by}
use Rattle.gmp_seq.specs.Table.{IsOffShelf, RunsNothing, epoch_at, is_parked, is_running_on, is_startable, is_waiting, made_ready, made_wait, some_status}
use Rattle.gmp_seq.specs.Waits.{Channel, Proceeds}
use Rattle.gmp_table.proofs.Listing.{slice_get-set_same, slice_get-set_other}
use Rattle.std.proofs.lemmas.Bool.{eq-eqb}
use Rattle.std.specs.Option.{option_map_or}
use Rattle.gmp_goroutines.specs.Tied.{IsTied}
use Rattle.gmp_goroutines.proofs.Arrivals.{OffersNone, later_now, none_listed, unwaiting_none, wait_waiters, written_waiters}

abbrev pub is_idle : Status → Bool
is_idle (Running m) = false
is_idle (Waiting w) = false
is_idle _ = true

not_idle : (s u : Status) → is_idle s ≡ true → is_idle u ≡ false → s ≡ u → ⊥
not_idle s u idle busy e = false≢true (sym busy ∙ ap is_idle (sym e) ∙ idle)

-- one that is parked waits so
parked_waits : (s : Status) → is_parked s ≡ true → (w : Wait) × (s ≡ Waiting w) × (w.kind ≡ kind.Parked)
parked_waits (Waiting w) e = (w, refl, by_kind w.kind e)
  where
    by_kind : (k : Kind) → is_parked (Waiting (record w { kind = k })) ≡ true → k ≡ kind.Parked
    by_kind kind.Parked e = refl
    by_kind _ e = absurd cc
parked_waits _ e = absurd cc

unwaiting : (s : Status) → is_idle s ≡ true → is_waiting s ≡ false
unwaiting (Waiting w) e = absurd (false≢true e)
unwaiting _ e = refl

-- after a write of a row, what a status is that isn't the row's it was
stood : (t : Table) (g h : GNo) (y : Goroutine) (s : Status) → (y.status ≡ s → ⊥) → status_of (slice_get (set t.goroutines g.0 y) h.0) ≡ Some s → status_at t h ≡ Some s
stood t g h y s other =
    at_set (λ (o : Option Goroutine). status_of o ≡ Some s → status_at t h ≡ Some s) t.goroutines g.0 h.0 y (λ same e. let is : y.status ≡ s = cc in absurd (other is)) (λ e. e)

-- who is served waits
served_waits : (t : Table) (old new : List Channel) (c : Case) (how : Transfer) (w : Waiter) → Proceeds old (waiters t) c how new → served how ≡ Some w → IsWaiter t w
served_waits t old new (case.Send (Some c) v) (Handed u) w h e = let is : u ≡ w = cc in subst (IsWaiter t) is (first_waits t c Receiving u h.1).0
served_waits t old new (case.Recv (Some c)) (Relayed v u) w h e = let is : u ≡ w = cc in subst (IsWaiter t) is (first_waits t c Sending u h.1).0
served_waits t old new c Failed w h e = absurd cc
served_waits t old new c Stored w h e = absurd cc
served_waits t old new c (First v) w h e = absurd cc
served_waits t old new c Drained w h e = absurd cc
served_waits t old new _ how w h e = absurd h

module _ {t : Table} {records : List Waiter} {bodies : ℕ} {runners : List GNo} (tied : IsTied t records bodies runners) where
  -- one that waited is idle, and has no record
  pub served_kept : (g : GNo) (y : Goroutine) (new : Table) → is_idle y.status ≡ true → new ≡ record t { goroutines = set t.goroutines g.0 y }
      → IsTied new (without g records) bodies runners
  served_kept g y new idle is =
      let was = λ (h : GNo) (w : Wait). stood t g h y (Waiting w) (not_idle y.status (Waiting w) idle refl) in
      rw is (record {
        same = ap (without g) tied.same ∙ sym (written_waiters t g y (unwaiting y.status idle));
        size = length-set t.goroutines g.0 y ∙ tied.size;
        early = λ h w e. tied.early h w (was h w e);
        bare = λ h w e. tied.bare h w (was h w e);
        ran = λ m h runs. tied.ran m h (stood t g h y (Running m) (not_idle y.status (Running m) idle refl) runs);
      })

  -- one that offered nothing is idle
  offered_kept : (g : GNo) (y : Goroutine) (new : Table) → OffersNone t g → is_idle y.status ≡ true → new ≡ record t { goroutines = set t.goroutines g.0 y }
      → IsTied new records bodies runners
  offered_kept g y new none idle is =
      subst (λ (l : List Waiter). IsTied new l bodies runners) (ap (without g) tied.same ∙ ((none_listed t g none).1 ∙ sym tied.same)) (served_kept g y new idle is)

  -- one that didn't wait is idle
  pub kept : (g : GNo) (s : Status) (y : Goroutine) (new : Table) → status_at t g ≡ Some s → is_waiting s ≡ false → is_idle y.status ≡ true
      → new ≡ record t { goroutines = set t.goroutines g.0 y } → IsTied new records bodies runners
  kept g s y new was free idle is = offered_kept g y new (unwaiting_none t g s was free) idle is

  -- one that is dormant or dead is made ready, or nobody
  spawned_kept : (r : Readiness) (new : Table) (o : Option Status) → status_at t r.g ≡ o → option_map is_startable o ≡ Some true
      → new ≡ made_ready t r.g Out woke.First → IsTied new records bodies runners
  spawned_kept r new (Some status.Dormant) was startable is = kept r.g status.Dormant _ new was refl refl is
  spawned_kept r new (Some status.Dead) was startable is = kept r.g status.Dead _ new was refl refl is
  spawned_kept r new _ was startable is = absurd cc

  pub spawn_kept : (new : Table) (o : Option Readiness) → IfNone o (Spawns (reply.Fault fault.NoSuchBody) t new) → IfSome o (λ r. Spawns (reply.Ticket r) t new)
      → IsTied new records bodies runners
  spawn_kept new None none some = rw none.1 tied
  spawn_kept new (Some r) none some = spawned_kept r new _ refl some.0 some.2

  -- one that is parked is made ready
  pub readied_kept : (g : GNo) (s : Status) (y : Goroutine) (new : Table) → status_at t g ≡ Some s → is_parked s ≡ true → is_idle y.status ≡ true
      → new ≡ record t { goroutines = set t.goroutines g.0 y } → IsTied new records bodies runners
  readied_kept g s y new was parked idle is =
      let w = parked_waits s parked in
      offered_kept g y new (λ v o at within.
      let it : w.0 ≡ v = cc in
      rw (ap (λ (u : Wait). u.offers) (sym it) ∙ tied.bare g w.0 (was ∙ ap Some w.1) w.2) at within) idle is

  -- machine m ran none, and runs it from now on
  pub claimed_kept : (m : MNo) (g : GNo) (s : Status) (e : ℕ) (new : Table) → status_at t g ≡ Some s → is_waiting s ≡ false → RunsNothing t m → m.0 < length runners
      → new ≡ record t { goroutines = set t.goroutines g.0 (record { status = Running m; epoch = e }) } → IsTied new records bodies (set runners m.0 g)
  claimed_kept m g s e new was free none within is =
      let y : Goroutine = record { status = Running m; epoch = e } in
      let waited = λ (h : GNo) (w : Wait). stood t g h y (Waiting w) (λ it. absurd cc) in
      rw is (record {
        same = tied.same ∙ (sym (none_listed t g (unwaiting_none t g s was free)).1 ∙ sym (written_waiters t g y refl));
        size = length-set t.goroutines g.0 y ∙ tied.size;
        early = λ h w e. tied.early h w (waited h w e);
        bare = λ h w e. tied.bare h w (waited h w e);
        ran = λ n h runs. elim (cases_eq n.0 m.0) [
          | inl same ↦ rw same (slice_get-set_same runners m.0 g within ∙ ap (λ (k : ℕ). let x : GNo = record { 0 = k } in Some x) (mine n h same runs))
          | inr other ↦ slice_get-set_other runners m.0 n.0 g other ∙ tied.ran n h (stood t g h y (Running n) (λ it. other (ap machine (sym it))) runs)
        ];
      })
    where
      machine : Status → ℕ
      machine (Running n) = n.0
      machine _ = 0

      mine : (n : MNo) (h : GNo) → n.0 ≡ m.0 → status_of (slice_get (set t.goroutines g.0 (record { status = Running m; epoch = e })) h.0) ≡ Some (Running n) → g.0 ≡ h.0
      mine n h same = at_set (λ (o : Option Goroutine). status_of o ≡ Some (Running n) → g.0 ≡ h.0) t.goroutines g.0 h.0 _ (λ here e. here)
          (λ e. absurd (free_runs_none t m n h.0 none e same))

  -- it runs, and has no record
  pub runner_unlisted : (m : MNo) (g : GNo) → IsRunning t g m → count_by (is_of g) records ≡ 0
  runner_unlisted m g runs = rw tied.same (none_listed t g (unwaiting_none t g (Running m) runs refl)).0

  -- who begins to wait now is later than all who wait
  pub latest : is_later t.arrivals records ≡ true
  latest = rw tied.same (later_now t tied.early)

  -- it ran, and waits from now on
  pub waits_kept : (m : MNo) (g : GNo) (why : Kind) (offers : List Offer) (until : Option ℕ) (new : Table) → IsRunning t g m → (why ≡ kind.Parked → offers ≡ [])
      → new ≡ made_wait t g why offers until → IsTied new (records ++ as_waiters g t.arrivals why offers) bodies runners
  waits_kept m g why offers until new runs none is =
      let w : Wait = record { arrival = t.arrivals; kind = why; offers = offers; until = until } in
      let y : Goroutine = record { status = Waiting w; epoch = epoch_at t g } in
      rw is (record {
        same = ap (λ (l : List Waiter). l ++ as_waiters g t.arrivals why offers) tied.same ∙ sym (wait_waiters t g (Running m) why offers until tied.early runs refl);
        size = length-set t.goroutines g.0 y ∙ tied.size;
        early = λ h v. at_set (λ (o : Option Goroutine). status_of o ≡ Some (Waiting v) → v.arrival < t.arrivals + 1) t.goroutines g.0 h.0 y
            (λ same e. let is : w ≡ v = cc in let n : v.arrival ≡ t.arrivals = ap (λ (u : Wait). u.arrival) (sym is) in omega arith)
            (λ e. let less = tied.early h v e in omega arith);
        bare = λ h v. at_set (λ (o : Option Goroutine). status_of o ≡ Some (Waiting v) → v.kind ≡ kind.Parked → v.offers ≡ []) t.goroutines g.0 h.0 y
            (λ same e. let is : w ≡ v = cc in subst (λ (u : Wait). u.kind ≡ kind.Parked → u.offers ≡ []) is none)
            (tied.bare h v);
        ran = λ n h runs. tied.ran n h (stood t g h y (Running n) (λ it. absurd cc) runs);
      })

  -- who is served is not on the shelf
  pub served_off : (old new : List Channel) (c : Case) (how : Transfer) (w : Waiter) → Proceeds old records c how new → served how ≡ Some w → IsOffShelf t w.g
  served_off old new c how w proceeds is = let waits = served_waits t old new c how w (rw tied.same at proceeds) is in rw waits.status refl

  -- a communication proceeds
  pub proceeds_kept : (old channels : List Channel) (c : Case) (how : Transfer) (new : Table) → Proceeds old records c how channels → new ≡ served_by t c how
      → IsTied new (without_served how records) bodies runners
  proceeds_kept old channels (case.Send (Some c) v) (Handed w) new proceeds is = served_kept w.g _ new refl is
  proceeds_kept old channels (case.Recv (Some c)) (Relayed v w) new proceeds is = served_kept w.g _ new refl is
  proceeds_kept old channels (case.Send (Some c) v) Failed new proceeds is = rw is tied
  proceeds_kept old channels (case.Send (Some c) v) Stored new proceeds is = rw is tied
  proceeds_kept old channels (case.Recv (Some c)) (First v) new proceeds is = rw is tied
  proceeds_kept old channels (case.Recv (Some c)) Drained new proceeds is = rw is tied
  proceeds_kept old channels _ how new proceeds is = absurd proceeds

-- At the opening nobody waits or runs

opening_idle : (k i : ℕ) (s : Status) → status_of (slice_get (first_goroutine ∷ replicate k dormant) i) ≡ Some s → is_idle s ≡ true
opening_idle k zero s h = let is : first_goroutine.status ≡ s = cc in sym (ap is_idle is)
opening_idle zero (suc i) s h = absurd cc
opening_idle (suc k) (suc zero) s h = let is : dormant.status ≡ s = cc in sym (ap is_idle is)
opening_idle (suc k) (suc (suc i)) s h = opening_idle k (suc i) s h

pub opening_kept : (bodies : ℕ) (runners : List GNo) (t : Table) → 1 ≤ bodies → t.goroutines ≡ first_goroutine ∷ replicate (bodies - 1) dormant → t.arrivals ≡ 0
    → IsTied t [] bodies runners
opening_kept bodies runners t some is none =
    record {
      same = ap (λ (n : ℕ). first_waiters n t.goroutines) (sym none);
      size = ap length is ∙ (let rest : length (replicate (bodies - 1) dormant) ≡ bodies - 1 = length-replicate (bodies - 1) dormant in omega (arith, rest, some));
      early = λ g w waits. absurd (false≢true (idle g (Waiting w) waits));
      bare = λ g w waits. absurd (false≢true (idle g (Waiting w) waits));
      ran = λ m g runs. absurd (false≢true (idle g (Running m) runs));
    }
  where
    idle : (g : GNo) (s : Status) → status_at t g ≡ Some s → is_idle s ≡ true
    idle g s at = opening_idle (bodies - 1) g.0 s (subst (λ (gs : List Goroutine). status_of (slice_get gs g.0) ≡ Some s) is at)

-- Whether a machine runs one

pub running_on : (m : MNo) (s : Status) → is_running_on m s ≡ true → s ≡ Running m
running_on m (Running n) h = ap (λ (k : ℕ). Running (record { 0 = k })) (sym (eqb-true m.0 n.0 h))
running_on m _ h = absurd (false≢true h)

-- it runs one where it runs the last that it ran
pub runs_told : {t : Table} {records : List Waiter} {bodies : ℕ} {runners : List GNo} (m : MNo) (o : Option GNo) (b : Bool) → IsTied t records bodies runners
    → slice_get runners m.0 ≡ o → IfNone o (b ≡ false) → IfSome o (λ g. b ≡ option_map_or (is_running_on m) (status_at t g) false) → b ≡ some_status (is_running_on m) t
runs_told {t = t} m o b tied at none some = by_test (some_status (is_running_on m) t) b refl refl where
  runs_it : (s : Option Status) → option_map_or (is_running_on m) s false ≡ true → s ≡ Some (Running m)
  runs_it None e = absurd (false≢true e)
  runs_it (Some s) e = ap Some (running_on m s e)

  runs_all : (p : Option GNo) (h : GNo) → IfSome p (λ g. b ≡ option_map_or (is_running_on m) (status_at t g) false) → p ≡ Some h → IsRunning t h m → b ≡ true
  runs_all None h some e runs = absurd cc
  runs_all (Some g) h some e runs =
      let same : g ≡ h = cc in
      some ∙ ap (λ (s : Option Status). option_map_or (is_running_on m) s false) (subst (λ (k : GNo). IsRunning t k m) (sym same) runs) ∙ eq-eqb m.0 m.0 refl

  free : (p : Option GNo) → IfNone p (b ≡ false) → IfSome p (λ g. b ≡ option_map_or (is_running_on m) (status_at t g) false) → RunsNothing t m → b ≡ true → ⊥
  free None none some nobody e = false≢true (sym none ∙ e)
  free (Some g) none some nobody e = free_runs_none t m m g.0 nobody (runs_it (status_at t g) (sym some ∙ e)) refl

  by_test : (c d : Bool) → some_status (is_running_on m) t ≡ c → b ≡ d → d ≡ c
  by_test true true is e = refl
  by_test false false is e = refl
  by_test true false is e =
      let place = some_place (λ (x : Goroutine). is_running_on m x.status) t.goroutines is in
      let h : GNo = record { 0 = place.0 } in
      let runs : IsRunning t h m = ap status_of place.2 ∙ ap Some (running_on m place.1.status place.3) in
      absurd (false≢true (sym e ∙ runs_all o h some (sym at ∙ tied.ran m h runs) runs))
  by_test false true is e = absurd (free o none some is e)
