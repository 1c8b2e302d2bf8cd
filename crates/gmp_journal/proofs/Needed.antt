-- A call by a pass that may call, with values of the run, is granted exactly where its needs are met.
use Rattle.gmp_journal.proofs.Common.{◌≡◌, ◌↔◌, ℕ, ◌<◌, ◌==◌, Bool, true, false, not, ◌||◌, ◌&&◌, Option, None, Some, ◌++◌, length, slice_get, refl, sym, ap, ◌∙◌, arith, eq-eqb, eqb-true, false≢true, or_parts, option_map_or, GNo, MNo, PNo, Readiness, Pass, Call, Goroutine, Mode, Status, Holds, IsAwake, State, Table, IsCalling, IsRunning, is_calling_on, is_running_on, status_at, Handed, Suits, goroutine_in, names_other, processor_in, Log, entries_made, IsCurrent, need_lines, turn_lines}
use Rattle.std.proofs.Common.{nat_lt, nat_le}
use Rattle.std.proofs.lemmas.Bool.Decides.{nat_tests}
use Rattle.gmp_seq.specs.declared.call.Call.TheVariants as call
use Rattle.gmp_seq.specs.declared.status.Mode.TheVariants as mode
use Rattle.gmp_seq.specs.declared.status.Status.TheVariants as status
use Rattle.gmp_seq.specs.Machines.{Machines, is_held_by, is_awake_mode, is_calling_mode}
use Rattle.gmp_seq.specs.Needs.{IsOutstanding}
use Rattle.gmp_seq.specs.Table.{is_out, is_outstanding}
use Rattle.gmp_table.proofs.Moves.{given_out}
use Rattle.gmp_journal.specs.Handed.{held_handed}
use Rattle.gmp_journal.specs.Laws.{NeedsOf}
use Rattle.gmp_journal.specs.Log.{calls_of, is_over}
use Rattle.gmp_journal.specs.Refusals.{calls_some, is_anothers, is_awake, is_busy, is_foreign, is_spent, lacks_processor, refusal_of, room_lines}
use Rattle.gmp_journal.proofs.Lines.{none_holds, none_refuses}

-- Tests, and where they fail

pub not_false : (b : Bool) → not b ≡ false → b ≡ true
not_false true e = refl
not_false false e = absurd (false≢true (sym e))

abbrev FailsWhere : Bool → Type 0 → Type 0
FailsWhere b P = (b ≡ false) ↔ P

itself : (b : Bool) → FailsWhere b (b ≡ false)
itself b = (λ e. e, λ e. e)

either : {P Q : Type 0} (a b : Bool) → FailsWhere a P → FailsWhere b Q → FailsWhere (a || b) (P × Q)
either a b p q = (λ e. let parts = or_parts a b e in (p.0 parts.0, q.0 parts.1), λ h. rw (p.1 h.0, q.1 h.1) refl)

third : {P Q R : Type 0} (a b c : Bool) → FailsWhere a P → FailsWhere b Q → FailsWhere c R → FailsWhere (a || b || c) (P × Q × R)
third a b c p q r =
    let all = either (a || b) c (either a b p q) r in
    (λ e. let is = all.0 e in (is.0.0, is.0.1, is.1), λ h. all.1 ((h.0, h.1), h.2))

alone : {P : Type 0} (a : Bool) → FailsWhere a P → FailsWhere (a || false) P
alone a p = (λ e. p.0 (or_parts a false e).0, λ h. rw (p.1 h) refl)

-- what is found passes the test exactly where it is this one
found : {A : Type 0} (test : A → Bool) (x : A) (o : Option A) → ((y : A) → test y ≡ true → y ≡ x) → test x ≡ true → FailsWhere (not (option_map_or test o false)) (o ≡ Some x)
found test x None one is = (λ e. absurd (false≢true (sym e)), λ e. absurd cc)
found test x (Some y) one is = (λ e. ap Some (one y (not_false (test y) e)), λ e. let same : y ≡ x = cc in rw same (ap not is))

awake : (s : State) (m : MNo) → FailsWhere (not (is_awake s m)) (IsAwake s.machines m)
awake s m = found is_awake_mode mode.Awake (slice_get s.machines.modes m.0) one refl where
  one : (y : Mode) → is_awake_mode y ≡ true → y ≡ mode.Awake
  one mode.Awake e = refl
  one _ e = absurd (false≢true e)

runs : (t : Table) (g : GNo) (m : MNo) → FailsWhere (not (option_map_or (is_running_on m) (status_at t g) false)) (IsRunning t g m)
runs t g m = found (is_running_on m) (status.Running m) (status_at t g) one (eq-eqb m.0 m.0 refl) where
  one : (y : Status) → is_running_on m y ≡ true → y ≡ status.Running m
  one (status.Running n) e = ap (λ (k : ℕ). status.Running (record { 0 = k })) (sym (eqb-true m.0 n.0 e))
  one _ e = absurd (false≢true e)

calls : (t : Table) (g : GNo) (m : MNo) → FailsWhere (not (option_map_or (is_calling_on m) (status_at t g) false)) (IsCalling t g m)
calls t g m = found (is_calling_on m) (status.Calling m) (status_at t g) one (eq-eqb m.0 m.0 refl) where
  one : (y : Status) → is_calling_on m y ≡ true → y ≡ status.Calling m
  one (status.Calling n) e = ap (λ (k : ℕ). status.Calling (record { 0 = k })) (sym (eqb-true m.0 n.0 e))
  one _ e = absurd (false≢true e)

holds : (w : Machines) (m : MNo) (p : PNo) → FailsWhere (not (option_map_or (is_held_by m) (slice_get w.holders p.0) false)) (Holds w m p)
holds w m p = found (is_held_by m) (Some m) (slice_get w.holders p.0) one (eq-eqb m.0 m.0 refl) where
  one : (y : Option MNo) → is_held_by m y ≡ true → y ≡ Some m
  one (Some n) e = ap (λ (k : ℕ). Some (record { 0 = k })) (sym (eqb-true m.0 n.0 e))
  one None e = absurd (false≢true e)

pub out_test : (t : Table) (r : Readiness) → IsOutstanding t r → not (is_outstanding t r) ≡ false
out_test t r out =
    ap not (ap (λ (o : Option Goroutine). option_map_or (λ (x : Goroutine). is_out x.status && (x.epoch == r.epoch)) o false) out.1 ∙ eq-eqb r.epoch r.epoch refl)

out : (t : Table) (r : Readiness) → FailsWhere (not (is_outstanding t r)) (IsOutstanding t r)
out t r = (λ e. let is = given_out t.goroutines r (not_false (is_outstanding t r) e) in (is.answer, is.at), out_test t r)

no_call : (s : State) (m : MNo) → FailsWhere (calls_some s m) (slice_get s.machines.modes m.0 ≡ Some mode.Calling → ⊥)
no_call s m = by_mode (slice_get s.machines.modes m.0) where
  by_mode : (o : Option Mode) → FailsWhere (option_map_or is_calling_mode o false) (o ≡ Some mode.Calling → ⊥)
  by_mode None = (λ e is. absurd cc, λ no_one. refl)
  by_mode (Some mode.Calling) = (λ e is. false≢true (sym e), λ other. absurd (other refl))
  by_mode (Some _) = (λ e is. absurd cc, λ no_one. refl)

-- What it takes that no line refuses, by call

-- no line on the state refuses
abbrev pub NoneRefuses : State → MNo → Call → Handed → Type 0
NoneRefuses s m asked values = (is_busy s m asked ≡ false) × (lacks_processor s m asked ≡ false) × (is_spent s values ≡ false) × (is_anothers s m values ≡ false)

-- only the machine's state counts
by_state : {P : Type 0} (b : Bool) → FailsWhere b P → ((b ≡ false) × (false ≡ false) × (false ≡ false) × (false ≡ false)) ↔ P
by_state b p = (λ h. p.0 h.0, λ h. (p.1 h, refl, refl, refl))

-- only the values count
by_values : {P : Type 0} (b : Bool) → FailsWhere b P → ((false ≡ false) × (false ≡ false) × (false ≡ false) × (b ≡ false)) ↔ P
by_values b p = (λ h. p.0 h.3, λ h. (refl, refl, refl, p.1 h))

-- a call of the goroutine that the machine runs
by_held : (s : State) (m : MNo) (values : Handed) → (run : ℕ) × (g : GNo) × (values ≡ held_handed run g)
    → ((false ≡ false) × (false ≡ false) × (is_spent s values ≡ false) × (is_anothers s m values ≡ false)) ↔ IsRunning s.table (goroutine_in values) m
by_held s m values (run, g, are) = rw are (by_values _ (alone _ (alone _ (runs s.table g m))))

pub needs_of : (s : State) (m : MNo) (asked : Call) (values : Handed) → Suits asked values → NoneRefuses s m asked values ↔ NeedsOf m (goroutine_in values) (processor_in values) asked s
needs_of s m call.Acquire values are = rw are (by_state _ (either _ _ (awake s m) (itself _)))
needs_of s m call.Take values are = rw are (by_state _ (awake s m))
needs_of s m (call.Put r) values (run, are) =
    rw are (λ h. ((awake s m).0 h.0, (out s.table r).0 h.2), λ h. ((awake s m).1 h.0, refl, out_test s.table r h.1, refl))
needs_of s m (call.Claim r) values (run, are) =
    let may = third _ _ _ (awake s m) (itself _) (itself _) in
    rw are (λ h. (may.0 h.0, not_false _ h.1, (out s.table r).0 h.2), λ h. (may.1 h.0, ap not h.1, out_test s.table r h.2, refl))
needs_of s m call.Enter values (run, g, other, p, are) = rw are (by_values _ (either _ _ (alone _ (runs s.table g m)) (holds s.machines m p)))
needs_of s m (call.Leave number) values (run, g, are) = rw are (by_values _ (alone _ (calls s.table g m)))
needs_of s m call.Spin values are = rw are (by_state _ (either _ _ (awake s m) (itself _)))
needs_of s m call.Woken values are = rw are (by_state _ (no_call s m))
needs_of s m call.Keep values are =
    rw are (λ h. ((awake s m).0 h.0, not_false _ h.1), λ h. ((awake s m).1 h.0, ap not h.1, refl, refl))
needs_of s m call.Unspin values are = rw are (by_state _ (awake s m))
needs_of s m call.Poke values are = rw are (by_state _ (awake s m))
needs_of s m call.Declare values (run, p, are) =
    let may = either _ _ (itself _) (itself _) in
    rw are (λ h. let free = may.0 h.0 in (free.0, free.1, (holds s.machines m p).0 h.3), λ h. (may.1 (h.0, h.1), refl, refl, (holds s.machines m p).1 h.2))
needs_of s m call.Bare values are = rw are (by_state _ (third _ _ _ (awake s m) (itself _) (itself _)))
needs_of s m call.Park values are = rw are (by_state _ (third _ _ _ (awake s m) (itself _) (itself _)))
needs_of s m (call.Tick moment) values are = rw are (by_state _ (awake s m))
needs_of s m _ values suits = by_held s m values suits

-- a run is its own
pub own_run : (run : ℕ) → not (run == run) ≡ false
own_run run = ap not (eq-eqb run run refl)

-- no line refuses exactly where none on the state does
lines_of : (log : Log) (pass : Pass) (asked : Call) (values : Handed) → pass.run ≡ log.run → IsCurrent log pass → length log.history < log.limits.room → names_other log.run values ≡ false
    → (refusal_of log pass asked values ≡ None) ↔ NoneRefuses log.state pass.m asked values
lines_of log pass asked values run current room ours =
    let lines = turn_lines log pass values ++ need_lines log.state pass.m asked values ++ room_lines log in
    let same = λ (n k : ℕ) (e : n ≡ k). ap not (eq-eqb n k e) in
    let there : nat_le log.limits.machines pass.m.0 ≡ false = (let within = current.machine in grind (arith, nat_tests, within)) in
    let seen : nat_lt (entries_made log) pass.seen ≡ false = (let most = current.seen in grind (arith, nat_tests, most)) in
    let free : nat_le log.limits.room (length log.history) ≡ false = grind (arith, nat_tests, room) in
    let over : is_over log ≡ false = rw (current.lasts, current.goes_on) refl in
    let foreign : is_foreign log pass values ≡ false = rw (same pass.run log.run run, there, ours) refl in (
      λ e. let needs = (none_holds lines e).1.1.1.1 in (needs.0, needs.1.0, needs.1.1.0, needs.1.1.1.0),
      λ h. none_refuses lines (foreign, (same pass.calls (calls_of log pass.m) current.turn, (seen, (over, (h.0, (h.1, (h.2, (h.3, (free, tt))))))))),
    )

pub granted_where : (log : Log) (pass : Pass) (asked : Call) (values : Handed) → pass.run ≡ log.run → IsCurrent log pass → length log.history < log.limits.room → Suits asked values → names_other log.run values ≡ false
    → (refusal_of log pass asked values ≡ None) ↔ NeedsOf pass.m (goroutine_in values) (processor_in values) asked log.state
granted_where log pass asked values run current room suits ours =
    let lines = lines_of log pass asked values run current room ours in
    let needs = needs_of log.state pass.m asked values suits in
    (λ e. needs.0 (lines.0 e), λ h. lines.1 (needs.1 h))
