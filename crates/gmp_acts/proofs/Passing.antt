-- Where an act leads, and which queues its machine has passed then.
use Rattle.std.proofs.Common.{◌≡◌, ◌⊎◌, inl, inr, ℕ, zero, suc, ◌+◌, ◌≤◌, Bool, true, false, if◌then◌else◌, nat_le, nat_lt, ◌==◌, is_some, Option, None, Some, refl, subst, arith}
use Rattle.std.proofs.lemmas.Bool.{cases_lt, false≢true, le-ltb, lt-ltb, ltb-false, ltb-true}
use Rattle.gmp_base.specs.declared.ask.Ask.{Ask}
use Rattle.gmp_base.specs.declared.ask.Ask.TheVariants as ask
use Rattle.gmp_base.specs.declared.number.PNo.{PNo}
use Rattle.gmp_base.specs.declared.number.Readiness.{Readiness}
use Rattle.gmp_seq.specs.declared.call.Call.{Call}
use Rattle.gmp_seq.specs.declared.call.Call.TheVariants as call
use Rattle.gmp_seq.specs.declared.call.Reply.{Reply}
use Rattle.gmp_seq.specs.declared.call.Reply.TheVariants as reply
use Rattle.gmp_seq.specs.declared.call.Taken.TheVariants as taken
use Rattle.gmp_seq.specs.declared.status.Mode.{Mode}
use Rattle.gmp_seq.specs.declared.status.Mode.TheVariants as mode
use Rattle.gmp_driver.proofs.Uses.{call_is, claim_calls, look_calls, put_calls}
use Rattle.gmp_driver.specs.declared.act.Act.TheVariants as act
use Rattle.gmp_driver.specs.declared.act.Told.{Told}
use Rattle.gmp_driver.specs.declared.act.Told.TheVariants as told
use Rattle.gmp_driver.specs.declared.act.Tried.{Tried}
use Rattle.gmp_driver.specs.declared.act.Tried.TheVariants as tried
use Rattle.gmp_driver.specs.declared.place.Aside.{Aside}
use Rattle.gmp_driver.specs.declared.place.Aside.TheVariants as aside
use Rattle.gmp_driver.specs.declared.place.Place.{Place}
use Rattle.gmp_driver.specs.declared.place.Place.TheVariants as place
use Rattle.gmp_driver.specs.declared.place.Round.{Round}
use Rattle.gmp_driver.specs.declared.seen.Seen.{Seen}
use Rattle.gmp_driver.specs.Hunt.{begun, hunted, more}
use Rattle.gmp_driver.specs.Local.{MayCome}
use Rattle.gmp_driver.specs.Table.{act_at, after_ask, call_for, next_place, raised, aside_at, is_late}
use Rattle.gmp_acts.specs.Lookouts.{has_passed}
use Rattle.gmp_acts.specs.Sound.{ModeAt}
use Rattle.gmp_acts.proofs.Local.{no_claim, no_put}
use Rattle.gmp_acts.proofs.Replies.{CanReply, Goes}

-- The place is of a machine that is awake, and that has passed no queue.
pub record IsUp (there : Place) : Type 0 where
  pub awake : (what : Option Mode) → ModeAt there what → what ≡ Some mode.Awake
  pub ahead : (q : PNo) → has_passed there q ≡ false

none_below : (q : PNo) → nat_lt q.0 0 ≡ false
none_below q = le-ltb q.0 0 (omega arith)

-- Calls

-- after a call its machine is up, but for these three answers
abbrev pub Leaves : Place → Call → Reply → Place → Type 0
Leaves here c answer there = IsUp there ⊎ (c ≡ call.Enter) ⊎ ((here ≡ place.Park) × (c ≡ call.Park) × (answer ≡ reply.Parked))
    ⊎ ((here ≡ place.Rest) × (there ≡ place.Rest) × (c ≡ call.Woken) × (answer ≡ reply.Answer false))

goes_up : (asked : Ask) (answer : Reply) → Goes answer → IsUp (after_ask asked answer)
goes_up asked (reply.Ticket r) k = record { awake = λ w d. d; ahead = λ q. refl }
goes_up asked (reply.Channel c) k = record { awake = λ w d. d; ahead = λ q. refl }
goes_up asked (reply.Sent None) k = record { awake = λ w d. d; ahead = λ q. refl }
goes_up asked (reply.Sent (Some r)) k = record { awake = λ w d. d; ahead = λ q. refl }
goes_up asked (reply.Got v sent None) k = record { awake = λ w d. d; ahead = λ q. refl }
goes_up asked (reply.Got v sent (Some x)) k = record { awake = λ w d. d; ahead = λ q. refl }
goes_up asked reply.Waits k = record { awake = λ w d. d; ahead = λ q. refl }
goes_up asked (reply.Closed n) k = by_count (nat_lt 0 n) where
  by_count : (b : Bool) → IsUp (if b then place.Poke else place.Run)
  by_count true = record { awake = λ w d. d; ahead = λ q. refl }
  by_count false = record { awake = λ w d. d; ahead = λ q. refl }
goes_up asked (reply.Number n) k = by_number (raised n asked) where
  by_number : (b : Bool) → IsUp (if b then place.Poke else place.Run)
  by_number true = record { awake = λ w d. d; ahead = λ q. refl }
  by_number false = record { awake = λ w d. d; ahead = λ q. refl }
goes_up asked (reply.Chose i (taken.Sent None)) k = record { awake = λ w d. d; ahead = λ q. refl }
goes_up asked (reply.Chose i (taken.Sent (Some r))) k = record { awake = λ w d. d; ahead = λ q. refl }
goes_up asked (reply.Chose i (taken.Got v sent None)) k = record { awake = λ w d. d; ahead = λ q. refl }
goes_up asked (reply.Chose i (taken.Got v sent (Some x))) k = record { awake = λ w d. d; ahead = λ q. refl }
goes_up asked (reply.Chose i taken.Failed) k = record { awake = λ w d. d; ahead = λ q. refl }
goes_up asked reply.Default k = record { awake = λ w d. d; ahead = λ q. refl }
goes_up asked (reply.Fault f) k = record { awake = λ w d. d; ahead = λ q. refl }
goes_up asked _ k = absurd k

up_aside : (a : Option Aside) → IsUp (aside_at a)
up_aside None = record { awake = λ w d. d; ahead = λ q. refl }
up_aside (Some (aside.Shelf v)) = record { awake = λ w d. d; ahead = λ q. refl }
up_aside (Some (aside.Queue v)) = record { awake = λ w d. d; ahead = λ q. refl }

module _ (s t : Seen) where
  abbrev To : Place → Reply → Call → Type 0
  To here answer c = CanReply c answer → Leaves here c answer (next_place t here (told.Replied answer))

  at_start : (answer : Reply) → To place.Start answer call.Acquire
  at_start (reply.Proc p) k = inl (record { awake = λ w d. d; ahead = λ q. refl })
  at_start reply.Nothing k = inl (record { awake = λ w d. d; ahead = λ q. refl })
  at_start _ k = absurd k

  at_ticking : (now : ℕ) (answer : Reply) → To (place.Ticking now) answer (call.Tick now)
  at_ticking now (reply.Woke n) k = inl (by_procs (t.procs == 1)) where
    by_procs : (b : Bool) → IsUp (if b then aside_at t.aside else place.Keep)
    by_procs true = up_aside t.aside
    by_procs false = record { awake = λ w d. d; ahead = λ q. refl }
  at_ticking now _ k = absurd k

  at_keep : (answer : Reply) → To place.Keep answer call.Keep
  at_keep (reply.Answer true) k = inl (up_aside t.aside)
  at_keep (reply.Answer false) k = inl (record { awake = λ w d. d; ahead = λ q. refl })
  at_keep _ k = absurd k

  at_glance : (answer : Reply) → To place.Glance answer call.Take
  at_glance (reply.Ticket r) k = inl (record { awake = λ w d. d; ahead = λ q. refl })
  at_glance reply.Nothing k = inl (record { awake = λ w d. d; ahead = λ q. refl })
  at_glance _ k = absurd k

  at_put_drain : (r : Readiness) (answer : Reply) → To place.PutDrain answer (call.Put r)
  at_put_drain r reply.Shelf k = inl (record { awake = λ w d. d; ahead = λ q. refl })
  at_put_drain r _ k = absurd k

  at_global : (answer : Reply) → To place.Global answer call.Take
  at_global (reply.Ticket r) k = inl (record { awake = λ w d. d; ahead = λ q. refl })
  at_global reply.Nothing k = inl (by_procs (t.procs == 1)) where
    by_procs : (b : Bool) → IsUp (if b then place.Drop else place.Spin)
    by_procs true = record { awake = λ w d. d; ahead = λ q. refl }
    by_procs false = record { awake = λ w d. d; ahead = λ q. refl }
  at_global _ k = absurd k

  at_spin : (answer : Reply) → To place.Spin answer call.Spin
  at_spin (reply.Answer true) k = inl (record { awake = λ w d. d; ahead = λ q. refl })
  at_spin (reply.Answer false) k = inl (record { awake = λ w d. d; ahead = λ q. refl })
  at_spin _ k = absurd k

  at_put_more : (v : PNo) (goal : ℕ) (r : Readiness) (answer : Reply) → To (place.PutMore v goal) answer (call.Put r)
  at_put_more v zero r reply.Shelf k = inl (record { awake = λ w d. d; ahead = λ q. refl })
  at_put_more v (suc goal) r reply.Shelf k = inl (record { awake = λ w d. d; ahead = λ q. refl })
  at_put_more v goal r _ k = absurd k

  at_unspin : (answer : Reply) → To place.Unspin answer call.Unspin
  at_unspin reply.Done k = inl (by_ticket (is_some t.to_claim)) where
    by_ticket : (b : Bool) → IsUp (if b then place.Claim else place.Drop)
    by_ticket true = record { awake = λ w d. d; ahead = λ q. refl }
    by_ticket false = record { awake = λ w d. d; ahead = λ q. refl }
  at_unspin _ k = absurd k

  at_poked : (answer : Reply) → To place.Claim answer call.Poke
  at_poked (reply.Wakes n) k = inl (record { awake = λ w d. d; ahead = λ q. refl })
  at_poked reply.Nothing k = inl (record { awake = λ w d. d; ahead = λ q. refl })
  at_poked _ k = absurd k

  at_claim : (r : Readiness) (answer : Reply) → To place.Claim answer (call.Claim r)
  at_claim r reply.Held k = inl (record { awake = λ w d. d; ahead = λ q. refl })
  at_claim r _ k = absurd k

  at_yield : (answer : Reply) → To (place.Do ask.Yield) answer call.Yield
  at_yield (reply.Shelved r) k = inl (record { awake = λ w d. d; ahead = λ q. refl })
  at_yield _ k = absurd k

  at_exit : (answer : Reply) → To (place.Do ask.Exit) answer call.Exit
  at_exit reply.Dead k = inl (record { awake = λ w d. d; ahead = λ q. refl })
  at_exit reply.MainEnded k = inl (record { awake = λ w d. d; ahead = λ q. refl })
  at_exit _ k = absurd k

  at_do : (asked : Ask) (answer : Reply) → To (place.Do asked) answer (call_for asked)
  at_do ask.Yield answer k = at_yield answer k
  at_do ask.Exit answer k = at_exit answer k
  at_do ask.Block answer k = inr (inl refl)
  at_do asked answer k = inl (goes_up asked answer k)

  at_put_store : (r : Readiness) (answer : Reply) → To place.PutStore answer (call.Put r)
  at_put_store r reply.Shelf k = inl (record { awake = λ w d. d; ahead = λ q. refl })
  at_put_store r _ k = absurd k

  at_poke : (answer : Reply) → To place.Poke answer call.Poke
  at_poke (reply.Wakes n) k = inl (record { awake = λ w d. d; ahead = λ q. refl })
  at_poke reply.Nothing k = inl (record { awake = λ w d. d; ahead = λ q. refl })
  at_poke _ k = absurd k

  at_leave : (number : ℕ) (answer : Reply) → To (place.Leave number) answer (call.Leave number)
  at_leave number (reply.Runs p) k = inl (record { awake = λ w d. d; ahead = λ q. refl })
  at_leave number (reply.Shelved r) k = inl (record { awake = λ w d. d; ahead = λ q. refl })
  at_leave number _ k = absurd k

  at_drop : (answer : Reply) → To place.Drop answer call.Declare
  at_drop (reply.Idle p) k = inl (record { awake = λ w d. d; ahead = none_below })
  at_drop _ k = absurd k

  at_bare : (answer : Reply) → To place.Bare answer call.Bare
  at_bare reply.Done k = inl (record { awake = λ w d. d; ahead = none_below })
  at_bare _ k = absurd k

  at_have : (answer : Reply) → To place.Have answer call.Acquire
  at_have (reply.Proc p) k = inl (record { awake = λ w d. d; ahead = λ q. refl })
  at_have reply.Nothing k = inl (record { awake = λ w d. d; ahead = λ q. refl })
  at_have _ k = absurd k

  at_put_have : (r : Readiness) (answer : Reply) → To place.PutHave answer (call.Put r)
  at_put_have r reply.Shelf k = inl (by_late (is_late t)) where
    by_late : (b : Bool) → IsUp (if b then place.Start else place.Bare)
    by_late true = record { awake = λ w d. d; ahead = λ q. refl }
    by_late false = record { awake = λ w d. d; ahead = λ q. refl }
  at_put_have r _ k = absurd k

  at_park : (answer : Reply) → To place.Park answer call.Park
  at_park reply.Parked k = inr (inr (inl (refl, refl, refl)))
  at_park reply.Work k = inl (record { awake = λ w d. d; ahead = λ q. refl })
  at_park (reply.Mind until) k = inl (record { awake = λ w d. d; ahead = λ q. refl })
  at_park reply.AllAsleep k = inl (record { awake = λ w d. d; ahead = λ q. refl })
  at_park reply.LookAgain k = inl (record { awake = λ w d. d; ahead = λ q. refl })
  at_park _ k = absurd k

  at_rest : (answer : Reply) → To place.Rest answer call.Woken
  at_rest (reply.Answer true) k = inl (record { awake = λ w d. d; ahead = λ q. refl })
  at_rest (reply.Answer false) k = inr (inr (inr (refl, refl, refl, refl)))
  at_rest _ k = absurd k

  at_mind : (now : ℕ) (answer : Reply) → To (place.MindTick now) answer (call.Tick now)
  at_mind now (reply.Woke n) k = inl (record { awake = λ w d. d; ahead = λ q. refl })
  at_mind now _ k = absurd k

  -- s is what the table saw when it named the call, and t what it sees when it is told
  pub after_call : (here : Place) (c : Call) (answer : Reply) → act_at s here ≡ act.Call c → CanReply c answer → Leaves here c answer (next_place t here (told.Replied answer))
  after_call place.Start c answer is k = subst (To place.Start answer) (call_is call.Acquire c is) (at_start answer) k
  after_call place.Look c answer is k = absurd (look_calls (nat_le 16 s.turns) c is)
  after_call (place.Ticking now) c answer is k = subst (To (place.Ticking now) answer) (call_is (call.Tick now) c is) (at_ticking now answer) k
  after_call place.Keep c answer is k = subst (To place.Keep answer) (call_is call.Keep c is) (at_keep answer) k
  after_call place.Glance c answer is k = subst (To place.Glance answer) (call_is call.Take c is) (at_glance answer) k
  after_call (place.Peek v) c answer is k = absurd (let no : ⊥ = cc in no)
  after_call place.Drain c answer is k = absurd (let no : ⊥ = cc in no)
  after_call place.PutDrain c answer is k = (let w = put_calls s.to_store c is in subst (To place.PutDrain answer) w.2 (at_put_drain w.0 answer) k)
  after_call place.Global c answer is k = subst (To place.Global answer) (call_is call.Take c is) (at_global answer) k
  after_call place.Spin c answer is k = subst (To place.Spin answer) (call_is call.Spin c is) (at_spin answer) k
  after_call (place.PutMore v goal) c answer is k = (let w = put_calls s.to_store c is in subst (To (place.PutMore v goal) answer) w.2 (at_put_more v goal w.0 answer) k)
  after_call place.Unspin c answer is k = subst (To place.Unspin answer) (call_is call.Unspin c is) (at_unspin answer) k
  after_call place.Claim c answer is k = elim (claim_calls s.fresh s.to_claim c is) [ inl w ↦ subst (To place.Claim answer) w (at_poked answer) k | inr w ↦ subst (To place.Claim answer) w.2 (at_claim w.0 answer) k ]
  after_call (place.Do asked) c answer is k = subst (To (place.Do asked) answer) (call_is (call_for asked) c is) (at_do asked answer) k
  after_call place.PutStore c answer is k = (let w = put_calls s.to_store c is in subst (To place.PutStore answer) w.2 (at_put_store w.0 answer) k)
  after_call place.Poke c answer is k = subst (To place.Poke answer) (call_is call.Poke c is) (at_poke answer) k
  after_call (place.Leave number) c answer is k = subst (To (place.Leave number) answer) (call_is (call.Leave number) c is) (at_leave number answer) k
  after_call place.Drop c answer is k = subst (To place.Drop answer) (call_is call.Declare c is) (at_drop answer) k
  after_call place.Bare c answer is k = subst (To place.Bare answer) (call_is call.Bare c is) (at_bare answer) k
  after_call place.Have c answer is k = subst (To place.Have answer) (call_is call.Acquire c is) (at_have answer) k
  after_call place.PutHave c answer is k = (let w = put_calls s.to_claim c is in subst (To place.PutHave answer) w.2 (at_put_have w.0 answer) k)
  after_call place.Park c answer is k = subst (To place.Park answer) (call_is call.Park c is) (at_park answer) k
  after_call place.Rest c answer is k = subst (To place.Rest answer) (call_is call.Woken c is) (at_rest answer) k
  after_call (place.MindTick now) c answer is k = subst (To (place.MindTick now) answer) (call_is (call.Tick now) c is) (at_mind now answer) k
  after_call (place.Hunt None) c answer is k = absurd (let no : ⊥ = cc in no)
  after_call (place.Hunt (Some r)) c answer is k = absurd (let no : ⊥ = cc in no)
  after_call (place.More v goal) c answer is k = absurd (let no : ⊥ = cc in no)
  after_call (place.StoreMore v goal) c answer is k = absurd (let no : ⊥ = cc in no)
  after_call place.Run c answer is k = absurd (let no : ⊥ = cc in no)
  after_call place.Store c answer is k = absurd (let no : ⊥ = cc in no)
  after_call place.Block c answer is k = absurd (let no : ⊥ = cc in no)
  after_call (place.Scan v) c answer is k = absurd (let no : ⊥ = cc in no)
  after_call (place.Mind deadline) c answer is k = absurd (let no : ⊥ = cc in no)
  after_call place.Over c answer is k = absurd (let no : ⊥ = cc in no)
  after_call place.Done c answer is k = absurd (let no : ⊥ = cc in no)

-- Other acts

-- The machine looked at queue v and found none; so it has passed v, and after the last all there are.
pub record IsPassing (np : ℕ) (q : PNo) (here : Place) (how : Told) : Type 0 where
  pub v : PNo
  pub scans : here ≡ place.Scan v
  pub finds_none : how ≡ told.Tried tried.Empty
  pub that : (q.0 ≡ v.0) ⊎ (np ≤ q.0)

module _ (s t : Seen) (q : PNo) where
  more_not : (v : PNo) (goal : ℕ) → has_passed (more v goal) q ≡ true → ⊥
  more_not v zero e = false≢true e
  more_not v (suc goal) e = false≢true e

  on_not : (b : Bool) (r : Round) → has_passed (if b then place.Hunt (Some r) else place.Unspin) q ≡ true → ⊥
  on_not true r e = false≢true e
  on_not false r e = false≢true e

  hunted_not : (r : Round) (how : Tried) → has_passed (hunted t r how) q ≡ true → ⊥
  hunted_not r (tried.Got hint) e = more_not _ _ e
  hunted_not r tried.Empty e = on_not _ _ e
  hunted_not r tried.Unsure e = false≢true e

  looked_not : (b : Bool) (how : Told) → MayCome (if b then act.Clock None else act.Pop) how → has_passed (next_place t place.Look how) q ≡ true → ⊥
  looked_not true (told.Moment now) m e = false≢true e
  looked_not true _ m e = m
  looked_not false told.Got m e = false≢true e
  looked_not false told.Empty m e = false≢true e
  looked_not false _ m e = m

  mored_not : (v : PNo) (goal : ℕ) (how : Tried) → has_passed (next_place t (place.More v goal) (told.Tried how)) q ≡ true → ⊥
  mored_not v goal (tried.Got hint) e = false≢true e
  mored_not v goal tried.Empty e = false≢true e
  mored_not v goal tried.Unsure e = false≢true e

  abbrev Passes : Place → Told → Type 0
  Passes here how = (has_passed here q ≡ true) ⊎ IsPassing t.procs q here how

  scanned_by : (v : PNo) (b : Bool) → nat_lt (v.0 + 1) t.procs ≡ b → has_passed (if b then place.Scan (record { 0 = v.0 + 1 }) else place.Park) q ≡ true
      → Passes (place.Scan v) (told.Tried tried.Empty)
  scanned_by v true on e =
      let below = ltb-true q.0 (v.0 + 1) e in
      elim (cases_lt q.0 v.0) [
        | inl less ↦ inl (lt-ltb q.0 v.0 less)
        | inr past ↦ inr (record { v = v; scans = refl; finds_none = refl; that = inl (omega (arith, below, past)) })
      ]
  scanned_by v false on e =
      let last = ltb-false (v.0 + 1) t.procs on in
      elim (cases_lt q.0 v.0) [
        | inl less ↦ inl (lt-ltb q.0 v.0 less)
        | inr past ↦ elim (cases_lt q.0 t.procs) [
          | inl there ↦ inr (record { v = v; scans = refl; finds_none = refl; that = inl (omega (arith, last, past, there)) })
          | inr beyond ↦ inr (record { v = v; scans = refl; finds_none = refl; that = inr beyond })
        ]
      ]

  scans : (v : PNo) (how : Tried) → has_passed (next_place t (place.Scan v) (told.Tried how)) q ≡ true → Passes (place.Scan v) (told.Tried how)
  scans v (tried.Got hint) e = absurd (found_not (is_late t) e) where
    found_not : (b : Bool) → has_passed (if b then place.PutHave else place.Have) q ≡ true → ⊥
    found_not true h = false≢true h
    found_not false h = false≢true h
  scans v tried.Empty e = scanned_by v (nat_lt (v.0 + 1) t.procs) refl e
  scans v tried.Unsure e = inl e

  peeked_not : (v : PNo) (how : Tried) → has_passed (next_place t (place.Peek v) (told.Tried how)) q ≡ true → ⊥
  peeked_not v (tried.Got hint) e = false≢true e
  peeked_not v tried.Empty e = false≢true e
  peeked_not v tried.Unsure e = false≢true e

  pub passes : (here : Place) (how : Told) → MayCome (act_at s here) how → has_passed (next_place t here how) q ≡ true → Passes here how
  passes place.Look how m e = absurd (looked_not (nat_le 16 s.turns) how m e)
  passes place.Drain told.Drained m e = absurd (false≢true e)
  passes place.Drain told.Empty m e = absurd (false≢true e)
  passes place.Drain _ m e = absurd m
  passes place.PutDrain how m e = absurd (no_put s.to_store how m)
  passes (place.Hunt None) (told.Drew word how) m e = absurd (hunted_not (begun t word) how e)
  passes (place.Hunt None) _ m e = absurd m
  passes (place.Hunt (Some r)) (told.Tried how) m e = absurd (hunted_not r how e)
  passes (place.Hunt (Some r)) _ m e = absurd m
  passes (place.More v goal) (told.Tried how) m e = absurd (mored_not v goal how e)
  passes (place.More v goal) _ m e = absurd m
  passes (place.StoreMore v goal) told.Pushed m e = absurd (more_not v goal e)
  passes (place.StoreMore v goal) told.PushRefused m e = absurd (false≢true e)
  passes (place.StoreMore v goal) _ m e = absurd m
  passes (place.PutMore v goal) how m e = absurd (no_put s.to_store how m)
  passes place.Claim how m e = absurd (no_claim s.fresh s.to_claim how m)
  passes place.Run (told.Asked asked) m e = absurd (false≢true e)
  passes place.Run _ m e = absurd m
  passes place.Store told.Pushed m e = absurd (false≢true e)
  passes place.Store told.PushRefused m e = absurd (false≢true e)
  passes place.Store _ m e = absurd m
  passes place.PutStore how m e = absurd (no_put s.to_store how m)
  passes place.Block (told.Number number) m e = absurd (false≢true e)
  passes place.Block _ m e = absurd m
  passes (place.Scan v) (told.Tried how) m e = scans v how e
  passes (place.Scan v) _ m e = absurd m
  passes (place.Peek v) (told.Tried how) m e = absurd (peeked_not v how e)
  passes (place.Peek v) _ m e = absurd m
  passes place.PutHave how m e = absurd (no_put s.to_claim how m)
  passes (place.Mind deadline) (told.Moment now) m e = absurd (false≢true e)
  passes (place.Mind deadline) _ m e = absurd m
  -- each other place has a call, a surrender, or no act
  passes _ how m e = absurd m

-- Who pushes onto its queue holds its processor, and has passed none
looked_pushes : (t : Seen) (b : Bool) → MayCome (if b then act.Clock None else act.Pop) told.Pushed → IsUp (next_place t place.Look told.Pushed)
looked_pushes t true m = absurd m
looked_pushes t false m = absurd m

pub up_after_push : (s t : Seen) (here : Place) → MayCome (act_at s here) told.Pushed → IsUp (next_place t here told.Pushed)
up_after_push s t place.Look m = looked_pushes t (nat_le 16 s.turns) m
up_after_push s t place.Drain m = absurd m
up_after_push s t place.PutDrain m = absurd (no_put s.to_store told.Pushed m)
up_after_push s t (place.Hunt None) m = absurd m
up_after_push s t (place.Hunt (Some r)) m = absurd m
up_after_push s t (place.StoreMore v zero) m = record { awake = λ w d. d; ahead = λ q. refl }
up_after_push s t (place.StoreMore v (suc goal)) m = record { awake = λ w d. d; ahead = λ q. refl }
up_after_push s t (place.PutMore v goal) m = absurd (no_put s.to_store told.Pushed m)
up_after_push s t place.Claim m = absurd (no_claim s.fresh s.to_claim told.Pushed m)
up_after_push s t place.Store m = record { awake = λ w d. d; ahead = λ q. refl }
up_after_push s t place.PutStore m = absurd (no_put s.to_store told.Pushed m)
up_after_push s t place.PutHave m = absurd (no_put s.to_claim told.Pushed m)
up_after_push s t _ m = absurd m
