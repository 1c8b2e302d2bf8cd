-- What an act changes, in one form: the machine that acts is told something, and its claims are counted.
use Rattle.std.proofs.Common.{◌≡◌, ◌≢◌, ◌⊎◌, inl, inr, ℕ, ◌+◌, ◌<◌, ◌≤◌, ◌&&◌, Bool, true, false, List, [], ◌∷◌, ◌++◌, length, get_or, set, refl, sym, ap, subst, ◌∙◌, arith, Option, None, Some, count_by, nat_le}
use Rattle.std.proofs.lemmas.Bool.{eq-eqb, ne_eqb}
use Rattle.std.proofs.lemmas.List.{get_or-set_other, get_or-set_same, length-set}
use Rattle.std.proofs.lemmas.List.Sums.{sum_by_push}
use Rattle.gmp_base.specs.declared.ask.Ask.{Ask}
use Rattle.gmp_base.specs.declared.ask.Ask.TheVariants as ask
use Rattle.gmp_base.specs.declared.number.MNo.{MNo}
use Rattle.gmp_base.specs.declared.number.PNo.{PNo}
use Rattle.gmp_base.specs.declared.number.Readiness.{Readiness}
use Rattle.gmp_base.specs.declared.pass.Pass.{Pass}
use Rattle.gmp_base.specs.declared.refusal.Refusal.TheVariants.{Over, OutOfMemory}
use Rattle.gmp_seq.specs.declared.call.Call.{Call}
use Rattle.gmp_seq.specs.declared.call.Call.TheVariants as call
use Rattle.gmp_seq.specs.declared.call.Entry.{Entry}
use Rattle.gmp_seq.specs.declared.call.Reply.{Reply}
use Rattle.gmp_seq.specs.declared.call.Reply.TheVariants as reply
use Rattle.gmp_driver.specs.declared.act.Act.{Act}
use Rattle.gmp_driver.specs.declared.act.Act.TheVariants as act
use Rattle.gmp_driver.specs.declared.act.Told.{Told}
use Rattle.gmp_driver.specs.declared.act.Told.TheVariants as told
use Rattle.gmp_driver.specs.declared.act.Tried.{Tried}
use Rattle.gmp_driver.specs.declared.act.Tried.TheVariants as tried
use Rattle.gmp_driver.specs.declared.act.Value.{Value}
use Rattle.gmp_driver.specs.declared.place.Place.{Place}
use Rattle.gmp_driver.specs.declared.place.Place.TheVariants as place
use Rattle.gmp_driver.specs.declared.seen.Seen.{Seen}
use Rattle.gmp_driver.specs.Hunt.{begun, victim_of}
use Rattle.gmp_driver.specs.Local.{MayCome, pop_for, popped_for, tells}
use Rattle.gmp_driver.specs.Own.{with_found}
use Rattle.gmp_driver.specs.Registers.{but}
use Rattle.gmp_driver.specs.Seen.{own_processor, seen}
use Rattle.gmp_driver.specs.Table.{act_at, after, call_for, next_act, put_call}
use Rattle.gmp_driver.proofs.Uses.{call_is, claim_calls, look_calls, put_calls}
use Rattle.gmp_acts.specs.declared.choice.Choice.{Choice}
use Rattle.gmp_acts.specs.declared.made.Made.{Made}
use Rattle.gmp_acts.specs.Acts.{Accepted, Acts, Answers, DoesAct, given_back, own_taken_from, pushed, queue_of, stolen, stolen_from, with_local, with_queue, with_ticket}
use Rattle.gmp_acts.specs.Hands.{PlainHand, PlainMachine}
use Rattle.gmp_acts.specs.System.{BookRun, System, count_of, machine_at, no_machine, queue_at}
use Rattle.gmp_acts.proofs.Replies.{CanReply, replies}
use Rattle.gmp_fair.specs.Fair.{InTurn, claims_of, is_claim, is_claim_by}
use Rattle.gmp_fair.proofs.Lines.{one_if, set_turn, stays}
use Rattle.gmp_fair.proofs.Weights.{CanCome, claimed, comes}

-- Only at Claim is there a claim, which is answered Held

module _ (s : Seen) where
  -- the call is this one, which is no claim
  no_claim : (d c : Call) (n : ℕ) → act.Call d ≡ act.Call c → is_claim d ≡ false → one_if (is_claim c) ≤ n
  no_claim d c n e other = (let same : is_claim c ≡ false = ap is_claim (sym (call_is d c e)) ∙ other in let zero_is : one_if (is_claim c) ≡ 0 = ap one_if same in omega (arith, zero_is))

  no_ask : (asked : Ask) → is_claim (call_for asked) ≡ false
  no_ask ask.Yield = refl
  no_ask asked = refl

  no_put : (o : Option Readiness) (c : Call) (n : ℕ) → put_call o ≡ act.Call c → one_if (is_claim c) ≤ n
  no_put o c n e = (let w = put_calls o c e in no_claim (call.Put w.0) c n (ap act.Call w.2) refl)

  held_one : (r : Readiness) (answer : Reply) → CanReply (call.Claim r) answer → one_if true ≤ claimed place.Claim (told.Replied answer)
  held_one r reply.Held k = omega arith
  held_one r _ k = absurd k

  claims_there : (here : Place) (c : Call) (answer : Reply) → act_at s here ≡ act.Call c → CanReply c answer → one_if (is_claim c) ≤ claimed here (told.Replied answer)
  claims_there place.Start c answer e k = no_claim call.Acquire c _ e refl
  claims_there place.Look c answer e k = absurd (look_calls (nat_le 16 s.turns) c e)
  claims_there (place.Ticking now) c answer e k = no_claim (call.Tick now) c _ e refl
  claims_there place.Keep c answer e k = no_claim call.Keep c _ e refl
  claims_there place.Glance c answer e k = no_claim call.Take c _ e refl
  claims_there place.PutDrain c answer e k = no_put s.to_store c _ e
  claims_there place.Global c answer e k = no_claim call.Take c _ e refl
  claims_there place.Spin c answer e k = no_claim call.Spin c _ e refl
  claims_there (place.PutMore v goal) c answer e k = no_put s.to_store c _ e
  claims_there place.Unspin c answer e k = no_claim call.Unspin c _ e refl
  claims_there place.Claim c answer e k = elim (claim_calls s.fresh s.to_claim c e) [
    | inl w ↦ no_claim call.Poke c _ (ap act.Call w) refl
    | inr w ↦ subst (λ (d : Call). one_if (is_claim d) ≤ claimed place.Claim (told.Replied answer)) w.2 (held_one w.0 answer (subst (λ (d : Call). CanReply d answer) (sym w.2) k))
  ]
  claims_there (place.Do asked) c answer e k = no_claim (call_for asked) c _ e (no_ask asked)
  claims_there place.PutStore c answer e k = no_put s.to_store c _ e
  claims_there place.Poke c answer e k = no_claim call.Poke c _ e refl
  claims_there (place.Leave number) c answer e k = no_claim (call.Leave number) c _ e refl
  claims_there place.Drop c answer e k = no_claim call.Declare c _ e refl
  claims_there place.Bare c answer e k = no_claim call.Bare c _ e refl
  claims_there place.Have c answer e k = no_claim call.Acquire c _ e refl
  claims_there place.PutHave c answer e k = no_put s.to_claim c _ e
  claims_there place.Park c answer e k = no_claim call.Park c _ e refl
  claims_there place.Rest c answer e k = no_claim call.Woken c _ e refl
  claims_there (place.MindTick now) c answer e k = no_claim (call.Tick now) c _ e refl
  claims_there (place.Hunt None) c answer e k = absurd (let no : ⊥ = cc in no)
  claims_there (place.Hunt (Some r)) c answer e k = absurd (let no : ⊥ = cc in no)
  claims_there _ c answer e k = absurd (let no : ⊥ = cc in no)

-- Shapes

-- what the machine that acts is told, with what it holds then
pub record Tells (k : System) (n : MNo) (k' : System) : Type 0 where
  pub what : Told
  pub pass : Option Pass
  pub hand : PlainHand
  pub now : machine_at k' n ≡ after (record (machine_at k n) { pass = pass; hand = hand }) what
  pub comes : CanCome what (machine_at k n).place (machine_at k n).turns
  pub claims : claims_of k' n ≤ claims_of k n + claimed (machine_at k n).place what

-- the machine is as it was, and claimed nothing
pub record Rests (k : System) (n : MNo) (k' : System) : Type 0 where
  pub now : machine_at k' n ≡ machine_at k n
  pub claims : claims_of k' n ≤ claims_of k n

pub record Shape (k : System) (n : MNo) (k' : System) : Type 0 where
  pub own : Tells k n k' ⊎ Rests k n k'
  pub others : (m : MNo) → m ≢ n → Rests k m k'
  pub queues : (p : PNo) → InTurn (queue_at k p) (queue_at k' p)
  pub long : length k'.machines ≡ length k.machines

-- the same machine by its number
pub same_number : (m n : MNo) → m.0 ≡ n.0 → m ≡ n
same_number m n e = ap (λ (i : ℕ). let y : MNo = record { 0 = i } in y) e

module _ (k : System) (n : MNo) (inside : n.0 < length k.machines) where
  abbrev X : PlainMachine
  X = machine_at k n

  at_own : (x : PlainMachine) → get_or (set k.machines n.0 x) n.0 no_machine ≡ x
  at_own x = get_or-set_same k.machines n.0 x no_machine inside

  at_others : (m : MNo) (x : PlainMachine) → m ≢ n → get_or (set k.machines n.0 x) m.0 no_machine ≡ machine_at k m
  at_others m x ne = get_or-set_other k.machines n.0 m.0 x no_machine (λ e. ne (same_number m n e))

  -- the acting machine and the queues are others
  local_shape : (x : PlainMachine) (queues : List (List Readiness)) → Tells k n (with_local k n (x, queues)) ⊎ Rests k n (with_local k n (x, queues))
      → ((p : PNo) → InTurn (queue_at k p) (get_or queues p.0 [])) → Shape k n (with_local k n (x, queues))
  local_shape x queues own turn = record {
    own = own;
    others = λ m ne. record { now = at_others m x ne; claims = omega arith };
    queues = turn;
    long = length-set k.machines n.0 x;
  }

  told_local : (a : Act) (what : Told) (pass : Option Pass) (hand : PlainHand) (queues : List (List Readiness)) → next_act (machine_at k n) ≡ a → MayCome a what
      → Tells k n (with_local k n (after (record (machine_at k n) { pass = pass; hand = hand }) what, queues))
  told_local a what pass hand queues e may = record {
    what = what;
    pass = pass;
    hand = hand;
    now = at_own (after (record X { pass = pass; hand = hand }) what);
    comes = comes (seen X) what X.place a e may;
    claims = omega arith;
  }

  same_queues : (p : PNo) → InTurn (queue_at k p) (get_or k.queues p.0 [])
  same_queues p = stays (queue_at k p)

  -- told something, and nothing else
  told_only : (a : Act) (what : Told) → next_act (machine_at k n) ≡ a → MayCome a what → Shape k n (with_local k n (after (machine_at k n) what, k.queues))
  told_only a what e may = local_shape (after X what) k.queues (inl (told_local a what X.pass X.hand k.queues e may)) same_queues

  -- the first of a queue left
  first_gone : (v : PNo) (t : Readiness) (rest : List Readiness) → get_or k.queues v.0 [] ≡ t ∷ rest → (p : PNo) → InTurn (queue_at k p) (get_or (set k.queues v.0 rest) p.0 [])
  first_gone v t rest is p = set_turn k.queues v.0 p.0 rest (inr (t, is))

  may_empty : (b : Bool) → MayCome (pop_for b) told.Empty
  may_empty true = tt
  may_empty false = tt

  may_found : (b : Bool) → MayCome (pop_for b) (popped_for b)
  may_found true = tt
  may_found false = tt

  takes : (b : Bool) (o : Option PNo) (queue : List Readiness) → own_processor (machine_at k n).hand ≡ o → queue_of k.queues o ≡ queue → next_act (machine_at k n) ≡ pop_for b
      → Shape k n (with_local k n (own_taken_from b (machine_at k n) k.queues queue))
  takes b o [] own is e = told_only (pop_for b) told.Empty e (may_empty b)
  takes b None (t ∷ rest) own is e = absurd (let no : [] ≡ t ∷ rest = is in cc)
  takes b (Some p) (t ∷ rest) own is e =
      subst (λ (q : Option PNo). Shape k n (with_local k n (after (record X { hand = with_found t b X.hand }) (popped_for b), with_queue k.queues q rest))) (sym own)
      (local_shape (after (record X { hand = with_found t b X.hand }) (popped_for b)) (set k.queues p.0 rest)
      (inl (told_local (pop_for b) (popped_for b) X.pass (with_found t b X.hand) (set k.queues p.0 rest) e (may_found b))) (first_gone p t rest is))

  steals : (a : Act) (drawn : Option ℕ) (v : PNo) (queue : List Readiness) → get_or k.queues v.0 [] ≡ queue → next_act (machine_at k n) ≡ a → ((how : Tried) → MayCome a (tells drawn how))
      → Shape k n (with_local k n (stolen_from (machine_at k n) drawn k.queues v queue))
  steals a drawn v [] is e may = told_only a (tells drawn tried.Empty) e (may tried.Empty)
  steals a drawn v (t ∷ rest) is e may =
      local_shape (after (record X { hand = with_ticket t X.hand X.hand.to_claim }) (tells drawn (tried.Got (length (t ∷ rest))))) (set k.queues v.0 rest)
      (inl (told_local a (tells drawn (tried.Got (length (t ∷ rest)))) X.pass (with_ticket t X.hand X.hand.to_claim) (set k.queues v.0 rest) e (may (tried.Got (length (t ∷ rest)))))) (first_gone v t rest is)

  steals_or : (a : Act) (drawn : Option ℕ) (v : PNo) (lost : Bool) → next_act (machine_at k n) ≡ a → ((how : Tried) → MayCome a (tells drawn how))
      → Shape k n (with_local k n (stolen (machine_at k n) drawn k.queues v lost))
  steals_or a drawn v true e may = told_only a (tells drawn tried.Unsure) e (may tried.Unsure)
  steals_or a drawn v false e may = steals a drawn v (get_or k.queues v.0 []) refl e may

  put_last : (t : Readiness) (o : Option PNo) (p : PNo) → InTurn (queue_at k p) (get_or (with_queue k.queues o (queue_of k.queues o ++ t ∷ [])) p.0 [])
  put_last t None p = same_queues p
  put_last t (Some q) p = set_turn k.queues q.0 p.0 (get_or k.queues q.0 [] ++ t ∷ []) (inl (t ∷ [], refl))

  pushes : (o : Option Readiness) (refused : Bool) → next_act (machine_at k n) ≡ act.Push → Shape k n (with_local k n (pushed (machine_at k n) k.queues o refused))
  pushes None refused e = local_shape X k.queues (inr (record { now = at_own X; claims = omega arith })) same_queues
  pushes (Some t) true e = told_only act.Push told.PushRefused e tt
  pushes (Some t) false e =
      let queues : List (List Readiness) = with_queue k.queues (own_processor X.hand) (queue_of k.queues (own_processor X.hand) ++ t ∷ []) in
      local_shape (after (record X { hand = record X.hand { to_store = None } }) told.Pushed) queues
      (inl (told_local act.Push told.Pushed X.pass (record X.hand { to_store = None }) queues e tt)) (put_last t (own_processor X.hand))

  -- told without a call, and given back
  gives : (which : Option Value) → Shape k n (with_local k n (given_back (machine_at k n) which, k.queues))
  gives None = local_shape (after X told.Nothing) k.queues
      (inl (record { what = told.Nothing; pass = X.pass; hand = X.hand; now = at_own (after X told.Nothing); comes = tt; claims = omega arith })) same_queues
  gives (Some v) = local_shape (after (record X { hand = but (Some v) X.hand }) told.Surrendered) k.queues
      (inl (record { what = told.Surrendered; pass = X.pass; hand = but (Some v) X.hand; now = at_own (after (record X { hand = but (Some v) X.hand }) told.Surrendered); comes = tt; claims = omega arith })) same_queues

  -- Calls

  abbrev called : PlainMachine → BookRun → List Made → System
  called x book own = record k { book = book; machines = set k.machines n.0 x; own = own }

  entered : (m : MNo) (h : List Entry) (e : Entry) → count_by (is_claim_by m) (h ++ e ∷ []) ≡ count_by (is_claim_by m) h + one_if (is_claim_by m e)
  entered m h e = sum_by_push (λ (u : Entry). one_if (is_claim_by m u)) h e

  own_entry : (c : Call) (j : ℕ) (answer : Reply) → one_if (is_claim_by n (record { m = n; k = j; call = c; reply = answer })) ≡ one_if (is_claim c)
  own_entry c j answer = ap (λ (b : Bool). one_if (b && is_claim c)) (eq-eqb n.0 n.0 refl)

  other_entry : (m : MNo) (c : Call) (j : ℕ) (answer : Reply) → m ≢ n → one_if (is_claim_by m (record { m = n; k = j; call = c; reply = answer })) ≡ 0
  other_entry m c j answer ne = ap (λ (b : Bool). one_if (b && is_claim c)) (ne_eqb n.0 m.0 (λ e. ne (same_number m n (sym e))))

  accepted : (c : Call) (x : PlainMachine) (book : BookRun) (own : List Made) → next_act (machine_at k n) ≡ act.Call c → Accepted (machine_at k n) n c k.book k.own x book own → Shape k n (called x book own)
  accepted c x book own e done =
      let can = replies k.book.limits n c done.answer k.book.state book.state done.step.1 in
      let there = claims_there (seen X) X.place c done.answer e can in
      let new : Entry = record { m = n; k = count_of k.book n; call = c; reply = done.answer } in
      record {
        own = inl (record {
          what = told.Replied done.answer;
          pass = _;
          hand = _;
          now = at_own x ∙ done.machine;
          comes = tt;
          claims = (let a = ap (count_by (is_claim_by n)) done.entry in let b = entered n k.book.history new in let c' = own_entry c (count_of k.book n) done.answer in omega (arith, a, b, c', there));
        });
        others = λ m ne. record {
          now = at_others m x ne;
          claims = (let a = ap (count_by (is_claim_by m)) done.entry in let b = entered m k.book.history new in let c' = other_entry m c (count_of k.book n) done.answer ne in omega (arith, a, b, c'));
        };
        queues = same_queues;
        long = length-set k.machines n.0 x;
      }

  -- the book is as it was
  unaltered : (x : PlainMachine) (book : BookRun) (own : List Made) → book ≡ k.book → Tells k n (called x k.book own) ⊎ Rests k n (called x k.book own) → Shape k n (called x book own)
  unaltered x book own is it = subst (λ (b : BookRun). Shape k n (called x b own)) (sym is) (record {
    own = it;
    others = λ m ne. record { now = at_others m x ne; claims = omega arith };
    queues = same_queues;
    long = length-set k.machines n.0 x;
  })

  answers : (c : Call) (x : PlainMachine) (book : BookRun) (own : List Made) → next_act (machine_at k n) ≡ act.Call c → Answers (machine_at k n) n c k.book k.own x book own → Shape k n (called x book own)
  answers c x book own e (inl done) = accepted c x book own e done
  answers c x book own e (inr (inl stop)) =
      unaltered x book own stop.same (inl (record { what = told.Refused Over; pass = X.pass; hand = X.hand; now = at_own x ∙ stop.machine; comes = tt; claims = omega arith }))
  answers c x book own e (inr (inr (inl want))) =
      unaltered x book own want.same (inl (record { what = told.Refused OutOfMemory; pass = X.pass; hand = _; now = at_own x ∙ want.machine; comes = tt; claims = omega arith }))
  answers c x book own e (inr (inr (inr declined))) =
      unaltered x book own declined.same (inr (record { now = at_own x ∙ declined.machine; claims = omega arith }))

  by_act : (a : Act) (choice : Choice) (k' : System) → next_act (machine_at k n) ≡ a → DoesAct a k n choice k' → Shape k n k'
  by_act (act.Call c) choice k' e d = subst (Shape k n) (sym d.4) (answers c d.0 d.1 d.2 e d.3)
  by_act act.Pop choice k' e d = subst (Shape k n) (sym d) (takes false (own_processor X.hand) (queue_of k.queues (own_processor X.hand)) refl refl e)
  by_act act.Drain choice k' e d = subst (Shape k n) (sym d) (takes true (own_processor X.hand) (queue_of k.queues (own_processor X.hand)) refl refl e)
  by_act act.Push choice k' e d = subst (Shape k n) (sym d) (pushes X.hand.to_store choice.push_refused e)
  by_act act.Hunt choice k' e d = subst (Shape k n) (sym d) (steals_or act.Hunt (Some choice.word) (victim_of X.procs (begun (seen X) choice.word)) choice.unsure e (λ how. tt))
  by_act (act.Steal v) choice k' e d = subst (Shape k n) (sym d) (steals_or (act.Steal v) None v choice.unsure e (λ how. tt))
  by_act act.Resume choice k' e d = subst (Shape k n) (sym d) (told_only act.Resume (told.Asked choice.ask) e tt)
  by_act act.Block choice k' e d = subst (Shape k n) (sym d) (told_only act.Block (told.Number choice.number) e tt)
  by_act (act.Clock deadline) choice k' e d = subst (Shape k n) (sym d) (told_only (act.Clock deadline) (told.Moment choice.moment) e tt)
  by_act (act.Surrender which) choice k' e d = subst (Shape k n) (sym d) (gives which)
  by_act act.Nothing choice k' e d = subst (Shape k n) (sym d) (record {
    own = inr (record { now = refl; claims = omega arith });
    others = λ m ne. record { now = refl; claims = omega arith };
    queues = same_queues;
    long = refl;
  })

pub shape : (k : System) (n : MNo) (choice : Choice) (k' : System) → n.0 < length k.machines → Acts k n choice k' → Shape k n k'
shape k n choice k' inside acts = by_act k n inside (next_act (machine_at k n)) choice k' refl (acts.by_place inside)
