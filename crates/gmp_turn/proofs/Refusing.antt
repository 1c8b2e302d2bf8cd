-- A turn that is refused is an act of several machines: the run is over, or a make wanted memory.
use Rattle.std.proofs.Common.{◌≡◌, ◌≢◌, inl, inr, ℕ, ◌<◌, ◌≤◌, Bool, true, false, not, ◌||◌, ◌==◌, nat_le, nat_lt, List, ◌∷◌, ◌++◌, length, Option, None, Some, is_some, Err, refl, sym, ap, subst, ◌∙◌, arith}
use Rattle.std.proofs.lemmas.Bool.{eq-eqb}
use Rattle.std.proofs.lemmas.Bool.Decides.{nat_tests}
use Rattle.std.specs.Option.{option_map, option_map_or}
use Rattle.gmp_base.specs.declared.number.GNo.{GNo}
use Rattle.gmp_base.specs.declared.number.MNo.{MNo}
use Rattle.gmp_base.specs.declared.number.PNo.{PNo}
use Rattle.gmp_base.specs.declared.number.Readiness.{Readiness}
use Rattle.gmp_base.specs.declared.pass.Pass.{Pass}
use Rattle.gmp_base.specs.declared.refusal.Refusal.{Refusal}
use Rattle.gmp_base.specs.declared.refusal.Refusal.TheVariants.{Behind, Over, OutOfMemory, OutOfTurn, WrongRun}
use Rattle.gmp_base.specs.declared.value.Called.{Called}
use Rattle.gmp_base.specs.declared.value.Held.{Held}
use Rattle.gmp_base.specs.declared.value.Proc.{Proc}
use Rattle.gmp_base.specs.declared.value.Ticket.{Ticket}
use Rattle.gmp_base.specs.Values.{readiness_of, ticket_by}
use Rattle.gmp_seq.specs.declared.call.Call.{Call}
use Rattle.gmp_seq.specs.declared.call.Call.TheVariants as call
use Rattle.gmp_seq.specs.declared.call.Limits.{Limits}
use Rattle.gmp_seq.specs.declared.call.Outcome.{Outcome}
use Rattle.gmp_seq.specs.Needs.{Needs, WantsMemory}
use Rattle.gmp_seq.specs.State.{State}
use Rattle.gmp_journal.specs.declared.handed.Handed.{Handed}
use Rattle.gmp_journal.specs.Grants.{Suits}
use Rattle.gmp_journal.specs.Handed.{goroutine_in, names_other, processor_in}
use Rattle.gmp_journal.specs.Laws.{NeedsOf}
use Rattle.gmp_journal.specs.Log.{Log, calls_of, entries_made, is_over}
use Rattle.gmp_journal.specs.Refusals.{Line, Says, first_refusal, is_foreign, refusal_line, need_lines, refusal_of, room_lines}
use Rattle.gmp_journal.proofs.Needed.{granted_where, own_run}
use Rattle.gmp_book.specs.Book.{BookContents}
use Rattle.gmp_book.specs.Hands.{handed_of}
use Rattle.gmp_driver.specs.declared.act.Act.TheVariants as act
use Rattle.gmp_driver.specs.declared.act.Told.TheVariants as told
use Rattle.gmp_driver.specs.declared.registers.CalledParts.{CalledParts}
use Rattle.gmp_driver.specs.declared.registers.HeldParts.{HeldParts}
use Rattle.gmp_driver.specs.declared.registers.ProcParts.{ProcParts}
use Rattle.gmp_driver.specs.declared.registers.Registers.{Registers}
use Rattle.gmp_driver.specs.Fits.{SuitsPlace}
use Rattle.gmp_driver.specs.Loads.{called_of, held_of, load_of, proc_of}
use Rattle.gmp_driver.specs.Machine.{Machine}
use Rattle.gmp_driver.specs.Registers.{first_of, used}
use Rattle.gmp_driver.specs.Seen.{number_of}
use Rattle.gmp_driver.specs.Table.{after, next_act}
use Rattle.gmp_driver.specs.Uses.{Uses}
use Rattle.gmp_driver.proofs.Uses.{uses}
use Rattle.gmp_acts.specs.declared.made.Made.{Made}
use Rattle.gmp_acts.specs.Acts.{IsGranted, MayCall, Stopped, Unmade}
use Rattle.gmp_acts.specs.Hands.{PlainHand, PlainMachine, hand_unmade, plain, plain_called, plain_held, plain_machine, plain_proc}
use Rattle.gmp_acts.specs.System.{Has, called_number, held_number}
use Rattle.gmp_turn.specs.Acts.{run_of}
use Rattle.gmp_turn.specs.Turns.{Turns, hand_with, handed_out, is_to_claim, load_back, values_in}
use Rattle.gmp_turn.proofs.Acting.{same_pass}
use Rattle.gmp_turn.proofs.Coming.{by_parts, plain_back}
use Rattle.gmp_turn.proofs.Given.{some_of, suits}
use Rattle.gmp_acts.proofs.Plain.{after_plain}

-- What a machine hands out is of its run

module _ (run : ℕ) where
  own_ticket : (o : Option Readiness) → option_map_or (λ (x : ℕ × Readiness). not (x.0 == run)) (option_map (λ (t : Ticket). (t.run, readiness_of t)) (option_map (ticket_by run) o)) false ≡ false
  own_ticket None = refl
  own_ticket (Some r) = own_run run

  own_tickets : (o p : Option Readiness)
      → option_map_or (λ (x : ℕ × Readiness). not (x.0 == run)) (option_map (λ (t : Ticket). (t.run, readiness_of t)) (first_of (option_map (ticket_by run) o) (option_map (ticket_by run) p))) false ≡ false
  own_tickets None p = own_ticket p
  own_tickets (Some r) p = own_run run

  own_held : {T : Type 0} (o : Option (HeldParts T)) → option_map_or (λ (x : ℕ × GNo). not (x.0 == run)) (option_map (λ (h : Held T). (h.run, h.g)) (option_map (held_of run) o)) false ≡ false
  own_held None = refl
  own_held (Some h) = own_run run

  own_called : {T : Type 0} (o : Option (CalledParts T)) → option_map_or (λ (x : ℕ × GNo). not (x.0 == run)) (option_map (λ (c : Called T). (c.run, c.g)) (option_map (called_of run) o)) false ≡ false
  own_called None = refl
  own_called (Some c) = own_run run

  own_proc : {Q : Type 0} (o : Option (ProcParts Q)) → option_map_or (λ (x : ℕ × PNo). not (x.0 == run)) (option_map (λ (p : Proc Q). (p.run, p.p)) (option_map (proc_of run) o)) false ≡ false
  own_proc None = refl
  own_proc (Some p) = own_run run

  pub names_none : {T Q : Type 0} (pass : Pass) (hand : Registers T Q) → names_other run (handed_of (values_in (load_of run pass hand))) ≡ false
  names_none pass hand = rw (own_tickets hand.to_claim hand.to_store, own_held hand.held, own_called hand.called, own_proc hand.processor) refl

-- What the journal asks for is what the scheduler needs, with what the machine holds

module _ {T Q : Type 0} (run : ℕ) (pass : Pass) (m : MNo) (s : State) (hand : Registers T Q) (has : Has s m (plain hand)) where
  abbrev Asked : Call → Type 0
  Asked c = (let v = handed_of (values_in (load_of run pass (used (act.Call c) hand))) in NeedsOf m (goroutine_in v) (processor_in v) c s)

  asks : (h : HeldParts T) → hand.held ≡ Some h → Asked call.Yield
  asks h e = rw e (has.runs h.g (ap (λ (o : Option (HeldParts T)). held_number (option_map plain_held o)) e))

  enters : (h : HeldParts T) (p : ProcParts Q) → hand.held ≡ Some h → hand.processor ≡ Some p → Asked call.Enter
  enters h p e of =
      rw (e, of) (has.runs h.g (ap (λ (o : Option (HeldParts T)). held_number (option_map plain_held o)) e), has.holds p.p (ap (λ (o : Option (ProcParts Q)). number_of (option_map plain_proc o)) of))

  leaves : (number : ℕ) (c : CalledParts T) → hand.called ≡ Some c → Asked (call.Leave number)
  leaves number c e = rw e (has.calls c.g (ap (λ (o : Option (CalledParts T)). called_number (option_map plain_called o)) e))

  declares : (p : ProcParts Q) → hand.processor ≡ Some p → Needs m call.Declare s → Asked call.Declare
  declares p e n = rw e (n.0, n.1, has.holds p.p (ap (λ (o : Option (ProcParts Q)). number_of (option_map plain_proc o)) e))

  pub asked : (c : Call) → Uses c hand → Needs m c s → Asked c
  asked call.Acquire u n = n
  asked call.Take u n = n
  asked (call.Put r) u n = n
  asked (call.Claim r) u n = n
  asked call.Enter u n = (let h = some_of hand.held u.0 in let p = some_of hand.processor u.1 in enters h.0 p.0 h.1 p.1)
  asked (call.Leave number) u n = (let w = some_of hand.called u.0 in leaves number w.0 w.1)
  asked call.Spin u n = n
  asked call.Woken u (inl awake) = (λ calls. cc)
  asked call.Woken u (inr parked) = (λ calls. cc)
  asked call.Keep u n = n
  asked call.Unspin u n = n
  asked call.Poke u n = n
  asked call.Declare u n = (let w = some_of hand.processor u.2 in declares w.0 w.1 n)
  asked call.Bare u n = n
  asked call.Park u n = n
  asked (call.Tick moment) u n = n
  asked _ u n = (let w = some_of hand.held u.0 in asks w.0 w.1)

-- Lines

some_is : (o : Option Outcome) → o ≢ None → is_some o ≡ true
some_is None h = absurd (h refl)
some_is (Some x) h = refl

or_none : (a b : Bool) → a ≡ false → b ≡ false → a || b ≡ false
or_none a b ea eb = rw (ea, eb) refl

-- the fourth line is the first that holds
fourth : (a b c d : Bool) (x y z w : Refusal) (ls : List Line) → a ≡ false → b ≡ false → c ≡ false → d ≡ true
    → first_refusal (refusal_line a x ∷ refusal_line b y ∷ refusal_line c z ∷ refusal_line d w ∷ ls) ≡ Some w
fourth a b c d x y z w ls ea eb ec ed = rw (ea, eb, ec, ed) refl

module _ (log : Log) (pass : Pass) (c : Call) (values : Handed) (run : pass.run ≡ log.run) (machine : pass.m.0 < log.limits.machines) (turn : pass.calls ≡ calls_of log pass.m) (seen : pass.seen ≤ entries_made log)
    (ours : names_other log.run values ≡ false) where
  pub over_refused : log.state.outcome ≢ None → refusal_of log pass c values ≡ Some Over
  over_refused over =
      let there : nat_le log.limits.machines pass.m.0 ≡ false = grind (arith, nat_tests, machine) in
      let early : nat_lt (entries_made log) pass.seen ≡ false = grind (arith, nat_tests, seen) in
      let foreign : is_foreign log pass values ≡ false = or_none _ _ (or_none _ _ (ap not (eq-eqb pass.run log.run run)) there) ours in
      let in_turn : not (pass.calls == calls_of log pass.m) ≡ false = ap not (eq-eqb pass.calls (calls_of log pass.m) turn) in
      fourth (is_foreign log pass values) (not (pass.calls == calls_of log pass.m)) (nat_lt (entries_made log) pass.seen) (is_over log) WrongRun (OutOfTurn (calls_of log pass.m))
      (Behind (entries_made log) pass.seen) Over (need_lines log.state pass.m c values ++ room_lines log) foreign in_turn early (rw (some_is log.state.outcome over) refl)

  pub none_refused : log.state.outcome ≡ None → log.stopped ≡ false → length log.history < log.limits.room → Needs pass.m c log.state → NeedsOf pass.m (goroutine_in values) (processor_in values) c log.state → Suits c values → refusal_of log pass c values ≡ None
  none_refused goes on room needs of suit = (granted_where log pass c values run (record { machine = machine; turn = turn; seen = seen; lasts = goes; goes_on = on }) room suit ours).1 of

-- why the book refuses, once no line does, and once the run is over
by_memory : (wants : Type 0) (line answer : Option Refusal) (why : Refusal) → line ≡ None → answer ≡ Some why → Says wants line answer → (why ≡ OutOfMemory) × wants
by_memory wants None answer why l a (inl none) = absurd (let no : None ≡ Some why = sym none ∙ a in cc)
by_memory wants None answer why l a (inr (memory, w)) = ((let both : Some why ≡ Some OutOfMemory = sym a ∙ memory in cc), w)
by_memory wants (Some x) answer why l a s = absurd (let no : Some x ≡ None = l in cc)

by_line : (wants : Type 0) (line answer : Option Refusal) (x why : Refusal) → line ≡ Some x → answer ≡ Some why → Says wants line answer → why ≡ x
by_line wants None answer x why l a s = absurd (let no : None ≡ Some x = l in cc)
by_line wants (Some y) answer x why l a s = (let both : Some why ≡ Some y = sym a ∙ s in let same : Some y ≡ Some x = l in cc)

unmade_is : (limits : Limits) (c : Call) (s : State) (hand : PlainHand) → WantsMemory limits c s → plain_back c OutOfMemory hand ≡ hand_unmade hand
unmade_is limits (call.Make capacity) s hand w = refl
unmade_is limits _ s hand w = absurd w

over_is : (c : Call) (hand : PlainHand) → plain_back c Over hand ≡ hand
over_is (call.Make capacity) hand = refl
over_is _ hand = refl

module _ {T Q : Type 0} (x x' : Machine T Q) (book book' : BookContents T Q) (m : MNo) (c : Call) (word : ℕ) (why : Refusal) (own : List Made) (is : next_act x ≡ act.Call c) (fits : SuitsPlace x.place x.hand)
    (run : x.run ≡ book.log.run) (there : m.0 < book.log.limits.machines) (may : MayCall (plain_machine x) m (run_of book.log)) (turned : Turns x book c word (Err why) x' book') where
  abbrev v : Handed
  v = handed_of (values_in (handed_out x turned.before c))

  same : turned.before ≡ may.pass
  same = same_pass turned.before may.pass x.pass turned.pass may.has_pass

  its : turned.before.m ≡ m
  its = ap (λ (p : Pass). p.m) same ∙ may.its

  pass_run : turned.before.run ≡ book.log.run
  pass_run = ap (λ (p : Pass). p.run) same ∙ may.run

  machine : turned.before.m.0 < book.log.limits.machines
  machine = let e : turned.before.m.0 ≡ m.0 = ap (λ (i : MNo). i.0) its in omega (arith, e, there)

  turn : turned.before.calls ≡ calls_of book.log turned.before.m
  turn = ap (λ (p : Pass). p.calls) same ∙ may.turn ∙ ap (calls_of book.log) (sym its)

  seen : turned.before.seen ≤ entries_made book.log
  seen = let e : turned.before.seen ≡ may.pass.seen = ap (λ (p : Pass). p.seen) same in let s = may.seen in omega (arith, e, s)

  ours : names_other book.log.run v ≡ false
  ours = subst (λ (n : ℕ). names_other n v ≡ false) run (names_none x.run turned.before (used (act.Call c) x.hand))

  -- the machine, told this, with this hand in plain parts
  abbrev told_so : Refusal → Option Pass → PlainHand → PlainMachine
  told_so why p h = after (record (plain_machine x) { pass = p; hand = h }) (told.Refused why)

  holds : plain (hand_with c x.hand (load_back turned.behind (is_to_claim c (handed_out x turned.before c)) turned.back)) ≡ plain_back c why (plain x.hand)
  holds = rw turned.err.2 (by_parts x.run turned.before c why x.hand.processor x.hand.held x.hand.called x.hand.to_claim x.hand.to_store).0

  machine_is : plain_machine x' ≡ told_so why x.pass (plain_back c why (plain x.hand))
  machine_is = ap plain_machine turned.machine ∙ after_plain _ (told.Refused why) ∙ ap (told_so why (Some turned.behind)) holds
      ∙ ap (λ (p : Option Pass). told_so why p (plain_back c why (plain x.hand))) (ap Some turned.err.1 ∙ sym turned.pass)

  book_is : run_of book'.log ≡ run_of book.log
  book_is = ap (λ (b : BookContents T Q). run_of b.log) turned.err.0

  pub stopped : book.log.state.outcome ≢ None → Stopped (plain_machine x) (run_of book.log) own (plain_machine x') (run_of book'.log) own
  stopped over =
      let over_told : why ≡ Over = by_line _ _ _ Over why (over_refused book.log turned.before c v pass_run machine turn seen ours over) refl turned.refused in
      record {
        over = over;
        same = book_is;
        none = refl;
        machine = machine_is ∙ ap (λ (w : Refusal). told_so w x.pass (plain_back c w (plain x.hand))) over_told ∙ ap (told_so Over x.pass) (over_is c (plain x.hand));
      }

  pub unmade : book.log.state.outcome ≡ None → book.log.stopped ≡ false → length book.log.history < book.log.limits.room → IsGranted (plain_machine x) m c (run_of book.log) → Unmade (plain_machine x) m c (run_of book.log) own (plain_machine x') (run_of book'.log) own
  unmade goes on room granted =
      let uses_it = uses x c is fits in
      let needs : Needs turned.before.m c book.log.state = subst (λ (i : MNo). Needs i c book.log.state) (sym its) granted.needs in
      let has : Has book.log.state turned.before.m (plain x.hand) = subst (λ (i : MNo). Has book.log.state i (plain x.hand)) (sym its) granted.has in
      let none = none_refused book.log turned.before c v pass_run machine turn seen ours goes on room needs (asked x.run turned.before turned.before.m book.log.state x.hand has c uses_it needs) (suits x.run turned.before c x.hand uses_it) in
      let memory = by_memory _ _ _ why none refl turned.refused in
      record {
        granted = granted;
        lasts = goes;
        makes = memory.1;
        same = book_is;
        none = refl;
        machine = machine_is ∙ ap (λ (w : Refusal). told_so w x.pass (plain_back c w (plain x.hand))) memory.0 ∙ ap (told_so OutOfMemory x.pass) (unmade_is book.log.limits c book.log.state (plain x.hand) memory.1);
      }
