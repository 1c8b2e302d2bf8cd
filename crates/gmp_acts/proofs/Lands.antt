-- Where each call's answer leads: what the machine holds there, and what the book says of it.
use Rattle.std.proofs.Common.{◌≡◌, ◌⊎◌, inl, inr, ℕ, zero, suc, Bool, true, false, if◌then◌else◌, nat_le, nat_lt, ◌==◌, is_some, Option, None, Some, refl, sym, subst, ◌∙◌}
use Rattle.std.proofs.lemmas.Bool.{false≢true}
use Rattle.gmp_base.specs.declared.ask.Ask.{Ask}
use Rattle.gmp_base.specs.declared.ask.Ask.TheVariants as ask
use Rattle.gmp_base.specs.declared.ask.Woke.{Woke}
use Rattle.gmp_base.specs.declared.number.PNo.{PNo}
use Rattle.gmp_base.specs.declared.number.Readiness.{Readiness}
use Rattle.gmp_seq.specs.declared.call.Call.{Call}
use Rattle.gmp_seq.specs.declared.call.Call.TheVariants as call
use Rattle.gmp_seq.specs.declared.call.Reply.{Reply}
use Rattle.gmp_seq.specs.declared.call.Reply.TheVariants as reply
use Rattle.gmp_seq.specs.declared.call.Taken.TheVariants as taken
use Rattle.gmp_seq.specs.declared.status.Mode.{Mode}
use Rattle.gmp_seq.specs.Table.{Table}
use Rattle.gmp_driver.specs.declared.act.Act.TheVariants as act
use Rattle.gmp_driver.specs.declared.act.Told.TheVariants as told
use Rattle.gmp_driver.specs.declared.place.Aside.{Aside}
use Rattle.gmp_driver.specs.declared.place.Aside.TheVariants as looks
use Rattle.gmp_driver.specs.declared.place.Place.{Place}
use Rattle.gmp_driver.specs.declared.place.Place.TheVariants as place
use Rattle.gmp_driver.specs.declared.registers.CalledParts.{CalledParts}
use Rattle.gmp_driver.specs.declared.registers.HeldParts.{HeldParts}
use Rattle.gmp_driver.specs.declared.registers.ProcParts.{ProcParts}
use Rattle.gmp_driver.specs.Fits.{SuitsPlace}
use Rattle.gmp_acts.specs.Hands.{PlainHand}
use Rattle.gmp_driver.specs.Seen.{seen_of}
use Rattle.gmp_driver.specs.Table.{act_at, call_for, next_place, raised, aside_at, is_late}
use Rattle.gmp_driver.proofs.Uses.{call_is, look_calls, put_calls, claim_calls}
use Rattle.gmp_acts.specs.Hands.{hand_after, left_by, retold, called_from, running_again}
use Rattle.gmp_acts.specs.Sound.{HasFewAt, ModeAt, spins_at, IsEnd}
use Rattle.gmp_acts.proofs.Replies.{Awoke, CanReply, Goes}
use Rattle.gmp_acts.proofs.Gears.{mode_after, spins_after}

-- the next place suits what the machine holds and does
pub record Lands (procs : ℕ) (here : Place) (c : Call) (answer : Reply) (there : Place) (hand : PlainHand) (what : Option Mode) : Type 0 where
  pub fits : SuitsPlace there hand
  pub does : ModeAt there (mode_after c answer what)
  pub spinning : spins_after c answer (spins_at here) ≡ spins_at there
  pub few : HasFewAt there
  pub ended : IsEnd there → (answer ≡ reply.MainEnded) ⊎ (answer ≡ reply.AllAsleep)

-- Registers

pub some_of : {A : Type 0} (o : Option A) → is_some o ≡ true → (x : A) × (o ≡ Some x)
some_of None h = absurd (false≢true h)
some_of (Some x) h = (x, refl)

pub retold_some : (w : Woke) (o : Option (HeldParts Unit)) → is_some (retold w o) ≡ is_some o
retold_some w None = refl
retold_some w (Some h) = refl

gone_some : (o : Option (HeldParts Unit)) → is_some (called_from o) ≡ is_some o
gone_some None = refl
gone_some (Some h) = refl

returned_some : (number : ℕ) (o : Option (CalledParts Unit)) → is_some (running_again number o) ≡ is_some o
returned_some number None = refl
returned_some number (Some c) = refl

module _ (procs : ℕ) (fresh : Bool) (turns : ℕ) (aside : Option Aside) (t : Table) (hand : PlainHand) (what : Option Mode) where
  abbrev Landing : Call → Place → Reply → Type 0
  Landing c here answer =
      Lands procs here c answer (next_place (seen_of procs fresh turns aside (hand_after t c answer hand)) here (told.Replied answer)) (hand_after t c answer hand) what

  at_start : (answer : Reply) → CanReply call.Acquire answer → SuitsPlace place.Start hand → ModeAt place.Start what → Landing call.Acquire place.Start answer
  at_start (reply.Proc p) can f does = record { fits = record { has_processor = refl; has_held = f.has_held; has_called = f.has_called; has_to_claim = f.has_to_claim; has_to_store = f.has_to_store }; does = does; spinning = refl; few = tt; ended = λ e. absurd e }
  at_start reply.Nothing can f does = record { fits = f; does = does; spinning = refl; few = tt; ended = λ e. absurd e }
  at_start _ can f does = absurd can

  lands_aside : (here : Place) (c : Call) (answer : Reply) (a : Option Aside) → SuitsPlace place.Look hand → ModeAt place.Look (mode_after c answer what) → spins_after c answer (spins_at here) ≡ false → Lands procs here c answer (aside_at a) hand what
  lands_aside here c answer None f does spin = record { fits = f; does = does; spinning = spin; few = tt; ended = λ e. absurd e }
  lands_aside here c answer (Some (looks.Shelf v)) f does spin = record { fits = f; does = does; spinning = spin; few = tt; ended = λ e. absurd e }
  lands_aside here c answer (Some (looks.Queue v)) f does spin = record { fits = f; does = does; spinning = spin; few = tt; ended = λ e. absurd e }

  at_ticking : (now : ℕ) (answer : Reply) → CanReply (call.Tick now) answer → SuitsPlace (place.Ticking now) hand → ModeAt (place.Ticking now) what → Landing (call.Tick now) (place.Ticking now) answer
  at_ticking now (reply.Woke n) can f does = by_procs (procs == 1) where
    by_procs : (b : Bool) → Lands procs (place.Ticking now) (call.Tick now) (reply.Woke n) (if b then aside_at aside else place.Keep) hand what
    by_procs true = lands_aside (place.Ticking now) (call.Tick now) (reply.Woke n) aside f does refl
    by_procs false = record { fits = f; does = does; spinning = refl; few = tt; ended = λ e. absurd e }
  at_ticking now _ can f does = absurd can

  at_keep : (answer : Reply) → CanReply call.Keep answer → SuitsPlace place.Keep hand → ModeAt place.Keep what → Landing call.Keep place.Keep answer
  at_keep (reply.Answer true) can f does = lands_aside place.Keep call.Keep (reply.Answer true) aside f does refl
  at_keep (reply.Answer false) can f does = record { fits = f; does = does; spinning = refl; few = tt; ended = λ e. absurd e }
  at_keep _ can f does = absurd can

  at_glance : (answer : Reply) → CanReply call.Take answer → SuitsPlace place.Glance hand → ModeAt place.Glance what → Landing call.Take place.Glance answer
  at_glance (reply.Ticket r) can f does = record { fits = record { has_processor = f.has_processor; has_held = f.has_held; has_called = f.has_called; has_to_claim = refl; has_to_store = f.has_to_store }; does = does; spinning = refl; few = tt; ended = λ e. absurd e }
  at_glance reply.Nothing can f does = record { fits = f; does = does; spinning = refl; few = tt; ended = λ e. absurd e }
  at_glance _ can f does = absurd can

  after_global : (b : Bool) → SuitsPlace place.Global hand → ModeAt place.Global what → Lands procs place.Global call.Take reply.Nothing (if b then place.Drop else place.Spin) hand what
  after_global true f does = record { fits = f; does = does; spinning = refl; few = tt; ended = λ e. absurd e }
  after_global false f does = record { fits = f; does = does; spinning = refl; few = tt; ended = λ e. absurd e }

  at_global : (answer : Reply) → CanReply call.Take answer → SuitsPlace place.Global hand → ModeAt place.Global what → Landing call.Take place.Global answer
  at_global (reply.Ticket r) can f does = record { fits = record { has_processor = f.has_processor; has_held = f.has_held; has_called = f.has_called; has_to_claim = refl; has_to_store = f.has_to_store }; does = does; spinning = refl; few = tt; ended = λ e. absurd e }
  at_global reply.Nothing can f does = after_global (procs == 1) f does
  at_global _ can f does = absurd can

  at_spin : (answer : Reply) → CanReply call.Spin answer → SuitsPlace place.Spin hand → ModeAt place.Spin what → Landing call.Spin place.Spin answer
  at_spin (reply.Answer true) can f does = record { fits = f; does = does; spinning = refl; few = tt; ended = λ e. absurd e }
  at_spin (reply.Answer false) can f does = record { fits = f; does = does; spinning = refl; few = tt; ended = λ e. absurd e }
  at_spin _ can f does = absurd can

  at_poked : (answer : Reply) → CanReply call.Poke answer → SuitsPlace place.Claim hand → ModeAt place.Claim what → Landing call.Poke place.Claim answer
  at_poked (reply.Wakes k) can f does = record { fits = f; does = does; spinning = refl; few = tt; ended = λ e. absurd e }
  at_poked reply.Nothing can f does = record { fits = f; does = does; spinning = refl; few = tt; ended = λ e. absurd e }
  at_poked _ can f does = absurd can

  at_claim : (r : Readiness) (answer : Reply) → CanReply (call.Claim r) answer → SuitsPlace place.Claim hand → ModeAt place.Claim what → Landing (call.Claim r) place.Claim answer
  at_claim r reply.Held can f does = record { fits = record { has_processor = f.has_processor; has_held = refl; has_called = f.has_called; has_to_claim = refl; has_to_store = f.has_to_store }; does = does; spinning = refl; few = tt; ended = λ e. absurd e }
  at_claim r _ can f does = absurd can

  at_poke : (answer : Reply) → CanReply call.Poke answer → SuitsPlace place.Poke hand → ModeAt place.Poke what → Landing call.Poke place.Poke answer
  at_poke (reply.Wakes k) can f does = record { fits = f; does = does; spinning = refl; few = tt; ended = λ e. absurd e }
  at_poke reply.Nothing can f does = record { fits = f; does = does; spinning = refl; few = tt; ended = λ e. absurd e }
  at_poke _ can f does = absurd can

  at_leave : (number : ℕ) (answer : Reply) → CanReply (call.Leave number) answer → SuitsPlace (place.Leave number) hand → ModeAt (place.Leave number) what → Landing (call.Leave number) (place.Leave number) answer
  at_leave number (reply.Runs p) can f does = record { fits = record { has_processor = refl; has_held = returned_some number hand.called ∙ f.has_called; has_called = refl; has_to_claim = f.has_to_claim; has_to_store = f.has_to_store }; does = refl; spinning = refl; few = tt; ended = λ e. absurd e }
  at_leave number (reply.Shelved r) can f does = record { fits = record { has_processor = f.has_processor; has_held = f.has_held; has_called = refl; has_to_claim = f.has_to_claim; has_to_store = f.has_to_store }; does = refl; spinning = refl; few = tt; ended = λ e. absurd e }
  at_leave number _ can f does = absurd can

  at_drop : (answer : Reply) → CanReply call.Declare answer → SuitsPlace place.Drop hand → ModeAt place.Drop what → Landing call.Declare place.Drop answer
  at_drop (reply.Idle p) can f does = record { fits = record { has_processor = refl; has_held = f.has_held; has_called = f.has_called; has_to_claim = f.has_to_claim; has_to_store = f.has_to_store }; does = does; spinning = refl; few = tt; ended = λ e. absurd e }
  at_drop _ can f does = absurd can

  at_bare : (answer : Reply) → CanReply call.Bare answer → SuitsPlace place.Bare hand → ModeAt place.Bare what → Landing call.Bare place.Bare answer
  at_bare reply.Done can f does = record { fits = f; does = does; spinning = refl; few = tt; ended = λ e. absurd e }
  at_bare _ can f does = absurd can

  at_have : (answer : Reply) → CanReply call.Acquire answer → SuitsPlace place.Have hand → ModeAt place.Have what → Landing call.Acquire place.Have answer
  at_have (reply.Proc p) can f does = record { fits = record { has_processor = refl; has_held = f.has_held; has_called = f.has_called; has_to_claim = f.has_to_claim; has_to_store = f.has_to_store }; does = does; spinning = refl; few = tt; ended = λ e. absurd e }
  at_have reply.Nothing can f does = record { fits = f; does = does; spinning = refl; few = tt; ended = λ e. absurd e }
  at_have _ can f does = absurd can

  at_park : (answer : Reply) → CanReply call.Park answer → SuitsPlace place.Park hand → ModeAt place.Park what → Landing call.Park place.Park answer
  at_park reply.Parked can f does = record { fits = f; does = inr refl; spinning = refl; few = tt; ended = λ e. absurd e }
  at_park reply.Work can f does = record { fits = f; does = does; spinning = refl; few = tt; ended = λ e. absurd e }
  at_park (reply.Mind until) can f does = record { fits = f; does = does; spinning = refl; few = tt; ended = λ e. absurd e }
  at_park reply.LookAgain can f does = record { fits = f; does = does; spinning = refl; few = tt; ended = λ e. absurd e }
  at_park reply.AllAsleep can f does = record { fits = tt; does = does; spinning = refl; few = tt; ended = λ e. inr refl }
  at_park _ can f does = absurd can

  at_rest : (answer : Reply) → CanReply call.Woken answer → Awoke call.Woken answer what → SuitsPlace place.Rest hand → ModeAt place.Rest what → Landing call.Woken place.Rest answer
  at_rest (reply.Answer true) can awoke f does = record { fits = f; does = awoke; spinning = refl; few = tt; ended = λ e. absurd e }
  at_rest (reply.Answer false) can awoke f does = record { fits = f; does = does; spinning = refl; few = tt; ended = λ e. absurd e }
  at_rest _ can awoke f does = absurd can

  at_mind : (now : ℕ) (answer : Reply) → CanReply (call.Tick now) answer → SuitsPlace (place.MindTick now) hand → ModeAt (place.MindTick now) what → Landing (call.Tick now) (place.MindTick now) answer
  at_mind now (reply.Woke n) can f does = record { fits = f; does = does; spinning = refl; few = tt; ended = λ e. absurd e }
  at_mind now _ can f does = absurd can

  at_yield : (asked : Ask) (answer : Reply) → CanReply call.Yield answer → SuitsPlace (place.Do asked) hand → ModeAt (place.Do asked) what → Landing call.Yield (place.Do asked) answer
  at_yield asked (reply.Shelved r) can f does = record { fits = record { has_processor = f.has_processor; has_held = refl; has_called = f.has_called; has_to_claim = f.has_to_claim; has_to_store = f.has_to_store }; does = does; spinning = refl; few = tt; ended = λ e. absurd e }
  at_yield asked _ can f does = absurd can

  at_exit : (asked : Ask) (answer : Reply) → CanReply call.Exit answer → SuitsPlace (place.Do asked) hand → ModeAt (place.Do asked) what → Landing call.Exit (place.Do asked) answer
  at_exit asked reply.Dead can f does = record { fits = record { has_processor = f.has_processor; has_held = refl; has_called = f.has_called; has_to_claim = f.has_to_claim; has_to_store = f.has_to_store }; does = does; spinning = refl; few = tt; ended = λ e. absurd e }
  at_exit asked reply.MainEnded can f does = record { fits = tt; does = does; spinning = refl; few = tt; ended = λ e. inl refl }
  at_exit asked _ can f does = absurd can

  at_enter : (asked : Ask) (answer : Reply) → CanReply call.Enter answer → SuitsPlace (place.Do asked) hand → ModeAt (place.Do asked) what → Landing call.Enter (place.Do asked) answer
  at_enter asked (reply.Entered p n) can f does = record { fits = record { has_processor = refl; has_held = refl; has_called = gone_some hand.held ∙ f.has_held; has_to_claim = f.has_to_claim; has_to_store = f.has_to_store }; does = refl; spinning = refl; few = tt; ended = λ e. absurd e }
  at_enter asked _ can f does = absurd can

  -- a call of the goroutine that runs, by which it goes on or waits
  abbrev Going : Call → Ask → Reply → Type 0
  Going c asked answer =
      Lands procs (place.Do asked) c answer (next_place (seen_of procs fresh turns aside (left_by answer hand)) (place.Do asked) (told.Replied answer)) (left_by answer hand) what

  -- a close that woke somebody, or nobody
  closes : (c : Call) (asked : Ask) (n : ℕ) (b : Bool) → SuitsPlace (place.Do asked) hand → ModeAt (place.Do asked) (mode_after c (reply.Closed n) what) → spins_after c (reply.Closed n) false ≡ false
      → Lands procs (place.Do asked) c (reply.Closed n) (if b then place.Poke else place.Run) (left_by (reply.Closed n) hand) what
  closes c asked n true f does spin = record { fits = record { has_processor = f.has_processor; has_held = retold_some _ hand.held ∙ f.has_held; has_called = f.has_called; has_to_claim = f.has_to_claim; has_to_store = refl }; does = does; spinning = spin; few = tt; ended = λ e. absurd e }
  closes c asked n false f does spin = record { fits = record { has_processor = f.has_processor; has_held = retold_some _ hand.held ∙ f.has_held; has_called = f.has_called; has_to_claim = f.has_to_claim; has_to_store = refl }; does = does; spinning = spin; few = tt; ended = λ e. absurd e }

  -- a number, by which more processors are active than before, or not
  numbered : (c : Call) (asked : Ask) (n : ℕ) (b : Bool) → SuitsPlace (place.Do asked) hand → ModeAt (place.Do asked) (mode_after c (reply.Number n) what) → spins_after c (reply.Number n) false ≡ false
      → Lands procs (place.Do asked) c (reply.Number n) (if b then place.Poke else place.Run) (left_by (reply.Number n) hand) what
  numbered c asked n true f does spin = record { fits = record { has_processor = f.has_processor; has_held = retold_some _ hand.held ∙ f.has_held; has_called = f.has_called; has_to_claim = f.has_to_claim; has_to_store = refl }; does = does; spinning = spin; few = tt; ended = λ e. absurd e }
  numbered c asked n false f does spin = record { fits = record { has_processor = f.has_processor; has_held = retold_some _ hand.held ∙ f.has_held; has_called = f.has_called; has_to_claim = f.has_to_claim; has_to_store = refl }; does = does; spinning = spin; few = tt; ended = λ e. absurd e }

  at_goes : (c : Call) (asked : Ask) (answer : Reply) → Goes answer → SuitsPlace (place.Do asked) hand → ModeAt (place.Do asked) (mode_after c answer what)
      → spins_after c answer false ≡ false → Going c asked answer
  at_goes c asked (reply.Ticket r) can f does spin = record { fits = record { has_processor = f.has_processor; has_held = retold_some _ hand.held ∙ f.has_held; has_called = f.has_called; has_to_claim = f.has_to_claim; has_to_store = refl }; does = does; spinning = spin; few = tt; ended = λ e. absurd e }
  at_goes c asked (reply.Channel n) can f does spin = record { fits = record { has_processor = f.has_processor; has_held = retold_some _ hand.held ∙ f.has_held; has_called = f.has_called; has_to_claim = f.has_to_claim; has_to_store = refl }; does = does; spinning = spin; few = tt; ended = λ e. absurd e }
  at_goes c asked (reply.Sent None) can f does spin = record { fits = record { has_processor = f.has_processor; has_held = retold_some _ hand.held ∙ f.has_held; has_called = f.has_called; has_to_claim = f.has_to_claim; has_to_store = refl }; does = does; spinning = spin; few = tt; ended = λ e. absurd e }
  at_goes c asked (reply.Sent (Some r)) can f does spin = record { fits = record { has_processor = f.has_processor; has_held = retold_some _ hand.held ∙ f.has_held; has_called = f.has_called; has_to_claim = f.has_to_claim; has_to_store = refl }; does = does; spinning = spin; few = tt; ended = λ e. absurd e }
  at_goes c asked (reply.Got v sent None) can f does spin = record { fits = record { has_processor = f.has_processor; has_held = retold_some _ hand.held ∙ f.has_held; has_called = f.has_called; has_to_claim = f.has_to_claim; has_to_store = refl }; does = does; spinning = spin; few = tt; ended = λ e. absurd e }
  at_goes c asked (reply.Got v sent (Some x)) can f does spin = record { fits = record { has_processor = f.has_processor; has_held = retold_some _ hand.held ∙ f.has_held; has_called = f.has_called; has_to_claim = f.has_to_claim; has_to_store = refl }; does = does; spinning = spin; few = tt; ended = λ e. absurd e }
  at_goes c asked reply.Waits can f does spin = record { fits = record { has_processor = f.has_processor; has_held = refl; has_called = f.has_called; has_to_claim = f.has_to_claim; has_to_store = f.has_to_store }; does = does; spinning = spin; few = tt; ended = λ e. absurd e }
  at_goes c asked (reply.Closed n) can f does spin = closes c asked n (nat_lt 0 n) f does spin
  at_goes c asked (reply.Number n) can f does spin = numbered c asked n (raised n asked) f does spin
  at_goes c asked (reply.Chose i (taken.Sent None)) can f does spin = record { fits = record { has_processor = f.has_processor; has_held = retold_some _ hand.held ∙ f.has_held; has_called = f.has_called; has_to_claim = f.has_to_claim; has_to_store = refl }; does = does; spinning = spin; few = tt; ended = λ e. absurd e }
  at_goes c asked (reply.Chose i (taken.Sent (Some r))) can f does spin = record { fits = record { has_processor = f.has_processor; has_held = retold_some _ hand.held ∙ f.has_held; has_called = f.has_called; has_to_claim = f.has_to_claim; has_to_store = refl }; does = does; spinning = spin; few = tt; ended = λ e. absurd e }
  at_goes c asked (reply.Chose i (taken.Got v sent None)) can f does spin = record { fits = record { has_processor = f.has_processor; has_held = retold_some _ hand.held ∙ f.has_held; has_called = f.has_called; has_to_claim = f.has_to_claim; has_to_store = refl }; does = does; spinning = spin; few = tt; ended = λ e. absurd e }
  at_goes c asked (reply.Chose i (taken.Got v sent (Some x))) can f does spin = record { fits = record { has_processor = f.has_processor; has_held = retold_some _ hand.held ∙ f.has_held; has_called = f.has_called; has_to_claim = f.has_to_claim; has_to_store = refl }; does = does; spinning = spin; few = tt; ended = λ e. absurd e }
  at_goes c asked (reply.Chose i taken.Failed) can f does spin = record { fits = record { has_processor = f.has_processor; has_held = retold_some _ hand.held ∙ f.has_held; has_called = f.has_called; has_to_claim = f.has_to_claim; has_to_store = refl }; does = does; spinning = spin; few = tt; ended = λ e. absurd e }
  at_goes c asked reply.Default can f does spin = record { fits = record { has_processor = f.has_processor; has_held = retold_some _ hand.held ∙ f.has_held; has_called = f.has_called; has_to_claim = f.has_to_claim; has_to_store = refl }; does = does; spinning = spin; few = tt; ended = λ e. absurd e }
  at_goes c asked (reply.Fault fault) can f does spin = record { fits = record { has_processor = f.has_processor; has_held = retold_some _ hand.held ∙ f.has_held; has_called = f.has_called; has_to_claim = f.has_to_claim; has_to_store = refl }; does = does; spinning = spin; few = tt; ended = λ e. absurd e }
  at_goes c asked _ can f does spin = absurd can

-- The calls that use the ticket to store where there is one
module _ (procs : ℕ) (fresh : Bool) (turns : ℕ) (aside : Option Aside) (t : Table) (what : Option Mode) (p : Option (ProcParts Unit)) (h : Option (HeldParts Unit)) (c : Option (CalledParts Unit)) (found : Option Readiness) where
  abbrev held_with : Option Readiness → PlainHand
  held_with s = record { processor = p; held = h; called = c; to_claim = found; to_store = s }

  at_put_more : (v : PNo) (goal : ℕ) (r : Readiness) (s : Option Readiness) (answer : Reply) → CanReply (call.Put r) answer → SuitsPlace (place.PutMore v goal) (held_with s) → ModeAt (place.PutMore v goal) what → Landing procs fresh turns aside t (held_with s) what (call.Put r) (place.PutMore v goal) answer
  at_put_more v zero r (Some s) reply.Shelf can f does = record { fits = record { has_processor = f.has_processor; has_held = f.has_held; has_called = f.has_called; has_to_claim = refl; has_to_store = refl }; does = does; spinning = refl; few = tt; ended = λ e. absurd e }
  at_put_more v (suc goal) r (Some s) reply.Shelf can f does = record { fits = record { has_processor = f.has_processor; has_held = f.has_held; has_called = f.has_called; has_to_claim = f.has_to_claim; has_to_store = refl }; does = does; spinning = refl; few = tt; ended = λ e. absurd e }
  at_put_more v goal r None reply.Shelf can f does = absurd (false≢true f.has_to_store)
  at_put_more v goal r s _ can f does = absurd can

  at_put_store : (r : Readiness) (s : Option Readiness) (answer : Reply) → CanReply (call.Put r) answer → SuitsPlace place.PutStore (held_with s) → ModeAt place.PutStore what → Landing procs fresh turns aside t (held_with s) what (call.Put r) place.PutStore answer
  at_put_store r (Some s) reply.Shelf can f does = record { fits = record { has_processor = f.has_processor; has_held = f.has_held; has_called = f.has_called; has_to_claim = f.has_to_claim; has_to_store = refl }; does = does; spinning = refl; few = tt; ended = λ e. absurd e }
  at_put_store r None reply.Shelf can f does = absurd (false≢true f.has_to_store)
  at_put_store r s _ can f does = absurd can

  at_put_drain : (r : Readiness) (s : Option Readiness) (answer : Reply) → CanReply (call.Put r) answer → SuitsPlace place.PutDrain (held_with s) → ModeAt place.PutDrain what → Landing procs fresh turns aside t (held_with s) what (call.Put r) place.PutDrain answer
  at_put_drain r (Some s) reply.Shelf can f does = record { fits = record { has_processor = f.has_processor; has_held = f.has_held; has_called = f.has_called; has_to_claim = f.has_to_claim; has_to_store = refl }; does = does; spinning = refl; few = tt; ended = λ e. absurd e }
  at_put_drain r None reply.Shelf can f does = absurd (false≢true f.has_to_store)
  at_put_drain r s _ can f does = absurd can

  at_put_have : (r : Readiness) (s : Option Readiness) (answer : Reply) → CanReply (call.Put r) answer → SuitsPlace place.PutHave (held_with s) → ModeAt place.PutHave what → Landing procs fresh turns aside t (held_with s) what (call.Put r) place.PutHave answer
  at_put_have r None reply.Shelf can f does = by_late (is_late (seen_of procs fresh turns aside (record { processor = p; held = h; called = c; to_claim = None; to_store = None }))) where
    by_late : (b : Bool) → Lands procs place.PutHave (call.Put r) reply.Shelf (if b then place.Start else place.Bare) (record { processor = p; held = h; called = c; to_claim = None; to_store = None }) what
    by_late true = record { fits = record { has_processor = f.has_processor; has_held = f.has_held; has_called = f.has_called; has_to_claim = refl; has_to_store = f.has_to_store }; does = does; spinning = refl; few = tt; ended = λ e. absurd e }
    by_late false = record { fits = record { has_processor = f.has_processor; has_held = f.has_held; has_called = f.has_called; has_to_claim = refl; has_to_store = f.has_to_store }; does = does; spinning = refl; few = tt; ended = λ e. absurd e }
  at_put_have r (Some s) reply.Shelf can f does = absurd (false≢true (sym f.has_to_store))
  at_put_have r s _ can f does = absurd can
  -- the ticket to claim decides

at_unspin : (procs : ℕ) (fresh : Bool) (turns : ℕ) (aside : Option Aside) (t : Table) (what : Option Mode) (p : Option (ProcParts Unit)) (h : Option (HeldParts Unit)) (c : Option (CalledParts Unit)) (found s : Option Readiness)
    (answer : Reply) → CanReply call.Unspin answer → SuitsPlace place.Unspin (held_with procs fresh turns aside t what p h c found s) → ModeAt place.Unspin what
    → Landing procs fresh turns aside t (held_with procs fresh turns aside t what p h c found s) what call.Unspin place.Unspin answer
at_unspin procs fresh turns aside t what p h c None s reply.Done can f does = record { fits = f; does = does; spinning = refl; few = tt; ended = λ e. absurd e }
at_unspin procs fresh turns aside t what p h c (Some r) s reply.Done can f does = record { fits = f; does = does; spinning = refl; few = tt; ended = λ e. absurd e }
at_unspin procs fresh turns aside t what p h c found s _ can f does = absurd can

-- What a call's answer leads to
module _ (procs : ℕ) (fresh : Bool) (turns : ℕ) (aside : Option Aside) (t : Table) (hand : PlainHand) (what : Option Mode) where
  abbrev All : Place → Reply → Call → Type 0
  All here answer c = CanReply c answer → Awoke c answer what → Landing procs fresh turns aside t hand what c here answer

  at_do : (asked : Ask) (answer : Reply) → CanReply (call_for asked) answer → SuitsPlace (place.Do asked) hand → ModeAt (place.Do asked) what
      → Landing procs fresh turns aside t hand what (call_for asked) (place.Do asked) answer
  at_do ask.Yield answer k f does = at_yield procs fresh turns aside t hand what ask.Yield answer k f does
  at_do ask.Exit answer k f does = at_exit procs fresh turns aside t hand what ask.Exit answer k f does
  at_do ask.Block answer k f does = at_enter procs fresh turns aside t hand what ask.Block answer k f does
  at_do asked answer k f does = at_goes procs fresh turns aside t hand what (call_for asked) asked answer k f does refl

  pub lands : (here : Place) (c : Call) (answer : Reply) → act_at (seen_of procs fresh turns aside hand) here ≡ act.Call c → SuitsPlace here hand → ModeAt here what
      → CanReply c answer → Awoke c answer what → Landing procs fresh turns aside t hand what c here answer
  lands place.Start c answer is f does can awoke = subst (All place.Start answer) (call_is call.Acquire c is) (λ k a. at_start procs fresh turns aside t hand what answer k f does) can awoke
  lands place.Look c answer is f does can awoke = absurd (look_calls (nat_le 16 turns) c is)
  lands (place.Ticking now) c answer is f does can awoke = subst (All (place.Ticking now) answer) (call_is (call.Tick now) c is) (λ k a. at_ticking procs fresh turns aside t hand what now answer k f does) can awoke
  lands place.Keep c answer is f does can awoke = subst (All place.Keep answer) (call_is call.Keep c is) (λ k a. at_keep procs fresh turns aside t hand what answer k f does) can awoke
  lands place.Glance c answer is f does can awoke = subst (All place.Glance answer) (call_is call.Take c is) (λ k a. at_glance procs fresh turns aside t hand what answer k f does) can awoke
  lands (place.Peek v) c answer is f does can awoke = absurd (let no : ⊥ = cc in no)
  lands place.Drain c answer is f does can awoke = absurd (let no : ⊥ = cc in no)
  lands place.PutDrain c answer is f does can awoke = (let w = put_calls hand.to_store c is in subst (All place.PutDrain answer) w.2 (λ k a. at_put_drain procs fresh turns aside t what hand.processor hand.held hand.called hand.to_claim w.0 hand.to_store answer k f does) can awoke)
  lands place.Global c answer is f does can awoke = subst (All place.Global answer) (call_is call.Take c is) (λ k a. at_global procs fresh turns aside t hand what answer k f does) can awoke
  lands place.Spin c answer is f does can awoke = subst (All place.Spin answer) (call_is call.Spin c is) (λ k a. at_spin procs fresh turns aside t hand what answer k f does) can awoke
  lands (place.PutMore v goal) c answer is f does can awoke = (let w = put_calls hand.to_store c is in subst (All (place.PutMore v goal) answer) w.2 (λ k a. at_put_more procs fresh turns aside t what hand.processor hand.held hand.called hand.to_claim v goal w.0 hand.to_store answer k f does) can awoke)
  lands place.Unspin c answer is f does can awoke = subst (All place.Unspin answer) (call_is call.Unspin c is) (λ k a. at_unspin procs fresh turns aside t what hand.processor hand.held hand.called hand.to_claim hand.to_store answer k f does) can awoke
  lands place.Claim c answer is f does can awoke = elim (claim_calls fresh hand.to_claim c is) [ inl w ↦ subst (All place.Claim answer) w (λ k a. at_poked procs fresh turns aside t hand what answer k f does) can awoke | inr w ↦ subst (All place.Claim answer) w.2 (λ k a. at_claim procs fresh turns aside t hand what w.0 answer k f does) can awoke ]
  lands (place.Do asked) c answer is f does can awoke = subst (All (place.Do asked) answer) (call_is (call_for asked) c is) (λ k a. at_do asked answer k f does) can awoke
  lands place.PutStore c answer is f does can awoke = (let w = put_calls hand.to_store c is in subst (All place.PutStore answer) w.2 (λ k a. at_put_store procs fresh turns aside t what hand.processor hand.held hand.called hand.to_claim w.0 hand.to_store answer k f does) can awoke)
  lands place.Poke c answer is f does can awoke = subst (All place.Poke answer) (call_is call.Poke c is) (λ k a. at_poke procs fresh turns aside t hand what answer k f does) can awoke
  lands (place.Leave number) c answer is f does can awoke = subst (All (place.Leave number) answer) (call_is (call.Leave number) c is) (λ k a. at_leave procs fresh turns aside t hand what number answer k f does) can awoke
  lands place.Drop c answer is f does can awoke = subst (All place.Drop answer) (call_is call.Declare c is) (λ k a. at_drop procs fresh turns aside t hand what answer k f does) can awoke
  lands place.Bare c answer is f does can awoke = subst (All place.Bare answer) (call_is call.Bare c is) (λ k a. at_bare procs fresh turns aside t hand what answer k f does) can awoke
  lands place.Have c answer is f does can awoke = subst (All place.Have answer) (call_is call.Acquire c is) (λ k a. at_have procs fresh turns aside t hand what answer k f does) can awoke
  lands place.PutHave c answer is f does can awoke = (let w = put_calls hand.to_claim c is in subst (All place.PutHave answer) w.2 (λ k a. at_put_have procs fresh turns aside t what hand.processor hand.held hand.called hand.to_claim w.0 hand.to_store answer k f does) can awoke)
  lands place.Park c answer is f does can awoke = subst (All place.Park answer) (call_is call.Park c is) (λ k a. at_park procs fresh turns aside t hand what answer k f does) can awoke
  lands place.Rest c answer is f does can awoke = subst (All place.Rest answer) (call_is call.Woken c is) (λ k a. at_rest procs fresh turns aside t hand what answer k a f does) can awoke
  lands (place.MindTick now) c answer is f does can awoke = subst (All (place.MindTick now) answer) (call_is (call.Tick now) c is) (λ k a. at_mind procs fresh turns aside t hand what now answer k f does) can awoke
  lands (place.Hunt None) c answer is f does can awoke = absurd (let no : ⊥ = cc in no)
  lands (place.Hunt (Some r)) c answer is f does can awoke = absurd (let no : ⊥ = cc in no)
  lands (place.More v goal) c answer is f does can awoke = absurd (let no : ⊥ = cc in no)
  lands (place.StoreMore v goal) c answer is f does can awoke = absurd (let no : ⊥ = cc in no)
  lands place.Run c answer is f does can awoke = absurd (let no : ⊥ = cc in no)
  lands place.Store c answer is f does can awoke = absurd (let no : ⊥ = cc in no)
  lands place.Block c answer is f does can awoke = absurd (let no : ⊥ = cc in no)
  lands (place.Scan v) c answer is f does can awoke = absurd (let no : ⊥ = cc in no)
  lands (place.Mind deadline) c answer is f does can awoke = absurd (let no : ⊥ = cc in no)
  lands place.Over c answer is f does can awoke = absurd (let no : ⊥ = cc in no)
  lands place.Done c answer is f does can awoke = absurd (let no : ⊥ = cc in no)
