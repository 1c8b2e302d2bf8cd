-- What a call finds in the registers, by place.
use Rattle.std.proofs.Common.{◌≡◌, ◌⊎◌, inl, inr, ℕ, Bool, true, false, if◌then◌else◌, nat_le, is_some, Option, None, Some, refl, sym, ap, subst, ◌∙◌}
use Rattle.std.proofs.lemmas.Bool.{false≢true}
use Rattle.gmp_base.specs.declared.ask.Ask.{Ask}
use Rattle.gmp_base.specs.declared.ask.Ask.TheVariants as ask
use Rattle.gmp_base.specs.declared.number.Readiness.{Readiness}
use Rattle.gmp_seq.specs.declared.call.Call.{Call}
use Rattle.gmp_seq.specs.declared.call.Call.TheVariants as call
use Rattle.gmp_driver.specs.declared.act.Act.TheVariants as act
use Rattle.gmp_driver.specs.declared.place.Aside.{Aside}
use Rattle.gmp_driver.specs.declared.place.Place.{Place}
use Rattle.gmp_driver.specs.declared.place.Place.TheVariants as place
use Rattle.gmp_driver.specs.declared.registers.Registers.{Registers}
use Rattle.gmp_driver.specs.Fits.{SuitsPlace, Runs}
use Rattle.gmp_driver.specs.Machine.{Machine}
use Rattle.gmp_driver.specs.Registers.{first_of}
use Rattle.gmp_driver.specs.Seen.{seen_of}
use Rattle.gmp_driver.specs.Table.{act_at, call_for, claim_call, next_act, put_call}
use Rattle.gmp_driver.specs.Uses.{Uses}

pub none_of : {A : Type 0} (o : Option A) → is_some o ≡ false → o ≡ None
none_of None h = refl
none_of (Some x) h = absurd (false≢true (sym h))

pub call_is : (c d : Call) → act.Call c ≡ act.Call d → c ≡ d
call_is c d e = cc

pub look_calls : (b : Bool) (c : Call) → (if b then act.Clock None else act.Pop) ≡ act.Call c → ⊥
look_calls true c e = cc
look_calls false c e = cc

pub put_calls : (o : Option Readiness) (c : Call) → put_call o ≡ act.Call c → (r : Readiness) × (o ≡ Some r) × (call.Put r ≡ c)
put_calls None c e = absurd cc
put_calls (Some r) c e = (r, refl, call_is (call.Put r) c e)

pub claim_calls : (b : Bool) (o : Option Readiness) (c : Call) → (if b then act.Call call.Poke else claim_call o) ≡ act.Call c
    → (call.Poke ≡ c) ⊎ ((r : Readiness) × (o ≡ Some r) × (call.Claim r ≡ c))
claim_calls true o c e = inl (call_is call.Poke c e)
claim_calls false None c e = absurd cc
claim_calls false (Some r) c e = inr (r, refl, call_is (call.Claim r) c e)

module _ {T Q : Type 0} (procs : ℕ) (fresh : Bool) (turns : ℕ) (aside : Option Aside) (hand : Registers T Q) where
  -- the call is this one
  is_the : (d c : Call) → act.Call d ≡ act.Call c → Uses d hand → Uses c hand
  is_the d c is by = subst (λ (q : Call). Uses q hand) (call_is d c is) by

  -- a ticket that is put onto the shelf
  puts : (o : Option Readiness) (c : Call) → put_call o ≡ act.Call c → first_of hand.to_store hand.to_claim ≡ o → Uses c hand
  puts o c is first = (let w = put_calls o c is in subst (λ (q : Call). Uses q hand) w.2 (first ∙ w.1))

  asks : (asked : Ask) → Runs hand → Uses (call_for asked) hand
  asks ask.Block f = (f.has_held, f.has_processor, none_of hand.called f.has_called)
  asks ask.Yield f = (f.has_held, none_of hand.called f.has_called, none_of hand.to_store f.has_to_store)
  asks (ask.Go g) f = (f.has_held, none_of hand.called f.has_called, none_of hand.to_store f.has_to_store)
  asks ask.Spawn f = (f.has_held, none_of hand.called f.has_called, none_of hand.to_store f.has_to_store)
  asks (ask.Make capacity) f = (f.has_held, none_of hand.called f.has_called, none_of hand.to_store f.has_to_store)
  asks (ask.Send n v) f = (f.has_held, none_of hand.called f.has_called, none_of hand.to_store f.has_to_store)
  asks (ask.Recv n) f = (f.has_held, none_of hand.called f.has_called, none_of hand.to_store f.has_to_store)
  asks (ask.Close n) f = (f.has_held, none_of hand.called f.has_called, none_of hand.to_store f.has_to_store)
  asks (ask.Len n) f = (f.has_held, none_of hand.called f.has_called, none_of hand.to_store f.has_to_store)
  asks (ask.Cap n) f = (f.has_held, none_of hand.called f.has_called, none_of hand.to_store f.has_to_store)
  asks (ask.Select cases has_default until) f = (f.has_held, none_of hand.called f.has_called, none_of hand.to_store f.has_to_store)
  asks (ask.Sleep until) f = (f.has_held, none_of hand.called f.has_called, none_of hand.to_store f.has_to_store)
  asks (ask.Procs n) f = (f.has_held, none_of hand.called f.has_called, none_of hand.to_store f.has_to_store)
  asks ask.Park f = (f.has_held, none_of hand.called f.has_called, none_of hand.to_store f.has_to_store)
  asks (ask.Ready g) f = (f.has_held, none_of hand.called f.has_called, none_of hand.to_store f.has_to_store)
  asks ask.Exit f = (f.has_held, none_of hand.called f.has_called, none_of hand.to_store f.has_to_store)

  stored : (o : Option Readiness) → o ≡ hand.to_store → is_some o ≡ true → first_of hand.to_store hand.to_claim ≡ hand.to_store
  stored None at is = absurd (false≢true is)
  stored (Some r) at is = rw (← at) refl

  pub uses_at : (here : Place) (c : Call) → act_at (seen_of procs fresh turns aside hand) here ≡ act.Call c → SuitsPlace here hand → Uses c hand
  uses_at place.Start c is f = is_the call.Acquire c is (none_of hand.processor f.has_processor)
  uses_at place.Look c is f = absurd (look_calls (nat_le 16 turns) c is)
  uses_at (place.Ticking now) c is f = is_the (call.Tick now) c is tt
  uses_at place.Keep c is f = is_the call.Keep c is f.has_processor
  uses_at place.Glance c is f = is_the call.Take c is (none_of hand.to_claim f.has_to_claim)
  uses_at (place.Peek v) c is f = absurd (let no : ⊥ = cc in no)
  uses_at place.Drain c is f = absurd (let no : ⊥ = cc in no)
  uses_at place.PutDrain c is f = puts hand.to_store c is (stored hand.to_store refl f.has_to_store)
  uses_at place.Global c is f = is_the call.Take c is (none_of hand.to_claim f.has_to_claim)
  uses_at place.Spin c is f = is_the call.Spin c is (none_of hand.held f.has_held, none_of hand.called f.has_called)
  uses_at (place.PutMore v goal) c is f = puts hand.to_store c is (stored hand.to_store refl f.has_to_store)
  uses_at place.Unspin c is f = is_the call.Unspin c is tt
  uses_at place.Claim c is f = elim (claim_calls fresh hand.to_claim c is) [ inl w ↦ subst (λ (q : Call). Uses q hand) w tt | inr w ↦ subst (λ (q : Call). Uses q hand) w.2 (w.1, none_of hand.held f.has_held, none_of hand.called f.has_called, f.has_processor) ]
  uses_at (place.Do asked) c is f = is_the (call_for asked) c is (asks asked f)
  uses_at place.PutStore c is f = puts hand.to_store c is (stored hand.to_store refl f.has_to_store)
  uses_at place.Poke c is f = is_the call.Poke c is tt
  uses_at (place.Leave number) c is f = is_the (call.Leave number) c is (f.has_called, none_of hand.held f.has_held, none_of hand.processor f.has_processor)
  uses_at place.Drop c is f = is_the call.Declare c is (none_of hand.held f.has_held, none_of hand.called f.has_called, f.has_processor)
  uses_at place.Bare c is f = is_the call.Bare c is (none_of hand.processor f.has_processor)
  uses_at place.Have c is f = is_the call.Acquire c is (none_of hand.processor f.has_processor)
  uses_at place.PutHave c is f = puts hand.to_claim c is (ap (λ (o : Option Readiness). first_of o hand.to_claim) (none_of hand.to_store f.has_to_store))
  uses_at place.Park c is f = is_the call.Park c is (none_of hand.processor f.has_processor)
  uses_at place.Rest c is f = is_the call.Woken c is tt
  uses_at (place.MindTick now) c is f = is_the (call.Tick now) c is tt
  uses_at (place.Hunt None) c is f = absurd (let no : ⊥ = cc in no)
  uses_at (place.Hunt (Some r)) c is f = absurd (let no : ⊥ = cc in no)
  uses_at (place.More v goal) c is f = absurd (let no : ⊥ = cc in no)
  uses_at (place.StoreMore v goal) c is f = absurd (let no : ⊥ = cc in no)
  uses_at place.Run c is f = absurd (let no : ⊥ = cc in no)
  uses_at place.Store c is f = absurd (let no : ⊥ = cc in no)
  uses_at place.Block c is f = absurd (let no : ⊥ = cc in no)
  uses_at (place.Scan v) c is f = absurd (let no : ⊥ = cc in no)
  uses_at (place.Mind deadline) c is f = absurd (let no : ⊥ = cc in no)
  uses_at place.Over c is f = absurd (let no : ⊥ = cc in no)
  uses_at place.Done c is f = absurd (let no : ⊥ = cc in no)

pub uses : {T Q : Type 0} (x : Machine T Q) (c : Call) → next_act x ≡ act.Call c → SuitsPlace x.place x.hand → Uses c x.hand
uses x c is f = uses_at x.procs x.fresh x.turns x.aside x.hand x.place c is f
