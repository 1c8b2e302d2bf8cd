-- Acts at local queues: what they find in the registers, and that what came of them can be told where they are made in place.
use Rattle.std.proofs.Common.{◌≡◌, ℕ, Bool, true, false, if◌then◌else◌, nat_le, is_some, Option, None, Some, refl, sym, ap, subst, ◌∙◌}
use Rattle.std.specs.Option.{option_map}
use Rattle.gmp_base.specs.declared.number.Readiness.{Readiness}
use Rattle.gmp_seq.specs.declared.call.Call.TheVariants as call
use Rattle.gmp_driver.specs.declared.act.Act.{Act}
use Rattle.gmp_driver.specs.declared.act.Act.TheVariants as act
use Rattle.gmp_driver.specs.declared.act.Told.{Told}
use Rattle.gmp_driver.specs.declared.act.Told.TheVariants as told
use Rattle.gmp_driver.specs.declared.act.Tried.{Tried}
use Rattle.gmp_driver.specs.declared.act.Tried.TheVariants as tried
use Rattle.gmp_driver.specs.declared.place.Place.{Place}
use Rattle.gmp_driver.specs.declared.place.Place.TheVariants as place
use Rattle.gmp_driver.specs.declared.registers.ProcParts.{ProcParts}
use Rattle.gmp_driver.specs.declared.registers.Registers.{Registers}
use Rattle.gmp_driver.specs.declared.seen.Seen.{Seen}
use Rattle.gmp_driver.specs.Fits.{SuitsPlace}
use Rattle.gmp_driver.specs.Local.{Filled, IsSteal, MayCome, come_back, filled, filled_with_stolen, pop_for, popped_for, tells}
use Rattle.gmp_driver.specs.Machine.{Machine}
use Rattle.gmp_driver.specs.Own.{with_owner, with_found}
use Rattle.gmp_driver.specs.Seen.{seen}
use Rattle.gmp_driver.specs.Table.{act_at, after, claim_call, next_act, put_call}
use Rattle.gmp_driver.proofs.Local.{suits_then}

-- In the registers

module _ {T Q : Type 0} (s : Seen) (hand : Registers T Q) where
  abbrev pub Finds : Act → Type 0
  Finds act.Pop = (is_some hand.processor ≡ true) × (is_some hand.to_claim ≡ false)
  Finds act.Drain = is_some hand.processor ≡ true
  Finds act.Push = (is_some hand.processor ≡ true) × (is_some hand.to_store ≡ true)
  Finds _ = Unit {0}

  looks : (b : Bool) → SuitsPlace place.Look hand → Finds (if b then act.Clock None else act.Pop)
  looks true f = tt
  looks false f = (f.has_processor, f.has_to_claim)

  puts : (o : Option Readiness) → Finds (put_call o)
  puts None = tt
  puts (Some r) = tt

  claims : (b : Bool) (o : Option Readiness) → Finds (if b then act.Call call.Poke else claim_call o)
  claims true o = tt
  claims false None = tt
  claims false (Some r) = tt

  finds : (here : Place) → SuitsPlace here hand → Finds (act_at s here)
  finds place.Look f = looks (nat_le 16 s.turns) f
  finds place.Drain f = f.has_processor
  finds place.PutDrain f = puts s.to_store
  finds (place.Hunt None) f = tt
  finds (place.Hunt (Some r)) f = tt
  finds (place.StoreMore v goal) f = (f.has_processor, f.has_to_store)
  finds (place.PutMore v goal) f = puts s.to_store
  finds place.Claim f = claims s.fresh s.to_claim
  finds place.Store f = (f.has_processor, f.has_to_store)
  finds place.PutStore f = puts s.to_store
  finds place.PutHave f = puts s.to_claim
  finds _ f = tt

found_by : {T Q : Type 0} (x : Machine T Q) (a : Act) → next_act x ≡ a → SuitsPlace x.place x.hand → Finds (seen x) x.hand a
found_by x a is fits = subst (Finds (seen x) x.hand) is (finds (seen x) x.hand x.place fits)

pub pop_finds : {T Q : Type 0} (x : Machine T Q) (b : Bool) → next_act x ≡ pop_for b → SuitsPlace x.place x.hand → is_some x.hand.processor ≡ true
pop_finds x false is fits = (found_by x act.Pop is fits).0
pop_finds x true is fits = found_by x act.Drain is fits

pub push_finds : {T Q : Type 0} (x : Machine T Q) → next_act x ≡ act.Push → SuitsPlace x.place x.hand → (is_some x.hand.processor ≡ true) × (is_some x.hand.to_store ≡ true)
push_finds x is fits = found_by x act.Push is fits

-- Which registers are filled then

still : {A B : Type 0} (f : A → B) (o : Option A) → is_some (option_map f o) ≡ is_some o
still f None = refl
still f (Some a) = refl

module _ {T Q : Type 0} where
  pub owner_filled : (owner : Q) (hand : Registers T Q) → filled (with_owner owner hand) ≡ filled hand
  owner_filled owner hand = ap (λ (b : Bool). record (filled hand) { processor = b }) (still (λ (y : ProcParts Q). record y { owner = owner }) hand.processor)

  pub ticket_filled : (r : Readiness) (is_to_store : Bool) (hand : Registers T Q) → filled (with_found r is_to_store hand) ≡ filled_with_stolen is_to_store (filled hand)
  ticket_filled r false hand = refl
  ticket_filled r true hand = refl

-- What came of the act can be told

module _ {T Q : Type 0} (x : Machine T Q) (fits : SuitsPlace x.place x.hand) where
  abbrev pub Suits : Registers T Q → Told → Type 0
  Suits hand what = SuitsPlace (after (record x { hand = hand }) what).place hand

  by : (a : Act) (what : Told) (hand : Registers T Q) → next_act x ≡ a → MayCome a what → filled hand ≡ come_back what (is_some x.hand.to_claim) (filled x.hand) → Suits hand what
  by a what hand is m e = suits_then x what hand fits (subst (λ (b : Act). MayCome b what) (sym is) m) e

  pub pop_found : (b : Bool) (hand : Registers T Q) → next_act x ≡ pop_for b → filled hand ≡ filled_with_stolen b (filled x.hand) → Suits hand (popped_for b)
  pop_found false hand is e = by act.Pop told.Got hand is tt e
  pop_found true hand is e = by act.Drain told.Drained hand is tt e

  pub pop_none : (b : Bool) (hand : Registers T Q) → next_act x ≡ pop_for b → filled hand ≡ filled x.hand → Suits hand told.Empty
  pop_none false hand is e = by act.Pop told.Empty hand is tt e
  pop_none true hand is e = by act.Drain told.Empty hand is tt e

  pub push_done : (hand : Registers T Q) → next_act x ≡ act.Push → filled hand ≡ record (filled x.hand) { to_store = false } → Suits hand told.Pushed
  push_done hand is e = by act.Push told.Pushed hand is tt e

  pub push_refused : (hand : Registers T Q) → next_act x ≡ act.Push → filled hand ≡ filled x.hand → Suits hand told.PushRefused
  push_refused hand is e = by act.Push told.PushRefused hand is tt e

  -- of a steal anything may come that is told of one
  may_steal : (a : Act) (drawn : Option ℕ) (how : Tried) → IsSteal a drawn → MayCome a (tells drawn how)
  may_steal act.Hunt (Some word) how is = tt
  may_steal act.Hunt None how is = absurd is
  may_steal (act.Steal v) None how is = tt
  may_steal (act.Steal v) (Some word) how is = absurd is
  may_steal _ drawn how is = absurd is

  -- what a steal that came to this leaves filled
  abbrev left_by : Tried → Filled
  left_by how = come_back (told.Tried how) (is_some x.hand.to_claim) (filled x.hand)

  drawn_alike : (drawn : Option ℕ) (how : Tried) → left_by how ≡ come_back (tells drawn how) (is_some x.hand.to_claim) (filled x.hand)
  drawn_alike None how = refl
  drawn_alike (Some word) (tried.Got hint) = refl
  drawn_alike (Some word) tried.Empty = refl
  drawn_alike (Some word) tried.Unsure = refl

  pub steal_tried : (drawn : Option ℕ) (how : Tried) (hand : Registers T Q) → IsSteal (next_act x) drawn → filled hand ≡ left_by how → Suits hand (tells drawn how)
  steal_tried drawn how hand is e = suits_then x (tells drawn how) hand fits (may_steal (next_act x) drawn how is) (e ∙ drawn_alike drawn how)
