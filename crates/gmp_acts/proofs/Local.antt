-- Where acts on local queues, bodies and the clock lead: by place what the machine does then, and by gmp_driver what it holds.
use Rattle.std.proofs.Common.{◌≡◌, ℕ, zero, suc, Bool, true, false, if◌then◌else◌, nat_le, is_some, Option, None, Some, refl, sym, ap, subst, ◌∙◌}
use Rattle.gmp_base.specs.declared.ask.Ask.{Ask}
use Rattle.gmp_base.specs.declared.ask.Ask.TheVariants as ask
use Rattle.gmp_base.specs.declared.number.PNo.{PNo}
use Rattle.gmp_base.specs.declared.number.Readiness.{Readiness}
use Rattle.gmp_seq.specs.declared.call.Call.TheVariants as call
use Rattle.gmp_seq.specs.declared.status.Mode.{Mode}
use Rattle.gmp_driver.proofs.Local.{can_be_told, suits_then}
use Rattle.gmp_driver.proofs.Parts.{whole}
use Rattle.gmp_driver.proofs.Uses.{none_of}
use Rattle.gmp_driver.specs.declared.act.Act.{Act}
use Rattle.gmp_driver.specs.declared.act.Act.TheVariants as act
use Rattle.gmp_driver.specs.declared.act.Told.{Told}
use Rattle.gmp_driver.specs.declared.act.Told.TheVariants as told
use Rattle.gmp_driver.specs.declared.act.Tried.{Tried}
use Rattle.gmp_driver.specs.declared.act.Tried.TheVariants as tried
use Rattle.gmp_driver.specs.declared.place.Place.{Place}
use Rattle.gmp_driver.specs.declared.place.Place.TheVariants as place
use Rattle.gmp_driver.specs.declared.place.Round.{Round}
use Rattle.gmp_driver.specs.declared.seen.Seen.{Seen}
use Rattle.gmp_driver.specs.Fits.{SuitsPlace}
use Rattle.gmp_driver.specs.Hunt.{begun, hunted, more}
use Rattle.gmp_driver.specs.Local.{MayCome, come_back, filled, filled_with_stolen}
use Rattle.gmp_driver.specs.Registers.{joined, unused, used}
use Rattle.gmp_driver.specs.Table.{act_at, after, call_for, claim_call, next_act, next_place, put_call, is_late}
use Rattle.gmp_acts.specs.Acts.{HasFewCases, with_ticket}
use Rattle.gmp_acts.specs.Hands.{PlainHand, PlainMachine}
use Rattle.gmp_acts.specs.Sound.{HasFewAt, IsEnd, ModeAt, spins_at}

-- By place

-- the book says no more of the machine at the next place than at this one
pub record Leads (here there : Place) (what : Option Mode) : Type 0 where
  pub does : ModeAt here what → ModeAt there what
  pub spinning : spins_at here ≡ spins_at there
  pub few : HasFewAt there
  pub ended : IsEnd there → ⊥

-- an ask of at most 8 cases
abbrev pub FewTold : Told → Type 0
FewTold (told.Asked asked) = HasFewCases asked
FewTold how = Unit {0}

pub no_put : (o : Option Readiness) (how : Told) → MayCome (put_call o) how → ⊥
no_put None how m = m
no_put (Some r) how m = m

pub no_claim : (b : Bool) (o : Option Readiness) (how : Told) → MayCome (if b then act.Call call.Poke else claim_call o) how → ⊥
no_claim true o how m = m
no_claim false None how m = m
no_claim false (Some r) how m = m

module _ (what : Option Mode) where
  looked : (s : Seen) (b : Bool) (how : Told) → MayCome (if b then act.Clock None else act.Pop) how → Leads place.Look (next_place s place.Look how) what
  looked s true (told.Moment now) m = record { does = λ d. d; spinning = refl; few = tt; ended = λ e. e }
  looked s true _ m = absurd m
  looked s false told.Got m = record { does = λ d. d; spinning = refl; few = tt; ended = λ e. e }
  looked s false told.Empty m = record { does = λ d. d; spinning = refl; few = tt; ended = λ e. e }
  looked s false _ m = absurd m

  -- from places at which it spins
  mores : (q : Option Round) (v : PNo) (goal : ℕ) → Leads (place.Hunt q) (more v goal) what
  mores q v zero = record { does = λ d. d; spinning = refl; few = tt; ended = λ e. e }
  mores q v (suc goal) = record { does = λ d. d; spinning = refl; few = tt; ended = λ e. e }

  stored : (v w : PNo) (goal left : ℕ) → Leads (place.StoreMore v goal) (more w left) what
  stored v w goal zero = record { does = λ d. d; spinning = refl; few = tt; ended = λ e. e }
  stored v w goal (suc left) = record { does = λ d. d; spinning = refl; few = tt; ended = λ e. e }

  hunts_on : (q : Option Round) (b : Bool) (r : Round) → Leads (place.Hunt q) (if b then place.Hunt (Some r) else place.Unspin) what
  hunts_on q true r = record { does = λ d. d; spinning = refl; few = tt; ended = λ e. e }
  hunts_on q false r = record { does = λ d. d; spinning = refl; few = tt; ended = λ e. e }

  hunts : (s : Seen) (q : Option Round) (r : Round) (how : Tried) → Leads (place.Hunt q) (hunted s r how) what
  hunts s q r (tried.Got hint) = mores q _ _
  hunts s q r tried.Empty = hunts_on q _ _
  hunts s q r tried.Unsure = record { does = λ d. d; spinning = refl; few = tt; ended = λ e. e }

  mored : (s : Seen) (v : PNo) (goal : ℕ) (how : Tried) → Leads (place.More v goal) (next_place s (place.More v goal) (told.Tried how)) what
  mored s v goal (tried.Got hint) = record { does = λ d. d; spinning = refl; few = tt; ended = λ e. e }
  mored s v goal tried.Empty = record { does = λ d. d; spinning = refl; few = tt; ended = λ e. e }
  mored s v goal tried.Unsure = record { does = λ d. d; spinning = refl; few = tt; ended = λ e. e }

  scans_on : (v w : PNo) (b : Bool) → Leads (place.Scan v) (if b then place.Scan w else place.Park) what
  scans_on v w true = record { does = λ d. d; spinning = refl; few = tt; ended = λ e. e }
  scans_on v w false = record { does = λ d. d; spinning = refl; few = tt; ended = λ e. e }

  peeks : (s : Seen) (v : PNo) (how : Tried) → Leads (place.Peek v) (next_place s (place.Peek v) (told.Tried how)) what
  peeks s v (tried.Got hint) = record { does = λ d. d; spinning = refl; few = tt; ended = λ e. e }
  peeks s v tried.Empty = record { does = λ d. d; spinning = refl; few = tt; ended = λ e. e }
  peeks s v tried.Unsure = record { does = λ d. d; spinning = refl; few = tt; ended = λ e. e }

  scans : (s : Seen) (v : PNo) (how : Tried) → Leads (place.Scan v) (next_place s (place.Scan v) (told.Tried how)) what
  scans s v (tried.Got hint) = found (is_late s) where
    found : (b : Bool) → Leads (place.Scan v) (if b then place.PutHave else place.Have) what
    found true = record { does = λ d. d; spinning = refl; few = tt; ended = λ e. e }
    found false = record { does = λ d. d; spinning = refl; few = tt; ended = λ e. e }
  scans s v tried.Empty = scans_on v _ _
  scans s v tried.Unsure = record { does = λ d. d; spinning = refl; few = tt; ended = λ e. e }

  -- s is what the table saw when it named the act, and t what it sees when it is told
  pub leads : (s t : Seen) (here : Place) (how : Told) → MayCome (act_at s here) how → FewTold how → Leads here (next_place t here how) what
  leads s t place.Look how m f = looked t (nat_le 16 s.turns) how m
  leads s t place.Drain told.Drained m f = record { does = λ d. d; spinning = refl; few = tt; ended = λ e. e }
  leads s t place.Drain told.Empty m f = record { does = λ d. d; spinning = refl; few = tt; ended = λ e. e }
  leads s t place.Drain _ m f = absurd m
  leads s t place.PutDrain how m f = absurd (no_put s.to_store how m)
  leads s t (place.Hunt None) (told.Drew word how) m f = hunts t None (begun t word) how
  leads s t (place.Hunt None) _ m f = absurd m
  leads s t (place.Hunt (Some r)) (told.Tried how) m f = hunts t (Some r) r how
  leads s t (place.Hunt (Some r)) _ m f = absurd m
  leads s t (place.More v goal) (told.Tried how) m f = mored t v goal how
  leads s t (place.More v goal) _ m f = absurd m
  leads s t (place.StoreMore v goal) told.Pushed m f = stored v v goal goal
  leads s t (place.StoreMore v goal) told.PushRefused m f = record { does = λ d. d; spinning = refl; few = tt; ended = λ e. e }
  leads s t (place.StoreMore v goal) _ m f = absurd m
  leads s t (place.PutMore v goal) how m f = absurd (no_put s.to_store how m)
  leads s t place.Claim how m f = absurd (no_claim s.fresh s.to_claim how m)
  leads s t place.Run (told.Asked asked) m f = record { does = λ d. d; spinning = refl; few = f; ended = λ e. e }
  leads s t place.Run _ m f = absurd m
  leads s t place.Store told.Pushed m f = record { does = λ d. d; spinning = refl; few = tt; ended = λ e. e }
  leads s t place.Store told.PushRefused m f = record { does = λ d. d; spinning = refl; few = tt; ended = λ e. e }
  leads s t place.Store _ m f = absurd m
  leads s t place.PutStore how m f = absurd (no_put s.to_store how m)
  leads s t place.Block (told.Number number) m f = record { does = λ d. d; spinning = refl; few = tt; ended = λ e. e }
  leads s t place.Block _ m f = absurd m
  leads s t (place.Scan v) (told.Tried how) m f = scans t v how
  leads s t (place.Scan v) _ m f = absurd m
  leads s t (place.Peek v) (told.Tried how) m f = peeks t v how
  leads s t (place.Peek v) _ m f = absurd m
  leads s t place.PutHave how m f = absurd (no_put s.to_claim how m)
  leads s t (place.Mind deadline) (told.Moment now) m f = record { does = λ d. d; spinning = refl; few = tt; ended = λ e. e }
  leads s t (place.Mind deadline) _ m f = absurd m
  -- each other place has a call, a surrender, or no act
  leads s t _ how m f = absurd m

-- What the machine holds there

abbrev FitsWith : PlainMachine → Told → PlainHand → Type 0
FitsWith x how hand = SuitsPlace (after (record x { hand = hand }) how).place hand

-- all that was handed out comes back
pub same_fits : (x : PlainMachine) (how : Told) → SuitsPlace x.place x.hand → MayCome (next_act x) how
    → filled (used (next_act x) x.hand) ≡ come_back how (is_some x.hand.to_claim) (filled (used (next_act x) x.hand)) → FitsWith x how x.hand
same_fits x how f m e = subst (FitsWith x how) (whole (next_act x) x.hand) (can_be_told x how (used (next_act x) x.hand) f m e).1

-- and a ticket besides
came_with : (r : Readiness) (o : Option Readiness) (came left : PlainHand) → joined (with_ticket r came o) left ≡ with_ticket r (joined came left) o
came_with r None came left = refl
came_with r (Some t) came left = refl

pub ticket_fits : (x : PlainMachine) (how : Told) (r : Readiness) → SuitsPlace x.place x.hand → MayCome (next_act x) how
    → filled (with_ticket r (used (next_act x) x.hand) x.hand.to_claim) ≡ come_back how (is_some x.hand.to_claim) (filled (used (next_act x) x.hand))
    → FitsWith x how (with_ticket r x.hand x.hand.to_claim)
ticket_fits x how r f m e =
    let all : joined (with_ticket r (used (next_act x) x.hand) x.hand.to_claim) (unused (next_act x) x.hand) ≡ with_ticket r x.hand x.hand.to_claim =
    came_with r x.hand.to_claim (used (next_act x) x.hand) (unused (next_act x) x.hand) ∙ ap (λ (h : PlainHand). with_ticket r h x.hand.to_claim) (whole (next_act x) x.hand) in
    subst (FitsWith x how) all (can_be_told x how (with_ticket r (used (next_act x) x.hand) x.hand.to_claim) f m e).1

-- a ticket that is drained is one to store
pub drained_fits : (x : PlainMachine) (r : Readiness) → SuitsPlace x.place x.hand → next_act x ≡ act.Drain → FitsWith x told.Drained (record x.hand { to_store = Some r })
drained_fits x r f e = suits_then x told.Drained (record x.hand { to_store = Some r }) f (subst (λ (a : Act). MayCome a told.Drained) (sym e) tt) refl

-- a ticket that is pushed doesn't
pub pushed_fits : (x : PlainMachine) → SuitsPlace x.place x.hand → next_act x ≡ act.Push → FitsWith x told.Pushed (record x.hand { to_store = None })
pushed_fits x f e = suits_then x told.Pushed (record x.hand { to_store = None }) f (subst (λ (a : Act). MayCome a told.Pushed) (sym e) tt) refl

-- a make that wanted memory leads back to the body
pub unmade_leads : (what : Option Mode) (capacity : ℕ) (here there : Place) → here ≡ place.Do (ask.Make capacity) → there ≡ place.Run → Leads here there what
unmade_leads what capacity here there at goes = rw (at, goes) (record { does = λ d. d; spinning = refl; few = tt; ended = λ e. e })

-- a ticket that is taken comes back besides what the act was handed
pub popped_back : (t : Readiness) (hand : PlainHand) → hand.to_claim ≡ None → filled (with_ticket t (used act.Pop hand) hand.to_claim) ≡ come_back told.Got (is_some hand.to_claim) (filled (used act.Pop hand))
popped_back t hand none = rw none refl

pub stolen_back : (t : Readiness) (handed : PlainHand) (o : Option Readiness) → filled (with_ticket t handed o) ≡ filled_with_stolen (is_some o) (filled handed)
stolen_back t handed None = refl
stolen_back t handed (Some r) = refl

-- What an act finds in the registers
abbrev pub Finds : Seen → Place → PlainHand → Act → Type 0
Finds s here hand act.Pop = (hand.to_claim ≡ None) × (hand.to_store ≡ None)
Finds s here hand act.Drain = (hand.to_claim ≡ None) × (hand.to_store ≡ None)
Finds s here hand act.Hunt = hand.to_store ≡ None
Finds s here hand (act.Steal v) = hand.to_store ≡ None
Finds s here hand act.Push = (is_some hand.processor ≡ true) × (is_some hand.to_store ≡ true)
Finds s here hand (act.Surrender which) = (here ≡ place.Over) × (s.first ≡ which)
Finds s here hand (act.Call (call.Make capacity)) = here ≡ place.Do (ask.Make capacity)
Finds s here hand _ = Unit {0}

module _ (s : Seen) (hand : PlainHand) where
  looks : (b : Bool) → SuitsPlace place.Look hand → Finds s place.Look hand (if b then act.Clock None else act.Pop)
  looks true f = tt
  looks false f = (none_of hand.to_claim f.has_to_claim, none_of hand.to_store f.has_to_store)

  puts : (here : Place) (o : Option Readiness) → Finds s here hand (put_call o)
  puts here None = tt
  puts here (Some r) = tt

  claims : (b : Bool) (o : Option Readiness) → Finds s place.Claim hand (if b then act.Call call.Poke else claim_call o)
  claims true o = tt
  claims false None = tt
  claims false (Some r) = tt

  asks : (asked : Ask) → Finds s (place.Do asked) hand (act.Call (call_for asked))
  asks (ask.Make capacity) = refl
  asks _ = tt

  pub finds : (here : Place) → SuitsPlace here hand → Finds s here hand (act_at s here)
  finds place.Look f = looks (nat_le 16 s.turns) f
  finds place.Drain f = (none_of hand.to_claim f.has_to_claim, none_of hand.to_store f.has_to_store)
  finds place.PutDrain f = puts place.PutDrain s.to_store
  finds (place.Hunt None) f = none_of hand.to_store f.has_to_store
  finds (place.Hunt (Some r)) f = none_of hand.to_store f.has_to_store
  finds (place.More v goal) f = none_of hand.to_store f.has_to_store
  finds (place.StoreMore v goal) f = (f.has_processor, f.has_to_store)
  finds (place.PutMore v goal) f = puts (place.PutMore v goal) s.to_store
  finds place.Claim f = claims s.fresh s.to_claim
  finds (place.Do asked) f = asks asked
  finds place.Store f = (f.has_processor, f.has_to_store)
  finds place.PutStore f = puts place.PutStore s.to_store
  finds (place.Peek v) f = none_of hand.to_store f.has_to_store
  finds (place.Scan v) f = none_of hand.to_store f.has_to_store
  finds place.PutHave f = puts place.PutHave s.to_claim
  finds place.Over f = (refl, refl)
  finds _ f = tt
