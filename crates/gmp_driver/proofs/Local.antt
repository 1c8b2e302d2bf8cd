-- What comes of an act that is no call of the book suits the next place.
use Rattle.std.proofs.Common.{◌≡◌, ◌⊎◌, inl, inr, ℕ, zero, suc, Bool, true, false, ◌&&◌, ◌||◌, if◌then◌else◌, nat_le, is_some, Option, None, Some, refl, sym, ap, ◌∙◌}
use Rattle.std.specs.Prelude.{IsNone}
use Rattle.std.proofs.lemmas.Bool.{false≢true}
use Rattle.std.specs.Option.{option_map}
use Rattle.gmp_base.specs.declared.number.PNo.{PNo}
use Rattle.gmp_base.specs.declared.number.Readiness.{Readiness}
use Rattle.gmp_base.specs.declared.pass.Pass.{Pass}
use Rattle.gmp_base.specs.Values.{readiness_of, ticket_by}
use Rattle.gmp_seq.specs.declared.call.Call.TheVariants as call
use Rattle.gmp_driver.specs.declared.act.Act.{Act}
use Rattle.gmp_driver.specs.declared.act.Act.TheVariants as act
use Rattle.gmp_driver.specs.declared.act.Told.{Told}
use Rattle.gmp_driver.specs.declared.act.Told.TheVariants as told
use Rattle.gmp_driver.specs.declared.act.Tried.{Tried}
use Rattle.gmp_driver.specs.declared.act.Tried.TheVariants as tried
use Rattle.gmp_driver.specs.declared.place.Aside.{Aside}
use Rattle.gmp_driver.specs.declared.place.Place.{Place}
use Rattle.gmp_driver.specs.declared.place.Place.TheVariants as place
use Rattle.gmp_driver.specs.declared.place.Round.{Round}
use Rattle.gmp_driver.specs.declared.registers.Registers.{Registers}
use Rattle.gmp_driver.specs.Fits.{SuitsPlace, IsFilled}
use Rattle.gmp_driver.specs.Hunt.{more, victim_of}
use Rattle.gmp_driver.specs.Loads.{called_of, called_parts, held_of, held_parts, load_of, parts_of, proc_of, proc_parts}
use Rattle.gmp_driver.specs.Local.{Filled, MayCome, come_back, filled}
use Rattle.gmp_driver.specs.Machine.{Machine}
use Rattle.gmp_driver.specs.Registers.{AreFilledOnce, first_of, joined, unused, used}
use Rattle.gmp_driver.specs.Seen.{seen_of}
use Rattle.gmp_driver.specs.Table.{act_at, after, claim_call, next_act, next_place, put_call}

no_put : (o : Option Readiness) (what : Told) → MayCome (put_call o) what → ⊥
no_put None what m = m
no_put (Some r) what m = m

no_claim : (b : Bool) (o : Option Readiness) (what : Told) → MayCome (if b then act.Call call.Poke else claim_call o) what → ⊥
no_claim true o what m = m
no_claim false None what m = m
no_claim false (Some r) what m = m

-- Which registers are filled by what came and what was left

abbrev none : Filled
none = record { processor = false; held = false; called = false; to_claim = false; to_store = false }

abbrev join : Filled → Filled → Filled
join c l = record { processor = c.processor || l.processor; held = c.held || l.held; called = c.called || l.called; to_claim = c.to_claim || l.to_claim; to_store = c.to_store || l.to_store }

abbrev meet : Filled → Filled → Filled
meet c l = record { processor = c.processor && l.processor; held = c.held && l.held; called = c.called && l.called; to_claim = c.to_claim && l.to_claim; to_store = c.to_store && l.to_store }

-- what an act is handed, and what it leaves
abbrev given_by : Act → Filled → Filled
given_by act.Pop f = record none { processor = f.processor }
given_by act.Drain f = record none { processor = f.processor }
given_by act.Push f = record none { processor = f.processor; to_store = f.to_store }
given_by act.Resume f = record none { held = f.held }
given_by act.Block f = record none { called = f.called }
given_by _ f = none

abbrev left_by : Act → Filled → Filled
left_by act.Pop f = record f { processor = false }
left_by act.Drain f = record f { processor = false }
left_by act.Push f = record f { processor = false; to_store = false }
left_by act.Resume f = record f { held = false }
left_by act.Block f = record f { called = false }
left_by _ f = f

module _ {X : Type 0} where
  is_free : (x : Option X) → is_some x ≡ false → IsNone x
  is_free None e = refl
  is_free (Some x) e = absurd (false≢true (sym e))

  one : (c l : Bool) (x y : Option X) → is_some x ≡ c → is_some y ≡ l → (c && l) ≡ false → IsNone y ⊎ IsNone x
  one false l x y e d m = inr (is_free x e)
  one true false x y e d m = inl (is_free y d)
  one true true x y e d m = absurd (false≢true (sym m))

  has_first : (x y : Option X) → is_some (first_of x y) ≡ (is_some x || is_some y)
  has_first None y = refl
  has_first (Some x) y = refl

module _ {T Q : Type 0} where
  pub is_filled : (hand : Registers T Q) (x : Filled) → filled hand ≡ x → IsFilled x.processor x.held x.called x.to_claim x.to_store hand
  is_filled hand x e = record {
    has_processor = ap (λ (y : Filled). y.processor) e;
    has_held = ap (λ (y : Filled). y.held) e;
    has_called = ap (λ (y : Filled). y.called) e;
    has_to_claim = ap (λ (y : Filled). y.to_claim) e;
    has_to_store = ap (λ (y : Filled). y.to_store) e;
  }

  pub shape : (hand : Registers T Q) (p h c t s : Bool) → IsFilled p h c t s hand → filled hand ≡ record { processor = p; held = h; called = c; to_claim = t; to_store = s }
  shape hand p h c t s f = rw (f.has_processor, f.has_held, f.has_called, f.has_to_claim, f.has_to_store) refl

  joined_is : (came left : Registers T Q) → filled (joined came left) ≡ join (filled came) (filled left)
  joined_is came left =
      rw (has_first came.processor left.processor, has_first came.held left.held, has_first came.called left.called, has_first came.to_claim left.to_claim, has_first came.to_store left.to_store)
      refl

  are_apart : (came left : Registers T Q) (c l : Filled) → filled came ≡ c → filled left ≡ l → meet c l ≡ none → AreFilledOnce left came
  are_apart came left c l e d m = record {
    processor = one c.processor l.processor came.processor left.processor (ap (λ (y : Filled). y.processor) e) (ap (λ (y : Filled). y.processor) d) (ap (λ (y : Filled). y.processor) m);
    held = one c.held l.held came.held left.held (ap (λ (y : Filled). y.held) e) (ap (λ (y : Filled). y.held) d) (ap (λ (y : Filled). y.held) m);
    called = one c.called l.called came.called left.called (ap (λ (y : Filled). y.called) e) (ap (λ (y : Filled). y.called) d) (ap (λ (y : Filled). y.called) m);
    to_claim = one c.to_claim l.to_claim came.to_claim left.to_claim (ap (λ (y : Filled). y.to_claim) e) (ap (λ (y : Filled). y.to_claim) d) (ap (λ (y : Filled). y.to_claim) m);
    to_store = one c.to_store l.to_store came.to_store left.to_store (ap (λ (y : Filled). y.to_store) e) (ap (λ (y : Filled). y.to_store) d) (ap (λ (y : Filled). y.to_store) m);
  }

module _ {T Q : Type 0} (procs : ℕ) (fresh : Bool) (turns : ℕ) (aside : Option Aside) (hand : Registers T Q) where
  abbrev FitsAt : Place → Told → Registers T Q → Type 0
  FitsAt here what hand' = SuitsPlace (next_place (seen_of procs fresh turns aside hand') here what) hand'

  -- which registers are filled then
  abbrev behind : Told → Filled
  behind what = come_back what (is_some hand.to_claim) (filled hand)

  -- what is held then fits the next place; and what came fills no register twice, and with what was left fills those
  abbrev Can : Act → Place → Told → Type 0
  Can a here what =
      ((hand' : Registers T Q) → filled hand' ≡ behind what → FitsAt here what hand')
      × ((came : Registers T Q) → filled came ≡ come_back what (is_some hand.to_claim) (filled (used a hand)) → AreFilledOnce (unused a hand) came × (filled (joined came (unused a hand)) ≡ behind what))

  -- the registers were filled so, and those that are filled now fit the next place
  at : (a : Act) (here : Place) (what : Told) (f : Filled) → filled hand ≡ f → filled (used a hand) ≡ given_by a (filled hand) → filled (unused a hand) ≡ left_by a (filled hand)
      → meet (come_back what f.to_claim (given_by a f)) (left_by a f) ≡ none → join (come_back what f.to_claim (given_by a f)) (left_by a f) ≡ come_back what f.to_claim f
      → ((hand' : Registers T Q) → filled hand' ≡ come_back what f.to_claim f → FitsAt here what hand') → Can a here what
  at a here what f was given left m j to =
      let so : behind what ≡ come_back what f.to_claim f = ap (λ (y : Filled). come_back what y.to_claim y) was in
      let left_is : filled (unused a hand) ≡ left_by a f = left ∙ ap (left_by a) was in (
        λ hand' e. to hand' (e ∙ so),
        λ came e.
            (let came_is : filled came ≡ come_back what f.to_claim (given_by a f) =
            e ∙ ap (come_back what (is_some hand.to_claim)) given ∙ ap (λ (y : Filled). come_back what y.to_claim (given_by a y)) was
            in (
              are_apart came (unused a hand) (come_back what f.to_claim (given_by a f)) (left_by a f) came_is left_is m,
              joined_is came (unused a hand) ∙ ap (λ (y : Filled). join y (filled (unused a hand))) came_is ∙ ap (join (come_back what f.to_claim (given_by a f))) left_is ∙ j ∙ sym so,
            )),
      )

  -- Each place

  gone_on : (v : PNo) (goal : ℕ) (hand' : Registers T Q) → IsFilled true false false true false hand' → SuitsPlace (more v goal) hand'
  gone_on v zero hand' f = record { has_processor = f.has_processor; has_held = f.has_held; has_called = f.has_called; has_to_claim = refl; has_to_store = f.has_to_store }
  gone_on v (suc goal) hand' f = f

  unspun : (b : Bool) (hand' : Registers T Q) → IsFilled true false false b false hand' → SuitsPlace place.Unspin hand'
  unspun b hand' f = record { has_processor = f.has_processor; has_held = f.has_held; has_called = f.has_called; has_to_claim = refl; has_to_store = f.has_to_store }

  hunts_on : (b : Bool) (r : Round) (hand' : Registers T Q) → IsFilled true false false false false hand' → SuitsPlace (if b then place.Hunt (Some r) else place.Unspin) hand'
  hunts_on true r hand' f = f
  hunts_on false r hand' f = unspun false hand' f

  scans_on : (b : Bool) (v : PNo) (hand' : Registers T Q) → IsFilled false false false false false hand' → SuitsPlace (if b then place.Scan v else place.Park) hand'
  scans_on true v hand' f = f
  scans_on false v hand' f = f

  with_proc : IsFilled true false false false false hand → filled hand ≡ record none { processor = true }
  with_proc f = shape hand true false false false false f

  at_look : (b : Bool) (what : Told) → SuitsPlace place.Look hand → MayCome (if b then act.Clock None else act.Pop) what → Can (if b then act.Clock None else act.Pop) place.Look what
  at_look true (told.Moment now) f m = at (act.Clock None) place.Look (told.Moment now) _ (with_proc f) refl refl refl refl (λ h is. is_filled h _ is)
  at_look true _ f m = absurd m
  at_look false told.Got f m = at act.Pop place.Look told.Got _ (with_proc f) refl refl refl refl (λ h is. is_filled h _ is)
  at_look false told.Empty f m = at act.Pop place.Look told.Empty _ (with_proc f) refl refl refl refl (λ h is. is_filled h _ is)
  at_look false _ f m = absurd m

  at_hunt : (word : ℕ) (how : Tried) → SuitsPlace (place.Hunt None) hand → Can act.Hunt (place.Hunt None) (told.Drew word how)
  at_hunt word (tried.Got hint) f = at act.Hunt (place.Hunt None) (told.Drew word (tried.Got hint)) _ (with_proc f) refl refl refl refl (λ h is. gone_on _ _ h (is_filled h _ is))
  at_hunt word tried.Empty f = at act.Hunt (place.Hunt None) (told.Drew word tried.Empty) _ (with_proc f) refl refl refl refl (λ h is. hunts_on _ _ h (is_filled h _ is))
  at_hunt word tried.Unsure f = at act.Hunt (place.Hunt None) (told.Drew word tried.Unsure) _ (with_proc f) refl refl refl refl (λ h is. is_filled h _ is)

  at_victim : (r : Round) (v : PNo) (how : Tried) → SuitsPlace (place.Hunt (Some r)) hand → Can (act.Steal v) (place.Hunt (Some r)) (told.Tried how)
  at_victim r v (tried.Got hint) f = at (act.Steal v) (place.Hunt (Some r)) (told.Tried (tried.Got hint)) _ (with_proc f) refl refl refl refl (λ h is. gone_on _ _ h (is_filled h _ is))
  at_victim r v tried.Empty f = at (act.Steal v) (place.Hunt (Some r)) (told.Tried tried.Empty) _ (with_proc f) refl refl refl refl (λ h is. hunts_on _ _ h (is_filled h _ is))
  at_victim r v tried.Unsure f = at (act.Steal v) (place.Hunt (Some r)) (told.Tried tried.Unsure) _ (with_proc f) refl refl refl refl (λ h is. is_filled h _ is)

  at_more : (v w : PNo) (goal : ℕ) (how : Tried) → SuitsPlace (place.More v goal) hand → Can (act.Steal w) (place.More v goal) (told.Tried how)
  at_more v w goal how f = by how where
    was : filled hand ≡ record none { processor = true; to_claim = true }
    was = shape hand true false false true false f

    by : (how : Tried) → Can (act.Steal w) (place.More v goal) (told.Tried how)
    by (tried.Got hint) = at (act.Steal w) (place.More v goal) (told.Tried (tried.Got hint)) _ was refl refl refl refl (λ h is. is_filled h _ is)
    by tried.Empty = at (act.Steal w) (place.More v goal) (told.Tried tried.Empty) _ was refl refl refl refl (λ h is. unspun true h (is_filled h _ is))
    by tried.Unsure = at (act.Steal w) (place.More v goal) (told.Tried tried.Unsure) _ was refl refl refl refl (λ h is. unspun true h (is_filled h _ is))

  scan_found : (b : Bool) (hand' : Registers T Q) → IsFilled false false false true false hand' → SuitsPlace (if b then place.PutHave else place.Have) hand'
  scan_found true hand' f = f
  scan_found false hand' f = f

  at_peek : (v w : PNo) (how : Tried) → SuitsPlace (place.Peek v) hand → Can (act.Steal w) (place.Peek v) (told.Tried how)
  at_peek v w (tried.Got hint) f = at (act.Steal w) (place.Peek v) (told.Tried (tried.Got hint)) _ (with_proc f) refl refl refl refl (λ h is. is_filled h _ is)
  at_peek v w tried.Empty f = at (act.Steal w) (place.Peek v) (told.Tried tried.Empty) _ (with_proc f) refl refl refl refl (λ h is. is_filled h _ is)
  at_peek v w tried.Unsure f = at (act.Steal w) (place.Peek v) (told.Tried tried.Unsure) _ (with_proc f) refl refl refl refl (λ h is. is_filled h _ is)

  at_scan : (v w : PNo) (how : Tried) → SuitsPlace (place.Scan v) hand → Can (act.Steal w) (place.Scan v) (told.Tried how)
  at_scan v w how f = by how where
    was : filled hand ≡ none
    was = shape hand false false false false false f

    by : (how : Tried) → Can (act.Steal w) (place.Scan v) (told.Tried how)
    by (tried.Got hint) = at (act.Steal w) (place.Scan v) (told.Tried (tried.Got hint)) _ was refl refl refl refl (λ h is. scan_found _ h (is_filled h _ is))
    by tried.Empty = at (act.Steal w) (place.Scan v) (told.Tried tried.Empty) _ was refl refl refl refl (λ h is. scans_on _ _ h (is_filled h _ is))
    by tried.Unsure = at (act.Steal w) (place.Scan v) (told.Tried tried.Unsure) _ was refl refl refl refl (λ h is. is_filled h _ is)

  pub at_place : (here : Place) (what : Told) → SuitsPlace here hand → MayCome (act_at (seen_of procs fresh turns aside hand) here) what
      → Can (act_at (seen_of procs fresh turns aside hand) here) here what
  at_place place.Look what f m = at_look (nat_le 16 turns) what f m
  at_place place.Drain told.Drained f m = at act.Drain place.Drain told.Drained _ (with_proc f) refl refl refl refl (λ h is. is_filled h _ is)
  at_place place.Drain told.Empty f m = at act.Drain place.Drain told.Empty _ (with_proc f) refl refl refl refl (λ h is. is_filled h _ is)
  at_place place.Drain _ f m = absurd m
  at_place place.PutDrain what f m = absurd (no_put hand.to_store what m)
  at_place (place.Hunt None) (told.Drew word how) f m = at_hunt word how f
  at_place (place.Hunt None) _ f m = absurd m
  at_place (place.Hunt (Some r)) (told.Tried how) f m = at_victim r (victim_of procs r) how f
  at_place (place.Hunt (Some r)) _ f m = absurd m
  at_place (place.More v goal) (told.Tried how) f m = at_more v v goal how f
  at_place (place.More v goal) _ f m = absurd m
  at_place (place.StoreMore v goal) told.Pushed f m = at act.Push (place.StoreMore v goal) told.Pushed _ (shape hand true false false true true f) refl refl refl refl (λ h is. gone_on v goal h (is_filled h _ is))
  at_place (place.StoreMore v goal) told.PushRefused f m = at act.Push (place.StoreMore v goal) told.PushRefused _ (shape hand true false false true true f) refl refl refl refl (λ h is. is_filled h _ is)
  at_place (place.StoreMore v goal) _ f m = absurd m
  at_place (place.PutMore v goal) what f m = absurd (no_put hand.to_store what m)
  at_place place.Claim what f m = absurd (no_claim fresh hand.to_claim what m)
  at_place place.Run (told.Asked asked) f m = at act.Resume place.Run (told.Asked asked) _ (shape hand true true false false false f) refl refl refl refl (λ h is. is_filled h _ is)
  at_place place.Run _ f m = absurd m
  at_place place.Store told.Pushed f m = at act.Push place.Store told.Pushed _ (shape hand true true false false true f) refl refl refl refl (λ h is. is_filled h _ is)
  at_place place.Store told.PushRefused f m = at act.Push place.Store told.PushRefused _ (shape hand true true false false true f) refl refl refl refl (λ h is. is_filled h _ is)
  at_place place.Store _ f m = absurd m
  at_place place.PutStore what f m = absurd (no_put hand.to_store what m)
  at_place place.Block (told.Number number) f m = at act.Block place.Block (told.Number number) _ (shape hand false false true false false f) refl refl refl refl (λ h is. is_filled h _ is)
  at_place place.Block _ f m = absurd m
  at_place (place.Scan v) (told.Tried how) f m = at_scan v v how f
  at_place (place.Scan v) _ f m = absurd m
  at_place (place.Peek v) (told.Tried how) f m = at_peek v v how f
  at_place (place.Peek v) _ f m = absurd m
  at_place place.PutHave what f m = absurd (no_put hand.to_claim what m)
  at_place (place.Mind deadline) (told.Moment now) f m = at (act.Clock (Some deadline)) (place.Mind deadline) (told.Moment now) _ (shape hand false false false false false f) refl refl refl refl (λ h is. is_filled h _ is)
  at_place (place.Mind deadline) _ f m = absurd m
  -- each other place has a call, a surrender, or no act
  at_place _ what f m = absurd m

mapped : {X Y : Type 0} (f : X → Y) (o : Option X) → is_some (option_map f o) ≡ is_some o
mapped f None = refl
mapped f (Some x) = refl

-- a load has what it was made of
pub loaded : {T Q : Type 0} (run : ℕ) (pass : Pass) (hand : Registers T Q) → filled (parts_of (load_of run pass hand)) ≡ filled hand
loaded run pass hand =
    rw (
      mapped proc_parts (option_map (proc_of run) hand.processor),
      mapped (proc_of run) hand.processor,
      mapped held_parts (option_map (held_of run) hand.held),
      mapped (held_of run) hand.held,
      mapped called_parts (option_map (called_of run) hand.called),
      mapped (called_of run) hand.called,
      mapped readiness_of (option_map (ticket_by run) hand.to_claim),
      mapped (ticket_by run) hand.to_claim,
      mapped readiness_of (option_map (ticket_by run) hand.to_store),
      mapped (ticket_by run) hand.to_store,
    )
    refl

-- what came of such an act can be told where the machine holds this, and the next place suits it
pub suits_then : {T Q : Type 0} (x : Machine T Q) (what : Told) (hand : Registers T Q) → SuitsPlace x.place x.hand → MayCome (next_act x) what
    → filled hand ≡ come_back what (is_some x.hand.to_claim) (filled x.hand) → SuitsPlace (after (record x { hand = hand }) what).place hand
suits_then x what hand f m e = (at_place x.procs x.fresh x.turns x.aside x.hand x.place what f m).0 hand e

pub can_be_told : {T Q : Type 0} (x : Machine T Q) (what : Told) (came : Registers T Q) → SuitsPlace x.place x.hand → MayCome (next_act x) what
    → filled came ≡ come_back what (is_some x.hand.to_claim) (filled (used (next_act x) x.hand))
    → AreFilledOnce (unused (next_act x) x.hand) came × SuitsPlace (after (record x { hand = joined came (unused (next_act x) x.hand) }) what).place (joined came (unused (next_act x) x.hand))
can_be_told x what came f m e =
    let w = (at_place x.procs x.fresh x.turns x.aside x.hand x.place what f m).1 came e in
    (w.0, suits_then x what (joined came (unused (next_act x) x.hand)) f m w.1)
