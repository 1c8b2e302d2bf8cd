-- What one try at a queue came to, in what a machine holds.
use Rattle.std.proofs.Common.{◌≡◌, ◌<◌, ◌≤◌, ℕ, Bool, true, false, is_some, List, [], ◌∷◌, Option, None, Some, length, get_or, refl, sym, subst, ap, ◌∙◌}
use Rattle.std.proofs.lemmas.Bool.{false≢true}
use Rattle.std.proofs.lemmas.Option.{slice_get-get_or, slice_get_past}
use Rattle.std.specs.Option.{option_map}
use Rattle.std.specs.Prelude.{slice_get, slice_set}
use Rattle.gmp_base.specs.declared.number.PNo.{PNo}
use Rattle.gmp_base.specs.declared.number.Readiness.{Readiness}
use Rattle.gmp_base.specs.declared.value.Ticket.{Ticket}
use Rattle.gmp_base.specs.Values.{readiness_of}
use Rattle.gmp_driver.specs.declared.act.Act.TheVariants as act
use Rattle.gmp_driver.specs.declared.act.Told.{Told}
use Rattle.gmp_driver.specs.declared.act.Told.TheVariants as told
use Rattle.gmp_driver.specs.declared.act.Tried.{Tried}
use Rattle.gmp_driver.specs.declared.act.Tried.TheVariants as tried
use Rattle.gmp_driver.specs.declared.registers.ProcParts.{ProcParts}
use Rattle.gmp_driver.specs.declared.registers.Registers.{Registers}
use Rattle.gmp_driver.specs.Fits.{SuitsPlace}
use Rattle.gmp_driver.specs.Local.{Filled, IsSteal, filled_with_stolen, pop_for, popped_for, tells}
use Rattle.gmp_driver.specs.Machine.{Machine}
use Rattle.gmp_driver.specs.Own.{owner_held, with_found, with_owner}
use Rattle.gmp_driver.specs.Table.{after, next_act}
use Rattle.gmp_driver.proofs.OwnQueue.{Suits, owner_filled, pop_finds, pop_found, pop_none, push_done, push_finds, push_refused, steal_tried, ticket_filled}
use Rattle.gmp_queue.specs.declared.ends.Owner.{Owner}
use Rattle.gmp_queue.specs.declared.ends.Thief.{Thief}
use Rattle.gmp_queue.specs.Ends.{KeepsOwner, KeepsThief, owner_run, owner_view}
use Rattle.gmp_queue.specs.Queue.{FoundNone, PoppedFirst, PutLast}
use Rattle.gmp_worker.specs.AtQueue.{FindsOwnEmpty, IsToldOf, PopsFor, Pushes, Steals, StealsFrom, TakesOwn, UsesThief}

-- where the machine went, it holds what its place says
pub fits_now : {T : Type 0} (x now : Machine T Owner) (what : Told) (hand : Registers T Owner) (fits : SuitsPlace x.place x.hand) → Suits x fits hand what → now ≡ after (record x { hand = hand }) what → SuitsPlace now.place now.hand
fits_now x now what hand fits suits e = subst (λ (y : Machine _ _). SuitsPlace y.place y.hand) (sym e) suits

no_one : (o : Option (ProcParts Owner)) → is_some o ≡ true → None ≡ option_map (λ (x : ProcParts Owner). x.owner) o → ⊥
no_one None some e = false≢true some
no_one (Some y) some e = cc

-- The own queue is popped

module _ {T : Type 0} (x : Machine T Owner) (b : Bool) (next : next_act x ≡ pop_for b) (fits : SuitsPlace x.place x.hand) where
  pub pop_owns : None ≡ owner_held x.hand → ⊥
  pop_owns e = no_one x.hand.processor (pop_finds x b next fits) e

  module _ (p : Owner) where
    pub found_suits : (r : Readiness) → Suits x fits (with_found r b (with_owner p x.hand)) (popped_for b)
    found_suits r = pop_found x fits b (with_found r b (with_owner p x.hand)) next (ticket_filled r b (with_owner p x.hand) ∙ ap (filled_with_stolen b) (owner_filled p x.hand))

    pub none_suits : Suits x fits (with_owner p x.hand) told.Empty
    none_suits = pop_none x fits b (with_owner p x.hand) next (owner_filled p x.hand)

takes : {T : Type 0} (b : Bool) (run : ℕ) (hand hand' : Registers T Owner) → TakesOwn b run hand hand' → PopsFor b run hand (popped_for b) hand'
takes false run hand hand' k = k
takes true run hand hand' k = k

empties : {T : Type 0} (b : Bool) (run : ℕ) (hand hand' : Registers T Owner) → FindsOwnEmpty run hand hand' → PopsFor b run hand told.Empty hand'
empties false run hand hand' k = k
empties true run hand hand' k = k

module _ {T : Type 0} (x now : Machine T Owner) (o p : Owner) (own : Some o ≡ owner_held x.hand) (same : KeepsOwner o p) where
  pub was_popped : (b : Bool) (t : Ticket) → (t.run ≡ x.run) × (owner_run o ≡ x.run) × PoppedFirst (owner_view o) (readiness_of t ∷ []) (owner_view p)
      → now ≡ after (record x { hand = with_found (readiness_of t) b (with_owner p x.hand) }) (popped_for b) → IsToldOf x (PopsFor b x.run x.hand) now
  was_popped b t step e =
      let hand : Registers T Owner = with_found (readiness_of t) b (with_owner p x.hand) in
      record {
        what = popped_for b;
        hand = hand;
        step = takes b x.run x.hand hand (readiness_of t, record { before = o; behind = p; own = sym own; same = same; step = (step.1, step.2, refl) });
        machine = e;
      }

  pub was_empty : (b : Bool) → (owner_view p ≡ owner_view o) × (owner_run o ≡ x.run → FoundNone (owner_view o)) → now ≡ after (record x { hand = with_owner p x.hand }) told.Empty → IsToldOf x (PopsFor b x.run x.hand) now
  was_empty b step e =
      record {
        what = told.Empty;
        hand = with_owner p x.hand;
        step = empties b x.run x.hand (with_owner p x.hand) (record { before = o; behind = p; own = sym own; same = same; step = (step.0, step.1, refl) });
        machine = e;
      }

  -- A ticket is pushed

  pub was_pushed : (r : Readiness) → x.hand.to_store ≡ Some r → (x.run ≡ owner_run o) × PutLast (owner_view o) (r ∷ []) (owner_view p)
      → now ≡ after (record x { hand = record (with_owner p x.hand) { to_store = None } }) told.Pushed → IsToldOf x (Pushes x.run x.hand) now
  was_pushed r held step e =
      let hand : Registers T Owner = record (with_owner p x.hand) { to_store = None } in
      record {
        what = told.Pushed;
        hand = hand;
        step = (r, held, record { before = o; behind = p; own = sym own; same = same; step = (sym step.0, step.1, refl) });
        machine = e;
      }

  pub was_refused : owner_view p ≡ owner_view o → now ≡ after (record x { hand = with_owner p x.hand }) told.PushRefused → IsToldOf x (Pushes x.run x.hand) now
  was_refused step e =
      record {
        what = told.PushRefused;
        hand = with_owner p x.hand;
        step = record { before = o; behind = p; own = sym own; same = same; step = (step, refl) };
        machine = e;
      }

no_ticket : (o : Option Readiness) → is_some o ≡ true → o ≡ None → ⊥
no_ticket None some e = false≢true some
no_ticket (Some r) some e = cc

module _ {T : Type 0} (x : Machine T Owner) (next : next_act x ≡ act.Push) (fits : SuitsPlace x.place x.hand) where
  pub push_owns : None ≡ owner_held x.hand → ⊥
  push_owns e = no_one x.hand.processor (push_finds x next fits).0 e

  pub push_has : x.hand.to_store ≡ None → ⊥
  push_has e = no_ticket x.hand.to_store (push_finds x next fits).1 e

  module _ (p : Owner) where
    pub pushed_suits : Suits x fits (record (with_owner p x.hand) { to_store = None }) told.Pushed
    pushed_suits = push_done x fits (record (with_owner p x.hand) { to_store = None }) next (ap (λ (f : Filled). let h : Filled = record f { to_store = false } in h) (owner_filled p x.hand))

    pub refused_suits : Suits x fits (with_owner p x.hand) told.PushRefused
    refused_suits = push_refused x fits (with_owner p x.hand) next (owner_filled p x.hand)

-- The victim's thief

pub uses : (v : PNo) (i : ℕ) (thieves : List Thief) (t u : Thief) (step : Thief → Thief → Type 0) → i ≡ v.0 → i < length thieves → KeepsThief (get_or thieves i t) u → step (get_or thieves i t) u
    → UsesThief v thieves (slice_set thieves i u) step
uses v i thieves t u step is within same s =
    record {
      before = get_or thieves i t;
      behind = u;
      its = ap (λ (j : ℕ). slice_get thieves j) (sym is) ∙ slice_get-get_or thieves i t within;
      others = ap (λ (j : ℕ). slice_set thieves j u) is;
      same = same;
      step = s;
    }

pub beyond : (v : PNo) (i : ℕ) (thieves : List Thief) → i ≡ v.0 → length thieves ≤ i → slice_get thieves v.0 ≡ None
beyond v i thieves is past = ap (λ (j : ℕ). slice_get thieves j) (sym is) ∙ slice_get_past thieves i past

module _ {T : Type 0} (x : Machine T Owner) (drawn : Option ℕ) (next : IsSteal (next_act x) drawn) (fits : SuitsPlace x.place x.hand) where
  pub stolen_suits : (r : Readiness) (hint : ℕ) → Suits x fits (with_found r (is_some x.hand.to_claim) x.hand) (tells drawn (tried.Got hint))
  stolen_suits r hint = steal_tried x fits drawn (tried.Got hint) (with_found r (is_some x.hand.to_claim) x.hand) next (ticket_filled r (is_some x.hand.to_claim) x.hand)

  pub empty_suits : Suits x fits x.hand (tells drawn tried.Empty)
  empty_suits = steal_tried x fits drawn tried.Empty x.hand next refl

  pub unsure_suits : Suits x fits x.hand (tells drawn tried.Unsure)
  unsure_suits = steal_tried x fits drawn tried.Unsure x.hand next refl

  -- a try that came to this, and left this in hand
  pub was_tried : (v : PNo) (thieves thieves' : List Thief) (now : Machine T Owner) (how : Tried) (hand : Registers T Owner) → Steals x.run v thieves (is_some x.hand.to_claim) x.hand how hand thieves'
      → now ≡ after (record x { hand = hand }) (tells drawn how) → IsToldOf x (StealsFrom x drawn v thieves thieves') now
  was_tried v thieves thieves' now how hand step e = record { what = tells drawn how; hand = hand; step = (how, refl, step); machine = e }
