-- How long a ticket in a hand may still wait in lines, by the place of its machine.
use Rattle.std.proofs.Common.{◌≡◌, ◌⊎◌, inl, inr, ℕ, zero, suc, ◌+◌, ◌≤◌, ◌==◌, Bool, true, false, if◌then◌else◌, nat_le, is_some, Option, None, Some, refl, sym, subst, ◌∙◌, arith}
use Rattle.std.proofs.lemmas.Bool.{false≢true}
use Rattle.gmp_base.specs.declared.ask.Ask.{Ask}
use Rattle.gmp_base.specs.declared.ask.Ask.TheVariants as ask
use Rattle.gmp_base.specs.declared.number.PNo.{PNo}
use Rattle.gmp_base.specs.declared.number.Readiness.{Readiness}
use Rattle.gmp_base.specs.declared.refusal.Refusal.TheVariants as refusal
use Rattle.gmp_seq.specs.declared.call.Call.TheVariants as call
use Rattle.gmp_seq.specs.declared.call.Reply.{Reply}
use Rattle.gmp_seq.specs.declared.call.Reply.TheVariants as reply
use Rattle.gmp_driver.specs.declared.act.Act.{Act}
use Rattle.gmp_driver.specs.declared.act.Act.TheVariants as act
use Rattle.gmp_driver.specs.declared.act.Told.{Told}
use Rattle.gmp_driver.specs.declared.act.Told.TheVariants as told
use Rattle.gmp_driver.specs.declared.act.Tried.TheVariants as tried
use Rattle.gmp_driver.specs.declared.place.Place.{Place}
use Rattle.gmp_driver.specs.declared.place.Place.TheVariants as place
use Rattle.gmp_driver.specs.declared.place.Round.{Round}
use Rattle.gmp_driver.specs.declared.seen.Seen.{Seen}
use Rattle.gmp_driver.specs.Fits.{IsFilled, SuitsPlace}
use Rattle.gmp_driver.specs.Hunt.{more}
use Rattle.gmp_driver.specs.Table.{act_at, call_for, claim_call, is_late, next_place, put_call}
use Rattle.gmp_acts.specs.Hands.{PlainHand}
use Rattle.gmp_acts.specs.System.{in_hand, is_ticket}
use Rattle.gmp_acts.proofs.Replies.{CanReply}
use Rattle.gmp_fair.specs.Fair.{steals_more}

-- to store: in a queue and on the shelf; found in a queue: on the shelf; else it is claimed next
abbrev pub hand_left : Place → ℕ → ℕ → ℕ
hand_left place.Store queue shelf = queue + shelf
hand_left place.PutStore queue shelf = queue + shelf
hand_left place.PutDrain queue shelf = shelf
hand_left place.Have queue shelf = shelf
hand_left place.PutHave queue shelf = shelf
hand_left here queue shelf = 0

pub at_most : (here : Place) (queue shelf : ℕ) → hand_left here queue shelf ≤ queue + shelf
at_most place.Store queue shelf = omega arith
at_most place.PutStore queue shelf = omega arith
at_most place.PutDrain queue shelf = omega arith
at_most place.Have queue shelf = omega arith
at_most place.PutHave queue shelf = omega arith
at_most _ queue shelf = omega arith

-- where a machine holds a ticket, while the run lasts
abbrev pub HasTicketAt : Place → Type 0
HasTicketAt place.Store = Unit {0}
HasTicketAt place.PutStore = Unit {0}
HasTicketAt place.PutDrain = Unit {0}
HasTicketAt place.Have = Unit {0}
HasTicketAt place.PutHave = Unit {0}
HasTicketAt place.Unspin = Unit {0}
HasTicketAt place.Claim = Unit {0}
HasTicketAt place.Over = Unit {0}
HasTicketAt here = steals_more here ≡ true

module _ (r : Readiness) where
  none_in : (o : Option Readiness) → is_some o ≡ false → is_ticket r o ≡ 0
  none_in None e = refl
  none_in (Some t) e = absurd (false≢true (sym e))

  no_ticket : {p h c : Bool} (hand : PlainHand) → IsFilled p h c false false hand → 1 ≤ in_hand r hand → ⊥
  no_ticket hand f some = (let a = none_in hand.to_claim f.has_to_claim in let b = none_in hand.to_store f.has_to_store in omega (arith, a, b, some))

  pub holds_at : (here : Place) (hand : PlainHand) → SuitsPlace here hand → 1 ≤ in_hand r hand → HasTicketAt here
  holds_at place.Store hand f some = tt
  holds_at place.PutStore hand f some = tt
  holds_at place.PutDrain hand f some = tt
  holds_at place.Have hand f some = tt
  holds_at place.PutHave hand f some = tt
  holds_at place.Unspin hand f some = tt
  holds_at place.Claim hand f some = tt
  holds_at place.Over hand f some = tt
  holds_at (place.More v goal) hand f some = refl
  holds_at (place.StoreMore v goal) hand f some = refl
  holds_at (place.PutMore v goal) hand f some = refl
  holds_at _ hand f some = absurd (no_ticket hand f some)

-- it never has longer to wait than before
module _ (s : Seen) (queue shelf : ℕ) where
  pub stays_below : (here : Place) (what : Told) → HasTicketAt here → steals_more here ≡ false → hand_left (next_place s here what) queue shelf ≤ hand_left here queue shelf
  stays_below place.Store told.Pushed h e = omega arith
  stays_below place.Store told.PushRefused h e = omega arith
  stays_below place.Store (told.Refused refusal.Over) h e = omega arith
  stays_below place.Store _ h e = omega arith
  stays_below place.PutStore (told.Replied reply.Shelf) h e = omega arith
  stays_below place.PutStore (told.Refused refusal.Over) h e = omega arith
  stays_below place.PutStore _ h e = omega arith
  stays_below place.PutDrain (told.Replied reply.Shelf) h e = omega arith
  stays_below place.PutDrain (told.Refused refusal.Over) h e = omega arith
  stays_below place.PutDrain _ h e = omega arith
  stays_below place.Have (told.Replied (reply.Proc p)) h e = omega arith
  stays_below place.Have (told.Replied reply.Nothing) h e = omega arith
  stays_below place.Have (told.Refused refusal.Over) h e = omega arith
  stays_below place.Have _ h e = omega arith
  stays_below place.PutHave (told.Replied reply.Shelf) h e = by (is_late s) where
    by : (b : Bool) → hand_left (if b then place.Start else place.Bare) queue shelf ≤ shelf
    by true = omega arith
    by false = omega arith
  stays_below place.PutHave (told.Refused refusal.Over) h e = omega arith
  stays_below place.PutHave _ h e = omega arith
  stays_below place.Unspin (told.Replied reply.Done) h e = by (is_some s.to_claim) where
    by : (b : Bool) → hand_left (if b then place.Claim else place.Drop) queue shelf ≤ 0
    by true = omega arith
    by false = omega arith
  stays_below place.Unspin (told.Refused refusal.Over) h e = omega arith
  stays_below place.Unspin _ h e = omega arith
  stays_below place.Claim (told.Replied (reply.Wakes m)) h e = omega arith
  stays_below place.Claim (told.Replied reply.Nothing) h e = omega arith
  stays_below place.Claim (told.Replied reply.Held) h e = omega arith
  stays_below place.Claim (told.Refused refusal.Over) h e = omega arith
  stays_below place.Claim _ h e = omega arith
  stays_below place.Over told.Surrendered h e = omega arith
  stays_below place.Over told.Nothing h e = omega arith
  stays_below place.Over (told.Refused refusal.Over) h e = omega arith
  stays_below place.Over _ h e = omega arith
  stays_below _ what h e = absurd (false≢true (sym e ∙ h))

-- at which places acts on queues and takes from the shelf are made
abbrev pub MadeAt : Act → Place → Type 0
MadeAt act.Pop here = here ≡ place.Look
MadeAt act.Drain here = here ≡ place.Drain
MadeAt act.Push here = (here ≡ place.Store) ⊎ (steals_more here ≡ true)
MadeAt act.Hunt here = here ≡ place.Hunt None
MadeAt (act.Steal v) here = ((w : PNo) × (here ≡ place.Peek w)) ⊎ (((q : Round) × (here ≡ place.Hunt (Some q))) ⊎ (((w : PNo) × (here ≡ place.Scan w)) ⊎ (steals_more here ≡ true)))
MadeAt (act.Call call.Take) here = (here ≡ place.Glance) ⊎ (here ≡ place.Global)
MadeAt _ here = Unit {0}

pub made_at : (s : Seen) (here : Place) → MadeAt (act_at s here) here
made_at s place.Look = by (nat_le 16 s.turns) where
  by : (b : Bool) → MadeAt (if b then act.Clock None else act.Pop) place.Look
  by true = tt
  by false = refl
made_at s place.Glance = inl refl
made_at s (place.Peek v) = inl (v, refl)
made_at s place.Drain = refl
made_at s place.PutDrain = by s.to_store where
  by : (o : Option Readiness) → MadeAt (put_call o) place.PutDrain
  by None = tt
  by (Some t) = tt
made_at s place.Global = inr refl
made_at s (place.Hunt None) = refl
made_at s (place.Hunt (Some q)) = inr (inl (q, refl))
made_at s (place.More v goal) = inr (inr (inr refl))
made_at s (place.StoreMore v goal) = inr refl
made_at s (place.PutMore v goal) = by s.to_store where
  by : (o : Option Readiness) → MadeAt (put_call o) (place.PutMore v goal)
  by None = tt
  by (Some t) = tt
made_at s place.Claim = by s.fresh s.to_claim where
  by : (b : Bool) (o : Option Readiness) → MadeAt (if b then act.Call call.Poke else claim_call o) place.Claim
  by true o = tt
  by false None = tt
  by false (Some t) = tt
made_at s (place.Do asked) = by asked where
  by : (asked : Ask) → MadeAt (act.Call (call_for asked)) (place.Do asked)
  by ask.Yield = tt
  by _ = tt
made_at s place.Store = inl refl
made_at s place.PutStore = by s.to_store where
  by : (o : Option Readiness) → MadeAt (put_call o) place.PutStore
  by None = tt
  by (Some t) = tt
made_at s (place.Scan v) = inr (inr (inl (v, refl)))
made_at s place.PutHave = by s.to_claim where
  by : (o : Option Readiness) → MadeAt (put_call o) place.PutHave
  by None = tt
  by (Some t) = tt
made_at s _ = tt

-- a ticket that was taken from the shelf is claimed next
pub taken_place : (s : Seen) (here : Place) (answer : Reply) (queue shelf : ℕ) → (here ≡ place.Glance) ⊎ (here ≡ place.Global) → CanReply call.Take answer → hand_left (next_place s here (told.Replied answer)) queue shelf ≡ 0
taken_place s here answer queue shelf (inl at) can = subst (λ (p : Place). hand_left (next_place s p (told.Replied answer)) queue shelf ≡ 0) (sym at) (by answer can) where
  by : (answer : Reply) → CanReply call.Take answer → hand_left (next_place s place.Glance (told.Replied answer)) queue shelf ≡ 0
  by (reply.Ticket t) c = refl
  by reply.Nothing c = refl
  by _ c = absurd c
taken_place s here answer queue shelf (inr at) can = subst (λ (p : Place). hand_left (next_place s p (told.Replied answer)) queue shelf ≡ 0) (sym at) (by answer can) where
  either : (b : Bool) → hand_left (if b then place.Drop else place.Spin) queue shelf ≡ 0
  either true = refl
  either false = refl

  by : (answer : Reply) → CanReply call.Take answer → hand_left (next_place s place.Global (told.Replied answer)) queue shelf ≡ 0
  by (reply.Ticket t) c = refl
  by reply.Nothing c = either (s.procs == 1)
  by _ c = absurd c

-- a ticket that was found in a queue is claimed next, or goes onto the shelf
module _ (s : Seen) (queue shelf : ℕ) where
  more_left : (v : PNo) (goal : ℕ) → hand_left (more v goal) queue shelf ≤ shelf
  more_left v zero = omega arith
  more_left v (suc goal) = omega arith

  abbrev Goes : Place → Told → Type 0
  Goes here what = hand_left (next_place s here what) queue shelf ≤ shelf

  pub popped_place : (here : Place) → here ≡ place.Look → Goes here told.Got
  popped_place here at = subst (λ (p : Place). Goes p told.Got) (sym at) (omega arith)

  pub drained_place : (here : Place) → here ≡ place.Drain → Goes here told.Drained
  drained_place here at = subst (λ (p : Place). Goes p told.Drained) (sym at) (omega arith)

  pub hunted_place : (here : Place) (word hint : ℕ) → here ≡ place.Hunt None → Goes here (told.Drew word (tried.Got hint))
  hunted_place here word hint at = subst (λ (p : Place). Goes p (told.Drew word (tried.Got hint))) (sym at) (more_left _ _)

  pub stolen_place : (here : Place) (v : PNo) (hint : ℕ) → MadeAt (act.Steal v) here → steals_more here ≡ false → Goes here (told.Tried (tried.Got hint))
  stolen_place here v hint (inl (w, at)) e = subst (λ (p : Place). Goes p (told.Tried (tried.Got hint))) (sym at) (omega arith)
  stolen_place here v hint (inr (inl (q, at))) e = subst (λ (p : Place). Goes p (told.Tried (tried.Got hint))) (sym at) (more_left _ _)
  stolen_place here v hint (inr (inr (inl (w, at)))) e = subst (λ (p : Place). Goes p (told.Tried (tried.Got hint))) (sym at) (by (is_late s)) where
    by : (b : Bool) → hand_left (if b then place.PutHave else place.Have) queue shelf ≤ shelf
    by true = omega arith
    by false = omega arith
  stolen_place here v hint (inr (inr (inr more))) e = absurd (false≢true (sym e ∙ more))
