-- What comes of acts that tell alone, and in plain parts what a steal came to.
use Rattle.std.proofs.Common.{◌≡◌, ℕ, Bool, true, is_some, List, [], ◌∷◌, Option, None, Some, length, refl, ap, ◌∙◌}
use Rattle.gmp_base.specs.declared.number.PNo.{PNo}
use Rattle.gmp_base.specs.declared.number.Readiness.{Readiness}
use Rattle.gmp_driver.specs.declared.act.Act.{Act}
use Rattle.gmp_driver.specs.declared.act.Act.TheVariants as act
use Rattle.gmp_driver.specs.declared.act.Told.{Told}
use Rattle.gmp_driver.specs.declared.act.Told.TheVariants as told
use Rattle.gmp_driver.specs.declared.act.Tried.TheVariants as tried
use Rattle.gmp_driver.specs.declared.registers.Registers.{Registers}
use Rattle.gmp_driver.specs.Local.{Filled, MayCome, come_back, tells}
use Rattle.gmp_driver.specs.Machine.{Machine}
use Rattle.gmp_driver.specs.Own.{with_found}
use Rattle.gmp_driver.specs.Table.{after}
use Rattle.gmp_acts.proofs.Plain.{after_plain}
use Rattle.gmp_acts.specs.Acts.{WithQueues, stolen, stolen_from, with_ticket}
use Rattle.gmp_acts.specs.Hands.{PlainMachine, plain, plain_machine}
use Rattle.gmp_core.specs.Local.{IsTold}
use Rattle.gmp_core.specs.Queues.{Pops}

-- nothing comes with what a machine is told of its body or the clock
pub told_alone : (a : Act) (what : Told) → IsTold a → MayCome a what → (has : Bool) (f : Filled) → come_back what has f ≡ f
told_alone act.Resume (told.Asked asked) is may has f = refl
told_alone act.Resume _ is may has f = absurd may
told_alone act.Block (told.Number number) is may has f = refl
told_alone act.Block _ is may has f = absurd may
told_alone (act.Clock minded) (told.Moment now) is may has f = refl
told_alone (act.Clock minded) _ is may has f = absurd may
told_alone _ what is may has f = absurd is

plain_found : {T Q : Type 0} (r : Readiness) (hand : Registers T Q) (o : Option Readiness) → plain (with_found r (is_some o) hand) ≡ with_ticket r (plain hand) o
plain_found r hand None = refl
plain_found r hand (Some t) = refl

module _ {T Q : Type 0} (x now : Machine T Q) (drawn : Option ℕ) (queues queues' : List (List Readiness)) (v : PNo) where
  pub was_unsure : now ≡ after x (tells drawn tried.Unsure) → let l : WithQueues = (plain_machine now, queues) in l ≡ stolen (plain_machine x) drawn queues v true
  was_unsure e = ap (λ (m : PlainMachine). let l : WithQueues = (m, queues) in l) (ap (λ (y : Machine T Q). plain_machine y) e ∙ after_plain x (tells drawn tried.Unsure))

  found_none : (q : List Readiness) → Pops queues v q None queues' → let l : WithQueues = (after (plain_machine x) (tells drawn tried.Empty), queues') in l ≡ stolen_from (plain_machine x) drawn queues v q
  found_none [] k = ap (λ (qs : List (List Readiness)). let l : WithQueues = (after (plain_machine x) (tells drawn tried.Empty), qs) in l) k.1
  found_none (r ∷ rest) k = (let e : None ≡ Some r = k.0 in absurd cc)

  pub was_empty : (q : List Readiness) → Pops queues v q None queues' → now ≡ after x (tells drawn tried.Empty)
      → let l : WithQueues = (plain_machine now, queues') in l ≡ stolen_from (plain_machine x) drawn queues v q
  was_empty q k e = ap (λ (m : PlainMachine). let l : WithQueues = (m, queues') in l) (ap (λ (y : Machine T Q). plain_machine y) e ∙ after_plain x (tells drawn tried.Empty)) ∙ found_none q k

  abbrev taker : Readiness → PlainMachine
  taker r = record (plain_machine x) { hand = with_ticket r (plain x.hand) x.hand.to_claim }

  found : (r : Readiness) (hint : ℕ) (q : List Readiness) → Pops queues v q (Some r) queues' → hint ≡ length q
      → let l : WithQueues = (after (taker r) (tells drawn (tried.Got hint)), queues') in l ≡ stolen_from (plain_machine x) drawn queues v q
  found r hint [] k e = (let e : Some r ≡ None = k.0 in absurd cc)
  found r hint (t ∷ rest) k e = (let same : r ≡ t = cc in rw (same, e, k.1) refl)

  pub was_got : (r : Readiness) (hint : ℕ) (q : List Readiness) → Pops queues v q (Some r) queues' → hint ≡ length q
      → now ≡ after (record x { hand = with_found r (is_some x.hand.to_claim) x.hand }) (tells drawn (tried.Got hint))
      → let l : WithQueues = (plain_machine now, queues') in l ≡ stolen_from (plain_machine x) drawn queues v q
  was_got r hint q k long e =
      ap (λ (m : PlainMachine). let l : WithQueues = (m, queues') in l) (
      ap (λ (y : Machine T Q). plain_machine y) e ∙ after_plain (record x { hand = with_found r (is_some x.hand.to_claim) x.hand }) (tells drawn (tried.Got hint))
      ∙ ap (λ (h : Registers Unit Unit). after (record (plain_machine x) { hand = h }) (tells drawn (tried.Got hint))) (plain_found r x.hand x.hand.to_claim)
      )
      ∙ found r hint q k long
