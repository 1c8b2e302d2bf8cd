-- An act at a queue leaves the goroutines in hand, and leads to no call of theirs.
use Rattle.std.proofs.Common.{◌≡◌, ℕ, Bool, true, false, is_some, List, None, refl, sym, ap, subst, ◌∙◌}
use Rattle.gmp_base.specs.declared.number.Readiness.{Readiness}
use Rattle.gmp_driver.specs.declared.act.Act.{Act}
use Rattle.gmp_driver.specs.declared.act.Act.TheVariants as act
use Rattle.gmp_driver.specs.declared.act.Told.{Told}
use Rattle.gmp_driver.specs.declared.act.Told.TheVariants as told
use Rattle.gmp_driver.specs.declared.act.Tried.{Tried}
use Rattle.gmp_driver.specs.declared.act.Tried.TheVariants as tried
use Rattle.gmp_driver.specs.declared.place.Place.{Place}
use Rattle.gmp_driver.specs.declared.registers.Registers.{Registers}
use Rattle.gmp_driver.specs.Machine.{Machine}
use Rattle.gmp_driver.specs.Own.{with_found, with_owner}
use Rattle.gmp_driver.specs.Seen.{seen}
use Rattle.gmp_driver.specs.Table.{next_act}
use Rattle.gmp_said.specs.Said.{Blocks, Resumes}
use Rattle.gmp_said.specs.Standing.{HandSaid, due_at}
use Rattle.gmp_said.proofs.Places.{IsEndAct, IsOfNone, TellsPlace, end_act, stays, tells_place}
use Rattle.gmp_said.proofs.Standing.{quiet_said}
use Rattle.gmp_queue.specs.declared.ends.Owner.{Owner}
use Rattle.gmp_queue.specs.declared.ends.Thief.{Thief}
use Rattle.gmp_worker.specs.AtQueue.{Steals, Tries, TurnsOnQueue}
use Rattle.gmp_run.specs.Bodies.{HandLed}
use Rattle.gmp_run.proofs.Bodies.{same_hand_led}

module _ {T : Type 0} where
  -- the same goroutines are in hand
  abbrev Same : Registers T Owner → Registers T Owner → Type 0
  Same hand hand' = (hand'.held ≡ hand.held) × (hand'.called ≡ hand.called)

  same_as : (hand hand' other : Registers T Owner) → hand' ≡ other → Same hand other → Same hand hand'
  same_as hand hand' other is same = subst (Same hand) (sym is) same

  found : (r : Readiness) (b : Bool) (hand : Registers T Owner) → Same hand (with_found r b hand)
  found r true hand = (refl, refl)
  found r false hand = (refl, refl)

  found_own : (r : Readiness) (b : Bool) (o : Owner) (hand : Registers T Owner) → Same hand (with_found r b (with_owner o hand))
  found_own r true o hand = (refl, refl)
  found_own r false o hand = (refl, refl)

  module _ (run : ℕ) (v : _) (thieves thieves' : List Thief) (hand hand' : Registers T Owner) (b : Bool) where
    stole : (how : Tried) → Steals run v thieves b hand how hand' thieves' → Same hand hand'
    stole (tried.Got hint) (r, by_thief, is) = same_as hand hand' (with_found r b hand) is (found r b hand)
    stole tried.Empty (none, is) = same_as hand hand' hand is (refl, refl)
    stole tried.Unsure (none, is) = same_as hand hand' hand is (refl, refl)

  module _ (x : Machine T Owner) (word : ℕ) (thieves thieves' : List Thief) (hand' : Registers T Owner) where
    -- of an act at a queue and what is told of it: the same goroutines are in hand, and neither is of a body or of the run's end
    abbrev Quiet : Act → Told → Type 0
    Quiet a what = Same x.hand hand' × IsOfNone what × ((here : Place) → TellsPlace here a → due_at here ≡ None) × (IsEndAct a → ⊥)

    own_found : (a : Act) (what : Told) (r : Readiness) (b : Bool) (o : Owner) → hand' ≡ with_found r b (with_owner o x.hand) → Same x.hand hand'
    own_found a what r b o is = same_as x.hand hand' (with_found r b (with_owner o x.hand)) is (found_own r b o x.hand)

    tried_quiet : (a : Act) (what : Told) → Tries a x word x.hand thieves what hand' thieves' → Quiet a what
    tried_quiet act.Pop told.Got ((r, by_owner), same) = (own_found act.Pop told.Got r false by_owner.behind by_owner.step.2, tt, λ here tells. tells, λ end. end)
    tried_quiet act.Pop told.Empty (by_owner, same) = (same_as x.hand hand' (with_owner by_owner.behind x.hand) by_owner.step.2 (refl, refl), tt, λ here tells. tells, λ end. end)
    tried_quiet act.Pop _ t = absurd t.0
    tried_quiet act.Drain told.Drained ((r, by_owner), same) = (own_found act.Drain told.Drained r true by_owner.behind by_owner.step.2, tt, λ here tells. tells, λ end. end)
    tried_quiet act.Drain told.Empty (by_owner, same) = (same_as x.hand hand' (with_owner by_owner.behind x.hand) by_owner.step.2 (refl, refl), tt, λ here tells. tells, λ end. end)
    tried_quiet act.Drain _ t = absurd t.0
    tried_quiet act.Push told.Pushed ((r, has, by_owner), same) = (subst (Same x.hand) (sym by_owner.step.2) (refl, refl), tt, λ here tells. tells, λ end. end)
    tried_quiet act.Push told.PushRefused (by_owner, same) = (same_as x.hand hand' (with_owner by_owner.behind x.hand) by_owner.step.1 (refl, refl), tt, λ here tells. tells, λ end. end)
    tried_quiet act.Push _ t = absurd t.0
    tried_quiet act.Hunt what (how, is, steals) =
        (stole x.run _ thieves thieves' x.hand hand' (is_some x.hand.to_claim) how steals, subst IsOfNone (sym is) tt, λ here tells. tells, λ end. end)
    tried_quiet (act.Steal v) what (how, is, steals) =
        (stole x.run _ thieves thieves' x.hand hand' (is_some x.hand.to_claim) how steals, subst IsOfNone (sym is) tt, λ here tells. tells, λ end. end)
    tried_quiet (act.Call asked) what t = absurd t
    tried_quiet act.Resume what t = absurd t
    tried_quiet act.Block what t = absurd t
    tried_quiet (act.Clock minded) what t = absurd t
    tried_quiet (act.Surrender which) what t = absurd t
    tried_quiet act.Nothing what t = absurd t

  module _ (resumes : Resumes T) (blocks : Blocks T) (x x' : Machine T Owner) (thieves : List Thief) (word : ℕ) (thieves' : List Thief) (t : TurnsOnQueue x thieves word x' thieves') where
    quiet : Quiet x word thieves thieves' t.hand (next_act x) t.what
    quiet = tried_quiet x word thieves thieves' t.hand (next_act x) t.what t.tries

    hand_is : x'.hand ≡ t.hand
    hand_is = ap (λ (y : Machine T Owner). y.hand) t.machine

    pub queue_led : HandLed resumes blocks x.hand x'.hand
    queue_led = subst (HandLed resumes blocks x.hand) (sym hand_is) (same_hand_led resumes blocks x.hand t.hand quiet.0.0 quiet.0.1)

    pub queue_said : HandSaid resumes blocks x.place x.hand x'.place x'.hand
    queue_said =
        let none = quiet.2 x.place (tells_place (seen x) x.place) in
        quiet_said resumes blocks x.place x'.place x.hand x'.hand none (ap (λ (y : Machine T Owner). due_at y.place) t.machine ∙ stays (seen (record x { hand = t.hand })) x.place t.what none quiet.1)
        (λ end. absurd (quiet.3 (end_act (seen x) x.place end))) (ap (λ (h : Registers T Owner). h.held) hand_is ∙ quiet.0.0) (ap (λ (h : Registers T Owner). h.called) hand_is ∙ quiet.0.1)
