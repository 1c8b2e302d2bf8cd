-- The machine after what came of its act, from its parts.
use Rattle.std.proofs.Common.{◌≡◌, false, true, Option, None, Some, refl, subst}
use Rattle.gmp_base.specs.declared.ask.Ask.{Ask}
use Rattle.gmp_base.specs.declared.pass.Pass.{Pass}
use Rattle.gmp_driver.specs.declared.act.QueueTold.{QueueTold}
use Rattle.gmp_driver.specs.declared.act.QueueTold.TheVariants as queue
use Rattle.gmp_driver.specs.declared.act.Told.{Told}
use Rattle.gmp_driver.specs.declared.act.Told.TheVariants as told
use Rattle.gmp_driver.specs.declared.place.Place.{Place}
use Rattle.gmp_driver.specs.declared.place.Place.TheVariants as place
use Rattle.gmp_driver.specs.declared.registers.Registers.{Registers}
use Rattle.gmp_driver.specs.declared.seen.Seen.{Seen}
use Rattle.gmp_driver.specs.declared.spot.Spot.{Spot}
use Rattle.gmp_driver.specs.declared.spot.Spot.TheVariants as spot
use Rattle.gmp_driver.specs.Fits.{SuitsPlace}
use Rattle.gmp_driver.specs.Local.{told_of}
use Rattle.gmp_driver.specs.Machine.{Machine}
use Rattle.gmp_driver.specs.Registers.{joined}
use Rattle.gmp_driver.specs.Seen.{seen}
use Rattle.gmp_driver.specs.Spot.{asked_at, is_ask, place_of}
use Rattle.gmp_driver.specs.Table.{after, next_aside, next_fresh, next_place, next_turns}

pub told_is : {T Q : Type 0} (now x y : Machine T Q) (what : Told) (given : Pass) (came hand : Registers T Q) (pass : Option Pass)
    → x ≡ now → hand ≡ joined came x.hand → y ≡ after (record x { hand = hand }) what → pass ≡ Some given
    → record y { pass = pass } ≡ after (record now { pass = Some given; hand = joined came now.hand }) what
told_is now x y what given came hand pass is holds told has = rw (← is, told, holds, has) refl

-- What came of an act at a queue is no reply: then only the place changes.

abbrev IsNoReply : Told → Type 0
IsNoReply (told.Replied answer) = ⊥
IsNoReply _ = Unit {0}

no_reply : (what : QueueTold) → IsNoReply (told_of what)
no_reply (queue.Popped false) = tt
no_reply (queue.Popped true) = tt
no_reply queue.Empty = tt
no_reply (queue.Stole None how) = tt
no_reply (queue.Stole (Some word) how) = tt
no_reply queue.Pushed = tt
no_reply queue.PushRefused = tt

same_fresh : (x : Seen) (here : Place) (what : Told) → IsNoReply what → next_fresh x here what ≡ x.fresh
same_fresh x (place.Ticking now) (told.Replied answer) k = absurd k
same_fresh x place.Unspin (told.Replied answer) k = absurd k
same_fresh x place.Claim (told.Replied answer) k = absurd k
same_fresh x place.Have (told.Replied answer) k = absurd k
same_fresh x place.Park (told.Replied answer) k = absurd k
same_fresh x place.Rest (told.Replied answer) k = absurd k
same_fresh x (place.MindTick now) (told.Replied answer) k = absurd k
same_fresh x here what k = refl

same_turns : (x : Seen) (here : Place) (what : Told) → IsNoReply what → next_turns x here what ≡ x.turns
same_turns x (place.Ticking now) (told.Replied answer) k = absurd k
same_turns x place.Keep (told.Replied answer) k = absurd k
same_turns x place.Claim (told.Replied answer) k = absurd k
same_turns x (place.MindTick now) (told.Replied answer) k = absurd k
same_turns x here what k = refl

pub same_aside : (x : Seen) (here : Place) (what : Told) → IsNoReply what → next_aside x here what ≡ x.aside
same_aside x (place.Ticking now) (told.Replied answer) k = absurd k
same_aside x place.Keep (told.Replied answer) k = absurd k
same_aside x here what k = refl

-- what is held changed so, and then the machine was told
pub holding_is : {T Q : Type 0} (to : Registers T Q → Registers T Q) (now x : Machine T Q) (what : QueueTold) (hand : Registers T Q) (sees : Seen) (here : Place)
    → x ≡ now → hand ≡ to x.hand → sees ≡ seen (record x { hand = hand }) → here ≡ next_place sees x.place (told_of what)
    → record x { place = here; hand = hand } ≡ after (record now { hand = to now.hand }) (told_of what)
holding_is to now x what hand sees here is held so place_is =
    let fresh : next_fresh (seen (record x { hand = hand })) x.place (told_of what) ≡ x.fresh = same_fresh (seen (record x { hand = hand })) x.place (told_of what) (no_reply what) in
    let turns : next_turns (seen (record x { hand = hand })) x.place (told_of what) ≡ x.turns = same_turns (seen (record x { hand = hand })) x.place (told_of what) (no_reply what) in
    let aside : next_aside (seen (record x { hand = hand })) x.place (told_of what) ≡ x.aside = same_aside (seen (record x { hand = hand })) x.place (told_of what) (no_reply what) in
    subst (λ (z : Machine _ _). record x { place = here; hand = hand } ≡ after (record z { hand = to z.hand }) (told_of what)) is
    (rw (place_is, so, ← held, fresh, turns, aside) refl)

-- Where the call is a body's, only the place changes.

pub asked_place : (here : Spot) (beside : Ask) → is_ask here ≡ true → place_of here beside ≡ place.Do (asked_at here beside)
asked_place spot.Yield beside k = refl
asked_place (spot.Send c v) beside k = refl
asked_place (spot.Recv c) beside k = refl
asked_place spot.Do beside k = refl
asked_place here beside k = absurd cc

-- The body asked: at Run its call comes, and what is held suits that as well.

pub asked_is : {T Q : Type 0} (now x : Machine T Q) (asked : Ask) (here : Place) → x ≡ now → here ≡ next_place (seen x) x.place (told.Asked asked)
    → record x { place = here } ≡ after now (told.Asked asked)
asked_is now x asked here is place_is =
    let fresh : next_fresh (seen x) x.place (told.Asked asked) ≡ x.fresh = same_fresh (seen x) x.place (told.Asked asked) tt in
    let turns : next_turns (seen x) x.place (told.Asked asked) ≡ x.turns = same_turns (seen x) x.place (told.Asked asked) tt in
    let aside : next_aside (seen x) x.place (told.Asked asked) ≡ x.aside = same_aside (seen x) x.place (told.Asked asked) tt in
    subst (λ (z : Machine _ _). record x { place = here } ≡ after z (told.Asked asked)) is
    (rw (place_is, fresh, turns, aside) refl)

pub asked_fits : {T Q : Type 0} (x : Seen) (here : Place) (asked : Ask) (hand : Registers T Q) → SuitsPlace here hand → SuitsPlace (next_place x here (told.Asked asked)) hand
asked_fits x place.Run asked hand h = h
asked_fits x (place.Hunt None) asked hand h = h
asked_fits x (place.Hunt (Some r)) asked hand h = h
asked_fits x here asked hand h = h
