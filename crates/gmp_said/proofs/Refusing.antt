-- A call that is refused, and a value that is given back, lead no speaker, but that a make which memory refused is passed.
use Rattle.std.specs.Prelude.{slice_index_or}
use Rattle.std.proofs.Common.{◌≡◌, ◌⊎◌, inl, inr, ℕ, Bool, true, false, List, [], ◌∷◌, Option, None, Some, IsNone, IsSome, is_some, slice_get, slice_set, refl, sym, ap, subst, ◌∙◌, true≢false}
use Rattle.std.specs.Option.{option_map}
use Rattle.gmp_base.specs.declared.ask.Ask.{Ask}
use Rattle.gmp_base.specs.declared.ask.Ask.TheVariants as ask
use Rattle.gmp_base.specs.declared.ask.Woke.{Woke}
use Rattle.gmp_base.specs.declared.ask.Woke.TheVariants as woke
use Rattle.gmp_base.specs.declared.number.GNo.{GNo}
use Rattle.gmp_base.specs.declared.number.MNo.{MNo}
use Rattle.gmp_base.specs.declared.refusal.Refusal.{Refusal}
use Rattle.gmp_base.specs.declared.refusal.Refusal.TheVariants as refusal
use Rattle.gmp_seq.specs.declared.call.Call.{Call}
use Rattle.gmp_seq.specs.declared.call.Call.TheVariants as call
use Rattle.gmp_seq.specs.declared.call.Entry.{Entry}
use Rattle.gmp_seq.specs.declared.call.Limits.{Limits}
use Rattle.gmp_seq.specs.Needs.{WantsMemory}
use Rattle.gmp_seq.specs.State.{State}
use Rattle.gmp_seq.specs.Table.{IsRunning}
use Rattle.gmp_driver.specs.declared.act.Act.TheVariants as act
use Rattle.gmp_driver.specs.declared.act.Told.TheVariants as told
use Rattle.gmp_driver.specs.declared.act.Value.{Value}
use Rattle.gmp_driver.specs.declared.act.Value.TheVariants as value
use Rattle.gmp_driver.specs.declared.place.Place.{Place}
use Rattle.gmp_driver.specs.declared.place.Place.TheVariants as place
use Rattle.gmp_driver.specs.declared.registers.CalledParts.{CalledParts}
use Rattle.gmp_driver.specs.declared.registers.HeldParts.{HeldParts}
use Rattle.gmp_driver.specs.declared.seen.Seen.{Seen}
use Rattle.gmp_driver.specs.Fits.{SuitsPlace}
use Rattle.gmp_driver.specs.Machine.{Machine}
use Rattle.gmp_driver.specs.Registers.{but, first_of}
use Rattle.gmp_driver.specs.Seen.{seen}
use Rattle.gmp_driver.specs.Table.{call_for, next_act, next_place}
use Rattle.gmp_driver.proofs.Uses.{none_of}
use Rattle.gmp_acts.specs.Hands.{PlainHand, hand_unmade, plain, plain_called, plain_held, retold}
use Rattle.gmp_acts.specs.Sound.{IsEnd}
use Rattle.gmp_acts.specs.System.{held_number}
use Rattle.gmp_turn.specs.Values.{KeepsValues, body_in, called_body, held_body}
use Rattle.gmp_said.specs.Said.{Blocks, IsLast, Resumes, RunsTurns, Speaker, entries_of}
use Rattle.gmp_said.specs.Standing.{AreInside, HandStands, StandsLast, StandsSo, due_at, hand_refused, held_woke, woke_in}
use Rattle.gmp_said.proofs.Places.{IsEndAct, IsOwn, TellsPlace, end_act, stays, tells_place}
use Rattle.gmp_said.proofs.Standing.{last_of, none_from_plain, plain_in, plain_woke, quiet, runs_alone, runs_here, stands_new, woke_here}
use Rattle.gmp_said.proofs.Turning.{AreHome, Turned, left_alone, some_is, touched}

-- A machine whose call was refused

-- where it is told that the run is over; where a make is told that there is no memory; else it stands where it stood
abbrev pub TurnedDown : Seen → Place → Call → Refusal → PlainHand → Type 0
TurnedDown z here c why hand =
    ((next_place z here (told.Refused why) ≡ place.Over) × (hand_refused c why hand ≡ hand))
    ⊎ ((capacity : ℕ) × (here ≡ place.Do (ask.Make capacity)) × (why ≡ refusal.OutOfMemory) × (c ≡ call.Make capacity) × (next_place z here (told.Refused why) ≡ place.Run) × (hand_refused c why hand ≡ hand_unmade hand))
    ⊎ ((next_place z here (told.Refused why) ≡ here) × (hand_refused c why hand ≡ hand))
    ⊎ ((due_at here ≡ None) × (due_at (next_place z here (told.Refused why)) ≡ None) × (hand_refused c why hand ≡ hand))

asked_down : (z : Seen) (asked : Ask) (why : Refusal) (hand : PlainHand) → TurnedDown z (place.Do asked) (call_for asked) why hand
asked_down z (ask.Make capacity) refusal.Over hand = inl (refl, refl)
asked_down z (ask.Make capacity) refusal.OutOfMemory hand = inr (inl (capacity, refl, refl, refl, refl, refl))
asked_down z (ask.Make capacity) _ hand = inr (inr (inl (refl, refl)))
asked_down z _ refusal.Over hand = inl (refl, refl)
asked_down z _ why hand = inr (inr (inl (refl, refl)))

left_down : (z : Seen) (number : ℕ) (why : Refusal) (hand : PlainHand) → TurnedDown z (place.Leave number) (call.Leave number) why hand
left_down z number refusal.Over hand = inl (refl, refl)
left_down z number _ hand = inr (inr (inl (refl, refl)))

own_hand : (c : Call) (why : Refusal) (hand : PlainHand) → IsOwn c → hand_refused c why hand ≡ hand
own_hand (call.Make capacity) why hand own = absurd own
own_hand _ why hand own = refl

down : (z : Seen) (here : Place) (c : Call) (why : Refusal) (hand : PlainHand) → TellsPlace here (act.Call c) → TurnedDown z here c why hand
down z here c why hand (inl (asked, at, is)) =
    subst (λ (p : Place). TurnedDown z p c why hand) (sym at) (subst (λ (d : Call). TurnedDown z (place.Do asked) d why hand) (sym is) (asked_down z asked why hand))
down z here c why hand (inr (inl (number, at, is))) =
    subst (λ (p : Place). TurnedDown z p c why hand) (sym at) (subst (λ (d : Call). TurnedDown z (place.Leave number) d why hand) (sym is) (left_down z number why hand))
down z here c why hand (inr (inr (none, own))) = inr (inr (inr (none, stays z here (told.Refused why) none tt, own_hand c why hand own)))

retold_number : (w : Woke) (o : Option (HeldParts Unit)) → held_number (retold w o) ≡ held_number o
retold_number w None = refl
retold_number w (Some h) = refl

-- the same numbers are in hand
pub refused_numbers : (c : Call) (why : Refusal) (hand : PlainHand) → (held_number (hand_refused c why hand).held ≡ held_number hand.held) × ((hand_refused c why hand).called ≡ hand.called)
refused_numbers (call.Make capacity) refusal.OutOfMemory hand = (retold_number woke.NoMemory hand.held, refl)
refused_numbers (call.Make capacity) _ hand = (refl, refl)
refused_numbers _ why hand = (refl, refl)

module _ {T : Type 0} (resumes : Resumes T) (blocks : Blocks T) {Q : Type 0} (x x' : Machine T Q) (m : MNo) (c : Call) (why : Refusal) (limits : Limits) (s : State) (is : next_act x ≡ act.Call c) (fits : SuitsPlace x.place x.hand) (z : Seen)
    (goes : x'.place ≡ next_place z x.place (told.Refused why)) (hands : plain x'.hand ≡ hand_refused c why (plain x.hand)) (places : List (Option T)) (kept : KeepsValues (body_in x.hand) (body_in x'.hand) places places)
    (speakers : List (Speaker T)) (stand : HandStands resumes blocks speakers x.place x.hand) (over : Bool) (inside : AreInside resumes blocks over s.table speakers places)
    (runs : (g : GNo) → held_number x.hand.held ≡ Some g → IsRunning s.table g m)
    (wants : why ≡ refusal.OutOfMemory → (over ≡ false) × (s.outcome ≡ None) × WantsMemory limits c s) where
  abbrev pub Passes : Type 0
  Passes = (now : List (Speaker T)) × (turns : List (Option Entry)) × (entries_of turns ≡ []) × RunsTurns resumes blocks limits s speakers turns s now
      × Turned resumes blocks x.place x'.place x.hand x'.hand places places kept speakers over s.table now

  -- nobody was touched
  same : (plain x'.hand ≡ plain x.hand) → ((i : ℕ) (q : Speaker T) (b : T) → StandsSo resumes blocks x.place (woke_in x.hand i) q b → StandsSo resumes blocks x'.place (woke_in x'.hand i) q b) → Passes
  same hand so = (
    speakers,
    [],
    refl,
    (refl, refl),
    left_alone resumes blocks x.place x'.place x.hand x'.hand places places kept speakers
        (λ i. sym (plain_in x'.hand i) ∙ (ap (λ (h : PlainHand). is_some (body_in h i)) hand ∙ plain_in x.hand i)) so stand over s.table inside,
  )

  told_same : (plain x'.hand ≡ plain x.hand) → (i : ℕ) → woke_in x'.hand i ≡ woke_in x.hand i
  told_same hand i = sym (plain_woke x'.hand i) ∙ (ap (λ (h : PlainHand). woke_in h i) hand ∙ plain_woke x.hand i)

  -- the make was refused
  unmade : (capacity : ℕ) → x.place ≡ place.Do (ask.Make capacity) → c ≡ call.Make capacity → x'.place ≡ place.Run → (plain x'.hand ≡ hand_unmade (plain x.hand)) → over ≡ false → s.outcome ≡ None → WantsMemory limits c s → Passes
  unmade capacity at calls_it there hand lasts none wanted = by (some_is x.hand.held at_do.has_held) where
    at_do : SuitsPlace (place.Do (ask.Make capacity)) x.hand
    at_do = subst (λ (p : Place). SuitsPlace p x.hand) at fits

    called : x.hand.called ≡ None
    called = none_of x.hand.called at_do.has_called

    home : AreHome resumes blocks x.place x'.place x.hand x'.hand places places kept speakers
    home i b e = by (inside i b e) where
      by : (q : Speaker T) × (slice_get speakers i ≡ Some q) × ((q.body ≡ b) ⊎ ((over ≡ true) × IsLast resumes blocks s.table (record { 0 = i }) q b)) → (q : Speaker T) × (slice_get speakers i ≡ Some q) × (q.body ≡ b)
      by (q, has, inl as_was) = (q, has, as_was)
      by (q, has, inr later) = absurd (true≢false (sym later.0 ∙ lasts))

    asked_so : (q : Speaker T) (h : HeldParts T) → x.hand.held ≡ Some h → StandsSo resumes blocks x.place (woke_in x.hand h.g.0) q h.body → resumes q.body q.woke (ask.Make capacity) h.body
    asked_so q h held stands =
        let here : StandsSo resumes blocks (place.Do (ask.Make capacity)) (Some h.woke) q h.body =
        subst (λ (w : Option Woke). StandsSo resumes blocks (place.Do (ask.Make capacity)) w q h.body) (woke_here x.hand h held) (subst (λ (p : Place). StandsSo resumes blocks p (woke_in x.hand h.g.0) q h.body) at stands) in
        so here where
          so : StandsSo resumes blocks (place.Do (ask.Make capacity)) (Some h.woke) q h.body → resumes q.body q.woke (ask.Make capacity) h.body
          so (inl asks) = asks
          so (inr end) = absurd end.0

    by : (h : HeldParts T) × (x.hand.held ≡ Some h) → Passes
    by (h, held) =
        let own = stand h.g.0 h.body (runs_here x.hand h held) in
        let q : Speaker T = own.0 in
        let q' : Speaker T = record { body = h.body; woke = woke.NoMemory } in
        let held' : (plain x'.hand).held ≡ Some (record { g = h.g; woke = woke.NoMemory; body = tt }) =
        ap (λ (k : PlainHand). k.held) hand ∙ ap (λ (o : Option (HeldParts T)). retold woke.NoMemory (option_map plain_held o)) held in
        let called' : (plain x'.hand).called ≡ None = ap (λ (k : PlainHand). k.called) hand ∙ ap (option_map plain_called) called in (
          slice_set speakers h.g.0 q',
          None ∷ [],
          refl,
          (
            slice_set speakers h.g.0 q',
            record {
              lasts = none;
              m = m;
              g = h.g;
              runs = runs h.g (ap held_number held);
              before = q;
              has = own.1;
              capacity = capacity;
              after = h.body;
              asks = asked_so q h held own.2;
              wants = subst (λ (d : Call). WantsMemory limits d s) calls_it wanted;
              goes = refl;
            },
            (refl, refl),
          ),
          touched resumes blocks x.place x'.place x.hand x'.hand places places kept speakers h.g.0 q q' h.body own.1 (runs_alone x.hand h held called)
              (λ i apart. none_from_plain x'.hand i (runs_alone (plain x'.hand) (record { g = h.g; woke = woke.NoMemory; body = tt }) held' called' i apart))
              (ap (λ (o : Option T). first_of o (slice_index_or places h.g.0 None)) (runs_here x.hand h held)) (inl (ap is_some (runs_here x.hand h held))) refl
              (λ some. stands_new resumes blocks x'.place (woke_in x'.hand h.g.0) q' h.body (ap due_at there) refl
              (inr (sym (plain_woke x'.hand h.g.0) ∙ woke_here (plain x'.hand) (record { g = h.g; woke = woke.NoMemory; body = tt }) held'))) home over s.table,
        )

  pub passes : Passes
  passes = by (down z x.place c why (plain x.hand) (subst (TellsPlace x.place) is (tells_place (seen x) x.place))) where
    by : TurnedDown z x.place c why (plain x.hand) → Passes
    by (inl (there, hand)) =
        same (hands ∙ hand) (λ i q b stands.
        inr (subst IsEnd (sym (goes ∙ there)) tt, subst (λ (w : Option Woke). StandsLast resumes blocks w q b) (sym (told_same (hands ∙ hand) i)) (last_of resumes blocks x.place (woke_in x.hand i) q b stands)))
    by (inr (inl (capacity, at, out_of, calls_it, there, hand))) = unmade capacity at calls_it (goes ∙ there) (hands ∙ hand) (wants out_of).0 (wants out_of).1 (wants out_of).2
    by (inr (inr (inl (there, hand)))) =
        same (hands ∙ hand) (λ i q b stands. subst (λ (p : Place). StandsSo resumes blocks p (woke_in x'.hand i) q b) (sym (goes ∙ there))
        (subst (λ (w : Option Woke). StandsSo resumes blocks x.place w q b) (sym (told_same (hands ∙ hand) i)) stands))
    by (inr (inr (inr (none, none', hand)))) =
        same (hands ∙ hand) (λ i q b stands. quiet resumes blocks x.place x'.place (woke_in x.hand i) (woke_in x'.hand i) q b none (ap due_at goes ∙ none') (told_same (hands ∙ hand) i)
        (λ end. absurd (subst IsEndAct is (end_act (seen x) x.place end))) stands)

-- A value that is given back

none_is : {A : Type 0} (o : Option A) → IsNone o → o ≡ None
none_is None e = refl
none_is (Some x) e = absurd (true≢false e)

module _ (hand : PlainHand) (one : IsNone hand.held ⊎ IsNone hand.called) where
  -- what is in hand then was, and is to be told the same
  pub given_in : (which : Value) (i : ℕ) → IsSome (body_in (but (Some which) hand) i) → IsSome (body_in hand i) × (woke_in (but (Some which) hand) i ≡ woke_in hand i)
  given_in value.Held i some = by one where
    by : IsNone hand.held ⊎ IsNone hand.called → IsSome (body_in hand i) × (None ≡ woke_in hand i)
    by (inl none) =
        let held : hand.held ≡ None = none_is hand.held none in
        (subst (λ (o : Option (HeldParts Unit)). IsSome (first_of (held_body o i) (called_body hand.called i))) (sym held) some, sym (ap (λ (o : Option (HeldParts Unit)). held_woke o i) held))
    by (inr none) =
        let called : hand.called ≡ None = none_is hand.called none in
        absurd (true≢false (sym some ∙ ap (λ (o : Option (CalledParts Unit)). is_some (called_body o i)) called))
  given_in value.Called i some = (runs (held_body hand.held i) some, refl) where
    runs : (o : Option Unit) → IsSome (first_of o None) → IsSome (first_of o (called_body hand.called i))
    runs None none = absurd (true≢false (sym none))
    runs (Some b) e = refl
  given_in value.ToClaim i some = (some, refl)
  given_in value.ToStore i some = (some, refl)
  given_in value.Proc i some = (some, refl)
