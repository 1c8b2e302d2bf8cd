-- A machine's call leads the speakers, by its place and what it has in hand.
use Rattle.std.specs.Prelude.{slice_index_or}
use Rattle.std.proofs.Common.{◌≡◌, ◌⊎◌, inl, inr, ℕ, Bool, List, Option, None, Some, IsSome, is_some, slice_set, refl, sym, ap, subst, ◌∙◌}
use Rattle.std.specs.Option.{option_map}
use Rattle.gmp_base.specs.declared.ask.Ask.{Ask}
use Rattle.gmp_base.specs.declared.ask.Ask.TheVariants as ask
use Rattle.gmp_base.specs.declared.ask.Woke.{Woke}
use Rattle.gmp_base.specs.declared.ask.Woke.TheVariants as woke
use Rattle.gmp_base.specs.declared.number.GNo.{GNo}
use Rattle.gmp_base.specs.declared.number.MNo.{MNo}
use Rattle.gmp_base.specs.declared.number.Readiness.{Readiness}
use Rattle.gmp_seq.specs.declared.call.Call.{Call}
use Rattle.gmp_seq.specs.declared.call.Call.TheVariants as call
use Rattle.gmp_seq.specs.declared.call.Reply.{Reply}
use Rattle.gmp_seq.specs.Step.{woke_after}
use Rattle.gmp_seq.specs.Table.{Table, IsCalling, IsRunning, stored_at}
use Rattle.gmp_driver.specs.declared.act.Act.TheVariants as act
use Rattle.gmp_driver.specs.declared.act.Told.TheVariants as told
use Rattle.gmp_driver.specs.declared.place.Place.{Place}
use Rattle.gmp_driver.specs.declared.place.Place.TheVariants as place
use Rattle.gmp_driver.specs.declared.registers.CalledParts.{CalledParts}
use Rattle.gmp_driver.specs.declared.registers.HeldParts.{HeldParts}
use Rattle.gmp_driver.specs.declared.seen.Seen.{Seen}
use Rattle.gmp_driver.specs.Fits.{SuitsPlace}
use Rattle.gmp_driver.specs.Machine.{Machine}
use Rattle.gmp_driver.specs.Registers.{first_of}
use Rattle.gmp_driver.specs.Seen.{seen}
use Rattle.gmp_driver.specs.Table.{call_for, next_act, next_place}
use Rattle.gmp_driver.specs.Uses.{Uses}
use Rattle.gmp_driver.proofs.Uses.{none_of, uses}
use Rattle.gmp_acts.specs.Hands.{PlainHand, claimed_parts, hand_after, plain, plain_called, plain_held}
use Rattle.gmp_acts.specs.System.{called_number, held_number}
use Rattle.gmp_turn.specs.Values.{KeepsValues, body_in}
use Rattle.gmp_said.specs.Said.{AsksFor, Blocks, LeadsSpeakers, Resumes, Speaker}
use Rattle.gmp_said.specs.Standing.{HandStands, StandsSo, due_at, woke_in}
use Rattle.gmp_said.proofs.Hands.{ComesBack, KeepsGoroutines, Leaves, asked_leaves, leave_leaves, own_keeps}
use Rattle.gmp_said.proofs.Places.{IsEndAct, IsOwn, TellsPlace, answered, end_act, stays, tells_place}
use Rattle.gmp_said.proofs.Standing.{calls_alone, calls_here, leaves_none, leaves_woke, none_from_plain, none_in, plain_in, plain_woke, quiet, runs_alone, runs_here, stands_new, woke_here, woke_none}
use Rattle.gmp_said.proofs.Turning.{AreHome, Turned, get_back, left_alone, some_is, some_not_none, touched}

none_under : {A B : Type 0} (f : A → B) (o : Option A) → o ≡ None → option_map f o ≡ None
none_under f o e = ap (option_map f) e

-- a claim, or another call
claim_or : (c : Call) → ((r : Readiness) × (c ≡ call.Claim r)) ⊎ ((r : Readiness) → c ≡ call.Claim r → ⊥)
claim_or (call.Claim r) = inl (r, refl)
claim_or _ = inr (λ r e. let wrong : ⊥ = cc in wrong)

module _ {T : Type 0} (resumes : Resumes T) (blocks : Blocks T) where
  -- the call for an ask
  leads_asked : (m : MNo) (asked : Ask) (answer : Reply) (t : Table) (x y : List (Speaker T)) → AsksFor resumes blocks m (call_for asked) answer t x y → LeadsSpeakers resumes blocks m (call_for asked) answer t x y
  leads_asked m ask.Yield answer t x y h = h
  leads_asked m ask.Exit answer t x y h = h
  leads_asked m _ answer t x y h = h

  -- a call of the machine's own that is no claim
  leads_own : (m : MNo) (c : Call) (answer : Reply) (t : Table) (x : List (Speaker T)) → IsOwn c → ((r : Readiness) → c ≡ call.Claim r → ⊥) → LeadsSpeakers resumes blocks m c answer t x x
  leads_own m (call.Claim r) answer t x own other = absurd (other r refl)
  leads_own m call.Acquire answer t x own other = refl
  leads_own m call.Take answer t x own other = refl
  leads_own m (call.Put r) answer t x own other = refl
  leads_own m call.Spin answer t x own other = refl
  leads_own m call.Woken answer t x own other = refl
  leads_own m call.Keep answer t x own other = refl
  leads_own m call.Unspin answer t x own other = refl
  leads_own m call.Poke answer t x own other = refl
  leads_own m call.Declare answer t x own other = refl
  leads_own m call.Bare answer t x own other = refl
  leads_own m call.Park answer t x own other = refl
  leads_own m (call.Tick moment) answer t x own other = refl
  leads_own m _ answer t x own other = absurd own

  module _ {Q : Type 0} (x x' : Machine T Q) (m : MNo) (c : Call) (answer : Reply) (t : Table) (is : next_act x ≡ act.Call c) (fits : SuitsPlace x.place x.hand) (z : Seen) (goes : x'.place ≡ next_place z x.place (told.Replied answer))
      (hands : plain x'.hand ≡ hand_after t c answer (plain x.hand)) (places places' : List (Option T)) (kept : KeepsValues (body_in x.hand) (body_in x'.hand) places places') (speakers : List (Speaker T))
      (stand : HandStands resumes blocks speakers x.place x.hand) (home : AreHome resumes blocks x.place x'.place x.hand x'.hand places places' kept speakers)
      (runs : (g : GNo) → held_number x.hand.held ≡ Some g → IsRunning t g m) (calls : (g : GNo) → called_number x.hand.called ≡ Some g → IsCalling t g m) (over' : Bool) (t' : Table) where
    abbrev After : List (Speaker T) → Type 0
    After now = Turned resumes blocks x.place x'.place x.hand x'.hand places places' kept speakers over' t' now

    abbrev pub Leads : Type 0
    Leads = (now : List (Speaker T)) × LeadsSpeakers resumes blocks m c answer t speakers now × After now

    -- The body of the goroutine that runs asked for it

    asked_leads : (asked : Ask) → x.place ≡ place.Do asked → c ≡ call_for asked → Leads
    asked_leads asked at calls_it = by (some_is x.hand.held at_do.has_held) where
      at_do : SuitsPlace (place.Do asked) x.hand
      at_do = subst (λ (p : Place). SuitsPlace p x.hand) at fits

      called : x.hand.called ≡ None
      called = none_of x.hand.called at_do.has_called

      due : due_at x'.place ≡ None
      due = ap due_at goes ∙ (ap (λ (p : Place). due_at (next_place z p (told.Replied answer))) at ∙ answered asked answer)

      asked_so : (s : Speaker T) (h : HeldParts T) → x.hand.held ≡ Some h → StandsSo resumes blocks x.place (woke_in x.hand h.g.0) s h.body → resumes s.body s.woke asked h.body
      asked_so s h held stands =
          let here : StandsSo resumes blocks (place.Do asked) (Some h.woke) s h.body =
          subst (λ (w : Option Woke). StandsSo resumes blocks (place.Do asked) w s h.body) (woke_here x.hand h held) (subst (λ (p : Place). StandsSo resumes blocks p (woke_in x.hand h.g.0) s h.body) at stands) in
          so here where
            so : StandsSo resumes blocks (place.Do asked) (Some h.woke) s h.body → resumes s.body s.woke asked h.body
            so (inl asks) = asks
            so (inr end) = absurd end.0

      by : (h : HeldParts T) × (x.hand.held ≡ Some h) → Leads
      by (h, held) =
          let own = stand h.g.0 h.body (runs_here x.hand h held) in
          let s : Speaker T = own.0 in
          let s' : Speaker T = record { body = h.body; woke = woke_after answer } in
          let leaves : Leaves (plain_held h) (woke_after answer) (plain x'.hand) =
          subst (Leaves (plain_held h) (woke_after answer)) (sym (hands ∙ ap (λ (d : Call). hand_after t d answer (plain x.hand)) calls_it))
          (asked_leaves t asked answer (plain x.hand) (plain_held h) (ap (option_map plain_held) held) (none_under plain_called x.hand.called called)) in (
            slice_set speakers h.g.0 s',
            subst (λ (d : Call). LeadsSpeakers resumes blocks m d answer t speakers (slice_set speakers h.g.0 s')) (sym calls_it) (leads_asked m asked answer t speakers (slice_set speakers h.g.0 s') (record {
              g = h.g;
              runs = runs h.g (ap held_number held);
              before = s;
              has = own.1;
              asked = asked;
              after = h.body;
              asks = asked_so s h held own.2;
              calls = refl;
              goes = refl;
            })),
            touched resumes blocks x.place x'.place x.hand x'.hand places places' kept speakers h.g.0 s s' h.body own.1 (runs_alone x.hand h held called)
                (λ i apart. none_from_plain x'.hand i (leaves_none (plain x'.hand) (plain_held h) (woke_after answer) leaves i apart))
                (ap (λ (o : Option T). first_of o (slice_index_or places h.g.0 None)) (runs_here x.hand h held)) (inl (ap is_some (runs_here x.hand h held))) refl
                (λ some. stands_new resumes blocks x'.place (woke_in x'.hand h.g.0) s' h.body due refl (told_so h (leaves_woke (plain x'.hand) (plain_held h) (woke_after answer) leaves))) home over' t',
          ) where
            told_so : (h : HeldParts T) → (woke_in (plain x'.hand) h.g.0 ≡ None) ⊎ (woke_in (plain x'.hand) h.g.0 ≡ Some (woke_after answer)) → (woke_in x'.hand h.g.0 ≡ None) ⊎ (woke_in x'.hand h.g.0 ≡ Some (woke_after answer))
            told_so h (inl e) = inl (sym (plain_woke x'.hand h.g.0) ∙ e)
            told_so h (inr e) = inr (sym (plain_woke x'.hand h.g.0) ∙ e)

    -- It ends a blocking call

    left_leads : (number : ℕ) → x.place ≡ place.Leave number → c ≡ call.Leave number → Leads
    left_leads number at calls_it = by (some_is x.hand.called at_leave.has_called) where
      at_leave : SuitsPlace (place.Leave number) x.hand
      at_leave = subst (λ (p : Place). SuitsPlace p x.hand) at fits

      held : x.hand.held ≡ None
      held = none_of x.hand.held at_leave.has_held

      brought : (s : Speaker T) (k : CalledParts T) → StandsSo resumes blocks x.place (woke_in x.hand k.g.0) s k.body → blocks s.body number k.body
      brought s k stands =
          let here : StandsSo resumes blocks (place.Leave number) None s k.body =
          subst (λ (w : Option Woke). StandsSo resumes blocks (place.Leave number) w s k.body) (woke_none x.hand held k.g.0) (subst (λ (p : Place). StandsSo resumes blocks p (woke_in x.hand k.g.0) s k.body) at stands) in
          so here where
            so : StandsSo resumes blocks (place.Leave number) None s k.body → blocks s.body number k.body
            so (inl brings) = brings
            so (inr end) = absurd end.0

      gone_or : (k : CalledParts T) → ComesBack (plain_called k) number answer (plain x'.hand) → (i : ℕ) → (k.g.0 ≡ i → ⊥) → body_in (plain x'.hand) i ≡ None
      gone_or k (inl (p, runs_so, held', called')) i apart = runs_alone (plain x'.hand) (record { g = k.g; woke = woke.Number number; body = tt }) held' called' i apart
      gone_or k (inr (held', called')) i apart = none_in (plain x'.hand) held' called' i

      stands_then : (k : CalledParts T) → ComesBack (plain_called k) number answer (plain x'.hand) → IsSome (body_in x'.hand k.g.0)
          → StandsSo resumes blocks x'.place (woke_in x'.hand k.g.0) (record { body = k.body; woke = woke.Number number }) k.body
      stands_then k (inl (p, runs_so, held', called')) some =
          let due : due_at x'.place ≡ None =
          ap due_at goes ∙ ap (λ (q : Place). due_at (next_place z q (told.Replied answer))) at ∙ ap (λ (a : Reply). due_at (next_place z (place.Leave number) (told.Replied a))) runs_so in
          stands_new resumes blocks x'.place (woke_in x'.hand k.g.0) (record { body = k.body; woke = woke.Number number }) k.body due refl
          (inr (sym (plain_woke x'.hand k.g.0) ∙ woke_here (plain x'.hand) (record { g = k.g; woke = woke.Number number; body = tt }) held'))
      stands_then k (inr (held', called')) some = absurd (some_not_none (body_in x'.hand k.g.0) some (none_from_plain x'.hand k.g.0 (none_in (plain x'.hand) held' called' k.g.0)))

      by : (k : CalledParts T) × (x.hand.called ≡ Some k) → Leads
      by (k, called) =
          let own = stand k.g.0 k.body (calls_here x.hand k called held) in
          let s : Speaker T = own.0 in
          let s' : Speaker T = record { body = k.body; woke = woke.Number number } in
          let comes : ComesBack (plain_called k) number answer (plain x'.hand) =
          subst (ComesBack (plain_called k) number answer) (sym (hands ∙ ap (λ (d : Call). hand_after t d answer (plain x.hand)) calls_it))
          (leave_leaves t number answer (plain x.hand) (plain_called k) (ap (option_map plain_called) called) (none_under plain_held x.hand.held held)) in (
            slice_set speakers k.g.0 s',
            subst (λ (d : Call). LeadsSpeakers resumes blocks m d answer t speakers (slice_set speakers k.g.0 s')) (sym calls_it) (record {
              g = k.g;
              calls = calls k.g (ap called_number called);
              before = s;
              has = own.1;
              after = k.body;
              brings = brought s k own.2;
              goes = refl;
            }),
            touched resumes blocks x.place x'.place x.hand x'.hand places places' kept speakers k.g.0 s s' k.body own.1 (calls_alone x.hand k called held)
                (λ i apart. none_from_plain x'.hand i (gone_or k comes i apart))
                (ap (λ (o : Option T). first_of o (slice_index_or places k.g.0 None)) (calls_here x.hand k called held)) (inl (ap is_some (calls_here x.hand k called held))) refl
                (stands_then k comes) home over' t',
          )

    -- It is the machine's own

    claim_leads : (r : Readiness) → due_at x.place ≡ None → c ≡ call.Claim r → Leads
    claim_leads r none calls_it = by (some_is (body_in x'.hand r.g.0) (sym (plain_in x'.hand r.g.0) ∙ ap is_some (runs_here (plain x'.hand) (claimed_parts t r) held'))) where
      u : Uses (call.Claim r) x.hand
      u = subst (λ (d : Call). Uses d x.hand) calls_it (uses x c is fits)

      claimed : plain x'.hand ≡ hand_after t (call.Claim r) answer (plain x.hand)
      claimed = hands ∙ ap (λ (d : Call). hand_after t d answer (plain x.hand)) calls_it

      held' : (plain x'.hand).held ≡ Some (claimed_parts t r)
      held' = ap (λ (h : PlainHand). h.held) claimed

      called' : (plain x'.hand).called ≡ None
      called' = ap (λ (h : PlainHand). h.called) claimed ∙ none_under plain_called x.hand.called u.2

      due : due_at x'.place ≡ None
      due = ap due_at goes ∙ stays z x.place (told.Replied answer) none tt

      by : (b : T) × (body_in x'.hand r.g.0 ≡ Some b) → Leads
      by (b, there_is) =
          let was : slice_index_or places r.g.0 None ≡ Some b =
          sym (ap (λ (o : Option T). first_of o (slice_index_or places r.g.0 None)) (none_in x.hand u.1 u.2 r.g.0)) ∙ (sym (kept.same r.g.0) ∙ ap (λ (o : Option T). first_of o (slice_index_or places' r.g.0 None)) there_is) in
          let own = home r.g.0 b (get_back places r.g.0 b was) in
          let s : Speaker T = own.0 in
          let s' : Speaker T = record { body = s.body; woke = stored_at t r.g } in (
            slice_set speakers r.g.0 s',
            subst (λ (d : Call). LeadsSpeakers resumes blocks m d answer t speakers (slice_set speakers r.g.0 s')) (sym calls_it) (record { before = s; has = own.1; goes = refl }),
            touched resumes blocks x.place x'.place x.hand x'.hand places places' kept speakers r.g.0 s s' b own.1 (λ i apart. none_in x.hand u.1 u.2 i)
                (λ i apart. none_from_plain x'.hand i (runs_alone (plain x'.hand) (claimed_parts t r) held' called' i apart))
                (ap (λ (o : Option T). first_of o (slice_index_or places r.g.0 None)) (none_in x.hand u.1 u.2 r.g.0) ∙ was) (inr (ap is_some there_is)) own.2
                (λ some. stands_new resumes blocks x'.place (woke_in x'.hand r.g.0) s' b due own.2 (inr (sym (plain_woke x'.hand r.g.0) ∙ woke_here (plain x'.hand) (claimed_parts t r) held'))) home over' t',
          )

    own_leads : due_at x.place ≡ None → IsOwn c → ((r : Readiness) → c ≡ call.Claim r → ⊥) → Leads
    own_leads none own other = (
      speakers,
      leads_own m c answer t speakers own other,
      left_alone resumes blocks x.place x'.place x.hand x'.hand places places' kept speakers same_in so stand over' t' (λ i b e. let was = home i b e in (was.0, was.1, inl was.2)),
    ) where
      keeps : KeepsGoroutines (plain x.hand) (plain x'.hand)
      keeps = subst (KeepsGoroutines (plain x.hand)) (sym hands) (own_keeps t c answer (plain x.hand) own other)

      same_in : (i : ℕ) → is_some (body_in x'.hand i) ≡ is_some (body_in x.hand i)
      same_in i = sym (plain_in x'.hand i) ∙ (ap is_some (same_body i) ∙ plain_in x.hand i) where
        same_body : (i : ℕ) → body_in (plain x'.hand) i ≡ body_in (plain x.hand) i
        same_body i = rw (keeps.0, keeps.1) refl

      told_same : (i : ℕ) → woke_in x'.hand i ≡ woke_in x.hand i
      told_same i = sym (plain_woke x'.hand i) ∙ (plain_same i ∙ plain_woke x.hand i) where
        plain_same : (i : ℕ) → woke_in (plain x'.hand) i ≡ woke_in (plain x.hand) i
        plain_same i = rw keeps.0 refl

      so : (i : ℕ) (s : Speaker T) (b : T) → StandsSo resumes blocks x.place (woke_in x.hand i) s b → StandsSo resumes blocks x'.place (woke_in x'.hand i) s b
      so i s b stands =
          quiet resumes blocks x.place x'.place (woke_in x.hand i) (woke_in x'.hand i) s b none (ap due_at goes ∙ stays z x.place (told.Replied answer) none tt) (told_same i)
          (λ end. absurd (subst IsEndAct is (end_act (seen x) x.place end))) stands

    pub leads : Leads
    leads = by (subst (TellsPlace x.place) is (tells_place (seen x) x.place)) where
      by : TellsPlace x.place (act.Call c) → Leads
      by (inl (asked, at, calls_it)) = asked_leads asked at calls_it
      by (inr (inl (number, at, calls_it))) = left_leads number at calls_it
      by (inr (inr (none, own))) = which (claim_or c) where
        which : ((r : Readiness) × (c ≡ call.Claim r)) ⊎ ((r : Readiness) → c ≡ call.Claim r → ⊥) → Leads
        which (inl (r, calls_it)) = claim_leads r none calls_it
        which (inr other) = own_leads none own other
