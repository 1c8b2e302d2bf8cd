-- How the goroutines in a machine's hand stand to their speakers, as the machine acts.
use Rattle.std.proofs.Common.{◌≡◌, ◌⊎◌, inl, inr, ℕ, ◌==◌, Bool, true, false, Option, None, Some, is_some, if◌then◌else◌, refl, sym, ap, subst, ◌∙◌}
use Rattle.std.proofs.lemmas.Bool.{eq-eqb, false≢true, ne_eqb}
use Rattle.std.specs.Option.{option_map}
use Rattle.gmp_base.specs.declared.ask.Ask.{Ask}
use Rattle.gmp_base.specs.declared.ask.Woke.{Woke}
use Rattle.gmp_driver.specs.declared.place.Place.{Place}
use Rattle.gmp_driver.specs.declared.place.Place.TheVariants as place
use Rattle.gmp_driver.specs.declared.registers.CalledParts.{CalledParts}
use Rattle.gmp_driver.specs.declared.registers.HeldParts.{HeldParts}
use Rattle.gmp_driver.specs.declared.registers.Registers.{Registers}
use Rattle.gmp_driver.specs.Bodies.{with_body_at}
use Rattle.gmp_driver.specs.Registers.{first_of}
use Rattle.gmp_acts.specs.Hands.{PlainHand, plain, plain_called, plain_held}
use Rattle.gmp_acts.specs.Sound.{IsEnd}
use Rattle.gmp_acts.specs.System.{called_number, held_number}
use Rattle.gmp_turn.specs.Values.{body_in, called_body, held_body, where_is}
use Rattle.gmp_said.specs.Said.{Blocks, Resumes, Speaker}
use Rattle.gmp_said.specs.Standing.{HandSaid, Stands, StandsLast, StandsSo, due_at, held_woke, woke_in}
use Rattle.gmp_said.proofs.Hands.{Leaves}

-- In plain parts

pub plain_woke : {T Q : Type 0} (hand : Registers T Q) (i : ℕ) → woke_in (plain hand) i ≡ woke_in hand i
plain_woke {T} {Q} hand i = by hand.held where
  by : (o : Option (HeldParts T)) → held_woke (option_map plain_held o) i ≡ held_woke o i
  by None = refl
  by (Some h) = refl

some_if : {A B : Type 0} (b : Bool) (x : A) (y : B) (o : Option A) (p : Option B) → is_some o ≡ is_some p → is_some (first_of (if b then Some x else None) o) ≡ is_some (first_of (if b then Some y else None) p)
some_if true x y o p e = refl
some_if false x y o p e = e

one_if : {A B : Type 0} (b : Bool) (x : A) (y : B) → is_some (if b then Some x else None) ≡ is_some (if b then Some y else None)
one_if true x y = refl
one_if false x y = refl

pub plain_in : {T Q : Type 0} (hand : Registers T Q) (i : ℕ) → is_some (body_in (plain hand) i) ≡ is_some (body_in hand i)
plain_in {T} {Q} hand i = by hand.held hand.called where
  called : (c : Option (CalledParts T)) → is_some (called_body (option_map plain_called c) i) ≡ is_some (called_body c i)
  called None = refl
  called (Some c) = one_if (c.g.0 == i) tt c.body

  by : (o : Option (HeldParts T)) (c : Option (CalledParts T)) → is_some (first_of (held_body (option_map plain_held o) i) (called_body (option_map plain_called c) i)) ≡ is_some (first_of (held_body o i) (called_body c i))
  by None c = called c
  by (Some h) c = some_if (h.g.0 == i) tt h.body _ _ (called c)

none_some : {A : Type 0} (o : Option A) → is_some o ≡ false → o ≡ None
none_some None e = refl
none_some (Some x) e = absurd (false≢true (sym e))

-- nothing of this number is in hand, in plain parts
pub none_from_plain : {T Q : Type 0} (hand : Registers T Q) (i : ℕ) → body_in (plain hand) i ≡ None → body_in hand i ≡ None
none_from_plain hand i none = none_some (body_in hand i) (sym (plain_in hand i) ∙ ap is_some none)

-- One goroutine in hand

apart_none : {A : Type 0} (g i : ℕ) (x : A) → (g ≡ i → ⊥) → where_is g x i ≡ None
apart_none g i x apart = rw (ne_eqb g i apart) refl

here_some : {A : Type 0} (g : ℕ) (x : A) → where_is g x g ≡ Some x
here_some g x = rw (eq-eqb g g refl) refl

module _ {T Q : Type 0} (hand : Registers T Q) where
  -- the one that runs is the only one
  pub runs_alone : (h : HeldParts T) → hand.held ≡ Some h → hand.called ≡ None → (i : ℕ) → (h.g.0 ≡ i → ⊥) → body_in hand i ≡ None
  runs_alone h held called i apart =
      ap (λ (o : Option (HeldParts T)). first_of (held_body o i) (called_body hand.called i)) held
      ∙ ap (λ (o : Option T). first_of o (called_body hand.called i)) (apart_none h.g.0 i h.body apart)
      ∙ ap (λ (c : Option (CalledParts T)). called_body c i) called

  pub calls_alone : (c : CalledParts T) → hand.called ≡ Some c → hand.held ≡ None → (i : ℕ) → (c.g.0 ≡ i → ⊥) → body_in hand i ≡ None
  calls_alone c called held i apart =
      ap (λ (o : Option (HeldParts T)). first_of (held_body o i) (called_body hand.called i)) held
      ∙ ap (λ (o : Option (CalledParts T)). called_body o i) called
      ∙ apart_none c.g.0 i c.body apart

  pub none_in : hand.held ≡ None → hand.called ≡ None → (i : ℕ) → body_in hand i ≡ None
  none_in held called i =
      ap (λ (o : Option (HeldParts T)). first_of (held_body o i) (called_body hand.called i)) held ∙ ap (λ (o : Option (CalledParts T)). called_body o i) called

  pub runs_here : (h : HeldParts T) → hand.held ≡ Some h → body_in hand h.g.0 ≡ Some h.body
  runs_here h held =
      ap (λ (o : Option (HeldParts T)). first_of (held_body o h.g.0) (called_body hand.called h.g.0)) held
      ∙ ap (λ (o : Option T). first_of o (called_body hand.called h.g.0)) (here_some h.g.0 h.body)

  pub calls_here : (c : CalledParts T) → hand.called ≡ Some c → hand.held ≡ None → body_in hand c.g.0 ≡ Some c.body
  calls_here c called held =
      ap (λ (o : Option (HeldParts T)). first_of (held_body o c.g.0) (called_body hand.called c.g.0)) held
      ∙ ap (λ (o : Option (CalledParts T)). called_body o c.g.0) called
      ∙ here_some c.g.0 c.body

  pub woke_here : (h : HeldParts T) → hand.held ≡ Some h → woke_in hand h.g.0 ≡ Some h.woke
  woke_here h held = ap (λ (o : Option (HeldParts T)). held_woke o h.g.0) held ∙ here_some h.g.0 h.woke

  pub woke_none : hand.held ≡ None → (i : ℕ) → woke_in hand i ≡ None
  woke_none held i = ap (λ (o : Option (HeldParts T)). held_woke o i) held

module _ (hand : PlainHand) (h : HeldParts Unit) (told : Woke) (leaves : Leaves h told hand) where
  pub leaves_none : (i : ℕ) → (h.g.0 ≡ i → ⊥) → body_in hand i ≡ None
  leaves_none i apart = ap (λ (o : Option Unit). first_of o (called_body hand.called i)) (held leaves.0) ∙ called leaves.1 where
    held : (hand.held ≡ None) ⊎ (hand.held ≡ Some (record { g = h.g; woke = told; body = tt })) → held_body hand.held i ≡ None
    held (inl e) = ap (λ (o : Option (HeldParts Unit)). held_body o i) e
    held (inr e) = ap (λ (o : Option (HeldParts Unit)). held_body o i) e ∙ apart_none h.g.0 i tt apart

    called : (hand.called ≡ None) ⊎ (hand.called ≡ Some (record { g = h.g; body = tt })) → called_body hand.called i ≡ None
    called (inl e) = ap (λ (o : Option (CalledParts Unit)). called_body o i) e
    called (inr e) = ap (λ (o : Option (CalledParts Unit)). called_body o i) e ∙ apart_none h.g.0 i tt apart

  pub leaves_woke : (woke_in hand h.g.0 ≡ None) ⊎ (woke_in hand h.g.0 ≡ Some told)
  leaves_woke = by leaves.0 where
    by : (hand.held ≡ None) ⊎ (hand.held ≡ Some (record { g = h.g; woke = told; body = tt })) → (woke_in hand h.g.0 ≡ None) ⊎ (woke_in hand h.g.0 ≡ Some told)
    by (inl e) = inl (ap (λ (o : Option (HeldParts Unit)). held_woke o h.g.0) e)
    by (inr e) = inr (ap (λ (o : Option (HeldParts Unit)). held_woke o h.g.0) e ∙ here_some h.g.0 told)

-- Standing

module _ {T : Type 0} (resumes : Resumes T) (blocks : Blocks T) where
  abbrev Is : Option (Ask ⊎ ℕ) → Option Woke → Speaker T → T → Type 0
  Is = Stands resumes blocks

  abbrev So : Place → Option Woke → Speaker T → T → Type 0
  So = StandsSo resumes blocks

  abbrev Last : Option Woke → Speaker T → T → Type 0
  Last = StandsLast resumes blocks

  pub last : (due : Option (Ask ⊎ ℕ)) (told : Option Woke) (s : Speaker T) (b : T) → Is due told s b → Last told s b
  last (Some (inl asked)) (Some told) s b is = inr (asked, is)
  last (Some (inl asked)) None s b is = inl is
  last (Some (inr number)) (Some told) s b is = inl (ap (λ (q : Speaker T). q.body) is)
  last (Some (inr number)) None s b is = inr (number, is)
  last None (Some told) s b is = inl (ap (λ (q : Speaker T). q.body) is)
  last None None s b is = inl is

  -- wherever it stands
  pub last_of : (here : Place) (told : Option Woke) (s : Speaker T) (b : T) → So here told s b → Last told s b
  last_of here told s b (inl is) = last (due_at here) told s b is
  last_of here told s b (inr is) = is.1

  -- nothing is due of a body, before and after
  pub quiet : (here there : Place) (told told' : Option Woke) (s : Speaker T) (b : T) → due_at here ≡ None → due_at there ≡ None → told' ≡ told → (IsEnd here → IsEnd there) → So here told s b → So there told' s b
  quiet here there told told' s b was is same end (inl stands) =
      inl (subst (λ (due : Option (Ask ⊎ ℕ)). Is due told' s b) (sym is) (subst (λ (w : Option Woke). Is None w s b) (sym same) (subst (λ (due : Option (Ask ⊎ ℕ)). Is due told s b) was stands)))
  quiet here there told told' s b was is same end (inr stands) = inr (end stands.0, subst (λ (w : Option Woke). Last w s b) (sym same) stands.1)

  -- where nothing is due, it is what is told and the body alone
  pub stands_new : (there : Place) (told : Option Woke) (s : Speaker T) (b : T) → due_at there ≡ None → s.body ≡ b → (told ≡ None) ⊎ (told ≡ Some s.woke) → So there told s b
  stands_new there told s b is same (inl none) = inl (subst (λ (due : Option (Ask ⊎ ℕ)). Is due told s b) (sym is) (subst (λ (w : Option Woke). Is None w s b) (sym none) same))
  stands_new there told s b is same (inr some) =
      inl (subst (λ (due : Option (Ask ⊎ ℕ)). Is due told s b) (sym is) (subst (λ (w : Option Woke). Is None w s b) (sym some) (ap (λ (c : T). let q : Speaker T = record { body = c; woke = s.woke } in q) same)))

  -- a body asks
  asks_if : (asked : Ask) (h : HeldParts T) (after : T) (same : Bool) (rest : Option T) (c : T) → resumes h.body h.woke asked after → first_of (if same then Some after else None) rest ≡ Some c
      → (b : T) × (first_of (if same then Some h.body else None) rest ≡ Some b) × ((s : Speaker T) → So place.Run (if same then Some h.woke else None) s b → So (place.Do asked) (if same then Some h.woke else None) s c)
  asks_if asked h after true rest c asks e =
      let same : Some after ≡ Some c = e in
      let is : after ≡ c = cc in
      (h.body, refl, says is) where
        says : after ≡ c → (s : Speaker T) → So place.Run (Some h.woke) s h.body → So (place.Do asked) (Some h.woke) s c
        says is s (inl stands) = inl (subst (λ (x : T). resumes s.body s.woke asked x) is (subst (λ (q : Speaker T). resumes q.body q.woke asked after) (sym stands) asks))
        says is s (inr stands) = absurd stands.0
  asks_if asked h after false rest c asks e = (c, e, says) where
    says : (s : Speaker T) → So place.Run None s c → So (place.Do asked) None s c
    says s (inl stands) = inl stands
    says s (inr stands) = absurd stands.0

  -- its blocking call is made
  brings_if : (number : ℕ) (k : CalledParts T) (after : T) (same : Bool) (c : T) → blocks k.body number after → (if same then Some after else None) ≡ Some c
      → (b : T) × ((if same then Some k.body else None) ≡ Some b) × ((s : Speaker T) → So place.Block None s b → So (place.Leave number) None s c)
  brings_if number k after true c brings e =
      let same : Some after ≡ Some c = e in
      let is : after ≡ c = cc in
      (k.body, refl, says is) where
        says : after ≡ c → (s : Speaker T) → So place.Block None s k.body → So (place.Leave number) None s c
        says is s (inl stands) = inl (subst (λ (x : T). blocks s.body number x) is (subst (λ (x : T). blocks x number after) (sym stands) brings))
        says is s (inr stands) = absurd stands.0
  brings_if number k after false c brings e = absurd (let wrong : None ≡ Some c = e in cc)

  -- one that runs is as it was
  runs_on : (number : ℕ) (told : Woke) (s : Speaker T) (b : T) → So place.Block (Some told) s b → So (place.Leave number) (Some told) s b
  runs_on number told s b (inl stands) = inl stands
  runs_on number told s b (inr stands) = absurd stands.0

  held_or : (number : ℕ) (h : HeldParts T) (k : CalledParts T) (after : T) (runs calls : Bool) (c : T) → blocks k.body number after → first_of (if runs then Some h.body else None) (if calls then Some after else None) ≡ Some c
      → (b : T) × (first_of (if runs then Some h.body else None) (if calls then Some k.body else None) ≡ Some b)
      × ((s : Speaker T) → So place.Block (if runs then Some h.woke else None) s b → So (place.Leave number) (if runs then Some h.woke else None) s c)
  held_or number h k after true calls c brings e = (c, e, λ s stands. runs_on number h.woke s c stands)
  held_or number h k after false calls c brings e = brings_if number k after calls c brings e

  -- A machine by itself

  module _ {Q : Type 0} where
    abbrev Said : Place → Registers T Q → Place → Registers T Q → Type 0
    Said = HandSaid resumes blocks

    pub said_stays : (here : Place) (hand : Registers T Q) → Said here hand here hand
    said_stays here hand = record { held = refl; called = refl; said = λ i c is. (c, is, λ s stands. stands) }

    pub said_join : (p q r : Place) (a b c : Registers T Q) → Said p a q b → Said q b r c → Said p a r c
    said_join p q r a b c first more = record {
      held = more.held ∙ first.held;
      called = more.called ∙ first.called;
      said = λ i x is.
          let later = more.said i x is in
          let sooner = first.said i later.0 later.1 in
          (sooner.0, sooner.1, λ s stands. later.2 s (sooner.2 s stands));
    }

    -- of a machine that is as it was
    pub same_said : (p q : Place) (a b : Registers T Q) → p ≡ q → a ≡ b → Said p a q b
    same_said p q a b place hand = subst (λ (r : Place). Said p a r b) place (subst (λ (h : Registers T Q). Said p a p h) hand (said_stays p a))

    -- the goroutines in hand are the same, and nothing of theirs is due
    pub quiet_said : (here there : Place) (hand hand' : Registers T Q) → due_at here ≡ None → due_at there ≡ None → (IsEnd here → IsEnd there) → hand'.held ≡ hand.held → hand'.called ≡ hand.called → Said here hand there hand'
    quiet_said here there hand hand' was is end held called = record {
      held = ap held_number held;
      called = ap called_number called;
      said = λ i c e. (
        c,
        sym (ap (λ (o : Option (HeldParts T)). first_of (held_body o i) (called_body hand'.called i)) held ∙ ap (λ (o : Option (CalledParts T)). first_of (held_body hand.held i) (called_body o i)) called) ∙ e,
        λ s stands. quiet here there (woke_in hand i) (woke_in hand' i) s c was is (ap (λ (o : Option (HeldParts T)). held_woke o i) held) end stands,
      );
    }

    pub asks_said : (asked : Ask) (hand : Registers T Q) (h : HeldParts T) (after : T) → hand.held ≡ Some h → resumes h.body h.woke asked after → Said place.Run hand (place.Do asked) (with_body_at place.Run hand after)
    asks_said asked hand h after is asks = record { held = number hand.held; called = refl; said = λ i c e. by i c hand.held is e } where
      number : (o : Option (HeldParts T)) → held_number (option_map (λ (x : HeldParts T). record x { body = after }) o) ≡ held_number o
      number None = refl
      number (Some x) = refl

      by : (i : ℕ) (c : T) (o : Option (HeldParts T)) → o ≡ Some h → first_of (held_body (option_map (λ (x : HeldParts T). record x { body = after }) o) i) (called_body hand.called i) ≡ Some c
          → (b : T) × (first_of (held_body o i) (called_body hand.called i) ≡ Some b)
          × ((s : Speaker T) → So place.Run (held_woke o i) s b → So (place.Do asked) (held_woke (option_map (λ (x : HeldParts T). record x { body = after }) o) i) s c)
      by i c None no_held e = absurd (let wrong : None ≡ Some h = no_held in cc)
      by i c (Some x) some e =
          let same : Some x ≡ Some h = some in
          let it : x ≡ h = cc in
          asks_if asked x after (x.g.0 == i) (called_body hand.called i) c (subst (λ (y : HeldParts T). resumes y.body y.woke asked after) (sym it) asks) e

    pub brings_said : (number : ℕ) (hand : Registers T Q) (k : CalledParts T) (after : T) → hand.called ≡ Some k → blocks k.body number after → Said place.Block hand (place.Leave number) (with_body_at place.Block hand after)
    brings_said number hand k after is brings = record { held = refl; called = its hand.called; said = λ i c e. by i c hand.held hand.called is e } where
      its : (p : Option (CalledParts T)) → called_number (option_map (λ (x : CalledParts T). record x { body = after }) p) ≡ called_number p
      its None = refl
      its (Some x) = refl

      by : (i : ℕ) (c : T) (o : Option (HeldParts T)) (p : Option (CalledParts T)) → p ≡ Some k → first_of (held_body o i) (called_body (option_map (λ (x : CalledParts T). record x { body = after }) p) i) ≡ Some c
          → (b : T) × (first_of (held_body o i) (called_body p i) ≡ Some b) × ((s : Speaker T) → So place.Block (held_woke o i) s b → So (place.Leave number) (held_woke o i) s c)
      by i c o None none e = absurd (let wrong : None ≡ Some k = none in cc)
      by i c None (Some x) some e =
          let same : Some x ≡ Some k = some in
          let it : x ≡ k = cc in
          brings_if number x after (x.g.0 == i) c (subst (λ (y : CalledParts T). blocks y.body number after) (sym it) brings) e
      by i c (Some h) (Some x) some e =
          let same : Some x ≡ Some k = some in
          let it : x ≡ k = cc in
          held_or number h x after (h.g.0 == i) (x.g.0 == i) c (subst (λ (y : CalledParts T). blocks y.body number after) (sym it) brings) e
