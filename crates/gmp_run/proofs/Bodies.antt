-- Bodies in hand are led on by the acts of a machine.
use Rattle.std.proofs.Common.{◌≡◌, ℕ, Bool, true, false, List, [], ◌∷◌, ◌++◌, Option, None, Some, refl, sym, ap, subst, ◌∙◌}
use Rattle.std.specs.Prelude.{◌==◌, if◌then◌else◌}
use Rattle.std.specs.Option.{option_map}
use Rattle.gmp_base.specs.declared.ask.Ask.{Ask}
use Rattle.gmp_driver.specs.declared.act.Act.{Act}
use Rattle.gmp_driver.specs.declared.act.Act.TheVariants as act
use Rattle.gmp_driver.specs.declared.act.Told.{Told}
use Rattle.gmp_driver.specs.declared.act.Told.TheVariants as told
use Rattle.gmp_driver.specs.declared.place.Place.{Place}
use Rattle.gmp_driver.specs.declared.place.Place.TheVariants as place
use Rattle.gmp_driver.specs.declared.registers.CalledParts.{CalledParts}
use Rattle.gmp_driver.specs.declared.registers.HeldParts.{HeldParts}
use Rattle.gmp_driver.specs.declared.registers.Registers.{Registers}
use Rattle.gmp_driver.specs.declared.seen.Seen.{Seen}
use Rattle.gmp_driver.specs.Bodies.{with_body, with_body_at}
use Rattle.gmp_driver.specs.Machine.{Machine}
use Rattle.gmp_driver.specs.Registers.{first_of}
use Rattle.gmp_driver.specs.Seen.{seen}
use Rattle.gmp_driver.specs.Table.{act_at, after, next_act, next_place}
use Rattle.gmp_turn.specs.Values.{body_in, called_body, held_body, where_is}
use Rattle.gmp_said.specs.Standing.{HandSaid, due_at}
use Rattle.gmp_said.proofs.Places.{IsEndAct, TellsPlace, end_act, stays as stays_none, tells_place}
use Rattle.gmp_said.proofs.Standing.{asks_said, brings_said, quiet_said, same_said}
use Rattle.gmp_worker.specs.Local.{CalledWhere, HeldWhere, IsOfBodyOrClock}
use Rattle.gmp_said.specs.Said.{Blocks, Resumes}
use Rattle.gmp_run.specs.Bodies.{BodyGoesAll, BodyGoesOn, HandLed, IsLed, IsLedIf}

module _ {T : Type 0} (resumes : Resumes T) (blocks : Blocks T) where
  abbrev Led : T → T → Type 0
  Led = IsLed resumes blocks

  abbrev LedIf : Option T → Option T → Type 0
  LedIf = IsLedIf resumes blocks

  -- One body

  pub stays : (b : T) → Led b b
  stays b = ([], refl)

  once : (b c : T) → BodyGoesOn resumes blocks b c → Led b c
  once b c one = (c ∷ [], (one, refl))

  all_join : (a b c : T) (front rest : List T) → BodyGoesAll resumes blocks a front b → BodyGoesAll resumes blocks b rest c → BodyGoesAll resumes blocks a (front ++ rest) c
  all_join a b c [] rest is more = subst (λ (x : T). BodyGoesAll resumes blocks x rest c) is more
  all_join a b c (mid ∷ front) rest (one, others) more = (one, all_join mid b c front rest others more)

  pub led_join : (a b c : T) → Led a b → Led b c → Led a c
  led_join a b c (front, first) (rest, more) = (front ++ rest, all_join a b c front rest first more)

  -- One that may be there

  if_stays : (o : Option T) → LedIf o o
  if_stays None = tt
  if_stays (Some b) = stays b

  if_join : (o p q : Option T) → LedIf o p → LedIf p q → LedIf o q
  if_join None None None first more = tt
  if_join (Some a) (Some b) (Some c) first more = led_join a b c first more
  if_join None None (Some c) first more = absurd more
  if_join (Some a) (Some b) None first more = absurd more
  if_join None (Some b) q first more = absurd first
  if_join (Some a) None q first more = absurd first

  -- those with this number, or what else is there
  at_number : (number : ℕ) (b c : T) (rest : Option T) (i : ℕ) → Led b c → LedIf (first_of (where_is number b i) rest) (first_of (where_is number c i) rest)
  at_number number b c rest i led = by (number == i) where
    by : (same : Bool) → LedIf (first_of (if same then Some b else None) rest) (first_of (if same then Some c else None) rest)
    by true = led
    by false = if_stays rest

  held_led : (o : Option (HeldParts T)) (h : HeldParts T) (left : T) (rest : Option T) (i : ℕ) → o ≡ Some h → Led h.body left
      → LedIf (first_of (held_body o i) rest) (first_of (held_body (option_map (λ (x : HeldParts T). record x { body = left }) o) i) rest)
  held_led None h left rest i is led = absurd (let no : None ≡ Some h = is in cc)
  held_led (Some x) h left rest i is led =
      let same : Some x ≡ Some h = is in
      let e : x ≡ h = cc in
      at_number x.g.0 x.body left rest i (subst (λ (y : HeldParts T). Led y.body left) (sym e) led)

  called_led : (o : Option (CalledParts T)) (c : CalledParts T) (left : T) (first : Option T) (i : ℕ) → o ≡ Some c → Led c.body left
      → LedIf (first_of first (called_body o i)) (first_of first (called_body (option_map (λ (x : CalledParts T). record x { body = left }) o) i))
  called_led o c left (Some b) i is led = stays b
  called_led None c left None i is led = absurd (let no : None ≡ Some c = is in cc)
  called_led (Some x) c left None i is led =
      let same : Some x ≡ Some c = is in
      let e : x ≡ c = cc in
      by (x.g.0 == i) (subst (λ (y : CalledParts T). Led y.body left) (sym e) led) where
        by : (same : Bool) → Led x.body left → LedIf (if same then Some x.body else None) (if same then Some left else None)
        by true led = led
        by false led = tt

  -- In hand

  module _ {Q : Type 0} where
    abbrev Hand : Registers T Q → Registers T Q → Type 0
    Hand = HandLed resumes blocks

    pub hand_stays : (hand : Registers T Q) → Hand hand hand
    hand_stays hand i = if_stays (body_in hand i)

    pub hand_join : (a b c : Registers T Q) → Hand a b → Hand b c → Hand a c
    hand_join a b c first more i = if_join (body_in a i) (body_in b i) (body_in c i) (first i) (more i)

    -- of a machine that is as it was
    pub same_led : (x y : Machine T Q) → x ≡ y → ∥ HandLed resumes blocks x.hand y.hand ∥₁
    same_led x y is = ∣ subst (λ (z : Machine T Q). HandLed resumes blocks x.hand z.hand) is (hand_stays x.hand) ∣₁

    -- the same goroutines are in hand
    pub same_hand_led : (hand hand' : Registers T Q) → hand'.held ≡ hand.held → hand'.called ≡ hand.called → Hand hand hand'
    same_hand_led hand hand' held called i =
        subst (λ (o : Option T). LedIf (body_in hand i) o)
        (sym (ap (λ (o : Option (HeldParts T)). first_of (held_body o i) (called_body hand'.called i)) held ∙ ap (λ (o : Option (CalledParts T)). first_of (held_body hand.held i) (called_body o i)) called)) (if_stays (body_in hand i))

    -- of a machine that is as it was
    pub seen_said : (x y : Machine T Q) → x ≡ y → ∥ HandSaid resumes blocks x.place x.hand y.place y.hand ∥₁
    seen_said x y is = ∣ same_said resumes blocks x.place y.place x.hand y.hand (ap (λ (z : Machine T Q). z.place) is) (ap (λ (z : Machine T Q). z.hand) is) ∣₁

    -- Another body in hand, which was resumed or blocked. At a place where neither comes next, no body is exchanged.

    at_run : (s : Seen) (here : Place) (hand : Registers T Q) (h : HeldParts T) (left : T) → act_at s here ≡ act.Resume → hand.held ≡ Some h → Led h.body left → Hand hand (with_body_at here hand left)
    at_run s place.Run hand h left is held led = λ i. held_led hand.held h left (called_body hand.called i) i held led
    at_run s place.Block hand h left is held led = absurd (let no : act.Block ≡ act.Resume = is in cc)
    at_run s _ hand h left is held led = hand_stays hand

    at_block : (s : Seen) (here : Place) (hand : Registers T Q) (c : CalledParts T) (left : T) → act_at s here ≡ act.Block → hand.called ≡ Some c → Led c.body left → Hand hand (with_body_at here hand left)
    at_block s place.Block hand c left is called led = λ i. called_led hand.called c left (held_body hand.held i) i called led
    at_block s place.Run hand c left is called led = absurd (let no : act.Resume ≡ act.Block = is in cc)
    at_block s _ hand c left is called led = hand_stays hand

    module _ (x x' : Machine T Q) where
      -- what it is told of this body, which another is then
      abbrev pub TellsOf : T → Type 0
      TellsOf b = (left : T) × (what : Told) × BodyGoesOn resumes blocks b left × (x' ≡ after (with_body x left) what)

      same_hand : (hand : Registers T Q) → x'.hand ≡ hand → Hand x.hand hand → Hand x.hand x'.hand
      same_hand hand is led = subst (λ (h : Registers T Q). Hand x.hand h) (sym is) led

      held_is : (o : Option (HeldParts T)) (fact : HeldParts T → Type 0) → HeldWhere (record x { hand = record x.hand { held = o } }) fact → (h : HeldParts T) × (o ≡ Some h) × fact h
      held_is None fact w = absurd w
      held_is (Some h) fact w = (h, refl, w)

      called_is : (o : Option (CalledParts T)) (fact : CalledParts T → Type 0) → CalledWhere (record x { hand = record x.hand { called = o } }) fact → (c : CalledParts T) × (o ≡ Some c) × fact c
      called_is None fact w = absurd w
      called_is (Some c) fact w = (c, refl, w)

      pub resumed_led : (fact : HeldParts T → Type 0) → next_act x ≡ act.Resume → HeldWhere x fact → ((h : HeldParts T) → fact h → TellsOf h.body) → Hand x.hand x'.hand
      resumed_led fact is w of =
          let h = held_is x.hand.held fact w in
          let t = of h.0 h.2 in
          same_hand (with_body_at x.place x.hand t.0) (ap (λ (y : Machine T Q). y.hand) t.3) (at_run (seen x) x.place x.hand h.0 t.0 is h.1 (once h.0.body t.0 t.2))

      pub blocked_led : (fact : CalledParts T → Type 0) → next_act x ≡ act.Block → CalledWhere x fact → ((c : CalledParts T) → fact c → TellsOf c.body) → Hand x.hand x'.hand
      blocked_led fact is w of =
          let c = called_is x.hand.called fact w in
          let t = of c.0 c.2 in
          same_hand (with_body_at x.place x.hand t.0) (ap (λ (y : Machine T Q). y.hand) t.3) (at_block (seen x) x.place x.hand c.0 t.0 is c.1 (once c.0.body t.0 t.2))

      place_at : (a : Act) → next_act x ≡ a → TellsPlace x.place a
      place_at a is = subst (TellsPlace x.place) is (tells_place (seen x) x.place)

      abbrev Said : Type 0
      Said = HandSaid resumes blocks x.place x.hand x'.place x'.hand

      -- at another place, with another hand
      said_at : (here there : Place) (hand' : Registers T Q) → x.place ≡ here → x'.place ≡ there → x'.hand ≡ hand' → HandSaid resumes blocks here x.hand there hand' → Said
      said_at here there hand' at now hand said =
          subst (λ (p : Place). HandSaid resumes blocks p x.hand x'.place x'.hand) (sym at)
          (subst (λ (p : Place). HandSaid resumes blocks here x.hand p x'.hand) (sym now) (subst (λ (h : Registers T Q). HandSaid resumes blocks here x.hand there h) (sym hand) said))

      pub resumed_said : (fact : HeldParts T → Type 0) → next_act x ≡ act.Resume → HeldWhere x fact
          → ((h : HeldParts T) → fact h → (left : T) × (asked : Ask) × resumes h.body h.woke asked left × (x' ≡ after (with_body x left) (told.Asked asked))) → Said
      resumed_said fact is w of =
          let h = held_is x.hand.held fact w in
          let t = of h.0 h.2 in
          let at : x.place ≡ place.Run = place_at act.Resume is in
          said_at place.Run (place.Do t.1) (with_body_at place.Run x.hand t.0) at
          (ap (λ (y : Machine T Q). y.place) t.3 ∙ ap (λ (p : Place). next_place (seen (with_body x t.0)) p (told.Asked t.1)) at)
          (ap (λ (y : Machine T Q). y.hand) t.3 ∙ ap (λ (p : Place). with_body_at p x.hand t.0) at) (asks_said resumes blocks t.1 x.hand h.0 t.0 h.1 t.2)

      pub blocked_said : (fact : CalledParts T → Type 0) → next_act x ≡ act.Block → CalledWhere x fact
          → ((c : CalledParts T) → fact c → (left : T) × (number : ℕ) × blocks c.body number left × (x' ≡ after (with_body x left) (told.Number number))) → Said
      blocked_said fact is w of =
          let c = called_is x.hand.called fact w in
          let t = of c.0 c.2 in
          let at : x.place ≡ place.Block = place_at act.Block is in
          said_at place.Block (place.Leave t.1) (with_body_at place.Block x.hand t.0) at
          (ap (λ (y : Machine T Q). y.place) t.3 ∙ ap (λ (p : Place). next_place (seen (with_body x t.0)) p (told.Number t.1)) at)
          (ap (λ (y : Machine T Q). y.hand) t.3 ∙ ap (λ (p : Place). with_body_at p x.hand t.0) at) (brings_said resumes blocks t.1 x.hand c.0 t.0 c.1 t.2)

      read_said : (moment : ℕ) (minded : Option ℕ) → next_act x ≡ act.Clock minded → x' ≡ after x (told.Moment moment) → Said
      read_said moment minded act_is is =
          let none = place_at (act.Clock minded) act_is in
          quiet_said resumes blocks x.place x'.place x.hand x'.hand none (ap (λ (y : Machine T Q). due_at y.place) is ∙ stays_none (seen x) x.place (told.Moment moment) none tt)
          (λ end. absurd (subst IsEndAct act_is (end_act (seen x) x.place end))) (ap (λ (y : Machine T Q). y.hand.held) is) (ap (λ (y : Machine T Q). y.hand.called) is)

      -- whichever comes next
      pub local_said : (moment : ℕ) → IsOfBodyOrClock (next_act x) → (next_act x ≡ act.Resume → Said) → (next_act x ≡ act.Block → Said)
          → ((minded : Option ℕ) → next_act x ≡ act.Clock minded → x' ≡ after x (told.Moment moment)) → Said
      local_said moment of resumes_it blocks_it reads = by (next_act x) refl of where
        by : (a : Act) → next_act x ≡ a → IsOfBodyOrClock a → Said
        by act.Resume is of = resumes_it is
        by act.Block is of = blocks_it is
        by (act.Clock minded) is of = read_said moment minded is (reads minded is)
        by (act.Call asked) is of = absurd of
        by act.Pop is of = absurd of
        by act.Drain is of = absurd of
        by act.Push is of = absurd of
        by act.Hunt is of = absurd of
        by (act.Steal v) is of = absurd of
        by (act.Surrender which) is of = absurd of
        by act.Nothing is of = absurd of

      pub read_led : (moment : ℕ) → x' ≡ after x (told.Moment moment) → Hand x.hand x'.hand
      read_led moment is = same_hand x.hand (ap (λ (y : Machine T Q). y.hand) is) (hand_stays x.hand)

      -- whichever comes next
      pub local_led : (moment : ℕ) → IsOfBodyOrClock (next_act x) → (next_act x ≡ act.Resume → Hand x.hand x'.hand) → (next_act x ≡ act.Block → Hand x.hand x'.hand)
          → ((minded : Option ℕ) → next_act x ≡ act.Clock minded → x' ≡ after x (told.Moment moment)) → Hand x.hand x'.hand
      local_led moment of resumes_it blocks_it reads = by (next_act x) refl of where
        by : (a : Act) → next_act x ≡ a → IsOfBodyOrClock a → Hand x.hand x'.hand
        by act.Resume is of = resumes_it is
        by act.Block is of = blocks_it is
        by (act.Clock minded) is of = read_led moment (reads minded is)
        by (act.Call asked) is of = absurd of
        by act.Pop is of = absurd of
        by act.Drain is of = absurd of
        by act.Push is of = absurd of
        by act.Hunt is of = absurd of
        by (act.Steal v) is of = absurd of
        by (act.Surrender which) is of = absurd of
        by act.Nothing is of = absurd of
