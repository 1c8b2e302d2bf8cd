-- A body that is lent, and what the core is once another was left behind the loan.
use Rattle.std.proofs.Common.{◌≡◌, ◌≢◌, ◌⊎◌, inl, inr, ℕ, ◌<◌, Bool, true, false, if◌then◌else◌, List, map, length, get_or, set, refl, sym, ap, ◌∙◌, subst, arith, Option, Some, None, IsSome, IfSome, is_some}
use base.Fml.{GName}
use borrow.Follows.Closed.{read_of}
use mathlib.Core.Option as maybe
use Rattle.std.proofs.lemmas.Bool.{eq-eqb, ne_eqb}
use Rattle.std.proofs.lemmas.List.{ext_get_or, get_or-set_other, get_or-set_same, length-set, map-set, set-get_or}
use Rattle.std.proofs.lemmas.List.FromFn.{get_or-map-range_with_len, length-map-range_with_len}
use Rattle.std.proofs.lemmas.Option.{get_or_from_slice_get, slice_get-get_or, slice_get-map, slice_get_within}
use Rattle.std.specs.Borrow.{MutBor}
use Rattle.std.specs.List.{slice_get}
use Rattle.std.specs.Option.{option_copied_mut, option_map}
use Rattle.gmp_base.specs.declared.number.GNo.{GNo}
use Rattle.gmp_base.specs.declared.number.MNo.{MNo}
use Rattle.gmp_seq.specs.declared.call.Entry.{Entry}
use Rattle.gmp_driver.specs.declared.place.Place.{Place}
use Rattle.gmp_driver.specs.declared.place.Place.TheVariants as place
use Rattle.gmp_driver.specs.declared.registers.CalledParts.{CalledParts}
use Rattle.gmp_driver.specs.declared.registers.HeldParts.{HeldParts}
use Rattle.gmp_driver.specs.declared.registers.Registers.{Registers}
use Rattle.gmp_driver.specs.Bodies.{body_at, with_body, with_body_at}
use Rattle.gmp_driver.specs.Fits.{SuitsPlace}
use Rattle.gmp_driver.specs.Machine.{Machine, held_at}
use Rattle.gmp_driver.specs.Registers.{first_of}
use Rattle.gmp_acts.specs.Hands.{PlainMachine, plain, plain_called, plain_held, plain_machine}
use Rattle.gmp_acts.specs.Lookouts.{IsWatchful}
use Rattle.gmp_acts.specs.Sound.{IsSound}
use Rattle.gmp_acts.specs.System.{called_number, held_number, machine_at}
use Rattle.gmp_acts.proofs.Lands.{some_of}
use Rattle.gmp_acts.proofs.Plain.{plain_fits}
use Rattle.gmp_turn.specs.Values.{AreOut, body_in, called_body, held_body, owner_in, where_is}
use Rattle.gmp_core.specs.Inside.{IsCore, Parts, joined_system_of, system_of}
use Rattle.gmp_core.specs.Whole.{IsBodyInHand, Whole, first_with, goroutine_at, goroutine_in_hand, stock_of, stock_with, values_of, with_before, with_body_in_hand}
use Rattle.gmp_core.proofs.Keeping.{bodies_apart}
use Rattle.gmp_core.proofs.Stock.{first_only, first_same, nat_or, no_some, none_or_some, other_at, same_at}
use Rattle.gmp_core.proofs.Tying.{agrees, machine_is}

-- One hand

where_here : {X : Type 0} (number : ℕ) (x : X) → where_is number x number ≡ Some x
where_here {X = X} number x = ap (λ (b : Bool). if b then (let o : Option X = Some x in o) else None) (eq-eqb number number refl)

where_none : {X : Type 0} (number i : ℕ) (x : X) → i ≢ number → where_is number x i ≡ None
where_none {X = X} number i x ne = ap (λ (b : Bool). if b then (let o : Option X = Some x in o) else None) (ne_eqb number i (λ e. ne (sym e)))

none_of : {A : Type 0} (o : Option A) → is_some o ≡ false → o ≡ None
none_of None h = refl
none_of (Some x) h = absurd (let no : true ≡ false = h in cc)

-- the body of this goroutine is in hand at the place, and another may stand there
record Lends {T Q : Type 0} (here : Place) (hand : Registers T Q) : Type 0 where
  g : GNo
  body : T
  told : is_some (held_at here (option_map plain_held hand.held)) ≡ true
  in_hand : goroutine_at here (plain hand) ≡ Some g
  its : body_at here hand ≡ Some body
  found : body_in hand g.0 ≡ Some body
  put : (w : T) → body_in (with_body_at here hand w) g.0 ≡ Some w
  rest : (w : T) (i : ℕ) → i ≢ g.0 → body_in (with_body_at here hand w) i ≡ body_in hand i

record LendsNone {T Q : Type 0} (here : Place) (hand : Registers T Q) : Type 0 where
  told : is_some (held_at here (option_map plain_held hand.held)) ≡ false
  in_hand : goroutine_at here (plain hand) ≡ None
  none : body_at here hand ≡ None
  same : (w : T) → with_body_at here hand w ≡ hand

at_run : {T Q : Type 0} (hand : Registers T Q) (h : HeldParts T) → hand.held ≡ Some h → Lends place.Run hand
at_run {T = T} hand h e = record {
  g = h.g;
  body = h.body;
  told = ap (λ (o : Option (HeldParts T)). is_some (held_at place.Run (option_map plain_held o))) e;
  in_hand = ap (λ (o : Option (HeldParts T)). held_number (option_map plain_held o)) e;
  its = ap (λ (o : Option (HeldParts T)). option_map (λ (x : HeldParts T). x.body) o) e;
  found = first h.g.0 ∙ ap (λ (o : Option T). first_of o (called_body hand.called h.g.0)) (where_here h.g.0 h.body);
  put = λ w. behind w h.g.0 ∙ ap (λ (o : Option T). first_of o (called_body hand.called h.g.0)) (where_here h.g.0 w);
  rest = λ w i ne. behind w i ∙ ap (λ (o : Option T). first_of o (called_body hand.called i)) (where_none h.g.0 i w ne ∙ sym (where_none h.g.0 i h.body ne)) ∙ sym (first i);
} where
  first : (i : ℕ) → body_in hand i ≡ first_of (where_is h.g.0 h.body i) (called_body hand.called i)
  first i = ap (λ (o : Option (HeldParts T)). first_of (held_body o i) (called_body hand.called i)) e

  behind : (w : T) (i : ℕ) → body_in (with_body_at place.Run hand w) i ≡ first_of (where_is h.g.0 w i) (called_body hand.called i)
  behind w i = ap (λ (o : Option (HeldParts T)). first_of (held_body (option_map (λ (x : HeldParts T). record x { body = w }) o) i) (called_body hand.called i)) e

at_block : {T Q : Type 0} (hand : Registers T Q) (c : CalledParts T) → hand.held ≡ None → hand.called ≡ Some c → Lends place.Block hand
at_block {T = T} hand c none e = record {
  g = c.g;
  body = c.body;
  told = refl;
  in_hand = ap (λ (o : Option (CalledParts T)). called_number (option_map plain_called o)) e;
  its = ap (λ (o : Option (CalledParts T)). option_map (λ (x : CalledParts T). x.body) o) e;
  found = first c.g.0 ∙ where_here c.g.0 c.body;
  put = λ w. behind w c.g.0 ∙ where_here c.g.0 w;
  rest = λ w i ne. behind w i ∙ where_none c.g.0 i w ne ∙ sym (where_none c.g.0 i c.body ne) ∙ sym (first i);
} where
  first : (i : ℕ) → body_in hand i ≡ where_is c.g.0 c.body i
  first i = ap (λ (o : Option (HeldParts T)). first_of (held_body o i) (called_body hand.called i)) none ∙ ap (λ (o : Option (CalledParts T)). called_body o i) e

  behind : (w : T) (i : ℕ) → body_in (with_body_at place.Block hand w) i ≡ where_is c.g.0 w i
  behind w i =
      ap (λ (o : Option (HeldParts T)). first_of (held_body o i) (called_body (option_map (λ (x : CalledParts T). record x { body = w }) hand.called) i)) none
      ∙ ap (λ (o : Option (CalledParts T)). called_body (option_map (λ (x : CalledParts T). record x { body = w }) o) i) e

lends_or : {T Q : Type 0} (here : Place) (hand : Registers T Q) → SuitsPlace here hand → Lends here hand ⊎ LendsNone here hand
lends_or place.Run hand fits = (let h = some_of hand.held fits.has_held in inl (at_run hand h.0 h.1))
lends_or place.Block hand fits = (let c = some_of hand.called fits.has_called in inl (at_block hand c.0 (none_of hand.held fits.has_held) c.1))
lends_or here hand fits = inr (record { told = refl; in_hand = refl; none = refl; same = λ w. refl })

held_same : {T : Type 0} (w : T) (o : Option (HeldParts T)) → option_map plain_held (option_map (λ (x : HeldParts T). record x { body = w }) o) ≡ option_map plain_held o
held_same w None = refl
held_same w (Some h) = refl

called_same : {T : Type 0} (w : T) (o : Option (CalledParts T)) → option_map plain_called (option_map (λ (x : CalledParts T). record x { body = w }) o) ≡ option_map plain_called o
called_same w None = refl
called_same w (Some c) = refl

plain_same : {T Q : Type 0} (here : Place) (hand : Registers T Q) (w : T) → plain (with_body_at here hand w) ≡ plain hand
plain_same {T = T} place.Run hand w = ap (λ (o : Option (HeldParts Unit)). record (plain hand) { held = o }) (held_same w hand.held)
plain_same place.Block hand w = ap (λ (o : Option (CalledParts Unit)). record (plain hand) { called = o }) (called_same w hand.called)
plain_same here hand w = refl

owner_same : {T Q : Type 0} (here : Place) (hand : Registers T Q) (w : T) → owner_in (with_body_at here hand w) ≡ owner_in hand
owner_same place.Run hand w = refl
owner_same place.Block hand w = refl
owner_same here hand w = refl

-- a body is in hand where one was
still_in : {T Q : Type 0} (here : Place) (hand : Registers T Q) (w : T) (i : ℕ) → Lends here hand ⊎ LendsNone here hand → IsSome (body_in (with_body_at here hand w) i) → IsSome (body_in hand i)
still_in {T = T} {Q = Q} here hand w i (inr l) some = subst (λ (y : Registers T Q). IsSome (body_in y i)) (l.same w) some
still_in {T = T} here hand w i (inl l) some = by (nat_or i l.g.0) where
  by : (i ≡ l.g.0) ⊎ (i ≢ l.g.0) → IsSome (body_in hand i)
  by (inl e) = subst (λ (j : ℕ). IsSome (body_in hand j)) (sym e) (ap is_some l.found)
  by (inr ne) = subst (λ (o : Option T). IsSome o) (l.rest w i ne) some

-- The stock

module _ {M X : Type 0} (f : M → ℕ → Option X) (ms : List M) (m : ℕ) (x : M) (places : List (Option X)) (is : slice_get ms m ≡ Some x) (g : ℕ) (within : g < length places)
    (others : (n : ℕ) (y : M) → n ≢ m → slice_get ms n ≡ Some y → f y g ≡ None) where
  abbrev value : List M → ℕ → Option X
  value l i = first_of (first_with (λ (y : M). f y i) l) (get_or places i None)

  value_at : (l : List M) (i : ℕ) (d : Option X) → i < length places → get_or (values_of f l places) i d ≡ value l i
  value_at l i d lt = get_or-map-range_with_len (value l) 0 (length places) i i d lt (omega arith)

  length_of : (l : List M) → length (values_of f l places) ≡ length places
  length_of l = length-map-range_with_len (value l) 0 (length places)

  -- what the machine has in hand is that of the stock
  pub stocked : (b : X) → f x g ≡ Some b → slice_get (values_of f ms places) g ≡ Some (Some b)
  stocked b has =
      slice_get-get_or (values_of f ms places) g None (rw (length_of ms) within)
      ∙ ap Some (value_at ms g None within ∙ ap (λ (o : Option X). first_of o (get_or places g None)) (first_only (λ y. f y g) ms m x is others ∙ has))

  module _ (x' : M) (w : X) (has : f x' g ≡ Some w) (rest : (i : ℕ) → i ≢ g → f x' i ≡ f x i) where
    here : value (set ms m x') g ≡ Some w
    here = ap (λ (o : Option X). first_of o (get_or places g None)) (first_only (λ y. f y g) (set ms m x') m x' (same_at ms m x' x is) (λ n y ne at. others n y ne (other_at ms m n x' y ne at)) ∙ has)

    there : (i : ℕ) → i ≢ g → value (set ms m x') i ≡ value ms i
    there i ne = ap (λ (o : Option X). first_of o (get_or places i None)) (first_same (λ y. f y i) ms m x x' is (rest i ne))

    at : (i : ℕ) → i < length places → (i ≡ g) ⊎ (i ≢ g) → get_or (values_of f (set ms m x') places) i None ≡ get_or (set (values_of f ms places) g (Some w)) i None
    at i lt (inl e) =
        value_at (set ms m x') i None lt ∙ ap (value (set ms m x')) e ∙ here ∙ sym (get_or-set_same (values_of f ms places) g (Some w) None (rw (length_of ms) within))
        ∙ ap (λ (j : ℕ). get_or (set (values_of f ms places) g (Some w)) j None) (sym e)
    at i lt (inr ne) = value_at (set ms m x') i None lt ∙ there i ne ∙ sym (value_at ms i None lt) ∙ sym (get_or-set_other (values_of f ms places) g i (Some w) None ne)

    -- with another in hand it is the stock with that one
    pub stock_put : values_of f (set ms m x') places ≡ set (values_of f ms places) g (Some w)
    stock_put =
        ext_get_or None _ _ (length_of (set ms m x') ∙ sym (length-set (values_of f ms places) g (Some w) ∙ length_of ms))
        (λ i lt. at i (subst (λ (n : ℕ). i < n) (length_of (set ms m x')) lt) (nat_or i g))

-- The core

put_here : {M : Type 0} (ms : List M) (m : ℕ) (x : M) → slice_get ms m ≡ Some x → set ms m x ≡ ms
put_here {M = M} ms m x is = ap (λ (y : M). set ms m y) (sym (get_or_from_slice_get ms m x x is)) ∙ set-get_or ms m x

fits_in : {T : Type 0} (c : Parts T) (m : MNo) (x : Machine T Unit) → slice_get c.machines m.0 ≡ Some x → (out : List Entry) → IsSound (joined_system_of out c) → SuitsPlace x.place x.hand
fits_in c m x is out s = (let mine = agrees out c m x is s in plain_fits x.hand x.place (mine.driver.fits (ap is_some mine.has_pass)))

module _ {T : Type 0} (c : Parts T) (m : MNo) (x : Machine T Unit) (is : slice_get c.machines m.0 ≡ Some x) (core : IsCore c) where
  abbrev lent : T → Parts T
  lent w = record c { machines = set c.machines m.0 (with_body x w) }

  either : Lends x.place x.hand ⊎ LendsNone x.place x.hand
  either = lends_or x.place x.hand (fits_in c m x is core.out core.sound)

  plain_is : slice_get (map plain_machine c.machines) m.0 ≡ Some (plain_machine x)
  plain_is = slice_get-map plain_machine c.machines m.0 ∙ ap (λ (o : Option (Machine T Unit)). option_map plain_machine o) is

  system_same : (w : T) → system_of (lent w) ≡ system_of c
  system_same w =
      let same : plain_machine (with_body x w) ≡ plain_machine x = ap (λ (h : Registers Unit Unit). record (plain_machine x) { hand = h }) (plain_same x.place x.hand w) in
      ap (λ (ms : List PlainMachine). record (system_of c) { machines = ms })
      (map-set plain_machine c.machines m.0 (with_body x w) ∙ ap (λ (y : PlainMachine). set (map plain_machine c.machines) m.0 y) same ∙ put_here (map plain_machine c.machines) m.0 (plain_machine x) plain_is)

  -- what is in hand is out of its place
  still_out : {X : Type 0} (f : Machine T Unit → ℕ → Option X) (x' : Machine T Unit) (places : List (Option X)) → ((i : ℕ) → IsSome (f x' i) → IsSome (f x i))
      → ((n : ℕ) (y : Machine T Unit) → slice_get c.machines n ≡ Some y → AreOut (f y) places) → (n : ℕ) (y : Machine T Unit) → slice_get (set c.machines m.0 x') n ≡ Some y → AreOut (f y) places
  still_out f x' places had out n y at = by (nat_or n m.0) where
    by : (n ≡ m.0) ⊎ (n ≢ m.0) → AreOut (f y) places
    by (inl e) = (
        let same : Some y ≡ Some x' = sym at ∙ ap (slice_get (set c.machines m.0 x')) e ∙ same_at c.machines m.0 x' x is in
        let its : x' ≡ y = cc in
        subst (λ (z : Machine T Unit). AreOut (f z) places) its (λ i some. out m.0 x is i (had i some)))
    by (inr ne) = out n y (other_at c.machines m.0 n x' y ne at)

  pub lent_core : (w : T) → IsCore (lent w)
  lent_core w = record {
    out = core.out;
    sound = subst IsSound (sym (ap (with_before core.out) (system_same w))) core.sound;
    watchful = subst IsWatchful (sym (ap (with_before core.out) (system_same w))) core.watchful;
    bodies = still_out (λ (y : Machine T Unit). body_in y.hand) (with_body x w) c.book.bodies (λ i. still_in x.place x.hand w i either) core.bodies;
    owners = still_out (λ (y : Machine T Unit). owner_in y.hand) (with_body x w) c.book.owners (λ i some. subst (λ (o : ℕ → Option Unit). IsSome (o i)) (owner_same x.place x.hand w) some) core.owners;
    tickets_room = core.tickets_room;
    few = core.few;
    lasts = core.lasts;
    fits = core.fits;
  }

  pub same_core : IsCore (record c { machines = set c.machines m.0 x })
  same_core = subst (λ (ms : List (Machine T Unit)). IsCore (record c { machines = ms })) (sym (put_here c.machines m.0 x is)) core

  abbrev stock : List (Option T)
  stock = stock_of c.machines c.book.bodies

  goroutine_is : goroutine_in_hand (system_of c) m ≡ goroutine_at x.place (plain x.hand)
  goroutine_is = ap (λ (p : PlainMachine). goroutine_at p.place p.hand) (machine_is c m x is)

  module _ (l : Lends x.place x.hand) where
    within : l.g.0 < length c.book.bodies
    within = slice_get_within c.book.bodies l.g.0 None (core.bodies m.0 x is l.g.0 (ap is_some l.found))

    others : (n : ℕ) (y : Machine T Unit) → n ≢ m.0 → slice_get c.machines n ≡ Some y → body_in y.hand l.g.0 ≡ None
    others n y ne at = by (none_or_some (body_in y.hand l.g.0)) where
      by : (body_in y.hand l.g.0 ≡ None) ⊎ IsSome (body_in y.hand l.g.0) → body_in y.hand l.g.0 ≡ None
      by (inl none) = none
      by (inr some) = absurd (no_some (body_in x.hand l.g.0) (bodies_apart core.out c m x is core.sound n l.g.0 y ne at some) (ap is_some l.found))

    stocked_at : slice_get stock l.g.0 ≡ Some (Some l.body)
    stocked_at = stocked (λ (y : Machine T Unit). body_in y.hand) c.machines m.0 x c.book.bodies is l.g.0 within others l.body l.found

    put_at : (w : T) → stock_of (lent w).machines c.book.bodies ≡ set stock l.g.0 (Some w)
    put_at w = stock_put (λ (y : Machine T Unit). body_in y.hand) c.machines m.0 x c.book.bodies is l.g.0 within others (with_body x w) w (l.put w) (l.rest w)

  stock_lent : (w : T) → stock_of (lent w).machines c.book.bodies ≡ stock_with (goroutine_in_hand (system_of c) m) w stock
  stock_lent w = by either ∙ ap (λ (o : Option GNo). stock_with o w stock) (sym goroutine_is) where
    by : Lends x.place x.hand ⊎ LendsNone x.place x.hand → stock_of (lent w).machines c.book.bodies ≡ stock_with (goroutine_at x.place (plain x.hand)) w stock
    by (inl l) = put_at l w ∙ ap (λ (o : Option GNo). stock_with o w stock) (sym l.in_hand)
    by (inr l) =
        ap (λ (h : Registers T Unit). stock_of (set c.machines m.0 (record x { hand = h })) c.book.bodies) (l.same w)
        ∙ ap (λ (ms : List (Machine T Unit)). stock_of ms c.book.bodies) (put_here c.machines m.0 x is) ∙ ap (λ (o : Option GNo). stock_with o w stock) (sym l.in_hand)

  abbrev whole : Whole T
  whole = record { system = system_of c; stock = stock; shelf = c.book.log.shelf }

  module _ (k : Whole T) (it : whole ≡ k) where
    -- what the core is then
    pub whole_lent : (w : T) → record { system = system_of (lent w); stock = stock_of (lent w).machines c.book.bodies; shelf = c.book.log.shelf } ≡ with_body_in_hand k m w
    whole_lent w =
        subst (λ (j : Whole T). record { system = system_of (lent w); stock = stock_of (lent w).machines c.book.bodies; shelf = c.book.log.shelf } ≡ with_body_in_hand j m w) it
        (λ i. record { system = system_same w i; stock = stock_lent w i; shelf = c.book.log.shelf })

    pub whole_same : record { system = system_of (record c { machines = set c.machines m.0 x }); stock = stock_of (set c.machines m.0 x) c.book.bodies; shelf = c.book.log.shelf } ≡ k
    whole_same =
        ap (λ (ms : List (Machine T Unit)). record { system = system_of (record c { machines = ms }); stock = stock_of ms c.book.bodies; shelf = c.book.log.shelf })
        (put_here c.machines m.0 x is) ∙ it

    module _ (r : Option (MutBor T)) (lends : option_copied_mut r ≡ body_at x.place x.hand) where
      some_is : is_some (option_copied_mut r) ≡ is_some (held_at (machine_at (system_of c) m).place (machine_at (system_of c) m).hand.held)
      some_is = ap is_some lends ∙ by either ∙ ap (λ (p : PlainMachine). is_some (held_at p.place p.hand.held)) (sym (machine_is c m x is)) where
        by : Lends x.place x.hand ⊎ LendsNone x.place x.hand → is_some (body_at x.place x.hand) ≡ is_some (held_at x.place (plain x.hand).held)
        by (inl l) = ap is_some l.its ∙ sym l.told
        by (inr l) = ap is_some l.none ∙ sym l.told

      pub lent_where_held : is_some r ≡ is_some (held_at (machine_at k.system m).place (machine_at k.system m).hand.held)
      lent_where_held = copied r ∙ some_is ∙ ap (λ (j : Whole T). is_some (held_at (machine_at j.system m).place (machine_at j.system m).hand.held)) it where
        copied : (o : Option (MutBor T)) → is_some o ≡ is_some (option_copied_mut o)
        copied None = refl
        copied (Some y) = refl

    pub lent_is_in_hand : (r : Option (MutBor T)) → option_copied_mut r ≡ body_at x.place x.hand → IfSome r (λ b. IsBodyInHand k m b.now)
    lent_is_in_hand None lends = tt
    lent_is_in_hand (Some b) lends = subst (λ (j : Whole T). IsBodyInHand j m b.now) it (by either) where
      by : Lends x.place x.hand ⊎ LendsNone x.place x.hand → IsBodyInHand whole m b.now
      by (inl l) = (
          let same : Some l.body ≡ Some b.now = sym l.its ∙ sym lends in
          record { g = l.g; in_hand = goroutine_is ∙ l.in_hand; its = stocked_at l ∙ ap Some same })
      by (inr l) = absurd (no_some (Some b.now) (lends ∙ l.none) refl)

-- The loan

-- what follows from one reading of the loan follows from an equal one
pub same_read : {D E : Type 0} (o : maybe.Option GName) (F F' : E → D) (v v' : D) → ((w : E) → F w ≡ F' w) → v ≡ v' → read_of o F v ≡ read_of o F' v'
same_read o F F' v v' f e = λ i. read_of o (λ w. f w i) (e i)
