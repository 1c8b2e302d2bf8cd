-- Bodies stay in their places or in hand, each led from the one that was given, as one machine on the board goes on.
use Rattle.std.specs.Prelude.{slice_index_or}
use Rattle.std.proofs.Common.{◌≡◌, ◌⊎◌, inl, inr, ℕ, zero, suc, Bool, List, [], ◌∷◌, Option, None, Some, IsSome, is_some, map, slice_get, slice_set, refl, sym, ap, subst, ◌∙◌, length, arith}
use Rattle.std.proofs.lemmas.Bool.{cases_eq}
use Rattle.std.proofs.lemmas.Option.{get_or_from_slice_get, slice_get_within}
use Rattle.std.specs.Option.{option_map}
use Rattle.gmp_seq.proofs.Epochs.{at_set, slice_get-set_same}
use Rattle.gmp_driver.specs.declared.registers.CalledParts.{CalledParts}
use Rattle.gmp_driver.specs.declared.registers.HeldParts.{HeldParts}
use Rattle.gmp_driver.specs.declared.registers.Registers.{Registers}
use Rattle.gmp_driver.specs.Machine.{Machine}
use Rattle.gmp_driver.specs.Registers.{first_of}
use Rattle.gmp_acts.specs.Hands.{PlainMachine, plain_called, plain_held}
use Rattle.gmp_turn.specs.Values.{AreOut, KeepsValues, body_in, called_body, held_body}
use Rattle.gmp_said.specs.Said.{Blocks, Resumes}
use Rattle.gmp_said.proofs.Turning.{get_back, some_not_none}
use Rattle.gmp_run.specs.Bodies.{AllInside, ArePlaced, HandLed, HoldsOne, IsLed, IsLedFrom, IsLedIf}
use Rattle.gmp_run.specs.Boards.{AreFirst}
use Rattle.gmp_run.proofs.Bodies.{led_join, stays}
use Rattle.gmp_run.proofs.Leading.{gap}

-- Places

map_back : {X : Type 0} (xs : List X) (i : ℕ) (c : X) → slice_get (map Some xs) i ≡ Some (Some c) → slice_get xs i ≡ Some c
map_back [] i c e = absurd (let no : None ≡ Some (Some c) = e in cc)
map_back (x ∷ xs) zero c e = (let same : Some (Some x) ≡ Some (Some c) = e in let is : x ≡ c = cc in ap (λ (y : _). Some y) is)
map_back (x ∷ xs) (suc i) c e = map_back xs i c e

pub map_get : {X : Type 0} (xs : List X) (i : ℕ) (c : X) → slice_get xs i ≡ Some c → slice_get (map Some xs) i ≡ Some (Some c)
map_get [] i c e = absurd (let no : None ≡ Some c = e in cc)
map_get (x ∷ xs) zero c e = ap (λ (o : Option _). Some o) e
map_get (x ∷ xs) (suc i) c e = map_get xs i c e

first_none : {X : Type 0} (o p : Option X) → first_of o p ≡ None → o ≡ None
first_none None p e = refl
first_none (Some x) p e = absurd (let no : Some x ≡ None = e in cc)

module _ {T : Type 0} (resumes : Resumes T) (blocks : Blocks T) where
  if_led : (o p : Option T) → IsLedIf resumes blocks o p → (c : T) → p ≡ Some c → (b : T) × (o ≡ Some b) × IsLed resumes blocks b c
  if_led None None led c e = absurd (let no : None ≡ Some c = e in cc)
  if_led (Some b) (Some d) led c e = (let same : Some d ≡ Some c = e in let is : d ≡ c = cc in (b, refl, subst (λ (z : T). IsLed resumes blocks b z) is led))
  if_led None (Some d) led c e = absurd led
  if_led (Some b) None led c e = absurd led

  if_some : (o p : Option T) → IsLedIf resumes blocks o p → IsSome p → IsSome o
  if_some None None led some = some
  if_some (Some b) (Some d) led some = refl
  if_some None (Some d) led some = absurd led
  if_some (Some b) None led some = absurd led

  -- all are in the book at the end
  pub from_inside : (given bodies : List T) → AllInside resumes blocks given (map Some bodies) → (i : ℕ) (c : T) → slice_get bodies i ≡ Some c → IsLedFrom resumes blocks given i c
  from_inside given bodies inside i c has = inside i c (map_get bodies i c has)

  module _ (given : List T) where
    abbrev From : ℕ → T → Type 0
    From = IsLedFrom resumes blocks given

    module _ {Q : Type 0} where
      -- The machine at this place made acts of its own since it left the lock.
      module _ (board : List (Machine T Q)) (at : ℕ) (left : Machine T Q) (there : slice_get board at ≡ Some left) (old : List (Option T)) (hand : Registers T Q) (led : HandLed resumes blocks left.hand hand)
          (are : ArePlaced resumes blocks given board old) where
        in_left : (i : ℕ) → IsSome (body_in hand i) → IsSome (body_in left.hand i)
        in_left i some = if_some (body_in left.hand i) (body_in hand i) (led i) some

        pub still_out : AreOut (body_in hand) old
        still_out i some = are.out at left there i (in_left i some)

        in_hand_led : (i : ℕ) (c : T) → body_in hand i ≡ Some c → From i c
        in_hand_led i c is =
            let was = if_led (body_in left.hand i) (body_in hand i) (led i) c is in
            let from = are.in_hand at left there i was.0 was.1 in
            (from.0, from.1, led_join resumes blocks from.0 was.0 c from.2 was.2)

        -- a body of another machine is not in its hand
        pub elsewhere : (at' : ℕ) (z : Machine T Q) → (at ≡ at' → ⊥) → slice_get board at' ≡ Some z → (i : ℕ) → IsSome (body_in z.hand i) → body_in hand i ≡ None
        elsewhere at' z apart found i some = by (body_in hand i) refl where
          by : (o : Option T) → body_in hand i ≡ o → body_in hand i ≡ None
          by None e = e
          by (Some b) e = absurd (apart (are.apart at at' left z there found i (in_left i (ap is_some e)) some))

        -- It makes a turn.
        module _ (x' : Machine T Q) (new : List (Option T)) (kept : KeepsValues (body_in hand) (body_in x'.hand) old new) (one : HoldsOne x'.hand) where
          abbrev board' : List (Machine T Q)
          board' = slice_set board at x'

          pub here_or : (at' : ℕ) (z : Machine T Q) → slice_get board' at' ≡ Some z → ((at ≡ at') × (x' ≡ z)) ⊎ ((at ≡ at' → ⊥) × (slice_get board at' ≡ Some z))
          here_or at' z found = by (cases_eq at at') where
            by : (at ≡ at') ⊎ (at ≡ at' → ⊥) → ((at ≡ at') × (x' ≡ z)) ⊎ ((at ≡ at' → ⊥) × (slice_get board at' ≡ Some z))
            by (inl is) =
                let written : slice_get board' at ≡ Some x' = slice_get-set_same board at x' left there in
                let e : Some x' ≡ Some z = sym written ∙ (ap (slice_get board') is ∙ found) in
                inl (is, cc)
            by (inr apart) = inr (apart, at_set (λ (o : Option (Machine T Q)). o ≡ Some z → slice_get board at' ≡ Some z) board at at' x' (λ is. absurd (apart is)) (λ e. e) found)

          -- one that is in its hand now or in its place was so before
          from_before : (i : ℕ) (c : T) → first_of (body_in x'.hand i) (slice_index_or new i None) ≡ Some c → From i c
          from_before i c e = by (body_in hand i) refl (sym (kept.same i) ∙ e) where
            by : (o : Option T) → body_in hand i ≡ o → first_of (body_in hand i) (slice_index_or old i None) ≡ Some c → From i c
            by None is same = are.inside i c (get_back old i c (sym (ap (λ (o : Option T). first_of o (slice_index_or old i None)) is) ∙ same))
            by (Some d) is same =
                in_hand_led i c (is ∙ (sym (ap (λ (o : Option T). first_of o (slice_index_or old i None)) is) ∙ same))

          inside_now : AllInside resumes blocks given new
          inside_now i c has = by (body_in x'.hand i) refl where
            by : (o : Option T) → body_in x'.hand i ≡ o → From i c
            by None is = from_before i c (ap (λ (o : Option T). first_of o (slice_index_or new i None)) is ∙ get_or_from_slice_get new i (Some c) None has)
            by (Some d) is = absurd (let vacant : slice_get new i ≡ Some None = kept.out i (ap is_some is) in let no : Some (Some c) ≡ Some None = sym has ∙ vacant in cc)

          in_hand_now : (at' : ℕ) (z : Machine T Q) → slice_get board' at' ≡ Some z → (i : ℕ) (c : T) → body_in z.hand i ≡ Some c → From i c
          in_hand_now at' z found i c is = by (here_or at' z found) where
            by : ((at ≡ at') × (x' ≡ z)) ⊎ ((at ≡ at' → ⊥) × (slice_get board at' ≡ Some z)) → From i c
            by (inl (here, same)) =
                from_before i c (ap (λ (o : Option T). first_of o (slice_index_or new i None)) (ap (λ (y : Machine T Q). body_in y.hand i) same ∙ is))
            by (inr (apart, before)) = are.in_hand at' z before i c is

          -- a body of another machine was and is in neither
          pub apart_now : (at' : ℕ) (z : Machine T Q) → (at ≡ at' → ⊥) → slice_get board at' ≡ Some z → (i : ℕ) → IsSome (body_in z.hand i) → body_in x'.hand i ≡ None
          apart_now at' z apart found i some =
              let none = elsewhere at' z apart found i some in
              let vacant = get_or_from_slice_get old i None None (are.out at' z found i some) in
              first_none (body_in x'.hand i) (slice_index_or new i None) (kept.same i ∙ ap (λ (o : Option T). first_of o (slice_index_or old i None)) none ∙ vacant)

          out_now : (at' : ℕ) (z : Machine T Q) → slice_get board' at' ≡ Some z → AreOut (body_in z.hand) new
          out_now at' z found = by (here_or at' z found) where
            by : ((at ≡ at') × (x' ≡ z)) ⊎ ((at ≡ at' → ⊥) × (slice_get board at' ≡ Some z)) → AreOut (body_in z.hand) new
            by (inl (here, same)) = subst (λ (y : Machine T Q). AreOut (body_in y.hand) new) same kept.out
            by (inr (apart, before)) = λ i some. kept.rest i (elsewhere at' z apart before i some) (apart_now at' z apart before i some) ∙ are.out at' z before i some

          all_apart : (p q : ℕ) (y z : Machine T Q) → slice_get board' p ≡ Some y → slice_get board' q ≡ Some z → (i : ℕ) → IsSome (body_in y.hand i) → IsSome (body_in z.hand i) → p ≡ q
          all_apart p q y z found found' i some some' = by (here_or p y found) (here_or q z found') where
            by : ((at ≡ p) × (x' ≡ y)) ⊎ ((at ≡ p → ⊥) × (slice_get board p ≡ Some y)) → ((at ≡ q) × (x' ≡ z)) ⊎ ((at ≡ q → ⊥) × (slice_get board q ≡ Some z)) → p ≡ q
            by (inl (here, same)) (inl (here', same')) = sym here ∙ here'
            by (inl (here, same)) (inr (apart, before)) =
                absurd (some_not_none (body_in y.hand i) some (ap (λ (w : Machine T Q). body_in w.hand i) (sym same) ∙ apart_now q z apart before i some'))
            by (inr (apart, before)) (inl (here, same)) =
                absurd (some_not_none (body_in z.hand i) some' (ap (λ (w : Machine T Q). body_in w.hand i) (sym same) ∙ apart_now p y apart before i some))
            by (inr (apart, before)) (inr (apart', before')) = are.apart p q y z before before' i some some'

          one_now : (at' : ℕ) (z : Machine T Q) → slice_get board' at' ≡ Some z → HoldsOne z.hand
          one_now at' z found = by (here_or at' z found) where
            by : ((at ≡ at') × (x' ≡ z)) ⊎ ((at ≡ at' → ⊥) × (slice_get board at' ≡ Some z)) → HoldsOne z.hand
            by (inl (here, same)) = subst (λ (y : Machine T Q). HoldsOne y.hand) same one
            by (inr (apart, before)) = are.one at' z before

          pub turned : ArePlaced resumes blocks given board' new
          turned = record { inside = inside_now; in_hand = in_hand_now; out = out_now; apart = all_apart; one = one_now }

      -- no machine holds a body yet
      pub begun : (board : List (Machine T Q)) → ((at : ℕ) (x : Machine T Q) → slice_get board at ≡ Some x → (x.hand.held ≡ None) × (x.hand.called ≡ None)) → ArePlaced resumes blocks given board (map Some given)
      begun board free = record {
        inside = λ i c has. (c, map_back given i c has, stays resumes blocks c);
        in_hand = λ at x found i c is. absurd (let none = nothing at x found i in let no : None ≡ Some c = sym none ∙ is in cc);
        out = λ at x found i some. absurd (some_not_none (body_in x.hand i) some (nothing at x found i));
        apart = λ at at' x y found found' i some some'. absurd (some_not_none (body_in x.hand i) some (nothing at x found i));
        one = λ at x found. inl (ap is_some (free at x found).0);
      } where
        nothing : (at : ℕ) (x : Machine T Q) → slice_get board at ≡ Some x → (i : ℕ) → body_in x.hand i ≡ None
        nothing at x found i =
            ap (λ (o : Option (HeldParts T)). first_of (held_body o i) (called_body x.hand.called i)) (free at x found).0 ∙ ap (λ (o : Option (CalledParts T)). called_body o i) (free at x found).1

none_under : {A B : Type 0} (f : A → B) (o : Option A) → option_map f o ≡ None → o ≡ None
none_under f None e = refl
none_under f (Some x) e = absurd (let none : Some (f x) ≡ None = e in cc)

-- no machine has a goroutine in hand at its start
pub free_at : {T Q : Type 0} (machines run : ℕ) (is_fair : Bool) (procs : ℕ) (board : List (Machine T Q)) → length board ≡ machines → AreFirst machines run is_fair procs board
    → (at : ℕ) (x : Machine T Q) → slice_get board at ≡ Some x → (x.hand.held ≡ None) × (x.hand.called ≡ None)
free_at machines run is_fair procs board long first at x found =
    let within = slice_get_within board at x found in
    let rest = gap at machines (omega (arith, within, long)) in
    let its = rest.1 in
    let is = first rest.0 x (at, omega (arith, its), found) in
    (none_under plain_held x.hand.held (ap (λ (y : PlainMachine). y.hand.held) is), none_under plain_called x.hand.called (ap (λ (y : PlainMachine). y.hand.called) is))
