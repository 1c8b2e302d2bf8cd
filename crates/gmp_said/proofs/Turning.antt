-- What a turn at the book makes of the goroutines in a machine's hand and in the book, of whom one at most is touched.
use Rattle.std.specs.Prelude.{slice_index_or}
use Rattle.std.proofs.Common.{◌≡◌, ◌⊎◌, inl, inr, ℕ, zero, suc, Bool, true, List, [], ◌∷◌, Option, None, Some, IsSome, is_some, slice_get, slice_set, refl, sym, ap, subst, ◌∙◌}
use Rattle.std.proofs.lemmas.Bool.{cases_eq, false≢true}
use Rattle.std.proofs.lemmas.Option.{get_or_from_slice_get}
use Rattle.gmp_base.specs.declared.ask.Woke.{Woke}
use Rattle.gmp_seq.proofs.Epochs.{at_set, slice_get-set_same}
use Rattle.gmp_seq.specs.Table.{Table}
use Rattle.gmp_driver.specs.declared.place.Place.{Place}
use Rattle.gmp_driver.specs.declared.registers.Registers.{Registers}
use Rattle.gmp_driver.specs.Registers.{first_of}
use Rattle.gmp_acts.specs.Sound.{IsEnd}
use Rattle.gmp_turn.specs.Values.{KeepsValues, body_in}
use Rattle.gmp_said.specs.Said.{Blocks, IsLast, Resumes, Speaker}
use Rattle.gmp_said.specs.Standing.{AreInside, HandStands, StandsLast, StandsSo, woke_in}
use Rattle.gmp_said.proofs.Standing.{last_of}

pub get_back : {X : Type 0} (xs : List (Option X)) (i : ℕ) (c : X) → slice_index_or xs i None ≡ Some c → slice_get xs i ≡ Some (Some c)
get_back [] i c e = absurd (let no_such : None ≡ Some c = e in cc)
get_back (o ∷ xs) zero c e = ap (λ (p : Option _). Some p) e
get_back (o ∷ xs) (suc i) c e = get_back xs i c e

pub some_is : {X : Type 0} (o : Option X) → IsSome o → (x : X) × (o ≡ Some x)
some_is None some = absurd (false≢true some)
some_is (Some x) some = (x, refl)

pub some_not_none : {X : Type 0} (o : Option X) → IsSome o → o ≡ None → ⊥
some_not_none o some none = false≢true (sym (ap is_some none) ∙ some)

same_some : {X : Type 0} (b c : X) → Some b ≡ Some c → b ≡ c
same_some b c e = cc

module _ {T Q : Type 0} (resumes : Resumes T) (blocks : Blocks T) (here there : Place) (hand hand' : Registers T Q) (places places' : List (Option T)) (kept : KeepsValues (body_in hand) (body_in hand') places places')
    (speakers : List (Speaker T)) where
  -- Behind the turn these are the speakers: each goroutine in hand stands to its own, and so those in the book; of others they are as before.
  pub record Turned (over : Bool) (t : Table) (now : List (Speaker T)) : Type 0 where
    pub mine : HandStands resumes blocks now there hand'
    pub inside : AreInside resumes blocks over t now places'
    pub others : (i : ℕ) → body_in hand i ≡ None → body_in hand' i ≡ None → slice_get now i ≡ slice_get speakers i

  -- so of body b in place i
  abbrev pub InBook : Bool → Table → List (Speaker T) → T → ℕ → Type 0
  InBook over t now b i = (q : Speaker T) × (slice_get now i ≡ Some q) × ((q.body ≡ b) ⊎ ((over ≡ true) × IsLast resumes blocks t (record { 0 = i }) q b))

  -- each body in the book is as its last call left it
  abbrev pub AreHome : Type 0
  AreHome = (i : ℕ) (b : T) → slice_get places i ≡ Some (Some b) → (s : Speaker T) × (slice_get speakers i ≡ Some s) × (s.body ≡ b)

  -- One goroutine is touched
  module _ (n : ℕ) (s s' : Speaker T) (c : T) (has : slice_get speakers n ≡ Some s) (none : (i : ℕ) → (n ≡ i → ⊥) → body_in hand i ≡ None) (none' : (i : ℕ) → (n ≡ i → ⊥) → body_in hand' i ≡ None)
      (there_is : first_of (body_in hand n) (slice_index_or places n None) ≡ Some c) (some : IsSome (body_in hand n) ⊎ IsSome (body_in hand' n)) (is : s'.body ≡ c)
      (stands : IsSome (body_in hand' n) → StandsSo resumes blocks there (woke_in hand' n) s' c) (home : AreHome) where
    abbrev now : List (Speaker T)
    now = slice_set speakers n s'

    written : slice_get now n ≡ Some s'
    written = slice_get-set_same speakers n s' s has

    elsewhere : (i : ℕ) → (n ≡ i → ⊥) → slice_get now i ≡ slice_get speakers i
    elsewhere i apart = at_set (λ (o : Option (Speaker T)). o ≡ slice_get speakers i) speakers n i s' (λ e. absurd (apart e)) refl

    same_body : (b : T) → first_of (body_in hand' n) (slice_index_or places' n None) ≡ Some b → c ≡ b
    same_body b e = same_some c b (sym there_is ∙ (sym (kept.same n) ∙ e))

    in_hand : HandStands resumes blocks now there hand'
    in_hand i b e = by (cases_eq n i) where
      by : (n ≡ i) ⊎ (n ≡ i → ⊥) → (t : Speaker T) × (slice_get now i ≡ Some t) × StandsSo resumes blocks there (woke_in hand' i) t b
      by (inl same) =
          let e' : body_in hand' n ≡ Some b = subst (λ (j : ℕ). body_in hand' j ≡ Some b) (sym same) e in
          let it : c ≡ b = same_body b (ap (λ (o : Option T). first_of o (slice_index_or places' n None)) e') in
          subst (λ (j : ℕ). (t : Speaker T) × (slice_get now j ≡ Some t) × StandsSo resumes blocks there (woke_in hand' j) t b) same
          (s', written, subst (λ (x : T). StandsSo resumes blocks there (woke_in hand' n) s' x) it (stands (ap is_some e')))
      by (inr apart) = absurd (let wrong : None ≡ Some b = sym (none' i apart) ∙ e in cc)

    in_book : (over : Bool) (t : Table) → AreInside resumes blocks over t now places'
    in_book over t i b e = by (cases_eq n i) where
      by : (n ≡ i) ⊎ (n ≡ i → ⊥) → InBook over t now b i
      by (inl same) = subst (InBook over t now b) same (out (body_in hand' n) refl) where
        e' : slice_get places' n ≡ Some (Some b)
        e' = subst (λ (j : ℕ). slice_get places' j ≡ Some (Some b)) (sym same) e

        out : (o : Option T) → body_in hand' n ≡ o → InBook over t now b n
        out None gone = (s', written, inl (is ∙ same_body b (ap (λ (o : Option T). first_of o (slice_index_or places' n None)) gone ∙ get_or_from_slice_get places' n (Some b) None e')))
        out (Some x) held = absurd (let vacant : slice_get places' n ≡ Some None = kept.out n (ap is_some held) in let wrong : Some (Some b) ≡ Some None = sym e' ∙ vacant in cc)
      by (inr apart) =
          let was = home i b (sym (kept.rest i (none i apart) (none' i apart)) ∙ e) in
          (was.0, elsewhere i apart ∙ was.1, inl was.2)

    untouched : (i : ℕ) → body_in hand i ≡ None → body_in hand' i ≡ None → slice_get now i ≡ slice_get speakers i
    untouched i out out' = by (cases_eq n i) where
      by : (n ≡ i) ⊎ (n ≡ i → ⊥) → slice_get now i ≡ slice_get speakers i
      by (inl same) = absurd (which some) where
        which : IsSome (body_in hand n) ⊎ IsSome (body_in hand' n) → ⊥
        which (inl held) = some_not_none (body_in hand n) held (subst (λ (j : ℕ). body_in hand j ≡ None) (sym same) out)
        which (inr held) = some_not_none (body_in hand' n) held (subst (λ (j : ℕ). body_in hand' j ≡ None) (sym same) out')
      by (inr apart) = elsewhere i apart

    pub touched : (over : Bool) (t : Table) → Turned over t now
    touched over t = record { mine = in_hand; inside = in_book over t; others = untouched }

  -- None is touched

  -- what is in hand was
  was_in : ((i : ℕ) → IsSome (body_in hand' i) → IsSome (body_in hand i)) → (i : ℕ) (b : T) → body_in hand' i ≡ Some b → body_in hand i ≡ Some b
  was_in sub i b e =
      let d = some_is (body_in hand i) (sub i (ap is_some e)) in
      let same : Some b ≡ Some d.0 =
      ap (λ (o : Option T). first_of o (slice_index_or places' i None)) (sym e) ∙ (kept.same i ∙ ap (λ (o : Option T). first_of o (slice_index_or places i None)) d.1) in
      d.1 ∙ sym same

  module _ (same : (i : ℕ) → is_some (body_in hand' i) ≡ is_some (body_in hand i)) (stays : (i : ℕ) (s : Speaker T) (b : T) → StandsSo resumes blocks here (woke_in hand i) s b → StandsSo resumes blocks there (woke_in hand' i) s b)
      (stand : HandStands resumes blocks speakers here hand) where
    pub left_alone : (over : Bool) (t : Table) → AreInside resumes blocks over t speakers places → Turned over t speakers
    left_alone over t inside = record {
      mine = λ i b e. (let was = stand i b (was_in (λ j some. sym (same j) ∙ some) i b e) in (was.0, was.1, stays i was.0 b was.2));
      inside = λ i b e. inside i b (sym (kept.rest i (not_in i b e) (not_now i b e)) ∙ e);
      others = λ i out out'. refl;
    } where
      not_now : (i : ℕ) (b : T) → slice_get places' i ≡ Some (Some b) → body_in hand' i ≡ None
      not_now i b e = by (body_in hand' i) refl where
        by : (o : Option T) → body_in hand' i ≡ o → body_in hand' i ≡ None
        by None gone = gone
        by (Some x) held = absurd (let vacant : slice_get places' i ≡ Some None = kept.out i (ap is_some held) in let wrong : Some (Some b) ≡ Some None = sym e ∙ vacant in cc)

      not_in : (i : ℕ) (b : T) → slice_get places' i ≡ Some (Some b) → body_in hand i ≡ None
      not_in i b e = by (body_in hand i) refl where
        by : (o : Option T) → body_in hand i ≡ o → body_in hand i ≡ None
        by None gone = gone
        by (Some x) held = absurd (some_not_none (body_in hand' i) (same i ∙ ap is_some held) (not_now i b e))

  -- Some are given back, once the run is over
  module _ (t : Table) (end : IsEnd there) (sub : (i : ℕ) → IsSome (body_in hand' i) → IsSome (body_in hand i)) (told : (i : ℕ) → IsSome (body_in hand' i) → woke_in hand' i ≡ woke_in hand i)
      (stand : HandStands resumes blocks speakers here hand) (known : (i : ℕ) (s : Speaker T) (b : T) → body_in hand i ≡ Some b → StandsLast resumes blocks (woke_in hand i) s b → IsLast resumes blocks t (record { 0 = i }) s b) where
    pub given_up : AreInside resumes blocks true t speakers places → Turned true t speakers
    given_up inside = record { mine = in_hand'; inside = in_book'; others = λ i out out'. refl } where
      in_hand' : HandStands resumes blocks speakers there hand'
      in_hand' i b e =
          let was = stand i b (was_in sub i b e) in
          (was.0, was.1, inr (end, subst (λ (w : Option Woke). StandsLast resumes blocks w was.0 b) (sym (told i (ap is_some e))) (last_of resumes blocks here (woke_in hand i) was.0 b was.2)))

      in_book' : AreInside resumes blocks true t speakers places'
      in_book' i b e = by (body_in hand' i) (body_in hand i) refl refl where
        by : (now was : Option T) → body_in hand' i ≡ now → body_in hand i ≡ was → InBook true t speakers b i
        by (Some x) was held e' = absurd (let vacant : slice_get places' i ≡ Some None = kept.out i (ap is_some held) in let wrong : Some (Some b) ≡ Some None = sym e ∙ vacant in cc)
        by None None gone gone' = inside i b (sym (kept.rest i gone' gone) ∙ e)
        by None (Some d) gone held =
            let is : Some d ≡ Some b =
            ap (λ (o : Option T). first_of o (slice_index_or places i None)) (sym held) ∙ (sym (kept.same i)
            ∙ (ap (λ (o : Option T). first_of o (slice_index_or places' i None)) gone ∙ get_or_from_slice_get places' i (Some b) None e)) in
            let held' : body_in hand i ≡ Some b = held ∙ is in
            let own = stand i b held' in
            (own.0, own.1, inr (refl, known i own.0 b held' (last_of resumes blocks here (woke_in hand i) own.0 b own.2)))
