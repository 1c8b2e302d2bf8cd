-- Values stay, in the hand or in their places, where nothing moves, where one goes home, and where one comes out.
use Rattle.std.proofs.Common.{◌≡◌, ℕ, ◌<◌, List, length, get_or, set, Option, None, Some, is_some, inl, inr, refl, sym, ap, subst, slice_get, ◌∙◌}
use Rattle.std.proofs.lemmas.Bool.{cases_eq, eq-eqb, false≢true, ne_eqb}
use Rattle.std.proofs.lemmas.List.{get_or-set_other, get_or-set_same, length-set}
use Rattle.std.proofs.lemmas.Option.{get_or_from_slice_get, slice_get_within}
use Rattle.gmp_seq.proofs.Epochs.{at_set, slice_get-set_same}
use Rattle.gmp_driver.specs.Registers.{first_of}
use Rattle.gmp_turn.specs.Values.{AreOut, KeepsValues, where_is}

module _ {X : Type 0} where
  pub is_there : (g i : ℕ) (x : X) → g ≡ i → where_is g x i ≡ Some x
  is_there g i x e = rw (eq-eqb g i e) refl

  not_there : (g i : ℕ) (x : X) → (g ≡ i → ⊥) → where_is g x i ≡ None
  not_there g i x apart = rw (ne_eqb g i apart) refl

  is_elsewhere : (o : Option X) (x : X) → o ≡ Some x → o ≡ None → ⊥
  is_elsewhere o x a b = (let no : Some x ≡ None = sym a ∙ b in cc)

  -- what is there stays there
  pub stay : (had has : ℕ → Option X) (old : List (Option X)) → ((i : ℕ) → has i ≡ had i) → AreOut had old → KeepsValues had has old old
  stay had has old same out = record {
    count = refl;
    same = λ i. ap (λ (o : Option X). first_of o (get_or old i None)) (same i);
    out = λ i some. out i (rw (← same i) some);
    rest = λ i none now. refl;
  }

  -- one goes to its place
  pub go_home : (had has : ℕ → Option X) (old : List (Option X)) (g : ℕ) (x : X) → ((i : ℕ) → had i ≡ where_is g x i) → ((i : ℕ) → has i ≡ None) → AreOut had old → KeepsValues had has old (set old g (Some x))
  go_home had has old g x was none out =
      let there : had g ≡ Some x = was g ∙ is_there g g x refl in
      let vacant : slice_get old g ≡ Some None = out g (ap is_some there) in
      let within : g < length old = slice_get_within old g None vacant in
      record {
        count = length-set old g (Some x);
        same = λ i. elim (cases_eq g i) [
          | inl e ↦ rw (none i) (subst (λ (j : ℕ). get_or (set old g (Some x)) j None ≡ first_of (had j) (get_or old j None)) e
              (get_or-set_same old g (Some x) None within ∙ sym (ap (λ (o : Option X). first_of o (get_or old g None)) there)))
          | inr apart ↦ rw (none i, was i, not_there g i x apart) (get_or-set_other old g i (Some x) None (λ e. apart (sym e)))
        ];
        out = λ i some. absurd (false≢true (sym (ap is_some (none i)) ∙ some));
        rest = λ i before now. at_set (λ (o : Option (Option X)). o ≡ slice_get old i) old g i (Some x)
            (λ e. absurd (is_elsewhere (had i) x (was i ∙ is_there g i x e) before)) refl;
      }

  -- one comes out of its place
  pub come_out : (had has : ℕ → Option X) (old : List (Option X)) (g : ℕ) (x : X) → ((i : ℕ) → had i ≡ None) → ((i : ℕ) → has i ≡ where_is g x i) → slice_get old g ≡ Some (Some x) → KeepsValues had has old (set old g None)
  come_out had has old g x none is there =
      record {
        count = length-set old g None;
        same = λ i. elim (cases_eq g i) [
          | inl e ↦ rw (is i, is_there g i x e, none i) (subst (λ (j : ℕ). Some x ≡ get_or old j None) e (sym (get_or_from_slice_get old g (Some x) None there)))
          | inr apart ↦ rw (is i, not_there g i x apart, none i) (get_or-set_other old g i None None (λ e. apart (sym e)))
        ];
        out = λ i some. elim (cases_eq g i) [
          | inl e ↦ subst (λ (j : ℕ). slice_get (set old g None) j ≡ Some None) e (slice_get-set_same old g None (Some x) there)
          | inr apart ↦ absurd (false≢true (sym (ap is_some (is i ∙ not_there g i x apart)) ∙ some))
        ];
        rest = λ i before now. at_set (λ (o : Option (Option X)). o ≡ slice_get old i) old g i None
            (λ e. absurd (is_elsewhere (has i) x (is i ∙ is_there g i x e) now)) refl;
      }
