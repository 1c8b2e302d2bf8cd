-- Bodies that are the numbers of their goroutines.
use Rattle.std.proofs.Common.{◌≡◌, ℕ, zero, suc, ◌<◌, List, [], ◌∷◌, ◌++◌, map, length, get_or, refl, sym, ap, subst, ◌∙◌, inl, inr, arith, Some}
use Rattle.std.specs.Prelude.{slice_get, slice_set}
use Rattle.std.proofs.lemmas.Bool.{cases_lt}
use Rattle.std.proofs.lemmas.List.{get_or-map, get_or_append_left, length-map, length_push, set-get_or}
use Rattle.std.proofs.lemmas.Option.{get_or_from_slice_get, slice_get_within}
use Rattle.std.proofs.Math.Seq.{get_or-append_seam}
use Rattle.gmp_base.specs.declared.number.GNo.{GNo}
use Rattle.gmp_stand.specs.Standing.{IsNumbered, numbers}

pub length_numbers : (n : ℕ) → length (numbers n) ≡ n
length_numbers zero = refl
length_numbers (suc n) = (let longer = length_push (numbers n) (record { 0 = n }) in let before = length_numbers n in omega (arith, longer, before))

number_at : (n g : ℕ) (d : GNo) → g < n → get_or (numbers n) g d ≡ record { 0 = g }
number_at zero g d below = (let none : ⊥ = omega (arith, below) in elim none [ ])
number_at (suc n) g d below = elim (cases_lt g n) [
  | inl before ↦
      let there : g < length (numbers n) = (let same = length_numbers n in omega (arith, before, same)) in
      get_or_append_left (numbers n) (record { 0 = n } ∷ []) d g there ∙ number_at n g d before
  | inr behind ↦
      let here : length (numbers n) ≡ g = (let same = length_numbers n in omega (arith, behind, below, same)) in
      let last : n ≡ g = omega (arith, behind, below) in
      subst (λ (i : ℕ). get_or (numbers n ++ record { 0 = n } ∷ []) i d ≡ record { 0 = g }) here
      (get_or-append_seam (numbers n) (record { 0 = n }) [] d ∙ ap (λ (i : ℕ). (let x : GNo = record { 0 = i } in x)) last)
]

some_one : (a b : GNo) → Some a ≡ Some b → a ≡ b
some_one a b same = cc

pub numbered : (n : ℕ) → IsNumbered (map Some (numbers n))
numbered n g body is =
    let there : g < n = (let within = slice_get_within (map Some (numbers n)) g (Some body) is in let long = length-map (numbers n) Some in let same = length_numbers n in omega (arith, within, long, same)) in
    let below : g < length (numbers n) = (let same = length_numbers n in omega (arith, there, same)) in
    let found : get_or (map Some (numbers n)) g (Some body) ≡ Some body = get_or_from_slice_get (map Some (numbers n)) g (Some body) (Some body) is in
    let its : Some (get_or (numbers n) g body) ≡ Some body = sym (get_or-map Some (numbers n) g body (Some body) below) ∙ found in
    let is_number : record { 0 = g } ≡ body = sym (number_at n g body there) ∙ some_one (get_or (numbers n) g body) body its in
    sym (ap (λ (x : GNo). x.0) is_number)

-- what is there, put there again, changes nothing
pub same_put : {X : Type 0} (xs : List X) (i : ℕ) (x : X) → slice_get xs i ≡ Some x → slice_set xs i x ≡ xs
same_put {X} xs i x is = subst (λ (y : X). slice_set xs i y ≡ xs) (get_or_from_slice_get xs i x x is) (set-get_or xs i x)
