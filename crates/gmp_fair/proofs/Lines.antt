-- Lines that are first in, first out: a ticket that stays in one comes nearer to its front, or stays where it is.
use Rattle.std.proofs.Common.{◌≡◌, ◌⊎◌, inl, inr, ℕ, zero, suc, ◌+◌, ◌≤◌, Bool, true, ◌&&◌, ◌==◌, cond, List, [], ◌∷◌, ◌++◌, length, get_or, set, refl, sym, ap, subst, ◌∙◌, arith, None, Some, count_by, get_or-set_same, get_or-set_other}
use Rattle.std.proofs.lemmas.Bool.{cases_eq, cases_lt, eq-eqb}
use Rattle.std.proofs.lemmas.List.{append-nil, get_or_past, length-set}
use Rattle.std.proofs.lemmas.List.Sums.{sum_by-cons}
use Rattle.std.specs.List.{slice_get}
use Rattle.gmp_base.specs.declared.number.GNo.{GNo}
use Rattle.gmp_base.specs.declared.number.Readiness.{Readiness}
use Rattle.gmp_acts.specs.System.{is_same}
use Rattle.gmp_fair.specs.Fair.{InTurn, IsBehind, Stands}

abbrev pub one_if : Bool → ℕ
one_if b = cond b 1 0

none_at : {A : Type 0} (j : ℕ) (x : A) → slice_get [] j ≡ Some x → ⊥
none_at j x h = (let no : None ≡ Some x = h in cc)

module _ {A : Type 0} (same : A → A → Bool) (same_self : (x : A) → same x x ≡ true) where
  counted : (x y : A) (l : List A) → count_by (same x) (y ∷ l) ≡ one_if (same x y) + count_by (same x) l
  counted x y l = sum_by-cons (λ (u : A). one_if (same x u)) y l

  one_self : (x y : A) → y ≡ x → one_if (same x y) ≡ 1
  one_self x y e = ap (λ (u : A). one_if (same x u)) e ∙ ap one_if (same_self x)

  -- what stands in the line counts
  pub stands_counts : (l : List A) (j : ℕ) (x : A) → IsBehind j x l → 1 ≤ count_by (same x) l
  stands_counts [] j x h = absurd (none_at j x h)
  stands_counts (y ∷ l) zero x h =
      let it : y ≡ x = cc in let one = one_self x y it in let all = counted x y l in omega (arith, one, all)
  stands_counts (y ∷ l) (suc j) x h = (let rest = stands_counts l j x h in let all = counted x y l in omega (arith, rest, all))

  first_left : (x : A) (j : ℕ) (first : A) (new : List A) → count_by (same x) (first ∷ new) ≤ 1 → IsBehind j x (first ∷ new) → Stands x new → (i : ℕ) × (j ≡ suc i) × IsBehind i x new
  first_left x zero first new once h there =
      let it : first ≡ x = cc in let one = one_self x first it in let all = counted x first new in let rest = stands_counts new there.0 x there.1 in
      absurd (omega (arith, one, all, rest, once))
  first_left x (suc i) first new once h there = (i, refl, h)

-- what comes last leaves the others where they stand
pub behind_push : {A : Type 0} (l came : List A) (j : ℕ) (x : A) → IsBehind j x l → IsBehind j x (l ++ came)
behind_push [] came j x h = absurd (none_at j x h)
behind_push (y ∷ l) came zero x h = h
behind_push (y ∷ l) came (suc j) x h = behind_push l came j x h

-- it stands where it stood, and some came; or the first left, and it is one nearer
abbrev pub Nearer : {A : Type 0} → A → ℕ → List A → List A → Type 0
Nearer {A = A} x j old new = (IsBehind j x new × (came : List A) × (new ≡ old ++ came)) ⊎ ((i : ℕ) × (j ≡ suc i) × IsBehind i x new)

pub nearer : {A : Type 0} (same : A → A → Bool) (same_self : (x : A) → same x x ≡ true) (x : A) (j : ℕ) (old new : List A) → InTurn old new → count_by (same x) old ≤ 1 → IsBehind j x old → Stands x new → Nearer x j old new
nearer same same_self x j old new (inl came) once h there = inl (subst (IsBehind j x) (sym came.1) (behind_push old came.0 j x h), came.0, came.1)
nearer same same_self x j old new (inr left) once h there =
    inr (first_left same same_self x j left.0 new (subst (λ (l : List _). count_by (same x) l ≤ 1) left.1 once) (subst (IsBehind j x) left.1 h) there)

-- Tickets and goroutines

pub ticket_self : (t : Readiness) → is_same t t ≡ true
ticket_self t = ap (λ (b : Bool). b && (t.epoch == t.epoch)) (eq-eqb t.g.0 t.g.0 refl) ∙ eq-eqb t.epoch t.epoch refl

abbrev pub is_number : GNo → GNo → Bool
is_number g x = x.0 == g.0

pub number_self : (g : GNo) → is_number g g ≡ true
number_self g = eq-eqb g.0 g.0 refl

-- Queues

pub stays : {A : Type 0} (l : List A) → InTurn l l
stays l = inl ([], sym (append-nil l))

nobody : List Readiness
nobody = []

-- one queue turns, and so does each
pub set_turn : (qs : List (List Readiness)) (v q : ℕ) (new : List Readiness) → InTurn (get_or qs v []) new → InTurn (get_or qs q []) (get_or (set qs v new) q [])
set_turn qs v q new turn = elim (cases_eq q v) [
  | inl same ↦ elim (cases_lt v (length qs)) [
    | inl within ↦
        let there : get_or (set qs v new) q [] ≡ new = ap (λ (i : ℕ). get_or (set qs v new) i []) same ∙ get_or-set_same qs v new [] within in
        let was : get_or qs q [] ≡ get_or qs v [] = ap (λ (i : ℕ). get_or qs i []) same in
        subst (λ (l : List Readiness). InTurn l (get_or (set qs v new) q [])) (sym was) (subst (InTurn (get_or qs v [])) (sym there) turn)
    | inr past ↦
        let a : get_or qs q [] ≡ [] = get_or_past qs q [] (omega (arith, past, same)) in
        let b : get_or (set qs v new) q [] ≡ [] = get_or_past (set qs v new) q [] (let l = length-set qs v new in omega (arith, past, same, l)) in
        subst (λ (l : List Readiness). InTurn l (get_or (set qs v new) q [])) (sym a) (subst (InTurn []) (sym b) (stays []))
  ]
  | inr other ↦ subst (InTurn (get_or qs q [])) (sym (get_or-set_other qs v q new [] other)) (stays (get_or qs q []))
]
