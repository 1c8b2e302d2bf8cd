-- What is among replies, as some are added.
use Rattle.std.proofs.Common.{◌≡◌, ◌<◌, ◌≤◌, ◌⊎◌, ℕ, ◌+◌, inl, inr, List, [], ◌∷◌, ◌++◌, Contains, sym, subst, arith}
use Rattle.std.proofs.lemmas.Bool.{cases_lt}
use Rattle.std.proofs.lemmas.List.Elements.{Contains-append_left, Contains-append_right}
use Rattle.gmp_allowed.specs.Tried.{AddsEach, Before}

pub among_same : {A : Type 0} (xs ys : List A) (x : A) → xs ≡ ys → Contains ys x → Contains xs x
among_same {A} xs ys x is = subst (λ (l : List A). Contains l x) (sym is)

-- these were appended
pub added : {A : Type 0} (P : A → Type 0) (old new more : List A) → new ≡ old ++ more → ((x : A) → P x → Contains more x) → AddsEach P old new
added P old new more is among = record {
  kept = λ x h. among_same new (old ++ more) x is (Contains-append_left old more x h);
  each = λ x p. among_same new (old ++ more) x is (Contains-append_right old more x (among x p));
}

-- nothing was
pub none_added : {A : Type 0} (P : A → Type 0) (xs : List A) → ((x : A) → P x → ⊥) → AddsEach P xs xs
none_added P xs never = record { kept = λ x h. h; each = λ x p. absurd (never x p) }

-- these, and then those
pub both_added : {A : Type 0} (P Q R : A → Type 0) (old mid new : List A) → AddsEach P old mid → AddsEach Q mid new → ((x : A) → R x → P x ⊎ Q x) → AddsEach R old new
both_added P Q R old mid new first rest of = record {
  kept = λ x h. rest.kept x (first.kept x h);
  each = λ x r. elim (of x r) [ inl p ↦ rest.kept x (first.each x p) | inr q ↦ rest.each x q ];
}

-- these, and then this one
pub one_added : {A : Type 0} (P : A → Type 0) (old mid new : List A) (y : A) → AddsEach P old mid → new ≡ mid ++ y ∷ [] → AddsEach (λ (x : A). P x ⊎ (y ≡ x)) old new
one_added {A} P old mid new y first is =
    let this : A → Type 0 = λ (x : A). y ≡ x in
    both_added P this (λ (x : A). P x ⊎ (y ≡ x)) old mid new first (added this mid new (y ∷ []) is (λ x same. (0, omega arith, same))) (λ x either. either)

-- no place is before the first
pub none_before : {A : Type 0} (P : ℕ → A → Type 0) (xs : List A) → AddsEach (Before P 0) xs xs
none_before P xs = none_added (Before P 0) xs (λ x at. let below = at.1 in omega arith)

-- one place more
pub next_added : {A : Type 0} (P : ℕ → A → Type 0) (Q : A → Type 0) (n : ℕ) (old mid new : List A) → AddsEach (Before P n) old mid → AddsEach Q mid new → ((x : A) → P n x → Q x)
    → AddsEach (Before P (n + 1)) old new
next_added {A} P Q n old mid new first rest here = both_added (Before P n) Q (Before P (n + 1)) old mid new first rest (λ x at. split x at.0 at.1 at.2) where
  split : (x : A) (k : ℕ) → k < n + 1 → P k x → Before P n x ⊎ Q x
  split x k below is =
      elim (cases_lt k n) [ inl less ↦ inl (k, less, is) | inr past ↦ (let same : k ≡ n = omega (arith, below, past) in inr (here x (subst (λ (i : ℕ). P i x) same is))) ]

-- no more places than these
pub all_added : {A : Type 0} (P : ℕ → A → Type 0) (m n : ℕ) (old new : List A) → m ≤ n → AddsEach (Before P n) old new → AddsEach (Before P m) old new
all_added P m n old new less h = record { kept = h.kept; each = λ x at. let below = at.1 in h.each x (at.0, omega (arith, less, below), at.2) }
