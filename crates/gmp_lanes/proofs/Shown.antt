-- One goroutine more is on its lane.
use Rattle.std.proofs.Common.{◌≡◌, ◌∙◌, ◌+◌, ◌^◌, ◌<◌, ℕ, true, inl, inr, List, None, Option, Some, ap, arith, get_or, slice_get, subst, sym}
use Rattle.std.proofs.lemmas.Bool.{cases_lt}
use Rattle.gmp_seq.specs.declared.status.Goroutine.{Goroutine}
use Rattle.gmp_lanes.specs.declared.spans.Span.{Span}
use Rattle.gmp_lanes.specs.Shown.{AreShown, shows}

some_one : {A : Type 0} (a b : A) → Some a ≡ Some b → a ≡ b
some_one a b same = cc

-- where the lanes below it stay as they are
pub shown_more : (before mid after : List (Option Span)) (rows : List Goroutine) (n : ℕ) (row : Goroutine) → AreShown before rows n
    → ((h : ℕ) → h < n → get_or mid h None ≡ get_or before h None) → ((h : ℕ) → h < n → get_or after h None ≡ get_or mid h None)
    → slice_get rows n ≡ Some row → (n < 2 ^ 16 → shows n (get_or after n None) row.status ≡ true) → AreShown after rows (n + 1)
shown_more before mid after rows n row so_far same kept there last = λ g lt few r is. elim (cases_lt g n) [
  | inl less ↦ subst (λ (span : Option Span). shows g span r.status ≡ true) (sym (kept g less ∙ same g less)) (so_far g less few r is)
  | inr over ↦
      let here : g ≡ n = omega (arith, lt, over) in
      let one : row ≡ r = some_one row r (sym there ∙ ap (slice_get rows) (sym here) ∙ is) in
      let shown : shows n (get_or after n None) row.status ≡ true = last (subst (λ (h : ℕ). h < 2 ^ 16) here few) in
      subst (λ (h : ℕ). shows h (get_or after h None) r.status ≡ true) (sym here) (subst (λ (x : Goroutine). shows n (get_or after n None) x.status ≡ true) one shown)
]
