-- Whether a machine holds an active processor, by the first part of the holders and the rest.
use Rattle.std.proofs.Common.{◌≡◌, ℕ, zero, suc, ◌<◌, ◌≤◌, ◌⊎◌, inl, inr, Bool, true, false, ◌&&◌, Option, None, Some, List, [], ◌∷◌, map, replicate, take, drop, refl, sym, ap, ◌∙◌, arith}
use Rattle.std.specs.Prelude.{◌↔◌, IsTrue, nat_lt}
use Rattle.std.specs.List.{list_any, slice_get}
use Rattle.std.proofs.lemmas.Bool.{cases_lt, eq-eqb, eqb-true, false≢true, le-ltb, lt-ltb}
use Rattle.std.proofs.lemmas.List.Folds.{list_any_at}
use Rattle.std.proofs.lemmas.Option.{get_or_from_slice_get, slice_get_within}
use Rattle.gmp_base.specs.declared.number.MNo.{MNo}
use Rattle.gmp_base.specs.declared.number.PNo.{PNo}
use Rattle.gmp_seq.specs.declared.call.Reply.TheVariants as reply
use Rattle.gmp_seq.specs.declared.status.Mode.TheVariants.{Awake}
use Rattle.gmp_seq.specs.Machines.{Machines, IsAwake, MayKeep, is_awake_mode, is_held_by}
use Rattle.gmp_seq.proofs.Needed.{row_taken, some_place, taken_row}
use Rattle.gmp_check.specs.Active.{HoldsSo}
use Rattle.gmp_check.specs.Decides.{Decides}

-- what stands behind the first part of a list
dropped_row : {A : Type 0} (n : ℕ) (xs : List A) (i : ℕ) (x : A) → slice_get (drop n xs) i ≡ Some x → (j : ℕ) × (slice_get xs j ≡ Some x) × (n ≤ j)
dropped_row zero xs i x e = (i, e, omega arith)
dropped_row (suc n) [] i x e = absurd cc
dropped_row (suc n) (y ∷ ys) i x e = let rest = dropped_row n ys i x e in (suc rest.0, rest.1, let l = rest.2 in omega (arith, l))

row_dropped : {A : Type 0} (n : ℕ) (xs : List A) (j : ℕ) (x : A) → n ≤ j → slice_get xs j ≡ Some x → (i : ℕ) × (slice_get (drop n xs) i ≡ Some x)
row_dropped zero xs j x l e = (j, e)
row_dropped (suc n) [] j x l e = absurd cc
row_dropped (suc n) (y ∷ ys) zero x l e = absurd (omega (arith, l))
row_dropped (suc n) (y ∷ ys) (suc j) x l e = row_dropped n ys j x (omega (arith, l)) e

any_at : {A : Type 0} (p : A → Bool) (xs : List A) (i : ℕ) (x : A) → slice_get xs i ≡ Some x → p x ≡ true → list_any p xs ≡ true
any_at p xs i x e pass = list_any_at p xs i x (slice_get_within xs i x e) (ap p (get_or_from_slice_get xs i x x e) ∙ pass)

held_by : (m : MNo) (holder : Option MNo) → is_held_by m holder ≡ true → holder ≡ Some m
held_by m None e = absurd (false≢true e)
held_by m (Some n) e = ap (λ (k : ℕ). Some (record { 0 = k })) (sym (eqb-true m.0 n.0 e))

module _ (w : Machines) (m : MNo) where
  abbrev below : Bool
  below = list_any (is_held_by m) (take w.active w.holders)

  abbrev above : Bool
  above = list_any (is_held_by m) (drop w.active w.holders)

  pub holds_active : (b : Bool) → b ≡ below → IsTrue b ↔ HoldsSo w m true
  holds_active b is = (
    λ yes.
        let place = some_place (is_held_by m) (take w.active w.holders) (sym is ∙ yes) in
        let row = taken_row w.active w.holders place.0 place.1 place.2 in
        (record { 0 = place.0 }, row.0 ∙ ap Some (held_by m place.1 place.3), sym (lt-ltb place.0 w.active row.1)),
    λ (p, holds, told). is ∙ any_at (is_held_by m) (take w.active w.holders) p.0 (Some m) (row_taken w.active w.holders p.0 (Some m) (within p told) holds) (eq-eqb m.0 m.0 refl),
  )
    where
      within : (p : PNo) → true ≡ nat_lt p.0 w.active → p.0 < w.active
      within p told = by_place (cases_lt p.0 w.active)
        where
          by_place : (p.0 < w.active) ⊎ (w.active ≤ p.0) → p.0 < w.active
          by_place (inl l) = l
          by_place (inr past) = absurd (false≢true (sym (le-ltb p.0 w.active past) ∙ sym told))

  pub holds_idle : (b : Bool) → b ≡ above → IsTrue b ↔ HoldsSo w m false
  holds_idle b is = (
    λ yes.
        let place = some_place (is_held_by m) (drop w.active w.holders) (sym is ∙ yes) in
        let row = dropped_row w.active w.holders place.0 place.1 place.2 in
        (record { 0 = row.0 }, row.1 ∙ ap Some (held_by m place.1 place.3), sym (le-ltb row.0 w.active row.2)),
    λ (p, holds, told).
        let row = row_dropped w.active w.holders p.0 (Some m) (past p told) holds in
        is ∙ any_at (is_held_by m) (drop w.active w.holders) row.0 (Some m) row.1 (eq-eqb m.0 m.0 refl),
  )
    where
      past : (p : PNo) → false ≡ nat_lt p.0 w.active → w.active ≤ p.0
      past p told = by_place (cases_lt p.0 w.active)
        where
          by_place : (p.0 < w.active) ⊎ (w.active ≤ p.0) → w.active ≤ p.0
          by_place (inl l) = absurd (false≢true (told ∙ lt-ltb p.0 w.active l))
          by_place (inr l) = l

  pub decides_keep : (b awake has : Bool) → IsTrue awake ↔ IsAwake w m → IsTrue has ↔ HoldsSo w m b → Decides (MayKeep m (reply.Answer b)) w w (awake && has)
  decides_keep b false has is holds = (refl, λ other k. false≢true (is.1 k.0))
  decides_keep b true false is holds = (refl, λ other k. false≢true (holds.1 (k.1, k.2, k.3)))
  decides_keep b true true is holds = let so = holds.0 refl in (is.0 refl, so.0, so.1, so.2, refl)

-- who is awake where all are
pub all_awake : (n : ℕ) → replicate n true ≡ map is_awake_mode (replicate n Awake)
all_awake zero = refl
all_awake (suc n) = ap (λ (l : List Bool). true ∷ l) (all_awake n)
