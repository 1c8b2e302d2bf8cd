-- A holder's row is found along the chain and set, and a row is added at the chain's end. Assumes `Logic`.
use Rattle.std.proofs.Common.{◌≡◌, ℕ, zero, suc, List, [], ◌∷◌, ◌++◌, length, slice_get, slice_set, Some, refl, sym, ap, subst}
use seplogic.Ra.Ura.{Ura}
use base.Logic.{SProp, ent, sep, guard, upd, upd_i}
use base.Stored.{Gv, gnil, gnum, gcons, coded×, coded_ℕ}
use base.Fml.{Fml, fsep, fex, fobs, fauth, fres}
use types.Logic.{Logic, sem}
use types.Kit.{‵, raw, ◌⊛◌, given, ◌$◌, ◌∵◌, !, qed, by, move, split, fsplit, fsplit3, fjoin, fjoin3, fpick, fpack, learn, suffices, done, use1, use2, settle, frame, check, rewrite}
use types.Tokens.{res_dup}
use Rattle.gmp_stub.specs.Rows.{pair, cell, chain, past, row}

-- row i is at x
abbrev pub HasRow : List Gv → ℕ → Gv → Type 0
HasRow xs i x = slice_get xs i ≡ Some x

pair_inj : (x y : ℕ × ℕ) → pair x ≡ pair y → x ≡ y
unfolding pair
pair_inj = (coded× coded_ℕ coded_ℕ).inj

abbrev IsPair : Gv → Type 0
IsPair gnil = ⊥
IsPair (gnum n) = ⊥
IsPair (gcons a b) = Unit {0}

pair_not_nil : (x : ℕ × ℕ) → pair x ≡ gnil → ⊥
unfolding pair
pair_not_nil x e = subst IsPair e tt

module _ {M : Type 1} {𝓤 : Ura M} (𝓛 : Logic 𝓤) where
  open 𝓛 use {A}

  abbrev ⟦◌⟧ : Fml → SProp 𝓤
  ⟦ P ⟧ = sem 𝓛 P

  abbrev ◌∗◌ : SProp 𝓤 → SProp 𝓤 → SProp 𝓤
  P ∗ Q = sep 𝓤 P Q

  abbrev ◌⊢◌ : SProp 𝓤 → SProp 𝓤 → Type 1
  P ⊢ Q = ent 𝓤 P Q

  infix 26 ◌⊢◌
  infixr 35 ◌∗◌
  -- nothing is known past an open cell
  past_open : (γ : ℕ) (F : ℕ × ℕ → Fml) (Z : SProp 𝓤) → ⟦ chain [] γ ⟧ ∗ ⟦ fex (ℕ × ℕ) (past γ F) ⟧ ⊢ Z
  past_open γ F Z = qed 𝓛 (‵ (chain [] γ) ∷ ‵ (fex (ℕ × ℕ) (past γ F)) ∷ []) ∵ fsplit ! $ move ! (2 ∷ []) $ fpick ! (λ c. fsplit ! $ move ! (0 ∷ 3 ∷ []) $
      use2 𝓛 (given (pair c ≡ gnil) (‵ (fres γ (pair c)) ⊛ ‵ (fauth γ gnil))) (𝓛.names.res_agree γ (pair c) gnil) $ learn ! (λ e. absurd (pair_not_nil c e)))

  -- what is known past a cell is known of what the cell names
  past_cell : (γ : ℕ) (x : Gv) (rest : ℕ → Fml) (F : ℕ × ℕ → Fml) (Z : SProp 𝓤)
      → ((c : ℕ × ℕ) → A.auth γ (pair c) ∗ A.res γ (pair c) ∗ A.auth c.0 x ∗ ⟦ rest c.1 ⟧ ∗ A.res γ (pair c) ∗ ⟦ F c ⟧ ⊢ Z)
      → ⟦ fex (ℕ × ℕ) (cell γ x rest) ⟧ ∗ ⟦ fex (ℕ × ℕ) (past γ F) ⟧ ⊢ Z
  past_cell γ x rest F Z k = qed 𝓛 (‵ (fex (ℕ × ℕ) (cell γ x rest)) ∷ ‵ (fex (ℕ × ℕ) (past γ F)) ∷ []) ∵ fpick ! (λ c. fsplit3 ! $ move ! (2 ∷ []) $ fsplit ! $ move ! (4 ∷ []) $ fpick ! (λ d. fsplit ! $ move ! (0 ∷ 4 ∷ []) $
      use2 𝓛 (given (pair d ≡ pair c) (‵ (fres γ (pair d)) ⊛ ‵ (fauth γ (pair c)))) (𝓛.names.res_agree γ (pair d) (pair c)) $ learn ! (λ e. split ! $
      rewrite ! 0 (λ (u : ℕ × ℕ). ‵ (fres γ (pair u))) (pair_inj d c e) refl $ rewrite ! 2 (λ (u : ℕ × ℕ). ‵ (F u)) (pair_inj d c e) refl $ move ! (1 ∷ 5 ∷ 3 ∷ 4 ∷ 0 ∷ 2 ∷ []) $ by ! (k c))))

  abbrev Set : List Gv → ℕ → Gv → Gv → ℕ → SProp 𝓤
  Set xs i x y γ = guard 𝓤 (HasRow xs i x) (⟦ chain (slice_set xs i y) γ ⟧ ∗ ⟦ row i y γ ⟧)

  -- the holder's row is in the chain, and both go to y
  pub row_set : (xs : List Gv) (i : ℕ) (x y : Gv) (γ : ℕ) → ⟦ chain xs γ ⟧ ∗ ⟦ row i x γ ⟧ ⊢ upd 𝓤 (Set xs i x y γ)
  row_set [] zero x y γ = past_open γ (λ c. fobs c.0 x) _
  row_set [] (suc i) x y γ = past_open γ (λ c. row i x c.1) _
  row_set (z ∷ xs) zero x y γ = let G : SProp 𝓤 = Set (z ∷ xs) zero x y γ in past_cell γ z (chain xs) (λ c. fobs c.0 x) (upd 𝓤 G) (λ c.
      qed 𝓛 (‵ (fauth γ (pair c)) ∷ ‵ (fres γ (pair c)) ∷ ‵ (fauth c.0 z) ∷ ‵ (chain xs c.1) ∷ ‵ (fres γ (pair c)) ∷ ‵ (fobs c.0 x) ∷ []) ∵ move ! (5 ∷ 2 ∷ []) $
      use2 𝓛 (given (x ≡ z) (‵ (fobs c.0 x) ⊛ ‵ (fauth c.0 z))) (𝓛.names.name_agree c.0 x z) $ learn ! (λ e.
      use1 𝓛 (raw (upd 𝓤 (A.obs c.0 y ∗ A.auth c.0 y))) (𝓛.names.name_set_upd c.0 x z y) $ settle 𝓛 G (‵ (fobs c.0 y) ⊛ ‵ (fauth c.0 y)) $ split ! $
      suffices ! G (upd_i 𝓤 G) $ check ! (ap (λ (v : Gv). Some v) (sym e)) $ move ! (1 ∷ 4 ∷ []) $ fjoin ! $ move ! (2 ∷ 3 ∷ 0 ∷ []) $ fjoin3 ! $ fpack ! (ℕ × ℕ) (cell γ y (chain xs)) c $ frame ! $
      move ! (1 ∷ 0 ∷ []) $ fjoin ! $ fpack ! (ℕ × ℕ) (past γ (λ d. fobs d.0 y)) c $ done !))
  row_set (z ∷ xs) (suc i) x y γ = let G : SProp 𝓤 = Set (z ∷ xs) (suc i) x y γ in past_cell γ z (chain xs) (λ c. row i x c.1) (upd 𝓤 G) (λ c.
      qed 𝓛 (‵ (fauth γ (pair c)) ∷ ‵ (fres γ (pair c)) ∷ ‵ (fauth c.0 z) ∷ ‵ (chain xs c.1) ∷ ‵ (fres γ (pair c)) ∷ ‵ (row i x c.1) ∷ []) ∵ move ! (3 ∷ 5 ∷ []) $
      use2 𝓛 (raw (upd 𝓤 (Set xs i x y c.1))) (row_set xs i x y c.1) $ settle 𝓛 G (given (HasRow xs i x) (‵ (chain (slice_set xs i y) c.1) ⊛ ‵ (row i y c.1))) $ learn ! (λ has. split ! $
      suffices ! G (upd_i 𝓤 G) $ check ! has $ move ! (4 ∷ 0 ∷ []) $ fjoin ! $ move ! (2 ∷ 3 ∷ 0 ∷ []) $ fjoin3 ! $ fpack ! (ℕ × ℕ) (cell γ z (chain (slice_set xs i y))) c $ frame ! $
      move ! (1 ∷ 0 ∷ []) $ fjoin ! $ fpack ! (ℕ × ℕ) (past γ (λ d. row i y d.1)) c $ done !))

  -- a new row, at y, and a new open cell
  abbrev pub Fresh : Gv → ℕ × ℕ → Fml
  Fresh y c = fsep (fobs c.0 y) (fsep (fauth c.0 y) (chain [] c.1))

  abbrev Added : List Gv → Gv → ℕ → SProp 𝓤
  Added xs y γ = ⟦ chain (xs ++ y ∷ []) γ ⟧ ∗ ⟦ row (length xs) y γ ⟧

  -- the open cell names the new row and the new cell
  pub row_add : (xs : List Gv) (y : Gv) (d : ℕ × ℕ) (γ : ℕ) → ⟦ chain xs γ ⟧ ∗ ⟦ Fresh y d ⟧ ⊢ upd 𝓤 (Added xs y γ)
  row_add [] y d γ = let G : SProp 𝓤 = Added [] y γ in
      qed 𝓛 (‵ (chain [] γ) ∷ ‵ (Fresh y d) ∷ []) ∵ use1 𝓛 (raw (upd 𝓤 (A.obs γ (pair d) ∗ A.auth γ (pair d)))) (𝓛.names.name_set_upd γ gnil gnil (pair d)) $ settle 𝓛 G (‵ (fobs γ (pair d)) ⊛ ‵ (fauth γ (pair d))) $ split ! $
      use1 𝓛 (‵ (fres γ (pair d))) (𝓛.names.obs-res γ (pair d)) $ res_dup ! $ move ! (3 ∷ []) $ fsplit ! $ suffices ! G (upd_i 𝓤 G) $
      move ! (4 ∷ 2 ∷ 1 ∷ []) $ fjoin3 ! $ fpack ! (ℕ × ℕ) (cell γ y (chain [])) d $ frame ! $ move ! (1 ∷ 0 ∷ []) $ fjoin ! $ fpack ! (ℕ × ℕ) (past γ (λ c. fobs c.0 y)) d $ done !
  row_add (z ∷ xs) y d γ = let G : SProp 𝓤 = Added (z ∷ xs) y γ in
      qed 𝓛 (‵ (chain (z ∷ xs) γ) ∷ ‵ (Fresh y d) ∷ []) ∵ fpick ! (λ c. fsplit3 ! $ move ! (2 ∷ []) $ fsplit ! $ move ! (1 ∷ 4 ∷ []) $
      use2 𝓛 (raw (upd 𝓤 (Added xs y c.1))) (row_add xs y d c.1) $ settle 𝓛 G (‵ (chain (xs ++ y ∷ []) c.1) ⊛ ‵ (row (length xs) y c.1)) $ split ! $ suffices ! G (upd_i 𝓤 G) $
      move ! (4 ∷ []) $ res_dup ! $ move ! (4 ∷ 2 ∷ []) $ fjoin ! $ move ! (4 ∷ 1 ∷ 0 ∷ []) $ fjoin3 ! $ fpack ! (ℕ × ℕ) (cell γ z (chain (xs ++ y ∷ []))) c $ frame ! $
      fjoin ! $ fpack ! (ℕ × ℕ) (past γ (λ e. row (length xs) y e.1)) c $ done !)
