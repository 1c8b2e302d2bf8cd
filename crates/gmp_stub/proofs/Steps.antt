-- The ghost steps of a board. Each is a basic update. Assumes `Logic`.
use Rattle.std.proofs.Common.{◌≡◌, ℕ, zero, suc, List, [], ◌∷◌, ◌++◌, length, map, slice_get, slice_set, Some, None, refl, sym, ap}
use Rattle.std.proofs.lemmas.List.{map-append, length-map}
use seplogic.Ra.Ura.{Ura}
use base.Stored.{Gv, gnil, Coded}
use base.Logic.{SProp, ent, sep, ex, emp, guard, via}
use base.Fml.{Fml}
use types.Logic.{Logic, sem}
use types.Owned.{basic}
use types.Kit.{‵, ◌⊛◌, given, later, ◌$◌, ◌∵◌, !, qed, move, keep, split, fjoin, fjoin3, learn, show, check, done, use2, updating, await, now, rewrite}
use types.Tokens.{name_new}
use Rattle.gmp_stub.specs.Rows.{chain, row, board_owns, stub_owns}
use Rattle.gmp_stub.proofs.Rows.{HasRow, row_set, row_add}

module _ {X : Type 0} (c : Coded X) where
  -- what a list of codes has, the list has
  get_back : (vs : List X) (i : ℕ) (v : X) → slice_get (map c.code vs) i ≡ Some (c.code v) → slice_get vs i ≡ Some v
  get_back [] i v e = absurd (let none : None ≡ Some (c.code v) = e in cc)
  get_back (w ∷ vs) zero v e = ap (λ (x : X). Some x) (c.inj w v (let same : Some (c.code w) ≡ Some (c.code v) = e in cc))
  get_back (w ∷ vs) (suc i) v e = get_back vs i v e

  set_codes : (vs : List X) (i : ℕ) (v : X) → slice_set (map c.code vs) i (c.code v) ≡ map c.code (slice_set vs i v)
  set_codes [] i v = refl
  set_codes (w ∷ vs) zero v = refl
  set_codes (w ∷ vs) (suc i) v = ap (λ (xs : List Gv). c.code w ∷ xs) (set_codes vs i v)

module _ {M : Type 1} {𝓤 : Ura M} (𝓛 : Logic 𝓤) where
  open 𝓛 use {H}

  abbrev ⟦◌⟧ : Fml → SProp 𝓤
  ⟦ P ⟧ = sem 𝓛 P

  abbrev ◌∗◌ : SProp 𝓤 → SProp 𝓤 → SProp 𝓤
  P ∗ Q = sep 𝓤 P Q

  abbrev ◌⊢◌ : SProp 𝓤 → SProp 𝓤 → Type 1
  P ⊢ Q = ent 𝓤 P Q

  infix 26 ◌⊢◌
  infixr 35 ◌∗◌
  module _ {X : Type 0} (c : Coded X) where
    pub begins : emp 𝓤 ⊢ H.⇛ (ex 𝓤 (λ (γ : ℕ). ⟦ board_owns c.code γ [] ⟧))
    unfolding board_owns
    begins = qed 𝓛 [] ∵ updating ! $ name_new ! tt gnil (λ γ. fjoin ! $ now ! $ show ! (λ (g : ℕ). ⟦ board_owns c.code g [] ⟧) γ $ keep ! (0 ∷ []) $ done !)

    pub adds : (γ : ℕ) (vs : List X) (v : X) → ⟦ board_owns c.code γ vs ⟧ ⊢ H.⇛ (⟦ board_owns c.code γ (vs ++ v ∷ []) ⟧ ∗ ⟦ stub_owns c.code γ (length vs) v ⟧)
    unfolding board_owns stub_owns
    adds γ vs v =
        let xs : List Gv = map c.code vs in let y : Gv = c.code v in
        qed 𝓛 (‵ (chain xs γ) ∷ []) ∵ updating ! $ name_new ! tt gnil (λ δ. fjoin ! $ name_new ! tt y (λ n. fjoin3 ! $ move ! (1 ∷ 0 ∷ []) $
        use2 𝓛 (later (‵ (chain (xs ++ y ∷ []) γ) ⊛ ‵ (row (length xs) y γ))) (via 𝓤 _ (row_add 𝓛 xs y (n, δ) γ) (basic 𝓛 _)) $ await ! tt $ split ! $
        rewrite ! 0 (λ (zs : List Gv). ‵ (chain zs γ)) (sym (map-append c.code vs (v ∷ []))) refl $ rewrite ! 1 (λ (k : ℕ). ‵ (row k y γ)) (length-map vs c.code) refl $ now ! $ done !))

    abbrev pub Sets : ℕ → List X → ℕ → X → X → SProp 𝓤
    Sets γ vs i v w = guard 𝓤 (slice_get vs i ≡ Some v) (⟦ board_owns c.code γ (slice_set vs i w) ⟧ ∗ ⟦ stub_owns c.code γ i w ⟧)

    pub sets : (γ : ℕ) (vs : List X) (i : ℕ) (v w : X) → ⟦ board_owns c.code γ vs ⟧ ∗ ⟦ stub_owns c.code γ i v ⟧ ⊢ H.⇛ (Sets γ vs i v w)
    unfolding board_owns stub_owns
    sets γ vs i v w =
        let xs : List Gv = map c.code vs in let x : Gv = c.code v in let y : Gv = c.code w in
        qed 𝓛 (‵ (chain xs γ) ∷ ‵ (row i x γ) ∷ []) ∵ updating ! $
        use2 𝓛 (later (given (HasRow xs i x) (‵ (chain (slice_set xs i y) γ) ⊛ ‵ (row i y γ)))) (via 𝓤 _ (row_set 𝓛 xs i x y γ) (basic 𝓛 _)) $ await ! tt $ learn ! (λ has. split ! $
        rewrite ! 0 (λ (zs : List Gv). ‵ (chain zs γ)) (set_codes c vs i w) refl $ now ! $ check ! (get_back c vs i v has) $ done !)
