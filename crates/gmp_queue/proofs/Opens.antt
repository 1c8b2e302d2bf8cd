-- Queues are opened one after another.
use Rattle.std.proofs.Common.{◌≡◌, refl, ℕ, zero, suc, ◌<◌, List, [], ◌∷◌, ◌++◌, length, subst, sym, ◌∙◌, ap, arith, set, get_or-set_other, get_or-set_same, ◌+◌, ◌-◌, true}
use Rattle.std.specs.Global.{Vec}
use Rattle.std.specs.List.{AllZip, slice_index_or}
use Rattle.std.proofs.lemmas.List.Elements.{All-push}
use Rattle.gmp_queue.specs.declared.ends.Owner.{Owner}
use Rattle.gmp_queue.specs.declared.ends.Thief.{Thief}
use Rattle.gmp_queue.specs.Queue.{all_parts, view_with, kept}
use Rattle.gmp_queue.specs.Ends.{SameOwner}
use native.Mathlib.Decide.{ℕ_discrete}
use Rattle.gmp_queue.specs.Opened.{IsFresh, IsFreshThiefOf, IsOpened, AddsThief}

zip_push : (os : List Owner) (ts : List Thief) (o : Owner) (t : Thief) → AllZip IsFreshThiefOf os ts → IsFreshThiefOf o t → AllZip IsFreshThiefOf (os ++ o ∷ []) (ts ++ t ∷ [])
zip_push [] [] o t all one = (one, tt)
zip_push [] (y ∷ ys) o t all one = absurd all
zip_push (x ∷ xs) [] o t all one = absurd all
zip_push (x ∷ xs) (y ∷ ys) o t all one = (all.0, zip_push xs ys o t all.1 one)

-- an owner that has split off one more pass has the same thieves
pub still_fresh : (o p : Owner) (t : Thief) → SameOwner o p → IsFreshThiefOf o t → IsFreshThiefOf p t
still_fresh o p t same f = ((f.0.0 ∙ sym same.0, f.0.1 ∙ sym same.1), f.1)

-- the row i gets its thief
abbrev Added : Owner → List (Vec Thief) → List (Vec Thief) → ℕ → Type 0
Added o old now i = (k : ℕ) (d : Vec Thief) → k < i → (t : Thief) × ((slice_index_or now k d).items ≡ (slice_index_or old k d).items ++ t ∷ []) × IsFreshThiefOf o t

pub adds_one : (o p : Owner) (old now : List (Vec Thief)) (i : ℕ) (row : Vec Thief) (t : Thief) → SameOwner o p → i < length now → Added o old now i
    → ((d : Vec Thief) → row.items ≡ (slice_index_or old i d).items ++ t ∷ []) → IsFreshThiefOf p t → Added p old (set now i row) (i + 1)
adds_one o p old now i row t same lt done here fresh k d below = elim (ℕ_discrete k i) as (λ _. (t : Thief) × ((slice_index_or (set now i row) k d).items ≡ (slice_index_or old k d).items ++ t ∷ []) × IsFreshThiefOf p t) [
  | yes e ↦ (
    t,
    ap (λ (n : ℕ). (slice_index_or (set now i row) n d).items) e ∙ ap (λ (v : Vec Thief). v.items) (get_or-set_same now i row d lt) ∙ here d ∙ ap (λ (n : ℕ). (slice_index_or old n d).items ++ t ∷ []) (sym e),
    fresh,
  )
  | no n ↦ (let was = done k d (omega arith) in (was.0, ap (λ (v : Vec Thief). v.items) (get_or-set_other now i k row d n) ∙ was.1, still_fresh o p was.0 same was.2))
]

pub opens : (run machines : ℕ) (owners : List Owner) (o : Owner) (old new : List (Vec Thief)) → IsOpened run machines owners old → IsFresh run (length old) o → AddsThief o old new → length new ≡ length old
    → IsOpened run machines (owners ++ o ∷ []) new
opens run machines owners o old new all fresh adds same = (
  All-push (IsFresh run machines) owners o all.0 (subst (λ n. IsFresh run n o) all.1 fresh),
  same ∙ all.1,
  λ k d lt.
      (let at = adds k d (omega (arith, same)) in
      subst (AllZip IsFreshThiefOf (owners ++ o ∷ [])) (sym at.1) (zip_push owners (slice_index_or old k d).items o at.0 (all.2 k d (omega (arith, same))) at.2)),
)

pub one_less : (n : ℕ) → kept (view_with true (all_parts - n) [] []) ≡ view_with true (all_parts - (n + 1)) [] []
one_less n = let e : all_parts - n - 1 ≡ all_parts - (n + 1) = omega arith in ap (λ (m : ℕ). view_with true m [] []) e

pub same_entry : (rows : List (Vec Thief)) (k : ℕ) (d e : Vec Thief) → k < length rows → slice_index_or rows k d ≡ slice_index_or rows k e
same_entry [] k d e lt = absurd (omega arith)
same_entry (x ∷ xs) zero d e lt = refl
same_entry (x ∷ xs) (suc k) d e lt = same_entry xs k d e (omega arith)
