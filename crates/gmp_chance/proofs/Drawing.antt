-- One draw more.
use Rattle.std.proofs.Common.{◌≡◌, ◌+◌, ◌++◌, ◌∷◌, ◌∙◌, ℕ, suc, List, [], ap, add-one, subst, sym}
use Rattle.rand_pcg.specs.Lcg.{Lcg}
use Rattle.rand_pcg.specs.Pcg.{pcg32}
use Rattle.gmp_chance.specs.Ranked.{drawn}

-- the list with the number that is drawn next, and the generator behind it
pub drawn_on : (f : ℕ → ℕ) (n : ℕ) (g : Lcg) (made : List ℕ) (now : Lcg) (word : ℕ) (next : Lcg) → made ≡ (drawn f n g).0 → now ≡ (drawn f n g).1 → (word, next) ≡ pcg32 now
    → (made ++ f word ∷ [] ≡ (drawn f (n + 1) g).0) × (next ≡ (drawn f (n + 1) g).1)
drawn_on f n g made now word next is at draws =
    let word_is : word ≡ (pcg32 (drawn f n g).1).0 = ap (λ (p : ℕ × Lcg). p.0) draws ∙ ap (λ (l : Lcg). (pcg32 l).0) at in
    let next_is : next ≡ (pcg32 (drawn f n g).1).1 = ap (λ (p : ℕ × Lcg). p.1) draws ∙ ap (λ (l : Lcg). (pcg32 l).1) at in
    rw add-one (ap (λ (l : List ℕ). l ++ f word ∷ []) is ∙ ap (λ (w : ℕ). (drawn f n g).0 ++ f w ∷ []) word_is, next_is)
