-- A book at its opening.
use Rattle.std.proofs.Common.{◌≡◌, ℕ, suc, zero, ◌+◌, ◌-◌, ◌≤◌, Bool, true, Option, None, Some, is_some, List, [], ◌∷◌, ◌++◌, length, map, replicate, refl, sym, ap, ◌∙◌, arith}
use Rattle.std.specs.Prelude.{is_none}
use Rattle.std.proofs.lemmas.List.{map-append}
use Rattle.std.specs.List.{range_with_len}
use Rattle.gmp_base.specs.declared.pass.Pass.{Pass}
use Rattle.gmp_seq.specs.declared.call.Limits.{Limits}
use Rattle.gmp_seq.specs.State.{dormant, first_goroutine}
use Rattle.gmp_book.specs.Book.{IsBook, MayOpen, opening_book, opening_passes}
use Rattle.gmp_book.proofs.Bodies.{is_in}

range-push : (a n : ℕ) → range_with_len a (suc n) ≡ range_with_len a n ++ (a + n) ∷ []
range-push a zero = let e : a ≡ a + 0 = omega arith in ap (λ (k : ℕ). k ∷ []) e
range-push a (suc n) =
    let e : a + 1 + n ≡ a + suc n = omega arith in
    ap (λ (ks : List ℕ). a ∷ ks) (range-push (a + 1) n ∙ ap (λ (k : ℕ). range_with_len (a + 1) n ++ k ∷ []) e)

pub opening_passes-push : (run m : ℕ)
    → opening_passes run (m + 1) ≡ opening_passes run m ++ record { run = run; m = record { 0 = m }; calls = 0; seen = 0 } ∷ []
opening_passes-push run m =
    let f : ℕ → Pass = λ k. record { run = run; m = record { 0 = k }; calls = 0; seen = 0 } in
    let next : m + 1 ≡ suc m = omega arith in
    let here : 0 + m ≡ m = omega arith in
    ap (λ (n : ℕ). map f (range_with_len 0 n)) next
    ∙ (ap (λ (ks : List ℕ). map f ks) (range-push 0 m)
    ∙ (map-append f (range_with_len 0 m) ((0 + m) ∷ []) ∙ ap (λ (k : ℕ). map f (range_with_len 0 m) ++ f k ∷ []) here))

length-Some : {X : Type 0} (xs : List X) → length (map {B = Option X} Some xs) ≡ length xs
length-Some [] = refl
length-Some (x ∷ xs) = (let e = length-Some xs in omega arith)

-- all places are full
all_in : {X A : Type 0} (f : A → Bool) (xs : List X) (a : A) (n : ℕ) → n ≡ length xs → f a ≡ true → map is_some (map {B = Option X} Some xs) ≡ map f (replicate n a)
all_in f [] a zero count e = refl
all_in f [] a (suc n) count e = absurd (omega (arith, count))
all_in f (x ∷ xs) a zero count e = absurd (let h : 0 ≡ suc (length xs) = count in omega (arith, h))
all_in f (x ∷ xs) a (suc n) count e =
    let rest : n ≡ length xs = omega (arith, count) in
    ap (λ (b : Bool). b ∷ map is_some (map Some xs)) (sym e) ∙ ap (λ (bs : List Bool). f a ∷ bs) (all_in f xs a n rest e)

bodies_in : {T : Type 0} (bodies : List T) → 1 ≤ length bodies → map is_some (map {B = Option T} Some bodies) ≡ map is_in (first_goroutine ∷ replicate (length bodies - 1) dormant)
bodies_in [] some = absurd (omega (arith, some))
bodies_in (b ∷ bs) some =
    let rest : length (b ∷ bs) - 1 ≡ length bs = omega arith in
    ap (λ (xs : List Bool). true ∷ xs) (all_in is_in bs dormant (length (b ∷ bs) - 1) rest refl)

pub opening_is_book : {T Q : Type 0} (run : ℕ) (limits : Limits) (capacities : List ℕ) (bodies : List T) (owners : List Q)
    → MayOpen limits (length bodies) capacities (length owners) → IsBook (opening_book run limits capacities bodies owners)
opening_is_book run limits capacities bodies owners may = record {
  bodies_count = length-Some bodies;
  owners_count = length-Some owners ∙ may.1;
  bodies = λ none on. bodies_in bodies may.0.stock.0;
  owners = λ none on. all_in is_none owners None limits.procs (sym may.1) refl;
}
