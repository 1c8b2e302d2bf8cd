-- Numbers and words that are written and read again.
use Rattle.std.proofs.Common.{◌≡◌, ℕ, ◌+◌, ◌/◌, ◌%◌, ◌^◌, ◌<◌, List, [], ◌∷◌, ◌++◌, refl, arith, rules, decimal}
use Rattle.std.specs.List.{AllByRecursion}
use Rattle.std.proofs.lemmas.Fmt.{decimal_by_steps}
use Rattle.gmp_trace.specs.Guess.{number_on, number_read, narrow}

abbrev pub IsDigit : ℕ → Type 0
IsDigit d = (47 < d) × (d < 58)

pub all-append : (P : ℕ → Type 0) (xs ys : List ℕ) → AllByRecursion P xs → AllByRecursion P ys → AllByRecursion P (xs ++ ys)
all-append P [] ys p q = q
all-append P (x ∷ xs) ys p q = (p.0, all-append P xs ys p.1 q)

pub all-weaker : (P Q : ℕ → Type 0) → ((x : ℕ) → P x → Q x) → (xs : List ℕ) → AllByRecursion P xs → AllByRecursion Q xs
all-weaker P Q h [] p = tt
all-weaker P Q h (x ∷ xs) p = (h x p.0, all-weaker P Q h xs p.1)

pub decimal_digits : (n : ℕ) → n < 2 ^ 64 → AllByRecursion IsDigit (decimal n)
decimal_digits = decimal_by_steps (λ n ds. AllByRecursion IsDigit ds)
    (λ n h. ((omega arith, omega arith), tt))
    (λ n ds h p. all-append IsDigit ds ((48 + n % 10) ∷ []) p ((omega arith, omega arith), tt))

number_on-append : (xs ys : List ℕ) (n : ℕ) → number_on n (xs ++ ys) ≡ number_on (number_on n xs) ys
number_on-append [] ys n = refl
number_on-append (x ∷ xs) ys n = number_on-append xs ys _

pub number_again : (n : ℕ) → n < 2 ^ 64 → number_read (decimal n) ≡ n
unfolding number_read
number_again n small =
    decimal_by_steps (λ n ds. n < 2 ^ 64 → number_on 0 ds ≡ n)
    (λ n h small. omega arith)
    (λ n ds h p small. let front : number_on 0 ds ≡ n / 10 = p (omega arith) in rw (number_on-append, front) (omega arith))
    n small small

pub narrow_again : (bits n : ℕ) → n < 2 ^ bits → narrow bits n ≡ n
unfolding narrow
narrow_again bits n small = search (rules, arith)
