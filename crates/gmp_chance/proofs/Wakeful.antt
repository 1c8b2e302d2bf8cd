-- The machines that are awake.
use Rattle.std.proofs.Common.{◌≡◌, ◌<◌, ◌≤◌, ◌+◌, ◌%◌, ℕ, zero, suc, Bool, true, false, [], ◌∷◌, All, List, length, map, if◌then◌else◌, get_or, inl, inr, refl, sym, subst, ap, ◌∙◌, arith}
use Rattle.std.proofs.lemmas.Bool.{cases_lt}
use Rattle.std.proofs.lemmas.List.{length-append, length-map}
use Rattle.std.proofs.lemmas.List.Elements.{All-append, All-cons, All-get_or, All-nil, All-weaker}
use Rattle.std.proofs.Math.Nat.{mod-eq_of_lt}
use Rattle.gmp_base.specs.declared.number.MNo.{MNo}
use Rattle.gmp_acts.specs.System.{System}
use Rattle.gmp_core.specs.Stage.{HasTurn, machines_of, parked}
use Rattle.gmp_chance.specs.declared.dealer.Next.{Next}
use Rattle.gmp_chance.specs.Drawn.{awake, awake_below, next_of, nexts}

-- a machine that is there and not parked
abbrev pub IsAwake : System → ℕ → ℕ → Type 0
IsAwake k n m = (m < n) × (parked k m ≡ false)

all_awake : (k : System) (n : ℕ) → All (IsAwake k n) (awake_below k n)
all_awake k zero = All-nil (IsAwake k zero)
all_awake k (suc n) =
    All-append (IsAwake k (suc n)) (awake_below k n) (if parked k n then [] else (n ∷ []))
    (All-weaker (IsAwake k n) (IsAwake k (suc n)) (λ m is. (let below = is.0 in omega (arith, below), is.1)) (awake_below k n) (all_awake k n))
    (last (parked k n) refl) where
      last : (b : Bool) → parked k n ≡ b → All (IsAwake k (suc n)) (if b then [] else (n ∷ []))
      last true is = All-nil (IsAwake k (suc n))
      last false is = All-cons (IsAwake k (suc n)) n [] (omega arith, is) (All-nil (IsAwake k (suc n)))

-- who is picked is there, and not parked
pub picked_awake : (k : System) (n place d : ℕ) → place < length (awake_below k n) → IsAwake k n (get_or (awake_below k n) place d)
picked_awake k n place d there = All-get_or (IsAwake k n) (awake_below k n) place d there (all_awake k n)

-- there are no more than machines
pub few_awake : (k : System) (n : ℕ) → length (awake_below k n) ≤ n
few_awake k zero = omega arith
few_awake k (suc n) =
    let before = few_awake k n in
    let one = last (parked k n) in
    let sum = length-append (awake_below k n) (if parked k n then [] else (n ∷ [])) in
    omega (arith, before, one, sum) where
      last : (b : Bool) → length (if b then [] else (n ∷ [])) ≤ 1
      last true = omega arith
      last false = omega arith

-- what each of them does next, by another name of the core
pub listed_as : (k k' : System) (awake_list : List ℕ) (made shown : List Next) → k' ≡ k → awake_list ≡ awake k → made ≡ map (next_of k') awake_list → shown ≡ made → shown ≡ nexts k
listed_as k k' awake_list made shown same seen are is =
    is ∙ are ∙ ap (λ (s : System). map (next_of s) awake_list) same ∙ ap (λ (l : List ℕ). map (next_of k) l) seen

-- it is as long as the list of those
pub below_listed : (k : System) (place : ℕ) (shown : List Next) → shown ≡ nexts k → place < length shown → place < length (awake k)
below_listed k place shown is there =
    let same : length shown ≡ length (awake k) = ap (λ (l : List Next). length l) is ∙ length-map (awake k) (next_of k) in
    omega (arith, same, there)

-- where nobody is awake all are parked
pub none_awake : (k : System) (n : ℕ) → length (awake_below k n) ≡ 0 → (m : ℕ) → m < n → parked k m ≡ true
none_awake k zero none m below = elim below [ ]
none_awake k (suc n) none m below =
    let sum = length-append (awake_below k n) (if parked k n then [] else (n ∷ [])) in
    elim (cases_lt m n) [
      | inl before ↦ none_awake k n (omega (arith, sum, none)) m before
      | inr behind ↦
          let here : n ≡ m = omega (arith, behind, below) in
          subst (λ (x : ℕ). parked k x ≡ true) here (last (parked k n) refl (omega (arith, sum, none)))
    ] where
      last : (b : Bool) → parked k n ≡ b → length (if b then [] else (n ∷ [])) ≡ 0 → parked k n ≡ true
      last true is none = is
      last false is none = (let no : ⊥ = omega (arith, none) in elim no [ ])

-- a machine that is awake has its own turn
pub own_turn : (k : System) (m : MNo) → m.0 < machines_of k → parked k m.0 ≡ false → HasTurn k m.0 m
own_turn k m below awake = record {
  passed = 0;
  few = omega (arith, below);
  there = (let same : m.0 + 0 ≡ m.0 = omega arith in sym (ap (λ (x : ℕ). x % machines_of k) same ∙ mod-eq_of_lt below));
  awake = awake;
  asleep = λ i no. (let none : ⊥ = omega (arith, no) in elim none [ ]);
}
