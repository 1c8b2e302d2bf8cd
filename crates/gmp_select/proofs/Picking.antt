-- What is chosen can proceed, and where nothing is chosen nothing can.
use Rattle.std.proofs.Common.{◌≡◌, ℕ, zero, suc, ◌+◌, ◌%◌, ◌<◌, ◌≤◌, ◌==◌, ◌^◌, Bool, true, false, cond, Option, Some, None, List, [], ◌∷◌, length, filter, slice_get, refl, sym, ap, ◌∙◌, arith}
use Rattle.std.specs.List.{list_any, range_with_len}
use Rattle.std.specs.Int.{bit_at}
use Rattle.std.specs.Option.{option_map_or, IfNone}
use Rattle.std.proofs.lemmas.Bool.{false≢true}
use Rattle.std.proofs.lemmas.Bool.Decides.{nat_tests}
use Rattle.std.proofs.lemmas.Nat.{mod_below}
use Rattle.std.proofs.lemmas.Nat.Bits.{bit_at-lt, bit_at-zero, same_from_bits_below}
use Rattle.std.proofs.lemmas.Option.{slice_get-get_or, slice_get_past}
use Rattle.gmp_base.specs.declared.cases.Case.{Case}
use Rattle.gmp_seq.specs.declared.status.Waiter.{Waiter}
use Rattle.gmp_seq.specs.Channels.{Channel}
use Rattle.gmp_seq.specs.Waits.{can}
use Rattle.gmp_select.specs.Choosing.{case_can, is_set, passing, pick}

-- Of any list

passes : (p : ℕ → Bool) (xs : List ℕ) (k x : ℕ) → slice_get (filter p xs) k ≡ Some x → p x ≡ true
passes p [] k x e = absurd cc
passes p (y ∷ ys) k x e = by_test (p y) refl k e (λ k e. passes p ys k x e)
  where
    by_test : (b : Bool) → p y ≡ b → (k : ℕ) → slice_get (cond b (y ∷ filter p ys) (filter p ys)) k ≡ Some x
        → ((k : ℕ) → slice_get (filter p ys) k ≡ Some x → p x ≡ true) → p x ≡ true
    by_test true is zero e rest =
        let same : y ≡ x = cc in
        rw (← same) is
    by_test true is (suc k) e rest = rest k e
    by_test false is k e rest = rest k e

same_filter : (p q : ℕ → Bool) → ((x : ℕ) → p x ≡ q x) → (xs : List ℕ) → filter p xs ≡ filter q xs
same_filter p q same [] = refl
same_filter p q same (x ∷ xs) =
    ap (λ b. cond b (x ∷ filter p xs) (filter p xs)) (same x) ∙ ap (λ l. cond (q x) (x ∷ l) l) (same_filter p q same xs)

-- the remainder is an index, unless there is nothing
nothing : (xs : List ℕ) (word : ℕ) → slice_get xs (word % length xs) ≡ None → xs ≡ []
nothing [] word e = refl
nothing (x ∷ xs) word e =
    let some = slice_get-get_or (x ∷ xs) (word % length (x ∷ xs)) x (mod_below word (length (x ∷ xs)) (omega arith)) in
    absurd cc

-- where a range has none that passes, each number in it fails
none_in_range : (p : ℕ → Bool) (a n : ℕ) → filter p (range_with_len a n) ≡ [] → (i : ℕ) → a ≤ i → i < a + n → p i ≡ false
none_in_range p a zero e i low high = absurd (omega arith)
none_in_range p a (suc n) e i low high = by_test (p a) refl e (λ rest. none_in_range p (a + 1) n rest i)
  where
    by_place : (b : Bool) → (i == a) ≡ b → p a ≡ false → (a + 1 ≤ i → i < a + 1 + n → p i ≡ false) → p i ≡ false
    by_place true is here later =
        let same : i ≡ a = grind (arith, nat_tests) in
        rw same here
    by_place false is here later = later (grind (arith, nat_tests)) (omega arith)

    by_test : (b : Bool) → p a ≡ b → cond b (a ∷ filter p (range_with_len (a + 1) n)) (filter p (range_with_len (a + 1) n)) ≡ []
        → (filter p (range_with_len (a + 1) n) ≡ [] → a + 1 ≤ i → i < a + 1 + n → p i ≡ false) → p i ≡ false
    by_test true is e later = absurd cc
    by_test false is e later = by_place (i == a) refl is (later e)

none_of : {X : Type 0} (p : X → Bool) (xs : List X) → ((i : ℕ) → i < length xs → option_map_or p (slice_get xs i) false ≡ false) → list_any p xs ≡ false
none_of p [] h = refl
none_of p (x ∷ xs) h =
    let here : p x ≡ false = h 0 (omega arith) in
    let rest = none_of p xs (λ i below. h (suc i) (omega arith)) in
    grind arith

-- Of the numbers below 8

-- what is chosen passes
pub picked_passes : (test : ℕ → Bool) (word i : ℕ) → pick test word ≡ Some i → test i ≡ true
picked_passes test word i e = passes test (range_with_len 0 8) (word % length (passing test)) i e

-- where none is chosen, none passes
pub none_passes : (test : ℕ → Bool) (word : ℕ) → pick test word ≡ None → (i : ℕ) → i < 8 → test i ≡ false
none_passes test word e i below = none_in_range test 0 8 (nothing (passing test) word e) i (omega arith) (omega arith)

pub pick_same : (t u : ℕ → Bool) (word : ℕ) → ((i : ℕ) → t i ≡ u i) → pick t word ≡ pick u word
pick_same t u word same = ap (λ l. slice_get l (word % length l)) (same_filter t u same (range_with_len 0 8))

-- where as many as none pass, none is chosen
pub no_pick : (test : ℕ → Bool) (word n : ℕ) → n ≡ length (passing test) → n ≡ 0 → None ≡ pick test word
no_pick test word n count none = sym (slice_get_past (passing test) (word % length (passing test)) (omega arith))

-- Of the bits

-- a number none of whose 8 bits is chosen is 0
none_set : (bits word : ℕ) → bits < 2 ^ 8 → pick (is_set bits) word ≡ None → bits ≡ 0
none_set bits word fits e = same_from_bits_below 8 bits 0 fits (omega arith) (λ i below. clear i (none_passes (is_set bits) word e i below) ∙ sym (bit_at-zero i))
  where
    clear : (i : ℕ) → (bit_at bits i == 1) ≡ false → bit_at bits i ≡ 0
    clear i unset =
        let low = bit_at-lt bits i in
        grind (arith, nat_tests)

pub none_where_none_set : (bits word : ℕ) (r : Option ℕ) → bits < 2 ^ 8 → r ≡ pick (is_set bits) word → IfNone r (bits ≡ 0)
none_where_none_set bits word None fits e = none_set bits word fits (sym e)
none_where_none_set bits word (Some i) fits e = tt

-- Of the cases

pub picked : (channels : List Channel) (all : List Waiter) (cases : List Case) (word i : ℕ) → pick (case_can channels all cases) word ≡ Some i
    → (c : Case) × (slice_get cases i ≡ Some c) × (can channels all c ≡ true)
picked channels all cases word i e = found (slice_get cases i) (picked_passes (case_can channels all cases) word i e)
  where
    found : (r : Option Case) → option_map_or (can channels all) r false ≡ true → (c : Case) × (r ≡ Some c) × (can channels all c ≡ true)
    found None e = absurd (false≢true e)
    found (Some c) e = (c, refl, e)

pub none_picked : (channels : List Channel) (all : List Waiter) (cases : List Case) (word : ℕ) → length cases ≤ 8
    → pick (case_can channels all cases) word ≡ None → list_any (can channels all) cases ≡ false
none_picked channels all cases word few e =
    none_of (can channels all) cases (λ i below. none_passes (case_can channels all cases) word e i (omega arith))
