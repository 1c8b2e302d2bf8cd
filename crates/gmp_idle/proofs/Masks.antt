-- Sets of small numbers, by their bits.
use Rattle.std.proofs.Common.{◌≡◌, ℕ, ◌+◌, ◌-◌, ◌*◌, ◌/◌, ◌%◌, ◌<◌, ◌≤◌, ◌==◌, ◌^◌, ◌⊎◌, Bool, true, false, not, cond, Some, None, List, [], ◌∷◌, length, replicate, get_or, set, bit_and, bit_or, w64, refl, sym, ap, ◌∙◌, inl, inr, arith}
use Rattle.std.specs.Prelude.{◌≢◌, count_by, count_ones, position, slice_get, unwrap_or}
use Rattle.std.specs.Int.{bit_at}
use Rattle.std.specs.Int.Count.{count_trailing_zeros}
use Rattle.std.specs.List.{list_any, position_or_len}
use Rattle.std.specs.Simd.Lanes.{mask_l}
use Rattle.std.proofs.lemmas.Bool.{cases_eq, cases_lt, eqb-true, lt-ltb, le-ltb, ne_eqb}
use Rattle.std.proofs.lemmas.Bool.Decides.{nat_tests}
use Rattle.std.proofs.lemmas.List.{get_or-replicate, get_or-set_same, get_or-set_other, get_or_past, length-replicate, length-set, map-id}
use Rattle.std.proofs.lemmas.List.FromFn.{fill_by_all, get_or-map-range_with_len, length-map-range_with_len}
use Rattle.std.proofs.lemmas.List.Sums.{position_or_len_is}
use Rattle.std.proofs.lemmas.Nat.{and_le_l, or_lt, one_shl, pow_below}
use Rattle.std.proofs.lemmas.Nat.Bits.{bit_at-lt, bit_at-trailing_zeros, bit_at-zero, bit_at_above, bit_at_clear_other, bit_at_clear_same, bit_at_ones, bit_at_ones_above, bit_at_set_other, bit_at_set_same, ones_shr, same_from_bits, shr_and_one}
use Rattle.std.proofs.lemmas.Option.{get_or_from_slice_get, slice_get-get_or, unwrap_or-slice_get}
use Rattle.std.proofs.lemmas.Simd.{bit_mask_l, ones-mask_l}
use Rattle.gmp_idle.specs.Flags.{flags}

-- is the bit set
abbrev is_set : ℕ → ℕ → Bool
is_set bits i = bit_at bits i == 1

pub length-flags : (bits size : ℕ) → length (flags bits size) ≡ size
length-flags bits size = length-map-range_with_len (is_set bits) 0 size

pub flag_at : (bits size i : ℕ) → i < size → get_or (flags bits size) i false ≡ is_set bits i
flag_at bits size i below = get_or-map-range_with_len (is_set bits) 0 size i i false below (omega arith)

-- a list with these flags is the one of the bits
pub flags_are : (bits size : ℕ) (xs : List Bool) → length xs ≡ size → ((i : ℕ) → i < size → get_or xs i false ≡ is_set bits i) → xs ≡ flags bits size
flags_are bits size xs long same = fill_by_all (is_set bits) xs size false long same

-- Sets that are made

pub flags_none : (size : ℕ) → flags 0 size ≡ replicate size false
flags_none size =
    sym (flags_are 0 size (replicate size false) (length-replicate size false) (λ i below. get_or-replicate size i false false below ∙ clear i))
  where
    clear : (i : ℕ) → false ≡ is_set 0 i
    clear i = ap (λ b. b == 1) (sym (bit_at-zero i))

pub ones_of : (size : ℕ) → size ≤ 64 → (2 ^ 64 - 1) / 2 ^ (64 - size) ≡ 2 ^ size - 1
ones_of size room = ones_shr 64 (64 - size) (omega arith) ∙ ap (λ k. 2 ^ k - 1) (omega arith)

pub flags_all : (bits size : ℕ) → bits ≡ 2 ^ size - 1 → flags bits size ≡ replicate size true
flags_all bits size is =
    sym (flags_are bits size (replicate size true) (length-replicate size true) (λ i below. get_or-replicate size i true false below ∙ each i below))
  where
    each : (i : ℕ) → i < size → true ≡ is_set bits i
    each i below = ap (λ b. b == 1) (sym (bit_at_ones size i below)) ∙ ap (λ n. is_set n i) (sym is)

-- Questions

pub flag_told : (bits size i : ℕ) → unwrap_or (slice_get (flags bits size) i) false ≡ get_or (flags bits size) i false
flag_told bits size i = unwrap_or-slice_get (flags bits size) i false

pub tested : (bits size i : ℕ) → i < size → (bit_and (bits / 2 ^ i) 1 == 1) ≡ unwrap_or (slice_get (flags bits size) i) false
tested bits size i below = ap (λ b. b == 1) (shr_and_one bits i) ∙ (sym (flag_at bits size i below) ∙ sym (flag_told bits size i))

pub beyond : (bits size i : ℕ) → size ≤ i → unwrap_or (slice_get (flags bits size) i) false ≡ false
beyond bits size i past =
    let long = length-flags bits size in
    flag_told bits size i ∙ get_or_past (flags bits size) i false (omega arith)

-- the number of the flags is the bits
pub mask-flags : (bits size : ℕ) → bits < 2 ^ size → mask_l (flags bits size) ≡ bits
mask-flags bits size fits = same_from_bits (mask_l (flags bits size)) bits (λ i. bit_mask_l (flags bits size) i ∙ each i (cases_lt i size))
  where
    as_number : (b : ℕ) → b < 2 → cond (b == 1) 1 0 ≡ b
    as_number b low = grind (arith, nat_tests)

    each : (i : ℕ) → (i < size) ⊎ (size ≤ i) → cond (get_or (flags bits size) i false) 1 0 ≡ bit_at bits i
    each i (inl below) = ap (λ b. cond b 1 0) (flag_at bits size i below) ∙ as_number (bit_at bits i) (bit_at-lt bits i)
    each i (inr past) =
        let long = length-flags bits size in
        ap (λ b. cond b 1 0) (get_or_past (flags bits size) i false (omega arith)) ∙ sym (bit_at_above bits size i fits past)

pub counted : (bits size : ℕ) → bits < 2 ^ size → count_ones bits ≡ count_by (λ b. b) (flags bits size)
counted bits size fits =
    ap count_ones (sym (mask-flags bits size fits) ∙ ap mask_l (sym (map-id (flags bits size)))) ∙ ones-mask_l (λ b. b) (flags bits size)

-- the number of flags is 0 where none is true
mask_none : (xs : List Bool) → (mask_l xs == 0) ≡ not (list_any (λ b. b) xs)
mask_none [] = refl
mask_none (true ∷ xs) = ne_eqb (1 + 2 * mask_l xs) 0 (λ e. omega arith)
mask_none (false ∷ xs) =
    let same : (0 + 2 * mask_l xs == 0) ≡ (mask_l xs == 0) = grind (arith, nat_tests) in
    same ∙ mask_none xs

pub empty : (bits size : ℕ) → bits < 2 ^ size → (bits == 0) ≡ not (list_any (λ b. b) (flags bits size))
empty bits size fits = ap (λ n. n == 0) (sym (mask-flags bits size fits)) ∙ mask_none (flags bits size)

-- All but one

-- with the bit of one of them set too, all are set
abbrev with_bit : ℕ → ℕ → ℕ
with_bit bits i = bit_or bits (1 * 2 ^ i % 2 ^ 64)

pub others_set : (bits size i : ℕ) → size ≤ 64 → i < size → with_bit bits i ≡ 2 ^ size - 1 → (n : ℕ) → n < size → n ≢ i → slice_get (flags bits size) n ≡ Some true
others_set bits size i room below ones n inside other =
    let within : i < 64 = omega arith in
    let long = length-flags bits size in
    let one : bit_at bits n ≡ 1 = sym (bit_at_set_other w64 bits i within n other) ∙ (ap (λ k. bit_at k n) ones ∙ bit_at_ones size n inside) in
    slice_get-get_or (flags bits size) n false (omega arith) ∙ ap Some (flag_at bits size n inside ∙ ap (λ b. b == 1) one)

pub all_set : (bits size i : ℕ) → size ≤ 64 → i < size → bits < 2 ^ size → ((n : ℕ) → n < size → n ≢ i → slice_get (flags bits size) n ≡ Some true) → with_bit bits i ≡ 2 ^ size - 1
all_set bits size i room below fits others = same_from_bits (with_bit bits i) (2 ^ size - 1) (λ n. each n (cases_lt n size))
  where
    each : (n : ℕ) → (n < size) ⊎ (size ≤ n) → bit_at (with_bit bits i) n ≡ bit_at (2 ^ size - 1) n
    each n (inl inside) = one (cases_eq n i) ∙ sym (bit_at_ones size n inside)
      where
        one : (n ≡ i) ⊎ (n ≡ i → ⊥) → bit_at (with_bit bits i) n ≡ 1
        one (inl same) =
            let within : i < 64 = omega arith in
            rw same (bit_at_set_same w64 bits i within)
        one (inr other) =
            let within : i < 64 = omega arith in
            let flag = get_or_from_slice_get (flags bits size) n true false (others n inside other) in
            bit_at_set_other w64 bits i within n other ∙ eqb-true (bit_at bits n) 1 (sym (flag_at bits size n inside) ∙ flag)
    each n (inr past) =
        let within : i < 64 = omega arith in
        bit_at_set_other w64 bits i within n (λ same. omega (arith, same)) ∙ (bit_at_above bits size n fits past ∙ sym (bit_at_ones_above size n past))

-- The least

-- the lowest bit that is set
abbrev lowest : ℕ → ℕ
lowest bits = count_trailing_zeros 64 bits

-- the first flag that is true
abbrev least_place : ℕ → ℕ → ℕ
least_place bits size = position_or_len (λ b. b) (flags bits size)

pub least_some : (bits size : ℕ) → size ≤ 64 → bits < 2 ^ size → (bits ≡ 0 → ⊥) → Some (count_trailing_zeros 64 bits) ≡ position (λ b. b) (flags bits size)
least_some bits size room fits some =
    let wide : bits < 2 ^ 64 = below_64 (cases_lt size 64) in
    let low = bit_at-trailing_zeros w64 bits (omega arith) wide in
    let inside : lowest bits < size = within (cases_lt (lowest bits) size) low.1 in
    let long = length-flags bits size in
    let first : least_place bits size ≡ lowest bits =
    position_or_len_is (λ b. b) (flags bits size) (lowest bits) false (omega arith)
    (λ k before. flag_at bits size k (omega arith) ∙ ap (λ b. b == 1) (low.2 k before))
    (λ _. flag_at bits size (lowest bits) inside ∙ ap (λ b. b == 1) low.1) in
    ap Some (sym first) ∙ sym (ap (λ b. cond b (Some (least_place bits size)) None) (lt-ltb (least_place bits size) (length (flags bits size)) (omega arith)))
  where
    below_64 : (size < 64) ⊎ (64 ≤ size) → bits < 2 ^ 64
    below_64 (inl less) = omega (arith, pow_below size 64 less)
    below_64 (inr all) =
        let same : size ≡ 64 = omega arith in
        rw same at fits

    within : (lowest bits < size) ⊎ (size ≤ lowest bits) → bit_at bits (lowest bits) ≡ 1 → lowest bits < size
    within (inl less) set = less
    within (inr past) set = absurd (omega (arith, bit_at_above bits size (lowest bits) fits past))

no_flag : (bits size i : ℕ) → bits ≡ 0 → get_or (flags bits size) i false ≡ false
no_flag bits size i is = ap (λ n. get_or (flags n size) i false) is ∙ (ap (λ l. get_or l i false) (flags_none size) ∙ none (cases_lt i size))
  where
    none : (i < size) ⊎ (size ≤ i) → get_or (replicate size false) i false ≡ false
    none (inl below) = get_or-replicate size i false false below
    none (inr past) =
        let long = length-replicate size false in
        get_or_past (replicate size false) i false (omega arith)

pub least_none : (bits size : ℕ) → bits ≡ 0 → None ≡ position (λ b. b) (flags bits size)
least_none bits size is =
    let at_end : least_place bits size ≡ length (flags bits size) =
    position_or_len_is (λ b. b) (flags bits size) (length (flags bits size)) false (omega arith) (λ k before. no_flag bits size k is) (λ past. absurd (omega arith)) in
    sym (ap (λ b. cond b (Some (least_place bits size)) None) (le-ltb (least_place bits size) (length (flags bits size)) (omega arith)))

-- Changes

pub flags_set : (bits size i : ℕ) → size ≤ 64 → i < size → flags (bit_or bits (1 * 2 ^ i % 2 ^ 64)) size ≡ set (flags bits size) i true
flags_set bits size i room below =
    let long = length-set (flags bits size) i true ∙ length-flags bits size in
    sym (flags_are (bit_or bits (1 * 2 ^ i % 2 ^ 64)) size (set (flags bits size) i true) long (λ k inside. each k inside (cases_eq k i)))
  where
    each : (k : ℕ) → k < size → (k ≡ i) ⊎ (k ≡ i → ⊥) → get_or (set (flags bits size) i true) k false ≡ is_set (bit_or bits (1 * 2 ^ i % 2 ^ 64)) k
    each k inside (inl same) =
        let within : i < 64 = omega arith in
        let long = length-flags bits size in
        rw same (get_or-set_same (flags bits size) i true false (omega arith) ∙ ap (λ b. b == 1) (sym (bit_at_set_same w64 bits i within)))
    each k inside (inr other) =
        let within : i < 64 = omega arith in
        get_or-set_other (flags bits size) i k true false other ∙ (flag_at bits size k inside ∙ ap (λ b. b == 1) (sym (bit_at_set_other w64 bits i within k other)))

pub flags_clear : (bits size i : ℕ) → size ≤ 64 → i < size
    → flags (bit_and bits (2 ^ 64 - 1 - 1 * 2 ^ i % 2 ^ 64)) size ≡ set (flags bits size) i false
flags_clear bits size i room below =
    let long = length-set (flags bits size) i false ∙ length-flags bits size in
    sym (flags_are (bit_and bits (2 ^ 64 - 1 - 1 * 2 ^ i % 2 ^ 64)) size (set (flags bits size) i false) long (λ k inside. each k inside (cases_eq k i)))
  where
    each : (k : ℕ) → k < size → (k ≡ i) ⊎ (k ≡ i → ⊥)
        → get_or (set (flags bits size) i false) k false ≡ is_set (bit_and bits (2 ^ 64 - 1 - 1 * 2 ^ i % 2 ^ 64)) k
    each k inside (inl same) =
        let within : i < 64 = omega arith in
        let long = length-flags bits size in
        rw same (get_or-set_same (flags bits size) i false false (omega arith) ∙ ap (λ b. b == 1) (sym (bit_at_clear_same w64 bits i within)))
    each k inside (inr other) =
        let within : i < 64 = omega arith in
        get_or-set_other (flags bits size) i k false false other
        ∙ (flag_at bits size k inside ∙ ap (λ b. b == 1) (sym (bit_at_clear_other w64 bits i within k (omega arith) other)))

pub set_fits : (bits size i : ℕ) → size ≤ 64 → i < size → bits < 2 ^ size → bit_or bits (1 * 2 ^ i % 2 ^ 64) < 2 ^ size
set_fits bits size i room below fits =
    let bit : 1 * 2 ^ i % 2 ^ 64 ≡ 2 ^ i = one_shl i 64 (omega arith) in
    or_lt size bits (1 * 2 ^ i % 2 ^ 64) fits (rw bit (pow_below i size below))

pub clear_fits : (bits size i : ℕ) → bits < 2 ^ size → bit_and bits (2 ^ 64 - 1 - 1 * 2 ^ i % 2 ^ 64) < 2 ^ size
clear_fits bits size i fits = omega (arith, and_le_l bits (2 ^ 64 - 1 - 1 * 2 ^ i % 2 ^ 64))

-- a number below the length of the flags is below the size
pub below_size : (bits size : ℕ) (value : List Bool) (i : ℕ) → flags bits size ≡ value → i < length value → i < size
below_size bits size value i is below =
    let long = ap length is in
    omega (arith, length-flags bits size)
