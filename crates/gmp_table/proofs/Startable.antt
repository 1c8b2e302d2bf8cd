-- Who may be started, and who is the least of them.
use Rattle.std.proofs.Common.{◌≡◌, ℕ, zero, suc, ◌<◌, ◌≤◌, ◌==◌, nat_lt, Bool, true, false, Option, Some, None, option_map, List, [], ◌∷◌, length, set, slice_get, refl, ap, subst, ◌∙◌, arith}
use Rattle.std.specs.Prelude.{◌+◌, position, slice_index_or, unwrap_or}
use Rattle.std.specs.List.{list_any, position_or_len}
use Rattle.std.proofs.lemmas.Bool.{false≢true}
use Rattle.std.proofs.lemmas.Bool.Decides.{nat_tests}
use Rattle.std.proofs.lemmas.Option.{slice_get_read}
use Rattle.std.specs.Option.{option_map_or}
use Rattle.gmp_seq.specs.declared.status.Goroutine.{Goroutine}
use Rattle.gmp_seq.specs.declared.status.Status.{Status}
use Rattle.gmp_seq.specs.declared.status.Status.TheVariants as status
use Rattle.gmp_seq.specs.Table.{is_shelved, is_startable}
use Rattle.gmp_table.proofs.Listing.{slice_get-set_same, slice_get-set_other}
use Rattle.gmp_table.specs.Due.{NoneStartableBelow}
use Rattle.gmp_table.specs.Kept.{passes_at}

pub below_set : (rows : List Goroutine) (g : ℕ) (row : Goroutine) (low low' : ℕ) → g < length rows → NoneStartableBelow low rows
    → low' ≤ low → (is_startable row.status ≡ true → low' ≤ g) → NoneStartableBelow low' (set rows g row)
below_set rows g row low low' within none below at i less = by (i == g) refl where
  by_test : (b : Bool) → is_startable row.status ≡ b → i ≡ g → b ≡ false
  by_test true is same = let most : low' ≤ g = at is in absurd (omega arith)
  by_test false is same = refl

  by : (b : Bool) → (i == g) ≡ b → passes_at is_startable (set rows g row) i ≡ false
  by true is =
      let same : i ≡ g = grind (arith, nat_tests) in
      ap (λ (o : Option Goroutine). option_map_or (λ (x : Goroutine). is_startable x.status) o false) (ap (slice_get (set rows g row)) same ∙ slice_get-set_same rows g row within)
      ∙ by_test (is_startable row.status) refl same
  by false is =
      ap (λ (o : Option Goroutine). option_map_or (λ (x : Goroutine). is_startable x.status) o false) (slice_get-set_other rows g i row (λ same. grind (arith, nat_tests)))
      ∙ none i (omega arith)

-- the first that passes, where none before it does
first_is : (rows : List Goroutine) (i : ℕ) → NoneStartableBelow i rows → passes_at is_startable rows i ≡ true → position_or_len (λ (x : Goroutine). is_startable x.status) rows ≡ i
first_is [] i none e = absurd (false≢true e)
first_is (x ∷ xs) zero none e = rw e refl
first_is (x ∷ xs) (suc i) none e = let rest = first_is xs i (λ k less. none (suc k) (omega (arith, less))) e in rw (none zero (omega arith)) (omega (arith, rest))

all_fail : (rows : List Goroutine) → NoneStartableBelow (length rows) rows → position_or_len (λ (x : Goroutine). is_startable x.status) rows ≡ length rows
all_fail [] none = refl
all_fail (x ∷ xs) none = let rest = all_fail xs (λ k less. none (suc k) (omega (arith, less))) in rw (none zero (omega arith)) (omega (arith, rest))

within : (rows : List Goroutine) (i : ℕ) → passes_at is_startable rows i ≡ true → i < length rows
within [] i e = absurd (false≢true e)
within (x ∷ xs) zero e = omega arith
within (x ∷ xs) (suc i) e = let less = within xs i e in omega (arith, less)

pub found : (rows : List Goroutine) (i : ℕ) → NoneStartableBelow i rows → passes_at is_startable rows i ≡ true → position (λ (x : Goroutine). is_startable x.status) rows ≡ Some i
found rows i none e =
    let at = first_is rows i none e in
    let less = within rows i e in
    rw at (grind (arith, nat_tests, less))

pub not_found : (rows : List Goroutine) → NoneStartableBelow (length rows) rows → position (λ (x : Goroutine). is_startable x.status) rows ≡ None
not_found rows none = rw (all_fail rows none) (grind (arith, nat_tests))

-- what the row at a place says
pub passes_read : (rows : List Goroutine) (i : ℕ) (x : Goroutine) (b : Bool) → i < length rows → x ≡ slice_index_or rows i x → is_startable x.status ≡ b → passes_at is_startable rows i ≡ b
passes_read rows i x b less is e = ap (λ (o : Option Goroutine). option_map_or (λ (y : Goroutine). is_startable y.status) o false) (slice_get_read rows (length rows) i x refl less is) ∙ e

pub next_below : (rows : List Goroutine) (i : ℕ) → NoneStartableBelow i rows → passes_at is_startable rows i ≡ false → NoneStartableBelow (i + 1) rows
next_below rows i none e k less = by (k == i) refl where
  by : (b : Bool) → (k == i) ≡ b → passes_at is_startable rows k ≡ false
  by true is = let same : k ≡ i = grind (arith, nat_tests) in rw same e
  by false is = none k (grind (arith, nat_tests))

-- What the least is

abbrev pub startable : Goroutine → Bool
startable x = is_startable x.status

pub below_first : (rows : List Goroutine) → NoneStartableBelow (position_or_len (λ (x : Goroutine). is_startable x.status) rows) rows
below_first [] i less = refl
below_first (x ∷ xs) i less = by (is_startable x.status) refl i less (below_first xs) where
  by : (b : Bool) → is_startable x.status ≡ b → (k : ℕ) → k < position_or_len startable (x ∷ xs) → NoneStartableBelow (position_or_len startable xs) xs
      → passes_at is_startable (x ∷ xs) k ≡ false
  by true is k under rest = absurd (let none : k < 0 = rw is at under in omega (arith, none))
  by false is zero under rest = is
  by false is (suc k) under rest = let low : suc k < 1 + position_or_len startable xs = rw is at under in rest k (omega (arith, low))

abbrev pub Passes : List Goroutine → ℕ → Type 0
Passes rows i = option_map is_startable (option_map (λ (x : Goroutine). x.status) (slice_get rows i)) ≡ Some true

passes_first : (rows : List Goroutine) → position_or_len startable rows < length rows → Passes rows (position_or_len startable rows)
passes_first [] less = absurd (omega (arith, less))
passes_first (x ∷ xs) less = by (is_startable x.status) refl less (passes_first xs) where
  by : (b : Bool) → is_startable x.status ≡ b → position_or_len startable (x ∷ xs) < length (x ∷ xs)
      → (position_or_len startable xs < length xs → Passes xs (position_or_len startable xs)) → Passes (x ∷ xs) (position_or_len startable (x ∷ xs))
  by true is under rest = rw is (ap Some is)
  by false is under rest =
      let low : 1 + position_or_len startable xs < length (x ∷ xs) = rw is at under in
      let next : Passes (x ∷ xs) (suc (position_or_len startable xs)) = rest (omega (arith, low)) in
      let same : suc (position_or_len startable xs) ≡ 1 + position_or_len startable xs = omega arith in
      rw is (subst (Passes (x ∷ xs)) same next)

none_pass : (rows : List Goroutine) → length rows ≤ position_or_len startable rows → list_any startable rows ≡ false
none_pass [] past = refl
none_pass (x ∷ xs) past = by (is_startable x.status) refl past (none_pass xs) where
  by : (b : Bool) → is_startable x.status ≡ b → length (x ∷ xs) ≤ position_or_len startable (x ∷ xs)
      → (length xs ≤ position_or_len startable xs → list_any startable xs ≡ false) → list_any startable (x ∷ xs) ≡ false
  by true is over rest = absurd (let none : length (x ∷ xs) ≤ 0 = rw is at over in omega (arith, none))
  by false is over rest = let past : length (x ∷ xs) ≤ 1 + position_or_len startable xs = rw is at over in rw is (rest (omega (arith, past)))

-- the number below which nobody passes, by the one that was found
pub below_found : (rows : List Goroutine) (o : Option ℕ) → o ≡ position startable rows → NoneStartableBelow (unwrap_or o (length rows)) rows
below_found rows o is = rw is (by (nat_lt (position_or_len startable rows) (length rows)) refl) where
  by : (b : Bool) → nat_lt (position_or_len startable rows) (length rows) ≡ b → NoneStartableBelow (unwrap_or (position startable rows) (length rows)) rows
  by true e = rw e (below_first rows)
  by false e = rw e (λ k less. below_first rows k (grind (arith, nat_tests)))

pub found_passes : (rows : List Goroutine) (i : ℕ) → position startable rows ≡ Some i → Passes rows i
found_passes rows i is = by (nat_lt (position_or_len startable rows) (length rows)) refl where
  by : (b : Bool) → nat_lt (position_or_len startable rows) (length rows) ≡ b → Passes rows i
  by true e =
      let some : Some (position_or_len startable rows) ≡ Some i = rw e at is in
      let same : position_or_len startable rows ≡ i = cc in
      subst (Passes rows) same (passes_first rows (grind (arith, nat_tests)))
  by false e = absurd (let none : None ≡ Some i = rw e at is in cc)

pub none_found : (rows : List Goroutine) → position startable rows ≡ None → list_any startable rows ≡ false
none_found rows is = by (nat_lt (position_or_len startable rows) (length rows)) refl where
  by : (b : Bool) → nat_lt (position_or_len startable rows) (length rows) ≡ b → list_any startable rows ≡ false
  by true e = absurd (let some : Some (position_or_len startable rows) ≡ None = rw e at is in cc)
  by false e = none_pass rows (grind (arith, nat_tests))

-- who is found is off the shelf
pub passes_off : (o : Option Status) → option_map is_startable o ≡ Some true → option_map is_shelved o ≡ Some false
passes_off (Some status.Dormant) e = refl
passes_off (Some status.Dead) e = refl
passes_off (Some _) e = absurd cc
passes_off None e = absurd cc
