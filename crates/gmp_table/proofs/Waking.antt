-- Waking goroutines one after another, by rank.
use Rattle.std.proofs.Common.{◌≡◌, ℕ, zero, suc, ◌+◌, ◌<◌, ◌==◌, Bool, true, false, Option, Some, None, List, [], ◌∷◌, ◌++◌, length, map, set, slice_get, count_by, refl, sym, ap, ◌∙◌, add-zero, zero-add, append_assoc, append-nil, arith}
use Rattle.std.proofs.lemmas.Bool.{false≢true}
use Rattle.std.proofs.lemmas.Bool.Decides.{nat_tests}
use Rattle.std.proofs.lemmas.List.Sums.{sum_by_push, sum_by-cons}
use Rattle.std.proofs.lemmas.List.Elements.{All-push}
use Rattle.std.proofs.lemmas.List.Quantifiers.{all_pairs_push}
use Rattle.std.proofs.lemmas.Option.{slice_get_within}
use Rattle.std.specs.List.{All, AllPairs}
use Rattle.std.specs.Option.{option_map_or, is_some}
use Rattle.gmp_base.specs.declared.number.GNo.{GNo}
use Rattle.gmp_base.specs.declared.ask.Woke.{Woke}
use Rattle.gmp_seq.proofs.Epochs.{at_set}
use Rattle.gmp_seq.specs.declared.status.Goroutine.{Goroutine}
use Rattle.gmp_seq.specs.declared.status.TicketPlace.{TicketPlace}
use Rattle.gmp_seq.specs.declared.status.TicketPlace.TheVariants.{Shelf}
use Rattle.gmp_seq.specs.declared.status.Status.TheVariants.{Ready}
use Rattle.gmp_seq.specs.Table.{Table, made_ready, all_woken, how_many_woken, woken_with}
use Rattle.gmp_table.proofs.Listing.{count_by-set, slice_get-set_same, slice_get-set_other}
use Rattle.gmp_table.specs.Contents.{TableContents}
use Rattle.gmp_table.specs.Kept.{tally, times}
use Rattle.gmp_table.specs.declared.wake.Candidate.{Candidate}
use Rattle.gmp_table.specs.declared.wake.Wake.{Wake}
use Rattle.gmp_table.specs.declared.wake.Wake.TheVariants.{Closed, Due}
use Rattle.gmp_table.specs.Waking.{answer_of, rank_of, rank_at, is_before, is_woken_at, IsWakeOrder, IsFirst}

-- Who is woken

some_none : {X : Type 0} (o : Option X) → o ≡ None → is_some o ≡ true → ⊥
some_none o none some = let e : is_some o ≡ false = rw none refl in false≢true (sym e ∙ some)

ready_unanswered : (wake : Wake) (place : TicketPlace) (woke : Woke) → answer_of wake (Ready place woke) ≡ None
ready_unanswered (Closed c) place woke = refl
ready_unanswered (Due now) place woke = refl

map-set_same : {X Y : Type 0} (f : X → Y) (xs : List X) (i : ℕ) (x y : X) → slice_get xs i ≡ Some x → f y ≡ f x → map f (set xs i y) ≡ map f xs
map-set_same f [] i x y at e = refl
map-set_same f (z ∷ xs) zero x y at e = let same : z ≡ x = cc in ap (λ v. v ∷ map f xs) (e ∙ ap f (sym same))
map-set_same f (z ∷ xs) (suc i) x y at e = ap (λ l. f z ∷ l) (map-set_same f xs i x y at e)

map_same : (f : Goroutine → Goroutine) (xs : List Goroutine) → ((k : ℕ) (x : Goroutine) → slice_get xs k ≡ Some x → f x ≡ x) → map f xs ≡ xs
map_same f [] h = refl
map_same f (x ∷ xs) h = rw (h 0 x refl) (ap (λ l. x ∷ l) (map_same f xs (λ k y e. h (suc k) y e)))

count_none : {X : Type 0} (p : X → Bool) (xs : List X) → ((k : ℕ) (x : X) → slice_get xs k ≡ Some x → p x ≡ false) → count_by p xs ≡ 0
count_none p [] h = refl
count_none p (x ∷ xs) h =
    sum_by-cons (λ z. tally (p z)) x xs ∙ (ap (λ (b : Bool). tally b + count_by p xs) (h 0 x refl) ∙ (zero-add (count_by p xs) ∙ count_none p xs (λ k y e. h (suc k) y e)))

-- Part way: t is what is left of t0 once these were woken, so many
pub record IsPartWoken (wake : Wake) (t0 t : TableContents) (gs : List GNo) (count : ℕ) : Type 0 where
  pub same : all_woken (answer_of wake) t.table ≡ all_woken (answer_of wake) t0.table
  pub counted : count + how_many_woken (answer_of wake) t.table ≡ how_many_woken (answer_of wake) t0.table
  pub shelf : t.shelf ≡ t0.shelf ++ gs
  pub still : (i : ℕ) (x : Goroutine) → slice_get t.table.goroutines i ≡ Some x → is_some (answer_of wake x.status) ≡ true → slice_get t0.table.goroutines i ≡ Some x
  pub each : (i : ℕ) → times i gs + tally (is_woken_at wake t.table.goroutines i) ≡ tally (is_woken_at wake t0.table.goroutines i)
  pub in_order : AllPairs (λ (g h : GNo). is_before (rank_at wake t0.table.goroutines h) (rank_at wake t0.table.goroutines g) ≡ false) gs
  pub behind_them : (i : ℕ) (x : Goroutine) → slice_get t.table.goroutines i ≡ Some x → is_some (answer_of wake x.status) ≡ true
      → All (λ (g : GNo). is_before (rank_of wake x.status) (rank_at wake t0.table.goroutines g) ≡ false) gs

pub none_woken : (wake : Wake) (t0 : TableContents) → IsPartWoken wake t0 t0 [] 0
none_woken wake t0 = record {
  same = refl;
  counted = zero-add (how_many_woken (answer_of wake) t0.table);
  shelf = sym (append-nil t0.shelf);
  still = λ i x at some. at;
  each = λ i. zero-add (tally (is_woken_at wake t0.table.goroutines i));
  in_order = λ i j d before within. absurd (omega arith);
  behind_them = λ i x at some k d within. absurd (omega arith);
}

-- what goroutine b.g becomes
abbrev woken_row : Candidate → Goroutine → Goroutine
woken_row b x = record { status = Ready Shelf b.woke; epoch = x.epoch + 1 }

module _ (wake : Wake) (t0 t t' : TableContents) (gs : List GNo) (count : ℕ) (b : Candidate) (x : Goroutine) (part : IsPartWoken wake t0 t gs count)
    (at : slice_get t.table.goroutines b.g.0 ≡ Some x) (is : answer_of wake x.status ≡ Some b.woke) (rank : b.rank ≡ rank_of wake x.status)
    (least : (k : ℕ) (y : Goroutine) → k < length t.table.goroutines → slice_get t.table.goroutines k ≡ Some y → is_some (answer_of wake y.status) ≡ true
    → is_before (rank_of wake y.status) b.rank ≡ false)
    (table : t'.table ≡ made_ready t.table b.g Shelf b.woke) (shelf : t'.shelf ≡ t.shelf ++ b.g ∷ []) where
  some_is : is_some (answer_of wake x.status) ≡ true
  some_is = ap is_some is

  rows_are : t'.table.goroutines ≡ set t.table.goroutines b.g.0 (woken_row b x)
  rows_are = ap (λ (v : Table). v.goroutines) table ∙ rw at refl

  rank_there : rank_at wake t0.table.goroutines b.g ≡ b.rank
  rank_there = rw (part.still b.g.0 x at some_is) (sym rank)

  -- who is still to be woken was so before, and is another
  old_row : (i : ℕ) (y : Goroutine) → slice_get t'.table.goroutines i ≡ Some y → is_some (answer_of wake y.status) ≡ true → slice_get t.table.goroutines i ≡ Some y
  old_row i y here some =
      at_set (λ (o : Option Goroutine). o ≡ Some y → slice_get t.table.goroutines i ≡ Some y) t.table.goroutines b.g.0 i (woken_row b x)
      (λ same e. let it : woken_row b x ≡ y = cc in absurd (some_none _ (ap (λ (u : Goroutine). answer_of wake u.status) (sym it) ∙ ready_unanswered wake Shelf b.woke) some))
      (λ e. e) (rw rows_are at here)

  same_all : all_woken (answer_of wake) t'.table ≡ all_woken (answer_of wake) t.table
  same_all =
      let f : Goroutine → Goroutine = λ y. woken_with (answer_of wake y.status) y in
      let unchanged : f (woken_row b x) ≡ woken_row b x = rw (ready_unanswered wake Shelf b.woke) refl in
      let woken : f x ≡ woken_row b x = rw is refl in
      let rows : map f (made_ready t.table b.g Shelf b.woke).goroutines ≡ map f t.table.goroutines =
      rw at (map-set_same f t.table.goroutines b.g.0 x (woken_row b x) at (unchanged ∙ sym woken)) in
      ap (all_woken (answer_of wake)) table ∙ ap (λ (l : List Goroutine). record t.table { goroutines = l }) rows

  less_to_wake : how_many_woken (answer_of wake) t'.table + 1 ≡ how_many_woken (answer_of wake) t.table
  less_to_wake =
      let p : Goroutine → Bool = λ y. is_some (answer_of wake y.status) in
      let n = count_by-set p t.table.goroutines b.g.0 x (woken_row b x) at in
      let on : tally (p x) ≡ 1 = ap tally some_is in
      let off : tally (p (woken_row b x)) ≡ 0 = ap (λ (o : Option Woke). tally (is_some o)) (ready_unanswered wake Shelf b.woke) in
      ap (λ (l : List Goroutine). count_by p l + 1) rows_are ∙ omega (arith, n, on, off)

  each_now : (i : ℕ) (c : Bool) → (b.g.0 == i) ≡ c
      → tally c + tally (is_woken_at wake t'.table.goroutines i) ≡ tally (is_woken_at wake t.table.goroutines i)
  each_now i true e =
      let same : b.g.0 ≡ i = grind (arith, nat_tests) in
      let was : is_woken_at wake t.table.goroutines i ≡ true = rw (← same) (rw at some_is) in
      let now : is_woken_at wake t'.table.goroutines i ≡ false =
      rw (rows_are, ← same, slice_get-set_same t.table.goroutines b.g.0 (woken_row b x) (slice_get_within t.table.goroutines b.g.0 x at)) (ap is_some (ready_unanswered wake Shelf b.woke)) in
      rw (was, now) refl
  each_now i false e =
      rw (rows_are, slice_get-set_other t.table.goroutines b.g.0 i (woken_row b x) (λ same. grind (arith, nat_tests))) (zero-add (tally (is_woken_at wake t.table.goroutines i)))

  pub one_more : IsPartWoken wake t0 t' (gs ++ b.g ∷ []) (count + 1)
  one_more = record {
    same = same_all ∙ part.same;
    counted = omega (arith, less_to_wake, part.counted);
    shelf = shelf ∙ (ap (λ (l : List GNo). l ++ b.g ∷ []) part.shelf ∙ append_assoc t0.shelf gs (b.g ∷ []));
    still = λ i y here some. part.still i y (old_row i y here some) some;
    each = λ i.
        let n = sum_by_push (λ (z : GNo). tally (z.0 == i)) gs b.g in
        omega (arith, n, each_now i (b.g.0 == i) refl, part.each i);
    in_order =
        all_pairs_push (λ (g h : GNo). is_before (rank_at wake t0.table.goroutines h) (rank_at wake t0.table.goroutines g) ≡ false) gs b.g part.in_order
        (λ k d within. rw (rank_there, rank) (part.behind_them b.g.0 x at some_is k d within));
    behind_them = λ i y here some.
        let before = old_row i y here some in
        All-push (λ (g : GNo). is_before (rank_of wake y.status) (rank_at wake t0.table.goroutines g) ≡ false) gs b.g (part.behind_them i y before some)
        (rw rank_there (least i y (slice_get_within t.table.goroutines i y before) before some));
  }

-- At the end

pub all_done : (wake : Wake) (t0 t : TableContents) (gs : List GNo) (count : ℕ) → IsPartWoken wake t0 t gs count
    → IsFirst wake t.table.goroutines (length t.table.goroutines) None
    → (t.table ≡ all_woken (answer_of wake) t0.table) × (count ≡ how_many_woken (answer_of wake) t0.table) × IsWakeOrder wake t0.table.goroutines gs
all_done wake t0 t gs count part none = (sym unchanged ∙ part.same, sym (add-zero count) ∙ (ap (λ (n : ℕ). count + n) (sym nobody) ∙ part.counted), order)
  where
    unanswered : (k : ℕ) (x : Goroutine) → slice_get t.table.goroutines k ≡ Some x → answer_of wake x.status ≡ None
    unanswered k x at = none k x (slice_get_within t.table.goroutines k x at) at

    unchanged : all_woken (answer_of wake) t.table ≡ t.table
    unchanged =
        ap (λ (l : List Goroutine). record t.table { goroutines = l })
        (map_same (λ (y : Goroutine). woken_with (answer_of wake y.status) y) t.table.goroutines (λ k x at. rw (unanswered k x at) refl))

    nobody : how_many_woken (answer_of wake) t.table ≡ 0
    nobody = count_none (λ (y : Goroutine). is_some (answer_of wake y.status)) t.table.goroutines (λ k x at. ap is_some (unanswered k x at))

    off : (i : ℕ) (o : Option Goroutine) → slice_get t.table.goroutines i ≡ o → option_map_or (λ (x : Goroutine). is_some (answer_of wake x.status)) o false ≡ false
    off i None at = refl
    off i (Some x) at = ap is_some (unanswered i x at)

    order : IsWakeOrder wake t0.table.goroutines gs
    order = record {
      each = λ i. sym (add-zero (times i gs)) ∙ (ap (λ (b : Bool). times i gs + tally b) (sym (off i (slice_get t.table.goroutines i) refl)) ∙ part.each i);
      in_order = part.in_order;
    }

-- One step of the loop, from what the scan found
pub next_more : (wake : Wake) (t0 t t' : TableContents) (gs : List GNo) (count : ℕ) (b : Candidate) → IsPartWoken wake t0 t gs count
    → IsFirst wake t.table.goroutines (length t.table.goroutines) (Some b) → t'.table ≡ made_ready t.table b.g Shelf b.woke → t'.shelf ≡ t.shelf ++ b.g ∷ []
    → IsPartWoken wake t0 t' (gs ++ b.g ∷ []) (count + 1)
next_more wake t0 t t' gs count b part (x, at, is, rank, least) table shelf = one_more wake t0 t t' gs count b x part at is rank least table shelf

pub next_less : (wake : Wake) (t0 t t' : TableContents) (gs : List GNo) (count : ℕ) (b : Candidate) → IsPartWoken wake t0 t gs count
    → IsFirst wake t.table.goroutines (length t.table.goroutines) (Some b) → t'.table ≡ made_ready t.table b.g Shelf b.woke → t'.shelf ≡ t.shelf ++ b.g ∷ []
    → how_many_woken (answer_of wake) t'.table < how_many_woken (answer_of wake) t.table
next_less wake t0 t t' gs count b part (x, at, is, rank, least) table shelf =
    let n = less_to_wake wake t0 t t' gs count b x part at is rank least table shelf in omega (arith, n)
