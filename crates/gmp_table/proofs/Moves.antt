-- A status table is kept where one goroutine changes, and the shelf with it.
use Rattle.std.proofs.Common.{◌≡◌, ℕ, zero, suc, ◌+◌, ◌-◌, ◌<◌, ◌==◌, Bool, true, false, ◌&&◌, ◌||◌, List, [], ◌∷◌, ◌++◌, Option, Some, None, length, set, drop, replicate, slice_get, nat_lt, subst, IfSome, refl, sym, ◌∙◌, ap, arith, length-set}
use Rattle.std.proofs.lemmas.Bool.Decides.{nat_tests}
use Rattle.std.proofs.lemmas.Grind.{common_steps}
use Rattle.std.proofs.lemmas.List.{length-replicate}
use Rattle.std.proofs.lemmas.Option.{slice_get_within}
use Rattle.std.specs.List.{list_any}
use Rattle.std.specs.Option.{option_map, option_map_or}
use Rattle.circular_buffer.specs.Buffer.{keep_last}
use Rattle.gmp_base.specs.declared.number.GNo.{GNo}
use Rattle.gmp_base.specs.declared.number.Readiness.{Readiness}
use Rattle.gmp_base.specs.declared.ask.Woke.{Woke}
use Rattle.gmp_seq.specs.declared.status.Goroutine.{Goroutine}
use Rattle.gmp_seq.specs.declared.status.TicketPlace.{TicketPlace}
use Rattle.gmp_seq.specs.declared.status.TicketPlace.TheVariants.{Shelf, Out}
use Rattle.gmp_seq.specs.declared.status.Status.{Status}
use Rattle.gmp_seq.specs.declared.status.Status.TheVariants.{Dormant, Ready, Running, Calling, Waiting, Dead}
use Rattle.gmp_seq.specs.State.{dormant, first_goroutine}
use Rattle.gmp_seq.specs.Table.{is_shelved, is_out, is_astir, is_calling, is_ready_or_running}
use Rattle.gmp_table.specs.Contents.{answer_in, turned, epoch_in, has_deadline}
use Rattle.gmp_table.specs.Kept.{count_status, IsListing, IsTable}
use Rattle.gmp_table.proofs.Listing.{slice_get-set_same, pushed, popped, passed_by, first_passes, HasRow, row_of, listed_fewer, any_counted, some_listed, dormant_listing}

-- The row of a goroutine that is off the shelf

abbrev pub IsOff : List Goroutine → GNo → Type 0
IsOff rows g = option_map is_shelved (option_map (λ (x : Goroutine). x.status) (slice_get rows g.0)) ≡ Some false

pub off_row : (rows : List Goroutine) (g : GNo) → IsOff rows g → HasRow is_shelved rows g false
off_row rows g off = row_by (slice_get rows g.0) refl off
  where
    row_by : (o : Option Goroutine) → slice_get rows g.0 ≡ o → option_map is_shelved (option_map (λ (x : Goroutine). x.status) o) ≡ Some false → HasRow is_shelved rows g false
    row_by None at e = absurd cc
    row_by (Some x) at e = record { row = x; at = at; is = cc }

pub off_within : (rows : List Goroutine) (g : GNo) → IsOff rows g → g.0 < length rows
off_within rows g off = let r = off_row rows g off in slice_get_within rows g.0 r.row r.at

-- a goroutine off the shelf stays off it
pub off_turned : (rows : List Goroutine) (g : GNo) (y : Goroutine) (shelf : List GNo) (capacity : ℕ) → IsTable rows shelf capacity → IsOff rows g
    → is_shelved y.status ≡ false → IsTable (set rows g.0 y) shelf capacity
off_turned rows g y shelf capacity kept off now_off =
    let r = off_row rows g off in
    record {
      listing = passed_by is_shelved rows g r.row y shelf kept.listing r.at (r.is ∙ sym now_off);
      room = rw length-set kept.room;
    }

-- the shelf has room for one that is off it
pub off_room : (rows : List Goroutine) (g : GNo) (shelf : List GNo) (capacity : ℕ) → IsTable rows shelf capacity → IsOff rows g
    → keep_last capacity (shelf ++ g ∷ []) ≡ shelf ++ g ∷ []
off_room rows g shelf capacity kept off =
    let r = off_row rows g off in
    let fewer = listed_fewer is_shelved rows g r.row first_goroutine shelf kept.listing r.at r.is refl in
    let size : length (shelf ++ g ∷ []) ≡ length shelf + 1 = grind (arith, common_steps) in
    let fits : length (shelf ++ g ∷ []) - capacity ≡ 0 = omega (arith, size, fewer, kept.room) in
    rw fits refl

-- a goroutine off the shelf goes onto it
pub off_pushed : (rows : List Goroutine) (g : GNo) (y : Goroutine) (shelf : List GNo) (capacity : ℕ) → IsTable rows shelf capacity → IsOff rows g
    → is_shelved y.status ≡ true → IsTable (set rows g.0 y) (keep_last capacity (shelf ++ g ∷ [])) capacity
off_pushed rows g y shelf capacity kept off now_on =
    let r = off_row rows g off in
    rw (off_room rows g shelf capacity kept off) (record {
      listing = pushed is_shelved rows g r.row y shelf kept.listing r.at r.is now_on;
      room = rw length-set kept.room;
    })

-- The first on the shelf

pub first_of : {X : Type 0} (xs : List X) (x : X) → slice_get xs 0 ≡ Some x → xs ≡ x ∷ drop 1 xs
first_of [] x h = cc
first_of (y ∷ ys) x h = let e : y ≡ x = cc in rw e refl

pub empty_of : {X : Type 0} (xs : List X) → slice_get xs 0 ≡ None → xs ≡ []
empty_of [] h = refl
empty_of (y ∷ ys) h = absurd cc

-- a goroutine's row says that it is ready on the shelf
pub record IsTop (rows : List Goroutine) (g : GNo) : Type 0 where
  pub answer : Woke
  pub epoch : ℕ
  pub at : slice_get rows g.0 ≡ Some (record { status = Ready Shelf answer; epoch = epoch })

shelved_row : (rows : List Goroutine) (g : GNo) → HasRow is_shelved rows g true → IsTop rows g
shelved_row rows g r = by_status r.row.status refl r.is
  where
    by_status : (s : Status) → r.row.status ≡ s → is_shelved s ≡ true → IsTop rows g
    by_status (Ready Shelf answer) is e =
        record { answer = answer; epoch = r.row.epoch; at = r.at ∙ ap (λ (p : Status). let y : Goroutine = record { status = p; epoch = r.row.epoch } in Some y) is }
    by_status _ is e = absurd cc

pub top_is_shelved : (rows : List Goroutine) (shelf : List GNo) (capacity : ℕ) (g : GNo) → IsTable rows shelf capacity → slice_get shelf 0 ≡ Some g → IsTop rows g
top_is_shelved rows shelf capacity g kept first =
    let e = first_of shelf g first in
    let listing : IsListing is_shelved rows (g ∷ drop 1 shelf) = rw (← e) kept.listing in
    shelved_row rows g (row_of is_shelved rows g (first_passes is_shelved rows g (drop 1 shelf) listing))

pub top_popped : (rows : List Goroutine) (shelf : List GNo) (capacity : ℕ) (g : GNo) (y : Goroutine) → IsTable rows shelf capacity → slice_get shelf 0 ≡ Some g
    → is_shelved y.status ≡ false → IsTable (set rows g.0 y) (drop 1 shelf) capacity
top_popped rows shelf capacity g y kept first now_off =
    let top = top_is_shelved rows shelf capacity g kept first in
    let e = first_of shelf g first in
    let listing : IsListing is_shelved rows (g ∷ drop 1 shelf) = rw (← e) kept.listing in
    record {
      listing = popped is_shelved rows g _ y (drop 1 shelf) listing top.at refl now_off;
      room = rw length-set kept.room;
    }

-- where a ready goroutine's ticket goes, it is turned so
pub moved_so : (rows : List Goroutine) (g : GNo) (to from : TicketPlace) (answer : Woke) (epoch : ℕ) → slice_get rows g.0 ≡ Some (record { status = Ready from answer; epoch = epoch })
    → (now : List Goroutine) → IfSome (answer_in rows g) (λ woke. now ≡ turned rows g (Ready to woke)) → now ≡ turned rows g (Ready to answer)
moved_so rows g to from answer epoch at now moved =
    let told : answer_in rows g ≡ Some answer = rw at refl in
    subst (λ (o : Option Woke). IfSome o (λ woke. now ≡ turned rows g (Ready to woke))) told moved

pub top_turned : (rows : List Goroutine) (g : GNo) (now : List Goroutine) (status : Status) (top : IsTop rows g) → now ≡ turned rows g status → epoch_in now g ≡ top.epoch
top_turned rows g now status top e =
    let within = slice_get_within rows g.0 _ top.at in
    let epoch : epoch_in rows g ≡ top.epoch = rw top.at refl in
    rw (e, slice_get-set_same rows g.0 (record { status = status; epoch = epoch_in rows g }) within) epoch

-- A ticket that is out

-- the row of an outstanding readiness
pub record IsGivenOut (rows : List Goroutine) (r : Readiness) : Type 0 where
  pub answer : Woke
  pub at : slice_get rows r.g.0 ≡ Some (record { status = Ready Out answer; epoch = r.epoch })

abbrev pub is_given_out : List Goroutine → Readiness → Bool
is_given_out rows r = option_map_or (λ (x : Goroutine). is_out x.status && (x.epoch == r.epoch)) (slice_get rows r.g.0) false

pub given_out : (rows : List Goroutine) (r : Readiness) → is_given_out rows r ≡ true → IsGivenOut rows r
given_out rows r h = by_row (slice_get rows r.g.0) refl h
  where
    by_status : (s : Status) (e : ℕ) → slice_get rows r.g.0 ≡ Some (record { status = s; epoch = e }) → (is_out s && (e == r.epoch)) ≡ true → IsGivenOut rows r
    by_status (Ready Out answer) e at is =
        let same : e ≡ r.epoch = grind (arith, nat_tests) in
        record { answer = answer; at = at ∙ ap (λ (n : ℕ). let y : Goroutine = record { status = Ready Out answer; epoch = n } in Some y) same }
    by_status _ e at is = absurd cc

    by_row : (o : Option Goroutine) → slice_get rows r.g.0 ≡ o → option_map_or (λ (x : Goroutine). is_out x.status && (x.epoch == r.epoch)) o false ≡ true → IsGivenOut rows r
    by_row None at is = absurd cc
    by_row (Some x) at is = by_status x.status x.epoch at is

pub out_off : (rows : List Goroutine) (r : Readiness) → IsGivenOut rows r → IsOff rows r.g
out_off rows r out = rw out.at refl

-- Whether somebody is astir

-- a test of either of three, of a whole list
any_either : (rows : List Goroutine)
    → list_any (λ (x : Goroutine). is_astir x.status) rows
    ≡ ((list_any (λ (x : Goroutine). is_ready_or_running x.status) rows || list_any (λ (x : Goroutine). is_calling x.status) rows)
    || list_any (λ (x : Goroutine). has_deadline x.status) rows)
any_either [] = refl
any_either (x ∷ xs) = by_status x.status _ _ _ (any_either xs)
  where
    regroup : (a b c p q r : Bool) → ((a || b) || c) || ((p || q) || r) ≡ ((a || p) || (b || q)) || (c || r)
    regroup true b c p q r = refl
    regroup false true c true q r = refl
    regroup false true c false q r = refl
    regroup false false true true q r = refl
    regroup false false true false true r = refl
    regroup false false true false false r = refl
    regroup false false false p q r = refl

    astir_is : (s : Status) → is_astir s ≡ ((is_ready_or_running s || is_calling s) || has_deadline s)
    astir_is Dormant = refl
    astir_is (Ready place answer) = refl
    astir_is (Running m) = refl
    astir_is (Calling m) = refl
    astir_is (Waiting w) = refl
    astir_is Dead = refl

    by_status : (s : Status) (p q r : Bool) {rest : Bool} → rest ≡ ((p || q) || r)
        → (is_astir s || rest) ≡ (((is_ready_or_running s || p) || (is_calling s || q)) || (has_deadline s || r))
    by_status s p q r {rest} e =
        ap (λ (b : Bool). b || rest) (astir_is s) ∙ (ap (λ (b : Bool). ((is_ready_or_running s || is_calling s) || has_deadline s) || b) e ∙ regroup _ _ _ p q r)

pub astir_counted : (rows : List Goroutine)
    → list_any (λ (x : Goroutine). is_astir x.status) rows
    ≡ ((nat_lt 0 (count_status is_ready_or_running rows) || nat_lt 0 (count_status is_calling rows)) || nat_lt 0 (count_status has_deadline rows))
astir_counted rows =
    any_either rows
    ∙ rw (any_counted (λ (x : Goroutine). is_ready_or_running x.status) rows, any_counted (λ (x : Goroutine). is_calling x.status) rows, any_counted (λ (x : Goroutine). has_deadline x.status) rows) refl

-- The opening

pub dormant_table : (n : ℕ) → IsTable (replicate n dormant) [] n
dormant_table n = record {
  listing = dormant_listing is_shelved n refl;
  room = rw length-replicate (omega arith);
}

pub dormant_off : (n : ℕ) → 0 < n → IsOff (replicate n dormant) (record { 0 = 0 })
dormant_off zero h = absurd (omega arith)
dormant_off (suc n) h = refl

-- somebody is on the shelf where it isn't empty
pub some_on_shelf : (rows : List Goroutine) (shelf : List GNo) (capacity : ℕ) → IsTable rows shelf capacity
    → list_any (λ (x : Goroutine). is_shelved x.status) rows ≡ nat_lt 0 (length shelf)
some_on_shelf rows shelf capacity kept = some_listed is_shelved rows shelf kept.listing
