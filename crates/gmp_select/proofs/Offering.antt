-- Who has no offer left, and what a select offers.
use Rattle.std.proofs.Common.{IfSome, Option, ◌≡◌, ℕ, ◌+◌, Bool, true, false, not, cond, Some, List, [], ◌∷◌, ◌++◌, count_by, nat_lt, ◌<◌, refl, ap, ◌∙◌, zero-add, arith}
use Rattle.std.proofs.lemmas.Bool.{and_parts}
use Rattle.std.proofs.lemmas.Bool.Decides.{nat_tests}
use Rattle.std.specs.List.{list_all}
use Rattle.std.proofs.lemmas.List.Sums.{sum_by-cons}
use Rattle.gmp_base.specs.declared.cases.Case.{Case}
use Rattle.gmp_base.specs.declared.cases.Case.TheVariants as case
use Rattle.gmp_base.specs.declared.number.GNo.{GNo}
use Rattle.std.specs.Prelude.{None}
use Rattle.gmp_seq.specs.declared.status.Transfer.{Transfer}
use Rattle.gmp_seq.specs.declared.status.Transfer.TheVariants.{Failed, Handed, Stored, First, Relayed, Drained}
use Rattle.gmp_seq.specs.declared.status.Waiter.{Waiter}
use Rattle.gmp_seq.specs.Waits.{Channel, channel_of, names_no_missing, offers_from}
use Rattle.gmp_chan.specs.Order.{above, are_made, rise}
use Rattle.gmp_chan.specs.Contents.{is_of, without, without_served}
use Rattle.gmp_chan.specs.Served.{served}

-- who is withdrawn has no offer
pub none_left : (g : GNo) (all : List Waiter) → count_by (is_of g) (without g all) ≡ 0
none_left g [] = refl
none_left g (w ∷ all) = by_test (is_of g w) refl (none_left g all)
  where
    by_test : (b : Bool) → is_of g w ≡ b → count_by (is_of g) (without g all) ≡ 0
        → count_by (is_of g) (cond (not b) (w ∷ without g all) (without g all)) ≡ 0
    by_test true is rest = rest
    by_test false is rest =
        sum_by-cons (λ (z : Waiter). cond (is_of g z) 1 0) w (without g all)
        ∙ (ap (λ (b : Bool). cond b 1 0 + count_by (is_of g) (without g all)) is ∙ (zero-add (count_by (is_of g) (without g all)) ∙ rest))

-- who is served has no offer
pub served_gone : (how : Transfer) (w : Waiter) (all : List Waiter) → served how ≡ Some w → count_by (is_of w.g) (without_served how all) ≡ 0
served_gone (Handed v) w all e =
    let same : v ≡ w = cc in
    rw same (none_left w.g all)
served_gone (Relayed x v) w all e =
    let same : v ≡ w = cc in
    rw same (none_left w.g all)
served_gone Failed w all e = absurd cc
served_gone Stored w all e = absurd cc
served_gone (First x) w all e = absurd cc
served_gone Drained w all e = absurd cc

pub all_gone : (result : Option Transfer) (old new : List Waiter) → IfSome result (λ how. new ≡ without_served how old)
    → IfSome result (λ how. (w : Waiter) → served how ≡ Some w → count_by (is_of w.g) new ≡ 0)
all_gone None old new left = tt
all_gone (Some how) old new left = λ w is. rw left (served_gone how w old is)

-- the first case's offer, and then those of the others
pub offers_cons : (i : ℕ) (c : Case) (cases : List Case) → offers_from i (c ∷ cases) ≡ offers_from i (c ∷ []) ++ offers_from (i + 1) cases
offers_cons i (case.Send None v) cases = refl
offers_cons i (case.Send (Some c) v) cases = refl
offers_cons i (case.Recv None) cases = refl
offers_cons i (case.Recv (Some c)) cases = refl

-- The offers rise by their cases, and are on channels that were made

offers_above : (k i : ℕ) (cases : List Case) → k < i → above k (offers_from i cases) ≡ true
offers_above k i [] h = refl
offers_above k i (case.Send None v ∷ cases) h = offers_above k (i + 1) cases (omega arith)
offers_above k i (case.Send (Some c) v ∷ cases) h = let e : nat_lt k i ≡ true = grind (arith, nat_tests) in rw e (offers_above k (i + 1) cases (omega arith))
offers_above k i (case.Recv None ∷ cases) h = offers_above k (i + 1) cases (omega arith)
offers_above k i (case.Recv (Some c) ∷ cases) h = let e : nat_lt k i ≡ true = grind (arith, nat_tests) in rw e (offers_above k (i + 1) cases (omega arith))

pub offers_rise : (i : ℕ) (cases : List Case) → rise (offers_from i cases) ≡ true
offers_rise i [] = refl
offers_rise i (case.Send None v ∷ cases) = offers_rise (i + 1) cases
offers_rise i (case.Send (Some c) v ∷ cases) = rw (offers_above i (i + 1) cases (omega arith)) (offers_rise (i + 1) cases)
offers_rise i (case.Recv None ∷ cases) = offers_rise (i + 1) cases
offers_rise i (case.Recv (Some c) ∷ cases) = rw (offers_above i (i + 1) cases (omega arith)) (offers_rise (i + 1) cases)

pub offers_made : (channels : List Channel) (i : ℕ) (cases : List Case) → list_all (λ c. names_no_missing channels (channel_of c)) cases ≡ true
    → are_made channels (offers_from i cases) ≡ true
offers_made channels i [] h = refl
offers_made channels i (case.Send None v ∷ cases) h = offers_made channels (i + 1) cases h
offers_made channels i (case.Send (Some c) v ∷ cases) h =
    let parts = and_parts (names_no_missing channels (Some c)) _ h in rw parts.0 (offers_made channels (i + 1) cases parts.1)
offers_made channels i (case.Recv None ∷ cases) h = offers_made channels (i + 1) cases h
offers_made channels i (case.Recv (Some c) ∷ cases) h =
    let parts = and_parts (names_no_missing channels (Some c)) _ h in rw parts.0 (offers_made channels (i + 1) cases parts.1)
