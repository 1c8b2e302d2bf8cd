use Rattle.std.proofs.Common.{◌≡◌, ◌⊎◌, List, length, rules, subst}
use Rattle.gmp_seq.specs.declared.call.Reply.{Reply}
use Rattle.gmp_seq.specs.declared.status.Goroutine.{Goroutine}
use Rattle.gmp_allowed.specs.declared.numbered.Naming.TheVariants as naming
use Rattle.gmp_allowed.specs.Tried.{AddsEach, Before, IsNamed, IsOfRow}
use Rattle.gmp_allowed.proofs.Adding.{both_added}
use Rattle.gmp_allowed.proofs.Results.{on_ok}
use Rattle.gmp_allowed.proofs.Tries.{count_same}
use Rattle.gmp_allowed.proofs.replies.of_leave.Goals as goal

pub returns : goal.returns
returns c =
    let a = c.args in
    let rows : List Goroutine = a.last.now.goroutines.items in
    let runs : Reply → Type 0 = Before (IsNamed naming.Runs) (length a.last.now.holders.items) in
    let of : List Goroutine → Reply → Type 0 = λ (l : List Goroutine). Before (IsOfRow a.m a.call.now l) (length l) in
    let out = a.out.now.items in
    let mid = c.of_numbers.new.out.items in
    let new = c.of_rows.new.out.items in
    let count : c.len.result ≡ length a.last.now.holders.items = search rules in
    on_ok c.of_rows.result
    (λ sort. both_added runs (of rows) (λ (r : Reply). runs r ⊎ of rows r) out mid new (count_same naming.Runs c.len.result (length a.last.now.holders.items) out mid count c.in_ok-of_numbers.ensures)
    (subst (λ (l : List Goroutine). AddsEach (of l) mid new) c.deref.ensures.value sort) (λ r either. either)) c.of_rows.ensures
