use Rattle.std.proofs.Common.{◌≡◌, ◌∙◌, ◌+◌, ◌++◌, ℕ, List, map, length, sym, ap, subst, arith}
use Rattle.std.proofs.lemmas.List.{length-map}
use Rattle.gmp_seq.specs.Channels.{Channel}
use Rattle.gmp_start.specs.Start.{channel_of}
use Rattle.gmp_trace.specs.StartForms.{IsLineFault, chan_lines, lines_text, row_lines}
use Rattle.gmp_trace.specs.StartNext.{AreRows, NoChannel, RowsEnd}
use Rattle.gmp_trace.specs.StartWhole.{AreHeads, six_lines}
use Rattle.gmp_trace.proofs.StartEnding.{begin_fault, row_fault, with_rows}
use Rattle.gmp_trace.proofs.StartOnly.{by_lines, lines_agree, read_no_fault}
use Rattle.gmp_trace.proofs.StartSame.{same_state}
use Rattle.gmp_trace.proofs.start.whole.read_start.Goals as goal

pub returns-in-Err-2-clause-fault : goal.returns-in-Err-2-clause-fault
returns-in-Err-2-clause-fault c =
    let xs : List Channel = map channel_of c.in_ok-channels.channels.items in
    let many : length xs ≡ c.in_ok-channels.many = length-map c.in_ok-channels.channels.items channel_of ∙ c.in_ok-channels.ensures.count in
    let heads : AreHeads c.args.limits c.args.bodies c.args.text.now c.in-Ok.found.0 c.in-Ok.found.1.now = rw c.in-Ok.is at c.in_ok-found.ensures.right in
    let end : RowsEnd c.args.limits c.args.bodies c.in_ok-channels.many c.in_ok-channels.rest.now c.in-Err-2.count = rw c.in-Err-2.is at c.in_ok-found-2.ensures.fault in
    let fault : IsLineFault c.args.limits c.args.bodies c.args.text.now (9 + length xs + c.in-Err-2.count) =
    row_fault c.args.limits c.args.bodies c.args.text.now c.in-Ok.found.0 xs c.in-Ok.found.1.now c.in_ok-channels.rest.now heads c.in_ok-channels.ensures.right c.requires.stock.0 c.in-Err-2.count
    (subst (λ (n : ℕ). NoChannel c.args.limits c.args.bodies n c.in_ok-channels.rest.now) (sym many) c.in_ok-channels.ensures.last)
    (subst (λ (n : ℕ). RowsEnd c.args.limits c.args.bodies n c.in_ok-channels.rest.now c.in-Err-2.count) (sym many) end) in
    subst (λ (n : ℕ). IsLineFault c.args.limits c.args.bodies c.args.text.now n) (omega (arith, many, c.from.ensures, c.from-in-Err-2.ensures)) fault

pub returns-in_default-clause-fault : goal.returns-in_default-clause-fault
returns-in_default-clause-fault c =
    let xs : List Channel = map channel_of c.in_ok-channels.channels.items in
    let many : length xs ≡ c.in_ok-channels.many = length-map c.in_ok-channels.channels.items channel_of ∙ c.in_ok-channels.ensures.count in
    let heads : AreHeads c.args.limits c.args.bodies c.args.text.now c.in-Ok.found.0 c.in-Ok.found.1.now = rw c.in-Ok.is at c.in_ok-found.ensures.right in
    let rows : AreRows c.args.limits c.args.bodies c.in_ok-channels.many c.in_ok-channels.rest.now c.in-Ok-2.found.0.items c.in-Ok-2.found.1.now × (length c.in-Ok-2.found.0.items ≡ c.args.bodies) =
    rw c.in-Ok-2.is at c.in_ok-found-2.ensures.right in
    let fault : IsLineFault c.args.limits c.args.bodies c.args.text.now (9 + length xs + c.args.bodies) =
    begin_fault c.args.limits c.args.bodies c.args.text.now c.in-Ok.found.0 xs c.in-Ok.found.1.now c.in_ok-channels.rest.now heads c.in_ok-channels.ensures.right c.requires.stock.0
    c.in-Ok-2.found.0.items c.in-Ok-2.found.1.now
    (subst (λ (n : ℕ). AreRows c.args.limits c.args.bodies n c.in_ok-channels.rest.now c.in-Ok-2.found.0.items c.in-Ok-2.found.1.now) (sym many) rows.0) rows.1
    c.in_default.ensures in
    subst (λ (n : ℕ). IsLineFault c.args.limits c.args.bodies c.args.text.now n) (omega (arith, many, c.from-in_default.ensures, c.from-in_default-2.ensures)) fault

pub returns-clause-found : goal.returns-clause-found
returns-clause-found c =
    let xs : List Channel = map channel_of c.in_ok-channels.channels.items in
    let many : length xs ≡ c.in_ok-channels.many = length-map c.in_ok-channels.channels.items channel_of ∙ c.in_ok-channels.ensures.count in
    let heads : AreHeads c.args.limits c.args.bodies c.args.text.now c.in-Ok.found.0 c.in-Ok.found.1.now = rw c.in-Ok.is at c.in_ok-found.ensures.right in
    let rows : AreRows c.args.limits c.args.bodies c.in_ok-channels.many c.in_ok-channels.rest.now c.in-Ok-2.found.0.items c.in-Ok-2.found.1.now × (length c.in-Ok-2.found.0.items ≡ c.args.bodies) =
    rw c.in-Ok-2.is at c.in_ok-found-2.ensures.right in
    let so = with_rows c.args.limits c.args.bodies c.args.text.now c.in-Ok.found.0 xs c.in-Ok.found.1.now c.in_ok-channels.rest.now heads c.in_ok-channels.ensures.right
    c.in-Ok-2.found.0.items c.in-Ok-2.found.1.now
    (subst (λ (n : ℕ). AreRows c.args.limits c.args.bodies n c.in_ok-channels.rest.now c.in-Ok-2.found.0.items c.in-Ok-2.found.1.now) (sym many) rows.0) in
    record {
      whole = so.whole ∙ ap (λ (t : List ℕ). lines_text (six_lines c.in-Ok.found.0 ++ chan_lines 0 xs ++ row_lines 0 c.in-Ok-2.found.0.items) ++ t) c.in-Some.ensures ∙ sym (by_lines _ _ _);
      lines = record { lines = so.right; stock = rows.1 };
    }

pub returns-in-Err-clause-only : goal.returns-in-Err-clause-only
returns-in-Err-clause-only c made s rest lasts read =
    let fault : IsLineFault c.args.limits c.args.bodies c.args.text.now c.in-Err.n = rw c.in-Err.is at c.in_ok-found.ensures.fault in
    absurd (read_no_fault c.args.limits c.args.bodies c.requires c.args.text.now made s rest c.in-Err.n read fault)

pub returns-in-Err-2-clause-only : goal.returns-in-Err-2-clause-only
returns-in-Err-2-clause-only c made s rest lasts read = absurd (read_no_fault c.args.limits c.args.bodies c.requires c.args.text.now made s rest _ read (returns-in-Err-2-clause-fault c))

pub returns-in_default-clause-only : goal.returns-in_default-clause-only
returns-in_default-clause-only c made s rest lasts read = absurd (read_no_fault c.args.limits c.args.bodies c.requires c.args.text.now made s rest _ read (returns-in_default-clause-fault c))

pub returns-clause-only : goal.returns-clause-only
returns-clause-only c made s rest lasts read =
    let agree = lines_agree c.args.limits c.args.bodies c.requires c.args.text.now _ _ _ made s rest (returns-clause-found c) read in
    let same = same_state _ made _ s (sym lasts) agree.0 in
    (same.0, same.1, agree.1)
