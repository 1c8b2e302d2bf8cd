use Rattle.std.proofs.Common.{◌∙◌, ◌++◌, List, ℕ, ap, length, map, arith}
use Rattle.std.proofs.lemmas.List.FromFn.{length-map-range_with_len}
use Rattle.gmp_trace.specs.StartGuess.{named}
use Rattle.gmp_trace.proofs.Lines.{same_rest}
use Rattle.gmp_trace.proofs.StartFlags.{guessed_members}
use Rattle.gmp_trace.proofs.start.at.members_at.Goals as goal

pub returns-in_default-clause-only : goal.returns-in_default-clause-only
returns-in_default-clause-only c xs more size is =
    let same = guessed_members c.args.name.now c.args.text.now c.deref-3.result.now (map (λ w. w.now) c.split.new.words.items) c.args.machines c.in_ok-flags.flags.items xs more
    c.requires c.in_ok-split.ensures (rw (c.skip.ensures, c.deref.ensures.value) at c.in_ok-flags.ensures)
    (c.deref-3.ensures.value ∙ rw (c.clear.ensures.items, c.deref-2.ensures.value) at c.in_ok-put_members.ensures) (omega arith) size is in
    c.in_default.ensures more same.1

pub returns-clause-only : goal.returns-clause-only
returns-clause-only c xs more size is =
    let same = guessed_members c.args.name.now c.args.text.now c.deref-3.result.now (map (λ w. w.now) c.split.new.words.items) c.args.machines c.in_ok-flags.flags.items xs more
    c.requires c.in_ok-split.ensures (rw (c.skip.ensures, c.deref.ensures.value) at c.in_ok-flags.ensures)
    (c.deref-3.ensures.value ∙ rw (c.clear.ensures.items, c.deref-2.ensures.value) at c.in_ok-put_members.ensures) (omega arith) size is in
    (same.0, same_rest c.args.text.now c.deref-3.result.now c.in-Some.rest.now more c.in-Some.ensures same.1)

pub returns-clause-found : goal.returns-clause-found
returns-clause-found c =
    let written = c.deref-3.ensures.value ∙ rw (c.clear.ensures.items, c.deref-2.ensures.value) at c.in_ok-put_members.ensures in (
      c.in-Some.ensures ∙ ap (λ (t : List ℕ). t ++ c.in-Some.rest.now) written,
      ap (λ l. length l) c.in_ok-flags.ensures ∙ length-map-range_with_len (named (map (λ w. w.now) c.skip.result.now)) 0 c.args.machines,
    )
