use Rattle.std.proofs.Common.{◌∙◌, [], sym, rules}
use Rattle.std.proofs.lemmas.List.{append-nil}
use Rattle.gmp_trace.specs.Pieces.{end_text}
use Rattle.gmp_trace.proofs.whole.last.Goals as goal

pub returns-in_default-found-clause-only : goal.returns-in_default-found-clause-only
returns-in_default-found-clause-only c end is =
    absurd (rw c.in_default-found.is at (c.in-Ok.ensures.only end [] (is ∙ sym (append-nil (end_text end)))))

pub returns-then-not-is_empty-clause-only : goal.returns-then-not-is_empty-clause-only
returns-then-not-is_empty-clause-only c end is =
    let same = rw c.in-Some.is at (c.in-Ok.ensures.only end [] (is ∙ sym (append-nil (end_text end)))) in
    absurd (search (rules, same.1))
