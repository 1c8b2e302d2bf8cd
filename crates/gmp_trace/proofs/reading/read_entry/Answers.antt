use Rattle.std.proofs.Common.{◌≡◌, ◌∙◌, ◌++◌, [], sym, rules}
use Rattle.std.proofs.lemmas.List.{append-nil}
use Rattle.gmp_trace.specs.Pieces.{entry_text}
use Rattle.gmp_trace.proofs.reading.read_entry.Goals as goal

pub returns-in_default-clause-only : goal.returns-in_default-clause-only
returns-in_default-clause-only c n e h is =
    let whole : c.deref.result.now ≡ entry_text n e ++ [] = c.deref.ensures.value ∙ c.in_ok-text.ensures ∙ sym is ∙ sym (append-nil (entry_text n e)) in
    rw c.in_default.is at (c.in_ok-n.ensures.only n e [] h whole)

pub returns-then-not-is_empty-clause-only : goal.returns-then-not-is_empty-clause-only
returns-then-not-is_empty-clause-only c n e h is =
    let whole : c.deref.result.now ≡ entry_text n e ++ [] = c.deref.ensures.value ∙ c.in_ok-text.ensures ∙ sym is ∙ sym (append-nil (entry_text n e)) in
    let same = rw c.in-Some.is at (c.in_ok-n.ensures.only n e [] h whole) in
    search (rules, same.2)
