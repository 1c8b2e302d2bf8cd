use Rattle.std.proofs.Common.{◌≡◌, ◌∙◌, ◌++◌, [], sym, rules}
use Rattle.std.proofs.lemmas.List.{append-nil}
use Rattle.gmp_trace.specs.Pieces.{limits_text}
use Rattle.gmp_trace.proofs.reading.read_limits.Goals as goal

pub returns-in_default-clause-only : goal.returns-in_default-clause-only
returns-in_default-clause-only c l bodies h is =
    let whole : c.deref.result.now ≡ limits_text l bodies ++ [] = c.deref.ensures.value ∙ c.in_ok-text.ensures ∙ sym is ∙ sym (append-nil (limits_text l bodies)) in
    rw c.in_default.is at (c.in_ok-limits.ensures.only l bodies [] h whole)

pub returns-then-not-is_empty-clause-only : goal.returns-then-not-is_empty-clause-only
returns-then-not-is_empty-clause-only c l bodies h is =
    let whole : c.deref.result.now ≡ limits_text l bodies ++ [] = c.deref.ensures.value ∙ c.in_ok-text.ensures ∙ sym is ∙ sym (append-nil (limits_text l bodies)) in
    let same = rw c.in-Some.is at (c.in_ok-limits.ensures.only l bodies [] h whole) in
    search (rules, same.2)
