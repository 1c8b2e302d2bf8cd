use Rattle.std.proofs.Common.{◌≡◌, ◌∙◌, ◌++◌, [], sym, rules}
use Rattle.std.proofs.lemmas.List.{append-nil}
use Rattle.gmp_trace.specs.Pieces.{capacities_text}
use Rattle.gmp_trace.proofs.reading.read_capacities.Goals as goal

pub returns-in_default-clause-only : goal.returns-in_default-clause-only
returns-in_default-clause-only c cs small few is =
    let whole : c.deref.result.now ≡ capacities_text cs ++ [] = c.deref.ensures.value ∙ c.in_ok-text.ensures ∙ sym is ∙ sym (append-nil (capacities_text cs)) in
    rw c.in_default.is at (c.in_ok-capacities.ensures.only cs [] small few whole)

pub returns-then-not-is_empty-clause-only : goal.returns-then-not-is_empty-clause-only
returns-then-not-is_empty-clause-only c cs small few is =
    let whole : c.deref.result.now ≡ capacities_text cs ++ [] = c.deref.ensures.value ∙ c.in_ok-text.ensures ∙ sym is ∙ sym (append-nil (capacities_text cs)) in
    let same = rw c.in-Some.is at (c.in_ok-capacities.ensures.only cs [] small few whole) in
    search (rules, same.1)
