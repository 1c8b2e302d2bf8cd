use Rattle.std.proofs.Common.{rules, ◌∙◌, ap, codes}
use Rattle.std.specs.List.{list_any}
use Rattle.std.specs.Str.{bytes_eq}
use Rattle.gmp_words.proofs.wanting.wanted.Goals as goal

pub returns-clause-some : goal.returns-clause-some
returns-clause-some c =
    record {
      names = search rules;
      no_deadlock = c.has.ensures ∙ ap (list_any (λ name. bytes_eq name (codes "no-deadlock"))) c.names_of-list.ensures;
      no_fault = c.has-2.ensures ∙ ap (list_any (λ name. bytes_eq name (codes "no-fault"))) c.names_of-list.ensures;
      no_leak = c.has-3.ensures ∙ ap (list_any (λ name. bytes_eq name (codes "no-leak"))) c.names_of-list.ensures;
      main_ends = c.has-4.ensures ∙ ap (list_any (λ name. bytes_eq name (codes "main-ends"))) c.names_of-list.ensures;
    }
