use Rattle.std.proofs.Common.{ap, refl, sym, ◌++◌, List}
use Rattle.std.proofs.lemmas.Bool.{false≢true}
use Rattle.gmp_seq.specs.declared.call.Entry.{Entry}
use Rattle.gmp_run.proofs.Desks.{all_in_first, none_of_length}
use Rattle.gmp_run.proofs.ending.left.Goals as goal

pub returns-then-is_empty : goal.returns-then-is_empty
returns-then-is_empty c =
    sym (ap (λ (l : List Entry). l ++ c.args.history.list) (none_of_length c.args.spare.list (c.if-is_empty.ensures.0 refl)))

pub returns-else-is_empty : goal.returns-else-is_empty
returns-else-is_empty c = all_in_first c.args.spare.list c.args.history.list (λ none. false≢true (c.if-is_empty.ensures.1 none)) c.requires
