use Rattle.std.proofs.Common.{◌≡◌, ◌∙◌, ◌++◌, List, ap, rules}
use Rattle.gmp_history.specs.Brief.{HistoryContents}
use Rattle.gmp_seq.specs.declared.call.Entry.{Entry}
use Rattle.gmp_seq.specs.Run.{Run}
use Rattle.gmp_start.specs.Start.{state_of}
use Rattle.gmp_check.proofs.Parting.{are_joined}
use Rattle.gmp_check.proofs.cut.join_runs.Goals as goal

pub returns-clause-joined : goal.returns-clause-joined
returns-clause-joined c =
    let a = c.args in
    let h : List Entry = a.entries.now.list in
    let k : List Entry = a.rest.now.list in
    let first : c.add_from.new.history.list ≡ h = c.in_ok-add_from.ensures ∙ ap (λ (x : HistoryContents). x.list ++ h) c.new-all.ensures in
    let all : c.add_from-2.new.history.list ≡ h ++ k = c.in_ok-add_from-2.ensures ∙ ap (λ (l : List Entry). l ++ k) first in
    let led : Run a.limits (state_of a.first.now) h (state_of a.second.now) = search rules in
    are_joined a.limits (state_of a.first.now) (state_of a.second.now) h k c.add_from-2.new.history.list led all
