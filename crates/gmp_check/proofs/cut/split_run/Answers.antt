use Rattle.std.proofs.Common.{◌∙◌, ◌++◌, ap, drop}
use Rattle.gmp_history.specs.Brief.{HistoryContents}
use Rattle.gmp_start.specs.Start.{state_of}
use Rattle.gmp_check.proofs.Parting.{is_second, lasts}
use Rattle.gmp_check.specs.Checked.{Part, part}
use Rattle.gmp_check.proofs.cut.split_run.Goals as goal

pub state_before-requires-clause-goes_on : goal.state_before-requires-clause-goes_on
state_before-requires-clause-goes_on c s led =
    let a = c.args in
    let x : Part = part a.limits (state_of a.start.now) a.entries.now.list a.end in
    let (o, right) = c.requires.right in
    lasts x a.n c.requires.begins c.requires.within o right s led

pub returns : goal.returns
returns c =
    let a = c.args in
    let x : Part = part a.limits (state_of a.start.now) a.entries.now.list a.end in
    let rest = c.in_ok-add_from.ensures ∙ ap (λ (h : HistoryContents). h.list ++ drop a.n a.entries.now.list) c.new-rest.ensures in
    is_second x a.n c.requires.begins c.requires.within (state_of c.in_ok-second.second) c.add_from.new.history.list c.in_ok-second.ensures rest
