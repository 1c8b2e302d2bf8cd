use Rattle.std.specs.Prelude.{IfOk}
use Rattle.gmp_start.specs.Start.{state_of}
use Rattle.gmp_journal.proofs.Common.{◌≡◌, None, subst, log_of, Log}
use Rattle.gmp_journal.proofs.Segmented.{copied_on}
use Rattle.gmp_journal.specs.Segments.{MayGoOn}
use Rattle.gmp_journal.proofs.journal.Journal.start.Goals as goal

pub returns-clause-together : goal.returns-clause-together
returns-clause-together c =
    subst (λ (l : Log). IfOk c.copied.result (λ s. l.state.outcome ≡ None → MayGoOn l (state_of s))) c.self.view_is
    (copied_on (log_of c.self.inside) c.copied.result c.self.invariant.0.part c.copied.ensures)
