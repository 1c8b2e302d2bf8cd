use Rattle.std.proofs.Common.{◌++◌, ap, subst}
use Rattle.gmp_seq.specs.Laws.{NobodyCouldProceed}
use Rattle.gmp_seq.proofs.Legal.{legal_sound, run_order}
use Rattle.gmp_seq.proofs.Proceed.{legal_nobody}
use Rattle.gmp_journal.proofs.Granted.{since_opening}
use Rattle.gmp_journal.specs.Log.{Log}
use Rattle.gmp_book.specs.Book.{IsBookPart}
use Rattle.gmp_book.proofs.book.Book.history.Goals as goal

pub returns-clause-part : goal.returns-clause-part
returns-clause-part g c =
    let log = c.self.inside.journal in
    let part = c.history.ensures.part in
    subst IsBookPart (ap (λ v. v.log) c.self.view_is) (record {
      part = part;
      fifo = λ d. run_order d log.limits part.start log.state log.history (legal_sound log.limits log.bodies log.capacities part.before part.start part.led) part.run;
    })

pub returns-clause-waiting : goal.returns-clause-waiting
returns-clause-waiting g c =
    let log = c.self.inside.journal in
    let part = c.history.ensures.part in
    subst (λ (l : Log). NobodyCouldProceed l.state) (ap (λ v. v.log) c.self.view_is)
    (legal_nobody log.limits log.bodies log.capacities (part.before ++ log.history) log.state (since_opening log part))
