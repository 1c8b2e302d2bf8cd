use Rattle.std.proofs.Common.{rules, subst}
use Rattle.gmp_seq.specs.Run.{Run}
use Rattle.gmp_start.specs.Start.{state_of}
use Rattle.gmp_journal.proofs.Common.{◌≡◌, Some, sym, log_of, Log}
use Rattle.gmp_journal.proofs.Segmented.{begin_led}
use Rattle.gmp_journal.specs.Segments.{MayGoOn, begin_of}
use Rattle.gmp_journal.proofs.journal.Journal.segment.Goals as goal

-- the start is where the history begins
pub returns-clause-taken : goal.returns-clause-taken
returns-clause-taken c =
    let s = state_of c.in_ok-start.start in
    let led : MayGoOn c.args.self.now s × Run c.args.self.now.limits s c.args.self.now.history c.args.self.now.state =
    subst (λ (l : Log). MayGoOn l s × Run l.limits s l.history l.state) c.self.view_is
    (begin_led (log_of c.self.inside) _ _ s c.self.invariant.0 (subst (λ (l : Log). begin_of l ≡ Some s) (sym c.self.view_is) c.in_ok-start.ensures.start)) in
    record {
      start = c.in_ok-start.ensures.start;
      entries = search rules;
      end = search rules;
      log = search rules;
      run = rw c.begin_anew.ensures.out led.1;
      together = led.0;
      fits = search rules;
    }
