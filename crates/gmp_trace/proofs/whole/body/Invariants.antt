use Rattle.std.proofs.Common.{List, length}
use Rattle.gmp_seq.specs.declared.call.Entry.{Entry}
use Rattle.gmp_trace.specs.declared.trace.End.{End}
use Rattle.gmp_trace.specs.Beginning.{IsFirst}
use Rattle.gmp_trace.specs.HasText.{Origin}
use Rattle.gmp_trace.specs.Reading.{BeginsWith, IsBody}
use Rattle.gmp_trace.proofs.Body.{Left, Counts}
use Rattle.gmp_trace.proofs.whole.body.Given as goal

abbrev pub invariant-loop-rest : goal.invariant-loop-rest
invariant-loop-rest g l = (from : Origin) → IsFirst l.first from → record {
  starts : BeginsWith from l.text l.entries.list l.rest;
  counts : Counts from l.counts l.entries.list;
  left : (xs : List Entry) (end : End) → IsBody from l.text xs end → Left from l.entries.list l.rest xs end;
}

abbrev pub decreases-loop-rest : goal.decreases-loop-rest
decreases-loop-rest g l = length l.rest
