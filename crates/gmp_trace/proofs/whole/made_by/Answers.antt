use Rattle.std.proofs.Common.{◌∙◌, rules}
use Rattle.std.proofs.lemmas.List.{length-set}
use Rattle.gmp_trace.proofs.Body.{copied_next}
use Rattle.gmp_trace.proofs.whole.made_by.Goals as goal

pub loop-m-preserved : goal.loop-m-preserved
loop-m-preserved c =
    record {
      size = length-set c.loop-m.made c.loop-m.m c.unwrap_or.result ∙ c.loop-m.invariant.size;
      same = copied_next c.loop-m.made c.args.counts.now c.loop-m.m c.unwrap_or.result c.loop-m.invariant.size c.loop-m-test.true
          (search rules) c.loop-m.invariant.same;
    }
