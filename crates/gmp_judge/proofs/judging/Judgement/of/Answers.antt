use Rattle.std.proofs.Common.{refl, subst, sym}
use Rattle.gmp_check.specs.Checked.{IsFirstBad, IsRight}
use Rattle.gmp_trace.specs.Text.{Content}
use Rattle.gmp_judge.proofs.Wrong.{is_line}
use Rattle.gmp_judge.proofs.judging.Judgement.of.Goals as goal

pub returns-in_default : goal.returns-in_default
returns-in_default g c =
    record {
      trace = refl;
      judged = record {
        first = subst (λ (x : Content). IsFirstBad x c.in-Err.bad) c.view.ensures c.in-Err.ensures.wrong;
        exact = λ right.
            let there = subst (λ (x : Content). IsRight x right.outcome) (sym c.view.ensures) right.right in
            absurd (c.in_default.not-OutOfMemory (c.in-Err.ensures.exact right.outcome there));
        word = is_line c.in-Err.bad.why c.in_default.not-OutOfMemory;
      };
      memory = tt;
    }
