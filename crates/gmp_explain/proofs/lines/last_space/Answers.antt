use Rattle.std.proofs.Common.{◌<◌, ◌+◌, IfSome, length, arith, sym, subst, ◌∙◌}
use Rattle.gmp_explain.proofs.Parts.{last_before, last_here, within_more}
use Rattle.gmp_explain.proofs.lines.last_space.Goals as goal
use Rattle.gmp_explain.proofs.lines.last_space.Goals.{then-line-i-eq32, else-line-i-eq32}

pub loop-i-preserved : goal.loop-i-preserved
loop-i-preserved c =
    let line = c.args.line.now in
    let i = c.loop-i.i in
    let so_far = c.loop-i.invariant in
    let within : i < length line = omega (arith, c.loop-i-test.true, c.requires) in
    elim c.if-line-i-eq32.branch [
      | then-line-i-eq32 w ↦ record {
        value = w.last-is ∙ sym (last_here line i within w.if-line-i-eq32.true);
        within = subst (λ o. IfSome o (λ n. n < i + 1)) (sym w.last-is) (omega arith);
      }
      | else-line-i-eq32 w ↦ record {
        value = w.last-is ∙ so_far.value ∙ sym (last_before line i within w.if-line-i-eq32.false);
        within = subst (λ o. IfSome o (λ n. n < i + 1)) (sym w.last-is) (within_more c.loop-i.last i so_far.within);
      }
    ]
