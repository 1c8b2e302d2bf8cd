use Rattle.std.proofs.Common.{◌≡◌, ap, arith, below_more, get_or, refl}
use Rattle.std.proofs.lemmas.Bool.{false≢true}
use Rattle.gmp_history.specs.declared.auditing.Tally.{Tally}
use Rattle.gmp_history.specs.Audit.{no_tally, tally_of}
use Rattle.gmp_history.proofs.Agreeing.{agree, agreed}
use Rattle.gmp_history.proofs.auditing.audit.Goals as goal

pub loop-m-preserved : goal.loop-m-preserved
loop-m-preserved c =
    let m = c.loop-m.m in
    let counted = c.tallied-tallies.ensures in
    let so = c.if-not-agrees.ensures.0 refl in
    below_more _ _ c.loop-m.invariant (agree c.args.history.now.list c.args.logs.now m (get_or c.tallied-tallies.result m no_tally) (counted.tallies m c.loop-m-test.true) counted.few so.0 so.1)

pub returns-then-not-agrees-clause-err : goal.returns-then-not-agrees-clause-err
returns-then-not-agrees-clause-err c =
    let history = c.args.history.now.list in
    let logs = c.args.logs.now in
    let m = c.loop-m.m in
    let tally = get_or c.tallied-tallies.result m no_tally in
    let counted = c.tallied-tallies.ensures in
    let is : tally ≡ tally_of history logs m = counted.tallies m c.loop-m-test.true in
    record {
      disagrees = λ agrees. false≢true (c.if-not-agrees.ensures.1 (agreed history logs m tally is counted.few agrees));
      least = c.loop-m.invariant;
      said = ap (λ (t : Tally). t.said) is;
      found = ap (λ (t : Tally). t.found) is;
    }

pub returns-clause-ok : goal.returns-clause-ok
returns-clause-ok c = λ m few. c.loop-m.invariant m (omega (arith, few, c.loop-m-test.false))
