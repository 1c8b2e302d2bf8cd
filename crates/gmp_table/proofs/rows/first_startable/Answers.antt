use Rattle.std.proofs.Common.{true, false, arith, ap, sym, ◌∙◌}
use Rattle.gmp_seq.specs.declared.status.Goroutine.{Goroutine}
use Rattle.gmp_seq.specs.Table.{is_startable}
use Rattle.gmp_table.proofs.Startable.{found, not_found, passes_read, next_below}
use Rattle.gmp_table.proofs.rows.first_startable.Goals as goal

pub loop-i-init : goal.loop-i-init
loop-i-init c = c.requires.below

pub returns-then-is_startable : goal.returns-then-is_startable
returns-then-is_startable c =
    sym (found c.args.rows.now c.loop-i.i c.loop-i.invariant
    (passes_read c.args.rows.now c.loop-i.i c.index-rows-i.result true (omega (arith, c.loop-i-test.true, c.requires.size, c.loop-i.auto.i-end)) c.index-rows-i.is (ap (λ (x : Goroutine). is_startable x.status) c.index-rows-i.is ∙ sym c.is_startable.ensures ∙ c.if-is_startable.true)))

pub loop-i-preserved : goal.loop-i-preserved
loop-i-preserved c =
    next_below c.args.rows.now c.loop-i.i c.loop-i.invariant
    (passes_read c.args.rows.now c.loop-i.i c.index-rows-i.result false (omega (arith, c.loop-i-test.true, c.requires.size, c.loop-i.auto.i-end)) c.index-rows-i.is (ap (λ (x : Goroutine). is_startable x.status) c.index-rows-i.is ∙ sym c.is_startable.ensures ∙ c.if-is_startable.false))

pub returns : goal.returns
returns c = sym (not_found c.args.rows.now (λ k less. c.loop-i.invariant k (omega (arith, less, c.loop-i-test.false, c.requires.size, c.loop-i.auto.i-end))))
