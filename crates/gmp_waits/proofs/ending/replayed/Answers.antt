use Rattle.std.proofs.Common.{◌≡◌, ◌-◌, ◌<◌, List, [], ◌∷◌, ◌++◌, None, true, length, rules, sym, subst, ◌∙◌, arith, ap}
use Rattle.std.proofs.lemmas.List.{length_push}
use Rattle.gmp_base.specs.declared.number.GNo.{GNo}
use Rattle.gmp_seq.specs.declared.call.Limits.{Limits}
use Rattle.gmp_seq.specs.declared.status.Goroutine.{Goroutine}
use Rattle.gmp_seq.specs.Run.{IsStep}
use Rattle.gmp_seq.specs.State.{opening}
use Rattle.gmp_check.proofs.Replaying.{run_next}
use Rattle.gmp_check.specs.Decides.{Decides}
use Rattle.gmp_waits.specs.Lately.{RanTo, listed, whose}
use Rattle.gmp_waits.proofs.Later.{late_init, late_next}
use Rattle.gmp_waits.proofs.ending.replayed.Goals as goal

pub loop-entry-init : goal.loop-entry-init
loop-entry-init c =
    let replay = c.in_ok-replay.replay in
    let first : replay.state ≡ opening c.args.limits c.args.bodies c.args.capacities.now = search rules in
    record {
      limits = search rules;
      run = first;
      skips = (let skips = c.saturating_sub-skips.ensures in let count = c.len.ensures.value in omega (arith, skips, count));
      late = late_init c.args.limits c.args.bodies c.args.capacities.now (length c.args.history.now.list - 100) replay.state c.new-lately.result.items first (search rules);
    }

pub loop-entry-preserved : goal.loop-entry-preserved
loop-entry-preserved c =
    let k = c.loop-entry.invariant in
    let e = c.in-Some.entry in
    let before = c.loop-entry.replay in
    let after = c.step.new.self in
    let yes_ : Decides (IsStep before.limits e) before.state after.state true = search rules in
    let step = subst (λ (l : Limits). IsStep l e before.state after.state) k.limits yes_ in
    let early = length c.args.history.now.list - 100 in
    let gs = c.loop-entry.lately.items in
    let who = c.late-goroutine.result in
    let skips = k.skips in
    let same_rows : c.in_ok-rows_of.field-0.now ≡ before.state.table.goroutines = c.in_ok-rows_of.ensures.rows in
    let added : c.list_one.new.list.items ≡ gs ++ listed who = search rules in
    let is_none : 0 < early - length c.loop-entry.yielded → who ≡ None = λ more. c.late-goroutine.ensures.early (omega (arith, skips, more)) in
    let is_whose : early - length c.loop-entry.yielded ≡ 0 → who ≡ whose e before.state.table.goroutines = λ none. c.late-goroutine.ensures.late (omega (arith, skips, none)) ∙ ap (λ (rows : List Goroutine). whose e rows) same_rows in
    record {
      limits = search rules;
      run = run_next c.args.limits (opening c.args.limits c.args.bodies c.args.capacities.now) before.state after.state c.loop-entry.yielded e k.run step;
      skips = (let fewer = c.saturating_sub-skips-in-loop-entry.ensures in let longer = length_push c.loop-entry.yielded e in omega (arith, skips, fewer, longer));
      late =
          subst (λ (l : List GNo). RanTo c.args.limits c.args.bodies c.args.capacities.now early (c.loop-entry.yielded ++ e ∷ []) after.state l) (sym added)
          (late_next c.args.limits c.args.bodies c.args.capacities.now early c.loop-entry.yielded e before.state after.state gs k.late k.run step who is_none is_whose);
    }
