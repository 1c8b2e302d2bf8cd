use Rattle.std.proofs.Common.{◌≡◌, Some, List, false, inl, inr, length, take, rules, sym, ap, subst, ◌∙◌, arith}
use Rattle.std.proofs.Math.Seq.{take-length}
use Rattle.std.proofs.lemmas.Iterator.Consumers.{YieldsList-end, YieldsList-from_first, YieldsList-so_far, YieldsList-turn}
use Rattle.std.proofs.lemmas.List.{length_push, map-id}
use Rattle.std.proofs.lemmas.Option.{slice_get-get_or}
use Rattle.std.specs.List.{slice_get}
use Rattle.gmp_seq.specs.declared.call.Entry.{Entry}
use Rattle.gmp_seq.specs.declared.call.Limits.{Limits}
use Rattle.gmp_seq.specs.Run.{IsStep, Run}
use Rattle.gmp_seq.specs.State.{State}
use Rattle.gmp_check.proofs.Replaying.{run_next}
use Rattle.gmp_check.specs.Decides.{Decides}
use Rattle.gmp_walk.specs.Led.{RunsHeard}
use Rattle.gmp_walk.proofs.Heard.{hears_next}
use Rattle.gmp_walk.proofs.walking.follow.Goals as goal

pub overflow_step-i : goal.overflow_step-i
overflow_step-i g c =
    let t = YieldsList-turn (YieldsList-from_first (λ x. x) (λ left. left) c.args.entries.now.list c.iter-entry-items.ensures.list) c.loop-i.yielded _ c.loop-i.yielded_by _ _ c.in-Some.entry c.in-Some.is c.next.ensures.steps in
    omega (arith, c.loop-i.invariant.counted, t.0, c.iter-entry-items.ensures.few)

pub loop-i-preserved : goal.loop-i-preserved
loop-i-preserved g c =
    let a = c.args in
    let e = c.in-Some.entry in
    let k = c.loop-i.invariant in
    let yes_ = subst (Decides (IsStep c.loop-i.replay.limits e) c.loop-i.replay.state c.step.new.self.state) c.if-not-branch.false c.in_ok-step.ensures.decides in
    let step = subst (λ (l : Limits). IsStep l e c.loop-i.replay.state c.step.new.self.state) k.limits yes_ in
    let told : g.L.Listener.hears c.loop-i.listener e c.step.new.self.state.table.goroutines c.hear.new.self = search rules in
    record {
      limits = c.in_ok-step.ensures.limits ∙ k.limits;
      counted = (let more = length_push c.loop-i.yielded e in omega (arith, k.counted, more));
      run = run_next a.replay.limits a.replay.state c.loop-i.replay.state c.step.new.self.state c.loop-i.yielded e k.run step;
      heard = hears_next g.L.Listener.hears a.replay.limits a.replay.state c.loop-i.replay.state c.step.new.self.state c.loop-i.yielded e a.listener.now c.loop-i.listener c.hear.new.self k.heard step told;
    }

pub returns-then-not-branch-clause-led : goal.returns-then-not-branch-clause-led
returns-then-not-branch-clause-led g c =
    let a = c.args in
    let es = a.entries.now.list in
    let e = c.in-Some.entry in
    let k = c.loop-i.invariant in
    let road = YieldsList-from_first (λ x. x) (λ left. left) es c.iter-entry-items.ensures.list in
    let t = YieldsList-turn road c.loop-i.yielded _ c.loop-i.yielded_by _ _ e c.in-Some.is c.next.ensures.steps in
    let at : slice_get es c.loop-i.i ≡ Some e = rw k.counted (slice_get-get_or es (length c.loop-i.yielded) e t.0 ∙ ap Some (sym t.1)) in
    let so_far : c.loop-i.yielded ≡ take c.loop-i.i es = rw k.counted (sym (map-id c.loop-i.yielded) ∙ YieldsList-so_far road c.loop-i.yielded _ c.loop-i.yielded_by) in
    let is = subst (Decides (IsStep c.loop-i.replay.limits e) c.loop-i.replay.state c.step.new.self.state) c.if-not-branch.true c.in_ok-step.ensures.decides in
    let not = subst (λ (l : Limits). Decides (IsStep l e) c.loop-i.replay.state c.step.new.self.state false) k.limits is in
    let run = subst (λ (h : List Entry). Run a.replay.limits a.replay.state h c.loop-i.replay.state) so_far k.run in
    record {
      led = subst (λ (s : State). Run a.replay.limits a.replay.state (take c.loop-i.i es) s) (sym not.0) run;
      stops = inr (record { entry = e; there = at; no_step = λ new step. not.1 new (subst (λ (s : State). IsStep a.replay.limits e s new) not.0 step) });
    }

pub returns-clause-led : goal.returns-clause-led
returns-clause-led g c =
    let a = c.args in
    let es = a.entries.now.list in
    let ended = YieldsList-end (YieldsList-from_first (λ x. x) (λ left. left) es c.iter-entry-items.ensures.list) c.loop-i.yielded _ c.loop-i.yielded_by _ _ c.in-None.is c.next.ensures.steps in
    let all : c.loop-i.yielded ≡ es = sym (map-id c.loop-i.yielded) ∙ ended.0 in
    let whole : take c.len.result es ≡ es = rw c.len.ensures.value (take-length es) in
    let run = subst (λ (h : List Entry). Run a.replay.limits a.replay.state h c.loop-i.replay.state) (all ∙ sym whole) c.loop-i.invariant.run in
    record { led = run; stops = inl c.len.ensures.value }

pub returns-then-not-branch-clause-heard : goal.returns-then-not-branch-clause-heard
returns-then-not-branch-clause-heard g c =
    let a = c.args in
    let es = a.entries.now.list in
    let k = c.loop-i.invariant in
    let road = YieldsList-from_first (λ x. x) (λ left. left) es c.iter-entry-items.ensures.list in
    let so_far : c.loop-i.yielded ≡ take c.loop-i.i es = rw k.counted (sym (map-id c.loop-i.yielded) ∙ YieldsList-so_far road c.loop-i.yielded _ c.loop-i.yielded_by) in
    let is = subst (Decides (IsStep c.loop-i.replay.limits c.in-Some.entry) c.loop-i.replay.state c.step.new.self.state) c.if-not-branch.true c.in_ok-step.ensures.decides in
    let told = subst (λ (h : List Entry). RunsHeard g.L.Listener.hears a.replay.limits a.replay.state h c.loop-i.replay.state a.listener.now c.loop-i.listener) so_far k.heard in
    subst (λ (s : State). RunsHeard g.L.Listener.hears a.replay.limits a.replay.state (take c.loop-i.i es) s a.listener.now c.loop-i.listener) (sym is.0) told

pub returns-clause-heard : goal.returns-clause-heard
returns-clause-heard g c =
    let a = c.args in
    let es = a.entries.now.list in
    let ended = YieldsList-end (YieldsList-from_first (λ x. x) (λ left. left) es c.iter-entry-items.ensures.list) c.loop-i.yielded _ c.loop-i.yielded_by _ _ c.in-None.is c.next.ensures.steps in
    let all : c.loop-i.yielded ≡ es = sym (map-id c.loop-i.yielded) ∙ ended.0 in
    let whole : take c.len.result es ≡ es = rw c.len.ensures.value (take-length es) in
    subst (λ (h : List Entry). RunsHeard g.L.Listener.hears a.replay.limits a.replay.state h c.loop-i.replay.state a.listener.now c.loop-i.listener) (all ∙ sym whole) c.loop-i.invariant.heard
