use Rattle.std.proofs.Common.{◌≡◌, List, map, [], ◌∷◌, ◌++◌, false, length, sym, subst, ◌∙◌, ap, append_assoc}
use Rattle.gmp_check.proofs.Keeping.{opening_consistent}
use Rattle.gmp_check.specs.Consistent.{IsConsistentUnder}
use Rattle.gmp_check.specs.Decides.{Decides}
use Rattle.gmp_check.specs.Replayed.{Replayed}
use Rattle.gmp_follow.proofs.Following.{Follows, calls_one, is_no, runs_next, runs_one, stops}
use Rattle.gmp_said.specs.Said.{unheard}
use Rattle.gmp_scene.specs.Scripted.{LeadsBodies, Speakers}
use Rattle.gmp_seq.specs.declared.call.Entry.{Entry}
use Rattle.gmp_seq.specs.declared.call.Limits.{Limits}
use Rattle.gmp_seq.specs.Run.{IsStep}
use Rattle.gmp_seq.specs.State.{opening}
use Rattle.gmp_follow.proofs.follow.follows.Goals as goal

pub lead-requires : goal.lead-requires
lead-requires c =
    let r = c.replay-in-loop-entry in
    let is = subst (λ (x : Replayed). IsConsistentUnder x.limits x.state) r.view_is r.invariant in
    record {
      runs = runs_one c.loop-entry.replay.limits c.loop-entry.replay.state c.in-Some.entry.m is;
      calls = calls_one c.loop-entry.replay.limits c.loop-entry.replay.state c.in-Some.entry.m is;
    }

pub returns-then-not-lead-clause-exact : goal.returns-then-not-lead-clause-exact
returns-then-not-lead-clause-exact c =
    let a = c.args in
    let l = c.loop-entry in
    let e = c.in-Some.entry in
    let first : Speakers = map unheard a.script.now in
    let start = opening a.limits (length a.script.now) a.capacities.now in
    let is = opening_consistent a.limits (length a.script.now) a.capacities.now c.in_ok-replay.ensures.within in
    let all : a.entries.now.list ≡ l.yielded ++ e ∷ c.next.new.self = l.invariant.left ∙ ap (λ (h : List Entry). l.yielded ++ h) c.in-Some.ensures.steps in
    let none = stops a.limits start l.replay.state first l.bodies l.yielded c.next.new.self e is l.invariant.run
    (λ s after step lead. c.if-not-lead.ensures.1 after lead) in
    is_no (λ run. none (subst (Follows a.limits start first) all run))

pub loop-entry-preserved : goal.loop-entry-preserved
loop-entry-preserved c =
    let a = c.args in
    let l = c.loop-entry in
    let e = c.in-Some.entry in
    let first : Speakers = map unheard a.script.now in
    let start = opening a.limits (length a.script.now) a.capacities.now in
    let leads : LeadsBodies e.m e.call e.reply l.replay.state.table l.bodies c.lead.new.self = c.if-not-lead.ensures in
    let step : IsStep l.replay.limits e l.replay.state c.step.new.self.state =
    subst (Decides (IsStep l.replay.limits e) l.replay.state c.step.new.self.state) c.in-Ok-true.field-0-test c.in-Ok-true.ensures.decides in
    record {
      limits = c.in-Ok-true.ensures.limits ∙ l.invariant.limits;
      left = l.invariant.left ∙ ap (λ (h : List Entry). l.yielded ++ h) c.in-Some.ensures.steps ∙ sym (append_assoc l.yielded (e ∷ []) c.next.new.self);
      run = runs_next a.limits start l.replay.state c.step.new.self.state first l.bodies c.lead.new.self l.yielded e l.invariant.run
          (subst (λ (x : Limits). IsStep x e l.replay.state c.step.new.self.state) l.invariant.limits step) leads;
    }

pub returns-in-Ok-false-clause-exact : goal.returns-in-Ok-false-clause-exact
returns-in-Ok-false-clause-exact c =
    let a = c.args in
    let l = c.loop-entry in
    let e = c.in-Some.entry in
    let first : Speakers = map unheard a.script.now in
    let start = opening a.limits (length a.script.now) a.capacities.now in
    let is = opening_consistent a.limits (length a.script.now) a.capacities.now c.in_ok-replay.ensures.within in
    let all : a.entries.now.list ≡ l.yielded ++ e ∷ c.next.new.self = l.invariant.left ∙ ap (λ (h : List Entry). l.yielded ++ h) c.in-Some.ensures.steps in
    let no : Decides (IsStep l.replay.limits e) l.replay.state c.step.new.self.state false =
    subst (Decides (IsStep l.replay.limits e) l.replay.state c.step.new.self.state) c.in-Ok-false.field-0-test c.in-Ok-false.ensures.decides in
    let none = stops a.limits start l.replay.state first l.bodies l.yielded c.next.new.self e is l.invariant.run
    (λ s after step lead. no.1 s (subst (λ (x : Limits). IsStep x e l.replay.state s) (sym l.invariant.limits) step)) in
    is_no (λ run. none (subst (Follows a.limits start first) all run))
