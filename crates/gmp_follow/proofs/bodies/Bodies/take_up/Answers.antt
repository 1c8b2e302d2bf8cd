use Rattle.std.proofs.Common.{◌≡◌, ◌<◌, true, false, Some, None, refl, length, arith, sym, ◌∙◌, ap}
use Rattle.std.proofs.lemmas.Option.{slice_get-get_or}
use Rattle.std.specs.List.{slice_get, slice_set}
use Rattle.gmp_base.specs.declared.ask.Woke.{Woke}
use Rattle.gmp_said.specs.Said.{Speaker}
use Rattle.gmp_scene.specs.Scripted.{Speakers}
use Rattle.gmp_script.specs.Script.{Commands}
use Rattle.gmp_follow.proofs.Following.{IsTold, Takes, at_none, at_some, decides_at, none_past, takes_by}
use Rattle.gmp_follow.specs.declared.bodies.Bodies.TheInside.{Inside}
use Rattle.gmp_follow.proofs.bodies.Bodies.take_up.Goals as goal
use Rattle.gmp_follow.proofs.bodies.Bodies.take_up.Goals.{in-Some, in-None}

pub returns : goal.returns
returns c =
    let a = c.args in
    let t = a.replay.now.state.table in
    let v = c.self.inside.list in
    let g = a.r.g in
    let items : Inside → Speakers = λ (i : Inside). i.list.items in
    let leads_to : Speakers → Speakers → Type 0 = Takes a.r t in
    elim c.match-get_mut.branch [
      | in-Some w ↦
          let r = w.in-Some in
          let within : g.0 < length v.items = omega (arith, r.ensures.variant.0 refl, v.ok.0) in
          let has : slice_get v.items g.0 ≡ Some r.speaker.now = slice_get-get_or v.items g.0 r.speaker.now within ∙ ap Some (sym r.ensures.value) in
          let told : IsTold t g r.speaker.now w.is_told.new.self =
          w.is_told.ensures ∙ ap (λ (answer : Woke). let s : Speaker Commands = record r.speaker.now { woke = answer } in s) c.stored-woke.ensures in
          let does = at_some (IsTold t g) v.items g.0 r.speaker.now w.is_told.new.self true has told in
          decides_at leads_to c.self.view_is (ap items w.self-inside-is) w.result-is (takes_by a.r t v.items (slice_set v.items g.0 w.is_told.new.self) true does)
      | in-None w ↦
          let none : slice_get v.items g.0 ≡ None = none_past v.items g.0 (λ within. let no = w.in-None.ensures.variant.1 (omega (arith, within, v.ok.0)) in cc) in
          decides_at leads_to c.self.view_is (ap items w.self-inside-is) w.result-is (takes_by a.r t v.items v.items false (at_none (IsTold t g) v.items g.0 none))
    ]
