use Rattle.std.proofs.Common.{◌≡◌, ◌<◌, false, Some, None, refl, length, arith, sym, ◌∙◌, ap}
use Rattle.std.proofs.lemmas.Option.{slice_get-get_or}
use Rattle.std.specs.List.{slice_get, slice_set}
use Rattle.gmp_base.specs.declared.number.GNo.{GNo}
use Rattle.gmp_scene.specs.Scripted.{Speakers}
use Rattle.gmp_seq.specs.Table.{IsRunning}
use Rattle.gmp_follow.specs.Follows.{AsksCall}
use Rattle.gmp_follow.proofs.Following.{Asks, asks_by, at_none, at_some, decides_at, none_past}
use Rattle.gmp_follow.specs.declared.bodies.Bodies.TheInside.{Inside}
use Rattle.gmp_follow.proofs.bodies.Bodies.ask.Goals as goal
use Rattle.gmp_follow.proofs.bodies.Bodies.ask.Goals.{in-Some-get_mut, in-None}

pub returns : goal.returns
returns c =
    let a = c.args in
    let t = a.replay.now.state.table in
    let v = c.self.inside.list in
    let g : GNo = record { 0 = c.in-Some.g } in
    let runs : IsRunning t g a.m = c.in-Some.ensures.some in
    let items : Inside → Speakers = λ (i : Inside). i.list.items in
    let leads_to : Speakers → Speakers → Type 0 = Asks a.m a.call.now a.reply t in
    elim c.match-get_mut.branch [
      | in-Some-get_mut w ↦
          let r = w.in-Some-get_mut in
          let within : c.in-Some.g < length v.items = omega (arith, r.ensures.variant.0 refl, v.ok.0) in
          let has : slice_get v.items g.0 ≡ Some r.speaker.now = slice_get-get_or v.items g.0 r.speaker.now within ∙ ap Some (sym r.ensures.value) in
          let does = at_some (AsksCall a.call.now a.reply) v.items g.0 r.speaker.now w.asks.new.self w.asks.result has w.asks.ensures in
          decides_at leads_to c.self.view_is (ap items w.self-inside-is) w.result-is
          (asks_by a.m a.call.now a.reply t g v.items (slice_set v.items g.0 w.asks.new.self) w.asks.result c.requires runs does)
      | in-None w ↦
          let none : slice_get v.items g.0 ≡ None = none_past v.items g.0 (λ within. let no = w.in-None.ensures.variant.1 (omega (arith, within, v.ok.0)) in cc) in
          decides_at leads_to c.self.view_is (ap items w.self-inside-is) w.result-is
          (asks_by a.m a.call.now a.reply t g v.items v.items false c.requires runs (at_none (AsksCall a.call.now a.reply) v.items g.0 none))
    ]
