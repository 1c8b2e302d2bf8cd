use Rattle.std.proofs.Common.{rules, ◌≡◌, length, ap, ◌∙◌}
use Rattle.std.proofs.lemmas.Result.{on_ok_weaker}
use Rattle.gmp_scene.specs.Reached.{IsRunOf}
use Rattle.gmp_trace.specs.Text.{Content, end_of}
use Rattle.gmp_trace.specs.Text.Begins.{AtOpening}
use Rattle.gmp_explore_cli.proofs.Written.{written}
use Rattle.gmp_explore_cli.proofs.tracing.write_run.Goals as goal

pub returns : goal.returns
returns g c =
    let script = c.args.script.now in
    let run = c.requires.runs in
    let x : Content = record { limits = c.args.limits; bodies = c.len.result; begins = AtOpening c.deref.result.now; entries = c.history.result.now.list; end = c.of.result } in
    let stock : c.len.result ≡ length script.bodies.items = search rules in
    let runs : IsRunOf x.limits script.capacities.items script.bodies.items x.entries run.0 run.1 = rw c.history.ensures.entries run.2 in
    on_ok_weaker c.write_view.result
    (written script.capacities.items script.bodies.items run.1 c.args.stage.now.journal run.0 x c.requires.opened c.history.ensures.part c.requires.whole
    stock (ap AtOpening c.deref.ensures.value) c.history.ensures.entries (c.of.ensures ∙ ap end_of c.outcome.ensures) runs
    c.args.found (g.W.Write.contents c.args.writer.now) (g.W.Write.contents c.write_view.new.writer) c.requires.come)
    c.write_view.ensures.written
