use Rattle.std.proofs.Common.{◌≡◌, List, ℕ, length, ap, ◌∙◌, rules}
use Rattle.gmp_seq.specs.declared.call.Limits.{Limits}
use Rattle.gmp_trace.specs.Text.{Content, end_of}
use Rattle.gmp_trace.specs.Text.Begins.{AtOpening}
use Rattle.gmp_core.specs.Stage as stage
use Rattle.gmp_cli.specs.Clock.{ClockState}
use Rattle.gmp_cli.specs.Plays.{Stage, opening_stage}
use Rattle.gmp_words.specs.Runs.{limits_of}
use Rattle.gmp_cli.proofs.Written.{has_text, is_run, is_trace}
use Rattle.gmp_cli.proofs.stepping.run.Goals as goal

pub returns-in-Ok-written-clause-traced : goal.returns-in-Ok-written-clause-traced
returns-in-Ok-written-clause-traced g c = λ nothing.
    let s = c.args.settings.now in
    let script = c.args.script in
    let x : Content = record { limits = c.limits-limits.result; bodies = c.len-count.result; begins = AtOpening c.deref-2.result.now; entries = c.history.result.now.list; end = c.of-end.result } in
    let opened : c.in-Ok.player ≡ opening_stage s.fair (limits_of s) script.capacities.items script.readings.items script.bodies.items =
    c.in-Ok.ensures.stage ∙ ap (λ (clock : ClockState). stage.opening_stage s.fair c.limits-limits.result c.deref.result.now script.bodies.items clock) c.of-clock.ensures
    ∙ ap (λ (l : Limits). opening_stage s.fair l c.deref.result.now script.readings.items script.bodies.items) c.limits-limits.ensures
    ∙ ap (λ (cs : List ℕ). opening_stage s.fair (limits_of s) cs script.readings.items script.bodies.items) c.deref.ensures.value in
    let stock : c.len-count.result ≡ length script.bodies.items = search rules in
    let behind : Stage = c.play.new.self in
    let ended = c.of-end.ensures ∙ ap end_of c.outcome.ensures in
    record {
      trace = x;
      legal = is_trace s script.capacities.items script.readings.items script.bodies.items c.in-Ok.player behind x opened c.play.ensures.opened c.history.ensures.headline c.history.ensures.within c.history.ensures.fits c.limits-limits.ensures stock (ap AtOpening c.deref-2.ensures.value) c.history.ensures.entries ended;
      run = is_run s script.capacities.items script.readings.items script.bodies.items c.in-Ok.player behind x opened c.play.ensures.opened c.history.ensures.headline c.history.ensures.within c.history.ensures.fits c.limits-limits.ensures stock (ap AtOpening c.deref-2.ensures.value) c.history.ensures.entries ended c.play.ensures.played;
      has_text = has_text s script.capacities.items script.readings.items script.bodies.items c.in-Ok.player behind x opened c.play.ensures.opened c.history.ensures.headline c.history.ensures.within c.history.ensures.fits c.limits-limits.ensures stock (ap AtOpening c.deref-2.ensures.value) c.history.ensures.entries ended;
      written = c.in-Ok-written.ensures.written;
      told = c.written.ensures.status;
    }

pub returns-clause-traced : goal.returns-clause-traced
returns-clause-traced g c = search rules
