use Rattle.std.proofs.lemmas.Result.{IfOk-weaker}
use Rattle.gmp_words.proofs.Building.{one_made}
use Rattle.gmp_words.proofs.commands.command.Goals as goal

pub returns : goal.returns
returns c =
    let step = one_made _ c.step.result _ _ _ c.in_ok-gmp.ensures c.step.ensures.local c.program.ensures.app c.step.ensures.shape in
    let run = one_made _ c.run.result _ _ _ c.in_ok-gmp-2.ensures c.run.ensures.local step c.run.ensures.shape in
    let check = one_made _ c.check.result _ _ _ c.in_ok-gmp-3.ensures c.check.ensures.local run c.check.ensures.shape in
    let join = one_made _ c.join.result _ _ _ c.in_ok-gmp-4.ensures c.join.ensures.local check c.join.ensures.shape in
    let cut = one_made _ c.cut.result _ _ _ c.in_ok-gmp-5.ensures c.cut.ensures.local join c.cut.ensures.shape in
    let explain = one_made _ c.explain.result _ _ _ c.in_ok-gmp-6.ensures c.explain.ensures.local cut c.explain.ensures.shape in
    let draw = one_made _ c.draw.result _ _ _ c.in_ok-gmp-7.ensures c.draw.ensures.local explain c.draw.ensures.shape in
    IfOk-weaker c.with_command-8.result _ _ (λ r adds. one_made _ c.explore.result r _ _ adds c.explore.ensures.local draw c.explore.ensures.shape)
    c.with_command-8.ensures
