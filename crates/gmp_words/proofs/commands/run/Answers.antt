use Rattle.std.proofs.Common.{◌≡◌, ◌∙◌, [], ap, codes, drop, take}
use Rattle.std.proofs.lemmas.Result.{IfOk-weaker}
use Rattle.clap.specs.Words.{shape_of}
use Rattle.gmp_words.specs.Program.{command, with_more}
use Rattle.gmp_words.specs.Program as line
use Rattle.gmp_words.proofs.Building.{one_further, still_local}
use Rattle.gmp_words.proofs.commands.run.Goals as goal

pub returns-clause-shape : goal.returns-clause-shape
returns-clause-shape c =
    let bare = command (codes "run") [] in
    let options = drop 1 line.run.rules in
    let numbers : shape_of c.in_ok-with.field-0 ≡ with_more bare (take 6 options) = c.in_ok-with.ensures.shape ∙ ap (λ s. with_more s (take 6 options)) c.in_ok-bare.ensures.shape in
    let segments = one_further _ _ c.segments.result bare (take 6 options) _ c.in_ok-arg.ensures c.segments.ensures.local numbers c.segments.ensures.rule in
    let trace = one_further _ _ c.flag.result bare (take 7 options) _ c.in_ok-arg-2.ensures c.flag.ensures.local segments c.flag.ensures.rule in
    let scripted = one_further _ _ c.flag-2.result bare (take 8 options) _ c.in_ok-arg-3.ensures c.flag-2.ensures.local trace c.flag-2.ensures.rule in
    IfOk-weaker c.arg-4.result _ _ (λ r adds. one_further _ r c.fair.result bare (take 9 options) _ adds c.fair.ensures.local scripted c.fair.ensures.rule) c.arg-4.ensures

pub returns-clause-local : goal.returns-clause-local
returns-clause-local c =
    let segments = still_local _ _ c.segments.result c.in_ok-arg.ensures c.segments.ensures.local (c.in_ok-with.ensures.local c.in_ok-bare.ensures.local) in
    let trace = still_local _ _ c.flag.result c.in_ok-arg-2.ensures c.flag.ensures.local segments in
    let scripted = still_local _ _ c.flag-2.result c.in_ok-arg-3.ensures c.flag-2.ensures.local trace in
    IfOk-weaker c.arg-4.result _ _ (λ r adds. still_local _ r c.fair.result adds c.fair.ensures.local scripted) c.arg-4.ensures
