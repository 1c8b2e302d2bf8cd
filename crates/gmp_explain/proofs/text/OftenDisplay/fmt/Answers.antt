use Rattle.std.proofs.Common.{◌<◌, arith, length, rules, sym, take, get_or}
use Rattle.std.proofs.lemmas.Grind.{put_two}
use Rattle.gmp_explain.specs.Text.{often_text, times_text}
use Rattle.gmp_explain.proofs.Parts.{often_next}
use Rattle.gmp_explain.proofs.text.OftenDisplay.fmt.Goals as goal

pub loop-i-preserved : goal.loop-i-preserved
loop-i-preserved g c =
    let calls = c.args.self.now.0.now in
    let i = c.loop-i.i in
    let within : i < length calls = search (rules, arith) in
    λ plain.
    put_two _ c.args.f.now c.loop-i.f c.write.new.self (often_text (take i calls)) (times_text i (get_or calls i (0, 0))) _
    (c.loop-i.invariant plain) (search rules) (sym (often_next calls i (0, 0) within))
