use Rattle.std.proofs.Common.{◌≡◌, ◌<◌, ◌+◌, ◌^◌, ◌++◌, ℕ, List, length, rules, arith, refl, sym, ap, ◌∙◌}
use Rattle.gmp_base.specs.declared.number.GNo.{GNo}
use Rattle.gmp_explain.specs.Stated.{for_each, if_waiting}
use Rattle.gmp_explain.proofs.Spoken.{for_more}
use Rattle.gmp_explain.proofs.channels.waiting.Goals as goal

pub loop-g-preserved : goal.loop-g-preserved
loop-g-preserved c =
    let a = c.args in
    let of : ℕ → List GNo = λ (n : ℕ). let h : GNo = record { 0 = n } in if_waiting a.rows.now a.c a.direction h in
    let within : c.loop-g.g < length a.rows.now = search (rules, arith) in
    let few = c.requires in
    let small : c.loop-g.g < 2 ^ 16 = omega (arith, within, few) in
    let here : if_waiting a.rows.now a.c a.direction c.goroutine_at-g.result ≡ of c.loop-g.g = ap of (c.goroutine_at-g.ensures small) in
    let added : c.add_if.new.who.items ≡ c.loop-g.who.items ++ if_waiting a.rows.now a.c a.direction c.goroutine_at-g.result = search rules in
    added ∙ ap (λ (l : List GNo). l ++ if_waiting a.rows.now a.c a.direction c.goroutine_at-g.result) c.loop-g.invariant ∙ ap (λ (l : List GNo). for_each c.loop-g.g of ++ l) here
    ∙ sym (for_more c.loop-g.g (c.loop-g.g + 1) of refl)
