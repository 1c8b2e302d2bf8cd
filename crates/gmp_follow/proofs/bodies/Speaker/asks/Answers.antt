use Rattle.std.proofs.Common.{refl, ap, subst}
use Rattle.std.specs.Option.{option_copied}
use Rattle.gmp_base.specs.declared.ask.Woke.{Woke}
use Rattle.gmp_said.specs.Said.{Speaker}
use Rattle.gmp_script.specs.Read.{body_of}
use Rattle.gmp_script.specs.Script.{AsksNext, AsksTold, Commands, ask_of}
use Rattle.gmp_follow.proofs.Following.{asks_another}
use Rattle.gmp_follow.proofs.bodies.Speaker.asks.Goals as goal

pub returns-then-not-is_next : goal.returns-then-not-is_next
returns-then-not-is_next c =
    let now = c.args.self.now in
    let asked = ask_of (option_copied c.go_on-command.result) in
    let behind = body_of c.go_on-command.new.self in
    let heard = subst (λ (b : Commands). AsksNext b asked behind) c.hear.ensures c.go_on-command.ensures in
    let asks = subst (λ (s : Speaker Commands). AsksTold s.body s.woke asked behind) c.self.view_is heard in
    (refl, asks_another c.args.call.now c.args.reply now asked behind asks (λ is. let no = c.is_next.ensures.1 is in cc))

pub returns : goal.returns
returns c =
    let now = c.args.self.now in
    let asked = ask_of (option_copied c.go_on-command.result) in
    let behind = body_of c.go_on-command.new.self in
    let heard = subst (λ (b : Commands). AsksNext b asked behind) c.hear.ensures c.go_on-command.ensures in
    let asks = subst (λ (s : Speaker Commands). AsksTold s.body s.woke asked behind) c.self.view_is heard in
    let told : Woke → Speaker Commands = λ w. record { body = behind; woke = w } in
    record { asked = asked; behind = behind; asks = asks; calls = c.is_next.ensures.0 c.if-not-is_next.false; goes = ap told c.woke-self-inside.ensures }
