use Rattle.std.proofs.Common.{Some, Ok, Err, refl, subst}
use Rattle.gmp_seq.specs.declared.call.Call.{Call}
use Rattle.gmp_driver.specs.declared.act.Told.TheVariants as told
use Rattle.gmp_driver.proofs.Uses.{uses}
use Rattle.gmp_turn.specs.Turns.{Turns}
use Rattle.gmp_turn.proofs.InHand.{fits_refused, fits_then, told_fits, turns_ok, turns_refused}
use Rattle.gmp_turn.proofs.calling.known_turn.Goals as goal

pub call_in_hand-requires-clause-uses : goal.call_in_hand-requires-clause-uses
call_in_hand-requires-clause-uses g c = rw (c.hand.ensures.hand, c.give_pass-pass.ensures.left) (uses c.args.driver.now c.call-call.result (rw c.call-call.ensures c.requires.act) c.requires.keeps)

-- Answered

pub got_reply-requires-clause-fits : goal.got_reply-requires-clause-fits
got_reply-requires-clause-fits g c =
    let p = c.give_pass-pass in
    let hands = rw (c.hand.ensures.hand, p.ensures.left) at c.in-Ok.ensures.hands in
    fits_then c.args.driver.now p.new.self c.call-call.result p.result c.call_in_hand.new.pass c.args.book.now c.call_in_hand.new.self c.call_in_hand.new.hand
    (rw c.call-call.ensures c.requires.act) p.ensures.pass c.requires.run c.requires.keeps p.ensures.run p.ensures.left
    (record p.new.self { hand = c.call_in_hand.new.hand }) refl c.call_in_hand.new.out hands.0 c.in-Ok.ensures.records hands.1 hands.2

pub returns-in-Ok-clause-turns : goal.returns-in-Ok-clause-turns
returns-in-Ok-clause-turns g c =
    let p = c.give_pass-pass in
    let k = c.in-Ok.ensures in
    let hands = rw (c.hand.ensures.hand, p.ensures.left) at k.hands in
    let refused = rw (c.hand.ensures.hand, p.ensures.left) at k.refused in
    let done = rw (c.hand.ensures.hand, p.ensures.left) at k.done in
    subst (λ (asked : Call). Turns c.args.driver.now c.args.book.now asked c.args.word (Ok c.call_in_hand.new.out) c.got_reply.new.self c.call_in_hand.new.self) c.call-call.ensures (
    turns_ok c.args.driver.now p.new.self c.call-call.result p.result c.call_in_hand.new.pass c.args.book.now c.call_in_hand.new.self c.call_in_hand.new.hand
    (rw c.call-call.ensures c.requires.act) p.ensures.pass c.requires.run c.requires.keeps p.ensures.run p.ensures.left
    (record p.new.self { hand = c.call_in_hand.new.hand }) refl c.call_in_hand.new.out hands.0 k.records hands.1 hands.2
    c.args.word c.got_reply.new.self refused k.choice done c.got_reply.ensures)

pub returns-in-Ok-clause-fits : goal.returns-in-Ok-clause-fits
returns-in-Ok-clause-fits g c =
    let p = c.give_pass-pass in
    let hands = rw (c.hand.ensures.hand, p.ensures.left) at c.in-Ok.ensures.hands in
    told_fits (record p.new.self { hand = c.call_in_hand.new.hand }) c.got_reply.new.self (told.Replied c.call_in_hand.new.out) (Some c.call_in_hand.new.pass) c.got_reply.ensures
    (fits_then c.args.driver.now p.new.self c.call-call.result p.result c.call_in_hand.new.pass c.args.book.now c.call_in_hand.new.self c.call_in_hand.new.hand
    (rw c.call-call.ensures c.requires.act) p.ensures.pass c.requires.run c.requires.keeps p.ensures.run p.ensures.left
    (record p.new.self { hand = c.call_in_hand.new.hand }) refl c.call_in_hand.new.out hands.0 c.in-Ok.ensures.records hands.1 hands.2)

-- Refused

pub got_refusal-requires-clause-fits : goal.got_refusal-requires-clause-fits
got_refusal-requires-clause-fits g c =
    let p = c.give_pass-pass in
    let is = rw (c.hand.ensures.hand, p.ensures.left) at c.in-Err.ensures.told in
    fits_refused c.args.driver.now p.new.self c.call-call.result p.result c.call_in_hand.new.pass c.args.book.now c.call_in_hand.new.self c.call_in_hand.new.hand
    (rw c.call-call.ensures c.requires.act) p.ensures.pass c.requires.run c.requires.keeps p.ensures.run p.ensures.left
    (record p.new.self { hand = c.call_in_hand.new.hand }) refl c.in-Err.why c.in-Err.ensures.err is

pub returns-clause-turns : goal.returns-clause-turns
returns-clause-turns g c =
    let p = c.give_pass-pass in
    let is = rw (c.hand.ensures.hand, p.ensures.left) at c.in-Err.ensures.told in
    let refused = rw (c.hand.ensures.hand, p.ensures.left) at c.in-Err.ensures.refused in
    subst (λ (asked : Call). Turns c.args.driver.now c.args.book.now asked c.args.word (Err c.in-Err.why) c.got_refusal.new.self c.call_in_hand.new.self) c.call-call.ensures (
    turns_refused c.args.driver.now p.new.self c.call-call.result p.result c.call_in_hand.new.pass c.args.book.now c.call_in_hand.new.self c.call_in_hand.new.hand
    (rw c.call-call.ensures c.requires.act) p.ensures.pass c.requires.run c.requires.keeps p.ensures.run p.ensures.left
    (record p.new.self { hand = c.call_in_hand.new.hand }) refl c.in-Err.why c.in-Err.ensures.err is
    c.args.word c.got_refusal.new.self refused c.got_refusal.ensures)

pub returns-clause-fits : goal.returns-clause-fits
returns-clause-fits g c =
    let p = c.give_pass-pass in
    let is = rw (c.hand.ensures.hand, p.ensures.left) at c.in-Err.ensures.told in
    told_fits (record p.new.self { hand = c.call_in_hand.new.hand }) c.got_refusal.new.self (told.Refused c.in-Err.why) (Some c.call_in_hand.new.pass) c.got_refusal.ensures
    (fits_refused c.args.driver.now p.new.self c.call-call.result p.result c.call_in_hand.new.pass c.args.book.now c.call_in_hand.new.self c.call_in_hand.new.hand
    (rw c.call-call.ensures c.requires.act) p.ensures.pass c.requires.run c.requires.keeps p.ensures.run p.ensures.left
    (record p.new.self { hand = c.call_in_hand.new.hand }) refl c.in-Err.why c.in-Err.ensures.err is)
