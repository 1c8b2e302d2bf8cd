use Rattle.std.proofs.Common.{Some, refl}
use Rattle.gmp_driver.specs.declared.act.Told.TheVariants as told
use Rattle.gmp_driver.proofs.Uses.{uses}
use Rattle.gmp_turn.proofs.InHand.{fits_refused, fits_then, told_fits, turns_ok, turns_refused}
use Rattle.gmp_turn.proofs.calling.any_turn.Goals as goal

pub call_in_hand-requires-clause-uses : goal.call_in_hand-requires-clause-uses
call_in_hand-requires-clause-uses g c = rw (c.hand.ensures.hand, c.give_pass-pass.ensures.left) (uses c.args.driver.now c.args.call.now c.requires.act c.requires.keeps)

-- Answered

pub got_reply-requires-clause-fits : goal.got_reply-requires-clause-fits
got_reply-requires-clause-fits g c =
    let p = c.give_pass-pass in
    let hands = rw (c.hand.ensures.hand, p.ensures.left) at c.in-Ok.ensures.hands in
    fits_then c.args.driver.now p.new.self c.args.call.now p.result c.call_in_hand.new.pass c.args.book.now c.call_in_hand.new.self c.call_in_hand.new.hand
    c.requires.act p.ensures.pass c.requires.run c.requires.keeps p.ensures.run p.ensures.left
    (record p.new.self { hand = c.call_in_hand.new.hand }) refl c.call_in_hand.new.out hands.0 c.in-Ok.ensures.records hands.1 hands.2

pub returns-in-Ok-clause-turns : goal.returns-in-Ok-clause-turns
returns-in-Ok-clause-turns g c =
    let p = c.give_pass-pass in
    let k = c.in-Ok.ensures in
    let hands = rw (c.hand.ensures.hand, p.ensures.left) at k.hands in
    let refused = rw (c.hand.ensures.hand, p.ensures.left) at k.refused in
    let done = rw (c.hand.ensures.hand, p.ensures.left) at k.done in
    turns_ok c.args.driver.now p.new.self c.args.call.now p.result c.call_in_hand.new.pass c.args.book.now c.call_in_hand.new.self c.call_in_hand.new.hand
    c.requires.act p.ensures.pass c.requires.run c.requires.keeps p.ensures.run p.ensures.left
    (record p.new.self { hand = c.call_in_hand.new.hand }) refl c.call_in_hand.new.out hands.0 k.records hands.1 hands.2
    c.args.word c.got_reply.new.self refused k.choice done c.got_reply.ensures

pub returns-in-Ok-clause-fits : goal.returns-in-Ok-clause-fits
returns-in-Ok-clause-fits g c =
    let p = c.give_pass-pass in
    let hands = rw (c.hand.ensures.hand, p.ensures.left) at c.in-Ok.ensures.hands in
    told_fits (record p.new.self { hand = c.call_in_hand.new.hand }) c.got_reply.new.self (told.Replied c.call_in_hand.new.out) (Some c.call_in_hand.new.pass) c.got_reply.ensures
    (fits_then c.args.driver.now p.new.self c.args.call.now p.result c.call_in_hand.new.pass c.args.book.now c.call_in_hand.new.self c.call_in_hand.new.hand
    c.requires.act p.ensures.pass c.requires.run c.requires.keeps p.ensures.run p.ensures.left
    (record p.new.self { hand = c.call_in_hand.new.hand }) refl c.call_in_hand.new.out hands.0 c.in-Ok.ensures.records hands.1 hands.2)

-- Refused

pub got_refusal-requires-clause-fits : goal.got_refusal-requires-clause-fits
got_refusal-requires-clause-fits g c =
    let p = c.give_pass-pass in
    let is = rw (c.hand.ensures.hand, p.ensures.left) at c.in-Err.ensures.told in
    fits_refused c.args.driver.now p.new.self c.args.call.now p.result c.call_in_hand.new.pass c.args.book.now c.call_in_hand.new.self c.call_in_hand.new.hand
    c.requires.act p.ensures.pass c.requires.run c.requires.keeps p.ensures.run p.ensures.left
    (record p.new.self { hand = c.call_in_hand.new.hand }) refl c.in-Err.why c.in-Err.ensures.err is

pub returns-in-Err-clause-turns : goal.returns-in-Err-clause-turns
returns-in-Err-clause-turns g c =
    let p = c.give_pass-pass in
    let is = rw (c.hand.ensures.hand, p.ensures.left) at c.in-Err.ensures.told in
    let refused = rw (c.hand.ensures.hand, p.ensures.left) at c.in-Err.ensures.refused in
    turns_refused c.args.driver.now p.new.self c.args.call.now p.result c.call_in_hand.new.pass c.args.book.now c.call_in_hand.new.self c.call_in_hand.new.hand
    c.requires.act p.ensures.pass c.requires.run c.requires.keeps p.ensures.run p.ensures.left
    (record p.new.self { hand = c.call_in_hand.new.hand }) refl c.in-Err.why c.in-Err.ensures.err is
    c.args.word c.got_refusal.new.self refused c.got_refusal.ensures

pub returns-in-Err-clause-fits : goal.returns-in-Err-clause-fits
returns-in-Err-clause-fits g c =
    let p = c.give_pass-pass in
    let is = rw (c.hand.ensures.hand, p.ensures.left) at c.in-Err.ensures.told in
    told_fits (record p.new.self { hand = c.call_in_hand.new.hand }) c.got_refusal.new.self (told.Refused c.in-Err.why) (Some c.call_in_hand.new.pass) c.got_refusal.ensures
    (fits_refused c.args.driver.now p.new.self c.args.call.now p.result c.call_in_hand.new.pass c.args.book.now c.call_in_hand.new.self c.call_in_hand.new.hand
    c.requires.act p.ensures.pass c.requires.run c.requires.keeps p.ensures.run p.ensures.left
    (record p.new.self { hand = c.call_in_hand.new.hand }) refl c.in-Err.why c.in-Err.ensures.err is)
