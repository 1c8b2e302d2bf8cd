use Rattle.gmp_book.proofs.InHand.{comes_out, into_call, out_of_call, stays, stays_away}
use Rattle.gmp_book.proofs.in_hand.settle_body_in.Goals as goal

pub returns-then-is_held : goal.returns-then-is_held
returns-then-is_held g c =
    let a = c.args in
    rw (c.in-Stays.is, c.if-is_held.true) (stays a.run a.g a.told a.is_called a.held.now c.tell.new.held a.called.now a.bodies.now c.tell.ensures)

pub returns-else-is_held : goal.returns-else-is_held
returns-else-is_held g c =
    let a = c.args in
    rw (c.in-Stays.is, c.if-is_held.false) (stays_away a.run a.g a.told a.is_called a.held.now a.called.now a.bodies.now)

pub returns-in-OutOfPlace : goal.returns-in-OutOfPlace
returns-in-OutOfPlace g c =
    let a = c.args in
    rw c.in-OutOfPlace.is (comes_out a.run a.g a.told a.is_held a.is_called a.held.now c.fill.new.register a.called.now a.bodies.now c.take-body.new.self c.take-body.result c.take-body.ensures.value c.take-body.ensures.slots c.fill.ensures)

pub returns-then-is_held-3 : goal.returns-then-is_held-3
returns-then-is_held-3 g c =
    let a = c.args in
    let free = rw c.in-IntoCall.is at c.requires.free in
    rw (c.in-IntoCall.is, c.if-is_held-3.true)
    (into_call a.run a.g a.told a.is_called a.held.now c.go_into_call.new.held a.called.now c.go_into_call.new.called a.bodies.now free c.go_into_call.ensures.held c.go_into_call.ensures.called)

pub returns-then-is_called-2 : goal.returns-then-is_called-2
returns-then-is_called-2 g c =
    let a = c.args in
    let free = rw c.in-OutOfCall.is at c.requires.free in
    rw (c.in-OutOfCall.is, c.if-is_called-2.true)
    (out_of_call a.run a.g a.told a.is_held a.held.now c.come_out_of_call.new.held a.called.now c.come_out_of_call.new.called a.bodies.now free c.come_out_of_call.ensures.called c.come_out_of_call.ensures.held)
