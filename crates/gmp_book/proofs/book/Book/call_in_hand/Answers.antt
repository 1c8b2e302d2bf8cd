use Rattle.std.proofs.Common.{◌≡◌, subst, refl}
use Rattle.std.specs.Option.{option_map}
use Rattle.gmp_base.specs.Values.{ticket_by}
use Rattle.gmp_seq.specs.Step.{ticket_in}
use Rattle.gmp_journal.specs.Done.{IsDoneTo}
use Rattle.gmp_journal.specs.Grants.{Suits}
use Rattle.gmp_journal.specs.Handed.{goroutine_in, processor_in}
use Rattle.gmp_journal.proofs.Done.{done}
use Rattle.gmp_driver.specs.declared.registers.Registers.{Registers}
use Rattle.gmp_book.specs.declared.values.Values.{Values}
use Rattle.gmp_book.specs.Book.{BookContents}
use Rattle.gmp_book.specs.Hands.{Hands, handed_of}
use Rattle.gmp_book.specs.InHand.{given_by, hand_after}
use Rattle.gmp_book.proofs.InHand.{held_behind, suits}
use Rattle.gmp_book.proofs.Settled.{body_fits, owner_fits, settled}
use Rattle.gmp_book.proofs.book.Book.call_in_hand.Goals as goal

pub call-requires-clause-suits : goal.call-requires-clause-suits
call-requires-clause-suits g c = rw c.handed_in-given.ensures (suits c.run-run.result c.args.call.now c.args.hand.now c.requires.uses)

pub settle_body_in-requires-clause-fits : goal.settle_body_in-requires-clause-fits
settle_body_in-requires-clause-fits g c =
    let a = c.args in
    let i = c.self.inside in
    let k = c.in-Ok in
    let v : Values g.row.T.Denot g.row.Q.Denot = given_by c.run-run.result a.call.now a.hand.now in
    let suited : Suits a.call.now (handed_of v) = suits c.run-run.result a.call.now a.hand.now c.requires.uses in
    let grants = rw c.handed_in-given.ensures at k.ensures.grants in
    rw (c.way_of.ensures, c.claimed-g.ensures, c.hands_held-is_held.ensures, c.hands_called-is_called.ensures)
    (body_fits i.journal c.call.new.self i.bodies i.owners c.self.invariant k.ensures.order a.pass.now c.call.new.pass v a.call.now c.call.new.out suited grants k.ensures.records)

pub settle_owner_in-requires-clause-fits : goal.settle_owner_in-requires-clause-fits
settle_owner_in-requires-clause-fits g c =
    let a = c.args in
    let i = c.self.inside in
    let k = c.in-Ok in
    let v : Values g.row.T.Denot g.row.Q.Denot = given_by c.run-run.result a.call.now a.hand.now in
    let suited : Suits a.call.now (handed_of v) = suits c.run-run.result a.call.now a.hand.now c.requires.uses in
    let grants = rw c.handed_in-given.ensures at k.ensures.grants in
    rw c.hands_proc.ensures
    (owner_fits i.journal c.call.new.self i.bodies i.owners c.self.invariant k.ensures.order a.pass.now c.call.new.pass v a.call.now c.call.new.out suited grants k.ensures.records)

pub invariant_of-self-in-Ok : goal.invariant_of-self-in-Ok
invariant_of-self-in-Ok g c =
    let a = c.args in
    let i = c.self.inside in
    let k = c.in-Ok in
    let v : Values g.row.T.Denot g.row.Q.Denot = given_by c.run-run.result a.call.now a.hand.now in
    let suited : Suits a.call.now (handed_of v) = suits c.run-run.result a.call.now a.hand.now c.requires.uses in
    let grants = rw c.handed_in-given.ensures at k.ensures.grants in
    let body = rw (c.way_of.ensures, c.claimed-g.ensures, c.hands_held-is_held.ensures, c.hands_called-is_called.ensures) at c.settle_body_in.ensures.hands in
    let owner = rw c.hands_proc.ensures at c.settle_owner_in.ensures.hands in
    settled i.journal c.call.new.self i.bodies i.owners c.self.invariant k.ensures.order a.pass.now c.call.new.pass v a.call.now c.call.new.out suited grants k.ensures.records
    c.run-run.result c.told_by-told.result c.settle_body_in.ensures.held_back c.settle_body_in.ensures.called_back c.settle_owner_in.ensures.back c.settle_body_in.new.bodies c.settle_owner_in.new.owners
    body owner

pub returns-in-Ok-clause-hands : goal.returns-in-Ok-clause-hands
returns-in-Ok-clause-hands g c =
    let a = c.args in
    let i = c.self.inside in
    let s = c.settle_body_in.ensures in
    let o = c.settle_owner_in.ensures in
    let t = c.settle_tickets_in.ensures in
    let body = rw (c.run-run.ensures, c.told_by-told.ensures, c.known-known.ensures, c.way_of.ensures, c.claimed-g.ensures, c.hands_held-is_held.ensures, c.hands_called-is_called.ensures) at s.hands in
    let owner = rw (c.run-run.ensures, c.hands_proc.ensures) at o.hands in
    let processor_is = rw c.hands_proc.ensures at o.processor_is in
    let held_is = rw c.hands_held-is_held.ensures at s.held_is in
    let called_is = rw c.hands_called-is_called.ensures at s.called_is in
    let to_claim_is = rw c.ticket.ensures at t.to_claim in
    let to_store_is = rw c.ticket.ensures at t.to_store in
    let now : Registers g.row.T.Denot g.row.Q.Denot = record { processor = c.settle_owner_in.new.processor; held = c.settle_body_in.new.held; called = c.settle_body_in.new.called; to_claim = c.settle_tickets_in.new.to_claim; to_store = c.settle_tickets_in.new.to_store } in
    let back : Values g.row.T.Denot g.row.Q.Denot = record { held = s.held_back; called = s.called_back; ticket = option_map (ticket_by i.journal.run) (ticket_in c.call.new.out); proc = o.back } in
    subst (λ (b : BookContents _ _). (x : Values g.row.T.Denot g.row.Q.Denot) × Hands a.call.now c.call.new.out (given_by b.log.run a.call.now a.hand.now) x b (record { log = c.call.new.self; bodies = c.settle_body_in.new.bodies; owners = c.settle_owner_in.new.owners }) × (now ≡ hand_after a.call.now x a.hand.now)) c.self.view_is (
      back,
      record { ticket = refl; body = body; owner = owner },
      held_behind i.journal.run a.call.now a.hand.now c.settle_owner_in.new.processor c.settle_body_in.new.held c.settle_body_in.new.called c.settle_tickets_in.new.to_claim c.settle_tickets_in.new.to_store (ticket_in c.call.new.out) o.back s.held_back s.called_back
          processor_is held_is called_is to_claim_is to_store_is,
    )

pub returns-in-Ok-clause-done : goal.returns-in-Ok-clause-done
returns-in-Ok-clause-done g c =
    let a = c.args in
    let i = c.self.inside in
    let k = c.in-Ok in
    let v : Values g.row.T.Denot g.row.Q.Denot = given_by i.journal.run a.call.now a.hand.now in
    let grants = rw (c.handed_in-given.ensures, c.run-run.ensures) at k.ensures.grants in
    subst (λ (b : BookContents _ _). let h = handed_of (let w : Values g.row.T.Denot g.row.Q.Denot = given_by b.log.run a.call.now a.hand.now in w) in IsDoneTo a.call.now a.pass.now.m (goroutine_in h) (processor_in h) c.call.new.out b.log.state c.call.new.self.state) c.self.view_is
    (done a.call.now i.journal.limits a.pass.now.m (goroutine_in (handed_of v)) (processor_in (handed_of v)) c.call.new.out i.journal.state c.call.new.self.state k.ensures.order grants k.ensures.records.step)
