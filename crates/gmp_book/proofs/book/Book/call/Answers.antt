use Rattle.std.specs.declared.alloc.Global.{Global}
use Rattle.std.proofs.Common.{◌≡◌, is_some, subst, None, Option, Some, refl, sym, ◌∙◌}
use Rattle.std.proofs.lemmas.Bool.{false≢true}
use Rattle.gmp_seq.specs.declared.call.Call.{Call}
use Rattle.gmp_seq.specs.declared.call.Call.TheVariants as call
use Rattle.gmp_seq.specs.Needs.{WantsMemory}
use Rattle.gmp_journal.specs.Done.{IsDoneTo}
use Rattle.gmp_journal.specs.Grants.{NeedsMemory}
use Rattle.gmp_journal.specs.Handed.{goroutine_in, processor_in}
use Rattle.gmp_journal.specs.Refusals.{Says, refusal_of}
use Rattle.gmp_journal.proofs.Done.{done}
use Rattle.gmp_book.specs.Book.{BookContents}
use Rattle.gmp_book.specs.Hands.{back_where, handed_of, is_make}
use Rattle.gmp_book.proofs.Settled.{body_fits, owner_fits, settled}
use Rattle.gmp_book.proofs.book.Book.call.Goals as goal

-- memory is given exactly to a make
given : (asked : Call) (memory : Option Global) → NeedsMemory asked memory → is_some memory ≡ is_make asked
given (call.Make capacity) None is = absurd (false≢true is)
given (call.Make capacity) (Some memory) is = refl
given _ None is = refl
given _ (Some memory) is = absurd (false≢true (sym is))

pub returns-in-Err-clause-back : goal.returns-in-Err-clause-back
returns-in-Err-clause-back g c =
    subst (λ makes. c.refused.result ≡ back_where makes c.in-Err.why c.args.values) (c.is_some-makes.ensures ∙ given c.args.call c.args.memory c.requires.memory) c.refused.ensures

pub settle_body-held-requires : goal.settle_body-held-requires
settle_body-held-requires g c =
    let a = c.args in
    let i = c.self.inside in
    let k = c.in-Ok in
    let grants = rw c.handed-given.ensures at k.ensures.grants in
    rw (c.parts-held.ensures, c.way_of-way.ensures, c.claimed-g.ensures)
    (body_fits i.journal c.call-made.new.self i.bodies i.owners c.self.invariant k.ensures.order a.pass.now c.call-made.new.pass a.values a.call c.call-made.new.out c.requires.suits grants k.ensures.records)

pub settle_owner-proc-requires : goal.settle_owner-proc-requires
settle_owner-proc-requires g c =
    let a = c.args in
    let i = c.self.inside in
    let k = c.in-Ok in
    let grants = rw c.handed-given.ensures at k.ensures.grants in
    rw c.parts-held.ensures
    (owner_fits i.journal c.call-made.new.self i.bodies i.owners c.self.invariant k.ensures.order a.pass.now c.call-made.new.pass a.values a.call c.call-made.new.out c.requires.suits grants k.ensures.records)

pub invariant_of-self-in-Ok : goal.invariant_of-self-in-Ok
invariant_of-self-in-Ok g c =
    let a = c.args in
    let i = c.self.inside in
    let k = c.in-Ok in
    let grants = rw c.handed-given.ensures at k.ensures.grants in
    let body = rw (c.parts-held.ensures, c.way_of-way.ensures, c.claimed-g.ensures) at c.settle_body-held.ensures in
    let owner = rw c.parts-held.ensures at c.settle_owner-proc.ensures in
    settled i.journal c.call-made.new.self i.bodies i.owners c.self.invariant k.ensures.order a.pass.now c.call-made.new.pass a.values a.call c.call-made.new.out c.requires.suits grants k.ensures.records _ _ _ _ _ _ _
    body owner

pub returns-after-ticket-clause-done : goal.returns-after-ticket-clause-done
returns-after-ticket-clause-done g c =
    let a = c.args in
    let i = c.self.inside in
    let k = c.in-Ok in
    let grants = rw c.handed-given.ensures at k.ensures.grants in
    let g = goroutine_in (handed_of a.values) in
    let p = processor_in (handed_of a.values) in
    subst (λ (b : BookContents _ _). IsDoneTo a.call a.pass.now.m g p c.call-made.new.out b.log.state c.call-made.new.self.state) c.self.view_is
    (done a.call i.journal.limits a.pass.now.m g p c.call-made.new.out i.journal.state c.call-made.new.self.state k.ensures.order grants k.ensures.records.step)

pub returns-in-Err-clause-refused : goal.returns-in-Err-clause-refused
returns-in-Err-clause-refused g c =
    let a = c.args in
    subst (λ (b : BookContents _ _). Says (WantsMemory b.log.limits a.call b.log.state) (refusal_of b.log a.pass.now a.call (handed_of a.values)) (Some c.in-Err.why)) c.self.view_is
    (rw c.handed-given.ensures at c.in-Err.ensures.refused)

pub returns-after-ticket-clause-refused : goal.returns-after-ticket-clause-refused
returns-after-ticket-clause-refused g c =
    let a = c.args in
    subst (λ (b : BookContents _ _). Says (WantsMemory b.log.limits a.call b.log.state) (refusal_of b.log a.pass.now a.call (handed_of a.values)) None) c.self.view_is
    (rw c.handed-given.ensures at c.in-Ok.ensures.refused)
