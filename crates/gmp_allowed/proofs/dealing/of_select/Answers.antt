use Rattle.std.proofs.Common.{[], ◌∷◌, Contains, length}
use Rattle.std.proofs.lemmas.Option.{slice_get-get_or}
use Rattle.gmp_base.specs.declared.ask.Fault.TheVariants as fault
use Rattle.gmp_seq.specs.declared.call.Reply.{Reply}
use Rattle.gmp_seq.specs.declared.call.Reply.TheVariants as reply
use Rattle.gmp_start.specs.Start.{state_of}
use Rattle.gmp_allowed.specs.Tried.{IsChoice, IsOfCase}
use Rattle.gmp_allowed.proofs.Adding.{added, all_added, both_added, next_added, none_before}
use Rattle.gmp_allowed.proofs.Deals.{chosen, of_number, swap}
use Rattle.gmp_allowed.proofs.dealing.of_select.Goals as goal

pub loop-i-init : goal.loop-i-init
loop-i-init c = none_before (IsOfCase c.args.cases.now (state_of c.args.last.now)) c.add_all.new.out.items

pub loop-i-preserved : goal.loop-i-preserved
loop-i-preserved c =
    let a = c.args in
    let s = state_of a.last.now in
    next_added (IsOfCase a.cases.now s) _ c.loop-i.i c.add_all.new.out.items c.loop-i.out.items c.of_case.new.out.items c.loop-i.invariant
    c.in_ok-of_case.ensures
    (λ r is. of_number a.cases.now s c.loop-i.i c.number_of.result _ r (slice_get-get_or a.cases.now c.loop-i.i _ c.loop-i-test.true) c.number_of.ensures is)

pub returns : goal.returns
returns c =
    let a = c.args in
    let s = state_of a.last.now in
    let out = a.out.now.items in
    let mid = c.add_all.new.out.items in
    let new = c.loop-i.out.items in
    let rest : Reply → Type 0 = λ (r : Reply). Contains (reply.Waits ∷ reply.Default ∷ reply.Fault fault.NoSuchChannel ∷ []) r in
    let cases = all_added (IsOfCase a.cases.now s) (length a.cases.now) c.loop-i.i mid new c.loop-i-test.false c.loop-i.invariant in
    (both_added rest _ (IsChoice a.cases.now s) out mid new (added rest out mid (reply.Waits ∷ reply.Default ∷ reply.Fault fault.NoSuchChannel ∷ []) c.in_ok-add_all.ensures (λ r among. among)) cases
    (λ r is. swap (chosen a.cases.now s r is))).each
