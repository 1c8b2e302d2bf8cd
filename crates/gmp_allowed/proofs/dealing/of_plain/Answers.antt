use Rattle.std.proofs.Common.{[], ◌∷◌, None, Contains}
use Rattle.gmp_base.specs.declared.ask.Fault.TheVariants as fault
use Rattle.gmp_seq.specs.declared.call.Reply.{Reply}
use Rattle.gmp_seq.specs.declared.call.Reply.TheVariants as reply
use Rattle.gmp_start.specs.Start.{state_of}
use Rattle.gmp_allowed.specs.Tried.{IsDeal, IsDealt}
use Rattle.gmp_allowed.proofs.Adding.{added, both_added}
use Rattle.gmp_allowed.proofs.Deals.{plain}
use Rattle.gmp_allowed.proofs.Results.{on_ok}
use Rattle.gmp_allowed.proofs.dealing.of_plain.Goals as goal

pub returns : goal.returns
returns c =
    let a = c.args in
    let s = state_of a.last.now in
    let mid = c.of_case.new.out.items in
    let new = c.add_all.new.out.items in
    let rest : Reply → Type 0 = λ (r : Reply). Contains (reply.Waits ∷ reply.Fault fault.NoSuchChannel ∷ []) r in
    on_ok c.add_all.result
    (λ is. (both_added (IsDealt None a.case s) rest (IsDeal a.case s) a.out.now.items mid new c.in_ok-of_case.ensures
    (added rest mid new (reply.Waits ∷ reply.Fault fault.NoSuchChannel ∷ []) is (λ r among. among)) (plain a.case s)).each) c.add_all.ensures
