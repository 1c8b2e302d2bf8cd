use Rattle.std.proofs.Common.{[], ◌∷◌, None, Contains}
use Rattle.gmp_seq.specs.declared.call.Reply.{Reply}
use Rattle.gmp_seq.specs.declared.call.Reply.TheVariants as reply
use Rattle.gmp_allowed.specs.declared.numbered.Naming.TheVariants as naming
use Rattle.gmp_allowed.specs.Tried.{Before, IsEntered, IsNamed}
use Rattle.gmp_allowed.proofs.Adding.{added, both_added}
use Rattle.gmp_allowed.proofs.Results.{on_ok}
use Rattle.gmp_allowed.proofs.Tries.{entered_here}
use Rattle.gmp_allowed.proofs.numbered.of_entered.Goals as goal

pub returns : goal.returns
returns c = λ holders at.
    let a = c.args in
    let none : Reply → Type 0 = λ (r : Reply). Contains (reply.Entered c.processor_at.result None ∷ []) r in
    let named : Reply → Type 0 = λ (r : Reply). Before (IsNamed (naming.Entered c.processor_at-2.result)) a.machines r in
    let out = a.out.now.items in
    let mid = c.add.new.out.items in
    on_ok c.of_numbers.result
    (λ more.
    both_added none named (IsEntered a.m a.machines holders a.p) out mid c.of_numbers.new.out.items (added none out mid (reply.Entered c.processor_at.result None ∷ []) c.in_ok-add.ensures (λ r among. among)) more
    (λ r. entered_here a.m a.machines holders a.p c.processor_at.result c.processor_at-2.result r c.processor_at.ensures c.processor_at-2.ensures)) c.of_numbers.ensures
