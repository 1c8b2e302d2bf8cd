use Rattle.gmp_book.proofs.InHand.{owner_out, owner_stays}
use Rattle.gmp_book.proofs.in_hand.settle_owner_in.Goals as goal

pub returns-in_default : goal.returns-in_default
returns-in_default g c =
    let a = c.args in
    let none = c.in_default in
    owner_stays a.run a.reply.now a.is_handed a.processor.now a.owners.now none.not-Proc none.not-Runs none.not-Entered none.not-Idle

pub returns-in-Proc : goal.returns-in-Proc
returns-in-Proc g c =
    let a = c.args in
    owner_out a.run a.reply.now a.is_handed c.in-Proc.p a.processor.now c.take_owner.new.processor a.owners.now c.take_owner.new.owners c.in-Proc.is c.take_owner.ensures
