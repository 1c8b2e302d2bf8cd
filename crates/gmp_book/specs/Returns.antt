-- What becomes of a goroutine that comes back from a blocking call, and of its machine's processor.
use Rattle.std.specs.Prelude.{◌≡◌, ℕ, Some, false, is_none, position, slice_set}
use Rattle.gmp_base.specs.declared.ask.Woke.TheVariants as woke
use Rattle.gmp_base.specs.declared.number.GNo.{GNo}
use Rattle.gmp_base.specs.declared.value.Called.{Called}
use Rattle.gmp_seq.specs.declared.call.Reply.{Reply}
use Rattle.gmp_seq.specs.declared.call.Reply.TheVariants as reply
use Rattle.gmp_seq.specs.Machines.{Machines, some_idle}
use Rattle.gmp_seq.specs.Table.{Table, next_of}
use Rattle.gmp_book.specs.declared.returned.Returned.{Returned}
use Rattle.gmp_book.specs.declared.returned.Returned.TheVariants.{Runs, Shelved}
use Rattle.gmp_book.specs.Book.{BookContents, HandsOutOwner}

-- What a caller is answered

-- the reply, of the goroutine g
abbrev pub leave_reply : {T Q : Type 0} → Table → GNo → Returned T Q → Reply
leave_reply t g (Runs held proc) = reply.Runs proc.p
leave_reply t g Shelved = reply.Shelved (next_of t g)

-- the body of called is back in its place
pub record TakesBackCalled {T Q : Type 0} (old now : BookContents T Q) (called : Called T) : Type 0 where
  pub bodies : now.bodies ≡ slice_set old.bodies called.g.0 (Some called.body)
  pub owners : now.owners ≡ old.owners

-- The goroutine runs on with its body and is told the number, and the owner of its processor is handed out; or its body is back in its
-- place.
abbrev pub ComesBack : {T Q : Type 0} → BookContents T Q → BookContents T Q → Called T → ℕ → Returned T Q → Type 0
ComesBack old now called number (Runs held proc) =
    (held ≡ record { run = called.run; g = called.g; woke = woke.Number number; body = called.body }) × HandsOutOwner old now proc
ComesBack old now called number Shelved = TakesBackCalled old now called

-- it runs on exactly where an active processor was idle, with the least of these
abbrev pub ByLeast : {T Q : Type 0} → Machines → Returned T Q → Type 0
ByLeast w (Runs held proc) = position is_none w.holders ≡ Some proc.p.0
ByLeast w Shelved = some_idle w ≡ false
