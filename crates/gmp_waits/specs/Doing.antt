-- What a goroutine does, in words.
use Rattle.std.specs.Prelude.{ℕ, Option, None, Some, List, [], ◌∷◌, ◌++◌, codes, decimal}
use Rattle.gmp_seq.specs.declared.status.Deal.{Deal}
use Rattle.gmp_seq.specs.declared.status.Deal.TheVariants as deal
use Rattle.gmp_seq.specs.declared.status.Kind.{Kind}
use Rattle.gmp_seq.specs.declared.status.Kind.TheVariants as kind
use Rattle.gmp_seq.specs.declared.status.Offer.{Offer}
use Rattle.gmp_seq.specs.declared.status.TicketPlace.TheVariants.{Shelf, Out}
use Rattle.gmp_seq.specs.declared.status.Status.{Status}
use Rattle.gmp_seq.specs.declared.status.Status.TheVariants as status
use Rattle.gmp_seq.specs.declared.status.Wait.{Wait}

-- a communication that is waited for
abbrev pub dealing_text : Offer → List ℕ
dealing_text o = text o.deal where
  text : Deal → List ℕ
  text (deal.Send v) = codes "send " ++ (decimal v ++ (codes " on channel " ++ decimal o.channel.0))
  text deal.Receive = codes "receive from channel " ++ decimal o.channel.0

-- a plain send or receive has one offer, and on nil none
abbrev pub plain_text : List Offer → List ℕ
plain_text [] = codes "waits on nil"
plain_text (offer ∷ offers) = codes "waits to " ++ dealing_text offer

-- a select without a deadline
abbrev pub select_text : List Offer → List ℕ
select_text [] = codes "waits in a select that has nothing but nil"
select_text (offer ∷ offers) = codes "waits in a select"

-- what is waited for, by the kind of wait and its deadline
abbrev pub wait_text : Wait → List ℕ
wait_text w = text w.kind w.until where
  text : Kind → Option ℕ → List ℕ
  text kind.Parked until = codes "waits for a ready"
  text kind.Sleep (Some until) = codes "sleeps until " ++ decimal until
  text kind.Sleep None = codes "sleeps"
  text kind.Plain until = plain_text w.offers
  text kind.Select (Some until) = codes "waits in a select until " ++ decimal until
  text kind.Select None = select_text w.offers

-- what a goroutine does
abbrev pub doing_text : Status → List ℕ
doing_text status.Dormant = codes "never started"
doing_text (status.Ready Shelf answer) = codes "ready, its ticket on the shelf"
doing_text (status.Ready Out answer) = codes "ready, its ticket given out and not claimed"
doing_text (status.Running m) = codes "runs on machine " ++ decimal m.0
doing_text (status.Calling m) = codes "in a blocking call of machine " ++ decimal m.0
doing_text (status.Waiting w) = wait_text w
doing_text status.Dead = codes "ended"
