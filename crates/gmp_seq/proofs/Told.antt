-- What goroutines are told.
use Rattle.std.proofs.Common.{◌≡◌, ℕ, Bool, false, cond, Option, refl}
use Rattle.gmp_base.specs.declared.ask.Fault.TheVariants.{SendOnClosed}
use Rattle.gmp_base.specs.declared.number.Readiness.{Readiness}
use Rattle.gmp_seq.specs.declared.call.Relay.{Relay}
use Rattle.gmp_seq.specs.declared.call.Reply.TheVariants as reply
use Rattle.gmp_seq.specs.declared.call.Taken.TheVariants as taken
use Rattle.gmp_seq.specs.declared.status.Deal.{Deal}
use Rattle.gmp_seq.specs.declared.status.Deal.TheVariants as deal
use Rattle.gmp_seq.specs.declared.status.Direction.TheVariants.{Sending, Receiving}
use Rattle.gmp_seq.specs.declared.status.Kind.{Kind}
use Rattle.gmp_seq.specs.declared.status.Kind.TheVariants as kind
use Rattle.gmp_seq.specs.declared.status.Offer.{Offer}
use Rattle.gmp_seq.specs.declared.status.Waiter.{Waiter}
use Rattle.gmp_seq.specs.Step.{woke_after}
use Rattle.gmp_seq.specs.Waits.{is_select, direction_of, sender_answer, receiver_answer, closed_answer}

-- a sender that waited
pub sender_alike : (w : Waiter) (to : Option Readiness) → sender_answer w ≡ woke_after (cond (is_select w.kind) (reply.Chose w.offer.case (taken.Sent to)) (reply.Sent to))
sender_alike w to = by_kind w.kind w.offer where
  by_kind : (why : Kind) (o : Offer) → sender_answer (record { g = w.g; arrival = w.arrival; kind = why; offer = o }) ≡ woke_after (cond (is_select why) (reply.Chose o.case (taken.Sent to)) (reply.Sent to))
  by_kind kind.Select o = refl
  by_kind _ o = refl

-- a receiver that waited
pub receiver_alike : (why : Kind) (o : Offer) (v : ℕ) (sent : Bool) (from : Option Relay)
    → receiver_answer why o v sent ≡ woke_after (cond (is_select why) (reply.Chose o.case (taken.Got v sent from)) (reply.Got v sent from))
receiver_alike kind.Select o v sent from = refl
receiver_alike _ o v sent from = refl

closed_deal : (why : Kind) (o : Offer) (d : Deal) → o.deal ≡ d → direction_of d ≡ Receiving → closed_answer why o ≡ receiver_answer why o 0 false
closed_deal why o deal.Receive is e = rw is refl
closed_deal why o (deal.Send v) is e = absurd cc

-- a receiver whose channel is closed
pub closed_receiver : (why : Kind) (o : Offer) → direction_of o.deal ≡ Receiving → closed_answer why o ≡ receiver_answer why o 0 false
closed_receiver why o e = closed_deal why o o.deal refl e

closed_send : (why : Kind) (o : Offer) (d : Deal) → o.deal ≡ d → direction_of d ≡ Sending → closed_answer why o ≡ woke_after (reply.Fault SendOnClosed)
closed_send why o (deal.Send v) is e = rw is refl
closed_send why o deal.Receive is e = absurd cc

-- a sender whose channel is closed
pub closed_sender : (why : Kind) (o : Offer) → direction_of o.deal ≡ Sending → closed_answer why o ≡ woke_after (reply.Fault SendOnClosed)
closed_sender why o e = closed_send why o o.deal refl e
