-- Who waits on a channel, in either direction, and what the order of those who wait rests on.
use Rattle.std.specs.Prelude.{ℕ, ◌==◌, ◌&&◌, nat_lt, Bool, true, List, [], ◌∷◌, Some}
use Rattle.std.specs.List.{list_all}
use Rattle.gmp_base.specs.declared.number.CNo.{CNo}
use Rattle.gmp_seq.specs.declared.status.Offer.{Offer}
use Rattle.gmp_seq.specs.declared.status.Waiter.{Waiter}
use Rattle.gmp_seq.specs.Channels.{Channel, names_no_missing}

-- is the offer on this channel
abbrev pub is_at : CNo → Waiter → Bool
is_at c w = w.offer.channel.0 == c.0

-- is this arrival later than those of all who wait
abbrev pub is_later : ℕ → List Waiter → Bool
is_later arrival all = list_all (λ (w : Waiter). nat_lt w.arrival arrival) all

-- are all of a later case than i
abbrev pub above : ℕ → List Offer → Bool
above i offers = list_all (λ (o : Offer). nat_lt i o.case) offers

-- do the offers rise by their cases
abbrev pub rise : List Offer → Bool
rise [] = true
rise (o ∷ offers) = above o.case offers && rise offers

-- is each offer on a channel that was made
abbrev pub are_made : List Channel → List Offer → Bool
are_made channels offers = list_all (λ (o : Offer). names_no_missing channels (Some o.channel)) offers
