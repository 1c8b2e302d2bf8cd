-- What the laws on fair machines count, of states that stand beside: claims by their entries, and the lines in which a ticket stands.
use Rattle.std.proofs.Common.{◌≡◌, ℕ, true, [], ◌∷◌, refl}
use Rattle.gmp_seq.specs.declared.call.Call.TheVariants as call
use Rattle.gmp_seq.specs.declared.call.Reply.TheVariants as reply
use Rattle.gmp_acts.specs.Headline.{opening_system}
use Rattle.gmp_acts.specs.System.{System}
use Rattle.gmp_fair.specs.Fair.{claims_of}
use Rattle.gmp_fair.specs.Waits.{claimed_past, lines_of}
use Rattle.gmp_test_rows.proofs.Traces.{entry, limits, machine, ticket}

-- At the opening main's ticket is on the shelf.
abbrev opening : System
opening = opening_system true 0 (limits 1 2 16 10000) 2 []

-- machine 0 made two claims, machine 1 one
abbrev claimed : System
claimed = record opening {
  book = record opening.book {
    history =
        entry 0 0 (call.Claim (ticket 1 1)) reply.Held ∷
        entry 0 1 call.Take reply.Nothing ∷
        entry 1 0 (call.Claim (ticket 2 1)) reply.Held ∷
        entry 0 2 (call.Claim (ticket 2 2)) reply.Held ∷
        [];
  };
}

-- goroutine 1's ticket is in the queue of processor 0
abbrev queued : System
queued = record opening { queues = (ticket 1 1 ∷ []) ∷ [] }

claims_count : (claims_of opening (machine 0) ≡ 0) × (claims_of claimed (machine 0) ≡ 2) × (claims_of claimed (machine 1) ≡ 1)
claims_count = (refl, refl, refl)

-- by goroutine and by epoch
lines_count : (lines_of (ticket 0 1) opening ≡ 1) × (lines_of (ticket 0 2) opening ≡ 0) × (lines_of (ticket 1 1) opening ≡ 0) × (lines_of (ticket 1 1) queued ≡ 1)
lines_count = (refl, refl, refl, refl)

-- Claims count while the ticket stands in a line at the beginning of the act, and no others.
past_count : (claimed_past (machine 0) (ticket 0 1) opening claimed ≡ 2) × (claimed_past (machine 1) (ticket 0 1) opening claimed ≡ 1) × (claimed_past (machine 0) (ticket 1 1) opening claimed ≡ 0)
past_count = (refl, refl, refl)
