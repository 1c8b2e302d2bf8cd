-- What a call does with the values that it is handed: one relation for all calls.
use Rattle.std.specs.Prelude.{◌≡◌, ℕ, Bool, true, false, Option, None, Some, List, slice_get, slice_set, unwrap_or}
use Rattle.std.specs.Option.{option_map}
use Rattle.gmp_base.specs.declared.ask.Woke.{Woke}
use Rattle.gmp_base.specs.declared.ask.Woke.TheVariants as woke
use Rattle.gmp_base.specs.declared.number.GNo.{GNo}
use Rattle.gmp_base.specs.declared.number.PNo.{PNo}
use Rattle.gmp_base.specs.declared.refusal.Refusal.{Refusal}
use Rattle.gmp_base.specs.declared.refusal.Refusal.TheVariants.{OutOfMemory}
use Rattle.gmp_base.specs.declared.value.Called.{Called}
use Rattle.gmp_base.specs.declared.value.Held.{Held}
use Rattle.gmp_base.specs.declared.value.Proc.{Proc}
use Rattle.gmp_base.specs.declared.value.Ticket.{Ticket}
use Rattle.gmp_base.specs.Values.{readiness_of, ticket_by}
use Rattle.gmp_seq.specs.declared.call.Call.{Call}
use Rattle.gmp_seq.specs.declared.call.Call.TheVariants as call
use Rattle.gmp_seq.specs.declared.call.Reply.{Reply}
use Rattle.gmp_seq.specs.declared.call.Reply.TheVariants as reply
use Rattle.gmp_seq.specs.Step.{ticket_in, woke_after}
use Rattle.gmp_book.specs.Slots.{is_filled, is_vacant}
use Rattle.gmp_journal.specs.declared.handed.Handed.{Handed}
use Rattle.gmp_journal.specs.Known.{known_by}
use Rattle.gmp_book.specs.declared.values.Values.{Values}
use Rattle.gmp_book.specs.declared.values.Way.{Way}
use Rattle.gmp_book.specs.declared.values.Way.TheVariants.{Stays, Home, OutOfPlace, IntoCall, OutOfCall}
use Rattle.gmp_book.specs.Book.{BookContents}

-- What the values are of

abbrev pub handed_of : {T Q : Type 0} → Values T Q → Handed
handed_of {T} {Q} v = record {
  ticket = option_map (λ (t : Ticket). (t.run, readiness_of t)) v.ticket;
  held = option_map (λ (h : Held T). (h.run, h.g)) v.held;
  called = option_map (λ (c : Called T). (c.run, c.g)) v.called;
  proc = option_map (λ (x : Proc Q). (x.run, x.p)) v.proc;
}

-- Bodies

-- where the body goes by a reply
abbrev pub way_of : Reply → Way
way_of reply.Held = OutOfPlace
way_of (reply.Shelved r) = Home
way_of reply.Waits = Home
way_of reply.Dead = Home
way_of reply.MainEnded = Home
way_of (reply.Entered p woken) = IntoCall
way_of (reply.Runs p) = OutOfCall
way_of _ = Stays

-- the goroutine that a claim is of
abbrev pub claimed : Call → GNo
claimed (call.Claim r) = r.g
claimed _ = record { 0 = 0 }

-- what the goroutine is told that goes on by the reply
abbrev pub told_by : Option Woke → Reply → Woke
told_by known answer = unwrap_or known (woke_after answer)

-- the bodies once the one that is handed in is in its place
abbrev pub with_home : {T : Type 0} → Option (Held T) → Option (Called T) → List (Option T) → List (Option T)
with_home (Some h) called bodies = slice_set bodies h.g.0 (Some h.body)
with_home None (Some c) bodies = slice_set bodies c.g.0 (Some c.body)
with_home None None bodies = bodies

-- the body goes this way: the bodies in the book, what is handed in, and what is handed out
abbrev pub HandsBody : {T : Type 0} → Way → ℕ → GNo → Woke → Option (Held T) → Option (Called T) → Option (Held T) → Option (Called T) → List (Option T) → List (Option T) → Type 0
HandsBody {T} Stays run g told held called held' called' old new = (held' ≡ option_map (λ (h : Held T). record h { woke = told }) held) × (called' ≡ called) × (new ≡ old)
HandsBody {T} Home run g told held called held' called' old new = (held' ≡ None) × (called' ≡ None) × (new ≡ with_home held called old)
HandsBody {T} OutOfPlace run g told held called held' called' old new =
    (body : T) × (held' ≡ Some (record { run = run; g = g; woke = told; body = body })) × (called' ≡ called) × (slice_get old g.0 ≡ Some (Some body)) × (new ≡ slice_set old g.0 None)
HandsBody {T} IntoCall run g told held called held' called' old new =
    (held' ≡ None) × (called' ≡ option_map (λ (h : Held T). let c : Called T = record { run = h.run; g = h.g; body = h.body } in c) held) × (new ≡ old)
HandsBody {T} OutOfCall run g told held called held' called' old new =
    (held' ≡ option_map (λ (c : Called T). let h : Held T = record { run = c.run; g = c.g; woke = told; body = c.body } in h) called) × (called' ≡ None) × (new ≡ old)

-- its place is vacant
abbrev pub FitsHome : {T : Type 0} → Option (Held T) → Option (Called T) → List (Option T) → Type 0
FitsHome (Some h) None bodies = is_vacant bodies h.g.0 ≡ true
FitsHome (Some h) (Some c) bodies = ⊥
FitsHome None (Some c) bodies = is_vacant bodies c.g.0 ≡ true
FitsHome None None bodies = Unit {0}

-- what is handed in can go that way
abbrev pub FitsBody : {T : Type 0} → Way → GNo → Option (Held T) → Option (Called T) → List (Option T) → Type 0
FitsBody Stays g held called bodies = Unit {0}
FitsBody Home g held called bodies = FitsHome held called bodies
FitsBody OutOfPlace g held called bodies = (held ≡ None) × (is_filled bodies g.0 ≡ true)
FitsBody IntoCall g held called bodies = called ≡ None
FitsBody OutOfCall g held called bodies = held ≡ None

-- Owners

-- the processor's owner comes out of its place
abbrev pub OwnerOut : {Q : Type 0} → PNo → ℕ → Option (Proc Q) → List (Option Q) → List (Option Q) → Type 0
OwnerOut {Q} p run back old new =
    (owner : Q) × (back ≡ Some (record { run = run; p = p; owner = owner })) × (slice_get old p.0 ≡ Some (Some owner)) × (new ≡ slice_set old p.0 None)

-- the owners once the one that is handed in is in its place
abbrev pub with_owner : {Q : Type 0} → Option (Proc Q) → List (Option Q) → List (Option Q)
with_owner (Some x) owners = slice_set owners x.p.0 (Some x.owner)
with_owner None owners = owners

-- the owner goes as the reply says
abbrev pub HandsOwner : {Q : Type 0} → Reply → ℕ → Option (Proc Q) → Option (Proc Q) → List (Option Q) → List (Option Q) → Type 0
HandsOwner (reply.Proc p) run given back old new = OwnerOut p run back old new
HandsOwner (reply.Runs p) run given back old new = OwnerOut p run back old new
HandsOwner (reply.Entered p woken) run given back old new = (back ≡ None) × (new ≡ with_owner given old)
HandsOwner (reply.Idle p) run given back old new = (back ≡ None) × (new ≡ with_owner given old)
HandsOwner _ run given back old new = (back ≡ given) × (new ≡ old)

-- its place is vacant
abbrev pub HasVacantPlace : {Q : Type 0} → Option (Proc Q) → List (Option Q) → Type 0
HasVacantPlace None owners = Unit {0}
HasVacantPlace (Some x) owners = is_vacant owners x.p.0 ≡ true

abbrev pub FitsOwner : {Q : Type 0} → Reply → Option (Proc Q) → List (Option Q) → Type 0
FitsOwner (reply.Proc p) given owners = (given ≡ None) × (is_filled owners p.0 ≡ true)
FitsOwner (reply.Runs p) given owners = (given ≡ None) × (is_filled owners p.0 ≡ true)
FitsOwner (reply.Entered p woken) given owners = HasVacantPlace given owners
FitsOwner (reply.Idle p) given owners = HasVacantPlace given owners
FitsOwner _ given owners = Unit {0}

-- Refused

-- what comes back of a make that was refused: where it wanted memory, its goroutine is told so
abbrev pub handed_back : {T : Type 0} → Refusal → Held T → Held T
handed_back OutOfMemory held = record held { woke = woke.NoMemory }
handed_back _ held = held

abbrev pub is_make : Call → Bool
is_make (call.Make capacity) = true
is_make _ = false

-- the goroutine of such a call
abbrev pub held_back : {T : Type 0} → Call → Refusal → Held T → Held T
held_back (call.Make capacity) why held = handed_back why held
held_back _ why held = held

abbrev pub back_where : {T Q : Type 0} → Bool → Refusal → Values T Q → Values T Q
back_where true why v = record v { held = option_map (handed_back why) v.held }
back_where false why v = v

-- the values come back as they were, but for the goroutine of a make
abbrev pub values_back : {T Q : Type 0} → Call → Refusal → Values T Q → Values T Q
values_back c why v = back_where (is_make c) why v

-- Together

-- What an accepted call does with the values that it is handed, those that it hands out, and those in the book.
pub record Hands {T Q : Type 0} (asked : Call) (answer : Reply) (given back : Values T Q) (old now : BookContents T Q) : Type 0 where
  pub ticket : back.ticket ≡ option_map (ticket_by old.log.run) (ticket_in answer)
  pub body : HandsBody (way_of answer) old.log.run (claimed asked) (told_by (known_by asked old.log.state.table) answer) given.held given.called back.held back.called old.bodies now.bodies
  pub owner : HandsOwner answer old.log.run given.proc back.proc old.owners now.owners
