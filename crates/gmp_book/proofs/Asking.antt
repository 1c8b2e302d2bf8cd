-- What a call with a goroutine that runs does with it, and calls by which nothing moves.
use Rattle.std.proofs.Common.{◌≡◌, ◌⊎◌, ℕ, Bool, true, false, not, Option, None, Some, List, refl, sym, ap, ◌∙◌, inl, inr}
use Rattle.std.specs.Option.{option_map}
use native.Mathlib.Omega.{arith}
use Rattle.std.proofs.lemmas.Bool.Decides.{nat_tests}
use Rattle.std.proofs.lemmas.Bool.{and_parts, false≢true}
use Rattle.gmp_base.specs.declared.cases.Case.{Case}
use Rattle.gmp_base.specs.declared.cases.Case.TheVariants as case
use Rattle.gmp_base.specs.declared.number.GNo.{GNo}
use Rattle.gmp_base.specs.declared.number.MNo.{MNo}
use Rattle.gmp_base.specs.declared.refusal.Refusal.{Refusal}
use Rattle.gmp_base.specs.declared.value.Held.{Held}
use Rattle.gmp_base.specs.declared.value.Proc.{Proc}
use Rattle.gmp_base.specs.Values.{ticket_by}
use Rattle.gmp_seq.specs.declared.call.Call.{Call}
use Rattle.gmp_seq.specs.declared.call.Call.TheVariants as call
use Rattle.gmp_seq.specs.declared.call.Limits.{Limits}
use Rattle.gmp_seq.specs.declared.call.Reply.{Reply}
use Rattle.gmp_seq.specs.declared.call.Reply.TheVariants as reply
use Rattle.gmp_seq.specs.Machines.{Machines}
use Rattle.gmp_seq.specs.State.{State}
use Rattle.gmp_seq.specs.Step.{Deals, Effect, Selects, is_wait, ticket_in}
use Rattle.gmp_seq.specs.Table.{Table}
use Rattle.gmp_seq.specs.Needs.{WantsMemory}
use Rattle.gmp_journal.specs.Grants.{NeedsMemory}
use Rattle.gmp_journal.specs.Handed.{by_held, names_other}
use Rattle.gmp_journal.specs.Known.{known_by}
use Rattle.gmp_journal.specs.Refusals.{Says}
use Rattle.gmp_journal.proofs.Saying.{says_alone}
use Rattle.gmp_book.specs.declared.values.Values.{Values}
use Rattle.gmp_book.specs.declared.values.Way.{Way}
use Rattle.gmp_book.specs.declared.values.Way.TheVariants as way
use Rattle.gmp_book.specs.Book.{BookContents}
use Rattle.gmp_book.specs.Hands.{Hands, HandsOwner, way_of}
use Rattle.gmp_book.specs.Kinds.{gives_proc, hands_held, hands_proc, is_own, may_wait}
use Rattle.gmp_book.specs.Went as went
use Rattle.gmp_book.specs.Went.{GoesBy, IsOn, MovesBody, moved_of}
use Rattle.gmp_book.proofs.Moves.{BodyMoves, BothMove, OwnerMoves, moves}

pub clash : (b : Bool) → b ≡ true → b ≡ false → ⊥
clash b is not_ = false≢true (sym not_ ∙ is)

pub off : (b : Bool) → not b ≡ true → b ≡ false
off true e = absurd (false≢true e)
off false e = refl

-- a call that is given no memory is refused by its lines alone
pub plain : (c : Call) (limits : Limits) (s : State) (why answer : Option Refusal) → NeedsMemory c None → Says (WantsMemory limits c s) why answer → answer ≡ why
plain (call.Make capacity) limits s why answer needs says = absurd (false≢true needs)
plain _ limits s why answer needs says = says_alone why answer says

-- what is of no other run is of this
pub ours : {T : Type 0} (run : ℕ) (held : Held T) → names_other run (by_held held) ≡ false → held.run ≡ run
ours run held e = grind (arith, nat_tests)

-- Owners

-- no owner moves
owner_stays : {Q : Type 0} (c : Call) (m : MNo) (old new : Machines) (answer : Reply) (run : ℕ) (given back : Option (Proc Q)) (owners owners' : List (Option Q)) → hands_proc c ≡ false
    → (gives_proc c ≡ true → hands_held c ≡ false → ⊥) → OwnerMoves answer c m old new → HandsOwner answer run given back owners owners' → (back ≡ given) × (owners' ≡ owners)
owner_stays c m old new (reply.Proc p) run given back owners owners' in_ out h hands = absurd (out h.0 h.1)
owner_stays c m old new (reply.Runs p) run given back owners owners' in_ out h hands = absurd (out h.0 h.1)
owner_stays c m old new (reply.Entered p woken) run given back owners owners' in_ out h hands = absurd (clash _ h.0 in_)
owner_stays c m old new (reply.Idle p) run given back owners owners' in_ out h hands = absurd (clash _ h.0 in_)
owner_stays c m old new _ run given back owners owners' in_ out h hands = hands

-- Calls of a goroutine that runs

pub own_way : (w : Way) (c : Call) (m : MNo) (old new : Table) → is_own c ≡ true → BodyMoves w c m old new → (w ≡ way.Stays) ⊎ (w ≡ way.Home)
own_way way.Stays c m old new is moves = inl refl
own_way way.Home c m old new is moves = inr refl
own_way way.OutOfPlace c m old new is moves = absurd (clash (hands_held c) (and_parts (hands_held c) (not (hands_proc c)) is).0 moves.1)
own_way way.IntoCall c m old new is moves = absurd (clash (hands_proc c) moves.0 (off (hands_proc c) (and_parts (hands_held c) (not (hands_proc c)) is).1))
own_way way.OutOfCall c m old new is moves = absurd (clash (hands_held c) (and_parts (hands_held c) (not (hands_proc c)) is).0 moves.1)

pub own_known : (c : Call) (t : Table) → is_own c ≡ true → known_by c t ≡ None
own_known (call.Claim r) t is = absurd (false≢true is)
own_known (call.Leave number) t is = absurd (false≢true is)
own_known _ t is = refl

stays_wait : (answer : Reply) → way_of answer ≡ way.Stays → is_wait answer ≡ false
stays_wait reply.Waits e = let no : ⊥ = cc in absurd no
stays_wait _ e = refl

deals_home : (g : GNo) (c : Case) (answer : Reply) (old new : State) → Deals g c answer old new → way_of answer ≡ way.Home → answer ≡ reply.Waits
deals_home g c reply.Waits old new h home = refl
deals_home g c (reply.Sent to) old new h home = let no : ⊥ = cc in absurd no
deals_home g c (reply.Got v sent from) old new h home = let no : ⊥ = cc in absurd no
deals_home g c (reply.Fault f) old new h home = let no : ⊥ = cc in absurd no
deals_home g c _ old new h home = absurd h

selects_home : (g : GNo) (cases : List Case) (has_default : Bool) (until : Option ℕ) (answer : Reply) (old new : State) → Selects g cases has_default until answer old new
    → way_of answer ≡ way.Home → answer ≡ reply.Waits
selects_home g cases has_default until reply.Waits old new h home = refl
selects_home g cases has_default until (reply.Chose i told) old new h home = let no : ⊥ = cc in absurd no
selects_home g cases has_default until reply.Default old new h home = let no : ⊥ = cc in absurd no
selects_home g cases has_default until (reply.Fault f) old new h home = let no : ⊥ = cc in absurd no
selects_home g cases has_default until _ old new h home = absurd h

waits_home : (limits : Limits) (m : MNo) (c : Call) (answer : Reply) (old new : State) → may_wait c ≡ true → Effect limits m c answer old new → way_of answer ≡ way.Home → answer ≡ reply.Waits
waits_home limits m (call.Send c v) answer old new e h home = deals_home h.0 (case.Send c v) answer old new h.2 home
waits_home limits m (call.Recv c) answer old new e h home = deals_home h.0 (case.Recv c) answer old new h.2 home
waits_home limits m (call.Select cases has_default until) answer old new e h home = selects_home h.1.0 cases has_default until answer old new h.1.2 home
waits_home limits m _ answer old new e h home = absurd (false≢true e)

-- what becomes of the goroutine that asked, by what was handed out
pub record Asked {T Q : Type 0} (c : Call) (answer : Reply) (held : Held T) (back : Values T Q) (old now : BookContents T Q) : Type 0 where
  pub goes : GoesBy answer held (moved_of back.held back.ticket)
  pub moves : may_wait c ≡ true → went.Moves answer held (moved_of back.held back.ticket)
  pub body : MovesBody old now held (moved_of back.held back.ticket)

abbrev alone : {T Q : Type 0} → Held T → Values T Q
alone held = record { held = Some held; called = None; ticket = None; proc = None }

pub asked : {T Q : Type 0} (limits : Limits) (c : Call) (m : MNo) (answer : Reply) (held : Held T) (back : Values T Q) (old now : BookContents T Q) → is_own c ≡ true → held.run ≡ old.log.run
    → Effect limits m c answer old.log.state now.log.state → Hands c answer (alone held) back old now → Asked c answer held back old now
asked {T} {Q} limits c m answer held back old now is run effect hands = by_way (own_way (way_of answer) c m _ _ is moved.0) where
  moved : BothMove c answer m old.log.state now.log.state
  moved = moves limits m c answer old.log.state now.log.state effect

  owner : (back.proc ≡ None) × (now.owners ≡ old.owners)
  owner = owner_stays c m old.log.state.machines now.log.state.machines answer old.log.run None back.proc old.owners now.owners (off (hands_proc c) (and_parts (hands_held c) (not (hands_proc c)) is).1) (λ gives none. clash (hands_held c) (and_parts (hands_held c) (not (hands_proc c)) is).0 none) moved.1 hands.owner

  by_way : (way_of answer ≡ way.Stays) ⊎ (way_of answer ≡ way.Home) → Asked c answer held back old now
  by_way (inl e) =
      let stays = rw e at hands.body in
      let its = rw (own_known c old.log.state.table is) at stays.0 in
      let push = ap (λ (n : ℕ). option_map (ticket_by n) (ticket_in answer)) (sym run) in
      record {
        goes = rw (its, hands.ticket) (e, record { told = refl; push = push });
        moves = λ waits. rw (its, hands.ticket) (stays_wait answer e, record { told = refl; push = push });
        body = rw its (record { bodies = stays.2; owners = owner.1 });
      }
  by_way (inr e) =
      let home = rw e at hands.body in
      record {
        goes = rw home.0 e;
        moves = λ waits. rw home.0 (waits_home limits m c answer old.log.state now.log.state waits effect e);
        body = rw home.0 (record { bodies = home.2; owners = owner.1 });
      }
