-- Bodies and owners stay where they are by calls that move nothing.
use Rattle.std.proofs.Common.{◌≡◌, ℕ, true, false, Option, None, List, refl, subst}
use Rattle.std.proofs.lemmas.Bool.{false≢true}
use Rattle.gmp_base.specs.declared.ask.Woke.{Woke}
use Rattle.gmp_base.specs.declared.number.GNo.{GNo}
use Rattle.gmp_base.specs.declared.number.MNo.{MNo}
use Rattle.gmp_seq.specs.declared.call.Call.{Call}
use Rattle.gmp_seq.specs.declared.call.Call.TheVariants as call
use Rattle.gmp_seq.specs.declared.call.Reply.{Reply}
use Rattle.gmp_seq.specs.declared.call.Reply.TheVariants as reply
use Rattle.gmp_seq.specs.Machines.{Machines}
use Rattle.gmp_seq.specs.Step.{Effect}
use Rattle.gmp_base.specs.declared.value.Held.{Held}
use Rattle.gmp_seq.specs.Table.{Table}
use Rattle.gmp_book.specs.declared.values.Way.{Way}
use Rattle.gmp_book.specs.declared.values.Way.TheVariants as way
use Rattle.gmp_base.specs.declared.value.Called.{Called}
use Rattle.gmp_base.specs.declared.value.Proc.{Proc}
use Rattle.gmp_book.specs.declared.values.Values.{Values}
use Rattle.gmp_book.specs.Book.{BookContents, SameValues}
use Rattle.gmp_book.specs.Hands.{Hands, HandsBody, HandsOwner, claimed, way_of}
use Rattle.gmp_book.specs.Kinds.{gives_body, gives_proc, moves_nothing}
use Rattle.gmp_book.proofs.Asking.{clash}
use Rattle.gmp_book.proofs.Moves.{BodyMoves, OwnerMoves, moves}

gives_none : (c : Call) → moves_nothing c ≡ true → (gives_body c ≡ false) × (gives_proc c ≡ false)
gives_none call.Acquire is = absurd (false≢true is)
gives_none (call.Leave number) is = absurd (false≢true is)
gives_none (call.Claim r) is = absurd (false≢true is)
gives_none _ is = (refl, refl)

-- bodies and owners stay where they are
body_kept : {T : Type 0} (w : Way) (c : Call) (m : MNo) (old new : Table) (run : ℕ) (g : GNo) (told : Woke) (held : Option (Held T)) (called : Option (Called T)) (bodies bodies' : List (Option T))
    → moves_nothing c ≡ true → BodyMoves w c m old new → HandsBody w run g told None None held called bodies bodies' → bodies' ≡ bodies
body_kept way.OutOfPlace c m old new run g told held called bodies bodies' is moves h = absurd (clash (gives_body c) moves.0 (gives_none c is).0)
body_kept way.Stays c m old new run g told held called bodies bodies' is moves h = h.2
body_kept way.Home c m old new run g told held called bodies bodies' is moves h = h.2
body_kept way.IntoCall c m old new run g told held called bodies bodies' is moves h = h.2
body_kept way.OutOfCall c m old new run g told held called bodies bodies' is moves h = h.2

owner_kept : {Q : Type 0} (answer : Reply) (c : Call) (m : MNo) (old new : Machines) (run : ℕ) (back : Option (Proc Q)) (owners owners' : List (Option Q))
    → moves_nothing c ≡ true → OwnerMoves answer c m old new → HandsOwner answer run None back owners owners' → owners' ≡ owners
owner_kept (reply.Proc p) c m old new run back owners owners' is moves h = absurd (clash (gives_proc c) moves.0 (gives_none c is).1)
owner_kept (reply.Runs p) c m old new run back owners owners' is moves h = absurd (clash (gives_proc c) moves.0 (gives_none c is).1)
owner_kept (reply.Entered p woken) c m old new run back owners owners' is moves h = h.1
owner_kept (reply.Idle p) c m old new run back owners owners' is moves h = h.1
owner_kept _ c m old new run back owners owners' is moves h = h.1

pub values_kept : {T Q : Type 0} (c : Call) (answer : Reply) (given back : Values T Q) (old now : BookContents T Q) (m : MNo) → moves_nothing c ≡ true
    → given ≡ record { held = None; called = None; ticket = None; proc = None } → Effect old.log.limits m c answer old.log.state now.log.state → Hands c answer given back old now → SameValues old now
values_kept c answer given back old now m is none effect hands =
    let moved = moves old.log.limits m c answer old.log.state now.log.state effect in
    let h : Hands c answer (record { held = None; called = None; ticket = None; proc = None }) back old now = subst (λ (v : Values _ _). Hands c answer v back old now) none hands in
    record {
      bodies = body_kept (way_of answer) c m old.log.state.table now.log.state.table old.log.run (claimed c) _ back.held back.called old.bodies now.bodies is moved.0 h.body;
      owners = owner_kept answer c m old.log.state.machines now.log.state.machines old.log.run back.proc old.owners now.owners is moved.1 h.owner;
    }
