-- What a call of machines alone is answered, but for what the scheduler chooses.
use Rattle.std.proofs.Common.{◌≡◌, ℕ, Bool, true, false, cond, None, Some, nat_lt, take, refl, sym, ap, ◌∙◌}
use Rattle.std.proofs.lemmas.Bool.{false≢true}
use Rattle.std.specs.List.{slice_get}
use Rattle.std.specs.Option.{is_none, option_map_or}
use Rattle.gmp_base.specs.declared.ask.Fault.TheVariants as fault
use Rattle.gmp_base.specs.declared.number.MNo.{MNo}
use Rattle.gmp_base.specs.declared.number.PNo.{PNo}
use Rattle.gmp_seq.proofs.Asleep.{fails_at}
use Rattle.gmp_seq.proofs.Needed.{row_taken}
use Rattle.gmp_seq.specs.declared.call.Call.TheVariants as call
use Rattle.gmp_seq.specs.declared.call.Reply.{Reply}
use Rattle.gmp_seq.specs.declared.call.Reply.TheVariants as reply
use Rattle.gmp_seq.specs.Machines
use Rattle.gmp_step_laws.proofs.Alike.{AreAlike}

-- a test doesn't come out both ways
pub both_ways : {b : Bool} → b ≡ true → b ≡ false → ⊥
both_ways passes fails = false≢true (sym fails ∙ passes)

-- an idle processor that is active is some
pub open_none : (w : Machines.Machines) (p : PNo) → Machines.some_idle w ≡ false → Machines.IsOpen w p → ⊥
open_none w p none (idle, active) = false≢true (sym (fails_at is_none (take w.active w.holders) p.0 None none (row_taken w.active w.holders p.0 None active idle)))

-- a parked machine is some
pub parked_none : (w : Machines.Machines) (n : MNo) → Machines.some_parked w ≡ false → Machines.IsParked w n → ⊥
parked_none w n none parked = false≢true (sym (fails_at Machines.is_parked_mode w.modes n.0 _ none parked))

pub acquires_one : (m : MNo) (answer too : Reply) (old a b : Machines.Machines) → Machines.Acquires m answer old a → Machines.Acquires m too old b → AreAlike call.Acquire answer too
    → answer ≡ too
acquires_one m (reply.Proc p) (reply.Proc q) old a b h k alike = ap reply.Proc alike
acquires_one m reply.Nothing reply.Nothing old a b h k alike = refl
acquires_one m (reply.Proc p) reply.Nothing old a b h k alike = absurd (open_none old p k.2 h.2)
acquires_one m reply.Nothing (reply.Proc q) old a b h k alike = absurd (open_none old q h.2 k.2)
acquires_one m (reply.Proc p) _ old a b h k alike = absurd k
acquires_one m reply.Nothing _ old a b h k alike = absurd k
acquires_one m _ too old a b h k alike = absurd h

pub pokes_one : (m : MNo) (answer too : Reply) (old a b : Machines.Machines) → Machines.Pokes m answer old a → Machines.Pokes m too old b → AreAlike call.Poke answer too
    → answer ≡ too
pokes_one m (reply.Wakes n) (reply.Wakes o) old a b h k alike = ap reply.Wakes alike
pokes_one m reply.Nothing reply.Nothing old a b h k alike = refl
pokes_one m (reply.Wakes n) reply.Nothing old a b h k alike = absurd (both_ways h.1 k.1)
pokes_one m reply.Nothing (reply.Wakes o) old a b h k alike = absurd (both_ways k.1 h.1)
pokes_one m (reply.Wakes n) _ old a b h k alike = absurd k
pokes_one m reply.Nothing _ old a b h k alike = absurd k
pokes_one m _ too old a b h k alike = absurd h

-- m holds one processor at most
abbrev pub HoldsOne : Machines.Machines → MNo → Type 0
HoldsOne w m = (p q : PNo) → Machines.Holds w m p → Machines.Holds w m q → p ≡ q

pub enters_one : (m : MNo) (answer too : Reply) (old a b : Machines.Machines) → HoldsOne old m → Machines.Enters m answer old a → Machines.Enters m too old b → AreAlike call.Enter answer too
    → answer ≡ too
enters_one m (reply.Entered p None) (reply.Entered q None) old a b one h k alike = ap (λ (x : PNo). reply.Entered x None) (one p q h.0 k.0)
enters_one m (reply.Entered p (Some n)) (reply.Entered q (Some o)) old a b one h k alike =
    ap (λ (x : PNo). reply.Entered x (Some n)) (one p q h.0 k.0) ∙ ap (λ (x : MNo). reply.Entered q (Some x)) alike
enters_one m (reply.Entered p None) (reply.Entered q (Some o)) old a b one h k alike = absurd (parked_none old o h.1 k.1)
enters_one m (reply.Entered p (Some n)) (reply.Entered q None) old a b one h k alike = absurd (parked_none old n k.1 h.1)
enters_one m (reply.Entered p None) _ old a b one h k alike = absurd k
enters_one m (reply.Entered p (Some n)) _ old a b one h k alike = absurd k
enters_one m _ too old a b one h k alike = absurd h

pub keeps_one : (m : MNo) (answer too : Reply) (old a b : Machines.Machines) → HoldsOne old m → Machines.MayKeep m answer old a → Machines.MayKeep m too old b → answer ≡ too
keeps_one m (reply.Answer x) (reply.Answer y) old a b one (awake, p, holds, told, is) (awake_too, q, holds_too, told_too, is_too) =
    ap reply.Answer (told ∙ ap (λ (z : PNo). nat_lt z.0 old.active) (one p q holds holds_too) ∙ sym told_too)
keeps_one m (reply.Answer x) _ old a b one h k = absurd k
keeps_one m _ too old a b one h k = absurd h

pub declares_one : (m : MNo) (answer too : Reply) (old a b : Machines.Machines) → HoldsOne old m → Machines.Declares m answer old a → Machines.Declares m too old b → answer ≡ too
declares_one m (reply.Idle p) (reply.Idle q) old a b one h k = ap reply.Idle (one p q h.1 k.1)
declares_one m (reply.Idle p) _ old a b one h k = absurd k
declares_one m _ too old a b one h k = absurd h

pub spins_told : (m : MNo) (answer : Reply) (old a : Machines.Machines) → Machines.Spins m answer old a → answer ≡ reply.Answer (Machines.may_spin old m)
spins_told m (reply.Answer true) old a (awake, may, is) = ap reply.Answer (sym may)
spins_told m (reply.Answer false) old a (awake, may, is) = ap reply.Answer (sym may)
spins_told m _ old a h = absurd h

pub unspins_told : (m : MNo) (answer : Reply) (old a : Machines.Machines) → Machines.Unspins m answer old a → answer ≡ reply.Done
unspins_told m reply.Done old a h = refl
unspins_told m _ old a h = absurd h

pub bares_told : (m : MNo) (answer : Reply) (old a : Machines.Machines) → Machines.Bares m answer old a → answer ≡ reply.Done
bares_told m reply.Done old a h = refl
bares_told m _ old a h = absurd h

pub looks_told : (m : MNo) (answer : Reply) (old a : Machines.Machines) → Machines.Looks m answer old a
    → answer ≡ reply.Answer (option_map_or Machines.is_awake_mode (slice_get old.modes m.0) false)
looks_told m (reply.Answer true) old a (awake, is) = rw awake refl
looks_told m (reply.Answer false) old a (parked, is) = rw parked refl
looks_told m _ old a h = absurd h

pub sets_told : (n : ℕ) (answer : Reply) (old a : Machines.Machines) → Machines.Sets n answer old a
    → answer ≡ cond (Machines.is_good_number old n) (reply.Number old.active) (reply.Fault fault.BadProcs)
sets_told n (reply.Number before) old a (good, is, after) = rw good (ap reply.Number is)
sets_told n (reply.Fault fault.BadProcs) old a (bad, is) = rw bad refl
sets_told n _ old a h = absurd h
