-- What one call changes of machines: of the one that made it, and of the others.
use Rattle.std.proofs.Common.{◌≡◌, ◌≢◌, ◌⊎◌, inl, inr, ℕ, Bool, true, false, Option, None, Some, List, set, refl, sym, ap, subst, ◌∙◌}
use Rattle.std.specs.Option.{unwrap_or}
use Rattle.std.specs.List.{slice_get}
use Rattle.gmp_base.specs.declared.ask.Fault.TheVariants as fault
use Rattle.gmp_base.specs.declared.number.GNo.{GNo}
use Rattle.gmp_base.specs.declared.number.MNo.{MNo}
use Rattle.gmp_base.specs.declared.number.PNo.{PNo}
use Rattle.gmp_base.specs.declared.number.Readiness.{Readiness}
use Rattle.gmp_seq.proofs.Epochs.{at_set, slice_get-set_same}
use Rattle.gmp_seq.specs.declared.call.Call.{Call}
use Rattle.gmp_seq.specs.declared.call.Call.TheVariants as call
use Rattle.gmp_seq.specs.declared.call.Reply.{Reply}
use Rattle.gmp_seq.specs.declared.call.Reply.TheVariants as reply
use Rattle.gmp_seq.specs.declared.status.Mode.{Mode}
use Rattle.gmp_seq.specs.declared.status.Mode.TheVariants as mode
use Rattle.gmp_seq.specs.Machines.{Machines, Acquires, MayKeep, Sets, Spins, Unspins, Pokes, Declares, Bares, Looks, Enters, Returns, IsAwake, spins}
use Rattle.gmp_seq.specs.State.{State}
use Rattle.gmp_seq.specs.Step
use Rattle.gmp_seq.specs.Table.{Table, IsRunning, IsCalling}
use Rattle.gmp_driver.specs.Registers.{but, put_value}
use Rattle.gmp_driver.specs.Seen.{number_of, own_processor}
use Rattle.gmp_acts.specs.Hands.{PlainHand}
use Rattle.gmp_acts.specs.Hands.{hand_after, left_by}
use Rattle.gmp_acts.proofs.Tracks.{Tracks, tracks_apart, tracks_gain, tracks_lose}

-- Who holds what

abbrev pub place_of : PNo → ℕ
place_of p = p.0

pub same_processor : (a b : PNo) → place_of a ≡ place_of b → a ≡ b
same_processor a b e = ap (λ (n : ℕ). let p : PNo = record { 0 = n } in p) e

abbrev pub HeldBy : MNo → Option (Option MNo) → Type 0
HeldBy m o = o ≡ Some (Some m)

-- a machine's processor before (p) and after (p')
pub data Hold (m : MNo) (old new : List (Option MNo)) (p p' : Option PNo) : Type 0 where
  keeps : new ≡ old → p' ≡ p → Hold m old new p p'
  gains : (q : PNo) → slice_get old q.0 ≡ Some None → new ≡ set old q.0 (Some m) → p ≡ None → p' ≡ Some q → Hold m old new p p'
  gives : (q : PNo) → slice_get old q.0 ≡ Some (Some m) → new ≡ set old q.0 None → p' ≡ None → Hold m old new p p'

none_is_no : (n : MNo) → Some None ≡ Some (Some n) → ⊥
none_is_no n e = cc

not_others : (m n : MNo) → n ≢ m → Some (Some m) ≡ Some (Some n) → ⊥
not_others m n ne e = ne (let same : n ≡ m = cc in same)

pub holds_after : (m : MNo) (old new : List (Option MNo)) (p p' : Option PNo) → Hold m old new p p' → Tracks place_of (HeldBy m) old p → Tracks place_of (HeldBy m) new p'
holds_after m old new p p' (keeps rows same) tr = subst (λ (l : List (Option MNo)). Tracks place_of (HeldBy m) l p') (sym rows) (subst (Tracks place_of (HeldBy m) old) (sym same) tr)
holds_after m old new p p' (gains q idle rows none some) tr =
    subst (λ (l : List (Option MNo)). Tracks place_of (HeldBy m) l p') (sym rows)
    (subst (Tracks place_of (HeldBy m) (set old q.0 (Some m))) (sym some) (tracks_gain place_of same_processor (HeldBy m) old q None (Some m) idle refl (subst (Tracks place_of (HeldBy m) old) none tr)))
holds_after m old new p p' (gives q held rows none) tr =
    subst (λ (l : List (Option MNo)). Tracks place_of (HeldBy m) l p') (sym rows)
    (subst (Tracks place_of (HeldBy m) (set old q.0 None)) (sym none) (tracks_lose place_of same_processor (HeldBy m) old q (Some m) None held p refl (none_is_no m) tr))

pub others_hold : (m n : MNo) (old new : List (Option MNo)) (p p' o : Option PNo) → n ≢ m → Hold m old new p p' → Tracks place_of (HeldBy n) old o → Tracks place_of (HeldBy n) new o
others_hold m n old new p p' o ne (keeps rows same) tr = subst (λ (l : List (Option MNo)). Tracks place_of (HeldBy n) l o) (sym rows) tr
others_hold m n old new p p' o ne (gains q idle rows none some) tr =
    subst (λ (l : List (Option MNo)). Tracks place_of (HeldBy n) l o) (sym rows) (tracks_apart place_of same_processor (HeldBy n) old q None (Some m) idle o (none_is_no n) (not_others m n ne) tr)
others_hold m n old new p p' o ne (gives q held rows none) tr =
    subst (λ (l : List (Option MNo)). Tracks place_of (HeldBy n) l o) (sym rows) (tracks_apart place_of same_processor (HeldBy n) old q (Some m) None held o (not_others m n ne) (none_is_no n) tr)

-- What the machine does

abbrev pub mode_after : Call → Reply → Option Mode → Option Mode
mode_after call.Enter answer what = Some mode.Calling
mode_after (call.Leave number) answer what = Some mode.Awake
mode_after call.Park reply.Parked what = Some mode.Parked
mode_after c answer what = what

abbrev pub spins_after : Call → Reply → Bool → Bool
spins_after call.Spin (reply.Answer true) before = true
spins_after call.Unspin answer before = false
spins_after c answer before = before

-- a mode of another machine stays, but for one that is woken
abbrev pub MayWake : Option Mode → Option Mode → Type 0
MayWake old new = (new ≡ old) ⊎ ((old ≡ Some mode.Parked) × (new ≡ Some mode.Awake))

pub record Gear (m : MNo) (c : Call) (answer : Reply) (old new : Machines) (p p' : Option PNo) : Type 0 where
  pub holders : Hold m old.holders new.holders p p'
  pub mode : slice_get new.modes m.0 ≡ mode_after c answer (slice_get old.modes m.0)
  pub spinning : spins new m ≡ spins_after c answer (spins old m)
  pub others : (n : MNo) → n ≢ m → MayWake (slice_get old.modes n.0) (slice_get new.modes n.0)
  pub still : (n : MNo) → n ≢ m → spins new n ≡ spins old n

-- what is known of the machine before
pub record Standing (s : State) (m : MNo) : Type 0 where
  pub runner : (g : GNo) → IsRunning s.table g m → IsAwake s.machines m
  pub caller : (g : GNo) → IsCalling s.table g m → slice_get s.machines.modes m.0 ≡ Some mode.Calling
  pub spins_row : Bool
  pub spins_at : slice_get s.machines.spinning m.0 ≡ Some spins_row

same_machine : (n m : MNo) → n.0 ≡ m.0 → n ≡ m
same_machine n m e = ap (λ (k : ℕ). let x : MNo = record { 0 = k } in x) e

-- nothing of machines changes
pub same_gear : (m : MNo) (c : Call) (answer : Reply) (old new : Machines) (p p' : Option PNo) → new ≡ old → p' ≡ p
    → mode_after c answer (slice_get old.modes m.0) ≡ slice_get old.modes m.0 → spins_after c answer (spins old m) ≡ spins old m → Gear m c answer old new p p'
same_gear m c answer old new p p' is same modes spinning = record {
  holders = keeps (ap (λ (w : Machines). w.holders) is) same;
  mode = ap (λ (w : Machines). slice_get w.modes m.0) is ∙ sym modes;
  spinning = ap (λ (w : Machines). spins w m) is ∙ sym spinning;
  others = λ n ne. inl (ap (λ (w : Machines). slice_get w.modes n.0) is);
  still = λ n ne. ap (λ (w : Machines). spins w n) is;
}

-- the holder of one processor changes
pub holder_gear : (m : MNo) (c : Call) (answer : Reply) (old new : Machines) (q : PNo) (o : Option MNo) (p p' : Option PNo) → new ≡ record old { holders = set old.holders q.0 o }
    → Hold m old.holders (set old.holders q.0 o) p p'
    → mode_after c answer (slice_get old.modes m.0) ≡ slice_get old.modes m.0 → spins_after c answer (spins old m) ≡ spins old m → Gear m c answer old new p p'
holder_gear m c answer old new q o p p' is hold modes spinning = record {
  holders = subst (λ (l : List (Option MNo)). Hold m old.holders l p p') (sym (ap (λ (w : Machines). w.holders) is)) hold;
  mode = ap (λ (w : Machines). slice_get w.modes m.0) is ∙ sym modes;
  spinning = ap (λ (w : Machines). spins w m) is ∙ sym spinning;
  others = λ n ne. inl (ap (λ (w : Machines). slice_get w.modes n.0) is);
  still = λ n ne. ap (λ (w : Machines). spins w n) is;
}

-- a mode that another's write leaves
pub mode_kept : (modes : List Mode) (m n : MNo) (x : Mode) → n ≢ m → slice_get (set modes m.0 x) n.0 ≡ slice_get modes n.0
mode_kept modes m n x ne = at_set (λ (o : Option Mode). o ≡ slice_get modes n.0) modes m.0 n.0 x (λ same. absurd (ne (same_machine n m (sym same)))) refl

-- whoever wakes was parked
woken_mode : (modes : List Mode) (k n : MNo) → slice_get modes k.0 ≡ Some mode.Parked → MayWake (slice_get modes n.0) (slice_get (set modes k.0 mode.Awake) n.0)
woken_mode modes k n parked =
    at_set (λ (o : Option Mode). MayWake (slice_get modes n.0) o) modes k.0 n.0 mode.Awake
    (λ same. inr (subst (λ (i : ℕ). slice_get modes i ≡ Some mode.Parked) same parked, refl)) (inl refl)

-- a spinning machine that another's write leaves
spins_kept : (spinning : List Bool) (m n : MNo) (x : Bool) → n ≢ m → unwrap_or (slice_get (set spinning m.0 x) n.0) false ≡ unwrap_or (slice_get spinning n.0) false
spins_kept spinning m n x ne =
    at_set (λ (o : Option Bool). unwrap_or o false ≡ unwrap_or (slice_get spinning n.0) false) spinning m.0 n.0 x (λ same. absurd (ne (same_machine n m (sym same)))) refl

-- the machine's own spinning is written
spin_gear : (m : MNo) (c : Call) (answer : Reply) (old new : Machines) (x y : Bool) (p : Option PNo) → new ≡ record old { spinning = set old.spinning m.0 x } → slice_get old.spinning m.0 ≡ Some y
    → mode_after c answer (slice_get old.modes m.0) ≡ slice_get old.modes m.0 → spins_after c answer (spins old m) ≡ x → Gear m c answer old new p p
spin_gear m c answer old new x y p is at modes spinning = record {
  holders = keeps (ap (λ (w : Machines). w.holders) is) refl;
  mode = ap (λ (w : Machines). slice_get w.modes m.0) is ∙ sym modes;
  spinning = ap (λ (w : Machines). spins w m) is ∙ ap (λ (o : Option Bool). unwrap_or o false) (slice_get-set_same old.spinning m.0 x y at) ∙ sym spinning;
  others = λ n ne. inl (ap (λ (w : Machines). slice_get w.modes n.0) is);
  still = λ n ne. ap (λ (w : Machines). spins w n) is ∙ spins_kept old.spinning m n x ne;
}

-- Hands

pub goes_processor : (answer : Reply) (hand : PlainHand) → own_processor (left_by answer hand) ≡ own_processor hand
goes_processor reply.Waits hand = refl
goes_processor _ hand = refl

pub take_processor : (t : Table) (answer : Reply) (hand : PlainHand) → own_processor (hand_after t call.Take answer hand) ≡ own_processor hand
take_processor t (reply.Ticket r) hand = refl
take_processor t _ hand = refl

pub put_processor : (s : Option Readiness) (hand : PlainHand) → own_processor (but (put_value s) hand) ≡ own_processor hand
put_processor None hand = refl
put_processor (Some r) hand = refl

-- MakesCall

module _ (m : MNo) (old new : Machines) (t : Table) (hand : PlainHand) where
  pub acquires_gear : (answer : Reply) → hand.processor ≡ None → Acquires m answer old new → Gear m call.Acquire answer old new (own_processor hand) (own_processor (hand_after t call.Acquire answer hand))
  acquires_gear (reply.Proc q) free (awake, bare, (idle, active), is) =
      holder_gear m call.Acquire (reply.Proc q) old new q (Some m) (own_processor hand) (Some q) is (gains q idle refl (ap number_of free) refl) refl refl
  acquires_gear reply.Nothing free (awake, bare, none, is) = same_gear m call.Acquire reply.Nothing old new (own_processor hand) (own_processor hand) is refl refl refl
  acquires_gear _ free h = absurd h

  pub spins_gear : (answer : Reply) (y : Bool) → slice_get old.spinning m.0 ≡ Some y → Spins m answer old new → Gear m call.Spin answer old new (own_processor hand) (own_processor hand)
  spins_gear (reply.Answer true) y at (awake, may, is) = spin_gear m call.Spin (reply.Answer true) old new true y (own_processor hand) is at refl refl
  spins_gear (reply.Answer false) y at (awake, may, is) = same_gear m call.Spin (reply.Answer false) old new (own_processor hand) (own_processor hand) is refl refl refl
  spins_gear _ y at h = absurd h

  pub unspins_gear : (answer : Reply) (y : Bool) → slice_get old.spinning m.0 ≡ Some y → Unspins m answer old new → Gear m call.Unspin answer old new (own_processor hand) (own_processor hand)
  unspins_gear reply.Done y at (awake, is) = spin_gear m call.Unspin reply.Done old new false y (own_processor hand) is at refl refl
  unspins_gear _ y at h = absurd h

  pub pokes_gear : (answer : Reply) → Pokes m answer old new → Gear m call.Poke answer old new (own_processor hand) (own_processor hand)
  pokes_gear (reply.Wakes k) (awake, wants, parked, is) = record {
    holders = keeps (ap (λ (w : Machines). w.holders) is) refl;
    mode = ap (λ (w : Machines). slice_get w.modes m.0) is ∙ at_set (λ (o : Option Mode). o ≡ slice_get old.modes m.0) old.modes k.0 m.0 mode.Awake (λ same. sym awake) refl;
    spinning = ap (λ (w : Machines). spins w m) is;
    others = λ n ne. subst (MayWake (slice_get old.modes n.0)) (sym (ap (λ (w : Machines). slice_get w.modes n.0) is)) (woken_mode old.modes k n parked);
    still = λ n ne. ap (λ (w : Machines). spins w n) is;
  }
  pokes_gear reply.Nothing (awake, wants, is) = same_gear m call.Poke reply.Nothing old new (own_processor hand) (own_processor hand) is refl refl refl
  pokes_gear _ h = absurd h

  pub declares_gear : (answer : Reply) → Declares m answer old new → Gear m call.Declare answer old new (own_processor hand) None
  declares_gear (reply.Idle q) (still, holds, is) = record {
    holders = gives q holds (ap (λ (w : Machines). w.holders) is) refl;
    mode = ap (λ (w : Machines). slice_get w.modes m.0) is;
    spinning = ap (λ (w : Machines). spins w m) is;
    others = λ n ne. inl (ap (λ (w : Machines). slice_get w.modes n.0) is);
    still = λ n ne. ap (λ (w : Machines). spins w n) is;
  }
  declares_gear _ h = absurd h

  pub bares_gear : (answer : Reply) → Bares m answer old new → Gear m call.Bare answer old new (own_processor hand) (own_processor hand)
  bares_gear reply.Done (bare, is) = record {
    holders = keeps (ap (λ (w : Machines). w.holders) is) refl;
    mode = ap (λ (w : Machines). slice_get w.modes m.0) is;
    spinning = ap (λ (w : Machines). spins w m) is;
    others = λ n ne. inl (ap (λ (w : Machines). slice_get w.modes n.0) is);
    still = λ n ne. ap (λ (w : Machines). spins w n) is;
  }
  bares_gear _ h = absurd h

  pub sets_gear : (n : ℕ) (answer : Reply) → Sets n answer old new → Gear m (call.Procs n) answer old new (own_processor hand) (own_processor (left_by answer hand))
  sets_gear n (reply.Number before) (good, told, is) = record {
    holders = keeps (ap (λ (w : Machines). w.holders) is) refl;
    mode = ap (λ (w : Machines). slice_get w.modes m.0) is;
    spinning = ap (λ (w : Machines). spins w m) is;
    others = λ n ne. inl (ap (λ (w : Machines). slice_get w.modes n.0) is);
    still = λ n ne. ap (λ (w : Machines). spins w n) is;
  }
  sets_gear n (reply.Fault fault.BadProcs) (bad, is) = same_gear m (call.Procs n) (reply.Fault fault.BadProcs) old new (own_processor hand) (own_processor hand) is refl refl refl
  sets_gear n _ h = absurd h

  pub keeps_gear : (answer : Reply) → MayKeep m answer old new → Gear m call.Keep answer old new (own_processor hand) (own_processor hand)
  keeps_gear (reply.Answer b) (awake, p, holds, told, is) = same_gear m call.Keep (reply.Answer b) old new (own_processor hand) (own_processor hand) is refl refl refl
  keeps_gear _ h = absurd h

  pub looks_gear : (answer : Reply) → Looks m answer old new → Gear m call.Woken answer old new (own_processor hand) (own_processor hand)
  looks_gear (reply.Answer true) (awake, is) = same_gear m call.Woken (reply.Answer true) old new (own_processor hand) (own_processor hand) is refl refl refl
  looks_gear (reply.Answer false) (parked, is) = same_gear m call.Woken (reply.Answer false) old new (own_processor hand) (own_processor hand) is refl refl refl
  looks_gear _ h = absurd h

  pub enters_gear : (answer : Reply) → IsAwake old m → Enters m answer old new → Gear m call.Enter answer old new (own_processor hand) None
  enters_gear (reply.Entered q None) awake (holds, none, is) = record {
    holders = gives q holds (ap (λ (w : Machines). w.holders) is) refl;
    mode = ap (λ (w : Machines). slice_get w.modes m.0) is ∙ slice_get-set_same old.modes m.0 mode.Calling mode.Awake awake;
    spinning = ap (λ (w : Machines). spins w m) is;
    others = λ n ne. inl (ap (λ (w : Machines). slice_get w.modes n.0) is ∙ mode_kept old.modes m n mode.Calling ne);
    still = λ n ne. ap (λ (w : Machines). spins w n) is;
  }
  enters_gear (reply.Entered q (Some k)) awake (holds, parked, is) =
      let apart : m ≢ k = (λ (e : m ≡ k). let too : slice_get old.modes m.0 ≡ Some mode.Parked = subst (λ (i : MNo). slice_get old.modes i.0 ≡ Some mode.Parked) (sym e) parked in cc) in
      let apart' : k ≢ m = (λ (e : k ≡ m). apart (sym e)) in
      let parked' : slice_get (set old.modes m.0 mode.Calling) k.0 ≡ Some mode.Parked = mode_kept old.modes m k mode.Calling apart' ∙ parked in
      record {
        holders = gives q holds (ap (λ (w : Machines). w.holders) is) refl;
        mode = ap (λ (w : Machines). slice_get w.modes m.0) is ∙ mode_kept (set old.modes m.0 mode.Calling) k m mode.Awake apart ∙ slice_get-set_same old.modes m.0 mode.Calling mode.Awake awake;
        spinning = ap (λ (w : Machines). spins w m) is;
        others = λ n ne. subst (MayWake (slice_get old.modes n.0)) (sym (ap (λ (w : Machines). slice_get w.modes n.0) is))
            (subst (λ (o : Option Mode). MayWake o (slice_get (set (set old.modes m.0 mode.Calling) k.0 mode.Awake) n.0)) (mode_kept old.modes m n mode.Calling ne)
            (woken_mode (set old.modes m.0 mode.Calling) k n parked'));
        still = λ n ne. ap (λ (w : Machines). spins w n) is;
      }
  enters_gear _ awake h = absurd h

  pub returns_gear : (k : ℕ) (answer : Reply) → hand.processor ≡ None → slice_get old.modes m.0 ≡ Some mode.Calling → Returns m answer old new
      → Gear m (call.Leave k) answer old new (own_processor hand) (own_processor (hand_after t (call.Leave k) answer hand))
  returns_gear k (reply.Runs q) free calling ((idle, active), is) = record {
    holders = gains q idle (ap (λ (w : Machines). w.holders) is) (ap number_of free) refl;
    mode = ap (λ (w : Machines). slice_get w.modes m.0) is ∙ slice_get-set_same old.modes m.0 mode.Awake mode.Calling calling;
    spinning = ap (λ (w : Machines). spins w m) is;
    others = λ n ne. inl (ap (λ (w : Machines). slice_get w.modes n.0) is ∙ mode_kept old.modes m n mode.Awake ne);
    still = λ n ne. ap (λ (w : Machines). spins w n) is;
  }
  returns_gear k (reply.Shelved r) free calling (none, is) = record {
    holders = keeps (ap (λ (w : Machines). w.holders) is) refl;
    mode = ap (λ (w : Machines). slice_get w.modes m.0) is ∙ slice_get-set_same old.modes m.0 mode.Awake mode.Calling calling;
    spinning = ap (λ (w : Machines). spins w m) is;
    others = λ n ne. inl (ap (λ (w : Machines). slice_get w.modes n.0) is ∙ mode_kept old.modes m n mode.Awake ne);
    still = λ n ne. ap (λ (w : Machines). spins w n) is;
  }
  returns_gear k _ free calling h = absurd h

pub parks_gear : (m : MNo) (answer : Reply) (old new : State) (hand : PlainHand) → IsAwake old.machines m → Step.Parks m answer old new
    → Gear m call.Park answer old.machines new.machines (own_processor hand) (own_processor hand)
parks_gear m reply.Work old new hand awake (work, (same, more, is)) = same_gear m call.Park reply.Work old.machines new.machines (own_processor hand) (own_processor hand) is refl refl refl
parks_gear m reply.AllAsleep old new hand awake (work, asleep, (same, more, is)) = same_gear m call.Park reply.AllAsleep old.machines new.machines (own_processor hand) (own_processor hand) is refl refl refl
parks_gear m (reply.Mind until) old new hand awake (work, astir, minds, (same, more, is)) = same_gear m call.Park (reply.Mind until) old.machines new.machines (own_processor hand) (own_processor hand) is refl refl refl
parks_gear m reply.LookAgain old new hand awake (work, astir, minds, marked, (same, more, is)) = same_gear m call.Park reply.LookAgain old.machines new.machines (own_processor hand) (own_processor hand) is refl refl refl
parks_gear m reply.Parked old new hand awake (work, astir, minds, unmarked, same, more, is) = record {
  holders = keeps (ap (λ (w : Machines). w.holders) is) refl;
  mode = ap (λ (w : Machines). slice_get w.modes m.0) is ∙ slice_get-set_same old.machines.modes m.0 mode.Parked mode.Awake awake;
  spinning = ap (λ (w : Machines). spins w m) is;
  others = λ n ne. inl (ap (λ (w : Machines). slice_get w.modes n.0) is ∙ mode_kept old.machines.modes m n mode.Parked ne);
  still = λ n ne. ap (λ (w : Machines). spins w n) is;
}
parks_gear m _ old new hand awake h = absurd h

-- the machines stay in a call of a goroutine
pub goes_gear : (m : MNo) (c : Call) (answer : Reply) (old new : Machines) (hand : PlainHand) → mode_after c answer (slice_get old.modes m.0) ≡ slice_get old.modes m.0
    → spins_after c answer (spins old m) ≡ spins old m → new ≡ old → Gear m c answer old new (own_processor hand) (own_processor (left_by answer hand))
goes_gear m c answer old new hand modes spinning is = same_gear m c answer old new (own_processor hand) (own_processor (left_by answer hand)) is (goes_processor answer hand) modes spinning
