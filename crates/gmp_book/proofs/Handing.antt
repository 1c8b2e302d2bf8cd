-- The values that a call is handed are of its machine, and only of the kinds that it takes.
use Rattle.std.proofs.Common.{◌≡◌, ℕ, Bool, true, false, Option, None, Some, ap}
use Rattle.std.specs.Option.{option_map, option_map_or}
use Rattle.gmp_base.specs.declared.number.GNo.{GNo}
use Rattle.gmp_base.specs.declared.number.MNo.{MNo}
use Rattle.gmp_base.specs.declared.number.PNo.{PNo}
use Rattle.gmp_base.specs.declared.value.Called.{Called}
use Rattle.gmp_base.specs.declared.value.Held.{Held}
use Rattle.gmp_base.specs.declared.value.Proc.{Proc}
use Rattle.gmp_seq.specs.declared.call.Call.{Call}
use Rattle.gmp_seq.specs.declared.call.Call.TheVariants as call
use Rattle.gmp_seq.specs.Machines.{Holds, Machines}
use Rattle.gmp_seq.specs.State.{State}
use Rattle.gmp_seq.specs.Table.{IsCalling, IsRunning, Table}
use Rattle.gmp_journal.specs.declared.handed.Handed.{Handed}
use Rattle.gmp_book.specs.declared.values.Values.{Values}
use Rattle.gmp_journal.specs.Grants.{Grants, Suits}
use Rattle.gmp_journal.specs.Handed.{goroutine_in, held_handed, nothing_handed, processor_in, ticket_handed}
use Rattle.gmp_book.specs.Hands.{handed_of}
use Rattle.gmp_book.specs.Kinds.{hands_called, hands_held, hands_proc}
use Rattle.gmp_base.specs.declared.number.Readiness.{Readiness}

-- there is one where it is to be handed in, and then m runs it, calls for it, or holds it

abbrev pub HeldBy : {T : Type 0} → Bool → MNo → Table → Option (Held T) → Type 0
HeldBy true m t (Some h) = IsRunning t h.g m
HeldBy false m t None = Unit {0}
HeldBy _ m t _ = ⊥

abbrev pub CalledBy : {T : Type 0} → Bool → MNo → Table → Option (Called T) → Type 0
CalledBy true m t (Some c) = IsCalling t c.g m
CalledBy false m t None = Unit {0}
CalledBy _ m t _ = ⊥

abbrev pub ProcBy : {Q : Type 0} → Bool → MNo → Machines → Option (Proc Q) → Type 0
ProcBy true m w (Some x) = Holds w m x.p
ProcBy false m w None = Unit {0}
ProcBy _ m w _ = ⊥

pub record HandedBy {T Q : Type 0} (held called proc : Bool) (m : MNo) (s : State) (v : Values T Q) : Type 0 where
  pub held_by : HeldBy held m s.table v.held
  pub called_by : CalledBy called m s.table v.called
  pub proc_by : ProcBy proc m s.machines v.proc

-- One kind of value

module _ {T : Type 0} (m : MNo) (t : Table) where
  some_held : (o : Option (Held T)) (x : ℕ × GNo) (other : GNo) → option_map (λ (h : Held T). (h.run, h.g)) o ≡ Some x
      → IsRunning t (option_map_or (λ (y : ℕ × GNo). y.1) (option_map (λ (h : Held T). (h.run, h.g)) o) other) m → HeldBy true m t o
  some_held (Some h) x other e runs = runs
  some_held None x other e runs = absurd cc

  no_held : (o : Option (Held T)) → option_map {U = ℕ × GNo} (λ (h : Held T). (h.run, h.g)) o ≡ None → HeldBy false m t o
  no_held None e = tt
  no_held (Some h) e = absurd cc

module _ {T : Type 0} (m : MNo) (t : Table) where
  some_called : (h : Option (ℕ × GNo)) (o : Option (Called T)) (x : ℕ × GNo) (other : GNo) → h ≡ None → option_map (λ (c : Called T). (c.run, c.g)) o ≡ Some x
      → IsCalling t (option_map_or (λ (y : ℕ × GNo). y.1) h (option_map_or (λ (y : ℕ × GNo). y.1) (option_map (λ (c : Called T). (c.run, c.g)) o) other)) m → CalledBy true m t o
  some_called None (Some c) x other none e calls = calls
  some_called None None x other none e calls = absurd cc
  some_called (Some h) o x other none e calls = absurd cc

  no_called : (o : Option (Called T)) → option_map {U = ℕ × GNo} (λ (c : Called T). (c.run, c.g)) o ≡ None → CalledBy false m t o
  no_called None e = tt
  no_called (Some c) e = absurd cc

module _ {Q : Type 0} (m : MNo) (w : Machines) where
  some_proc : (o : Option (Proc Q)) (x : ℕ × PNo) (other : PNo) → option_map (λ (y : Proc Q). (y.run, y.p)) o ≡ Some x
      → Holds w m (option_map_or (λ (y : ℕ × PNo). y.1) (option_map (λ (y : Proc Q). (y.run, y.p)) o) other) → ProcBy true m w o
  some_proc (Some y) x other e holds = holds
  some_proc None x other e holds = absurd cc

  no_proc : (o : Option (Proc Q)) → option_map {U = ℕ × PNo} (λ (y : Proc Q). (y.run, y.p)) o ≡ None → ProcBy false m w o
  no_proc None e = tt
  no_proc (Some y) e = absurd cc

-- All calls

module _ {T Q : Type 0} (m : MNo) (s : State) (v : Values T Q) where
  nothing : handed_of v ≡ nothing_handed → HandedBy false false false m s v
  nothing are = record {
    held_by = no_held m s.table v.held (ap (λ (x : Handed). x.held) are);
    called_by = no_called m s.table v.called (ap (λ (x : Handed). x.called) are);
    proc_by = no_proc m s.machines v.proc (ap (λ (x : Handed). x.proc) are);
  }

  a_ticket : (run : ℕ) (r : Readiness) → handed_of v ≡ ticket_handed run r → HandedBy false false false m s v
  a_ticket run r are = record {
    held_by = no_held m s.table v.held (ap (λ (x : Handed). x.held) are);
    called_by = no_called m s.table v.called (ap (λ (x : Handed). x.called) are);
    proc_by = no_proc m s.machines v.proc (ap (λ (x : Handed). x.proc) are);
  }

  a_held : (run : ℕ) × (g : GNo) × (handed_of v ≡ held_handed run g) → IsRunning s.table (goroutine_in (handed_of v)) m → HandedBy true false false m s v
  a_held (run, g, are) runs = record {
    held_by = some_held m s.table v.held _ _ (ap (λ (x : Handed). x.held) are) runs;
    called_by = no_called m s.table v.called (ap (λ (x : Handed). x.called) are);
    proc_by = no_proc m s.machines v.proc (ap (λ (x : Handed). x.proc) are);
  }

  pub handed_by : (asked : Call) → Suits asked (handed_of v) → Grants m (goroutine_in (handed_of v)) (processor_in (handed_of v)) asked s
      → HandedBy (hands_held asked) (hands_called asked) (hands_proc asked) m s v
  handed_by call.Acquire are grants = nothing are
  handed_by call.Take are grants = nothing are
  handed_by (call.Put r) (run, are) grants = a_ticket run r are
  handed_by (call.Claim r) (run, are) grants = a_ticket run r are
  handed_by call.Enter (run, g, other, p, are) grants = record {
    held_by = some_held m s.table v.held _ _ (ap (λ (x : Handed). x.held) are) grants.0;
    called_by = no_called m s.table v.called (ap (λ (x : Handed). x.called) are);
    proc_by = some_proc m s.machines v.proc _ _ (ap (λ (x : Handed). x.proc) are) grants.1;
  }
  handed_by (call.Leave number) (run, g, are) grants = record {
    held_by = no_held m s.table v.held (ap (λ (x : Handed). x.held) are);
    called_by = some_called m s.table _ v.called _ _ (ap (λ (x : Handed). x.held) are) (ap (λ (x : Handed). x.called) are) grants.0;
    proc_by = no_proc m s.machines v.proc (ap (λ (x : Handed). x.proc) are);
  }
  handed_by call.Spin are grants = nothing are
  handed_by call.Woken are grants = nothing are
  handed_by call.Keep are grants = nothing are
  handed_by call.Unspin are grants = nothing are
  handed_by call.Poke are grants = nothing are
  handed_by call.Declare (run, p, are) grants = record {
    held_by = no_held m s.table v.held (ap (λ (x : Handed). x.held) are);
    called_by = no_called m s.table v.called (ap (λ (x : Handed). x.called) are);
    proc_by = some_proc m s.machines v.proc _ _ (ap (λ (x : Handed). x.proc) are) grants.2;
  }
  handed_by call.Bare are grants = nothing are
  handed_by call.Park are grants = nothing are
  handed_by (call.Tick moment) are grants = nothing are
  handed_by _ suits grants = a_held suits grants
