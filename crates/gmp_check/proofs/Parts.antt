-- Decisions on a part of the state, and on what a machine's goroutine asks.
use Rattle.std.proofs.Common.{◌≡◌, ℕ, ◌≤◌, inl, inr, Bool, true, false, Option, List, length, refl, ap, subst}
use Rattle.gmp_base.specs.declared.cases.Case.{Case}
use Rattle.gmp_base.specs.declared.number.CNo.{CNo}
use Rattle.gmp_base.specs.declared.number.GNo.{GNo}
use Rattle.gmp_base.specs.declared.number.MNo.{MNo}
use Rattle.gmp_seq.specs.declared.call.Call.TheVariants as call
use Rattle.gmp_seq.specs.declared.call.Limits.{Limits}
use Rattle.gmp_seq.specs.declared.call.Reply.{Reply}
use Rattle.gmp_seq.specs.Channels.{Channel}
use Rattle.gmp_seq.specs.Machines.{Machines}
use Rattle.gmp_seq.specs.State.{State}
use Rattle.gmp_seq.specs.Step.{ByRunning, Effect, OnChannels, OnMachines, OnTable, Selects, Tells, LeavesBy}
use Rattle.gmp_seq.specs.Table.{Table, IsCalling, IsRunning}
use Rattle.gmp_check.proofs.Deciding.{decides_as}
use Rattle.gmp_check.specs.Decides.{Decides}
use Rattle.gmp_check.specs.Consistent.{IsConsistent}

-- Here t is the state as the code has it, and s as contracts do

pub on_table : (R : Table → Table → Type 0) (s t : State) → t ≡ s → (new : Table) (b : Bool) → Decides R t.table new b → Decides (OnTable R) s (record t { table = new }) b
on_table R s t same new b is =
    subst (λ (x : State). Decides (OnTable R) x (record t { table = new }) b) same (here b is) where
      here : (b : Bool) → Decides R t.table new b → Decides (OnTable R) t (record t { table = new }) b
      here true h = (h, refl, refl)
      here false h = (ap (λ (x : Table). record t { table = x }) h.0, λ other o. h.1 other.table o.0)

pub on_machines : (R : Machines → Machines → Type 0) (s t : State) → t ≡ s → (new : Machines) (b : Bool) → Decides R t.machines new b → Decides (OnMachines R) s (record t { machines = new }) b
on_machines R s t same new b is =
    subst (λ (x : State). Decides (OnMachines R) x (record t { machines = new }) b) same (here b is) where
      here : (b : Bool) → Decides R t.machines new b → Decides (OnMachines R) t (record t { machines = new }) b
      here true h = (h, refl, refl)
      here false h = (ap (λ (x : Machines). record t { machines = x }) h.0, λ other o. h.1 other.machines o.0)

-- a number of a channel is told
pub on_number : (number : List Channel → CNo → ℕ) (c : Option CNo) (reply : Reply) (s t : State) → t ≡ s → (b : Bool)
    → Decides (Tells (number t.channels) c reply) t.channels t.channels b → Decides (λ old other. OnChannels (Tells (number old.channels) c reply) old other) s s b
on_number number c reply s t same b is =
    subst (λ (x : State). Decides (λ old other. OnChannels (Tells (number old.channels) c reply) old other) x x b) same (here b is) where
      here : (b : Bool) → Decides (Tells (number t.channels) c reply) t.channels t.channels b → Decides (λ old other. OnChannels (Tells (number old.channels) c reply) old other) t t b
      here true h = (h, refl, refl)
      here false h = (refl, λ other o. h.1 other.channels o.0)

-- what g asks is asked by the one that m runs
pub by_running : (P : GNo → State → State → Type 0) (m : MNo) (g : GNo) (s new : State) (b : Bool) → IsConsistent s → IsRunning s.table g m → Decides (P g) s new b
    → Decides (λ old other. ByRunning m old (λ h. P h old other)) s new b
by_running P m g s new b consistent runs =
    decides_as (P g) (λ old other. ByRunning m old (λ h. P h old other)) s new b
    (λ other p. (g, runs, p))
    (λ other (h, runs_too, p). subst (λ k. P k s other) (consistent.1.together.one_goroutine m h g (inl runs_too) (inl runs)) p)

-- and the call that g makes is made by the one for which m calls
pub by_calling : (limits : Limits) (m : MNo) (g : GNo) (number : ℕ) (reply : Reply) (s new : State) (b : Bool) → IsConsistent s → IsCalling s.table g m
    → Decides (LeavesBy m g number reply) s new b → Decides (Effect limits m (call.Leave number) reply) s new b
by_calling limits m g number reply s new b consistent calls =
    decides_as (LeavesBy m g number reply) (Effect limits m (call.Leave number) reply) s new b
    (λ other p. (g, calls, p))
    (λ other (h, calls_too, p). subst (λ k. LeavesBy m k number reply s other) (consistent.1.together.one_goroutine m h g (inr calls_too) (inr calls)) p)

-- a select has at most 8 cases
pub by_selecting : (limits : Limits) (m : MNo) (g : GNo) (cases : List Case) (has_default : Bool) (until : Option ℕ) (reply : Reply) (s new : State) (b : Bool)
    → IsConsistent s → IsRunning s.table g m → length cases ≤ 8 → Decides (Selects g cases has_default until reply) s new b
    → Decides (Effect limits m (call.Select cases has_default until) reply) s new b
by_selecting limits m g cases has_default until reply s new b consistent runs few is =
    decides_as (λ old other. ByRunning m old (λ h. Selects h cases has_default until reply old other)) (Effect limits m (call.Select cases has_default until) reply) s new b
    (λ other asks. (few, asks)) (λ other (few_too, asks). asks)
    (by_running (λ h. Selects h cases has_default until reply) m g s new b consistent runs is)
