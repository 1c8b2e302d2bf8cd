-- Who ran in the last hundred entries of a history.
use Rattle.std.specs.Prelude.{◌≡◌, ℕ, zero, suc, ◌-◌, ◌||◌, Bool, false, if◌then◌else◌, Option, None, Some, List, [], ◌∷◌, ◌++◌, drop, length, slice_get, take}
use Rattle.gmp_base.specs.declared.number.GNo.{GNo}
use Rattle.gmp_base.specs.declared.number.MNo.{MNo}
use Rattle.gmp_seq.specs.declared.call.Call.{Call}
use Rattle.gmp_seq.specs.declared.call.Call.TheVariants as call
use Rattle.gmp_seq.specs.declared.call.Entry.{Entry}
use Rattle.gmp_seq.specs.declared.call.Limits.{Limits}
use Rattle.gmp_seq.specs.declared.status.Goroutine.{Goroutine}
use Rattle.gmp_seq.specs.Run.{IsLegal, IsStep}
use Rattle.gmp_seq.specs.State.{State}
use Rattle.gmp_seq.specs.Table.{is_calling_on, is_running_on}

-- the machine runs it, or makes its blocking call
abbrev pub is_at : MNo → Option Goroutine → Bool
is_at m None = false
is_at m (Some row) = is_running_on m row.status || is_calling_on m row.status

-- of the goroutines below this number the one that is at the machine
abbrev pub runner_below : MNo → List Goroutine → ℕ → Option GNo
runner_below m rows zero = None
runner_below m rows (suc g) = if is_at m (slice_get rows g) then Some (record { 0 = g }) else runner_below m rows g

-- whose an entry is, where goroutines do this before it: that which is claimed, else that at the machine
abbrev pub whose : Entry → List Goroutine → Option GNo
whose e rows = of e.call where
  of : Call → Option GNo
  of (call.Claim r) = Some r.g
  of what = runner_below e.m rows (length rows)

abbrev pub listed : Option GNo → List GNo
listed None = []
listed (Some g) = g ∷ []

-- the entries are steps from this state to that, and are these goroutines', in order
abbrev pub AreOf : Limits → List Entry → State → State → List GNo → Type 0
AreOf limits [] s s' gs = (s' ≡ s) × (gs ≡ [])
AreOf limits (e ∷ h) s s' gs = (mid : State) × (rest : List GNo) × IsStep limits e s mid × AreOf limits h mid s' rest × (gs ≡ listed (whose e s.table.goroutines) ++ rest)

-- the history is a legal run to this state, and all its entries but the first so many are these goroutines', in order
pub record RanTo (limits : Limits) (bodies : ℕ) (capacities : List ℕ) (early : ℕ) (history : List Entry) (last : State) (gs : List GNo) : Type 0 where
  pub mid : State
  pub legal : IsLegal limits bodies capacities (take early history) mid
  pub are : AreOf limits (drop early history) mid last gs

-- the last hundred are these goroutines', in order
abbrev pub IsLately : Limits → ℕ → List ℕ → List Entry → List GNo → Type 0
IsLately limits bodies capacities history gs = (last : State) × RanTo limits bodies capacities (length history - 100) history last gs
