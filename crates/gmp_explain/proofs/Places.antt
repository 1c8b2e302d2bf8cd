-- Who is at a machine, by the place where it was found.
use Rattle.std.proofs.Common.{◌≡◌, ℕ, Option, Some, None, IfSome, IfNone, sym, subst, inl, inr}
use Rattle.gmp_base.specs.declared.number.GNo.{GNo}
use Rattle.gmp_base.specs.declared.number.MNo.{MNo}
use Rattle.gmp_seq.specs.Table.{IsCalling, IsHeld, IsRunning, Table}
use Rattle.gmp_explain.specs.Stated.{IsAt}

pub running_there : (t : Table) (m : MNo) (n : ℕ) (g : GNo) → g.0 ≡ n → IsRunning t (record { 0 = n }) m → IsHeld t g m
running_there t m n g is runs = inl (subst (λ (k : ℕ). let h : GNo = record { 0 = k } in IsRunning t h m) (sym is) runs)

pub calling_there : (t : Table) (m : MNo) (n : ℕ) (g : GNo) → g.0 ≡ n → IsCalling t (record { 0 = n }) m → IsCalling t g m
calling_there t m n g is calls = subst (λ (k : ℕ). let h : GNo = record { 0 = k } in IsCalling t h m) (sym is) calls

-- nobody runs there, and this one calls, or nobody
pub one_calls : (t : Table) (m : MNo) (o : Option GNo) → ((g : GNo) → IsRunning t g m → ⊥) → IfSome o (λ g. IsCalling t g m) → IfNone o ((g : GNo) → IsCalling t g m → ⊥) → IsAt t m o
one_calls t m (Some g) none calls nobody = inr calls
one_calls t m None none calls nobody = λ g held. elim held [ inl runs ↦ none g runs | inr it ↦ nobody g it ]
