-- The names that most of these proofs cite, passed on from one place. Declares nothing.
pub use Rattle.std.proofs.Common.{◌≡◌, ℕ, zero, suc, ◌+◌, ◌-◌, ◌<◌, ◌≤◌, ◌==◌, Bool, true, false, not, cond, inl, inr, Option, Some, None, List, [], ◌∷◌, ◌++◌, length, set, slice_get, is_some, nat_lt, refl, sym, ap, subst, ◌∙◌, arith, rules}
pub use Rattle.std.proofs.lemmas.Bool.{false≢true, eqb-true, eq-eqb, cases_eq}
pub use Rattle.std.proofs.lemmas.Bool.Decides.{nat_tests}
pub use Rattle.gmp_base.specs.declared.cases.Case.{Case}
pub use Rattle.gmp_base.specs.declared.number.CNo.{CNo}
pub use Rattle.gmp_base.specs.declared.number.GNo.{GNo}
pub use Rattle.gmp_base.specs.declared.number.MNo.{MNo}
pub use Rattle.gmp_seq.specs.declared.status.Goroutine.{Goroutine}
pub use Rattle.gmp_seq.specs.declared.status.Kind.{Kind}
pub use Rattle.gmp_seq.specs.declared.status.Offer.{Offer}
pub use Rattle.gmp_seq.specs.declared.status.Status.{Status}
pub use Rattle.gmp_seq.specs.declared.status.Status.TheVariants.{Running, Waiting}
pub use Rattle.gmp_seq.specs.declared.status.Wait.{Wait}
pub use Rattle.gmp_seq.specs.declared.status.Waiter.{Waiter}
pub use Rattle.gmp_seq.specs.Table.{Table, IsRunning, status_at}
pub use Rattle.gmp_seq.proofs.Manned.{status_of}
pub use Rattle.gmp_seq.specs.Waits.{as_waiters, arrived, arrived_among, first_waiters, waiters}
pub use Rattle.gmp_seq.proofs.OneEach.{row_at}
