-- Parts of a run, and of a trace.
use Rattle.std.specs.Prelude.{◌≡◌, ◌≢◌, ◌⊎◌, ◌<◌, ◌++◌, ℕ, Option, List, drop, length, take}
use Rattle.gmp_seq.specs.declared.call.Entry.{Entry}
use Rattle.gmp_seq.specs.declared.call.Limits.{Limits}
use Rattle.gmp_seq.specs.declared.call.Outcome.{Outcome}
use Rattle.gmp_seq.specs.Run.{Run}
use Rattle.gmp_seq.specs.State.{State}
use Rattle.gmp_trace.specs.declared.trace.End.{End}
use Rattle.gmp_trace.specs.declared.trace.End.TheVariants as end_
use Rattle.gmp_trace.specs.Text.{Content}
use Rattle.gmp_trace.specs.Text.Begins.{AtState}
use Rattle.gmp_check.specs.Checked.{IsRightPart, Part, start_of}
use Rattle.gmp_check.specs.Consistent.{MayBegin}
use Rattle.gmp_check.specs.Replayed.{EndsWith}

-- no part begins at entry n: there are fewer entries, or the run ended with the last of them
abbrev pub IsPastEnd : List Entry → End → ℕ → Type 0
IsPastEnd h end n = (length h < n) ⊎ ((length h ≡ n) × (end ≢ end_.Running))

-- the part from entry n on begins at this state, and has these entries
pub record IsSecond (x : Part) (n : ℕ) (start : State) (h : List Entry) : Type 0 where
  pub within : IsPastEnd x.entries x.end n → ⊥
  pub led : Run x.limits x.start (take n x.entries) start
  pub rest : h ≡ drop n x.entries
  pub begins : MayBegin x.limits start
  -- it is right where the whole is
  pub right : (o : Option Outcome) → IsRightPart x o → IsRightPart (record x { start = start; entries = h }) o

-- these are the entries of a run from a to b and of one from there on
pub record AreJoined (limits : Limits) (a : State) (h : List Entry) (b : State) (k all : List Entry) : Type 0 where
  pub led : Run limits a h b
  pub all_are : all ≡ h ++ k
  -- together they end as the second run does
  pub ends : (o : Option Outcome) → EndsWith limits b k o → EndsWith limits a all o

-- Traces

-- the trace has no part from entry n on
abbrev pub IsPast : Content → ℕ → Type 0
IsPast x n = IsPastEnd x.entries x.end n

-- y is the part of x from entry n on: it begins at the state to which the entries before lead, and has the others
pub record IsPart (x : Content) (n : ℕ) (y : Content) : Type 0 where
  pub within : IsPast x n → ⊥
  pub start : State
  pub led : Run x.limits (start_of x) (take n x.entries) start
  pub part : y ≡ record x { begins = AtState start; entries = drop n x.entries }

-- they are of the same size
abbrev pub AreAlike : Content → Content → Type 0
AreAlike x y = (y.limits ≡ x.limits) × (y.bodies ≡ x.bodies)

-- y goes on where x stops: it is of the same size, and the entries of x lead to the state before its own
pub record Meets (x y : Content) : Type 0 where
  pub limits : y.limits ≡ x.limits
  pub bodies : y.bodies ≡ x.bodies
  pub led : Run x.limits (start_of x) x.entries (start_of y)

-- z is both as one: it begins as x and ends as y
pub record IsJoined (x y z : Content) : Type 0 where
  pub meets : Meets x y
  pub whole : z ≡ record x { entries = x.entries ++ y.entries; end = y.end }
