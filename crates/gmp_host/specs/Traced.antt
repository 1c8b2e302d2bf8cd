-- A run with its trace.
use Rattle.std.specs.Prelude.{◌≡◌, ℕ, List, Some}
use Rattle.gmp_seq.specs.declared.call.Limits.{Limits}
use Rattle.gmp_said.specs.Said.{AreSaid, Blocks, Resumes}
use Rattle.gmp_trace.specs.Text.{Content, end_of}
use Rattle.gmp_trace.specs.Text.Begins.{AtOpening}
use Rattle.gmp_host.specs.declared.traced.Traced.{Traced}
use Rattle.gmp_host.specs.Ends.{IsOfLegalRun}

-- what its trace says: it begins at the opening, and its end is the outcome
abbrev pub trace_of : Traced → Content
trace_of t = record { limits = t.limits; bodies = t.bodies; begins = AtOpening t.capacities.items; entries = t.history.list; end = end_of (Some t.ended.outcome) }

-- The run is legal under these limits, with these capacities and so many bodies, and this is its whole history.
pub record IsTraced (limits : Limits) (capacities : List ℕ) (bodies : ℕ) (t : Traced) : Type 0 where
  pub run : IsOfLegalRun limits capacities bodies t.ended
  pub history : t.history.list ≡ run.history
  pub limits_are : t.limits ≡ limits
  pub capacities_are : t.capacities.items ≡ capacities
  pub bodies_are : t.bodies ≡ bodies

-- Its history is what these bodies said: each of a goroutine's calls is what its body asked, told what the history gives it.
abbrev pub IsSaidTrace : {T : Type 0} → Resumes T → Blocks T → Limits → List ℕ → List T → Traced → Type 0
IsSaidTrace {T} resumes blocks limits capacities given t = (back : List T) × AreSaid resumes blocks limits capacities given t.history.list back
