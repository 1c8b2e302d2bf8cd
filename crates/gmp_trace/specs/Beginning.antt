-- Where the entries of a text begin.
use Rattle.std.specs.Prelude.{◌≡◌, ◌≤◌, ◌<◌, ◌^◌, ℕ, List, ◌++◌, slice_index}
use Rattle.gmp_base.specs.declared.number.MNo.{MNo}
use Rattle.gmp_seq.specs.declared.call.Limits.{Limits}
use Rattle.gmp_trace.specs.declared.trace.Version.{Version}
use Rattle.gmp_trace.specs.declared.whole.First.{First}
use Rattle.gmp_trace.specs.HasText.{IsBeginning, Origin}
use Rattle.gmp_trace.specs.Text.{Begins, begins_text, version_of}

-- the numbers of a start that was read
pub record IsSmall (first : First) : Type 0 where
  pub machines : first.machines ≤ 64
  pub number : first.number < 2 ^ 63
  pub lines : first.lines ≤ 1000000
  pub made : (m : ℕ) → m < 64 → slice_index first.made m < 2 ^ 63

-- the entries begin there
pub record IsFirst (first : First) (from : Origin) : Type 0 where
  pub small : IsSmall first
  pub machines : from.machines ≡ first.machines
  pub number : from.number ≡ first.number
  pub lines : from.lines ≡ first.lines
  pub made : (m : MNo) → m.0 < 64 → slice_index first.made m.0 ≡ from.made m

-- behind line 2 of this version stands this beginning, and then the rest
pub record BeginsSo (version : Version) (limits : Limits) (bodies : ℕ) (text : List ℕ) (b : Begins) (rest : List ℕ) : Type 0 where
  pub of_version : version_of limits b ≡ version
  pub allowed : IsBeginning limits bodies b
  pub whole : text ≡ begins_text b ++ rest
