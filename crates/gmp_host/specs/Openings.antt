-- What a host gives its run.
use Rattle.std.specs.Prelude.{◌≡◌, ◌≢◌, ℕ, ◌<◌, ◌≤◌, max, min}
use Rattle.gmp_base.specs.declared.number.GNo.{GNo}
use Rattle.gmp_seq.specs.declared.call.Limits.{Limits}
use Rattle.gmp_host.specs.declared.ending.Short.{Short}
use Rattle.gmp_host.specs.declared.ending.Short.TheVariants as short
use Rattle.gmp_host.specs.declared.settings.Settings.{Settings}

-- the limits that settings give: no more entries are kept than there are
abbrev pub limits_of : Settings → Limits
limits_of s = record { procs = s.procs; machines = s.machines; channels = s.channels; entries = s.entries; room = min s.entries s.room }

-- each goroutine behind main that was reserved has a body
abbrev pub IsCovered : ℕ → ℕ → Type 0
IsCovered reserved bodies = reserved < max bodies 1

-- the first that was reserved and has none
abbrev pub IsMissing : ℕ → ℕ → GNo → Type 0
IsMissing reserved bodies g = (g.0 ≡ max bodies 1) × (g.0 ≤ reserved)

-- a refusal that names a goroutine names that one
abbrev pub NamesMissing : ℕ → ℕ → Short → Type 0
NamesMissing reserved bodies e = (g : GNo) → e ≡ short.NoBody g → IsMissing reserved bodies g

-- it names none
abbrev pub NamesNobody : Short → Type 0
NamesNobody e = (g : GNo) → e ≢ short.NoBody g
