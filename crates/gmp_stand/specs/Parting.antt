-- A run that is written in parts, of which the text of one is kept.
use Rattle.std.specs.Prelude.{List, ℕ, []}
use Rattle.gmp_parts.specs.Writing.{Writing}

-- the same, by what f sees of where the parts go
abbrev pub seen_by : {W V : Type 0} → (W → V) → Writing W → Writing V
seen_by f w = record { limits = w.limits; bodies = w.bodies; state = w.state; entries = w.entries; parts = w.parts; failed = w.failed; out = f w.out }

-- what was written of a run, and the text of the part that was written last
abbrev pub Parting : Type 0
Parting = Writing (List ℕ)

-- the same with no text
abbrev pub textless : Parting → Parting
textless p = record p { out = [] }
