-- The pass that its parts stand for.
use Rattle.std.specs.Prelude.{ℕ, Bool, true, false, Option, Some, None}
use Rattle.gmp_base.specs.declared.pass.Pass.{Pass}
use Rattle.gmp_driver.specs.declared.pass.PassParts.{PassParts}

-- a pass of these parts, unless it is out
abbrev pub pass_unless : Bool → ℕ → PassParts → Option Pass
pass_unless true run parts = None
pass_unless false run parts = Some (record { run = run; m = parts.m; calls = parts.calls; seen = parts.seen })

-- the pass of this run, unless an act has it
abbrev pub pass_of : ℕ → PassParts → Option Pass
pass_of run parts = pass_unless parts.is_out run parts
