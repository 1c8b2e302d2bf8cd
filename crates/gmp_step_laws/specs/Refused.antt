-- Runs of the scheduler by a script's bodies where memory may refuse a make. The goroutine that asked it is told so and goes on, and there is no
-- entry.
use Rattle.std.specs.Prelude.{ℕ, List, Contains}
use Rattle.gmp_said.specs.Said.{IsSaid}
use Rattle.gmp_script.specs.declared.commands.Command.TheVariants.{Make}
use Rattle.gmp_script.specs.Script.{AsksTold, BringsLast, Commands}
use Rattle.gmp_seq.specs.declared.call.Entry.{Entry}
use Rattle.gmp_seq.specs.declared.call.Limits.{Limits}
use Rattle.gmp_seq.specs.State.{State}
use Rattle.gmp_scene.specs.Scripted.{Speakers}

-- a legal run of the scheduler by these bodies, from its opening to this state, where memory may refuse makes
abbrev pub IsRunButMakes : Limits → List ℕ → List Commands → List Entry → State → Speakers → Type 0
IsRunButMakes = IsSaid AsksTold BringsLast

-- no command of the body is a make
abbrev pub HasNoMake : Commands → Type 0
HasNoMake b = (capacity : ℕ) → ¬ (Contains b.commands (Make capacity))
