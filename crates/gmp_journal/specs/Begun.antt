-- The state before the first entry of a history, where it is kept.
use Rattle.std.specs.Prelude.{Option, None, Some}
use Rattle.gmp_seq.specs.State.{State}
use Rattle.gmp_start.specs.Start.{state_of}
use Rattle.gmp_journal.specs.declared.segment.Begun.{Begun}
use Rattle.gmp_journal.specs.declared.segment.Begun.TheVariants.{Opening, At, Unknown}

-- of a run whose opening is the first
abbrev pub begun_of : Begun → State → Option State
begun_of Opening first = Some first
begun_of (At start) first = Some (state_of start)
begun_of Unknown first = None
