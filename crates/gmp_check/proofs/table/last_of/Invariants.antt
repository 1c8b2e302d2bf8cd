use Rattle.std.proofs.Common.{◌≡◌, ◌<◌, Some}
use Rattle.std.specs.List.{slice_get}
use Rattle.gmp_base.specs.declared.number.GNo.{GNo}
use Rattle.gmp_base.specs.declared.number.MNo.{MNo}
use Rattle.gmp_seq.specs.Table.{IsHeld}
use Rattle.gmp_start.specs.Start.{table_of}
use Rattle.gmp_check.proofs.table.last_of.Given as goal

abbrev pub invariant-loop-g : goal.invariant-loop-g
invariant-loop-g l = (m : MNo) (h : GNo) → h.0 < l.g → IsHeld (table_of l.start) h m → slice_get l.last m.0 ≡ Some h
