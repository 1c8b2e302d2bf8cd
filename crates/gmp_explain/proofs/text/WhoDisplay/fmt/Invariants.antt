use Rattle.std.proofs.Common.{◌++◌, codes, decimal, take}
use Rattle.std.specs.Fmt.{HasWritten, IsPlainFormatter}
use Rattle.std.specs.List.{flat_map}
use Rattle.gmp_base.specs.declared.number.GNo.{GNo}
use Rattle.gmp_explain.proofs.text.WhoDisplay.fmt.Given as goal

-- those before were written
abbrev pub invariant-loop-g : goal.invariant-loop-g
invariant-loop-g g l =
    IsPlainFormatter l.initial.f
    → HasWritten g.W.Write.write_str_gives l.initial.f (flat_map (λ (x : GNo). codes " " ++ decimal x.0) (take l.g-index l.self.0.now)) l.f
