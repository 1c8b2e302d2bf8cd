use Rattle.std.proofs.Common.{take}
use Rattle.std.specs.Fmt.{HasWritten, IsPlainFormatter}
use Rattle.gmp_explain.specs.Text.{often_text}
use Rattle.gmp_explain.proofs.text.OftenDisplay.fmt.Given as goal

-- those before were written
abbrev pub invariant-loop-i : goal.invariant-loop-i
invariant-loop-i g l =
    IsPlainFormatter l.initial.f → HasWritten g.W.Write.write_str_gives l.initial.f (often_text (take l.i l.self.0.now)) l.f
