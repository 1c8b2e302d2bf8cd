use Rattle.std.proofs.Common.{take}
use Rattle.std.specs.Fmt.{HasWritten, IsPlainFormatter}
use Rattle.gmp_explain.specs.Text.{numbers_text}
use Rattle.gmp_explain.proofs.text.NumbersDisplay.fmt.Given as goal

-- those before were written
abbrev pub invariant-loop-value : goal.invariant-loop-value
invariant-loop-value g l =
    IsPlainFormatter l.initial.f → HasWritten g.W.Write.write_str_gives l.initial.f (numbers_text (take l.value-index l.self.0.now)) l.f
