-- Why several goroutines become ready at once.
use Rattle.std.specs.Prelude.{Option}
use Rattle.gmp_base.specs.declared.ask.Woke.{Woke}
use Rattle.gmp_seq.specs.declared.status.Status.{Status}
use Rattle.gmp_seq.specs.Table.{due_answer}
use Rattle.gmp_seq.specs.Waits.{close_answer}
use Rattle.gmp_check.specs.declared.answers.Cause.{Cause}
use Rattle.gmp_check.specs.declared.answers.Cause.TheVariants.{Due, Closed}

-- what a goroutine is told, where it becomes ready
abbrev pub answer_for : Cause → Status → Option Woke
answer_for (Due now) = due_answer now
answer_for (Closed c) = close_answer c
