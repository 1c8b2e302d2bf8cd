use Rattle.std.proofs.Common.{rules}
use Rattle.gmp_script.proofs.lines.with.Goals as goal

pub returns-in_err-capacity : goal.returns-in_err-capacity
returns-in_err-capacity c = search rules

pub returns-in_err-goroutine : goal.returns-in_err-goroutine
returns-in_err-goroutine c = search rules

pub returns-in_err-capacity-2 : goal.returns-in_err-capacity-2
returns-in_err-capacity-2 c = search rules

pub returns-in_err-channel : goal.returns-in_err-channel
returns-in_err-channel c = search rules

pub returns-in_err-channel-2 : goal.returns-in_err-channel-2
returns-in_err-channel-2 c = search rules

pub returns-in_err-channel-3 : goal.returns-in_err-channel-3
returns-in_err-channel-3 c = search rules

pub returns-in_err-channel-4 : goal.returns-in_err-channel-4
returns-in_err-channel-4 c = search rules

pub returns-in_err-goroutine-2 : goal.returns-in_err-goroutine-2
returns-in_err-goroutine-2 c = search rules

pub returns-in_err-value : goal.returns-in_err-value
returns-in_err-value c = search rules

pub returns-in_err-value-2 : goal.returns-in_err-value-2
returns-in_err-value-2 c = search rules

pub returns-in_ok-capacity : goal.returns-in_ok-capacity
returns-in_ok-capacity c = search rules

pub returns-in_ok-goroutine : goal.returns-in_ok-goroutine
returns-in_ok-goroutine c = search rules

pub returns-in_ok-capacity-2 : goal.returns-in_ok-capacity-2
returns-in_ok-capacity-2 c = search rules

pub returns-in_ok-channel : goal.returns-in_ok-channel
returns-in_ok-channel c = search rules

pub returns-in_ok-channel-2 : goal.returns-in_ok-channel-2
returns-in_ok-channel-2 c = search rules

pub returns-in_ok-channel-3 : goal.returns-in_ok-channel-3
returns-in_ok-channel-3 c = search rules

pub returns-in_ok-channel-4 : goal.returns-in_ok-channel-4
returns-in_ok-channel-4 c = search rules

pub returns-in_ok-goroutine-2 : goal.returns-in_ok-goroutine-2
returns-in_ok-goroutine-2 c = search rules

pub returns-in_ok-value : goal.returns-in_ok-value
returns-in_ok-value c = search rules

pub returns-in_ok-value-2 : goal.returns-in_ok-value-2
returns-in_ok-value-2 c = search rules

pub returns-else-eq-11 : goal.returns-else-eq-11
returns-else-eq-11 c = search rules

pub returns-in_err-processors : goal.returns-in_err-processors
returns-in_err-processors c = search rules

pub returns-in_ok-processors : goal.returns-in_ok-processors
returns-in_ok-processors c = search rules
