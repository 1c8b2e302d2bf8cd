use Rattle.std.proofs.Common.{arith}
use Rattle.std.proofs.lemmas.Grind.{common_steps}
use Rattle.gmp_script.proofs.lines.selects.by_parts.Goals as goal

pub returns-in_err-channel-in-len2 : goal.returns-in_err-channel-in-len2
returns-in_err-channel-in-len2 c = grind (arith, common_steps)

pub returns-in_err-channel-in-len3 : goal.returns-in_err-channel-in-len3
returns-in_err-channel-in-len3 c = grind (arith, common_steps)

pub returns-in_err-value-in-len3 : goal.returns-in_err-value-in-len3
returns-in_err-value-in-len3 c = grind (arith, common_steps)

pub returns-in_ok-channel-in-len2 : goal.returns-in_ok-channel-in-len2
returns-in_ok-channel-in-len2 c = grind (arith, common_steps)

pub returns-in_ok-value-in-len3 : goal.returns-in_ok-value-in-len3
returns-in_ok-value-in-len3 c = grind (arith, common_steps)

pub returns-in_default : goal.returns-in_default
returns-in_default c = grind (arith, common_steps)

pub returns-in_default-2 : goal.returns-in_default-2
returns-in_default-2 c = grind (arith, common_steps)

pub returns-in_default-3 : goal.returns-in_default-3
returns-in_default-3 c = grind (arith, common_steps)

pub returns-in_default-4 : goal.returns-in_default-4
returns-in_default-4 c = grind (arith, common_steps)
