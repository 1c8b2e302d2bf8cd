use Rattle.std.proofs.Common.{◌≡◌, take}
use Rattle.gmp_script.proofs.commands.ScriptBody.copied.Given as goal

-- the commands before the index are copied
abbrev pub invariant-loop-command : goal.invariant-loop-command
invariant-loop-command l = l.commands.items ≡ take l.command-index l.command-items
