-- Who is served by a communication.
use Rattle.std.specs.Prelude.{Option, None, Some}
use Rattle.gmp_seq.specs.declared.status.Transfer.{Transfer}
use Rattle.gmp_seq.specs.declared.status.Transfer.TheVariants.{Handed, Relayed}
use Rattle.gmp_seq.specs.declared.status.Waiter.{Waiter}

-- the waiter that is served, if one is
abbrev pub served : Transfer → Option Waiter
served (Handed w) = Some w
served (Relayed v w) = Some w
served _ = None
