-- What a call has for a goroutine to be told, whatever the reply.
use Rattle.std.specs.Prelude.{Option, None, Some}
use Rattle.gmp_base.specs.declared.ask.Woke.{Woke}
use Rattle.gmp_base.specs.declared.ask.Woke.TheVariants as woke
use Rattle.gmp_seq.specs.declared.call.Call.{Call}
use Rattle.gmp_seq.specs.declared.call.Call.TheVariants as call
use Rattle.gmp_seq.specs.Table.{Table, stored_at}

-- a claim has what was stored for its goroutine, the end of a blocking call its number
abbrev pub known_by : Call → Table → Option Woke
known_by (call.Claim r) t = Some (stored_at t r.g)
known_by (call.Leave number) t = Some (woke.Number number)
known_by _ t = None
