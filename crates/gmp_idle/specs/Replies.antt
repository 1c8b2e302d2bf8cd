-- The reply that each answer stands for.
use Rattle.std.specs.Prelude.{ℕ, Option, None, Some}
use Rattle.gmp_base.specs.declared.ask.Fault.TheVariants as fault
use Rattle.gmp_base.specs.declared.number.MNo.{MNo}
use Rattle.gmp_base.specs.declared.number.PNo.{PNo}
use Rattle.gmp_seq.specs.declared.call.Reply.{Reply}
use Rattle.gmp_seq.specs.declared.call.Reply.TheVariants as reply

abbrev pub acquire_reply : Option PNo → Reply
acquire_reply (Some p) = reply.Proc p
acquire_reply None = reply.Nothing

abbrev pub procs_reply : Option ℕ → Reply
procs_reply (Some before) = reply.Number before
procs_reply None = reply.Fault fault.BadProcs

abbrev pub poke_reply : Option MNo → Reply
poke_reply (Some m) = reply.Wakes m
poke_reply None = reply.Nothing
