-- The reply that each answer stands for.
use Rattle.std.specs.Prelude.{Option, None, Some}
use Rattle.gmp_base.specs.declared.number.Readiness.{Readiness}
use Rattle.gmp_seq.specs.declared.call.Reply.{Reply}
use Rattle.gmp_seq.specs.declared.call.Reply.TheVariants as reply
use Rattle.gmp_book.specs.declared.answers.Exited.{Exited}
use Rattle.gmp_book.specs.declared.answers.Exited.TheVariants as exited
use Rattle.gmp_book.specs.declared.answers.Parking.{Parking}
use Rattle.gmp_book.specs.declared.answers.Parking.TheVariants as parks

abbrev pub take_reply : Option Readiness → Reply
take_reply (Some r) = reply.Ticket r
take_reply None = reply.Nothing

abbrev pub exit_reply : Exited → Reply
exit_reply exited.Dead = reply.Dead
exit_reply exited.MainEnded = reply.MainEnded

abbrev pub park_reply : Parking → Reply
park_reply parks.Parked = reply.Parked
park_reply parks.Work = reply.Work
park_reply parks.LookAgain = reply.LookAgain
park_reply (parks.Mind until) = reply.Mind until
park_reply parks.AllAsleep = reply.AllAsleep
