use Rattle.std.proofs.Common.{sym, ap, ◌∙◌}
use Rattle.std.specs.List.{slice_get}
use Rattle.gmp_start.specs.Start.{channel_of}
use Rattle.gmp_check.proofs.Beginning.{mapped_at}
use Rattle.gmp_check.proofs.state.State.begin.Goals as goal

pub begin-requires-2 : goal.begin-requires-2
begin-requires-2 c k x at =
    c.requires.consistent.1.together.room (record { 0 = k }) (channel_of x)
    (mapped_at channel_of c.args.start.now.channels.items k x (ap (λ l. slice_get l k) (sym c.deref.ensures.value) ∙ at))
