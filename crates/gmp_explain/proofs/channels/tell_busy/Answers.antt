use Rattle.std.proofs.Common.{ℕ, List, [], ◌∷◌, ◌++◌, subst}
use Rattle.gmp_seq.specs.declared.status.Direction.TheVariants.{Sending, Receiving}
use Rattle.gmp_start.specs.Start.{channel_of}
use Rattle.gmp_explain.specs.Spoken.{Remark, TellsOf}
use Rattle.gmp_explain.specs.Stated.{channel_now, values_said, waiting_said}
use Rattle.gmp_allowed.proofs.Results.{on_ok}
use Rattle.gmp_explain.proofs.Spoken.{behind, join}
use Rattle.gmp_explain.proofs.channels.tell_busy.Goals as goal

pub returns : goal.returns
returns g c =
    let told = g.S.Sink.told in
    let x = c.args.c in
    let channel = channel_of c.args.channel.now in
    let a = c.args.sink.now in
    let b = c.tell_state.new.sink in
    let d = c.tell_values.new.sink in
    let e = c.tell_closer.new.sink in
    let f = c.tell_waiting.new.sink in
    let h = c.tell_waiting-2.new.sink in
    let values : List Remark = values_said x channel.items in
    let sends : List Remark = waiting_said x Sending c.args.sending.now in
    let receives : List Remark = waiting_said x Receiving c.args.receiving.now in
    let held : TellsOf told values b d = subst (λ (l : List ℕ). TellsOf told (values_said x l) b d) c.deref.ensures.value c.in_ok-tell_values.ensures in
    on_ok c.tell_dealers.result (λ last.
    behind told a h c.tell_dealers.new.sink (channel_now x channel ∷ (values ++ (sends ++ receives)))
    (join told a b h (channel_now x channel ∷ []) (values ++ (sends ++ receives)) c.in_ok-tell_state.ensures
    (join told b e h values (sends ++ receives) (behind told b d e values held c.in_ok-tell_closer.ensures)
    (join told e f h sends receives c.in_ok-tell_waiting.ensures c.in_ok-tell_waiting-2.ensures))) last) c.tell_dealers.ensures
