use Rattle.std.proofs.Common.{◌++◌, [], List, Option, map, refl, subst}
use Rattle.std.specs.Option.{option_map_or}
use Rattle.gmp_base.specs.declared.number.GNo.{GNo}
use Rattle.gmp_seq.specs.Waits.{Channel}
use Rattle.gmp_start.specs.Start.{channel_of, machines_of, table_of}
use Rattle.gmp_explain.specs.Spoken.{Remark, TellsOf}
use Rattle.gmp_explain.specs.Stated.{channels_said, does_said, machine_said, named, ticket_said}
use Rattle.gmp_allowed.proofs.Results.{on_ok}
use Rattle.gmp_explain.proofs.Spoken.{join}
use Rattle.gmp_explain.proofs.before.tell_before.Goals as goal

pub returns : goal.returns
returns g c =
    let told = g.S.Sink.told in
    let last = c.args.story.now.last in
    let entry = c.args.entry.now in
    let t = table_of last in
    let channels : List Channel = map channel_of last.channels.items in
    let a = c.args.sink.now in
    let b = c.tell_machine.new.sink in
    let d = c.tell_runner.new.sink in
    let e = c.tell_named.new.sink in
    let machine : List Remark = machine_said (machines_of last) entry.m c.held_by-holds.result in
    let runner : List Remark = option_map_or (does_said t) c.at_machine-at.result [] in
    let ticket : List Remark = option_map_or (ticket_said t) (named entry.call entry.reply) [] in
    let rest : List Remark = channels_said channels entry.call in
    let named_told : TellsOf told ticket d e =
    subst (λ (o : Option GNo). TellsOf told (option_map_or (ticket_said t) o []) d e) c.named.ensures c.in_ok-tell_named.ensures in
    on_ok c.tell_channels.result (λ end. record {
      said = machine ++ (runner ++ (ticket ++ rest));
      is_before = record {
        holds = c.held_by-holds.result;
        held = c.held_by-holds.ensures;
        at = c.at_machine-at.result;
        runs = c.at_machine-at.ensures;
        all = refl;
      };
      tells = join told a b c.tell_channels.new.sink machine (runner ++ (ticket ++ rest)) c.in_ok-tell_machine.ensures
          (join told b d c.tell_channels.new.sink runner (ticket ++ rest) c.in_ok-tell_runner.ensures (join told d e c.tell_channels.new.sink ticket rest named_told end));
    }) c.tell_channels.ensures
