use Rattle.std.proofs.Common.{length, sym, subst}
use Rattle.gmp_base.specs.declared.cases.Case.TheVariants as case
use Rattle.gmp_check.proofs.Making.{make_leads, on_error}
use Rattle.gmp_check.proofs.Parts.{by_running, by_selecting, on_machines, on_number, on_table}
use Rattle.gmp_check.proofs.Consistency.{consistent_arrivals, consistent_young}
use Rattle.gmp_check.specs.Decides.{Decides}
use Rattle.gmp_seq.specs.Channels.{items_at}
use Rattle.gmp_seq.specs.Machines.{Sets}
use Rattle.gmp_seq.specs.State.{State}
use Rattle.gmp_seq.specs.Step.{Deals, Effect, Exits, Goparks, OnChannels, OnMachines, OnTable, Selects, Sleeps, Tells, Yields, EntersBy}
use Rattle.gmp_check.proofs.state.State.ask.Goals as goal

pub start-requires : goal.start-requires
start-requires c = consistent_young c.args.self.now _ c.self.view_is c.requires.consistent c.in-Go.h

pub spawn-requires : goal.spawn-requires
spawn-requires c = consistent_young c.args.self.now _ c.self-in-Spawn.view_is c.requires.consistent

pub give_way-requires : goal.give_way-requires
give_way-requires c = consistent_young c.args.self.now _ c.self-in-Yield.view_is c.requires.consistent c.args.g

pub sleep-requires : goal.sleep-requires
sleep-requires c = consistent_arrivals c.args.self.now _ c.self-in-Sleep.view_is c.requires.consistent

pub gopark-requires : goal.gopark-requires
gopark-requires c = consistent_arrivals c.args.self.now _ c.self-in-Gopark.view_is c.requires.consistent

pub ready-requires : goal.ready-requires
ready-requires c = consistent_young c.args.self.now _ c.self-in-Ready.view_is c.requires.consistent c.in-Ready.h

pub returns-in-Yield-clause-decides : goal.returns-in-Yield-clause-decides
returns-in-Yield-clause-decides c =
    let a = c.args in
    let i = c.self-in-Yield.inside in
    let new : State = record { table = c.give_way.new.self; channels = i.channels; machines = i.machines; counts = i.counts.items; outcome = i.outcome } in
    subst (λ x. Decides (Effect a.limits a.m x a.reply) a.self.now new c.give_way.result) (sym c.in-Yield.is)
    (by_running (λ h. OnTable (Yields h a.reply)) a.m a.g a.self.now new c.give_way.result c.requires.consistent c.requires.runs
    (on_table (Yields a.g a.reply) a.self.now _ c.self-in-Yield.view_is c.give_way.new.self c.give_way.result c.give_way.ensures))

pub returns-in-Exit-clause-decides : goal.returns-in-Exit-clause-decides
returns-in-Exit-clause-decides c =
    let a = c.args in
    let i = c.self-in-Exit.inside in
    let new : State = record { table = c.exit.new.self; channels = i.channels; machines = i.machines; counts = i.counts.items; outcome = i.outcome } in
    subst (λ x. Decides (Effect a.limits a.m x a.reply) a.self.now new c.exit.result) (sym c.in-Exit.is)
    (by_running (λ h. OnTable (Exits h a.reply)) a.m a.g a.self.now new c.exit.result c.requires.consistent c.requires.runs
    (on_table (Exits a.g a.reply) a.self.now _ c.self-in-Exit.view_is c.exit.new.self c.exit.result c.exit.ensures))

pub returns-in-Sleep-clause-decides : goal.returns-in-Sleep-clause-decides
returns-in-Sleep-clause-decides c =
    let a = c.args in
    let i = c.self-in-Sleep.inside in
    let new : State = record { table = c.sleep.new.self; channels = i.channels; machines = i.machines; counts = i.counts.items; outcome = i.outcome } in
    subst (λ x. Decides (Effect a.limits a.m x a.reply) a.self.now new c.sleep.result) (sym c.in-Sleep.is)
    (by_running (λ h. OnTable (Sleeps h c.in-Sleep.until a.reply)) a.m a.g a.self.now new c.sleep.result c.requires.consistent c.requires.runs
    (on_table (Sleeps a.g c.in-Sleep.until a.reply) a.self.now _ c.self-in-Sleep.view_is c.sleep.new.self c.sleep.result c.sleep.ensures))

pub returns-in-Procs-clause-decides : goal.returns-in-Procs-clause-decides
returns-in-Procs-clause-decides c =
    let a = c.args in
    let i = c.self-in-Procs.inside in
    let new : State = record { table = i.table; channels = i.channels; machines = c.procs.new.self; counts = i.counts.items; outcome = i.outcome } in
    subst (λ x. Decides (Effect a.limits a.m x a.reply) a.self.now new c.procs.result) (sym c.in-Procs.is)
    (by_running (λ h. OnMachines (Sets c.in-Procs.n a.reply)) a.m a.g a.self.now new c.procs.result c.requires.consistent c.requires.runs
    (on_machines (Sets c.in-Procs.n a.reply) a.self.now _ c.self-in-Procs.view_is c.procs.new.self c.procs.result c.procs.ensures))

pub returns-in-Gopark-clause-decides : goal.returns-in-Gopark-clause-decides
returns-in-Gopark-clause-decides c =
    let a = c.args in
    let i = c.self-in-Gopark.inside in
    let new : State = record { table = c.gopark.new.self; channels = i.channels; machines = i.machines; counts = i.counts.items; outcome = i.outcome } in
    subst (λ x. Decides (Effect a.limits a.m x a.reply) a.self.now new c.gopark.result) (sym c.in-Gopark.is)
    (by_running (λ h. OnTable (Goparks h a.reply)) a.m a.g a.self.now new c.gopark.result c.requires.consistent c.requires.runs
    (on_table (Goparks a.g a.reply) a.self.now _ c.self-in-Gopark.view_is c.gopark.new.self c.gopark.result c.gopark.ensures))

pub returns-in-Send-clause-decides : goal.returns-in-Send-clause-decides
returns-in-Send-clause-decides c =
    let a = c.args in
    subst (λ x. Decides (Effect a.limits a.m x a.reply) a.self.now c.deal.new.self c.deal.result) (sym c.in-Send.is)
    (by_running (λ h. Deals h (case.Send c.in-Send.c c.in-Send.v) a.reply) a.m a.g a.self.now c.deal.new.self c.deal.result c.requires.consistent c.requires.runs c.deal.ensures.decides)

pub returns-in-Recv-clause-decides : goal.returns-in-Recv-clause-decides
returns-in-Recv-clause-decides c =
    let a = c.args in
    subst (λ x. Decides (Effect a.limits a.m x a.reply) a.self.now c.deal-in-Recv.new.self c.deal-in-Recv.result) (sym c.in-Recv.is)
    (by_running (λ h. Deals h (case.Recv c.in-Recv.c) a.reply) a.m a.g a.self.now c.deal-in-Recv.new.self c.deal-in-Recv.result c.requires.consistent c.requires.runs c.deal-in-Recv.ensures.decides)

pub returns-in-Enter-clause-decides : goal.returns-in-Enter-clause-decides
returns-in-Enter-clause-decides c =
    let a = c.args in
    subst (λ x. Decides (Effect a.limits a.m x a.reply) a.self.now c.enter.new.self c.enter.result) (sym c.in-Enter.is)
    (by_running (λ h. EntersBy a.m h a.reply) a.m a.g a.self.now c.enter.new.self c.enter.result c.requires.consistent c.requires.runs c.enter.ensures.decides)

pub returns-in-Len-clause-decides : goal.returns-in-Len-clause-decides
returns-in-Len-clause-decides c =
    let a = c.args in
    subst (λ x. Decides (Effect a.limits a.m x a.reply) a.self.now a.self.now c.tells_len.result) (sym c.in-Len.is)
    (by_running (λ h old other. OnChannels (Tells (λ n. length (items_at old.channels n)) c.in-Len.c a.reply) old other) a.m a.g a.self.now a.self.now c.tells_len.result
    c.requires.consistent c.requires.runs
    (on_number (λ channels n. length (items_at channels n)) c.in-Len.c a.reply a.self.now _ c.self-in-Len.view_is c.tells_len.result c.tells_len.ensures))

pub returns-in-Select-clause-decides : goal.returns-in-Select-clause-decides
returns-in-Select-clause-decides c =
    let a = c.args in
    let k = c.in-Select in
    let is = subst (λ l. Decides (Selects a.g l k.has_default k.until a.reply) a.self.now c.select.new.self c.select.result) c.as_slice.ensures.value c.select.ensures.decides in
    subst (λ x. Decides (Effect a.limits a.m x a.reply) a.self.now c.select.new.self c.select.result) (sym k.is)
    (by_selecting a.limits a.m a.g k.cases k.has_default k.until a.reply a.self.now c.select.new.self c.select.result c.requires.consistent c.requires.runs c.as_slice.ensures.bound is)

pub returns-in_err-make-in-Make-clause-needed : goal.returns-in_err-make-in-Make-clause-needed
returns-in_err-make-in-Make-clause-needed c =
    let a = c.args in
    on_error c.from_residual.result _
    (make_leads a.limits a.m a.g c.in-Make.capacity a.call.now a.reply a.self.now _ c.self-in-Make.view_is c.in-Make.is c.requires.runs c.in_err-make-in-Make.ensures.needed)
