-- The run that a journal's parts make.
use Rattle.gmp_seq.specs.State.{opening}
use Rattle.gmp_journal.specs.Begun.{begun_of}
use Rattle.gmp_journal.specs.declared.journal.Journal.TheInside.{Inside}
use Rattle.gmp_journal.specs.Log.{Log}
use Rattle.gmp_journal.specs.Scene.{scheduler_state}

abbrev pub log_of : Inside → Log
log_of l = record {
  run = l.run;
  limits = l.limits;
  bodies = l.bodies;
  capacities = l.capacities.items;
  begun = begun_of l.begun (opening l.limits l.bodies l.capacities.items);
  history = l.entries.list;
  state = scheduler_state l.scheduler;
  shelf = l.scheduler.goroutines.shelf;
  stopped = l.stopped;
  closed = l.is_closed;
}
