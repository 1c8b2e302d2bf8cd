-- The run that a book holds, as gmp_acts tells of it.
use Rattle.gmp_journal.specs.Log.{Log}
use Rattle.gmp_acts.specs.System.{BookRun}

abbrev pub run_of : Log → BookRun
run_of log = record { run = log.run; limits = log.limits; bodies = log.bodies; capacities = log.capacities; history = log.history; state = log.state }
