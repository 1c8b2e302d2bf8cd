-- The state that a start is a copy of.
use Rattle.std.specs.Prelude.{map, None}
use Rattle.gmp_seq.specs.Channels.{Channel}
use Rattle.gmp_seq.specs.Machines.{Machines}
use Rattle.gmp_seq.specs.State.{State}
use Rattle.gmp_seq.specs.Table.{Table}
use Rattle.gmp_start.specs.declared.start.Start.{Start}
use Rattle.gmp_start.specs.declared.start.StartChannel.{StartChannel}

-- the channel that it is a copy of
abbrev pub channel_of : StartChannel → Channel
channel_of c = record { capacity = c.capacity; items = c.items.items; closed = c.closed }

-- its goroutines, the number of arrivals and the clock
abbrev pub table_of : Start → Table
table_of s = record { goroutines = s.goroutines.items; arrivals = s.arrivals; clock = s.clock }

-- who holds each processor, what each machine does, and how many processors are active
abbrev pub machines_of : Start → Machines
machines_of s = record { holders = s.holders.items; modes = s.modes.items; spinning = s.spinning.items; marked = s.marked.items; active = s.active }

-- all of it; the run lasts there
abbrev pub state_of : Start → State
state_of s = record { table = table_of s; channels = map channel_of s.channels.items; machines = machines_of s; counts = s.counts.items; outcome = None }
