-- A run that is kept whole, as a trace.
use Rattle.gmp_acts.specs.System.{System}
use Rattle.gmp_trace.specs.Text.{Content, end_of}
use Rattle.gmp_trace.specs.Text.Begins.{AtOpening}

-- from the opening on, with all entries that there are
abbrev pub trace_of : System → Content
trace_of k = record { limits = k.book.limits; bodies = k.book.bodies; begins = AtOpening k.book.capacities; entries = k.book.history; end = end_of k.book.state.outcome }
