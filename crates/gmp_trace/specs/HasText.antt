-- Which traces have a text.
use Rattle.std.specs.Prelude.{◌≡◌, ℕ, ◌+◌, ◌<◌, ◌==◌, Bool, true, false, List, [], ◌∷◌, ◌++◌, IsTrue, count_by, length, slice_index, All}
use Rattle.std.specs.List.{AllByRecursion}
use Rattle.gmp_base.specs.declared.ask.Fault.TheVariants as fault
use Rattle.gmp_base.specs.declared.number.MNo.{MNo}
use Rattle.gmp_seq.specs.declared.call.Call.{Call}
use Rattle.gmp_seq.specs.declared.call.Call.TheVariants as call
use Rattle.gmp_seq.specs.declared.call.Entry.{Entry}
use Rattle.gmp_seq.specs.declared.call.Reply.{Reply}
use Rattle.gmp_seq.specs.declared.call.Reply.TheVariants as reply
use Rattle.gmp_seq.specs.Fits.{AreLimits, Fits}
use Rattle.gmp_seq.specs.declared.call.Limits.{Limits}
use Rattle.gmp_trace.specs.Pieces.{is_whole}
use Rattle.gmp_trace.specs.StartWhole.{IsStart}
use Rattle.gmp_trace.specs.Text.{Begins, Content, first_number}
use Rattle.gmp_trace.specs.Text.Begins.{AtOpening, AtState}

-- may the call be answered so
abbrev pub answers : Call → Reply → Bool
answers call.Acquire (reply.Proc p) = true
answers call.Acquire reply.Nothing = true
answers call.Take (reply.Ticket r) = true
answers call.Take reply.Nothing = true
answers (call.Put r) reply.Shelf = true
answers (call.Claim r) reply.Held = true
answers (call.Go g) (reply.Ticket r) = true
answers (call.Go g) (reply.Fault fault.NoSuchBody) = true
answers (call.Go g) (reply.Fault fault.AlreadyStarted) = true
answers call.Spawn (reply.Ticket r) = true
answers call.Spawn (reply.Fault fault.NoSuchBody) = true
answers call.Yield (reply.Shelved r) = true
answers call.Exit reply.Dead = true
answers call.Exit reply.MainEnded = true
answers (call.Make capacity) (reply.Channel c) = true
answers (call.Make capacity) (reply.Fault fault.BadCapacity) = true
answers (call.Make capacity) (reply.Fault fault.TooManyChannels) = true
answers (call.Send c v) (reply.Sent to) = true
answers (call.Send c v) reply.Waits = true
answers (call.Send c v) (reply.Fault fault.NoSuchChannel) = true
answers (call.Send c v) (reply.Fault fault.SendOnClosed) = true
answers (call.Recv c) (reply.Got v sent from) = true
answers (call.Recv c) reply.Waits = true
answers (call.Recv c) (reply.Fault fault.NoSuchChannel) = true
answers (call.Close c) (reply.Closed n) = true
answers (call.Close c) (reply.Fault fault.NoSuchChannel) = true
answers (call.Close c) (reply.Fault fault.CloseOfClosed) = true
answers (call.Close c) (reply.Fault fault.CloseOfNil) = true
answers (call.Len c) (reply.Number n) = true
answers (call.Len c) (reply.Fault fault.NoSuchChannel) = true
answers (call.Cap c) (reply.Number n) = true
answers (call.Cap c) (reply.Fault fault.NoSuchChannel) = true
answers (call.Procs n) (reply.Number before) = true
answers (call.Procs n) (reply.Fault fault.BadProcs) = true
answers (call.Select cases has_default until) (reply.Chose i told) = true
answers (call.Select cases has_default until) reply.Default = true
answers (call.Select cases has_default until) reply.Waits = true
answers (call.Select cases has_default until) (reply.Fault fault.NoSuchChannel) = true
answers (call.Sleep until) reply.Waits = true
answers call.Gopark reply.Waits = true
answers (call.Ready g) (reply.Ticket r) = true
answers (call.Ready g) (reply.Fault fault.NoSuchBody) = true
answers (call.Ready g) (reply.Fault fault.NotParked) = true
answers call.Enter (reply.Entered p m) = true
answers (call.Leave n) (reply.Runs p) = true
answers (call.Leave n) (reply.Shelved r) = true
answers call.Spin (reply.Answer b) = true
answers call.Woken (reply.Answer b) = true
answers call.Keep (reply.Answer b) = true
answers call.Unspin reply.Done = true
answers call.Poke (reply.Wakes m) = true
answers call.Poke reply.Nothing = true
answers call.Declare (reply.Idle p) = true
answers call.Bare reply.Done = true
answers call.Park reply.Parked = true
answers call.Park reply.Work = true
answers call.Park (reply.Mind until) = true
answers call.Park reply.AllAsleep = true
answers call.Park reply.LookAgain = true
answers (call.Tick moment) (reply.Woke n) = true
answers _ _ = false

-- how many entries are the machine's
abbrev pub turns : MNo → List Entry → ℕ
turns m es = count_by (λ (e : Entry). e.m.0 == m.0) es

-- where the entries of a trace begin: how many machines there are, the number of the first entry, how many lines stand before it, and how many
-- entries each machine made before
pub record Origin : Type 0 where
  pub machines : ℕ
  pub number : ℕ
  pub lines : ℕ
  pub made : MNo → ℕ

-- lines 1 to 3 of version 1; of versions 2 and 4 lines 1 and 2, six of the machines, a line for each channel and goroutine, and `begin`
abbrev pub lines_before : Begins → ℕ
lines_before (AtOpening capacities) = 3
lines_before (AtState s) = 9 + length s.channels + length s.table.goroutines

-- how many entries the machine made before the first one of the trace
abbrev pub made_before : Begins → MNo → ℕ
made_before (AtOpening capacities) m = 0
made_before (AtState s) m = slice_index s.counts m.0

abbrev pub origin : ℕ → Begins → Origin
origin machines b = record { machines = machines; number = first_number b; lines = lines_before b; made = made_before b }

-- a run within these limits, by so many goroutines, may begin so; at the opening only one whose history is kept whole
abbrev pub IsBeginning : Limits → ℕ → Begins → Type 0
IsBeginning limits bodies (AtOpening capacities) = AreLimits limits bodies capacities × (is_whole limits ≡ true)
IsBeginning limits bodies (AtState s) = AreLimits limits bodies [] × IsStart limits bodies s

-- behind these entries, each is of one of the machines, and its number is how many entries its machine made before
abbrev pub AreNumbered : Origin → List Entry → List Entry → Type 0
AreNumbered from before [] = Unit {0}
AreNumbered from before (e ∷ es) = (e.m.0 < from.machines) × (e.k ≡ from.made e.m + turns e.m before) × AreNumbered from (before ++ e ∷ []) es

-- The run may begin so, the numbers of each entry are within their types, the entries are numbered, and each call is answered as it may be.
pub record HasText (x : Content) : Type 0 where
  pub beginning : IsBeginning x.limits x.bodies x.begins
  pub fits : All Fits x.entries
  pub numbered : AreNumbered (origin x.limits.machines x.begins) [] x.entries
  pub answered : AllByRecursion (λ (e : Entry). IsTrue (answers e.call e.reply)) x.entries
