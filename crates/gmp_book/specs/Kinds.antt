-- What a call is handed and may give, by the call alone.
use Rattle.std.specs.Prelude.{Bool, true, false, not, ◌&&◌, ◌||◌}
use Rattle.gmp_seq.specs.declared.call.Call.{Call}
use Rattle.gmp_seq.specs.declared.call.Call.TheVariants as call

-- it is handed a goroutine that runs
abbrev pub hands_held : Call → Bool
hands_held call.Acquire = false
hands_held call.Take = false
hands_held (call.Put r) = false
hands_held (call.Claim r) = false
hands_held (call.Leave number) = false
hands_held call.Spin = false
hands_held call.Woken = false
hands_held call.Keep = false
hands_held call.Unspin = false
hands_held call.Poke = false
hands_held call.Declare = false
hands_held call.Bare = false
hands_held call.Park = false
hands_held (call.Tick moment) = false
hands_held _ = true

-- it is handed a goroutine that makes a blocking call
abbrev pub hands_called : Call → Bool
hands_called (call.Leave number) = true
hands_called _ = false

-- it is handed a processor
abbrev pub hands_proc : Call → Bool
hands_proc call.Enter = true
hands_proc call.Declare = true
hands_proc _ = false

-- it may give out a processor
abbrev pub gives_proc : Call → Bool
gives_proc call.Acquire = true
gives_proc (call.Leave number) = true
gives_proc _ = false

-- it gives out a body
abbrev pub gives_body : Call → Bool
gives_body (call.Claim r) = true
gives_body _ = false

-- it is handed a goroutine that runs, and nothing else
abbrev pub is_own : Call → Bool
is_own c = hands_held c && not (hands_proc c)

-- no body and no owner moves
abbrev pub moves_nothing : Call → Bool
moves_nothing c = not (hands_held c || hands_called c || hands_proc c || gives_proc c || gives_body c)

-- its goroutine goes on
abbrev pub goes_on : Call → Bool
goes_on (call.Go body) = true
goes_on call.Spawn = true
goes_on (call.Make capacity) = true
goes_on (call.Close c) = true
goes_on (call.Len c) = true
goes_on (call.Cap c) = true
goes_on (call.Procs n) = true
goes_on (call.Ready g) = true
goes_on _ = false

-- its goroutine goes on, or waits
abbrev pub may_wait : Call → Bool
may_wait (call.Send c v) = true
may_wait (call.Recv c) = true
may_wait (call.Select cases has_default until) = true
may_wait _ = false
