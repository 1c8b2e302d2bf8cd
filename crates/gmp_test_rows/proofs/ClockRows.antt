-- Worked traces of deadlines, parking and nonsense.
use Rattle.gmp_base.specs.declared.ask.Fault.TheVariants as fault
use Rattle.gmp_base.specs.declared.ask.Woke.TheVariants as woke
use Rattle.gmp_base.specs.declared.cases.Case.TheVariants as case
use Rattle.gmp_seq.proofs.Runs.{run_join}
use Rattle.gmp_test_rows.proofs.Traces.{goroutine, machine, processor, channel, ticket, entry, does, limits, under}
use Rattle.gmp_seq.specs.Run.{Run}
use Rattle.gmp_seq.specs.State.{State, opening}
use Rattle.gmp_seq.specs.Waits.{new_channel}
use Rattle.gmp_seq.specs.declared.call.Call.TheVariants as call
use Rattle.gmp_seq.specs.declared.call.Entry.{Entry}
use Rattle.gmp_seq.specs.declared.call.Outcome.TheVariants as outcome
use Rattle.gmp_seq.specs.declared.call.Reply.TheVariants as reply
use Rattle.gmp_seq.specs.declared.status.Deal.TheVariants as deal
use Rattle.gmp_seq.specs.declared.status.Kind.TheVariants as kind
use Rattle.gmp_seq.specs.declared.status.Mode.TheVariants as mode
use Rattle.gmp_seq.specs.declared.status.TicketPlace.TheVariants.{Shelf, Out}
use Rattle.gmp_seq.specs.declared.status.Status.TheVariants as status
use Rattle.std.proofs.Common.{lit<, lit≤, false, None, Some, List, [], ◌∷◌, ◌++◌, refl}

-- a select is late: its offer is gone, and a send waits for good
abbrev pub late_1 : List Entry
late_1 =
    entry 0 0 call.Acquire (reply.Proc (processor 0)) ∷
    entry 0 1 call.Take (reply.Ticket (ticket 0 1)) ∷
    entry 0 2 (call.Claim (ticket 0 1)) reply.Held ∷
    entry 0 3 (call.Select (case.Recv (Some (channel 0)) ∷ []) false (Some 50)) reply.Waits ∷
    entry 0 4 call.Take reply.Nothing ∷
    entry 0 5 call.Declare (reply.Idle (processor 0)) ∷
    entry 0 6 call.Park (reply.Mind 50) ∷
    entry 0 7 (call.Tick 50) (reply.Woke 1) ∷
    []

abbrev pub late_after_1 : State
late_after_1 =
    record {
      table = record { goroutines = does (status.Ready Shelf woke.Late) 2 ∷ []; arrivals = 1; clock = 50 };
      channels = new_channel 0 ∷ [];
      machines = record { holders = None ∷ []; modes = mode.Awake ∷ []; spinning = false ∷ []; marked = false ∷ []; active = 1 };
      counts = 8 ∷ [];
      outcome = None;
    }

late_1_goes : Run (limits 1 1 16 10000) (opening (limits 1 1 16 10000) 1 (0 ∷ [])) late_1 late_after_1
late_1_goes = (
  _,
  (refl, (refl, ((refl, refl, (refl, under refl), refl), refl, refl), refl, refl)),
  (
    _,
    (refl, (refl, (refl, ((_, refl, refl), refl, refl)), refl, refl)),
    (
      _,
      (refl, (refl, ((refl, refl, refl), refl, ((_, refl, refl), refl, refl)), refl, refl)),
      (
        _,
        (refl, (refl, (lit≤ tt, (goroutine 0, refl, (refl, refl, (refl, refl, refl, refl)))), refl, refl)),
        (
          _,
          (refl, (refl, (refl, ((refl, refl), refl, refl)), refl, refl)),
          (
            _,
            (refl, (refl, (refl, ((refl, refl, refl), refl, refl)), refl, refl)),
            (
              _,
              (refl, (refl, ((refl, refl, refl), (refl, refl, refl, (refl, refl, refl))), refl, refl)),
              (
                _,
                (refl, (refl, (refl, ((refl, refl), refl, refl)), refl, refl)),
                refl,
              ),
            ),
          ),
        ),
      ),
    ),
  ),
)

abbrev pub late_2 : List Entry
late_2 =
    entry 0 8 call.Acquire (reply.Proc (processor 0)) ∷
    entry 0 9 call.Take (reply.Ticket (ticket 0 2)) ∷
    []

abbrev pub late_after_2 : State
late_after_2 =
    record {
      table = record { goroutines = does (status.Ready Out woke.Late) 2 ∷ []; arrivals = 1; clock = 50 };
      channels = new_channel 0 ∷ [];
      machines = record { holders = Some (machine 0) ∷ []; modes = mode.Awake ∷ []; spinning = false ∷ []; marked = false ∷ []; active = 1 };
      counts = 10 ∷ [];
      outcome = None;
    }

late_2_goes : Run (limits 1 1 16 10000) late_after_1 late_2 late_after_2
late_2_goes = (
  _,
  (refl, (refl, ((refl, refl, (refl, under refl), refl), refl, refl), refl, refl)),
  (
    _,
    (refl, (refl, (refl, ((_, refl, refl), refl, refl)), refl, refl)),
    refl,
  ),
)

abbrev pub late_3 : List Entry
late_3 =
    entry 0 10 call.Poke reply.Nothing ∷
    entry 0 11 (call.Claim (ticket 0 2)) reply.Held ∷
    entry 0 12 (call.Send (Some (channel 0)) 9) reply.Waits ∷
    entry 0 13 call.Take reply.Nothing ∷
    entry 0 14 call.Declare (reply.Idle (processor 0)) ∷
    entry 0 15 call.Park reply.AllAsleep ∷
    []

abbrev pub late_end : State
late_end =
    record {
      table = record { goroutines = does (status.Waiting (record { arrival = 1; kind = kind.Plain; offers = record { case = 0; channel = channel 0; deal = deal.Send 9 } ∷ []; until = None })) 2 ∷ []; arrivals = 2; clock = 50 };
      channels = new_channel 0 ∷ [];
      machines = record { holders = None ∷ []; modes = mode.Awake ∷ []; spinning = false ∷ []; marked = false ∷ []; active = 1 };
      counts = 16 ∷ [];
      outcome = Some outcome.AllAsleep;
    }

late_3_goes : Run (limits 1 1 16 10000) late_after_2 late_3 late_end
late_3_goes = (
  _,
  (refl, (refl, ((refl, refl, refl), refl, refl), refl, refl)),
  (
    _,
    (refl, (refl, ((refl, refl, refl), refl, ((_, refl, refl), refl, refl)), refl, refl)),
    (
      _,
      (refl, (refl, (goroutine 0, refl, (refl, (refl, refl, refl, refl))), refl, refl)),
      (
        _,
        (refl, (refl, (refl, ((refl, refl), refl, refl)), refl, refl)),
        (
          _,
          (refl, (refl, (refl, ((refl, refl, refl), refl, refl)), refl, refl)),
          (
            _,
            (refl, (refl, ((refl, refl, refl), (refl, refl, (refl, refl, refl))), refl, refl)),
            refl,
          ),
        ),
      ),
    ),
  ),
)

pub late_is_legal : Run (limits 1 1 16 10000) (opening (limits 1 1 16 10000) 1 (0 ∷ [])) (late_1 ++ (late_2 ++ late_3)) late_end
late_is_legal =
    run_join (limits 1 1 16 10000) (opening (limits 1 1 16 10000) 1 (0 ∷ [])) late_after_1 late_end late_1 (late_2 ++ late_3) late_1_goes
    (run_join (limits 1 1 16 10000) late_after_1 late_after_2 late_end late_2 (late_3) late_2_goes
    (late_3_goes))

-- two sleeps, the second already due; the clock doesn't go back
abbrev pub sleeping_1 : List Entry
sleeping_1 =
    entry 0 0 call.Acquire (reply.Proc (processor 0)) ∷
    entry 0 1 call.Take (reply.Ticket (ticket 0 1)) ∷
    entry 0 2 (call.Claim (ticket 0 1)) reply.Held ∷
    entry 0 3 (call.Sleep 10) reply.Waits ∷
    entry 0 4 call.Take reply.Nothing ∷
    entry 0 5 call.Declare (reply.Idle (processor 0)) ∷
    entry 0 6 call.Park (reply.Mind 10) ∷
    entry 0 7 (call.Tick 50) (reply.Woke 1) ∷
    []

abbrev pub sleeping_after_1 : State
sleeping_after_1 =
    record {
      table = record { goroutines = does (status.Ready Shelf woke.Done) 2 ∷ []; arrivals = 1; clock = 50 };
      channels = [];
      machines = record { holders = None ∷ []; modes = mode.Awake ∷ []; spinning = false ∷ []; marked = false ∷ []; active = 1 };
      counts = 8 ∷ [];
      outcome = None;
    }

sleeping_1_goes : Run (limits 1 1 16 10000) (opening (limits 1 1 16 10000) 1 ([])) sleeping_1 sleeping_after_1
sleeping_1_goes = (
  _,
  (refl, (refl, ((refl, refl, (refl, under refl), refl), refl, refl), refl, refl)),
  (
    _,
    (refl, (refl, (refl, ((_, refl, refl), refl, refl)), refl, refl)),
    (
      _,
      (refl, (refl, ((refl, refl, refl), refl, ((_, refl, refl), refl, refl)), refl, refl)),
      (
        _,
        (refl, (refl, (goroutine 0, refl, (refl, refl, refl)), refl, refl)),
        (
          _,
          (refl, (refl, (refl, ((refl, refl), refl, refl)), refl, refl)),
          (
            _,
            (refl, (refl, (refl, ((refl, refl, refl), refl, refl)), refl, refl)),
            (
              _,
              (refl, (refl, ((refl, refl, refl), (refl, refl, refl, (refl, refl, refl))), refl, refl)),
              (
                _,
                (refl, (refl, (refl, ((refl, refl), refl, refl)), refl, refl)),
                refl,
              ),
            ),
          ),
        ),
      ),
    ),
  ),
)

abbrev pub sleeping_2 : List Entry
sleeping_2 =
    entry 0 8 call.Acquire (reply.Proc (processor 0)) ∷
    entry 0 9 call.Take (reply.Ticket (ticket 0 2)) ∷
    entry 0 10 call.Poke reply.Nothing ∷
    entry 0 11 (call.Claim (ticket 0 2)) reply.Held ∷
    entry 0 12 (call.Sleep 45) reply.Waits ∷
    entry 0 13 call.Take reply.Nothing ∷
    entry 0 14 call.Declare (reply.Idle (processor 0)) ∷
    entry 0 15 call.Park (reply.Mind 45) ∷
    []

abbrev pub sleeping_after_2 : State
sleeping_after_2 =
    record {
      table = record { goroutines = does (status.Waiting (record { arrival = 1; kind = kind.Sleep; offers = []; until = Some 45 })) 2 ∷ []; arrivals = 2; clock = 50 };
      channels = [];
      machines = record { holders = None ∷ []; modes = mode.Awake ∷ []; spinning = false ∷ []; marked = false ∷ []; active = 1 };
      counts = 16 ∷ [];
      outcome = None;
    }

sleeping_2_goes : Run (limits 1 1 16 10000) sleeping_after_1 sleeping_2 sleeping_after_2
sleeping_2_goes = (
  _,
  (refl, (refl, ((refl, refl, (refl, under refl), refl), refl, refl), refl, refl)),
  (
    _,
    (refl, (refl, (refl, ((_, refl, refl), refl, refl)), refl, refl)),
    (
      _,
      (refl, (refl, ((refl, refl, refl), refl, refl), refl, refl)),
      (
        _,
        (refl, (refl, ((refl, refl, refl), refl, ((_, refl, refl), refl, refl)), refl, refl)),
        (
          _,
          (refl, (refl, (goroutine 0, refl, (refl, refl, refl)), refl, refl)),
          (
            _,
            (refl, (refl, (refl, ((refl, refl), refl, refl)), refl, refl)),
            (
              _,
              (refl, (refl, (refl, ((refl, refl, refl), refl, refl)), refl, refl)),
              (
                _,
                (refl, (refl, ((refl, refl, refl), (refl, refl, refl, (refl, refl, refl))), refl, refl)),
                refl,
              ),
            ),
          ),
        ),
      ),
    ),
  ),
)

abbrev pub sleeping_3 : List Entry
sleeping_3 =
    entry 0 16 (call.Tick 40) (reply.Woke 1) ∷
    entry 0 17 call.Acquire (reply.Proc (processor 0)) ∷
    entry 0 18 call.Take (reply.Ticket (ticket 0 3)) ∷
    entry 0 19 call.Poke reply.Nothing ∷
    entry 0 20 (call.Claim (ticket 0 3)) reply.Held ∷
    entry 0 21 call.Exit reply.MainEnded ∷
    []

abbrev pub sleeping_end : State
sleeping_end =
    record {
      table = record { goroutines = does status.Dead 3 ∷ []; arrivals = 2; clock = 50 };
      channels = [];
      machines = record { holders = Some (machine 0) ∷ []; modes = mode.Awake ∷ []; spinning = false ∷ []; marked = false ∷ []; active = 1 };
      counts = 22 ∷ [];
      outcome = Some outcome.MainEnded;
    }

sleeping_3_goes : Run (limits 1 1 16 10000) sleeping_after_2 sleeping_3 sleeping_end
sleeping_3_goes = (
  _,
  (refl, (refl, (refl, ((refl, refl), refl, refl)), refl, refl)),
  (
    _,
    (refl, (refl, ((refl, refl, (refl, under refl), refl), refl, refl), refl, refl)),
    (
      _,
      (refl, (refl, (refl, ((_, refl, refl), refl, refl)), refl, refl)),
      (
        _,
        (refl, (refl, ((refl, refl, refl), refl, refl), refl, refl)),
        (
          _,
          (refl, (refl, ((refl, refl, refl), refl, ((_, refl, refl), refl, refl)), refl, refl)),
          (
            _,
            (refl, (refl, (goroutine 0, refl, ((refl, refl), refl, refl)), refl, refl)),
            refl,
          ),
        ),
      ),
    ),
  ),
)

pub sleeping_is_legal : Run (limits 1 1 16 10000) (opening (limits 1 1 16 10000) 1 ([])) (sleeping_1 ++ (sleeping_2 ++ sleeping_3)) sleeping_end
sleeping_is_legal =
    run_join (limits 1 1 16 10000) (opening (limits 1 1 16 10000) 1 ([])) sleeping_after_1 sleeping_end sleeping_1 (sleeping_2 ++ sleeping_3) sleeping_1_goes
    (run_join (limits 1 1 16 10000) sleeping_after_1 sleeping_after_2 sleeping_end sleeping_2 (sleeping_3) sleeping_2_goes
    (sleeping_3_goes))

-- a tick that comes too early wakes nobody
abbrev pub ticking_1 : List Entry
ticking_1 =
    entry 0 0 call.Acquire (reply.Proc (processor 0)) ∷
    entry 0 1 call.Take (reply.Ticket (ticket 0 1)) ∷
    entry 0 2 (call.Claim (ticket 0 1)) reply.Held ∷
    entry 0 3 (call.Sleep 5) reply.Waits ∷
    entry 0 4 call.Take reply.Nothing ∷
    entry 0 5 call.Declare (reply.Idle (processor 0)) ∷
    entry 0 6 call.Park (reply.Mind 5) ∷
    entry 0 7 (call.Tick 3) (reply.Woke 0) ∷
    []

abbrev pub ticking_after_1 : State
ticking_after_1 =
    record {
      table = record { goroutines = does (status.Waiting (record { arrival = 0; kind = kind.Sleep; offers = []; until = Some 5 })) 1 ∷ []; arrivals = 1; clock = 3 };
      channels = [];
      machines = record { holders = None ∷ []; modes = mode.Awake ∷ []; spinning = false ∷ []; marked = false ∷ []; active = 1 };
      counts = 8 ∷ [];
      outcome = None;
    }

ticking_1_goes : Run (limits 1 1 16 10000) (opening (limits 1 1 16 10000) 1 ([])) ticking_1 ticking_after_1
ticking_1_goes = (
  _,
  (refl, (refl, ((refl, refl, (refl, under refl), refl), refl, refl), refl, refl)),
  (
    _,
    (refl, (refl, (refl, ((_, refl, refl), refl, refl)), refl, refl)),
    (
      _,
      (refl, (refl, ((refl, refl, refl), refl, ((_, refl, refl), refl, refl)), refl, refl)),
      (
        _,
        (refl, (refl, (goroutine 0, refl, (refl, refl, refl)), refl, refl)),
        (
          _,
          (refl, (refl, (refl, ((refl, refl), refl, refl)), refl, refl)),
          (
            _,
            (refl, (refl, (refl, ((refl, refl, refl), refl, refl)), refl, refl)),
            (
              _,
              (refl, (refl, ((refl, refl, refl), (refl, refl, refl, (refl, refl, refl))), refl, refl)),
              (
                _,
                (refl, (refl, (refl, ((refl, refl), refl, refl)), refl, refl)),
                refl,
              ),
            ),
          ),
        ),
      ),
    ),
  ),
)

abbrev pub ticking_2 : List Entry
ticking_2 =
    entry 0 8 call.Acquire (reply.Proc (processor 0)) ∷
    entry 0 9 call.Take reply.Nothing ∷
    entry 0 10 call.Declare (reply.Idle (processor 0)) ∷
    entry 0 11 call.Park (reply.Mind 5) ∷
    entry 0 12 (call.Tick 5) (reply.Woke 1) ∷
    entry 0 13 call.Acquire (reply.Proc (processor 0)) ∷
    entry 0 14 call.Take (reply.Ticket (ticket 0 2)) ∷
    entry 0 15 call.Poke reply.Nothing ∷
    []

abbrev pub ticking_after_2 : State
ticking_after_2 =
    record {
      table = record { goroutines = does (status.Ready Out woke.Done) 2 ∷ []; arrivals = 1; clock = 5 };
      channels = [];
      machines = record { holders = Some (machine 0) ∷ []; modes = mode.Awake ∷ []; spinning = false ∷ []; marked = false ∷ []; active = 1 };
      counts = 16 ∷ [];
      outcome = None;
    }

ticking_2_goes : Run (limits 1 1 16 10000) ticking_after_1 ticking_2 ticking_after_2
ticking_2_goes = (
  _,
  (refl, (refl, ((refl, refl, (refl, under refl), refl), refl, refl), refl, refl)),
  (
    _,
    (refl, (refl, (refl, ((refl, refl), refl, refl)), refl, refl)),
    (
      _,
      (refl, (refl, (refl, ((refl, refl, refl), refl, refl)), refl, refl)),
      (
        _,
        (refl, (refl, ((refl, refl, refl), (refl, refl, refl, (refl, refl, refl))), refl, refl)),
        (
          _,
          (refl, (refl, (refl, ((refl, refl), refl, refl)), refl, refl)),
          (
            _,
            (refl, (refl, ((refl, refl, (refl, under refl), refl), refl, refl), refl, refl)),
            (
              _,
              (refl, (refl, (refl, ((_, refl, refl), refl, refl)), refl, refl)),
              (
                _,
                (refl, (refl, ((refl, refl, refl), refl, refl), refl, refl)),
                refl,
              ),
            ),
          ),
        ),
      ),
    ),
  ),
)

abbrev pub ticking_3 : List Entry
ticking_3 =
    entry 0 16 (call.Claim (ticket 0 2)) reply.Held ∷
    entry 0 17 call.Exit reply.MainEnded ∷
    []

abbrev pub ticking_end : State
ticking_end =
    record {
      table = record { goroutines = does status.Dead 2 ∷ []; arrivals = 1; clock = 5 };
      channels = [];
      machines = record { holders = Some (machine 0) ∷ []; modes = mode.Awake ∷ []; spinning = false ∷ []; marked = false ∷ []; active = 1 };
      counts = 18 ∷ [];
      outcome = Some outcome.MainEnded;
    }

ticking_3_goes : Run (limits 1 1 16 10000) ticking_after_2 ticking_3 ticking_end
ticking_3_goes = (
  _,
  (refl, (refl, ((refl, refl, refl), refl, ((_, refl, refl), refl, refl)), refl, refl)),
  (
    _,
    (refl, (refl, (goroutine 0, refl, ((refl, refl), refl, refl)), refl, refl)),
    refl,
  ),
)

pub ticking_is_legal : Run (limits 1 1 16 10000) (opening (limits 1 1 16 10000) 1 ([])) (ticking_1 ++ (ticking_2 ++ ticking_3)) ticking_end
ticking_is_legal =
    run_join (limits 1 1 16 10000) (opening (limits 1 1 16 10000) 1 ([])) ticking_after_1 ticking_end ticking_1 (ticking_2 ++ ticking_3) ticking_1_goes
    (run_join (limits 1 1 16 10000) ticking_after_1 ticking_after_2 ticking_end ticking_2 (ticking_3) ticking_2_goes
    (ticking_3_goes))

-- of two deadlines the earlier is minded, and one wakes
abbrev pub two_deadlines_1 : List Entry
two_deadlines_1 =
    entry 0 0 call.Acquire (reply.Proc (processor 0)) ∷
    entry 0 1 call.Take (reply.Ticket (ticket 0 1)) ∷
    entry 0 2 (call.Claim (ticket 0 1)) reply.Held ∷
    entry 0 3 (call.Go (goroutine 1)) (reply.Ticket (ticket 1 1)) ∷
    entry 0 4 call.Poke reply.Nothing ∷
    entry 0 5 (call.Sleep 20) reply.Waits ∷
    entry 0 6 (call.Claim (ticket 1 1)) reply.Held ∷
    entry 0 7 (call.Sleep 30) reply.Waits ∷
    []

abbrev pub two_deadlines_after_1 : State
two_deadlines_after_1 =
    record {
      table = record { goroutines = does (status.Waiting (record { arrival = 0; kind = kind.Sleep; offers = []; until = Some 20 })) 1 ∷ does (status.Waiting (record { arrival = 1; kind = kind.Sleep; offers = []; until = Some 30 })) 1 ∷ []; arrivals = 2; clock = 0 };
      channels = [];
      machines = record { holders = Some (machine 0) ∷ []; modes = mode.Awake ∷ []; spinning = false ∷ []; marked = false ∷ []; active = 1 };
      counts = 8 ∷ [];
      outcome = None;
    }

two_deadlines_1_goes : Run (limits 1 1 16 10000) (opening (limits 1 1 16 10000) 2 ([])) two_deadlines_1 two_deadlines_after_1
two_deadlines_1_goes = (
  _,
  (refl, (refl, ((refl, refl, (refl, under refl), refl), refl, refl), refl, refl)),
  (
    _,
    (refl, (refl, (refl, ((_, refl, refl), refl, refl)), refl, refl)),
    (
      _,
      (refl, (refl, ((refl, refl, refl), refl, ((_, refl, refl), refl, refl)), refl, refl)),
      (
        _,
        (refl, (refl, (goroutine 0, refl, ((refl, refl, refl), refl, refl)), refl, refl)),
        (
          _,
          (refl, (refl, ((refl, refl, refl), refl, refl), refl, refl)),
          (
            _,
            (refl, (refl, (goroutine 0, refl, (refl, refl, refl)), refl, refl)),
            (
              _,
              (refl, (refl, ((refl, refl, refl), refl, ((_, refl, refl), refl, refl)), refl, refl)),
              (
                _,
                (refl, (refl, (goroutine 1, refl, (refl, refl, refl)), refl, refl)),
                refl,
              ),
            ),
          ),
        ),
      ),
    ),
  ),
)

abbrev pub two_deadlines_2 : List Entry
two_deadlines_2 =
    entry 0 8 call.Take reply.Nothing ∷
    entry 0 9 call.Declare (reply.Idle (processor 0)) ∷
    entry 0 10 call.Park (reply.Mind 20) ∷
    entry 0 11 (call.Tick 25) (reply.Woke 1) ∷
    entry 0 12 call.Acquire (reply.Proc (processor 0)) ∷
    entry 0 13 call.Take (reply.Ticket (ticket 0 2)) ∷
    entry 0 14 call.Poke reply.Nothing ∷
    entry 0 15 (call.Claim (ticket 0 2)) reply.Held ∷
    entry 0 16 call.Exit reply.MainEnded ∷
    []

abbrev pub two_deadlines_end : State
two_deadlines_end =
    record {
      table = record { goroutines = does status.Dead 2 ∷ does (status.Waiting (record { arrival = 1; kind = kind.Sleep; offers = []; until = Some 30 })) 1 ∷ []; arrivals = 2; clock = 25 };
      channels = [];
      machines = record { holders = Some (machine 0) ∷ []; modes = mode.Awake ∷ []; spinning = false ∷ []; marked = false ∷ []; active = 1 };
      counts = 17 ∷ [];
      outcome = Some outcome.MainEnded;
    }

two_deadlines_2_goes : Run (limits 1 1 16 10000) two_deadlines_after_1 two_deadlines_2 two_deadlines_end
two_deadlines_2_goes = (
  _,
  (refl, (refl, (refl, ((refl, refl), refl, refl)), refl, refl)),
  (
    _,
    (refl, (refl, (refl, ((refl, refl, refl), refl, refl)), refl, refl)),
    (
      _,
      (refl, (refl, ((refl, refl, refl), (refl, refl, refl, (refl, refl, refl))), refl, refl)),
      (
        _,
        (refl, (refl, (refl, ((refl, refl), refl, refl)), refl, refl)),
        (
          _,
          (refl, (refl, ((refl, refl, (refl, under refl), refl), refl, refl), refl, refl)),
          (
            _,
            (refl, (refl, (refl, ((_, refl, refl), refl, refl)), refl, refl)),
            (
              _,
              (refl, (refl, ((refl, refl, refl), refl, refl), refl, refl)),
              (
                _,
                (refl, (refl, ((refl, refl, refl), refl, ((_, refl, refl), refl, refl)), refl, refl)),
                (
                  _,
                  (refl, (refl, (goroutine 0, refl, ((refl, refl), refl, refl)), refl, refl)),
                  refl,
                ),
              ),
            ),
          ),
        ),
      ),
    ),
  ),
)

pub two_deadlines_is_legal : Run (limits 1 1 16 10000) (opening (limits 1 1 16 10000) 2 ([])) (two_deadlines_1 ++ two_deadlines_2) two_deadlines_end
two_deadlines_is_legal =
    run_join (limits 1 1 16 10000) (opening (limits 1 1 16 10000) 2 ([])) two_deadlines_after_1 two_deadlines_end two_deadlines_1 (two_deadlines_2) two_deadlines_1_goes
    (two_deadlines_2_goes)

-- a sleep until the last moment of all
abbrev pub sleeping_long_1 : List Entry
sleeping_long_1 =
    entry 0 0 call.Acquire (reply.Proc (processor 0)) ∷
    entry 0 1 call.Take (reply.Ticket (ticket 0 1)) ∷
    entry 0 2 (call.Claim (ticket 0 1)) reply.Held ∷
    entry 0 3 (call.Sleep 18446744073709551615) reply.Waits ∷
    entry 0 4 call.Take reply.Nothing ∷
    entry 0 5 call.Declare (reply.Idle (processor 0)) ∷
    entry 0 6 call.Park (reply.Mind 18446744073709551615) ∷
    entry 0 7 (call.Tick 18446744073709551615) (reply.Woke 1) ∷
    []

abbrev pub sleeping_long_after_1 : State
sleeping_long_after_1 =
    record {
      table = record { goroutines = does (status.Ready Shelf woke.Done) 2 ∷ []; arrivals = 1; clock = 18446744073709551615 };
      channels = [];
      machines = record { holders = None ∷ []; modes = mode.Awake ∷ []; spinning = false ∷ []; marked = false ∷ []; active = 1 };
      counts = 8 ∷ [];
      outcome = None;
    }

sleeping_long_1_goes : Run (limits 1 1 16 10000) (opening (limits 1 1 16 10000) 1 ([])) sleeping_long_1 sleeping_long_after_1
sleeping_long_1_goes = (
  _,
  (refl, (refl, ((refl, refl, (refl, under refl), refl), refl, refl), refl, refl)),
  (
    _,
    (refl, (refl, (refl, ((_, refl, refl), refl, refl)), refl, refl)),
    (
      _,
      (refl, (refl, ((refl, refl, refl), refl, ((_, refl, refl), refl, refl)), refl, refl)),
      (
        _,
        (refl, (refl, (goroutine 0, refl, (refl, refl, refl)), refl, refl)),
        (
          _,
          (refl, (refl, (refl, ((refl, refl), refl, refl)), refl, refl)),
          (
            _,
            (refl, (refl, (refl, ((refl, refl, refl), refl, refl)), refl, refl)),
            (
              _,
              (refl, (refl, ((refl, refl, refl), (refl, refl, refl, (refl, refl, refl))), refl, refl)),
              (
                _,
                (refl, (refl, (refl, ((refl, refl), refl, refl)), refl, refl)),
                refl,
              ),
            ),
          ),
        ),
      ),
    ),
  ),
)

abbrev pub sleeping_long_2 : List Entry
sleeping_long_2 =
    entry 0 8 call.Acquire (reply.Proc (processor 0)) ∷
    entry 0 9 call.Take (reply.Ticket (ticket 0 2)) ∷
    entry 0 10 call.Poke reply.Nothing ∷
    entry 0 11 (call.Claim (ticket 0 2)) reply.Held ∷
    entry 0 12 call.Exit reply.MainEnded ∷
    []

abbrev pub sleeping_long_end : State
sleeping_long_end =
    record {
      table = record { goroutines = does status.Dead 2 ∷ []; arrivals = 1; clock = 18446744073709551615 };
      channels = [];
      machines = record { holders = Some (machine 0) ∷ []; modes = mode.Awake ∷ []; spinning = false ∷ []; marked = false ∷ []; active = 1 };
      counts = 13 ∷ [];
      outcome = Some outcome.MainEnded;
    }

sleeping_long_2_goes : Run (limits 1 1 16 10000) sleeping_long_after_1 sleeping_long_2 sleeping_long_end
sleeping_long_2_goes = (
  _,
  (refl, (refl, ((refl, refl, (refl, under refl), refl), refl, refl), refl, refl)),
  (
    _,
    (refl, (refl, (refl, ((_, refl, refl), refl, refl)), refl, refl)),
    (
      _,
      (refl, (refl, ((refl, refl, refl), refl, refl), refl, refl)),
      (
        _,
        (refl, (refl, ((refl, refl, refl), refl, ((_, refl, refl), refl, refl)), refl, refl)),
        (
          _,
          (refl, (refl, (goroutine 0, refl, ((refl, refl), refl, refl)), refl, refl)),
          refl,
        ),
      ),
    ),
  ),
)

pub sleeping_long_is_legal : Run (limits 1 1 16 10000) (opening (limits 1 1 16 10000) 1 ([])) (sleeping_long_1 ++ sleeping_long_2) sleeping_long_end
sleeping_long_is_legal =
    run_join (limits 1 1 16 10000) (opening (limits 1 1 16 10000) 1 ([])) sleeping_long_after_1 sleeping_long_end sleeping_long_1 (sleeping_long_2) sleeping_long_1_goes
    (sleeping_long_2_goes)

-- one sleeps, one parks, and only that one can be readied
abbrev pub parking_1 : List Entry
parking_1 =
    entry 0 0 call.Acquire (reply.Proc (processor 0)) ∷
    entry 0 1 call.Take (reply.Ticket (ticket 0 1)) ∷
    entry 0 2 (call.Claim (ticket 0 1)) reply.Held ∷
    entry 0 3 (call.Go (goroutine 1)) (reply.Ticket (ticket 1 1)) ∷
    entry 0 4 call.Poke reply.Nothing ∷
    entry 0 5 (call.Go (goroutine 2)) (reply.Ticket (ticket 2 1)) ∷
    entry 0 6 call.Poke reply.Nothing ∷
    entry 0 7 call.Yield (reply.Shelved (ticket 0 2)) ∷
    []

abbrev pub parking_after_1 : State
parking_after_1 =
    record {
      table = record { goroutines = does (status.Ready Shelf woke.Done) 2 ∷ does (status.Ready Out woke.First) 1 ∷ does (status.Ready Out woke.First) 1 ∷ []; arrivals = 0; clock = 0 };
      channels = [];
      machines = record { holders = Some (machine 0) ∷ []; modes = mode.Awake ∷ []; spinning = false ∷ []; marked = false ∷ []; active = 1 };
      counts = 8 ∷ [];
      outcome = None;
    }

parking_1_goes : Run (limits 1 1 16 10000) (opening (limits 1 1 16 10000) 3 ([])) parking_1 parking_after_1
parking_1_goes = (
  _,
  (refl, (refl, ((refl, refl, (refl, under refl), refl), refl, refl), refl, refl)),
  (
    _,
    (refl, (refl, (refl, ((_, refl, refl), refl, refl)), refl, refl)),
    (
      _,
      (refl, (refl, ((refl, refl, refl), refl, ((_, refl, refl), refl, refl)), refl, refl)),
      (
        _,
        (refl, (refl, (goroutine 0, refl, ((refl, refl, refl), refl, refl)), refl, refl)),
        (
          _,
          (refl, (refl, ((refl, refl, refl), refl, refl), refl, refl)),
          (
            _,
            (refl, (refl, (goroutine 0, refl, ((refl, refl, refl), refl, refl)), refl, refl)),
            (
              _,
              (refl, (refl, ((refl, refl, refl), refl, refl), refl, refl)),
              (
                _,
                (refl, (refl, (goroutine 0, refl, ((refl, refl), refl, refl)), refl, refl)),
                refl,
              ),
            ),
          ),
        ),
      ),
    ),
  ),
)

abbrev pub parking_2 : List Entry
parking_2 =
    entry 0 8 (call.Claim (ticket 1 1)) reply.Held ∷
    entry 0 9 (call.Sleep 100) reply.Waits ∷
    entry 0 10 (call.Claim (ticket 2 1)) reply.Held ∷
    entry 0 11 call.Gopark reply.Waits ∷
    entry 0 12 call.Take (reply.Ticket (ticket 0 2)) ∷
    entry 0 13 (call.Claim (ticket 0 2)) reply.Held ∷
    entry 0 14 (call.Ready (goroutine 1)) (reply.Fault fault.NotParked) ∷
    entry 0 15 (call.Ready (goroutine 2)) (reply.Ticket (ticket 2 2)) ∷
    []

abbrev pub parking_after_2 : State
parking_after_2 =
    record {
      table = record { goroutines = does (status.Running (machine 0)) 2 ∷ does (status.Waiting (record { arrival = 0; kind = kind.Sleep; offers = []; until = Some 100 })) 1 ∷ does (status.Ready Out woke.Done) 2 ∷ []; arrivals = 2; clock = 0 };
      channels = [];
      machines = record { holders = Some (machine 0) ∷ []; modes = mode.Awake ∷ []; spinning = false ∷ []; marked = false ∷ []; active = 1 };
      counts = 16 ∷ [];
      outcome = None;
    }

parking_2_goes : Run (limits 1 1 16 10000) parking_after_1 parking_2 parking_after_2
parking_2_goes = (
  _,
  (refl, (refl, ((refl, refl, refl), refl, ((_, refl, refl), refl, refl)), refl, refl)),
  (
    _,
    (refl, (refl, (goroutine 1, refl, (refl, refl, refl)), refl, refl)),
    (
      _,
      (refl, (refl, ((refl, refl, refl), refl, ((_, refl, refl), refl, refl)), refl, refl)),
      (
        _,
        (refl, (refl, (goroutine 2, refl, (refl, refl, refl)), refl, refl)),
        (
          _,
          (refl, (refl, (refl, ((_, refl, refl), refl, refl)), refl, refl)),
          (
            _,
            (refl, (refl, ((refl, refl, refl), refl, ((_, refl, refl), refl, refl)), refl, refl)),
            (
              _,
              (refl, (refl, (goroutine 0, refl, ((refl, refl), refl, refl)), refl, refl)),
              (
                _,
                (refl, (refl, (goroutine 0, refl, ((refl, refl, refl), refl, refl)), refl, refl)),
                refl,
              ),
            ),
          ),
        ),
      ),
    ),
  ),
)

abbrev pub parking_3 : List Entry
parking_3 =
    entry 0 16 call.Poke reply.Nothing ∷
    entry 0 17 (call.Ready (goroutine 2)) (reply.Fault fault.NotParked) ∷
    entry 0 18 call.Exit reply.MainEnded ∷
    []

abbrev pub parking_end : State
parking_end =
    record {
      table = record { goroutines = does status.Dead 2 ∷ does (status.Waiting (record { arrival = 0; kind = kind.Sleep; offers = []; until = Some 100 })) 1 ∷ does (status.Ready Out woke.Done) 2 ∷ []; arrivals = 2; clock = 0 };
      channels = [];
      machines = record { holders = Some (machine 0) ∷ []; modes = mode.Awake ∷ []; spinning = false ∷ []; marked = false ∷ []; active = 1 };
      counts = 19 ∷ [];
      outcome = Some outcome.MainEnded;
    }

parking_3_goes : Run (limits 1 1 16 10000) parking_after_2 parking_3 parking_end
parking_3_goes = (
  _,
  (refl, (refl, ((refl, refl, refl), refl, refl), refl, refl)),
  (
    _,
    (refl, (refl, (goroutine 0, refl, ((refl, refl), refl, refl)), refl, refl)),
    (
      _,
      (refl, (refl, (goroutine 0, refl, ((refl, refl), refl, refl)), refl, refl)),
      refl,
    ),
  ),
)

pub parking_is_legal : Run (limits 1 1 16 10000) (opening (limits 1 1 16 10000) 3 ([])) (parking_1 ++ (parking_2 ++ parking_3)) parking_end
parking_is_legal =
    run_join (limits 1 1 16 10000) (opening (limits 1 1 16 10000) 3 ([])) parking_after_1 parking_end parking_1 (parking_2 ++ parking_3) parking_1_goes
    (run_join (limits 1 1 16 10000) parking_after_1 parking_after_2 parking_end parking_2 (parking_3) parking_2_goes
    (parking_3_goes))

-- asks that make no sense are faults, and a select without cases waits for good
abbrev pub nonsense_1 : List Entry
nonsense_1 =
    entry 0 0 call.Acquire (reply.Proc (processor 0)) ∷
    entry 0 1 call.Take (reply.Ticket (ticket 0 1)) ∷
    entry 0 2 (call.Claim (ticket 0 1)) reply.Held ∷
    entry 0 3 (call.Go (goroutine 0)) (reply.Fault fault.AlreadyStarted) ∷
    entry 0 4 (call.Ready (goroutine 0)) (reply.Fault fault.NotParked) ∷
    entry 0 5 (call.Ready (goroutine 65535)) (reply.Fault fault.NoSuchBody) ∷
    entry 0 6 (call.Make 4294967295) (reply.Fault fault.BadCapacity) ∷
    entry 0 7 (call.Select ([]) false None) reply.Waits ∷
    []

abbrev pub nonsense_after_1 : State
nonsense_after_1 =
    record {
      table = record { goroutines = does (status.Waiting (record { arrival = 0; kind = kind.Select; offers = []; until = None })) 1 ∷ []; arrivals = 1; clock = 0 };
      channels = [];
      machines = record { holders = Some (machine 0) ∷ []; modes = mode.Awake ∷ []; spinning = false ∷ []; marked = false ∷ []; active = 1 };
      counts = 8 ∷ [];
      outcome = None;
    }

nonsense_1_goes : Run (limits 1 1 16 10000) (opening (limits 1 1 16 10000) 1 ([])) nonsense_1 nonsense_after_1
nonsense_1_goes = (
  _,
  (refl, (refl, ((refl, refl, (refl, under refl), refl), refl, refl), refl, refl)),
  (
    _,
    (refl, (refl, (refl, ((_, refl, refl), refl, refl)), refl, refl)),
    (
      _,
      (refl, (refl, ((refl, refl, refl), refl, ((_, refl, refl), refl, refl)), refl, refl)),
      (
        _,
        (refl, (refl, (goroutine 0, refl, ((refl, refl), refl, refl)), refl, refl)),
        (
          _,
          (refl, (refl, (goroutine 0, refl, ((refl, refl), refl, refl)), refl, refl)),
          (
            _,
            (refl, (refl, (goroutine 0, refl, ((refl, refl), refl, refl)), refl, refl)),
            (
              _,
              (refl, (refl, (goroutine 0, refl, ((lit< tt, refl), refl, refl)), refl, refl)),
              (
                _,
                (refl, (refl, (lit≤ tt, (goroutine 0, refl, (refl, refl, (refl, refl, refl, refl)))), refl, refl)),
                refl,
              ),
            ),
          ),
        ),
      ),
    ),
  ),
)

abbrev pub nonsense_2 : List Entry
nonsense_2 =
    entry 0 8 call.Take reply.Nothing ∷
    entry 0 9 call.Declare (reply.Idle (processor 0)) ∷
    entry 0 10 call.Park reply.AllAsleep ∷
    []

abbrev pub nonsense_end : State
nonsense_end =
    record {
      table = record { goroutines = does (status.Waiting (record { arrival = 0; kind = kind.Select; offers = []; until = None })) 1 ∷ []; arrivals = 1; clock = 0 };
      channels = [];
      machines = record { holders = None ∷ []; modes = mode.Awake ∷ []; spinning = false ∷ []; marked = false ∷ []; active = 1 };
      counts = 11 ∷ [];
      outcome = Some outcome.AllAsleep;
    }

nonsense_2_goes : Run (limits 1 1 16 10000) nonsense_after_1 nonsense_2 nonsense_end
nonsense_2_goes = (
  _,
  (refl, (refl, (refl, ((refl, refl), refl, refl)), refl, refl)),
  (
    _,
    (refl, (refl, (refl, ((refl, refl, refl), refl, refl)), refl, refl)),
    (
      _,
      (refl, (refl, ((refl, refl, refl), (refl, refl, (refl, refl, refl))), refl, refl)),
      refl,
    ),
  ),
)

pub nonsense_is_legal : Run (limits 1 1 16 10000) (opening (limits 1 1 16 10000) 1 ([])) (nonsense_1 ++ nonsense_2) nonsense_end
nonsense_is_legal =
    run_join (limits 1 1 16 10000) (opening (limits 1 1 16 10000) 1 ([])) nonsense_after_1 nonsense_end nonsense_1 (nonsense_2) nonsense_1_goes
    (nonsense_2_goes)
