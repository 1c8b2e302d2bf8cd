-- Worked traces of one machine: these histories are runs from the opening to these states.
use Rattle.gmp_base.specs.declared.ask.Fault.TheVariants as fault
use Rattle.gmp_base.specs.declared.ask.Woke.TheVariants as woke
use Rattle.gmp_base.specs.declared.cases.Case.TheVariants as case
use Rattle.gmp_seq.proofs.Runs.{run_join}
use Rattle.gmp_test_rows.proofs.Traces.{goroutine, machine, processor, channel, ticket, entry, does, limits, under}
use Rattle.gmp_seq.specs.Run.{Run}
use Rattle.gmp_seq.specs.State.{State, opening}
use Rattle.gmp_seq.specs.Waits.{new_channel}
use Rattle.gmp_seq.specs.declared.call.Call.TheVariants as call
use Rattle.gmp_seq.specs.declared.call.Entry.{Entry}
use Rattle.gmp_seq.specs.declared.call.Outcome.TheVariants as outcome
use Rattle.gmp_seq.specs.declared.call.Reply.TheVariants as reply
use Rattle.gmp_seq.specs.declared.status.Deal.TheVariants as deal
use Rattle.gmp_seq.specs.declared.status.Kind.TheVariants as kind
use Rattle.gmp_seq.specs.declared.status.Mode.TheVariants as mode
use Rattle.gmp_seq.specs.declared.status.TicketPlace.TheVariants.{Shelf, Out}
use Rattle.gmp_seq.specs.declared.status.Status.TheVariants as status
use Rattle.gmp_seq.specs.declared.status.Transfer.TheVariants.{Failed, Handed, Stored, First, Relayed, Drained}
use Rattle.std.proofs.Common.{lit<, lit≤, true, false, None, Some, List, [], ◌∷◌, ◌++◌, refl}

-- main yields and exits
abbrev pub yielding_1 : List Entry
yielding_1 =
    entry 0 0 call.Acquire (reply.Proc (processor 0)) ∷
    entry 0 1 call.Take (reply.Ticket (ticket 0 1)) ∷
    entry 0 2 (call.Claim (ticket 0 1)) reply.Held ∷
    entry 0 3 call.Yield (reply.Shelved (ticket 0 2)) ∷
    []

abbrev pub yielding_after_1 : State
yielding_after_1 =
    record {
      table = record { goroutines = does (status.Ready Shelf woke.Done) 2 ∷ []; arrivals = 0; clock = 0 };
      channels = [];
      machines = record { holders = Some (machine 0) ∷ []; modes = mode.Awake ∷ []; spinning = false ∷ []; marked = false ∷ []; active = 1 };
      counts = 4 ∷ [];
      outcome = None;
    }

yielding_1_goes : Run (limits 1 1 16 10000) (opening (limits 1 1 16 10000) 1 ([])) yielding_1 yielding_after_1
yielding_1_goes = (
  _,
  (refl, (refl, ((refl, refl, (refl, under refl), refl), refl, refl), refl, refl)),
  (
    _,
    (refl, (refl, (refl, ((_, refl, refl), refl, refl)), refl, refl)),
    (
      _,
      (refl, (refl, ((refl, refl, refl), refl, ((_, refl, refl), refl, refl)), refl, refl)),
      (
        _,
        (refl, (refl, (goroutine 0, refl, ((refl, refl), refl, refl)), refl, refl)),
        refl,
      ),
    ),
  ),
)

abbrev pub yielding_2 : List Entry
yielding_2 =
    entry 0 4 call.Take (reply.Ticket (ticket 0 2)) ∷
    entry 0 5 (call.Claim (ticket 0 2)) reply.Held ∷
    entry 0 6 call.Exit reply.MainEnded ∷
    []

abbrev pub yielding_end : State
yielding_end =
    record {
      table = record { goroutines = does status.Dead 2 ∷ []; arrivals = 0; clock = 0 };
      channels = [];
      machines = record { holders = Some (machine 0) ∷ []; modes = mode.Awake ∷ []; spinning = false ∷ []; marked = false ∷ []; active = 1 };
      counts = 7 ∷ [];
      outcome = Some outcome.MainEnded;
    }

yielding_2_goes : Run (limits 1 1 16 10000) yielding_after_1 yielding_2 yielding_end
yielding_2_goes = (
  _,
  (refl, (refl, (refl, ((_, refl, refl), refl, refl)), refl, refl)),
  (
    _,
    (refl, (refl, ((refl, refl, refl), refl, ((_, refl, refl), refl, refl)), refl, refl)),
    (
      _,
      (refl, (refl, (goroutine 0, refl, ((refl, refl), refl, refl)), refl, refl)),
      refl,
    ),
  ),
)

pub yielding_is_legal : Run (limits 1 1 16 10000) (opening (limits 1 1 16 10000) 1 ([])) (yielding_1 ++ yielding_2) yielding_end
yielding_is_legal =
    run_join (limits 1 1 16 10000) (opening (limits 1 1 16 10000) 1 ([])) yielding_after_1 yielding_end yielding_1 (yielding_2) yielding_1_goes
    (yielding_2_goes)

-- main starts another, and both exit
abbrev pub starting_1 : List Entry
starting_1 =
    entry 0 0 call.Acquire (reply.Proc (processor 0)) ∷
    entry 0 1 call.Take (reply.Ticket (ticket 0 1)) ∷
    entry 0 2 (call.Claim (ticket 0 1)) reply.Held ∷
    entry 0 3 (call.Go (goroutine 1)) (reply.Ticket (ticket 1 1)) ∷
    entry 0 4 call.Poke reply.Nothing ∷
    entry 0 5 call.Yield (reply.Shelved (ticket 0 2)) ∷
    entry 0 6 (call.Claim (ticket 1 1)) reply.Held ∷
    entry 0 7 call.Exit reply.Dead ∷
    []

abbrev pub starting_after_1 : State
starting_after_1 =
    record {
      table = record { goroutines = does (status.Ready Shelf woke.Done) 2 ∷ does status.Dead 1 ∷ []; arrivals = 0; clock = 0 };
      channels = [];
      machines = record { holders = Some (machine 0) ∷ []; modes = mode.Awake ∷ []; spinning = false ∷ []; marked = false ∷ []; active = 1 };
      counts = 8 ∷ [];
      outcome = None;
    }

starting_1_goes : Run (limits 1 1 16 10000) (opening (limits 1 1 16 10000) 2 ([])) starting_1 starting_after_1
starting_1_goes = (
  _,
  (refl, (refl, ((refl, refl, (refl, under refl), refl), refl, refl), refl, refl)),
  (
    _,
    (refl, (refl, (refl, ((_, refl, refl), refl, refl)), refl, refl)),
    (
      _,
      (refl, (refl, ((refl, refl, refl), refl, ((_, refl, refl), refl, refl)), refl, refl)),
      (
        _,
        (refl, (refl, (goroutine 0, refl, ((refl, refl, refl), refl, refl)), refl, refl)),
        (
          _,
          (refl, (refl, ((refl, refl, refl), refl, refl), refl, refl)),
          (
            _,
            (refl, (refl, (goroutine 0, refl, ((refl, refl), refl, refl)), refl, refl)),
            (
              _,
              (refl, (refl, ((refl, refl, refl), refl, ((_, refl, refl), refl, refl)), refl, refl)),
              (
                _,
                (refl, (refl, (goroutine 1, refl, (((λ e. cc), refl), refl, refl)), refl, refl)),
                refl,
              ),
            ),
          ),
        ),
      ),
    ),
  ),
)

abbrev pub starting_2 : List Entry
starting_2 =
    entry 0 8 call.Take (reply.Ticket (ticket 0 2)) ∷
    entry 0 9 (call.Claim (ticket 0 2)) reply.Held ∷
    entry 0 10 call.Exit reply.MainEnded ∷
    []

abbrev pub starting_end : State
starting_end =
    record {
      table = record { goroutines = does status.Dead 2 ∷ does status.Dead 1 ∷ []; arrivals = 0; clock = 0 };
      channels = [];
      machines = record { holders = Some (machine 0) ∷ []; modes = mode.Awake ∷ []; spinning = false ∷ []; marked = false ∷ []; active = 1 };
      counts = 11 ∷ [];
      outcome = Some outcome.MainEnded;
    }

starting_2_goes : Run (limits 1 1 16 10000) starting_after_1 starting_2 starting_end
starting_2_goes = (
  _,
  (refl, (refl, (refl, ((_, refl, refl), refl, refl)), refl, refl)),
  (
    _,
    (refl, (refl, ((refl, refl, refl), refl, ((_, refl, refl), refl, refl)), refl, refl)),
    (
      _,
      (refl, (refl, (goroutine 0, refl, ((refl, refl), refl, refl)), refl, refl)),
      refl,
    ),
  ),
)

pub starting_is_legal : Run (limits 1 1 16 10000) (opening (limits 1 1 16 10000) 2 ([])) (starting_1 ++ starting_2) starting_end
starting_is_legal =
    run_join (limits 1 1 16 10000) (opening (limits 1 1 16 10000) 2 ([])) starting_after_1 starting_end starting_1 (starting_2) starting_1_goes
    (starting_2_goes)

-- no such body, and none twice
abbrev pub starting_twice : List Entry
starting_twice =
    entry 0 0 call.Acquire (reply.Proc (processor 0)) ∷
    entry 0 1 call.Take (reply.Ticket (ticket 0 1)) ∷
    entry 0 2 (call.Claim (ticket 0 1)) reply.Held ∷
    entry 0 3 (call.Go (goroutine 7)) (reply.Fault fault.NoSuchBody) ∷
    entry 0 4 (call.Go (goroutine 1)) (reply.Ticket (ticket 1 1)) ∷
    entry 0 5 call.Poke reply.Nothing ∷
    entry 0 6 (call.Go (goroutine 1)) (reply.Fault fault.AlreadyStarted) ∷
    entry 0 7 call.Exit reply.MainEnded ∷
    []

abbrev pub starting_twice_end : State
starting_twice_end =
    record {
      table = record { goroutines = does status.Dead 1 ∷ does (status.Ready Out woke.First) 1 ∷ does status.Dormant 0 ∷ []; arrivals = 0; clock = 0 };
      channels = [];
      machines = record { holders = Some (machine 0) ∷ []; modes = mode.Awake ∷ []; spinning = false ∷ []; marked = false ∷ []; active = 1 };
      counts = 8 ∷ [];
      outcome = Some outcome.MainEnded;
    }

pub starting_twice_is_legal : Run (limits 1 1 16 10000) (opening (limits 1 1 16 10000) 3 ([])) starting_twice starting_twice_end
starting_twice_is_legal = (
  _,
  (refl, (refl, ((refl, refl, (refl, under refl), refl), refl, refl), refl, refl)),
  (
    _,
    (refl, (refl, (refl, ((_, refl, refl), refl, refl)), refl, refl)),
    (
      _,
      (refl, (refl, ((refl, refl, refl), refl, ((_, refl, refl), refl, refl)), refl, refl)),
      (
        _,
        (refl, (refl, (goroutine 0, refl, ((refl, refl), refl, refl)), refl, refl)),
        (
          _,
          (refl, (refl, (goroutine 0, refl, ((refl, refl, refl), refl, refl)), refl, refl)),
          (
            _,
            (refl, (refl, ((refl, refl, refl), refl, refl), refl, refl)),
            (
              _,
              (refl, (refl, (goroutine 0, refl, ((refl, refl), refl, refl)), refl, refl)),
              (
                _,
                (refl, (refl, (goroutine 0, refl, ((refl, refl), refl, refl)), refl, refl)),
                refl,
              ),
            ),
          ),
        ),
      ),
    ),
  ),
)

-- the one that ended is started again, by its next epoch, and then there is none to start
abbrev pub spawning : List Entry
spawning =
    entry 0 8 call.Take (reply.Ticket (ticket 0 2)) ∷
    entry 0 9 (call.Claim (ticket 0 2)) reply.Held ∷
    entry 0 10 call.Spawn (reply.Ticket (ticket 1 2)) ∷
    entry 0 11 call.Spawn (reply.Fault fault.NoSuchBody) ∷
    entry 0 12 call.Exit reply.MainEnded ∷
    []

abbrev pub spawning_end : State
spawning_end =
    record {
      table = record { goroutines = does status.Dead 2 ∷ does (status.Ready Out woke.First) 2 ∷ []; arrivals = 0; clock = 0 };
      channels = [];
      machines = record { holders = Some (machine 0) ∷ []; modes = mode.Awake ∷ []; spinning = false ∷ []; marked = false ∷ []; active = 1 };
      counts = 13 ∷ [];
      outcome = Some outcome.MainEnded;
    }

spawning_goes : Run (limits 1 1 16 10000) starting_after_1 spawning spawning_end
spawning_goes = (
  _,
  (refl, (refl, (refl, ((_, refl, refl), refl, refl)), refl, refl)),
  (
    _,
    (refl, (refl, ((refl, refl, refl), refl, ((_, refl, refl), refl, refl)), refl, refl)),
    (
      _,
      (refl, (refl, (goroutine 0, refl, ((refl, refl, refl), refl, refl)), refl, refl)),
      (
        _,
        (refl, (refl, (goroutine 0, refl, ((refl, refl), refl, refl)), refl, refl)),
        (
          _,
          (refl, (refl, (goroutine 0, refl, ((refl, refl), refl, refl)), refl, refl)),
          refl,
        ),
      ),
    ),
  ),
)

pub spawning_is_legal : Run (limits 1 1 16 10000) (opening (limits 1 1 16 10000) 2 ([])) (starting_1 ++ spawning) spawning_end
spawning_is_legal =
    run_join (limits 1 1 16 10000) (opening (limits 1 1 16 10000) 2 ([])) starting_after_1 spawning_end starting_1 (spawning) starting_1_goes
    (spawning_goes)

-- main receives and nobody sends
abbrev pub receiving_alone : List Entry
receiving_alone =
    entry 0 0 call.Acquire (reply.Proc (processor 0)) ∷
    entry 0 1 call.Take (reply.Ticket (ticket 0 1)) ∷
    entry 0 2 (call.Claim (ticket 0 1)) reply.Held ∷
    entry 0 3 (call.Recv (Some (channel 0))) reply.Waits ∷
    entry 0 4 call.Take reply.Nothing ∷
    entry 0 5 call.Declare (reply.Idle (processor 0)) ∷
    entry 0 6 call.Park reply.AllAsleep ∷
    []

abbrev pub receiving_alone_end : State
receiving_alone_end =
    record {
      table = record { goroutines = does (status.Waiting (record { arrival = 0; kind = kind.Plain; offers = record { case = 0; channel = channel 0; deal = deal.Receive } ∷ []; until = None })) 1 ∷ []; arrivals = 1; clock = 0 };
      channels = new_channel 0 ∷ [];
      machines = record { holders = None ∷ []; modes = mode.Awake ∷ []; spinning = false ∷ []; marked = false ∷ []; active = 1 };
      counts = 7 ∷ [];
      outcome = Some outcome.AllAsleep;
    }

pub receiving_alone_is_legal : Run (limits 1 1 16 10000) (opening (limits 1 1 16 10000) 1 (0 ∷ [])) receiving_alone receiving_alone_end
receiving_alone_is_legal = (
  _,
  (refl, (refl, ((refl, refl, (refl, under refl), refl), refl, refl), refl, refl)),
  (
    _,
    (refl, (refl, (refl, ((_, refl, refl), refl, refl)), refl, refl)),
    (
      _,
      (refl, (refl, ((refl, refl, refl), refl, ((_, refl, refl), refl, refl)), refl, refl)),
      (
        _,
        (refl, (refl, (goroutine 0, refl, (refl, (refl, refl, refl, refl))), refl, refl)),
        (
          _,
          (refl, (refl, (refl, ((refl, refl), refl, refl)), refl, refl)),
          (
            _,
            (refl, (refl, (refl, ((refl, refl, refl), refl, refl)), refl, refl)),
            (
              _,
              (refl, (refl, ((refl, refl, refl), (refl, refl, (refl, refl, refl))), refl, refl)),
              refl,
            ),
          ),
        ),
      ),
    ),
  ),
)

-- three sends into two places, and three receives
abbrev pub buffering_1 : List Entry
buffering_1 =
    entry 0 0 call.Acquire (reply.Proc (processor 0)) ∷
    entry 0 1 call.Take (reply.Ticket (ticket 0 1)) ∷
    entry 0 2 (call.Claim (ticket 0 1)) reply.Held ∷
    entry 0 3 (call.Go (goroutine 1)) (reply.Ticket (ticket 1 1)) ∷
    entry 0 4 call.Poke reply.Nothing ∷
    entry 0 5 call.Yield (reply.Shelved (ticket 0 2)) ∷
    entry 0 6 (call.Claim (ticket 1 1)) reply.Held ∷
    entry 0 7 (call.Send (Some (channel 0)) 1) (reply.Sent None) ∷
    []

abbrev pub buffering_after_1 : State
buffering_after_1 =
    record {
      table = record { goroutines = does (status.Ready Shelf woke.Done) 2 ∷ does (status.Running (machine 0)) 1 ∷ []; arrivals = 0; clock = 0 };
      channels = record { capacity = 2; items = 1 ∷ []; closed = false } ∷ [];
      machines = record { holders = Some (machine 0) ∷ []; modes = mode.Awake ∷ []; spinning = false ∷ []; marked = false ∷ []; active = 1 };
      counts = 8 ∷ [];
      outcome = None;
    }

buffering_1_goes : Run (limits 1 1 16 10000) (opening (limits 1 1 16 10000) 2 (2 ∷ [])) buffering_1 buffering_after_1
buffering_1_goes = (
  _,
  (refl, (refl, ((refl, refl, (refl, under refl), refl), refl, refl), refl, refl)),
  (
    _,
    (refl, (refl, (refl, ((_, refl, refl), refl, refl)), refl, refl)),
    (
      _,
      (refl, (refl, ((refl, refl, refl), refl, ((_, refl, refl), refl, refl)), refl, refl)),
      (
        _,
        (refl, (refl, (goroutine 0, refl, ((refl, refl, refl), refl, refl)), refl, refl)),
        (
          _,
          (refl, (refl, ((refl, refl, refl), refl, refl), refl, refl)),
          (
            _,
            (refl, (refl, (goroutine 0, refl, ((refl, refl), refl, refl)), refl, refl)),
            (
              _,
              (refl, (refl, ((refl, refl, refl), refl, ((_, refl, refl), refl, refl)), refl, refl)),
              (
                _,
                (refl, (refl, (goroutine 1, refl, (refl, (Stored, (refl, refl, refl, refl), refl, refl, refl))), refl, refl)),
                refl,
              ),
            ),
          ),
        ),
      ),
    ),
  ),
)

abbrev pub buffering_2 : List Entry
buffering_2 =
    entry 0 8 (call.Send (Some (channel 0)) 2) (reply.Sent None) ∷
    entry 0 9 (call.Send (Some (channel 0)) 3) reply.Waits ∷
    entry 0 10 call.Take (reply.Ticket (ticket 0 2)) ∷
    entry 0 11 (call.Claim (ticket 0 2)) reply.Held ∷
    []

abbrev pub buffering_after_2 : State
buffering_after_2 =
    record {
      table = record { goroutines = does (status.Running (machine 0)) 2 ∷ does (status.Waiting (record { arrival = 0; kind = kind.Plain; offers = record { case = 0; channel = channel 0; deal = deal.Send 3 } ∷ []; until = None })) 1 ∷ []; arrivals = 1; clock = 0 };
      channels = record { capacity = 2; items = 1 ∷ 2 ∷ []; closed = false } ∷ [];
      machines = record { holders = Some (machine 0) ∷ []; modes = mode.Awake ∷ []; spinning = false ∷ []; marked = false ∷ []; active = 1 };
      counts = 12 ∷ [];
      outcome = None;
    }

buffering_2_goes : Run (limits 1 1 16 10000) buffering_after_1 buffering_2 buffering_after_2
buffering_2_goes = (
  _,
  (refl, (refl, (goroutine 1, refl, (refl, (Stored, (refl, refl, refl, refl), refl, refl, refl))), refl, refl)),
  (
    _,
    (refl, (refl, (goroutine 1, refl, (refl, (refl, refl, refl, refl))), refl, refl)),
    (
      _,
      (refl, (refl, (refl, ((_, refl, refl), refl, refl)), refl, refl)),
      (
        _,
        (refl, (refl, ((refl, refl, refl), refl, ((_, refl, refl), refl, refl)), refl, refl)),
        refl,
      ),
    ),
  ),
)

abbrev pub buffering_3 : List Entry
buffering_3 =
    entry 0 12 (call.Recv (Some (channel 0))) (reply.Got 1 true (Some (record { sender = ticket 1 2; value = 3 }))) ∷
    entry 0 13 call.Poke reply.Nothing ∷
    []

abbrev pub buffering_after_3 : State
buffering_after_3 =
    record {
      table = record { goroutines = does (status.Running (machine 0)) 2 ∷ does (status.Ready Out woke.Done) 2 ∷ []; arrivals = 1; clock = 0 };
      channels = record { capacity = 2; items = 2 ∷ 3 ∷ []; closed = false } ∷ [];
      machines = record { holders = Some (machine 0) ∷ []; modes = mode.Awake ∷ []; spinning = false ∷ []; marked = false ∷ []; active = 1 };
      counts = 14 ∷ [];
      outcome = None;
    }

buffering_3_goes : Run (limits 1 1 16 10000) buffering_after_2 buffering_3 buffering_after_3
buffering_3_goes = (
  _,
  (refl, (refl, (goroutine 0, refl, (refl, (Relayed 1 _, (_, refl, refl, refl), refl, refl, refl))), refl, refl)),
  (
    _,
    (refl, (refl, ((refl, refl, refl), refl, refl), refl, refl)),
    refl,
  ),
)

abbrev pub buffering_4 : List Entry
buffering_4 =
    entry 0 14 (call.Recv (Some (channel 0))) (reply.Got 2 true None) ∷
    entry 0 15 (call.Recv (Some (channel 0))) (reply.Got 3 true None) ∷
    entry 0 16 call.Exit reply.MainEnded ∷
    []

abbrev pub buffering_end : State
buffering_end =
    record {
      table = record { goroutines = does status.Dead 2 ∷ does (status.Ready Out woke.Done) 2 ∷ []; arrivals = 1; clock = 0 };
      channels = new_channel 2 ∷ [];
      machines = record { holders = Some (machine 0) ∷ []; modes = mode.Awake ∷ []; spinning = false ∷ []; marked = false ∷ []; active = 1 };
      counts = 17 ∷ [];
      outcome = Some outcome.MainEnded;
    }

buffering_4_goes : Run (limits 1 1 16 10000) buffering_after_3 buffering_4 buffering_end
buffering_4_goes = (
  _,
  (refl, (refl, (goroutine 0, refl, (refl, (First 2, (_, refl, refl, refl), refl, refl, refl))), refl, refl)),
  (
    _,
    (refl, (refl, (goroutine 0, refl, (refl, (First 3, (_, refl, refl, refl), refl, refl, refl))), refl, refl)),
    (
      _,
      (refl, (refl, (goroutine 0, refl, ((refl, refl), refl, refl)), refl, refl)),
      refl,
    ),
  ),
)

pub buffering_is_legal : Run (limits 1 1 16 10000) (opening (limits 1 1 16 10000) 2 (2 ∷ [])) (buffering_1 ++ (buffering_2 ++ (buffering_3 ++ buffering_4))) buffering_end
buffering_is_legal =
    run_join (limits 1 1 16 10000) (opening (limits 1 1 16 10000) 2 (2 ∷ [])) buffering_after_1 buffering_end buffering_1 (buffering_2 ++ (buffering_3 ++ buffering_4)) buffering_1_goes
    (run_join (limits 1 1 16 10000) buffering_after_1 buffering_after_2 buffering_end buffering_2 (buffering_3 ++ buffering_4) buffering_2_goes
    (run_join (limits 1 1 16 10000) buffering_after_2 buffering_after_3 buffering_end buffering_3 (buffering_4) buffering_3_goes
    (buffering_4_goes)))

-- a close wakes the sender that waits, with the fault, and what was sent before is received
abbrev pub closing_1 : List Entry
closing_1 =
    entry 0 0 call.Acquire (reply.Proc (processor 0)) ∷
    entry 0 1 call.Take (reply.Ticket (ticket 0 1)) ∷
    entry 0 2 (call.Claim (ticket 0 1)) reply.Held ∷
    entry 0 3 (call.Go (goroutine 1)) (reply.Ticket (ticket 1 1)) ∷
    entry 0 4 call.Poke reply.Nothing ∷
    entry 0 5 call.Yield (reply.Shelved (ticket 0 2)) ∷
    entry 0 6 (call.Claim (ticket 1 1)) reply.Held ∷
    entry 0 7 (call.Send (Some (channel 0)) 5) (reply.Sent None) ∷
    []

abbrev pub closing_after_1 : State
closing_after_1 =
    record {
      table = record { goroutines = does (status.Ready Shelf woke.Done) 2 ∷ does (status.Running (machine 0)) 1 ∷ []; arrivals = 0; clock = 0 };
      channels = record { capacity = 1; items = 5 ∷ []; closed = false } ∷ [];
      machines = record { holders = Some (machine 0) ∷ []; modes = mode.Awake ∷ []; spinning = false ∷ []; marked = false ∷ []; active = 1 };
      counts = 8 ∷ [];
      outcome = None;
    }

closing_1_goes : Run (limits 1 1 16 10000) (opening (limits 1 1 16 10000) 2 (1 ∷ [])) closing_1 closing_after_1
closing_1_goes = (
  _,
  (refl, (refl, ((refl, refl, (refl, under refl), refl), refl, refl), refl, refl)),
  (
    _,
    (refl, (refl, (refl, ((_, refl, refl), refl, refl)), refl, refl)),
    (
      _,
      (refl, (refl, ((refl, refl, refl), refl, ((_, refl, refl), refl, refl)), refl, refl)),
      (
        _,
        (refl, (refl, (goroutine 0, refl, ((refl, refl, refl), refl, refl)), refl, refl)),
        (
          _,
          (refl, (refl, ((refl, refl, refl), refl, refl), refl, refl)),
          (
            _,
            (refl, (refl, (goroutine 0, refl, ((refl, refl), refl, refl)), refl, refl)),
            (
              _,
              (refl, (refl, ((refl, refl, refl), refl, ((_, refl, refl), refl, refl)), refl, refl)),
              (
                _,
                (refl, (refl, (goroutine 1, refl, (refl, (Stored, (refl, refl, refl, refl), refl, refl, refl))), refl, refl)),
                refl,
              ),
            ),
          ),
        ),
      ),
    ),
  ),
)

abbrev pub closing_2 : List Entry
closing_2 =
    entry 0 8 (call.Send (Some (channel 0)) 6) reply.Waits ∷
    entry 0 9 call.Take (reply.Ticket (ticket 0 2)) ∷
    entry 0 10 (call.Claim (ticket 0 2)) reply.Held ∷
    entry 0 11 (call.Close (Some (channel 0))) (reply.Closed 1) ∷
    entry 0 12 call.Poke reply.Nothing ∷
    entry 0 13 (call.Recv (Some (channel 0))) (reply.Got 5 true None) ∷
    entry 0 14 (call.Recv (Some (channel 0))) (reply.Got 0 false None) ∷
    entry 0 15 call.Exit reply.MainEnded ∷
    []

abbrev pub closing_end : State
closing_end =
    record {
      table = record { goroutines = does status.Dead 2 ∷ does (status.Ready Shelf (woke.Fault fault.SendOnClosed)) 2 ∷ []; arrivals = 1; clock = 0 };
      channels = record { capacity = 1; items = []; closed = true } ∷ [];
      machines = record { holders = Some (machine 0) ∷ []; modes = mode.Awake ∷ []; spinning = false ∷ []; marked = false ∷ []; active = 1 };
      counts = 16 ∷ [];
      outcome = Some outcome.MainEnded;
    }

closing_2_goes : Run (limits 1 1 16 10000) closing_after_1 closing_2 closing_end
closing_2_goes = (
  _,
  (refl, (refl, (goroutine 1, refl, (refl, (refl, refl, refl, refl))), refl, refl)),
  (
    _,
    (refl, (refl, (refl, ((_, refl, refl), refl, refl)), refl, refl)),
    (
      _,
      (refl, (refl, ((refl, refl, refl), refl, ((_, refl, refl), refl, refl)), refl, refl)),
      (
        _,
        (refl, (refl, (goroutine 0, refl, (refl, refl, refl, refl, refl, refl)), refl, refl)),
        (
          _,
          (refl, (refl, ((refl, refl, refl), refl, refl), refl, refl)),
          (
            _,
            (refl, (refl, (goroutine 0, refl, (refl, (First 5, (_, refl, refl, refl), refl, refl, refl))), refl, refl)),
            (
              _,
              (refl, (refl, (goroutine 0, refl, (refl, (Drained, (refl, refl, refl, refl), refl, refl, refl))), refl, refl)),
              (
                _,
                (refl, (refl, (goroutine 0, refl, ((refl, refl), refl, refl)), refl, refl)),
                refl,
              ),
            ),
          ),
        ),
      ),
    ),
  ),
)

pub closing_is_legal : Run (limits 1 1 16 10000) (opening (limits 1 1 16 10000) 2 (1 ∷ [])) (closing_1 ++ closing_2) closing_end
closing_is_legal =
    run_join (limits 1 1 16 10000) (opening (limits 1 1 16 10000) 2 (1 ∷ [])) closing_after_1 closing_end closing_1 (closing_2) closing_1_goes
    (closing_2_goes)

-- two senders wait, and the one that came first is served first
abbrev pub in_turn_1 : List Entry
in_turn_1 =
    entry 0 0 call.Acquire (reply.Proc (processor 0)) ∷
    entry 0 1 call.Take (reply.Ticket (ticket 0 1)) ∷
    entry 0 2 (call.Claim (ticket 0 1)) reply.Held ∷
    entry 0 3 (call.Go (goroutine 2)) (reply.Ticket (ticket 2 1)) ∷
    entry 0 4 call.Poke reply.Nothing ∷
    entry 0 5 (call.Go (goroutine 1)) (reply.Ticket (ticket 1 1)) ∷
    entry 0 6 call.Poke reply.Nothing ∷
    entry 0 7 call.Yield (reply.Shelved (ticket 0 2)) ∷
    []

abbrev pub in_turn_after_1 : State
in_turn_after_1 =
    record {
      table = record { goroutines = does (status.Ready Shelf woke.Done) 2 ∷ does (status.Ready Out woke.First) 1 ∷ does (status.Ready Out woke.First) 1 ∷ []; arrivals = 0; clock = 0 };
      channels = new_channel 0 ∷ [];
      machines = record { holders = Some (machine 0) ∷ []; modes = mode.Awake ∷ []; spinning = false ∷ []; marked = false ∷ []; active = 1 };
      counts = 8 ∷ [];
      outcome = None;
    }

in_turn_1_goes : Run (limits 1 1 16 10000) (opening (limits 1 1 16 10000) 3 (0 ∷ [])) in_turn_1 in_turn_after_1
in_turn_1_goes = (
  _,
  (refl, (refl, ((refl, refl, (refl, under refl), refl), refl, refl), refl, refl)),
  (
    _,
    (refl, (refl, (refl, ((_, refl, refl), refl, refl)), refl, refl)),
    (
      _,
      (refl, (refl, ((refl, refl, refl), refl, ((_, refl, refl), refl, refl)), refl, refl)),
      (
        _,
        (refl, (refl, (goroutine 0, refl, ((refl, refl, refl), refl, refl)), refl, refl)),
        (
          _,
          (refl, (refl, ((refl, refl, refl), refl, refl), refl, refl)),
          (
            _,
            (refl, (refl, (goroutine 0, refl, ((refl, refl, refl), refl, refl)), refl, refl)),
            (
              _,
              (refl, (refl, ((refl, refl, refl), refl, refl), refl, refl)),
              (
                _,
                (refl, (refl, (goroutine 0, refl, ((refl, refl), refl, refl)), refl, refl)),
                refl,
              ),
            ),
          ),
        ),
      ),
    ),
  ),
)

abbrev pub in_turn_2 : List Entry
in_turn_2 =
    entry 0 8 (call.Claim (ticket 2 1)) reply.Held ∷
    entry 0 9 (call.Send (Some (channel 0)) 2) reply.Waits ∷
    entry 0 10 (call.Claim (ticket 1 1)) reply.Held ∷
    entry 0 11 (call.Send (Some (channel 0)) 1) reply.Waits ∷
    entry 0 12 call.Take (reply.Ticket (ticket 0 2)) ∷
    entry 0 13 (call.Claim (ticket 0 2)) reply.Held ∷
    entry 0 14 (call.Recv (Some (channel 0))) (reply.Got 2 true (Some (record { sender = ticket 2 2; value = 2 }))) ∷
    entry 0 15 call.Poke reply.Nothing ∷
    []

abbrev pub in_turn_after_2 : State
in_turn_after_2 =
    record {
      table = record { goroutines = does (status.Running (machine 0)) 2 ∷ does (status.Waiting (record { arrival = 1; kind = kind.Plain; offers = record { case = 0; channel = channel 0; deal = deal.Send 1 } ∷ []; until = None })) 1 ∷ does (status.Ready Out woke.Done) 2 ∷ []; arrivals = 2; clock = 0 };
      channels = new_channel 0 ∷ [];
      machines = record { holders = Some (machine 0) ∷ []; modes = mode.Awake ∷ []; spinning = false ∷ []; marked = false ∷ []; active = 1 };
      counts = 16 ∷ [];
      outcome = None;
    }

in_turn_2_goes : Run (limits 1 1 16 10000) in_turn_after_1 in_turn_2 in_turn_after_2
in_turn_2_goes = (
  _,
  (refl, (refl, ((refl, refl, refl), refl, ((_, refl, refl), refl, refl)), refl, refl)),
  (
    _,
    (refl, (refl, (goroutine 2, refl, (refl, (refl, refl, refl, refl))), refl, refl)),
    (
      _,
      (refl, (refl, ((refl, refl, refl), refl, ((_, refl, refl), refl, refl)), refl, refl)),
      (
        _,
        (refl, (refl, (goroutine 1, refl, (refl, (refl, refl, refl, refl))), refl, refl)),
        (
          _,
          (refl, (refl, (refl, ((_, refl, refl), refl, refl)), refl, refl)),
          (
            _,
            (refl, (refl, ((refl, refl, refl), refl, ((_, refl, refl), refl, refl)), refl, refl)),
            (
              _,
              (refl, (refl, (goroutine 0, refl, (refl, (Relayed 2 _, (_, refl, refl, refl), refl, refl, refl))), refl, refl)),
              (
                _,
                (refl, (refl, ((refl, refl, refl), refl, refl), refl, refl)),
                refl,
              ),
            ),
          ),
        ),
      ),
    ),
  ),
)

abbrev pub in_turn_3 : List Entry
in_turn_3 =
    entry 0 16 (call.Recv (Some (channel 0))) (reply.Got 1 true (Some (record { sender = ticket 1 2; value = 1 }))) ∷
    entry 0 17 call.Poke reply.Nothing ∷
    entry 0 18 call.Exit reply.MainEnded ∷
    []

abbrev pub in_turn_end : State
in_turn_end =
    record {
      table = record { goroutines = does status.Dead 2 ∷ does (status.Ready Out woke.Done) 2 ∷ does (status.Ready Out woke.Done) 2 ∷ []; arrivals = 2; clock = 0 };
      channels = new_channel 0 ∷ [];
      machines = record { holders = Some (machine 0) ∷ []; modes = mode.Awake ∷ []; spinning = false ∷ []; marked = false ∷ []; active = 1 };
      counts = 19 ∷ [];
      outcome = Some outcome.MainEnded;
    }

in_turn_3_goes : Run (limits 1 1 16 10000) in_turn_after_2 in_turn_3 in_turn_end
in_turn_3_goes = (
  _,
  (refl, (refl, (goroutine 0, refl, (refl, (Relayed 1 _, (_, refl, refl, refl), refl, refl, refl))), refl, refl)),
  (
    _,
    (refl, (refl, ((refl, refl, refl), refl, refl), refl, refl)),
    (
      _,
      (refl, (refl, (goroutine 0, refl, ((refl, refl), refl, refl)), refl, refl)),
      refl,
    ),
  ),
)

pub in_turn_is_legal : Run (limits 1 1 16 10000) (opening (limits 1 1 16 10000) 3 (0 ∷ [])) (in_turn_1 ++ (in_turn_2 ++ in_turn_3)) in_turn_end
in_turn_is_legal =
    run_join (limits 1 1 16 10000) (opening (limits 1 1 16 10000) 3 (0 ∷ [])) in_turn_after_1 in_turn_end in_turn_1 (in_turn_2 ++ in_turn_3) in_turn_1_goes
    (run_join (limits 1 1 16 10000) in_turn_after_1 in_turn_after_2 in_turn_end in_turn_2 (in_turn_3) in_turn_2_goes
    (in_turn_3_goes))

-- a value is handed to a receiver that waits
abbrev pub handing_1 : List Entry
handing_1 =
    entry 0 0 call.Acquire (reply.Proc (processor 0)) ∷
    entry 0 1 call.Take (reply.Ticket (ticket 0 1)) ∷
    entry 0 2 (call.Claim (ticket 0 1)) reply.Held ∷
    entry 0 3 (call.Go (goroutine 1)) (reply.Ticket (ticket 1 1)) ∷
    entry 0 4 call.Poke reply.Nothing ∷
    entry 0 5 call.Yield (reply.Shelved (ticket 0 2)) ∷
    entry 0 6 (call.Claim (ticket 1 1)) reply.Held ∷
    entry 0 7 (call.Recv (Some (channel 0))) reply.Waits ∷
    []

abbrev pub handing_after_1 : State
handing_after_1 =
    record {
      table = record { goroutines = does (status.Ready Shelf woke.Done) 2 ∷ does (status.Waiting (record { arrival = 0; kind = kind.Plain; offers = record { case = 0; channel = channel 0; deal = deal.Receive } ∷ []; until = None })) 1 ∷ []; arrivals = 1; clock = 0 };
      channels = new_channel 0 ∷ [];
      machines = record { holders = Some (machine 0) ∷ []; modes = mode.Awake ∷ []; spinning = false ∷ []; marked = false ∷ []; active = 1 };
      counts = 8 ∷ [];
      outcome = None;
    }

handing_1_goes : Run (limits 1 1 16 10000) (opening (limits 1 1 16 10000) 2 (0 ∷ [])) handing_1 handing_after_1
handing_1_goes = (
  _,
  (refl, (refl, ((refl, refl, (refl, under refl), refl), refl, refl), refl, refl)),
  (
    _,
    (refl, (refl, (refl, ((_, refl, refl), refl, refl)), refl, refl)),
    (
      _,
      (refl, (refl, ((refl, refl, refl), refl, ((_, refl, refl), refl, refl)), refl, refl)),
      (
        _,
        (refl, (refl, (goroutine 0, refl, ((refl, refl, refl), refl, refl)), refl, refl)),
        (
          _,
          (refl, (refl, ((refl, refl, refl), refl, refl), refl, refl)),
          (
            _,
            (refl, (refl, (goroutine 0, refl, ((refl, refl), refl, refl)), refl, refl)),
            (
              _,
              (refl, (refl, ((refl, refl, refl), refl, ((_, refl, refl), refl, refl)), refl, refl)),
              (
                _,
                (refl, (refl, (goroutine 1, refl, (refl, (refl, refl, refl, refl))), refl, refl)),
                refl,
              ),
            ),
          ),
        ),
      ),
    ),
  ),
)

abbrev pub handing_2 : List Entry
handing_2 =
    entry 0 8 call.Take (reply.Ticket (ticket 0 2)) ∷
    entry 0 9 (call.Claim (ticket 0 2)) reply.Held ∷
    entry 0 10 (call.Send (Some (channel 0)) 7) (reply.Sent (Some (ticket 1 2))) ∷
    entry 0 11 call.Poke reply.Nothing ∷
    []

abbrev pub handing_end : State
handing_end =
    record {
      table = record { goroutines = does (status.Running (machine 0)) 2 ∷ does (status.Ready Out (woke.Got 7 true)) 2 ∷ []; arrivals = 1; clock = 0 };
      channels = new_channel 0 ∷ [];
      machines = record { holders = Some (machine 0) ∷ []; modes = mode.Awake ∷ []; spinning = false ∷ []; marked = false ∷ []; active = 1 };
      counts = 12 ∷ [];
      outcome = None;
    }

handing_2_goes : Run (limits 1 1 16 10000) handing_after_1 handing_2 handing_end
handing_2_goes = (
  _,
  (refl, (refl, (refl, ((_, refl, refl), refl, refl)), refl, refl)),
  (
    _,
    (refl, (refl, ((refl, refl, refl), refl, ((_, refl, refl), refl, refl)), refl, refl)),
    (
      _,
      (refl, (refl, (goroutine 0, refl, (refl, (Handed _, (refl, refl, refl), refl, refl, refl))), refl, refl)),
      (
        _,
        (refl, (refl, ((refl, refl, refl), refl, refl), refl, refl)),
        refl,
      ),
    ),
  ),
)

pub handing_is_legal : Run (limits 1 1 16 10000) (opening (limits 1 1 16 10000) 2 (0 ∷ [])) (handing_1 ++ handing_2) handing_end
handing_is_legal =
    run_join (limits 1 1 16 10000) (opening (limits 1 1 16 10000) 2 (0 ∷ [])) handing_after_1 handing_end handing_1 (handing_2) handing_1_goes
    (handing_2_goes)

-- a close tells each receiver that waits the zero value, and a select its case
abbrev pub closing_receivers_1 : List Entry
closing_receivers_1 =
    entry 0 0 call.Acquire (reply.Proc (processor 0)) ∷
    entry 0 1 call.Take (reply.Ticket (ticket 0 1)) ∷
    entry 0 2 (call.Claim (ticket 0 1)) reply.Held ∷
    entry 0 3 (call.Go (goroutine 1)) (reply.Ticket (ticket 1 1)) ∷
    entry 0 4 call.Poke reply.Nothing ∷
    entry 0 5 (call.Go (goroutine 2)) (reply.Ticket (ticket 2 1)) ∷
    entry 0 6 call.Poke reply.Nothing ∷
    entry 0 7 call.Yield (reply.Shelved (ticket 0 2)) ∷
    []

abbrev pub closing_receivers_after_1 : State
closing_receivers_after_1 =
    record {
      table = record { goroutines = does (status.Ready Shelf woke.Done) 2 ∷ does (status.Ready Out woke.First) 1 ∷ does (status.Ready Out woke.First) 1 ∷ []; arrivals = 0; clock = 0 };
      channels = new_channel 0 ∷ new_channel 0 ∷ [];
      machines = record { holders = Some (machine 0) ∷ []; modes = mode.Awake ∷ []; spinning = false ∷ []; marked = false ∷ []; active = 1 };
      counts = 8 ∷ [];
      outcome = None;
    }

closing_receivers_1_goes : Run (limits 1 1 16 10000) (opening (limits 1 1 16 10000) 3 (0 ∷ 0 ∷ [])) closing_receivers_1 closing_receivers_after_1
closing_receivers_1_goes = (
  _,
  (refl, (refl, ((refl, refl, (refl, under refl), refl), refl, refl), refl, refl)),
  (
    _,
    (refl, (refl, (refl, ((_, refl, refl), refl, refl)), refl, refl)),
    (
      _,
      (refl, (refl, ((refl, refl, refl), refl, ((_, refl, refl), refl, refl)), refl, refl)),
      (
        _,
        (refl, (refl, (goroutine 0, refl, ((refl, refl, refl), refl, refl)), refl, refl)),
        (
          _,
          (refl, (refl, ((refl, refl, refl), refl, refl), refl, refl)),
          (
            _,
            (refl, (refl, (goroutine 0, refl, ((refl, refl, refl), refl, refl)), refl, refl)),
            (
              _,
              (refl, (refl, ((refl, refl, refl), refl, refl), refl, refl)),
              (
                _,
                (refl, (refl, (goroutine 0, refl, ((refl, refl), refl, refl)), refl, refl)),
                refl,
              ),
            ),
          ),
        ),
      ),
    ),
  ),
)

abbrev pub closing_receivers_2 : List Entry
closing_receivers_2 =
    entry 0 8 (call.Claim (ticket 1 1)) reply.Held ∷
    entry 0 9 (call.Recv (Some (channel 0))) reply.Waits ∷
    entry 0 10 (call.Claim (ticket 2 1)) reply.Held ∷
    entry 0 11 (call.Select (case.Recv (Some (channel 1)) ∷ case.Recv (Some (channel 0)) ∷ []) false None) reply.Waits ∷
    entry 0 12 call.Take (reply.Ticket (ticket 0 2)) ∷
    entry 0 13 (call.Claim (ticket 0 2)) reply.Held ∷
    entry 0 14 (call.Close (Some (channel 0))) (reply.Closed 2) ∷
    []

abbrev pub closing_receivers_end : State
closing_receivers_end =
    record {
      table = record { goroutines = does (status.Running (machine 0)) 2 ∷ does (status.Ready Shelf (woke.Got 0 false)) 2 ∷ does (status.Ready Shelf (woke.Chose 1 (Some (0, false)))) 2 ∷ []; arrivals = 2; clock = 0 };
      channels = record { capacity = 0; items = []; closed = true } ∷ new_channel 0 ∷ [];
      machines = record { holders = Some (machine 0) ∷ []; modes = mode.Awake ∷ []; spinning = false ∷ []; marked = false ∷ []; active = 1 };
      counts = 15 ∷ [];
      outcome = None;
    }

closing_receivers_2_goes : Run (limits 1 1 16 10000) closing_receivers_after_1 closing_receivers_2 closing_receivers_end
closing_receivers_2_goes = (
  _,
  (refl, (refl, ((refl, refl, refl), refl, ((_, refl, refl), refl, refl)), refl, refl)),
  (
    _,
    (refl, (refl, (goroutine 1, refl, (refl, (refl, refl, refl, refl))), refl, refl)),
    (
      _,
      (refl, (refl, ((refl, refl, refl), refl, ((_, refl, refl), refl, refl)), refl, refl)),
      (
        _,
        (refl, (refl, (lit≤ tt, (goroutine 2, refl, (refl, refl, (refl, refl, refl, refl)))), refl, refl)),
        (
          _,
          (refl, (refl, (refl, ((_, refl, refl), refl, refl)), refl, refl)),
          (
            _,
            (refl, (refl, ((refl, refl, refl), refl, ((_, refl, refl), refl, refl)), refl, refl)),
            (
              _,
              (refl, (refl, (goroutine 0, refl, (refl, refl, refl, refl, refl, refl)), refl, refl)),
              refl,
            ),
          ),
        ),
      ),
    ),
  ),
)

pub closing_receivers_is_legal : Run (limits 1 1 16 10000) (opening (limits 1 1 16 10000) 3 (0 ∷ 0 ∷ [])) (closing_receivers_1 ++ closing_receivers_2) closing_receivers_end
closing_receivers_is_legal =
    run_join (limits 1 1 16 10000) (opening (limits 1 1 16 10000) 3 (0 ∷ 0 ∷ [])) closing_receivers_after_1 closing_receivers_end closing_receivers_1 (closing_receivers_2) closing_receivers_1_goes
    (closing_receivers_2_goes)

-- channels are made up to the limit, told of and closed
abbrev pub making_1 : List Entry
making_1 =
    entry 0 0 call.Acquire (reply.Proc (processor 0)) ∷
    entry 0 1 call.Take (reply.Ticket (ticket 0 1)) ∷
    entry 0 2 (call.Claim (ticket 0 1)) reply.Held ∷
    entry 0 3 (call.Make 2) (reply.Channel (channel 0)) ∷
    entry 0 4 (call.Make 4097) (reply.Fault fault.BadCapacity) ∷
    entry 0 5 (call.Make 0) (reply.Fault fault.TooManyChannels) ∷
    entry 0 6 (call.Len None) (reply.Number 0) ∷
    entry 0 7 (call.Cap (Some (channel 0))) (reply.Number 2) ∷
    []

abbrev pub making_after_1 : State
making_after_1 =
    record {
      table = record { goroutines = does (status.Running (machine 0)) 1 ∷ []; arrivals = 0; clock = 0 };
      channels = new_channel 2 ∷ [];
      machines = record { holders = Some (machine 0) ∷ []; modes = mode.Awake ∷ []; spinning = false ∷ []; marked = false ∷ []; active = 1 };
      counts = 8 ∷ [];
      outcome = None;
    }

making_1_goes : Run (limits 1 1 1 10000) (opening (limits 1 1 1 10000) 1 ([])) making_1 making_after_1
making_1_goes = (
  _,
  (refl, (refl, ((refl, refl, (refl, under refl), refl), refl, refl), refl, refl)),
  (
    _,
    (refl, (refl, (refl, ((_, refl, refl), refl, refl)), refl, refl)),
    (
      _,
      (refl, (refl, ((refl, refl, refl), refl, ((_, refl, refl), refl, refl)), refl, refl)),
      (
        _,
        (refl, (refl, (goroutine 0, refl, ((lit≤ tt, lit< tt, refl, refl), refl, refl)), refl, refl)),
        (
          _,
          (refl, (refl, (goroutine 0, refl, ((lit< tt, refl), refl, refl)), refl, refl)),
          (
            _,
            (refl, (refl, (goroutine 0, refl, ((lit≤ tt, lit≤ tt, refl), refl, refl)), refl, refl)),
            (
              _,
              (refl, (refl, (goroutine 0, refl, ((refl, refl, refl), refl, refl)), refl, refl)),
              (
                _,
                (refl, (refl, (goroutine 0, refl, ((refl, refl, refl), refl, refl)), refl, refl)),
                refl,
              ),
            ),
          ),
        ),
      ),
    ),
  ),
)

abbrev pub making_2 : List Entry
making_2 =
    entry 0 8 (call.Send (Some (channel 1)) 5) (reply.Fault fault.NoSuchChannel) ∷
    entry 0 9 (call.Close None) (reply.Fault fault.CloseOfNil) ∷
    entry 0 10 (call.Close (Some (channel 0))) (reply.Closed 0) ∷
    entry 0 11 (call.Close (Some (channel 0))) (reply.Fault fault.CloseOfClosed) ∷
    entry 0 12 (call.Send (Some (channel 0)) 5) (reply.Fault fault.SendOnClosed) ∷
    entry 0 13 (call.Recv (Some (channel 0))) (reply.Got 0 false None) ∷
    entry 0 14 call.Exit reply.MainEnded ∷
    []

abbrev pub making_end : State
making_end =
    record {
      table = record { goroutines = does status.Dead 1 ∷ []; arrivals = 0; clock = 0 };
      channels = record { capacity = 2; items = []; closed = true } ∷ [];
      machines = record { holders = Some (machine 0) ∷ []; modes = mode.Awake ∷ []; spinning = false ∷ []; marked = false ∷ []; active = 1 };
      counts = 15 ∷ [];
      outcome = Some outcome.MainEnded;
    }

making_2_goes : Run (limits 1 1 1 10000) making_after_1 making_2 making_end
making_2_goes = (
  _,
  (refl, (refl, (goroutine 0, refl, (refl, (refl, refl, refl))), refl, refl)),
  (
    _,
    (refl, (refl, (goroutine 0, refl, (refl, refl, refl)), refl, refl)),
    (
      _,
      (refl, (refl, (goroutine 0, refl, (refl, refl, refl, refl, refl, refl)), refl, refl)),
      (
        _,
        (refl, (refl, (goroutine 0, refl, (refl, refl, (refl, refl, refl))), refl, refl)),
        (
          _,
          (refl, (refl, (goroutine 0, refl, (refl, (Failed, (refl, refl), refl, refl, refl))), refl, refl)),
          (
            _,
            (refl, (refl, (goroutine 0, refl, (refl, (Drained, (refl, refl, refl, refl), refl, refl, refl))), refl, refl)),
            (
              _,
              (refl, (refl, (goroutine 0, refl, ((refl, refl), refl, refl)), refl, refl)),
              refl,
            ),
          ),
        ),
      ),
    ),
  ),
)

pub making_is_legal : Run (limits 1 1 1 10000) (opening (limits 1 1 1 10000) 1 ([])) (making_1 ++ making_2) making_end
making_is_legal =
    run_join (limits 1 1 1 10000) (opening (limits 1 1 1 10000) 1 ([])) making_after_1 making_end making_1 (making_2) making_1_goes
    (making_2_goes)
