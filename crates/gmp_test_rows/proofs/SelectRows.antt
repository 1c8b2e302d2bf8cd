-- Worked traces of selects.
use Rattle.gmp_base.specs.declared.ask.Fault.TheVariants as fault
use Rattle.gmp_base.specs.declared.ask.Woke.TheVariants as woke
use Rattle.gmp_base.specs.declared.cases.Case.TheVariants as case
use Rattle.gmp_seq.proofs.Runs.{run_join}
use Rattle.gmp_test_rows.proofs.Traces.{goroutine, machine, processor, channel, ticket, entry, does, limits, under}
use Rattle.gmp_seq.specs.Run.{Run}
use Rattle.gmp_seq.specs.State.{State, opening}
use Rattle.gmp_seq.specs.Waits.{new_channel}
use Rattle.gmp_seq.specs.declared.call.Call.TheVariants as call
use Rattle.gmp_seq.specs.declared.call.Entry.{Entry}
use Rattle.gmp_seq.specs.declared.call.Outcome.TheVariants as outcome
use Rattle.gmp_seq.specs.declared.call.Reply.TheVariants as reply
use Rattle.gmp_seq.specs.declared.call.Taken.TheVariants as taken
use Rattle.gmp_seq.specs.declared.status.Deal.TheVariants as deal
use Rattle.gmp_seq.specs.declared.status.Kind.TheVariants as kind
use Rattle.gmp_seq.specs.declared.status.Mode.TheVariants as mode
use Rattle.gmp_seq.specs.declared.status.TicketPlace.TheVariants.{Shelf, Out}
use Rattle.gmp_seq.specs.declared.status.Status.TheVariants as status
use Rattle.gmp_seq.specs.declared.status.Transfer.TheVariants.{Failed, Handed, Stored, First, Relayed, Drained}
use Rattle.std.proofs.Common.{lit≤, true, false, None, Some, List, [], ◌∷◌, ◌++◌, refl}

-- a select doesn't pair with itself
abbrev pub selecting_alone : List Entry
selecting_alone =
    entry 0 0 call.Acquire (reply.Proc (processor 0)) ∷
    entry 0 1 call.Take (reply.Ticket (ticket 0 1)) ∷
    entry 0 2 (call.Claim (ticket 0 1)) reply.Held ∷
    entry 0 3 (call.Select (case.Send (Some (channel 0)) 7 ∷ case.Recv (Some (channel 0)) ∷ []) false None) reply.Waits ∷
    entry 0 4 call.Take reply.Nothing ∷
    entry 0 5 call.Declare (reply.Idle (processor 0)) ∷
    entry 0 6 call.Park reply.AllAsleep ∷
    []

abbrev pub selecting_alone_end : State
selecting_alone_end =
    record {
      table = record { goroutines = does (status.Waiting (record { arrival = 0; kind = kind.Select; offers = record { case = 0; channel = channel 0; deal = deal.Send 7 } ∷ record { case = 1; channel = channel 0; deal = deal.Receive } ∷ []; until = None })) 1 ∷ []; arrivals = 1; clock = 0 };
      channels = new_channel 0 ∷ [];
      machines = record { holders = None ∷ []; modes = mode.Awake ∷ []; spinning = false ∷ []; marked = false ∷ []; active = 1 };
      counts = 7 ∷ [];
      outcome = Some outcome.AllAsleep;
    }

pub selecting_alone_is_legal : Run (limits 1 1 16 10000) (opening (limits 1 1 16 10000) 1 (0 ∷ [])) selecting_alone selecting_alone_end
selecting_alone_is_legal = (
  _,
  (refl, (refl, ((refl, refl, (refl, under refl), refl), refl, refl), refl, refl)),
  (
    _,
    (refl, (refl, (refl, ((_, refl, refl), refl, refl)), refl, refl)),
    (
      _,
      (refl, (refl, ((refl, refl, refl), refl, ((_, refl, refl), refl, refl)), refl, refl)),
      (
        _,
        (refl, (refl, (lit≤ tt, (goroutine 0, refl, (refl, refl, (refl, refl, refl, refl)))), refl, refl)),
        (
          _,
          (refl, (refl, (refl, ((refl, refl), refl, refl)), refl, refl)),
          (
            _,
            (refl, (refl, (refl, ((refl, refl, refl), refl, refl)), refl, refl)),
            (
              _,
              (refl, (refl, ((refl, refl, refl), (refl, refl, (refl, refl, refl))), refl, refl)),
              refl,
            ),
          ),
        ),
      ),
    ),
  ),
)

-- two selects meet, the second by its send
abbrev pub selecting_1 : List Entry
selecting_1 =
    entry 0 0 call.Acquire (reply.Proc (processor 0)) ∷
    entry 0 1 call.Take (reply.Ticket (ticket 0 1)) ∷
    entry 0 2 (call.Claim (ticket 0 1)) reply.Held ∷
    entry 0 3 (call.Go (goroutine 1)) (reply.Ticket (ticket 1 1)) ∷
    entry 0 4 call.Poke reply.Nothing ∷
    entry 0 5 call.Yield (reply.Shelved (ticket 0 2)) ∷
    entry 0 6 (call.Claim (ticket 1 1)) reply.Held ∷
    entry 0 7 (call.Select (case.Send (Some (channel 0)) 8 ∷ case.Recv (Some (channel 0)) ∷ []) false None) reply.Waits ∷
    []

abbrev pub selecting_after_1 : State
selecting_after_1 =
    record {
      table = record { goroutines = does (status.Ready Shelf woke.Done) 2 ∷ does (status.Waiting (record { arrival = 0; kind = kind.Select; offers = record { case = 0; channel = channel 0; deal = deal.Send 8 } ∷ record { case = 1; channel = channel 0; deal = deal.Receive } ∷ []; until = None })) 1 ∷ []; arrivals = 1; clock = 0 };
      channels = new_channel 0 ∷ [];
      machines = record { holders = Some (machine 0) ∷ []; modes = mode.Awake ∷ []; spinning = false ∷ []; marked = false ∷ []; active = 1 };
      counts = 8 ∷ [];
      outcome = None;
    }

selecting_1_goes : Run (limits 1 1 16 10000) (opening (limits 1 1 16 10000) 2 (0 ∷ [])) selecting_1 selecting_after_1
selecting_1_goes = (
  _,
  (refl, (refl, ((refl, refl, (refl, under refl), refl), refl, refl), refl, refl)),
  (
    _,
    (refl, (refl, (refl, ((_, refl, refl), refl, refl)), refl, refl)),
    (
      _,
      (refl, (refl, ((refl, refl, refl), refl, ((_, refl, refl), refl, refl)), refl, refl)),
      (
        _,
        (refl, (refl, (goroutine 0, refl, ((refl, refl, refl), refl, refl)), refl, refl)),
        (
          _,
          (refl, (refl, ((refl, refl, refl), refl, refl), refl, refl)),
          (
            _,
            (refl, (refl, (goroutine 0, refl, ((refl, refl), refl, refl)), refl, refl)),
            (
              _,
              (refl, (refl, ((refl, refl, refl), refl, ((_, refl, refl), refl, refl)), refl, refl)),
              (
                _,
                (refl, (refl, (lit≤ tt, (goroutine 1, refl, (refl, refl, (refl, refl, refl, refl)))), refl, refl)),
                refl,
              ),
            ),
          ),
        ),
      ),
    ),
  ),
)

abbrev pub selecting_2 : List Entry
selecting_2 =
    entry 0 8 call.Take (reply.Ticket (ticket 0 2)) ∷
    entry 0 9 (call.Claim (ticket 0 2)) reply.Held ∷
    entry 0 10 (call.Select (case.Send (Some (channel 0)) 7 ∷ case.Recv (Some (channel 0)) ∷ []) false None) (reply.Chose 0 (taken.Sent (Some (ticket 1 2)))) ∷
    entry 0 11 call.Poke reply.Nothing ∷
    entry 0 12 call.Exit reply.MainEnded ∷
    []

abbrev pub selecting_end : State
selecting_end =
    record {
      table = record { goroutines = does status.Dead 2 ∷ does (status.Ready Out (woke.Chose 1 (Some (7, true)))) 2 ∷ []; arrivals = 1; clock = 0 };
      channels = new_channel 0 ∷ [];
      machines = record { holders = Some (machine 0) ∷ []; modes = mode.Awake ∷ []; spinning = false ∷ []; marked = false ∷ []; active = 1 };
      counts = 13 ∷ [];
      outcome = Some outcome.MainEnded;
    }

selecting_2_goes : Run (limits 1 1 16 10000) selecting_after_1 selecting_2 selecting_end
selecting_2_goes = (
  _,
  (refl, (refl, (refl, ((_, refl, refl), refl, refl)), refl, refl)),
  (
    _,
    (refl, (refl, ((refl, refl, refl), refl, ((_, refl, refl), refl, refl)), refl, refl)),
    (
      _,
      (refl, (refl, (lit≤ tt, (goroutine 0, refl, (refl, _, refl, (Handed _, (refl, refl, refl), refl, refl, refl)))), refl, refl)),
      (
        _,
        (refl, (refl, ((refl, refl, refl), refl, refl), refl, refl)),
        (
          _,
          (refl, (refl, (goroutine 0, refl, ((refl, refl), refl, refl)), refl, refl)),
          refl,
        ),
      ),
    ),
  ),
)

pub selecting_is_legal : Run (limits 1 1 16 10000) (opening (limits 1 1 16 10000) 2 (0 ∷ [])) (selecting_1 ++ selecting_2) selecting_end
selecting_is_legal =
    run_join (limits 1 1 16 10000) (opening (limits 1 1 16 10000) 2 (0 ∷ [])) selecting_after_1 selecting_end selecting_1 (selecting_2) selecting_1_goes
    (selecting_2_goes)

-- two selects meet, the second by its receive
abbrev pub selecting_otherwise_1 : List Entry
selecting_otherwise_1 =
    entry 0 0 call.Acquire (reply.Proc (processor 0)) ∷
    entry 0 1 call.Take (reply.Ticket (ticket 0 1)) ∷
    entry 0 2 (call.Claim (ticket 0 1)) reply.Held ∷
    entry 0 3 (call.Go (goroutine 1)) (reply.Ticket (ticket 1 1)) ∷
    entry 0 4 call.Poke reply.Nothing ∷
    entry 0 5 call.Yield (reply.Shelved (ticket 0 2)) ∷
    entry 0 6 (call.Claim (ticket 1 1)) reply.Held ∷
    entry 0 7 (call.Select (case.Send (Some (channel 0)) 8 ∷ case.Recv (Some (channel 0)) ∷ []) false None) reply.Waits ∷
    []

abbrev pub selecting_otherwise_after_1 : State
selecting_otherwise_after_1 =
    record {
      table = record { goroutines = does (status.Ready Shelf woke.Done) 2 ∷ does (status.Waiting (record { arrival = 0; kind = kind.Select; offers = record { case = 0; channel = channel 0; deal = deal.Send 8 } ∷ record { case = 1; channel = channel 0; deal = deal.Receive } ∷ []; until = None })) 1 ∷ []; arrivals = 1; clock = 0 };
      channels = new_channel 0 ∷ [];
      machines = record { holders = Some (machine 0) ∷ []; modes = mode.Awake ∷ []; spinning = false ∷ []; marked = false ∷ []; active = 1 };
      counts = 8 ∷ [];
      outcome = None;
    }

selecting_otherwise_1_goes : Run (limits 1 1 16 10000) (opening (limits 1 1 16 10000) 2 (0 ∷ [])) selecting_otherwise_1 selecting_otherwise_after_1
selecting_otherwise_1_goes = (
  _,
  (refl, (refl, ((refl, refl, (refl, under refl), refl), refl, refl), refl, refl)),
  (
    _,
    (refl, (refl, (refl, ((_, refl, refl), refl, refl)), refl, refl)),
    (
      _,
      (refl, (refl, ((refl, refl, refl), refl, ((_, refl, refl), refl, refl)), refl, refl)),
      (
        _,
        (refl, (refl, (goroutine 0, refl, ((refl, refl, refl), refl, refl)), refl, refl)),
        (
          _,
          (refl, (refl, ((refl, refl, refl), refl, refl), refl, refl)),
          (
            _,
            (refl, (refl, (goroutine 0, refl, ((refl, refl), refl, refl)), refl, refl)),
            (
              _,
              (refl, (refl, ((refl, refl, refl), refl, ((_, refl, refl), refl, refl)), refl, refl)),
              (
                _,
                (refl, (refl, (lit≤ tt, (goroutine 1, refl, (refl, refl, (refl, refl, refl, refl)))), refl, refl)),
                refl,
              ),
            ),
          ),
        ),
      ),
    ),
  ),
)

abbrev pub selecting_otherwise_2 : List Entry
selecting_otherwise_2 =
    entry 0 8 call.Take (reply.Ticket (ticket 0 2)) ∷
    entry 0 9 (call.Claim (ticket 0 2)) reply.Held ∷
    entry 0 10 (call.Select (case.Send (Some (channel 0)) 7 ∷ case.Recv (Some (channel 0)) ∷ []) false None) (reply.Chose 1 (taken.Got 8 true (Some (record { sender = ticket 1 2; value = 8 })))) ∷
    entry 0 11 call.Poke reply.Nothing ∷
    entry 0 12 call.Exit reply.MainEnded ∷
    []

abbrev pub selecting_otherwise_end : State
selecting_otherwise_end =
    record {
      table = record { goroutines = does status.Dead 2 ∷ does (status.Ready Out (woke.Chose 0 None)) 2 ∷ []; arrivals = 1; clock = 0 };
      channels = new_channel 0 ∷ [];
      machines = record { holders = Some (machine 0) ∷ []; modes = mode.Awake ∷ []; spinning = false ∷ []; marked = false ∷ []; active = 1 };
      counts = 13 ∷ [];
      outcome = Some outcome.MainEnded;
    }

selecting_otherwise_2_goes : Run (limits 1 1 16 10000) selecting_otherwise_after_1 selecting_otherwise_2 selecting_otherwise_end
selecting_otherwise_2_goes = (
  _,
  (refl, (refl, (refl, ((_, refl, refl), refl, refl)), refl, refl)),
  (
    _,
    (refl, (refl, ((refl, refl, refl), refl, ((_, refl, refl), refl, refl)), refl, refl)),
    (
      _,
      (refl, (refl, (lit≤ tt, (goroutine 0, refl, (refl, _, refl, (Relayed 8 _, (_, refl, refl, refl), refl, refl, refl)))), refl, refl)),
      (
        _,
        (refl, (refl, ((refl, refl, refl), refl, refl), refl, refl)),
        (
          _,
          (refl, (refl, (goroutine 0, refl, ((refl, refl), refl, refl)), refl, refl)),
          refl,
        ),
      ),
    ),
  ),
)

pub selecting_otherwise_is_legal : Run (limits 1 1 16 10000) (opening (limits 1 1 16 10000) 2 (0 ∷ [])) (selecting_otherwise_1 ++ selecting_otherwise_2) selecting_otherwise_end
selecting_otherwise_is_legal =
    run_join (limits 1 1 16 10000) (opening (limits 1 1 16 10000) 2 (0 ∷ [])) selecting_otherwise_after_1 selecting_otherwise_end selecting_otherwise_1 (selecting_otherwise_2) selecting_otherwise_1_goes
    (selecting_otherwise_2_goes)

-- on nil a select takes its default, or waits for good
abbrev pub selecting_nil : List Entry
selecting_nil =
    entry 0 0 call.Acquire (reply.Proc (processor 0)) ∷
    entry 0 1 call.Take (reply.Ticket (ticket 0 1)) ∷
    entry 0 2 (call.Claim (ticket 0 1)) reply.Held ∷
    entry 0 3 (call.Select (case.Recv None ∷ case.Send None 1 ∷ []) true None) reply.Default ∷
    entry 0 4 (call.Select (case.Recv None ∷ []) false None) reply.Waits ∷
    entry 0 5 call.Take reply.Nothing ∷
    entry 0 6 call.Declare (reply.Idle (processor 0)) ∷
    entry 0 7 call.Park reply.AllAsleep ∷
    []

abbrev pub selecting_nil_end : State
selecting_nil_end =
    record {
      table = record { goroutines = does (status.Waiting (record { arrival = 0; kind = kind.Select; offers = []; until = None })) 1 ∷ []; arrivals = 1; clock = 0 };
      channels = [];
      machines = record { holders = None ∷ []; modes = mode.Awake ∷ []; spinning = false ∷ []; marked = false ∷ []; active = 1 };
      counts = 8 ∷ [];
      outcome = Some outcome.AllAsleep;
    }

pub selecting_nil_is_legal : Run (limits 1 1 16 10000) (opening (limits 1 1 16 10000) 1 ([])) selecting_nil selecting_nil_end
selecting_nil_is_legal = (
  _,
  (refl, (refl, ((refl, refl, (refl, under refl), refl), refl, refl), refl, refl)),
  (
    _,
    (refl, (refl, (refl, ((_, refl, refl), refl, refl)), refl, refl)),
    (
      _,
      (refl, (refl, ((refl, refl, refl), refl, ((_, refl, refl), refl, refl)), refl, refl)),
      (
        _,
        (refl, (refl, (lit≤ tt, (goroutine 0, refl, (refl, refl, refl, (refl, refl, refl)))), refl, refl)),
        (
          _,
          (refl, (refl, (lit≤ tt, (goroutine 0, refl, (refl, refl, (refl, refl, refl, refl)))), refl, refl)),
          (
            _,
            (refl, (refl, (refl, ((refl, refl), refl, refl)), refl, refl)),
            (
              _,
              (refl, (refl, (refl, ((refl, refl, refl), refl, refl)), refl, refl)),
              (
                _,
                (refl, (refl, ((refl, refl, refl), (refl, refl, (refl, refl, refl))), refl, refl)),
                refl,
              ),
            ),
          ),
        ),
      ),
    ),
  ),
)

-- a select takes the one case that can proceed
abbrev pub choosing : List Entry
choosing =
    entry 0 0 call.Acquire (reply.Proc (processor 0)) ∷
    entry 0 1 call.Take (reply.Ticket (ticket 0 1)) ∷
    entry 0 2 (call.Claim (ticket 0 1)) reply.Held ∷
    entry 0 3 (call.Select (case.Recv (Some (channel 0)) ∷ case.Send (Some (channel 0)) 4 ∷ []) false None) (reply.Chose 1 (taken.Sent None)) ∷
    entry 0 4 (call.Select (case.Send (Some (channel 0)) 5 ∷ case.Recv (Some (channel 0)) ∷ []) false None) (reply.Chose 1 (taken.Got 4 true None)) ∷
    entry 0 5 call.Exit reply.MainEnded ∷
    []

abbrev pub choosing_end : State
choosing_end =
    record {
      table = record { goroutines = does status.Dead 1 ∷ []; arrivals = 0; clock = 0 };
      channels = new_channel 1 ∷ [];
      machines = record { holders = Some (machine 0) ∷ []; modes = mode.Awake ∷ []; spinning = false ∷ []; marked = false ∷ []; active = 1 };
      counts = 6 ∷ [];
      outcome = Some outcome.MainEnded;
    }

pub choosing_is_legal : Run (limits 1 1 16 10000) (opening (limits 1 1 16 10000) 1 (1 ∷ [])) choosing choosing_end
choosing_is_legal = (
  _,
  (refl, (refl, ((refl, refl, (refl, under refl), refl), refl, refl), refl, refl)),
  (
    _,
    (refl, (refl, (refl, ((_, refl, refl), refl, refl)), refl, refl)),
    (
      _,
      (refl, (refl, ((refl, refl, refl), refl, ((_, refl, refl), refl, refl)), refl, refl)),
      (
        _,
        (refl, (refl, (lit≤ tt, (goroutine 0, refl, (refl, _, refl, (Stored, (refl, refl, refl, refl), refl, refl, refl)))), refl, refl)),
        (
          _,
          (refl, (refl, (lit≤ tt, (goroutine 0, refl, (refl, _, refl, (First 4, (_, refl, refl, refl), refl, refl, refl)))), refl, refl)),
          (
            _,
            (refl, (refl, (goroutine 0, refl, ((refl, refl), refl, refl)), refl, refl)),
            refl,
          ),
        ),
      ),
    ),
  ),
)

-- on a closed channel each case can proceed, here the send
abbrev pub choosing_closed : List Entry
choosing_closed =
    entry 0 0 call.Acquire (reply.Proc (processor 0)) ∷
    entry 0 1 call.Take (reply.Ticket (ticket 0 1)) ∷
    entry 0 2 (call.Claim (ticket 0 1)) reply.Held ∷
    entry 0 3 (call.Close (Some (channel 0))) (reply.Closed 0) ∷
    entry 0 4 (call.Select (case.Send (Some (channel 0)) 1 ∷ case.Recv (Some (channel 0)) ∷ []) false None) (reply.Chose 0 taken.Failed) ∷
    entry 0 5 call.Exit reply.MainEnded ∷
    []

abbrev pub choosing_closed_end : State
choosing_closed_end =
    record {
      table = record { goroutines = does status.Dead 1 ∷ []; arrivals = 0; clock = 0 };
      channels = record { capacity = 1; items = []; closed = true } ∷ [];
      machines = record { holders = Some (machine 0) ∷ []; modes = mode.Awake ∷ []; spinning = false ∷ []; marked = false ∷ []; active = 1 };
      counts = 6 ∷ [];
      outcome = Some outcome.MainEnded;
    }

pub choosing_closed_is_legal : Run (limits 1 1 16 10000) (opening (limits 1 1 16 10000) 1 (1 ∷ [])) choosing_closed choosing_closed_end
choosing_closed_is_legal = (
  _,
  (refl, (refl, ((refl, refl, (refl, under refl), refl), refl, refl), refl, refl)),
  (
    _,
    (refl, (refl, (refl, ((_, refl, refl), refl, refl)), refl, refl)),
    (
      _,
      (refl, (refl, ((refl, refl, refl), refl, ((_, refl, refl), refl, refl)), refl, refl)),
      (
        _,
        (refl, (refl, (goroutine 0, refl, (refl, refl, refl, refl, refl, refl)), refl, refl)),
        (
          _,
          (refl, (refl, (lit≤ tt, (goroutine 0, refl, (refl, _, refl, (Failed, (refl, refl), refl, refl, refl)))), refl, refl)),
          (
            _,
            (refl, (refl, (goroutine 0, refl, ((refl, refl), refl, refl)), refl, refl)),
            refl,
          ),
        ),
      ),
    ),
  ),
)

-- and here the receive
abbrev pub choosing_closed_otherwise : List Entry
choosing_closed_otherwise =
    entry 0 0 call.Acquire (reply.Proc (processor 0)) ∷
    entry 0 1 call.Take (reply.Ticket (ticket 0 1)) ∷
    entry 0 2 (call.Claim (ticket 0 1)) reply.Held ∷
    entry 0 3 (call.Close (Some (channel 0))) (reply.Closed 0) ∷
    entry 0 4 (call.Select (case.Send (Some (channel 0)) 1 ∷ case.Recv (Some (channel 0)) ∷ []) false None) (reply.Chose 1 (taken.Got 0 false None)) ∷
    entry 0 5 call.Exit reply.MainEnded ∷
    []

abbrev pub choosing_closed_otherwise_end : State
choosing_closed_otherwise_end =
    record {
      table = record { goroutines = does status.Dead 1 ∷ []; arrivals = 0; clock = 0 };
      channels = record { capacity = 1; items = []; closed = true } ∷ [];
      machines = record { holders = Some (machine 0) ∷ []; modes = mode.Awake ∷ []; spinning = false ∷ []; marked = false ∷ []; active = 1 };
      counts = 6 ∷ [];
      outcome = Some outcome.MainEnded;
    }

pub choosing_closed_otherwise_is_legal : Run (limits 1 1 16 10000) (opening (limits 1 1 16 10000) 1 (1 ∷ [])) choosing_closed_otherwise choosing_closed_otherwise_end
choosing_closed_otherwise_is_legal = (
  _,
  (refl, (refl, ((refl, refl, (refl, under refl), refl), refl, refl), refl, refl)),
  (
    _,
    (refl, (refl, (refl, ((_, refl, refl), refl, refl)), refl, refl)),
    (
      _,
      (refl, (refl, ((refl, refl, refl), refl, ((_, refl, refl), refl, refl)), refl, refl)),
      (
        _,
        (refl, (refl, (goroutine 0, refl, (refl, refl, refl, refl, refl, refl)), refl, refl)),
        (
          _,
          (refl, (refl, (lit≤ tt, (goroutine 0, refl, (refl, _, refl, (Drained, (refl, refl, refl, refl), refl, refl, refl)))), refl, refl)),
          (
            _,
            (refl, (refl, (goroutine 0, refl, ((refl, refl), refl, refl)), refl, refl)),
            refl,
          ),
        ),
      ),
    ),
  ),
)

-- a select that names a channel that was not made is a fault, though a case could proceed and there is a default
abbrev pub choosing_missing : List Entry
choosing_missing =
    entry 0 0 call.Acquire (reply.Proc (processor 0)) ∷
    entry 0 1 call.Take (reply.Ticket (ticket 0 1)) ∷
    entry 0 2 (call.Claim (ticket 0 1)) reply.Held ∷
    entry 0 3 (call.Select (case.Send (Some (channel 0)) 1 ∷ case.Recv (Some (channel 5)) ∷ []) true None) (reply.Fault fault.NoSuchChannel) ∷
    entry 0 4 call.Exit reply.MainEnded ∷
    []

abbrev pub choosing_missing_end : State
choosing_missing_end =
    record {
      table = record { goroutines = does status.Dead 1 ∷ []; arrivals = 0; clock = 0 };
      channels = new_channel 1 ∷ [];
      machines = record { holders = Some (machine 0) ∷ []; modes = mode.Awake ∷ []; spinning = false ∷ []; marked = false ∷ []; active = 1 };
      counts = 5 ∷ [];
      outcome = Some outcome.MainEnded;
    }

pub choosing_missing_is_legal : Run (limits 1 1 16 10000) (opening (limits 1 1 16 10000) 1 (1 ∷ [])) choosing_missing choosing_missing_end
choosing_missing_is_legal = (
  _,
  (refl, (refl, ((refl, refl, (refl, under refl), refl), refl, refl), refl, refl)),
  (
    _,
    (refl, (refl, (refl, ((_, refl, refl), refl, refl)), refl, refl)),
    (
      _,
      (refl, (refl, ((refl, refl, refl), refl, ((_, refl, refl), refl, refl)), refl, refl)),
      (
        _,
        (refl, (refl, (lit≤ tt, (goroutine 0, refl, (refl, (refl, refl, refl)))), refl, refl)),
        (
          _,
          (refl, (refl, (goroutine 0, refl, ((refl, refl), refl, refl)), refl, refl)),
          refl,
        ),
      ),
    ),
  ),
)

-- two receives of one select wait, and a send is taken by the first
abbrev pub least_case_1 : List Entry
least_case_1 =
    entry 0 0 call.Acquire (reply.Proc (processor 0)) ∷
    entry 0 1 call.Take (reply.Ticket (ticket 0 1)) ∷
    entry 0 2 (call.Claim (ticket 0 1)) reply.Held ∷
    entry 0 3 (call.Go (goroutine 1)) (reply.Ticket (ticket 1 1)) ∷
    entry 0 4 call.Poke reply.Nothing ∷
    entry 0 5 call.Yield (reply.Shelved (ticket 0 2)) ∷
    entry 0 6 (call.Claim (ticket 1 1)) reply.Held ∷
    entry 0 7 (call.Select (case.Recv (Some (channel 0)) ∷ case.Recv (Some (channel 0)) ∷ []) false None) reply.Waits ∷
    []

abbrev pub least_case_after_1 : State
least_case_after_1 =
    record {
      table = record { goroutines = does (status.Ready Shelf woke.Done) 2 ∷ does (status.Waiting (record { arrival = 0; kind = kind.Select; offers = record { case = 0; channel = channel 0; deal = deal.Receive } ∷ record { case = 1; channel = channel 0; deal = deal.Receive } ∷ []; until = None })) 1 ∷ []; arrivals = 1; clock = 0 };
      channels = new_channel 0 ∷ [];
      machines = record { holders = Some (machine 0) ∷ []; modes = mode.Awake ∷ []; spinning = false ∷ []; marked = false ∷ []; active = 1 };
      counts = 8 ∷ [];
      outcome = None;
    }

least_case_1_goes : Run (limits 1 1 16 10000) (opening (limits 1 1 16 10000) 2 (0 ∷ [])) least_case_1 least_case_after_1
least_case_1_goes = (
  _,
  (refl, (refl, ((refl, refl, (refl, under refl), refl), refl, refl), refl, refl)),
  (
    _,
    (refl, (refl, (refl, ((_, refl, refl), refl, refl)), refl, refl)),
    (
      _,
      (refl, (refl, ((refl, refl, refl), refl, ((_, refl, refl), refl, refl)), refl, refl)),
      (
        _,
        (refl, (refl, (goroutine 0, refl, ((refl, refl, refl), refl, refl)), refl, refl)),
        (
          _,
          (refl, (refl, ((refl, refl, refl), refl, refl), refl, refl)),
          (
            _,
            (refl, (refl, (goroutine 0, refl, ((refl, refl), refl, refl)), refl, refl)),
            (
              _,
              (refl, (refl, ((refl, refl, refl), refl, ((_, refl, refl), refl, refl)), refl, refl)),
              (
                _,
                (refl, (refl, (lit≤ tt, (goroutine 1, refl, (refl, refl, (refl, refl, refl, refl)))), refl, refl)),
                refl,
              ),
            ),
          ),
        ),
      ),
    ),
  ),
)

abbrev pub least_case_2 : List Entry
least_case_2 =
    entry 0 8 call.Take (reply.Ticket (ticket 0 2)) ∷
    entry 0 9 (call.Claim (ticket 0 2)) reply.Held ∷
    entry 0 10 (call.Send (Some (channel 0)) 5) (reply.Sent (Some (ticket 1 2))) ∷
    []

abbrev pub least_case_end : State
least_case_end =
    record {
      table = record { goroutines = does (status.Running (machine 0)) 2 ∷ does (status.Ready Out (woke.Chose 0 (Some (5, true)))) 2 ∷ []; arrivals = 1; clock = 0 };
      channels = new_channel 0 ∷ [];
      machines = record { holders = Some (machine 0) ∷ []; modes = mode.Awake ∷ []; spinning = false ∷ []; marked = false ∷ []; active = 1 };
      counts = 11 ∷ [];
      outcome = None;
    }

least_case_2_goes : Run (limits 1 1 16 10000) least_case_after_1 least_case_2 least_case_end
least_case_2_goes = (
  _,
  (refl, (refl, (refl, ((_, refl, refl), refl, refl)), refl, refl)),
  (
    _,
    (refl, (refl, ((refl, refl, refl), refl, ((_, refl, refl), refl, refl)), refl, refl)),
    (
      _,
      (refl, (refl, (goroutine 0, refl, (refl, (Handed _, (refl, refl, refl), refl, refl, refl))), refl, refl)),
      refl,
    ),
  ),
)

pub least_case_is_legal : Run (limits 1 1 16 10000) (opening (limits 1 1 16 10000) 2 (0 ∷ [])) (least_case_1 ++ least_case_2) least_case_end
least_case_is_legal =
    run_join (limits 1 1 16 10000) (opening (limits 1 1 16 10000) 2 (0 ∷ [])) least_case_after_1 least_case_end least_case_1 (least_case_2) least_case_1_goes
    (least_case_2_goes)

-- a close tells a select its least case on the channel
abbrev pub least_case_closed_1 : List Entry
least_case_closed_1 =
    entry 0 0 call.Acquire (reply.Proc (processor 0)) ∷
    entry 0 1 call.Take (reply.Ticket (ticket 0 1)) ∷
    entry 0 2 (call.Claim (ticket 0 1)) reply.Held ∷
    entry 0 3 (call.Go (goroutine 1)) (reply.Ticket (ticket 1 1)) ∷
    entry 0 4 call.Poke reply.Nothing ∷
    entry 0 5 call.Yield (reply.Shelved (ticket 0 2)) ∷
    entry 0 6 (call.Claim (ticket 1 1)) reply.Held ∷
    entry 0 7 (call.Select (case.Recv (Some (channel 1)) ∷ case.Send (Some (channel 0)) 3 ∷ case.Recv (Some (channel 0)) ∷ []) false None) reply.Waits ∷
    []

abbrev pub least_case_closed_after_1 : State
least_case_closed_after_1 =
    record {
      table = record { goroutines = does (status.Ready Shelf woke.Done) 2 ∷ does (status.Waiting (record { arrival = 0; kind = kind.Select; offers = record { case = 0; channel = channel 1; deal = deal.Receive } ∷ record { case = 1; channel = channel 0; deal = deal.Send 3 } ∷ record { case = 2; channel = channel 0; deal = deal.Receive } ∷ []; until = None })) 1 ∷ []; arrivals = 1; clock = 0 };
      channels = new_channel 0 ∷ new_channel 0 ∷ [];
      machines = record { holders = Some (machine 0) ∷ []; modes = mode.Awake ∷ []; spinning = false ∷ []; marked = false ∷ []; active = 1 };
      counts = 8 ∷ [];
      outcome = None;
    }

least_case_closed_1_goes : Run (limits 1 1 16 10000) (opening (limits 1 1 16 10000) 2 (0 ∷ 0 ∷ [])) least_case_closed_1 least_case_closed_after_1
least_case_closed_1_goes = (
  _,
  (refl, (refl, ((refl, refl, (refl, under refl), refl), refl, refl), refl, refl)),
  (
    _,
    (refl, (refl, (refl, ((_, refl, refl), refl, refl)), refl, refl)),
    (
      _,
      (refl, (refl, ((refl, refl, refl), refl, ((_, refl, refl), refl, refl)), refl, refl)),
      (
        _,
        (refl, (refl, (goroutine 0, refl, ((refl, refl, refl), refl, refl)), refl, refl)),
        (
          _,
          (refl, (refl, ((refl, refl, refl), refl, refl), refl, refl)),
          (
            _,
            (refl, (refl, (goroutine 0, refl, ((refl, refl), refl, refl)), refl, refl)),
            (
              _,
              (refl, (refl, ((refl, refl, refl), refl, ((_, refl, refl), refl, refl)), refl, refl)),
              (
                _,
                (refl, (refl, (lit≤ tt, (goroutine 1, refl, (refl, refl, (refl, refl, refl, refl)))), refl, refl)),
                refl,
              ),
            ),
          ),
        ),
      ),
    ),
  ),
)

abbrev pub least_case_closed_2 : List Entry
least_case_closed_2 =
    entry 0 8 call.Take (reply.Ticket (ticket 0 2)) ∷
    entry 0 9 (call.Claim (ticket 0 2)) reply.Held ∷
    entry 0 10 (call.Close (Some (channel 0))) (reply.Closed 1) ∷
    []

abbrev pub least_case_closed_end : State
least_case_closed_end =
    record {
      table = record { goroutines = does (status.Running (machine 0)) 2 ∷ does (status.Ready Shelf (woke.Fault fault.SendOnClosed)) 2 ∷ []; arrivals = 1; clock = 0 };
      channels = record { capacity = 0; items = []; closed = true } ∷ new_channel 0 ∷ [];
      machines = record { holders = Some (machine 0) ∷ []; modes = mode.Awake ∷ []; spinning = false ∷ []; marked = false ∷ []; active = 1 };
      counts = 11 ∷ [];
      outcome = None;
    }

least_case_closed_2_goes : Run (limits 1 1 16 10000) least_case_closed_after_1 least_case_closed_2 least_case_closed_end
least_case_closed_2_goes = (
  _,
  (refl, (refl, (refl, ((_, refl, refl), refl, refl)), refl, refl)),
  (
    _,
    (refl, (refl, ((refl, refl, refl), refl, ((_, refl, refl), refl, refl)), refl, refl)),
    (
      _,
      (refl, (refl, (goroutine 0, refl, (refl, refl, refl, refl, refl, refl)), refl, refl)),
      refl,
    ),
  ),
)

pub least_case_closed_is_legal : Run (limits 1 1 16 10000) (opening (limits 1 1 16 10000) 2 (0 ∷ 0 ∷ [])) (least_case_closed_1 ++ least_case_closed_2) least_case_closed_end
least_case_closed_is_legal =
    run_join (limits 1 1 16 10000) (opening (limits 1 1 16 10000) 2 (0 ∷ 0 ∷ [])) least_case_closed_after_1 least_case_closed_end least_case_closed_1 (least_case_closed_2) least_case_closed_1_goes
    (least_case_closed_2_goes)
