-- Worked traces that end at the limit of entries.
use Rattle.gmp_base.specs.declared.ask.Woke.TheVariants as woke
use Rattle.gmp_seq.proofs.Runs.{run_join}
use Rattle.gmp_test_rows.proofs.Traces.{goroutine, machine, processor, ticket, entry, does, limits, under}
use Rattle.gmp_seq.specs.Run.{Run}
use Rattle.gmp_seq.specs.State.{State, opening}
use Rattle.gmp_seq.specs.declared.call.Call.TheVariants as call
use Rattle.gmp_seq.specs.declared.call.Entry.{Entry}
use Rattle.gmp_seq.specs.declared.call.Outcome.TheVariants as outcome
use Rattle.gmp_seq.specs.declared.call.Reply.TheVariants as reply
use Rattle.gmp_seq.specs.declared.status.Kind.TheVariants as kind
use Rattle.gmp_seq.specs.declared.status.Mode.TheVariants as mode
use Rattle.gmp_seq.specs.declared.status.TicketPlace.TheVariants.{Shelf, Out}
use Rattle.gmp_seq.specs.declared.status.Status.TheVariants as status
use Rattle.std.proofs.Common.{false, None, Some, List, [], ◌∷◌, ◌++◌, refl}

-- the last entry ends the run
abbrev pub filling_1 : List Entry
filling_1 =
    entry 0 0 call.Acquire (reply.Proc (processor 0)) ∷
    entry 0 1 call.Take (reply.Ticket (ticket 0 1)) ∷
    entry 0 2 (call.Claim (ticket 0 1)) reply.Held ∷
    entry 0 3 call.Yield (reply.Shelved (ticket 0 2)) ∷
    entry 0 4 call.Take (reply.Ticket (ticket 0 2)) ∷
    entry 0 5 (call.Claim (ticket 0 2)) reply.Held ∷
    entry 0 6 call.Yield (reply.Shelved (ticket 0 3)) ∷
    entry 0 7 call.Take (reply.Ticket (ticket 0 3)) ∷
    []

abbrev pub filling_after_1 : State
filling_after_1 =
    record {
      table = record { goroutines = does (status.Ready Out woke.Done) 3 ∷ []; arrivals = 0; clock = 0 };
      channels = [];
      machines = record { holders = Some (machine 0) ∷ []; modes = mode.Awake ∷ []; spinning = false ∷ []; marked = false ∷ []; active = 1 };
      counts = 8 ∷ [];
      outcome = None;
    }

filling_1_goes : Run (limits 1 1 16 16) (opening (limits 1 1 16 16) 1 ([])) filling_1 filling_after_1
filling_1_goes = (
  _,
  (refl, (refl, ((refl, refl, (refl, under refl), refl), refl, refl), refl, refl)),
  (
    _,
    (refl, (refl, (refl, ((_, refl, refl), refl, refl)), refl, refl)),
    (
      _,
      (refl, (refl, ((refl, refl, refl), refl, ((_, refl, refl), refl, refl)), refl, refl)),
      (
        _,
        (refl, (refl, (goroutine 0, refl, ((refl, refl), refl, refl)), refl, refl)),
        (
          _,
          (refl, (refl, (refl, ((_, refl, refl), refl, refl)), refl, refl)),
          (
            _,
            (refl, (refl, ((refl, refl, refl), refl, ((_, refl, refl), refl, refl)), refl, refl)),
            (
              _,
              (refl, (refl, (goroutine 0, refl, ((refl, refl), refl, refl)), refl, refl)),
              (
                _,
                (refl, (refl, (refl, ((_, refl, refl), refl, refl)), refl, refl)),
                refl,
              ),
            ),
          ),
        ),
      ),
    ),
  ),
)

abbrev pub filling_2 : List Entry
filling_2 =
    entry 0 8 (call.Claim (ticket 0 3)) reply.Held ∷
    entry 0 9 call.Yield (reply.Shelved (ticket 0 4)) ∷
    entry 0 10 call.Take (reply.Ticket (ticket 0 4)) ∷
    entry 0 11 (call.Claim (ticket 0 4)) reply.Held ∷
    entry 0 12 call.Yield (reply.Shelved (ticket 0 5)) ∷
    entry 0 13 call.Take (reply.Ticket (ticket 0 5)) ∷
    entry 0 14 (call.Claim (ticket 0 5)) reply.Held ∷
    entry 0 15 call.Yield (reply.Shelved (ticket 0 6)) ∷
    []

abbrev pub filling_end : State
filling_end =
    record {
      table = record { goroutines = does (status.Ready Shelf woke.Done) 6 ∷ []; arrivals = 0; clock = 0 };
      channels = [];
      machines = record { holders = Some (machine 0) ∷ []; modes = mode.Awake ∷ []; spinning = false ∷ []; marked = false ∷ []; active = 1 };
      counts = 16 ∷ [];
      outcome = Some outcome.BookFull;
    }

filling_2_goes : Run (limits 1 1 16 16) filling_after_1 filling_2 filling_end
filling_2_goes = (
  _,
  (refl, (refl, ((refl, refl, refl), refl, ((_, refl, refl), refl, refl)), refl, refl)),
  (
    _,
    (refl, (refl, (goroutine 0, refl, ((refl, refl), refl, refl)), refl, refl)),
    (
      _,
      (refl, (refl, (refl, ((_, refl, refl), refl, refl)), refl, refl)),
      (
        _,
        (refl, (refl, ((refl, refl, refl), refl, ((_, refl, refl), refl, refl)), refl, refl)),
        (
          _,
          (refl, (refl, (goroutine 0, refl, ((refl, refl), refl, refl)), refl, refl)),
          (
            _,
            (refl, (refl, (refl, ((_, refl, refl), refl, refl)), refl, refl)),
            (
              _,
              (refl, (refl, ((refl, refl, refl), refl, ((_, refl, refl), refl, refl)), refl, refl)),
              (
                _,
                (refl, (refl, (goroutine 0, refl, ((refl, refl), refl, refl)), refl, refl)),
                refl,
              ),
            ),
          ),
        ),
      ),
    ),
  ),
)

pub filling_is_legal : Run (limits 1 1 16 16) (opening (limits 1 1 16 16) 1 ([])) (filling_1 ++ filling_2) filling_end
filling_is_legal =
    run_join (limits 1 1 16 16) (opening (limits 1 1 16 16) 1 ([])) filling_after_1 filling_end filling_1 (filling_2) filling_1_goes
    (filling_2_goes)

-- the last entry ends the run, a tick among the others
abbrev pub filling_late_1 : List Entry
filling_late_1 =
    entry 0 0 call.Acquire (reply.Proc (processor 0)) ∷
    entry 0 1 call.Take (reply.Ticket (ticket 0 1)) ∷
    entry 0 2 (call.Claim (ticket 0 1)) reply.Held ∷
    entry 0 3 call.Yield (reply.Shelved (ticket 0 2)) ∷
    entry 0 4 call.Take (reply.Ticket (ticket 0 2)) ∷
    entry 0 5 (call.Claim (ticket 0 2)) reply.Held ∷
    entry 0 6 call.Yield (reply.Shelved (ticket 0 3)) ∷
    entry 0 7 call.Take (reply.Ticket (ticket 0 3)) ∷
    []

abbrev pub filling_late_after_1 : State
filling_late_after_1 =
    record {
      table = record { goroutines = does (status.Ready Out woke.Done) 3 ∷ []; arrivals = 0; clock = 0 };
      channels = [];
      machines = record { holders = Some (machine 0) ∷ []; modes = mode.Awake ∷ []; spinning = false ∷ []; marked = false ∷ []; active = 1 };
      counts = 8 ∷ [];
      outcome = None;
    }

filling_late_1_goes : Run (limits 1 1 16 51) (opening (limits 1 1 16 51) 1 ([])) filling_late_1 filling_late_after_1
filling_late_1_goes = (
  _,
  (refl, (refl, ((refl, refl, (refl, under refl), refl), refl, refl), refl, refl)),
  (
    _,
    (refl, (refl, (refl, ((_, refl, refl), refl, refl)), refl, refl)),
    (
      _,
      (refl, (refl, ((refl, refl, refl), refl, ((_, refl, refl), refl, refl)), refl, refl)),
      (
        _,
        (refl, (refl, (goroutine 0, refl, ((refl, refl), refl, refl)), refl, refl)),
        (
          _,
          (refl, (refl, (refl, ((_, refl, refl), refl, refl)), refl, refl)),
          (
            _,
            (refl, (refl, ((refl, refl, refl), refl, ((_, refl, refl), refl, refl)), refl, refl)),
            (
              _,
              (refl, (refl, (goroutine 0, refl, ((refl, refl), refl, refl)), refl, refl)),
              (
                _,
                (refl, (refl, (refl, ((_, refl, refl), refl, refl)), refl, refl)),
                refl,
              ),
            ),
          ),
        ),
      ),
    ),
  ),
)

abbrev pub filling_late_2 : List Entry
filling_late_2 =
    entry 0 8 (call.Claim (ticket 0 3)) reply.Held ∷
    entry 0 9 call.Yield (reply.Shelved (ticket 0 4)) ∷
    entry 0 10 call.Take (reply.Ticket (ticket 0 4)) ∷
    entry 0 11 (call.Claim (ticket 0 4)) reply.Held ∷
    entry 0 12 call.Yield (reply.Shelved (ticket 0 5)) ∷
    entry 0 13 call.Take (reply.Ticket (ticket 0 5)) ∷
    entry 0 14 (call.Claim (ticket 0 5)) reply.Held ∷
    entry 0 15 call.Yield (reply.Shelved (ticket 0 6)) ∷
    []

abbrev pub filling_late_after_2 : State
filling_late_after_2 =
    record {
      table = record { goroutines = does (status.Ready Shelf woke.Done) 6 ∷ []; arrivals = 0; clock = 0 };
      channels = [];
      machines = record { holders = Some (machine 0) ∷ []; modes = mode.Awake ∷ []; spinning = false ∷ []; marked = false ∷ []; active = 1 };
      counts = 16 ∷ [];
      outcome = None;
    }

filling_late_2_goes : Run (limits 1 1 16 51) filling_late_after_1 filling_late_2 filling_late_after_2
filling_late_2_goes = (
  _,
  (refl, (refl, ((refl, refl, refl), refl, ((_, refl, refl), refl, refl)), refl, refl)),
  (
    _,
    (refl, (refl, (goroutine 0, refl, ((refl, refl), refl, refl)), refl, refl)),
    (
      _,
      (refl, (refl, (refl, ((_, refl, refl), refl, refl)), refl, refl)),
      (
        _,
        (refl, (refl, ((refl, refl, refl), refl, ((_, refl, refl), refl, refl)), refl, refl)),
        (
          _,
          (refl, (refl, (goroutine 0, refl, ((refl, refl), refl, refl)), refl, refl)),
          (
            _,
            (refl, (refl, (refl, ((_, refl, refl), refl, refl)), refl, refl)),
            (
              _,
              (refl, (refl, ((refl, refl, refl), refl, ((_, refl, refl), refl, refl)), refl, refl)),
              (
                _,
                (refl, (refl, (goroutine 0, refl, ((refl, refl), refl, refl)), refl, refl)),
                refl,
              ),
            ),
          ),
        ),
      ),
    ),
  ),
)

abbrev pub filling_late_3 : List Entry
filling_late_3 =
    entry 0 16 call.Take (reply.Ticket (ticket 0 6)) ∷
    entry 0 17 (call.Claim (ticket 0 6)) reply.Held ∷
    entry 0 18 call.Yield (reply.Shelved (ticket 0 7)) ∷
    entry 0 19 call.Take (reply.Ticket (ticket 0 7)) ∷
    entry 0 20 (call.Claim (ticket 0 7)) reply.Held ∷
    entry 0 21 call.Yield (reply.Shelved (ticket 0 8)) ∷
    entry 0 22 call.Take (reply.Ticket (ticket 0 8)) ∷
    entry 0 23 (call.Claim (ticket 0 8)) reply.Held ∷
    []

abbrev pub filling_late_after_3 : State
filling_late_after_3 =
    record {
      table = record { goroutines = does (status.Running (machine 0)) 8 ∷ []; arrivals = 0; clock = 0 };
      channels = [];
      machines = record { holders = Some (machine 0) ∷ []; modes = mode.Awake ∷ []; spinning = false ∷ []; marked = false ∷ []; active = 1 };
      counts = 24 ∷ [];
      outcome = None;
    }

filling_late_3_goes : Run (limits 1 1 16 51) filling_late_after_2 filling_late_3 filling_late_after_3
filling_late_3_goes = (
  _,
  (refl, (refl, (refl, ((_, refl, refl), refl, refl)), refl, refl)),
  (
    _,
    (refl, (refl, ((refl, refl, refl), refl, ((_, refl, refl), refl, refl)), refl, refl)),
    (
      _,
      (refl, (refl, (goroutine 0, refl, ((refl, refl), refl, refl)), refl, refl)),
      (
        _,
        (refl, (refl, (refl, ((_, refl, refl), refl, refl)), refl, refl)),
        (
          _,
          (refl, (refl, ((refl, refl, refl), refl, ((_, refl, refl), refl, refl)), refl, refl)),
          (
            _,
            (refl, (refl, (goroutine 0, refl, ((refl, refl), refl, refl)), refl, refl)),
            (
              _,
              (refl, (refl, (refl, ((_, refl, refl), refl, refl)), refl, refl)),
              (
                _,
                (refl, (refl, ((refl, refl, refl), refl, ((_, refl, refl), refl, refl)), refl, refl)),
                refl,
              ),
            ),
          ),
        ),
      ),
    ),
  ),
)

abbrev pub filling_late_4 : List Entry
filling_late_4 =
    entry 0 24 call.Yield (reply.Shelved (ticket 0 9)) ∷
    entry 0 25 call.Take (reply.Ticket (ticket 0 9)) ∷
    entry 0 26 (call.Claim (ticket 0 9)) reply.Held ∷
    entry 0 27 call.Yield (reply.Shelved (ticket 0 10)) ∷
    entry 0 28 call.Take (reply.Ticket (ticket 0 10)) ∷
    entry 0 29 (call.Claim (ticket 0 10)) reply.Held ∷
    entry 0 30 call.Yield (reply.Shelved (ticket 0 11)) ∷
    entry 0 31 call.Take (reply.Ticket (ticket 0 11)) ∷
    []

abbrev pub filling_late_after_4 : State
filling_late_after_4 =
    record {
      table = record { goroutines = does (status.Ready Out woke.Done) 11 ∷ []; arrivals = 0; clock = 0 };
      channels = [];
      machines = record { holders = Some (machine 0) ∷ []; modes = mode.Awake ∷ []; spinning = false ∷ []; marked = false ∷ []; active = 1 };
      counts = 32 ∷ [];
      outcome = None;
    }

filling_late_4_goes : Run (limits 1 1 16 51) filling_late_after_3 filling_late_4 filling_late_after_4
filling_late_4_goes = (
  _,
  (refl, (refl, (goroutine 0, refl, ((refl, refl), refl, refl)), refl, refl)),
  (
    _,
    (refl, (refl, (refl, ((_, refl, refl), refl, refl)), refl, refl)),
    (
      _,
      (refl, (refl, ((refl, refl, refl), refl, ((_, refl, refl), refl, refl)), refl, refl)),
      (
        _,
        (refl, (refl, (goroutine 0, refl, ((refl, refl), refl, refl)), refl, refl)),
        (
          _,
          (refl, (refl, (refl, ((_, refl, refl), refl, refl)), refl, refl)),
          (
            _,
            (refl, (refl, ((refl, refl, refl), refl, ((_, refl, refl), refl, refl)), refl, refl)),
            (
              _,
              (refl, (refl, (goroutine 0, refl, ((refl, refl), refl, refl)), refl, refl)),
              (
                _,
                (refl, (refl, (refl, ((_, refl, refl), refl, refl)), refl, refl)),
                refl,
              ),
            ),
          ),
        ),
      ),
    ),
  ),
)

abbrev pub filling_late_5 : List Entry
filling_late_5 =
    entry 0 32 (call.Claim (ticket 0 11)) reply.Held ∷
    entry 0 33 call.Yield (reply.Shelved (ticket 0 12)) ∷
    entry 0 34 call.Take (reply.Ticket (ticket 0 12)) ∷
    entry 0 35 (call.Claim (ticket 0 12)) reply.Held ∷
    entry 0 36 call.Yield (reply.Shelved (ticket 0 13)) ∷
    entry 0 37 call.Take (reply.Ticket (ticket 0 13)) ∷
    entry 0 38 (call.Claim (ticket 0 13)) reply.Held ∷
    entry 0 39 call.Yield (reply.Shelved (ticket 0 14)) ∷
    []

abbrev pub filling_late_after_5 : State
filling_late_after_5 =
    record {
      table = record { goroutines = does (status.Ready Shelf woke.Done) 14 ∷ []; arrivals = 0; clock = 0 };
      channels = [];
      machines = record { holders = Some (machine 0) ∷ []; modes = mode.Awake ∷ []; spinning = false ∷ []; marked = false ∷ []; active = 1 };
      counts = 40 ∷ [];
      outcome = None;
    }

filling_late_5_goes : Run (limits 1 1 16 51) filling_late_after_4 filling_late_5 filling_late_after_5
filling_late_5_goes = (
  _,
  (refl, (refl, ((refl, refl, refl), refl, ((_, refl, refl), refl, refl)), refl, refl)),
  (
    _,
    (refl, (refl, (goroutine 0, refl, ((refl, refl), refl, refl)), refl, refl)),
    (
      _,
      (refl, (refl, (refl, ((_, refl, refl), refl, refl)), refl, refl)),
      (
        _,
        (refl, (refl, ((refl, refl, refl), refl, ((_, refl, refl), refl, refl)), refl, refl)),
        (
          _,
          (refl, (refl, (goroutine 0, refl, ((refl, refl), refl, refl)), refl, refl)),
          (
            _,
            (refl, (refl, (refl, ((_, refl, refl), refl, refl)), refl, refl)),
            (
              _,
              (refl, (refl, ((refl, refl, refl), refl, ((_, refl, refl), refl, refl)), refl, refl)),
              (
                _,
                (refl, (refl, (goroutine 0, refl, ((refl, refl), refl, refl)), refl, refl)),
                refl,
              ),
            ),
          ),
        ),
      ),
    ),
  ),
)

abbrev pub filling_late_6 : List Entry
filling_late_6 =
    entry 0 40 call.Take (reply.Ticket (ticket 0 14)) ∷
    entry 0 41 (call.Claim (ticket 0 14)) reply.Held ∷
    entry 0 42 call.Yield (reply.Shelved (ticket 0 15)) ∷
    entry 0 43 call.Take (reply.Ticket (ticket 0 15)) ∷
    entry 0 44 (call.Claim (ticket 0 15)) reply.Held ∷
    entry 0 45 call.Yield (reply.Shelved (ticket 0 16)) ∷
    entry 0 46 call.Take (reply.Ticket (ticket 0 16)) ∷
    entry 0 47 (call.Claim (ticket 0 16)) reply.Held ∷
    []

abbrev pub filling_late_after_6 : State
filling_late_after_6 =
    record {
      table = record { goroutines = does (status.Running (machine 0)) 16 ∷ []; arrivals = 0; clock = 0 };
      channels = [];
      machines = record { holders = Some (machine 0) ∷ []; modes = mode.Awake ∷ []; spinning = false ∷ []; marked = false ∷ []; active = 1 };
      counts = 48 ∷ [];
      outcome = None;
    }

filling_late_6_goes : Run (limits 1 1 16 51) filling_late_after_5 filling_late_6 filling_late_after_6
filling_late_6_goes = (
  _,
  (refl, (refl, (refl, ((_, refl, refl), refl, refl)), refl, refl)),
  (
    _,
    (refl, (refl, ((refl, refl, refl), refl, ((_, refl, refl), refl, refl)), refl, refl)),
    (
      _,
      (refl, (refl, (goroutine 0, refl, ((refl, refl), refl, refl)), refl, refl)),
      (
        _,
        (refl, (refl, (refl, ((_, refl, refl), refl, refl)), refl, refl)),
        (
          _,
          (refl, (refl, ((refl, refl, refl), refl, ((_, refl, refl), refl, refl)), refl, refl)),
          (
            _,
            (refl, (refl, (goroutine 0, refl, ((refl, refl), refl, refl)), refl, refl)),
            (
              _,
              (refl, (refl, (refl, ((_, refl, refl), refl, refl)), refl, refl)),
              (
                _,
                (refl, (refl, ((refl, refl, refl), refl, ((_, refl, refl), refl, refl)), refl, refl)),
                refl,
              ),
            ),
          ),
        ),
      ),
    ),
  ),
)

abbrev pub filling_late_7 : List Entry
filling_late_7 =
    entry 0 48 call.Yield (reply.Shelved (ticket 0 17)) ∷
    entry 0 49 (call.Tick 0) (reply.Woke 0) ∷
    entry 0 50 call.Take (reply.Ticket (ticket 0 17)) ∷
    []

abbrev pub filling_late_end : State
filling_late_end =
    record {
      table = record { goroutines = does (status.Ready Out woke.Done) 17 ∷ []; arrivals = 0; clock = 0 };
      channels = [];
      machines = record { holders = Some (machine 0) ∷ []; modes = mode.Awake ∷ []; spinning = false ∷ []; marked = false ∷ []; active = 1 };
      counts = 51 ∷ [];
      outcome = Some outcome.BookFull;
    }

filling_late_7_goes : Run (limits 1 1 16 51) filling_late_after_6 filling_late_7 filling_late_end
filling_late_7_goes = (
  _,
  (refl, (refl, (goroutine 0, refl, ((refl, refl), refl, refl)), refl, refl)),
  (
    _,
    (refl, (refl, (refl, ((refl, refl), refl, refl)), refl, refl)),
    (
      _,
      (refl, (refl, (refl, ((_, refl, refl), refl, refl)), refl, refl)),
      refl,
    ),
  ),
)

pub filling_late_is_legal : Run (limits 1 1 16 51) (opening (limits 1 1 16 51) 1 ([])) (filling_late_1 ++ (filling_late_2 ++ (filling_late_3 ++ (filling_late_4 ++ (filling_late_5 ++ (filling_late_6 ++ filling_late_7)))))) filling_late_end
filling_late_is_legal =
    run_join (limits 1 1 16 51) (opening (limits 1 1 16 51) 1 ([])) filling_late_after_1 filling_late_end filling_late_1 (filling_late_2 ++ (filling_late_3 ++ (filling_late_4 ++ (filling_late_5 ++ (filling_late_6 ++ filling_late_7))))) filling_late_1_goes
    (run_join (limits 1 1 16 51) filling_late_after_1 filling_late_after_2 filling_late_end filling_late_2 (filling_late_3 ++ (filling_late_4 ++ (filling_late_5 ++ (filling_late_6 ++ filling_late_7)))) filling_late_2_goes
    (run_join (limits 1 1 16 51) filling_late_after_2 filling_late_after_3 filling_late_end filling_late_3 (filling_late_4 ++ (filling_late_5 ++ (filling_late_6 ++ filling_late_7))) filling_late_3_goes
    (run_join (limits 1 1 16 51) filling_late_after_3 filling_late_after_4 filling_late_end filling_late_4 (filling_late_5 ++ (filling_late_6 ++ filling_late_7)) filling_late_4_goes
    (run_join (limits 1 1 16 51) filling_late_after_4 filling_late_after_5 filling_late_end filling_late_5 (filling_late_6 ++ filling_late_7) filling_late_5_goes
    (run_join (limits 1 1 16 51) filling_late_after_5 filling_late_after_6 filling_late_end filling_late_6 (filling_late_7) filling_late_6_goes
    (filling_late_7_goes))))))

-- the exit of main is the last entry
abbrev pub exit_at_the_limit_1 : List Entry
exit_at_the_limit_1 =
    entry 0 0 call.Acquire (reply.Proc (processor 0)) ∷
    entry 0 1 call.Take (reply.Ticket (ticket 0 1)) ∷
    entry 0 2 (call.Claim (ticket 0 1)) reply.Held ∷
    entry 0 3 call.Yield (reply.Shelved (ticket 0 2)) ∷
    entry 0 4 call.Take (reply.Ticket (ticket 0 2)) ∷
    entry 0 5 (call.Claim (ticket 0 2)) reply.Held ∷
    entry 0 6 call.Yield (reply.Shelved (ticket 0 3)) ∷
    entry 0 7 call.Take (reply.Ticket (ticket 0 3)) ∷
    []

abbrev pub exit_at_the_limit_after_1 : State
exit_at_the_limit_after_1 =
    record {
      table = record { goroutines = does (status.Ready Out woke.Done) 3 ∷ []; arrivals = 0; clock = 0 };
      channels = [];
      machines = record { holders = Some (machine 0) ∷ []; modes = mode.Awake ∷ []; spinning = false ∷ []; marked = false ∷ []; active = 1 };
      counts = 8 ∷ [];
      outcome = None;
    }

exit_at_the_limit_1_goes : Run (limits 1 1 16 16) (opening (limits 1 1 16 16) 1 ([])) exit_at_the_limit_1 exit_at_the_limit_after_1
exit_at_the_limit_1_goes = (
  _,
  (refl, (refl, ((refl, refl, (refl, under refl), refl), refl, refl), refl, refl)),
  (
    _,
    (refl, (refl, (refl, ((_, refl, refl), refl, refl)), refl, refl)),
    (
      _,
      (refl, (refl, ((refl, refl, refl), refl, ((_, refl, refl), refl, refl)), refl, refl)),
      (
        _,
        (refl, (refl, (goroutine 0, refl, ((refl, refl), refl, refl)), refl, refl)),
        (
          _,
          (refl, (refl, (refl, ((_, refl, refl), refl, refl)), refl, refl)),
          (
            _,
            (refl, (refl, ((refl, refl, refl), refl, ((_, refl, refl), refl, refl)), refl, refl)),
            (
              _,
              (refl, (refl, (goroutine 0, refl, ((refl, refl), refl, refl)), refl, refl)),
              (
                _,
                (refl, (refl, (refl, ((_, refl, refl), refl, refl)), refl, refl)),
                refl,
              ),
            ),
          ),
        ),
      ),
    ),
  ),
)

abbrev pub exit_at_the_limit_2 : List Entry
exit_at_the_limit_2 =
    entry 0 8 (call.Claim (ticket 0 3)) reply.Held ∷
    entry 0 9 call.Yield (reply.Shelved (ticket 0 4)) ∷
    entry 0 10 call.Take (reply.Ticket (ticket 0 4)) ∷
    entry 0 11 (call.Claim (ticket 0 4)) reply.Held ∷
    entry 0 12 call.Yield (reply.Shelved (ticket 0 5)) ∷
    entry 0 13 call.Take (reply.Ticket (ticket 0 5)) ∷
    entry 0 14 (call.Claim (ticket 0 5)) reply.Held ∷
    entry 0 15 call.Exit reply.MainEnded ∷
    []

abbrev pub exit_at_the_limit_end : State
exit_at_the_limit_end =
    record {
      table = record { goroutines = does status.Dead 5 ∷ []; arrivals = 0; clock = 0 };
      channels = [];
      machines = record { holders = Some (machine 0) ∷ []; modes = mode.Awake ∷ []; spinning = false ∷ []; marked = false ∷ []; active = 1 };
      counts = 16 ∷ [];
      outcome = Some outcome.MainEnded;
    }

exit_at_the_limit_2_goes : Run (limits 1 1 16 16) exit_at_the_limit_after_1 exit_at_the_limit_2 exit_at_the_limit_end
exit_at_the_limit_2_goes = (
  _,
  (refl, (refl, ((refl, refl, refl), refl, ((_, refl, refl), refl, refl)), refl, refl)),
  (
    _,
    (refl, (refl, (goroutine 0, refl, ((refl, refl), refl, refl)), refl, refl)),
    (
      _,
      (refl, (refl, (refl, ((_, refl, refl), refl, refl)), refl, refl)),
      (
        _,
        (refl, (refl, ((refl, refl, refl), refl, ((_, refl, refl), refl, refl)), refl, refl)),
        (
          _,
          (refl, (refl, (goroutine 0, refl, ((refl, refl), refl, refl)), refl, refl)),
          (
            _,
            (refl, (refl, (refl, ((_, refl, refl), refl, refl)), refl, refl)),
            (
              _,
              (refl, (refl, ((refl, refl, refl), refl, ((_, refl, refl), refl, refl)), refl, refl)),
              (
                _,
                (refl, (refl, (goroutine 0, refl, ((refl, refl), refl, refl)), refl, refl)),
                refl,
              ),
            ),
          ),
        ),
      ),
    ),
  ),
)

pub exit_at_the_limit_is_legal : Run (limits 1 1 16 16) (opening (limits 1 1 16 16) 1 ([])) (exit_at_the_limit_1 ++ exit_at_the_limit_2) exit_at_the_limit_end
exit_at_the_limit_is_legal =
    run_join (limits 1 1 16 16) (opening (limits 1 1 16 16) 1 ([])) exit_at_the_limit_after_1 exit_at_the_limit_end exit_at_the_limit_1 (exit_at_the_limit_2) exit_at_the_limit_1_goes
    (exit_at_the_limit_2_goes)

-- that all are asleep is told by the last entry
abbrev pub asleep_at_the_limit_1 : List Entry
asleep_at_the_limit_1 =
    entry 0 0 call.Acquire (reply.Proc (processor 0)) ∷
    entry 0 1 call.Take (reply.Ticket (ticket 0 1)) ∷
    entry 0 2 (call.Claim (ticket 0 1)) reply.Held ∷
    entry 0 3 call.Yield (reply.Shelved (ticket 0 2)) ∷
    entry 0 4 call.Take (reply.Ticket (ticket 0 2)) ∷
    entry 0 5 (call.Claim (ticket 0 2)) reply.Held ∷
    entry 0 6 call.Yield (reply.Shelved (ticket 0 3)) ∷
    entry 0 7 call.Take (reply.Ticket (ticket 0 3)) ∷
    []

abbrev pub asleep_at_the_limit_after_1 : State
asleep_at_the_limit_after_1 =
    record {
      table = record { goroutines = does (status.Ready Out woke.Done) 3 ∷ []; arrivals = 0; clock = 0 };
      channels = [];
      machines = record { holders = Some (machine 0) ∷ []; modes = mode.Awake ∷ []; spinning = false ∷ []; marked = false ∷ []; active = 1 };
      counts = 8 ∷ [];
      outcome = None;
    }

asleep_at_the_limit_1_goes : Run (limits 1 1 16 16) (opening (limits 1 1 16 16) 1 ([])) asleep_at_the_limit_1 asleep_at_the_limit_after_1
asleep_at_the_limit_1_goes = (
  _,
  (refl, (refl, ((refl, refl, (refl, under refl), refl), refl, refl), refl, refl)),
  (
    _,
    (refl, (refl, (refl, ((_, refl, refl), refl, refl)), refl, refl)),
    (
      _,
      (refl, (refl, ((refl, refl, refl), refl, ((_, refl, refl), refl, refl)), refl, refl)),
      (
        _,
        (refl, (refl, (goroutine 0, refl, ((refl, refl), refl, refl)), refl, refl)),
        (
          _,
          (refl, (refl, (refl, ((_, refl, refl), refl, refl)), refl, refl)),
          (
            _,
            (refl, (refl, ((refl, refl, refl), refl, ((_, refl, refl), refl, refl)), refl, refl)),
            (
              _,
              (refl, (refl, (goroutine 0, refl, ((refl, refl), refl, refl)), refl, refl)),
              (
                _,
                (refl, (refl, (refl, ((_, refl, refl), refl, refl)), refl, refl)),
                refl,
              ),
            ),
          ),
        ),
      ),
    ),
  ),
)

abbrev pub asleep_at_the_limit_2 : List Entry
asleep_at_the_limit_2 =
    entry 0 8 (call.Claim (ticket 0 3)) reply.Held ∷
    entry 0 9 call.Yield (reply.Shelved (ticket 0 4)) ∷
    entry 0 10 call.Take (reply.Ticket (ticket 0 4)) ∷
    entry 0 11 (call.Claim (ticket 0 4)) reply.Held ∷
    entry 0 12 call.Gopark reply.Waits ∷
    entry 0 13 call.Take reply.Nothing ∷
    entry 0 14 call.Declare (reply.Idle (processor 0)) ∷
    entry 0 15 call.Park reply.AllAsleep ∷
    []

abbrev pub asleep_at_the_limit_end : State
asleep_at_the_limit_end =
    record {
      table = record { goroutines = does (status.Waiting (record { arrival = 0; kind = kind.Parked; offers = []; until = None })) 4 ∷ []; arrivals = 1; clock = 0 };
      channels = [];
      machines = record { holders = None ∷ []; modes = mode.Awake ∷ []; spinning = false ∷ []; marked = false ∷ []; active = 1 };
      counts = 16 ∷ [];
      outcome = Some outcome.AllAsleep;
    }

asleep_at_the_limit_2_goes : Run (limits 1 1 16 16) asleep_at_the_limit_after_1 asleep_at_the_limit_2 asleep_at_the_limit_end
asleep_at_the_limit_2_goes = (
  _,
  (refl, (refl, ((refl, refl, refl), refl, ((_, refl, refl), refl, refl)), refl, refl)),
  (
    _,
    (refl, (refl, (goroutine 0, refl, ((refl, refl), refl, refl)), refl, refl)),
    (
      _,
      (refl, (refl, (refl, ((_, refl, refl), refl, refl)), refl, refl)),
      (
        _,
        (refl, (refl, ((refl, refl, refl), refl, ((_, refl, refl), refl, refl)), refl, refl)),
        (
          _,
          (refl, (refl, (goroutine 0, refl, (refl, refl, refl)), refl, refl)),
          (
            _,
            (refl, (refl, (refl, ((refl, refl), refl, refl)), refl, refl)),
            (
              _,
              (refl, (refl, (refl, ((refl, refl, refl), refl, refl)), refl, refl)),
              (
                _,
                (refl, (refl, ((refl, refl, refl), (refl, refl, (refl, refl, refl))), refl, refl)),
                refl,
              ),
            ),
          ),
        ),
      ),
    ),
  ),
)

pub asleep_at_the_limit_is_legal : Run (limits 1 1 16 16) (opening (limits 1 1 16 16) 1 ([])) (asleep_at_the_limit_1 ++ asleep_at_the_limit_2) asleep_at_the_limit_end
asleep_at_the_limit_is_legal =
    run_join (limits 1 1 16 16) (opening (limits 1 1 16 16) 1 ([])) asleep_at_the_limit_after_1 asleep_at_the_limit_end asleep_at_the_limit_1 (asleep_at_the_limit_2) asleep_at_the_limit_1_goes
    (asleep_at_the_limit_2_goes)
