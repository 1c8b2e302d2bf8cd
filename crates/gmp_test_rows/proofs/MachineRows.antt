-- Worked traces of several machines and processors.
use Rattle.gmp_base.specs.declared.ask.Woke.TheVariants as woke
use Rattle.gmp_seq.proofs.Runs.{run_join}
use Rattle.gmp_test_rows.proofs.Traces.{goroutine, machine, processor, ticket, entry, does, limits, under}
use Rattle.gmp_seq.specs.Run.{Run}
use Rattle.gmp_seq.specs.State.{State, opening}
use Rattle.gmp_seq.specs.declared.call.Call.TheVariants as call
use Rattle.gmp_seq.specs.declared.call.Entry.{Entry}
use Rattle.gmp_seq.specs.declared.call.Outcome.TheVariants as outcome
use Rattle.gmp_seq.specs.declared.call.Reply.TheVariants as reply
use Rattle.gmp_seq.specs.declared.status.Mode.TheVariants as mode
use Rattle.gmp_seq.specs.declared.status.TicketPlace.TheVariants.{Shelf, Out}
use Rattle.gmp_seq.specs.declared.status.Status.TheVariants as status
use Rattle.std.proofs.Common.{true, false, None, Some, List, [], ◌∷◌, ◌++◌, refl}

-- machine 0 goes into a blocking call, and machine 1 runs on
abbrev pub handing_off_1 : List Entry
handing_off_1 =
    entry 0 0 call.Acquire (reply.Proc (processor 0)) ∷
    entry 1 0 call.Acquire reply.Nothing ∷
    entry 1 1 call.Bare reply.Done ∷
    entry 0 1 call.Take (reply.Ticket (ticket 0 1)) ∷
    entry 0 2 (call.Claim (ticket 0 1)) reply.Held ∷
    entry 1 2 call.Park reply.Parked ∷
    entry 0 3 (call.Go (goroutine 1)) (reply.Ticket (ticket 1 1)) ∷
    entry 0 4 call.Poke reply.Nothing ∷
    []

abbrev pub handing_off_after_1 : State
handing_off_after_1 =
    record {
      table = record { goroutines = does (status.Running (machine 0)) 1 ∷ does (status.Ready Out woke.First) 1 ∷ []; arrivals = 0; clock = 0 };
      channels = [];
      machines = record { holders = Some (machine 0) ∷ []; modes = mode.Awake ∷ mode.Parked ∷ []; spinning = false ∷ false ∷ []; marked = false ∷ false ∷ []; active = 1 };
      counts = 5 ∷ 3 ∷ [];
      outcome = None;
    }

handing_off_1_goes : Run (limits 1 2 16 10000) (opening (limits 1 2 16 10000) 2 ([])) handing_off_1 handing_off_after_1
handing_off_1_goes = (
  _,
  (refl, (refl, ((refl, refl, (refl, under refl), refl), refl, refl), refl, refl)),
  (
    _,
    (refl, (refl, ((refl, refl, refl, refl), refl, refl), refl, refl)),
    (
      _,
      (refl, (refl, (((refl, refl, refl), refl), refl, refl), refl, refl)),
      (
        _,
        (refl, (refl, (refl, ((_, refl, refl), refl, refl)), refl, refl)),
        (
          _,
          (refl, (refl, ((refl, refl, refl), refl, ((_, refl, refl), refl, refl)), refl, refl)),
          (
            _,
            (refl, (refl, ((refl, refl, refl), (refl, refl, refl, refl, refl, refl, refl)), refl, refl)),
            (
              _,
              (refl, (refl, (goroutine 0, refl, ((refl, refl, refl), refl, refl)), refl, refl)),
              (
                _,
                (refl, (refl, ((refl, refl, refl), refl, refl), refl, refl)),
                refl,
              ),
            ),
          ),
        ),
      ),
    ),
  ),
)

abbrev pub handing_off_2 : List Entry
handing_off_2 =
    entry 0 5 call.Enter (reply.Entered (processor 0) (Some (machine 1))) ∷
    entry 1 3 call.Woken (reply.Answer true) ∷
    []

abbrev pub handing_off_after_2 : State
handing_off_after_2 =
    record {
      table = record { goroutines = does (status.Calling (machine 0)) 1 ∷ does (status.Ready Out woke.First) 1 ∷ []; arrivals = 0; clock = 0 };
      channels = [];
      machines = record { holders = None ∷ []; modes = mode.Calling ∷ mode.Awake ∷ []; spinning = false ∷ false ∷ []; marked = false ∷ true ∷ []; active = 1 };
      counts = 6 ∷ 4 ∷ [];
      outcome = None;
    }

handing_off_2_goes : Run (limits 1 2 16 10000) handing_off_after_1 handing_off_2 handing_off_after_2
handing_off_2_goes = (
  _,
  (refl, (refl, (goroutine 0, refl, (refl, (refl, refl, refl), refl)), refl, refl)),
  (
    _,
    (refl, (refl, ((refl, refl), refl, refl), refl, refl)),
    refl,
  ),
)

abbrev pub handing_off_3 : List Entry
handing_off_3 =
    entry 1 4 call.Acquire (reply.Proc (processor 0)) ∷
    []

abbrev pub handing_off_after_3 : State
handing_off_after_3 =
    record {
      table = record { goroutines = does (status.Calling (machine 0)) 1 ∷ does (status.Ready Out woke.First) 1 ∷ []; arrivals = 0; clock = 0 };
      channels = [];
      machines = record { holders = Some (machine 1) ∷ []; modes = mode.Calling ∷ mode.Awake ∷ []; spinning = false ∷ false ∷ []; marked = false ∷ true ∷ []; active = 1 };
      counts = 6 ∷ 5 ∷ [];
      outcome = None;
    }

handing_off_3_goes : Run (limits 1 2 16 10000) handing_off_after_2 handing_off_3 handing_off_after_3
handing_off_3_goes = (
  _,
  (refl, (refl, ((refl, refl, (refl, under refl), refl), refl, refl), refl, refl)),
  refl,
)

abbrev pub handing_off_4 : List Entry
handing_off_4 =
    entry 0 6 (call.Leave 9) (reply.Shelved (ticket 0 2)) ∷
    entry 0 7 call.Bare reply.Done ∷
    []

abbrev pub handing_off_after_4 : State
handing_off_after_4 =
    record {
      table = record { goroutines = does (status.Ready Shelf (woke.Number 9)) 2 ∷ does (status.Ready Out woke.First) 1 ∷ []; arrivals = 0; clock = 0 };
      channels = [];
      machines = record { holders = Some (machine 1) ∷ []; modes = mode.Awake ∷ mode.Awake ∷ []; spinning = false ∷ false ∷ []; marked = false ∷ true ∷ []; active = 1 };
      counts = 8 ∷ 5 ∷ [];
      outcome = None;
    }

handing_off_4_goes : Run (limits 1 2 16 10000) handing_off_after_3 handing_off_4 handing_off_after_4
handing_off_4_goes = (
  _,
  (refl, (refl, (goroutine 0, refl, ((refl, refl), (refl, refl), refl)), refl, refl)),
  (
    _,
    (refl, (refl, (((refl, refl, refl), refl), refl, refl), refl, refl)),
    refl,
  ),
)

abbrev pub handing_off_5 : List Entry
handing_off_5 =
    entry 1 5 call.Poke reply.Nothing ∷
    entry 1 6 (call.Claim (ticket 1 1)) reply.Held ∷
    entry 0 8 call.Park reply.Parked ∷
    entry 1 7 call.Exit reply.Dead ∷
    entry 1 8 call.Take (reply.Ticket (ticket 0 2)) ∷
    entry 1 9 (call.Claim (ticket 0 2)) reply.Held ∷
    entry 1 10 call.Exit reply.MainEnded ∷
    []

abbrev pub handing_off_end : State
handing_off_end =
    record {
      table = record { goroutines = does status.Dead 2 ∷ does status.Dead 1 ∷ []; arrivals = 0; clock = 0 };
      channels = [];
      machines = record { holders = Some (machine 1) ∷ []; modes = mode.Parked ∷ mode.Awake ∷ []; spinning = false ∷ false ∷ []; marked = false ∷ true ∷ []; active = 1 };
      counts = 9 ∷ 11 ∷ [];
      outcome = Some outcome.MainEnded;
    }

handing_off_5_goes : Run (limits 1 2 16 10000) handing_off_after_4 handing_off_5 handing_off_end
handing_off_5_goes = (
  _,
  (refl, (refl, ((refl, refl, refl), refl, refl), refl, refl)),
  (
    _,
    (refl, (refl, ((refl, refl, refl), refl, ((_, refl, refl), refl, refl)), refl, refl)),
    (
      _,
      (refl, (refl, ((refl, refl, refl), (refl, refl, refl, refl, refl, refl, refl)), refl, refl)),
      (
        _,
        (refl, (refl, (goroutine 1, refl, (((λ e. cc), refl), refl, refl)), refl, refl)),
        (
          _,
          (refl, (refl, (refl, ((_, refl, refl), refl, refl)), refl, refl)),
          (
            _,
            (refl, (refl, ((refl, refl, refl), refl, ((_, refl, refl), refl, refl)), refl, refl)),
            (
              _,
              (refl, (refl, (goroutine 0, refl, ((refl, refl), refl, refl)), refl, refl)),
              refl,
            ),
          ),
        ),
      ),
    ),
  ),
)

pub handing_off_is_legal : Run (limits 1 2 16 10000) (opening (limits 1 2 16 10000) 2 ([])) (handing_off_1 ++ (handing_off_2 ++ (handing_off_3 ++ (handing_off_4 ++ handing_off_5)))) handing_off_end
handing_off_is_legal =
    run_join (limits 1 2 16 10000) (opening (limits 1 2 16 10000) 2 ([])) handing_off_after_1 handing_off_end handing_off_1 (handing_off_2 ++ (handing_off_3 ++ (handing_off_4 ++ handing_off_5))) handing_off_1_goes
    (run_join (limits 1 2 16 10000) handing_off_after_1 handing_off_after_2 handing_off_end handing_off_2 (handing_off_3 ++ (handing_off_4 ++ handing_off_5)) handing_off_2_goes
    (run_join (limits 1 2 16 10000) handing_off_after_2 handing_off_after_3 handing_off_end handing_off_3 (handing_off_4 ++ handing_off_5) handing_off_3_goes
    (run_join (limits 1 2 16 10000) handing_off_after_3 handing_off_after_4 handing_off_end handing_off_4 (handing_off_5) handing_off_4_goes
    (handing_off_5_goes))))

-- machine 1 has looked at the queue before machine 0 pushes onto it and goes into a blocking call, so it looks again, and finds the ticket
abbrev pub looking_again_1 : List Entry
looking_again_1 =
    entry 0 0 call.Acquire (reply.Proc (processor 0)) ∷
    entry 1 0 call.Acquire reply.Nothing ∷
    entry 1 1 call.Bare reply.Done ∷
    entry 0 1 call.Take (reply.Ticket (ticket 0 1)) ∷
    entry 0 2 (call.Claim (ticket 0 1)) reply.Held ∷
    entry 0 3 (call.Go (goroutine 1)) (reply.Ticket (ticket 1 1)) ∷
    entry 0 4 call.Poke reply.Nothing ∷
    entry 0 5 call.Enter (reply.Entered (processor 0) None) ∷
    []

abbrev pub looking_again_after_1 : State
looking_again_after_1 =
    record {
      table = record { goroutines = does (status.Calling (machine 0)) 1 ∷ does (status.Ready Out woke.First) 1 ∷ []; arrivals = 0; clock = 0 };
      channels = [];
      machines = record { holders = None ∷ []; modes = mode.Calling ∷ mode.Awake ∷ []; spinning = false ∷ false ∷ []; marked = false ∷ true ∷ []; active = 1 };
      counts = 6 ∷ 2 ∷ [];
      outcome = None;
    }

looking_again_1_goes : Run (limits 1 2 16 10000) (opening (limits 1 2 16 10000) 2 ([])) looking_again_1 looking_again_after_1
looking_again_1_goes = (
  _,
  (refl, (refl, ((refl, refl, (refl, under refl), refl), refl, refl), refl, refl)),
  (
    _,
    (refl, (refl, ((refl, refl, refl, refl), refl, refl), refl, refl)),
    (
      _,
      (refl, (refl, (((refl, refl, refl), refl), refl, refl), refl, refl)),
      (
        _,
        (refl, (refl, (refl, ((_, refl, refl), refl, refl)), refl, refl)),
        (
          _,
          (refl, (refl, ((refl, refl, refl), refl, ((_, refl, refl), refl, refl)), refl, refl)),
          (
            _,
            (refl, (refl, (goroutine 0, refl, ((refl, refl, refl), refl, refl)), refl, refl)),
            (
              _,
              (refl, (refl, ((refl, refl, refl), refl, refl), refl, refl)),
              (
                _,
                (refl, (refl, (goroutine 0, refl, (refl, (refl, refl, refl), refl)), refl, refl)),
                refl,
              ),
            ),
          ),
        ),
      ),
    ),
  ),
)

abbrev pub looking_again_2 : List Entry
looking_again_2 =
    entry 1 2 call.Park reply.LookAgain ∷
    entry 1 3 call.Bare reply.Done ∷
    entry 1 4 call.Acquire (reply.Proc (processor 0)) ∷
    entry 1 5 call.Poke reply.Nothing ∷
    entry 1 6 (call.Claim (ticket 1 1)) reply.Held ∷
    []

abbrev pub looking_again_end : State
looking_again_end =
    record {
      table = record { goroutines = does (status.Calling (machine 0)) 1 ∷ does (status.Running (machine 1)) 1 ∷ []; arrivals = 0; clock = 0 };
      channels = [];
      machines = record { holders = Some (machine 1) ∷ []; modes = mode.Calling ∷ mode.Awake ∷ []; spinning = false ∷ false ∷ []; marked = false ∷ false ∷ []; active = 1 };
      counts = 6 ∷ 7 ∷ [];
      outcome = None;
    }

looking_again_2_goes : Run (limits 1 2 16 10000) looking_again_after_1 looking_again_2 looking_again_end
looking_again_2_goes = (
  _,
  (refl, (refl, ((refl, refl, refl), (refl, refl, refl, refl, (refl, refl, refl))), refl, refl)),
  (
    _,
    (refl, (refl, (((refl, refl, refl), refl), refl, refl), refl, refl)),
    (
      _,
      (refl, (refl, ((refl, refl, (refl, under refl), refl), refl, refl), refl, refl)),
      (
        _,
        (refl, (refl, ((refl, refl, refl), refl, refl), refl, refl)),
        (
          _,
          (refl, (refl, ((refl, refl, refl), refl, ((_, refl, refl), refl, refl)), refl, refl)),
          refl,
        ),
      ),
    ),
  ),
)

pub looking_again_is_legal : Run (limits 1 2 16 10000) (opening (limits 1 2 16 10000) 2 ([])) (looking_again_1 ++ looking_again_2) looking_again_end
looking_again_is_legal =
    run_join (limits 1 2 16 10000) (opening (limits 1 2 16 10000) 2 ([])) looking_again_after_1 looking_again_end looking_again_1 looking_again_2 looking_again_1_goes looking_again_2_goes

-- a call that finds its processor again
abbrev pub blocking : List Entry
blocking =
    entry 0 0 call.Acquire (reply.Proc (processor 0)) ∷
    entry 0 1 call.Take (reply.Ticket (ticket 0 1)) ∷
    entry 0 2 (call.Claim (ticket 0 1)) reply.Held ∷
    entry 0 3 call.Enter (reply.Entered (processor 0) None) ∷
    entry 0 4 (call.Leave 9) (reply.Runs (processor 0)) ∷
    entry 0 5 call.Exit reply.MainEnded ∷
    []

abbrev pub blocking_end : State
blocking_end =
    record {
      table = record { goroutines = does status.Dead 1 ∷ []; arrivals = 0; clock = 0 };
      channels = [];
      machines = record { holders = Some (machine 0) ∷ []; modes = mode.Awake ∷ []; spinning = false ∷ []; marked = false ∷ []; active = 1 };
      counts = 6 ∷ [];
      outcome = Some outcome.MainEnded;
    }

pub blocking_is_legal : Run (limits 1 1 16 10000) (opening (limits 1 1 16 10000) 1 ([])) blocking blocking_end
blocking_is_legal = (
  _,
  (refl, (refl, ((refl, refl, (refl, under refl), refl), refl, refl), refl, refl)),
  (
    _,
    (refl, (refl, (refl, ((_, refl, refl), refl, refl)), refl, refl)),
    (
      _,
      (refl, (refl, ((refl, refl, refl), refl, ((_, refl, refl), refl, refl)), refl, refl)),
      (
        _,
        (refl, (refl, (goroutine 0, refl, (refl, (refl, refl, refl), refl)), refl, refl)),
        (
          _,
          (refl, (refl, (goroutine 0, refl, (refl, ((refl, under refl), refl), refl)), refl, refl)),
          (
            _,
            (refl, (refl, (goroutine 0, refl, ((refl, refl), refl, refl)), refl, refl)),
            refl,
          ),
        ),
      ),
    ),
  ),
)

-- one machine starts goroutines, the other takes the first of them from its queue
abbrev pub helping_1 : List Entry
helping_1 =
    entry 0 0 call.Acquire (reply.Proc (processor 0)) ∷
    entry 1 0 call.Acquire (reply.Proc (processor 1)) ∷
    entry 0 1 call.Take (reply.Ticket (ticket 0 1)) ∷
    entry 1 1 call.Take reply.Nothing ∷
    entry 0 2 (call.Claim (ticket 0 1)) reply.Held ∷
    entry 1 2 call.Spin (reply.Answer true) ∷
    entry 0 3 (call.Go (goroutine 1)) (reply.Ticket (ticket 1 1)) ∷
    entry 1 3 call.Unspin reply.Done ∷
    []

abbrev pub helping_after_1 : State
helping_after_1 =
    record {
      table = record { goroutines = does (status.Running (machine 0)) 1 ∷ does (status.Ready Out woke.First) 1 ∷ does status.Dormant 0 ∷ []; arrivals = 0; clock = 0 };
      channels = [];
      machines = record { holders = Some (machine 0) ∷ Some (machine 1) ∷ []; modes = mode.Awake ∷ mode.Awake ∷ []; spinning = false ∷ false ∷ []; marked = false ∷ false ∷ []; active = 2 };
      counts = 4 ∷ 4 ∷ [];
      outcome = None;
    }

helping_1_goes : Run (limits 2 2 16 10000) (opening (limits 2 2 16 10000) 3 ([])) helping_1 helping_after_1
helping_1_goes = (
  _,
  (refl, (refl, ((refl, refl, (refl, under refl), refl), refl, refl), refl, refl)),
  (
    _,
    (refl, (refl, ((refl, refl, (refl, under refl), refl), refl, refl), refl, refl)),
    (
      _,
      (refl, (refl, (refl, ((_, refl, refl), refl, refl)), refl, refl)),
      (
        _,
        (refl, (refl, (refl, ((refl, refl), refl, refl)), refl, refl)),
        (
          _,
          (refl, (refl, ((refl, refl, refl), refl, ((_, refl, refl), refl, refl)), refl, refl)),
          (
            _,
            (refl, (refl, (refl, ((refl, refl, refl), refl, refl)), refl, refl)),
            (
              _,
              (refl, (refl, (goroutine 0, refl, ((refl, refl, refl), refl, refl)), refl, refl)),
              (
                _,
                (refl, (refl, ((refl, refl), refl, refl), refl, refl)),
                refl,
              ),
            ),
          ),
        ),
      ),
    ),
  ),
)

abbrev pub helping_2 : List Entry
helping_2 =
    entry 1 4 call.Declare (reply.Idle (processor 1)) ∷
    entry 0 4 call.Poke reply.Nothing ∷
    entry 1 5 call.Acquire (reply.Proc (processor 1)) ∷
    entry 0 5 (call.Go (goroutine 2)) (reply.Ticket (ticket 2 1)) ∷
    entry 1 6 call.Poke reply.Nothing ∷
    entry 1 7 (call.Claim (ticket 1 1)) reply.Held ∷
    entry 0 6 call.Poke reply.Nothing ∷
    entry 1 8 call.Exit reply.Dead ∷
    []

abbrev pub helping_after_2 : State
helping_after_2 =
    record {
      table = record { goroutines = does (status.Running (machine 0)) 1 ∷ does status.Dead 1 ∷ does (status.Ready Out woke.First) 1 ∷ []; arrivals = 0; clock = 0 };
      channels = [];
      machines = record { holders = Some (machine 0) ∷ Some (machine 1) ∷ []; modes = mode.Awake ∷ mode.Awake ∷ []; spinning = false ∷ false ∷ []; marked = false ∷ false ∷ []; active = 2 };
      counts = 7 ∷ 9 ∷ [];
      outcome = None;
    }

helping_2_goes : Run (limits 2 2 16 10000) helping_after_1 helping_2 helping_after_2
helping_2_goes = (
  _,
  (refl, (refl, (refl, ((refl, refl, refl), refl, refl)), refl, refl)),
  (
    _,
    (refl, (refl, ((refl, refl, refl), refl, refl), refl, refl)),
    (
      _,
      (refl, (refl, ((refl, refl, (refl, under refl), refl), refl, refl), refl, refl)),
      (
        _,
        (refl, (refl, (goroutine 0, refl, ((refl, refl, refl), refl, refl)), refl, refl)),
        (
          _,
          (refl, (refl, ((refl, refl, refl), refl, refl), refl, refl)),
          (
            _,
            (refl, (refl, ((refl, refl, refl), refl, ((_, refl, refl), refl, refl)), refl, refl)),
            (
              _,
              (refl, (refl, ((refl, refl, refl), refl, refl), refl, refl)),
              (
                _,
                (refl, (refl, (goroutine 1, refl, (((λ e. cc), refl), refl, refl)), refl, refl)),
                refl,
              ),
            ),
          ),
        ),
      ),
    ),
  ),
)

abbrev pub helping_3 : List Entry
helping_3 =
    entry 0 7 call.Yield (reply.Shelved (ticket 0 2)) ∷
    entry 1 9 call.Take (reply.Ticket (ticket 0 2)) ∷
    entry 0 8 (call.Claim (ticket 2 1)) reply.Held ∷
    entry 1 10 (call.Claim (ticket 0 2)) reply.Held ∷
    entry 0 9 call.Exit reply.Dead ∷
    entry 1 11 call.Exit reply.MainEnded ∷
    []

abbrev pub helping_end : State
helping_end =
    record {
      table = record { goroutines = does status.Dead 2 ∷ does status.Dead 1 ∷ does status.Dead 1 ∷ []; arrivals = 0; clock = 0 };
      channels = [];
      machines = record { holders = Some (machine 0) ∷ Some (machine 1) ∷ []; modes = mode.Awake ∷ mode.Awake ∷ []; spinning = false ∷ false ∷ []; marked = false ∷ false ∷ []; active = 2 };
      counts = 10 ∷ 12 ∷ [];
      outcome = Some outcome.MainEnded;
    }

helping_3_goes : Run (limits 2 2 16 10000) helping_after_2 helping_3 helping_end
helping_3_goes = (
  _,
  (refl, (refl, (goroutine 0, refl, ((refl, refl), refl, refl)), refl, refl)),
  (
    _,
    (refl, (refl, (refl, ((_, refl, refl), refl, refl)), refl, refl)),
    (
      _,
      (refl, (refl, ((refl, refl, refl), refl, ((_, refl, refl), refl, refl)), refl, refl)),
      (
        _,
        (refl, (refl, ((refl, refl, refl), refl, ((_, refl, refl), refl, refl)), refl, refl)),
        (
          _,
          (refl, (refl, (goroutine 2, refl, (((λ e. cc), refl), refl, refl)), refl, refl)),
          (
            _,
            (refl, (refl, (goroutine 0, refl, ((refl, refl), refl, refl)), refl, refl)),
            refl,
          ),
        ),
      ),
    ),
  ),
)

pub helping_is_legal : Run (limits 2 2 16 10000) (opening (limits 2 2 16 10000) 3 ([])) (helping_1 ++ (helping_2 ++ helping_3)) helping_end
helping_is_legal =
    run_join (limits 2 2 16 10000) (opening (limits 2 2 16 10000) 3 ([])) helping_after_1 helping_end helping_1 (helping_2 ++ helping_3) helping_1_goes
    (run_join (limits 2 2 16 10000) helping_after_1 helping_after_2 helping_end helping_2 (helping_3) helping_2_goes
    (helping_3_goes))

-- half of a queue is stolen, and what finds no room goes onto the shelf
abbrev pub stealing_1 : List Entry
stealing_1 =
    entry 0 0 call.Acquire (reply.Proc (processor 0)) ∷
    entry 0 1 call.Take (reply.Ticket (ticket 0 1)) ∷
    entry 0 2 (call.Claim (ticket 0 1)) reply.Held ∷
    entry 0 3 (call.Go (goroutine 1)) (reply.Ticket (ticket 1 1)) ∷
    entry 0 4 call.Poke reply.Nothing ∷
    entry 0 5 (call.Go (goroutine 2)) (reply.Ticket (ticket 2 1)) ∷
    entry 0 6 call.Poke reply.Nothing ∷
    entry 0 7 (call.Go (goroutine 3)) (reply.Ticket (ticket 3 1)) ∷
    entry 0 8 call.Poke reply.Nothing ∷
    []

abbrev pub stealing_after_1 : State
stealing_after_1 =
    record {
      table = record { goroutines = does (status.Running (machine 0)) 1 ∷ does (status.Ready Out woke.First) 1 ∷ does (status.Ready Out woke.First) 1 ∷ does (status.Ready Out woke.First) 1 ∷ []; arrivals = 0; clock = 0 };
      channels = [];
      machines = record { holders = Some (machine 0) ∷ None ∷ []; modes = mode.Awake ∷ mode.Awake ∷ []; spinning = false ∷ false ∷ []; marked = false ∷ false ∷ []; active = 2 };
      counts = 9 ∷ 0 ∷ [];
      outcome = None;
    }

stealing_1_goes : Run (limits 2 2 16 10000) (opening (limits 2 2 16 10000) 4 ([])) stealing_1 stealing_after_1
stealing_1_goes = (
  _,
  (refl, (refl, ((refl, refl, (refl, under refl), refl), refl, refl), refl, refl)),
  (
    _,
    (refl, (refl, (refl, ((_, refl, refl), refl, refl)), refl, refl)),
    (
      _,
      (refl, (refl, ((refl, refl, refl), refl, ((_, refl, refl), refl, refl)), refl, refl)),
      (
        _,
        (refl, (refl, (goroutine 0, refl, ((refl, refl, refl), refl, refl)), refl, refl)),
        (
          _,
          (refl, (refl, ((refl, refl, refl), refl, refl), refl, refl)),
          (
            _,
            (refl, (refl, (goroutine 0, refl, ((refl, refl, refl), refl, refl)), refl, refl)),
            (
              _,
              (refl, (refl, ((refl, refl, refl), refl, refl), refl, refl)),
              (
                _,
                (refl, (refl, (goroutine 0, refl, ((refl, refl, refl), refl, refl)), refl, refl)),
                (
                  _,
                  (refl, (refl, ((refl, refl, refl), refl, refl), refl, refl)),
                  refl,
                ),
              ),
            ),
          ),
        ),
      ),
    ),
  ),
)

abbrev pub stealing_2 : List Entry
stealing_2 =
    entry 1 0 call.Acquire (reply.Proc (processor 1)) ∷
    entry 1 1 call.Take reply.Nothing ∷
    entry 1 2 call.Spin (reply.Answer true) ∷
    entry 1 3 (call.Put (ticket 2 1)) reply.Shelf ∷
    entry 1 4 call.Unspin reply.Done ∷
    entry 1 5 call.Poke reply.Nothing ∷
    entry 1 6 (call.Claim (ticket 1 1)) reply.Held ∷
    []

abbrev pub stealing_end : State
stealing_end =
    record {
      table = record { goroutines = does (status.Running (machine 0)) 1 ∷ does (status.Running (machine 1)) 1 ∷ does (status.Ready Shelf woke.First) 1 ∷ does (status.Ready Out woke.First) 1 ∷ []; arrivals = 0; clock = 0 };
      channels = [];
      machines = record { holders = Some (machine 0) ∷ Some (machine 1) ∷ []; modes = mode.Awake ∷ mode.Awake ∷ []; spinning = false ∷ false ∷ []; marked = false ∷ false ∷ []; active = 2 };
      counts = 9 ∷ 7 ∷ [];
      outcome = None;
    }

stealing_2_goes : Run (limits 2 2 16 10000) stealing_after_1 stealing_2 stealing_end
stealing_2_goes = (
  _,
  (refl, (refl, ((refl, refl, (refl, under refl), refl), refl, refl), refl, refl)),
  (
    _,
    (refl, (refl, (refl, ((refl, refl), refl, refl)), refl, refl)),
    (
      _,
      (refl, (refl, (refl, ((refl, refl, refl), refl, refl)), refl, refl)),
      (
        _,
        (refl, (refl, (refl, ((_, refl, refl), refl, refl)), refl, refl)),
        (
          _,
          (refl, (refl, ((refl, refl), refl, refl), refl, refl)),
          (
            _,
            (refl, (refl, ((refl, refl, refl), refl, refl), refl, refl)),
            (
              _,
              (refl, (refl, ((refl, refl, refl), refl, ((_, refl, refl), refl, refl)), refl, refl)),
              refl,
            ),
          ),
        ),
      ),
    ),
  ),
)

pub stealing_is_legal : Run (limits 2 2 16 10000) (opening (limits 2 2 16 10000) 4 ([])) (stealing_1 ++ stealing_2) stealing_end
stealing_is_legal =
    run_join (limits 2 2 16 10000) (opening (limits 2 2 16 10000) 4 ([])) stealing_after_1 stealing_end stealing_1 (stealing_2) stealing_1_goes
    (stealing_2_goes)

-- as many spin as there are processors
abbrev pub spinning : List Entry
spinning =
    entry 0 0 call.Spin (reply.Answer true) ∷
    entry 0 1 call.Spin (reply.Answer false) ∷
    entry 1 0 call.Spin (reply.Answer true) ∷
    entry 2 0 call.Spin (reply.Answer false) ∷
    entry 0 2 call.Unspin reply.Done ∷
    entry 2 1 call.Spin (reply.Answer true) ∷
    []

abbrev pub spinning_end : State
spinning_end =
    record {
      table = record { goroutines = does (status.Ready Shelf woke.First) 1 ∷ []; arrivals = 0; clock = 0 };
      channels = [];
      machines = record { holders = None ∷ None ∷ []; modes = mode.Awake ∷ mode.Awake ∷ mode.Awake ∷ []; spinning = false ∷ true ∷ true ∷ []; marked = false ∷ false ∷ false ∷ []; active = 2 };
      counts = 3 ∷ 1 ∷ 2 ∷ [];
      outcome = None;
    }

pub spinning_is_legal : Run (limits 2 3 16 10000) (opening (limits 2 3 16 10000) 1 ([])) spinning spinning_end
spinning_is_legal = (
  _,
  (refl, (refl, (refl, ((refl, refl, refl), refl, refl)), refl, refl)),
  (
    _,
    (refl, (refl, (refl, ((refl, refl, refl), refl, refl)), refl, refl)),
    (
      _,
      (refl, (refl, (refl, ((refl, refl, refl), refl, refl)), refl, refl)),
      (
        _,
        (refl, (refl, (refl, ((refl, refl, refl), refl, refl)), refl, refl)),
        (
          _,
          (refl, (refl, ((refl, refl), refl, refl), refl, refl)),
          (
            _,
            (refl, (refl, (refl, ((refl, refl, refl), refl, refl)), refl, refl)),
            refl,
          ),
        ),
      ),
    ),
  ),
)

-- nobody is poked while one spins
abbrev pub poking : List Entry
poking =
    entry 0 0 call.Acquire (reply.Proc (processor 0)) ∷
    entry 0 1 call.Take (reply.Ticket (ticket 0 1)) ∷
    entry 2 0 call.Park reply.Parked ∷
    entry 1 0 call.Spin (reply.Answer true) ∷
    entry 0 2 call.Poke reply.Nothing ∷
    entry 1 1 call.Unspin reply.Done ∷
    entry 0 3 call.Poke (reply.Wakes (machine 2)) ∷
    []

abbrev pub poking_end : State
poking_end =
    record {
      table = record { goroutines = does (status.Ready Out woke.First) 1 ∷ []; arrivals = 0; clock = 0 };
      channels = [];
      machines = record { holders = Some (machine 0) ∷ None ∷ []; modes = mode.Awake ∷ mode.Awake ∷ mode.Awake ∷ []; spinning = false ∷ false ∷ false ∷ []; marked = false ∷ false ∷ false ∷ []; active = 2 };
      counts = 4 ∷ 2 ∷ 1 ∷ [];
      outcome = None;
    }

pub poking_is_legal : Run (limits 2 3 16 10000) (opening (limits 2 3 16 10000) 1 ([])) poking poking_end
poking_is_legal = (
  _,
  (refl, (refl, ((refl, refl, (refl, under refl), refl), refl, refl), refl, refl)),
  (
    _,
    (refl, (refl, (refl, ((_, refl, refl), refl, refl)), refl, refl)),
    (
      _,
      (refl, (refl, ((refl, refl, refl), (refl, refl, refl, refl, refl, refl, refl)), refl, refl)),
      (
        _,
        (refl, (refl, (refl, ((refl, refl, refl), refl, refl)), refl, refl)),
        (
          _,
          (refl, (refl, ((refl, refl, refl), refl, refl), refl, refl)),
          (
            _,
            (refl, (refl, ((refl, refl), refl, refl), refl, refl)),
            (
              _,
              (refl, (refl, ((refl, refl, refl, refl), refl, refl), refl, refl)),
              refl,
            ),
          ),
        ),
      ),
    ),
  ),
)

-- a machine doesn't park while there is work
abbrev pub parking_machines : List Entry
parking_machines =
    entry 1 0 call.Park reply.Work ∷
    entry 0 0 call.Acquire (reply.Proc (processor 0)) ∷
    entry 1 1 call.Park reply.Parked ∷
    entry 0 1 call.Poke reply.Nothing ∷
    []

abbrev pub parking_machines_end : State
parking_machines_end =
    record {
      table = record { goroutines = does (status.Ready Shelf woke.First) 1 ∷ []; arrivals = 0; clock = 0 };
      channels = [];
      machines = record { holders = Some (machine 0) ∷ []; modes = mode.Awake ∷ mode.Parked ∷ []; spinning = false ∷ false ∷ []; marked = false ∷ false ∷ []; active = 1 };
      counts = 2 ∷ 2 ∷ [];
      outcome = None;
    }

pub parking_machines_is_legal : Run (limits 1 2 16 10000) (opening (limits 1 2 16 10000) 1 ([])) parking_machines parking_machines_end
parking_machines_is_legal = (
  _,
  (refl, (refl, ((refl, refl, refl), (refl, (refl, refl, refl))), refl, refl)),
  (
    _,
    (refl, (refl, ((refl, refl, (refl, under refl), refl), refl, refl), refl, refl)),
    (
      _,
      (refl, (refl, ((refl, refl, refl), (refl, refl, refl, refl, refl, refl, refl)), refl, refl)),
      (
        _,
        (refl, (refl, ((refl, refl, refl), refl, refl), refl, refl)),
        refl,
      ),
    ),
  ),
)

-- the number of active processors goes down to one and up again: who holds the other gives it up, and is woken for it
abbrev pub changing_1 : List Entry
changing_1 =
    entry 0 0 call.Acquire (reply.Proc (processor 0)) ∷
    entry 1 0 call.Acquire (reply.Proc (processor 1)) ∷
    entry 0 1 call.Take (reply.Ticket (ticket 0 1)) ∷
    entry 0 2 (call.Claim (ticket 0 1)) reply.Held ∷
    entry 0 3 (call.Procs 1) (reply.Number 2) ∷
    entry 1 1 call.Keep (reply.Answer false) ∷
    entry 0 4 call.Keep (reply.Answer true) ∷
    entry 1 2 call.Declare (reply.Idle (processor 1)) ∷
    []

abbrev pub changing_after_1 : State
changing_after_1 =
    record {
      table = record { goroutines = does (status.Running (machine 0)) 1 ∷ []; arrivals = 0; clock = 0 };
      channels = [];
      machines = record { holders = Some (machine 0) ∷ None ∷ []; modes = mode.Awake ∷ mode.Awake ∷ []; spinning = false ∷ false ∷ []; marked = false ∷ false ∷ []; active = 1 };
      counts = 5 ∷ 3 ∷ [];
      outcome = None;
    }

changing_1_goes : Run (limits 2 2 16 10000) (opening (limits 2 2 16 10000) 1 ([])) changing_1 changing_after_1
changing_1_goes = (
  _,
  (refl, (refl, ((refl, refl, (refl, under refl), refl), refl, refl), refl, refl)),
  (
    _,
    (refl, (refl, ((refl, refl, (refl, under refl), refl), refl, refl), refl, refl)),
    (
      _,
      (refl, (refl, (refl, ((_, refl, refl), refl, refl)), refl, refl)),
      (
        _,
        (refl, (refl, ((refl, refl, refl), refl, ((_, refl, refl), refl, refl)), refl, refl)),
        (
          _,
          (refl, (refl, (goroutine 0, refl, ((refl, refl, refl), refl, refl)), refl, refl)),
          (
            _,
            (refl, (refl, ((refl, processor 1, refl, refl, refl), refl, refl), refl, refl)),
            (
              _,
              (refl, (refl, ((refl, processor 0, refl, refl, refl), refl, refl), refl, refl)),
              (
                _,
                (refl, (refl, (refl, ((refl, refl, refl), refl, refl)), refl, refl)),
                refl,
              ),
            ),
          ),
        ),
      ),
    ),
  ),
)

abbrev pub changing_2 : List Entry
changing_2 =
    entry 1 3 call.Acquire reply.Nothing ∷
    entry 1 4 call.Park reply.Parked ∷
    entry 0 5 call.Poke reply.Nothing ∷
    entry 0 6 (call.Procs 2) (reply.Number 1) ∷
    entry 0 7 call.Poke (reply.Wakes (machine 1)) ∷
    []

abbrev pub changing_end : State
changing_end =
    record {
      table = record { goroutines = does (status.Running (machine 0)) 1 ∷ []; arrivals = 0; clock = 0 };
      channels = [];
      machines = record { holders = Some (machine 0) ∷ None ∷ []; modes = mode.Awake ∷ mode.Awake ∷ []; spinning = false ∷ false ∷ []; marked = false ∷ false ∷ []; active = 2 };
      counts = 8 ∷ 5 ∷ [];
      outcome = None;
    }

changing_2_goes : Run (limits 2 2 16 10000) changing_after_1 changing_2 changing_end
changing_2_goes = (
  _,
  (refl, (refl, ((refl, refl, refl, refl), refl, refl), refl, refl)),
  (
    _,
    (refl, (refl, ((refl, refl, refl), (refl, refl, refl, refl, refl, refl, refl)), refl, refl)),
    (
      _,
      (refl, (refl, ((refl, refl, refl), refl, refl), refl, refl)),
      (
        _,
        (refl, (refl, (goroutine 0, refl, ((refl, refl, refl), refl, refl)), refl, refl)),
        (
          _,
          (refl, (refl, ((refl, refl, refl, refl), refl, refl), refl, refl)),
          refl,
        ),
      ),
    ),
  ),
)

pub changing_is_legal : Run (limits 2 2 16 10000) (opening (limits 2 2 16 10000) 1 ([])) (changing_1 ++ changing_2) changing_end
changing_is_legal = run_join (limits 2 2 16 10000) (opening (limits 2 2 16 10000) 1 ([])) changing_after_1 changing_end changing_1 changing_2 changing_1_goes changing_2_goes
