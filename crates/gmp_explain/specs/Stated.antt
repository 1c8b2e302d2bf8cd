-- What is to be said of a state.
use Rattle.std.specs.Prelude.{◌≡◌, ℕ, zero, suc, ◌^◌, ◌==◌, ◌&&◌, nat_lt, min, Bool, true, false, Option, None, Some, is_some, List, [], ◌∷◌, ◌++◌, length, map, slice_get, if◌then◌else◌}
use Rattle.std.specs.List.{flat_map}
use Rattle.std.specs.Option.{option_map, option_map_or}
use Rattle.gmp_base.specs.declared.cases.Case.{Case}
use Rattle.gmp_base.specs.declared.number.CNo.{CNo}
use Rattle.gmp_base.specs.declared.number.GNo.{GNo}
use Rattle.gmp_base.specs.declared.number.MNo.{MNo}
use Rattle.gmp_base.specs.declared.number.PNo.{PNo}
use Rattle.gmp_base.specs.declared.number.Readiness.{Readiness}
use Rattle.gmp_seq.specs.declared.call.Call.{Call}
use Rattle.gmp_seq.specs.declared.call.Call.TheVariants as call
use Rattle.gmp_seq.specs.declared.call.Entry.{Entry}
use Rattle.gmp_seq.specs.declared.call.Outcome.{Outcome}
use Rattle.gmp_seq.specs.declared.call.Outcome.TheVariants.{MainEnded}
use Rattle.gmp_seq.specs.declared.call.Reply.{Reply}
use Rattle.gmp_seq.specs.declared.status.Direction.{Direction}
use Rattle.gmp_seq.specs.declared.status.Direction.TheVariants.{Sending, Receiving}
use Rattle.gmp_seq.specs.declared.status.Goroutine.{Goroutine}
use Rattle.gmp_seq.specs.declared.status.Mode.{Mode}
use Rattle.gmp_seq.specs.declared.status.Status.{Status}
use Rattle.gmp_seq.specs.declared.status.Status.TheVariants.{Waiting}
use Rattle.gmp_seq.specs.Fits.{IsProcessorNumber}
use Rattle.gmp_seq.specs.Machines.{Holds, Machines, spins}
use Rattle.gmp_seq.specs.State.{State}
use Rattle.gmp_seq.specs.Step.{ticket_in}
use Rattle.gmp_seq.specs.Table.{IsHeld, Table, epoch_at, status_at}
use Rattle.gmp_seq.specs.Waits.{Channel, channel_of, is_select}
use Rattle.gmp_trace.specs.Text.{end_of}
use Rattle.gmp_explain.specs.Spoken.{Acts, Does, Ends, Is, Keeps, Remark, Ticket, Wait, Would}
use Rattle.gmp_allowed.specs.Tried.{waiter_at}

-- what each number below n gives, in order
abbrev pub for_each : {A : Type 0} → ℕ → (ℕ → List A) → List A
for_each zero of = []
for_each (suc n) of = for_each n of ++ of n

-- main ended, and it waits
abbrev pub is_leak : Option Outcome → Status → Bool
is_leak (Some MainEnded) (Waiting w) = true
is_leak _ _ = false

-- the cases of the select in which one waits
abbrev pub cases_said : GNo → Status → List Remark
cases_said g (Waiting w) = if is_select w.kind then map (Would g) w.offers else []
cases_said g _ = []

-- what a goroutine does, if it is there, and those cases
abbrev pub goroutine_said : Option Outcome → Table → GNo → List Remark
goroutine_said o t g = option_map_or (λ (status : Status). Does g status (is_leak o status) ∷ cases_said g status) (status_at t g) []

-- this goroutine, where it waits on the channel in this direction
abbrev pub if_waiting : List Goroutine → CNo → Direction → GNo → List GNo
if_waiting rows c direction g =
    if option_map_or (λ (row : Goroutine). is_some (waiter_at g row.status c direction)) (slice_get rows g.0) false then g ∷ [] else []

-- who waits on the channel in this direction, by number
abbrev pub waiting : List Goroutine → CNo → Direction → List GNo
waiting rows c direction = for_each (length rows) (λ g. if_waiting rows c direction (record { 0 = g }))

-- what a channel is
abbrev pub channel_now : CNo → Channel → Remark
channel_now c channel = Is c channel.closed channel.capacity (length channel.items)

-- the values that it holds, if it holds any
abbrev pub values_said : CNo → List ℕ → List Remark
values_said c items = if length items == 0 then [] else Keeps c items ∷ []

-- who waits on it, if anybody does
abbrev pub waiting_said : CNo → Direction → List GNo → List Remark
waiting_said c direction who = if length who == 0 then [] else Wait c direction who ∷ []

-- what a channel is, its values, and who waits to send and to receive: these
abbrev pub busy_said : CNo → Channel → List GNo → List GNo → List Remark
busy_said c channel sending receiving = channel_now c channel ∷ (values_said c channel.items ++ (waiting_said c Sending sending ++ waiting_said c Receiving receiving))

-- it holds nothing, and nobody waits to send or to receive
abbrev pub is_still : List ℕ → List GNo → List GNo → Bool
is_still items sending receiving = (length sending == 0) && ((length receiving == 0) && (length items == 0))

-- so of a channel by its number, if it is there and not still
abbrev pub channel_said : List Goroutine → List Channel → CNo → List Remark
channel_said rows channels c = option_map_or said (slice_get channels c.0) [] where
  said : Channel → List Remark
  said x = if is_still x.items (waiting rows c Sending) (waiting rows c Receiving) then [] else busy_said c x (waiting rows c Sending) (waiting rows c Receiving)

-- what is to be said of a state after n entries: how the run ended, of each goroutine, and of each channel that has a number
abbrev pub state_said : ℕ → State → List Remark
state_said n s =
    Ends (end_of s.outcome) n
    ∷ (for_each (length s.table.goroutines) (λ g. goroutine_said s.outcome s.table (record { 0 = g }))
    ++ for_each (min (length s.channels) (2 ^ 16)) (λ c. channel_said s.table.goroutines s.channels (record { 0 = c })))

-- Before an entry

-- the processor that the machine holds, or it holds none
abbrev pub IsHolding : Machines → MNo → Option PNo → Type 0
IsHolding w m (Some p) = Holds w m p
IsHolding w m None = (p : PNo) → IsProcessorNumber p → Holds w m p → ⊥

-- whom the machine runs, or whose blocking call it makes, or it does neither
abbrev pub IsAt : Table → MNo → Option GNo → Type 0
IsAt t m (Some g) = IsHeld t g m
IsAt t m None = (g : GNo) → IsHeld t g m → ⊥

-- what the machine does, if it is there
abbrev pub machine_said : Machines → MNo → Option PNo → List Remark
machine_said w m holds = option_map_or (λ (mode : Mode). Acts m mode holds (spins w m) ∷ []) (slice_get w.modes m.0) []

-- what the goroutine does, if it is there; leaks are told at the end alone
abbrev pub does_said : Table → GNo → List Remark
does_said t g = option_map_or (λ (status : Status). Does g status false ∷ []) (status_at t g) []

-- its latest ticket, if it had one
abbrev pub latest_said : Table → GNo → List Remark
latest_said t g = if nat_lt 0 (epoch_at t g) then Ticket (record { g = g; epoch = epoch_at t g }) ∷ [] else []

-- what the goroutine does, and its latest ticket
abbrev pub ticket_said : Table → GNo → List Remark
ticket_said t g = does_said t g ++ latest_said t g

-- what a channel is, if it is there
abbrev pub named_said : List Channel → Option CNo → List Remark
named_said channels None = []
named_said channels (Some c) = option_map_or (λ (x : Channel). channel_now c x ∷ []) (slice_get channels c.0) []

-- the goroutine that a call names; of a spawn, the one that its reply names
abbrev pub named : Call → Reply → Option GNo
named (call.Put r) answer = Some r.g
named (call.Claim r) answer = Some r.g
named (call.Go h) answer = Some h
named (call.Ready h) answer = Some h
named call.Spawn answer = option_map (λ (r : Readiness). r.g) (ticket_in answer)
named _ answer = None

-- the channel that a call names, but a select, which has cases
abbrev pub channel_named : Call → Option CNo
channel_named (call.Send c v) = c
channel_named (call.Recv c) = c
channel_named (call.Close c) = c
channel_named (call.Len c) = c
channel_named (call.Cap c) = c
channel_named _ = None

-- the cases of a select
abbrev pub cases_named : Call → List Case
cases_named (call.Select cases has_default until) = cases
cases_named _ = []

-- what each of these cases' channels is
abbrev pub each_named : List Channel → List Case → List Remark
each_named channels cases = flat_map (λ (x : Case). named_said channels (channel_of x)) cases

-- what the channels are that a call names
abbrev pub channels_said : List Channel → Call → List Remark
channels_said channels c = named_said channels (channel_named c) ++ each_named channels (cases_named c)

-- what is to be said of the state before an entry: of its machine, of the goroutine there, of the one that it names with its latest ticket, and of the channels that it names
pub record IsBefore (s : State) (e : Entry) (said : List Remark) : Type 0 where
  pub holds : Option PNo
  pub held : IsHolding s.machines e.m holds
  pub at : Option GNo
  pub runs : IsAt s.table e.m at
  pub all : said ≡ machine_said s.machines e.m holds ++ (option_map_or (does_said s.table) at []
      ++ (option_map_or (ticket_said s.table) (named e.call e.reply) [] ++ channels_said s.channels e.call))
