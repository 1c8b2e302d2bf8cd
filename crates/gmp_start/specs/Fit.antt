-- Whether the parts of a state fit together, as a test. Law `fitting` says that it is the words of gmp_seq.
use Rattle.std.specs.Prelude.{ℕ, ◌+◌, ◌==◌, ◌&&◌, ◌||◌, not, nat_le, nat_lt, Bool, true, false, Option, None, Some, List, [], ◌∷◌, length, slice_get, sum, if◌then◌else◌}
use Rattle.std.specs.List.{list_any, list_all}
use Rattle.std.specs.Option.{option_map_or}
use Rattle.gmp_base.specs.declared.number.MNo.{MNo}
use Rattle.gmp_seq.specs.declared.call.Limits.{Limits}
use Rattle.gmp_seq.specs.declared.status.Goroutine.{Goroutine}
use Rattle.gmp_seq.specs.declared.status.Mode.{Mode}
use Rattle.gmp_seq.specs.declared.status.Offer.{Offer}
use Rattle.gmp_seq.specs.declared.status.Status.{Status}
use Rattle.gmp_seq.specs.declared.status.Status.TheVariants.{Running, Calling, Waiting}
use Rattle.gmp_seq.specs.Channels.{Channel}
use Rattle.gmp_seq.specs.Machines.{Machines, has_processor, is_awake_mode, is_calling_mode}
use Rattle.gmp_seq.specs.State.{State}
use Rattle.gmp_seq.specs.Table.{Table, is_calling_on, is_dormant, is_running_on, some_status}

-- the offers rise by case, from this case on
abbrev pub rise_from : ℕ → List Offer → Bool
rise_from least [] = true
rise_from least (o ∷ os) = nat_le least o.case && rise_from (o.case + 1) os

-- its arrival is one of so many, and its offers rise by case
abbrev pub wait_fits : ℕ → Status → Bool
wait_fits arrivals (Waiting w) = nat_lt w.arrival arrivals && rise_from 0 w.offers
wait_fits arrivals _ = true

-- the epoch is 0 exactly where the goroutine was never started, and else from 1 to one more than so many entries
abbrev pub epoch_fits : ℕ → Goroutine → Bool
epoch_fits made x = nat_le x.epoch (made + 1) && (if is_dormant x.status then x.epoch == 0 else nat_lt 0 x.epoch)

-- is the machine awake
abbrev pub awake_at : Machines → MNo → Bool
awake_at w m = option_map_or is_awake_mode (slice_get w.modes m.0) false

-- is the machine in a blocking call
abbrev pub calling_at : Machines → MNo → Bool
calling_at w m = option_map_or is_calling_mode (slice_get w.modes m.0) false

-- who runs does so on a machine that is awake and holds a processor, and a blocking call is made by a machine that is calling
abbrev pub machine_fits : Machines → Status → Bool
machine_fits w (Running m) = awake_at w m && has_processor w m
machine_fits w (Calling m) = calling_at w m
machine_fits w _ = true

-- a goroutine by itself
abbrev pub row_fits : ℕ → ℕ → Machines → Goroutine → Bool
row_fits made arrivals w x = epoch_fits made x && wait_fits arrivals x.status && machine_fits w x.status

-- the machine that runs it or makes its blocking call
abbrev pub machine_of : Status → Option MNo
machine_of (Running m) = Some m
machine_of (Calling m) = Some m
machine_of _ = None

-- both are machines, and the same
abbrev pub same_machine : Option MNo → Option MNo → Bool
same_machine (Some m) (Some n) = m.0 == n.0
same_machine _ _ = false

-- the number of its arrival, where it waits
abbrev pub arrival_of : Status → Option ℕ
arrival_of (Waiting w) = Some w.arrival
arrival_of _ = None

-- both arrived, and at once
abbrev pub same_arrival : Option ℕ → Option ℕ → Bool
same_arrival (Some a) (Some b) = a == b
same_arrival _ _ = false

-- two goroutines are at one machine, or arrived at once
abbrev pub clash : Goroutine → Goroutine → Bool
clash x y = same_machine (machine_of x.status) (machine_of y.status) || same_arrival (arrival_of x.status) (arrival_of y.status)

-- no element has this to a later one
abbrev pub pairs_apart : {A : Type 0} → (A → A → Bool) → List A → Bool
pairs_apart R [] = true
pairs_apart R (x ∷ xs) = not (list_any (R x) xs) && pairs_apart R xs

-- a holder is awake
abbrev pub holder_fits : Machines → Option MNo → Bool
holder_fits w None = true
holder_fits w (Some m) = awake_at w m

-- each machine that is calling, from number m on, makes the blocking call of a goroutine
abbrev pub callers_from : Table → ℕ → List Mode → Bool
callers_from t m [] = true
callers_from t m (x ∷ xs) = (not (is_calling_mode x) || some_status (is_calling_on (record { 0 = m })) t) && callers_from t (m + 1) xs

-- each machine whose flag is up, from number m on, passes
abbrev pub flagged_from : (MNo → Bool) → ℕ → List Bool → Bool
flagged_from passes m [] = true
flagged_from passes m (x ∷ xs) = (not x || passes (record { 0 = m })) && flagged_from passes (m + 1) xs

-- a machine that spins is awake and runs nothing
abbrev pub spinner_fits : Machines → Table → MNo → Bool
spinner_fits w t m = awake_at w m && not (some_status (is_running_on m) t)

-- no more values than there is room for
abbrev pub channel_fits : Channel → Bool
channel_fits c = nat_le (length c.items) c.capacity

-- the goroutines, after so many entries
abbrev pub table_fits : ℕ → Machines → Table → Bool
table_fits made w t = nat_le t.arrivals made && list_all (row_fits made t.arrivals w) t.goroutines && pairs_apart clash t.goroutines

-- the machines: each that spins fits, and each that is marked is awake
abbrev pub machines_fit : Machines → Table → Bool
machines_fit w t =
    list_all (holder_fits w) w.holders && pairs_apart same_machine w.holders && callers_from t 0 w.modes && flagged_from (spinner_fits w t) 0 w.spinning
    && flagged_from (awake_at w) 0 w.marked

-- all parts, while the run lasts
abbrev pub fits : Limits → State → Bool
fits limits s =
    nat_lt (sum s.counts) limits.entries && list_all channel_fits s.channels && table_fits (sum s.counts) s.machines s.table && machines_fit s.machines s.table
