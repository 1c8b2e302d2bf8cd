-- In which way a communication proceeds, and what it leaves.
use Rattle.std.specs.Prelude.{Option, None, Some, List, [], ◌∷◌, ◌++◌, drop}
use Rattle.gmp_base.specs.declared.cases.Case.{Case}
use Rattle.gmp_base.specs.declared.cases.Case.TheVariants as case
use Rattle.gmp_seq.specs.declared.status.Transfer.{Transfer}
use Rattle.gmp_seq.specs.declared.status.Transfer.TheVariants.{Stored, First, Relayed}
use Rattle.gmp_seq.specs.Channels.{Channel, items_at, with_items}
use Rattle.gmp_seq.specs.State.{State}
use Rattle.gmp_seq.specs.Step.{served_by}
use Rattle.gmp_seq.specs.Waits.{Proceeds, offered, waiters}

-- the channels after it
abbrev pub channels_after : List Channel → Case → Transfer → List Channel
channels_after channels (case.Send (Some c) v) Stored = with_items channels c (items_at channels c ++ v ∷ [])
channels_after channels (case.Recv (Some c)) (First v) = with_items channels c (drop 1 (items_at channels c))
channels_after channels (case.Recv (Some c)) (Relayed v w) = with_items channels c (drop 1 (items_at channels c ++ offered w ∷ []))
channels_after channels _ _ = channels

-- the state after it
abbrev pub state_after : State → Case → Transfer → State
state_after s c how = record s { table = served_by s.table c how; channels = channels_after s.channels c how }

-- it proceeds in this way, or in none
abbrev pub IsWay : State → Case → Option Transfer → Type 0
IsWay s c (Some how) = Proceeds s.channels (waiters s.table) c how (channels_after s.channels c how)
IsWay s c None = (how : Transfer) (new : List Channel) → Proceeds s.channels (waiters s.table) c how new → ⊥
