-- What a contract sees of a status table, and the words of its calls.
use Rattle.std.specs.Prelude.{ℕ, ◌+◌, Bool, Option, None, List, [], ◌∷◌, slice_get, slice_set, is_some}
use Rattle.std.specs.Option.{option_map_or}
use Rattle.gmp_base.specs.declared.number.GNo.{GNo}
use Rattle.gmp_base.specs.declared.ask.Woke.{Woke}
use Rattle.gmp_seq.specs.declared.status.Goroutine.{Goroutine}
use Rattle.gmp_seq.specs.declared.status.TicketPlace.{TicketPlace}
use Rattle.gmp_seq.specs.declared.status.Status.{Status}
use Rattle.gmp_seq.specs.declared.status.Status.TheVariants.{Ready}
use Rattle.gmp_seq.specs.State.{main, opening_table}
use Rattle.gmp_seq.specs.Table.{Table, answer_of_ready, deadline_of}

-- the table, and who is on the shelf, the one to be taken next first
pub record TableContents : Type 0 where
  pub table : Table
  pub shelf : List GNo

-- main is on the shelf, and all others are dormant
abbrev pub opening_contents : ℕ → TableContents
opening_contents bodies = record {
  table = opening_table bodies;
  shelf = main ∷ [];
}

-- Changes of the rows alone

abbrev pub epoch_in : List Goroutine → GNo → ℕ
epoch_in rows g = option_map_or (λ (x : Goroutine). x.epoch) (slice_get rows g.0) 0

abbrev pub turned : List Goroutine → GNo → Status → List Goroutine
turned rows g status = slice_set rows g.0 (record { status = status; epoch = epoch_in rows g })

abbrev pub risen : List Goroutine → GNo → TicketPlace → Woke → List Goroutine
risen rows g place answer = slice_set rows g.0 (record { status = Ready place answer; epoch = epoch_in rows g + 1 })

-- what a ready goroutine is to be told
abbrev pub answer_in : List Goroutine → GNo → Option Woke
answer_in rows g = option_map_or (λ (x : Goroutine). answer_of_ready x.status) (slice_get rows g.0) None

-- Tests of statuses

-- it waits until a moment
abbrev pub has_deadline : Status → Bool
has_deadline s = is_some (deadline_of s)
