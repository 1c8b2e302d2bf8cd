-- The core as a contract sees it: its state, the bodies of all goroutines, wherever each is, and who is on the shelf, in order.
use Rattle.std.specs.Prelude.{◌≡◌, ◌⊎◌, ℕ, ◌<◌, All, Bool, true, false, List, [], ◌∷◌, ◌++◌, map, length, Option, None, Some, slice_get, slice_index_or, slice_set}
use Rattle.std.specs.List.{range_with_len}
use Rattle.gmp_base.specs.declared.number.GNo.{GNo}
use Rattle.gmp_base.specs.declared.number.MNo.{MNo}
use Rattle.gmp_seq.specs.declared.call.Call.{Call}
use Rattle.gmp_seq.specs.declared.call.Entry.{Entry}
use Rattle.gmp_seq.specs.declared.call.Limits.{Limits}
use Rattle.gmp_seq.specs.declared.call.Reply.{Reply}
use Rattle.gmp_seq.specs.Fits.{Fits}
use Rattle.gmp_seq.specs.Needs.{WantsMemory}
use Rattle.gmp_seq.specs.Table.{is_shelved}
use Rattle.gmp_table.specs.Kept.{IsListing}
use Rattle.gmp_goroutines.specs.Shelf.{Shelves}
use Rattle.gmp_journal.specs.Grants.{Chooses}
use Rattle.gmp_core.specs.declared.want.Want.{Want}
use Rattle.gmp_core.specs.declared.want.Want.TheVariants as want
use Rattle.gmp_driver.specs.declared.act.Act.{Act}
use Rattle.gmp_driver.specs.declared.act.Act.TheVariants as act
use Rattle.gmp_driver.specs.declared.place.Place.{Place}
use Rattle.gmp_driver.specs.declared.place.Place.TheVariants as place
use Rattle.gmp_driver.specs.Machine.{Machine}
use Rattle.gmp_driver.specs.Registers.{first_of}
use Rattle.gmp_driver.specs.Table.{next_act}
use Rattle.gmp_turn.specs.Values.{body_in}
use Rattle.gmp_acts.specs.declared.choice.Choice.{Choice}
use Rattle.gmp_acts.specs.Acts.{Acts}
use Rattle.gmp_acts.specs.Hands.{PlainHand}
use Rattle.gmp_acts.specs.Headline.{Headline, Lasts, NoClaimIsRefused}
use Rattle.gmp_acts.specs.System.{System, called_number, count_of, count_of_all, held_number, machine_at, made_of}

-- the state, the stock of bodies: body g is that of goroutine g, in the book or with a machine; and who is on the shelf, in order
pub record Whole (T : Type 0) : Type 0 where
  pub system : System
  pub stock : List (Option T)
  pub shelf : List GNo

-- the first that is there
abbrev pub first_with : {M X : Type 0} → (M → Option X) → List M → Option X
first_with f [] = None
first_with f (x ∷ xs) = first_of (f x) (first_with f xs)

-- each value: with the machine that has it in hand, or in its place
abbrev pub values_of : {M X : Type 0} → (M → ℕ → Option X) → List M → List (Option X) → List (Option X)
values_of has machines places = map (λ (i : ℕ). first_of (first_with (λ (x : _). has x i) machines) (slice_index_or places i None)) (range_with_len 0 (length places))

-- the bodies of all goroutines
abbrev pub stock_of : {T Q : Type 0} → List (Machine T Q) → List (Option T) → List (Option T)
stock_of {T} {Q} machines places = values_of (λ (x : Machine T Q). body_in x.hand) machines places

-- A history that is handed out

-- there is as much room as entries
abbrev pub IsKept : Limits → Type 0
IsKept limits = limits.room ≡ limits.entries

-- there is room for the entry that comes next, if one comes
abbrev pub HasRoom : System → Type 0
HasRoom k = Lasts k (length k.book.history < k.book.limits.room)

-- the system with these entries before those that are left
abbrev pub with_before : List Entry → System → System
with_before out k = record k { book = record k.book { history = out ++ k.book.history }; own = map made_of out ++ k.own }

-- the system once the entries that were left are handed out
abbrev pub emptied : System → System
emptied k = record k { book = record k.book { history = [] }; own = [] }

-- no entry was handed out: the history begins at the opening
abbrev pub IsWhole : System → Type 0
IsWhole k = count_of_all k.book ≡ length k.book.history

-- The headline, for what the machines began with. It holds of some entries before those that are left, and these, as one history. Which those
-- are, the law pieces_are_one_history says: what was handed out, in order.
pub record HeadlineOf (k : System) : Type 0 where
  pub out : List Entry
  pub headline : Headline k.book.run k.book.limits k.book.bodies k.book.capacities (with_before out k)
  pub fits : All Fits out
  pub whole : IsWhole k → out ≡ []

-- what the next act reads of a choice: an ask, a number, or a moment, with the deadline that it minds
abbrev pub wanted_by : Act → Want
wanted_by act.Resume = want.Ask
wanted_by act.Block = want.Number
wanted_by (act.Clock deadline) = want.Moment deadline
wanted_by _ = want.Nothing

-- it is of the body in hand
abbrev pub is_of_body : Want → Bool
is_of_body want.Ask = true
is_of_body want.Number = true
is_of_body _ = false

-- Refusals

-- machine m makes this call, with this reply: that is the one entry more
abbrev pub Enters : System → MNo → Call → Reply → System → Type 0
Enters k m asked answer k' = k'.book.history ≡ k.book.history ++ record { m = m; k = count_of k.book m; call = asked; reply = answer } ∷ []

-- with some reply
abbrev pub EntersCall : System → MNo → Call → System → Type 0
EntersCall k m asked k' = (answer : Reply) × Enters k m asked answer k'

-- While the run lasts, a call that the machine's program names makes its entry. A make may want memory, and then the book is as it was.
abbrev pub NoCallIsRefused : System → MNo → System → Type 0
NoCallIsRefused k m k' = (asked : Call) → m.0 < length k.machines → next_act (machine_at k m) ≡ act.Call asked
    → Lasts k (EntersCall k m asked k' ⊎ (WantsMemory k.book.limits asked k.book.state × (k'.book ≡ k.book)))

-- Where the scheduler leaves a choice, a call that makes its entry takes what is fixed: the least idle processor, the least parked machine,
-- the least goroutine that may be started, the case of the word, and whoever is first on the shelf. All who come onto the shelf come last, and
-- without an entry it stays.
pub record TakesFixed {T : Type 0} (k : Whole T) (m : MNo) (word : ℕ) (k' : Whole T) : Type 0 where
  pub listed : IsListing is_shelved k.system.book.state.table.goroutines k.shelf
  pub takes : (asked : Call) (answer : Reply) → m.0 < length k.system.machines → next_act (machine_at k.system m) ≡ act.Call asked → Enters k.system m asked answer k'.system
      → Chooses asked word answer k.system.book.state k.shelf × Shelves asked answer k.system.book.state.table k'.system.book.state.table k.shelf k'.shelf
  pub stays : k'.system.book ≡ k.system.book → k'.shelf ≡ k.shelf

-- Acts in a row: no call of them is refused, no claim is, and each takes what is fixed.
abbrev pub GrantsAll : {T : Type 0} → Whole T → List (MNo × Choice) → Whole T → Type 0
GrantsAll k [] k' = k' ≡ k
GrantsAll {T} k (move ∷ moves) k' = (mid : Whole T)
    × Acts k.system move.0 move.1 mid.system
    × NoCallIsRefused k.system move.0 mid.system
    × NoClaimIsRefused k.system move.0 mid.system
    × TakesFixed k move.0 move.1.word mid
    × GrantsAll mid moves k'

-- The body in hand

-- the goroutine whose body is lent: the one that runs, at Run, or the one in its blocking call, at Block
abbrev pub goroutine_at : Place → PlainHand → Option GNo
goroutine_at place.Run hand = held_number hand.held
goroutine_at place.Block hand = called_number hand.called
goroutine_at here hand = None

abbrev pub goroutine_in_hand : System → MNo → Option GNo
goroutine_in_hand k m = goroutine_at (machine_at k m).place (machine_at k m).hand

-- this is the stock's body of the goroutine in machine m's hand
pub record IsBodyInHand {T : Type 0} (k : Whole T) (m : MNo) (body : T) : Type 0 where
  pub g : GNo
  pub in_hand : goroutine_in_hand k.system m ≡ Some g
  pub its : slice_get k.stock g.0 ≡ Some (Some body)

-- the stock with another body of this goroutine
abbrev pub stock_with : {T : Type 0} → Option GNo → T → List (Option T) → List (Option T)
stock_with None body stock = stock
stock_with (Some g) body stock = slice_set stock g.0 (Some body)

-- the core with another body in machine m's hand: the state is the same, and the stock but for that body
abbrev pub with_body_in_hand : {T : Type 0} → Whole T → MNo → T → Whole T
with_body_in_hand k m body = record k { stock = stock_with (goroutine_in_hand k.system m) body k.stock }
