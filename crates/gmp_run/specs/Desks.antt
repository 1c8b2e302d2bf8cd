-- What lies under the lock, and the pieces of a history that a sink took.
use Rattle.std.specs.Prelude.{◌≡◌, ◌≤◌, ℕ, Bool, true, false, All, List, [], ◌∷◌, ◌++◌, length, None}
use Rattle.std.specs.List.{flat_map}
use Rattle.gmp_history.specs.Brief.{HistoryContents}
use Rattle.gmp_seq.specs.declared.call.Entry.{Entry}
use Rattle.gmp_seq.specs.declared.call.Limits.{Limits}
use Rattle.gmp_seq.specs.Fits.{Fits}
use Rattle.gmp_seq.specs.Run.{IsLegal}
use Rattle.gmp_book.specs.Book.{BookContents}
use Rattle.gmp_journal.specs.Log.{Log, entries_made}
use Rattle.gmp_journal.specs.Segments.{handed_out}

-- the sink took these pieces, one after another
abbrev pub TakesAll : {S : Type 0} → (S → List Entry → S → Type 0) → S → List (List Entry) → S → Type 0
TakesAll takes a [] b = b ≡ a
TakesAll takes a (piece ∷ pieces) b = (mid : _) × takes a piece mid × TakesAll takes mid pieces b

-- their entries, in order
abbrev pub joined : List (List Entry) → List Entry
joined pieces = flat_map (λ (piece : List Entry). piece) pieces

-- these pieces, and what was left, if there was anything
abbrev pub with_left : List (List Entry) → List Entry → List (List Entry)
with_left pieces [] = pieces
with_left pieces (entry ∷ entries) = pieces ++ (entry ∷ entries) ∷ []

-- there is no room for another entry
abbrev pub IsFull : Limits → List Entry → Type 0
IsFull limits piece = length piece ≡ limits.room

-- A history in pieces, cut where there was no room for another entry: each is full, but for the last one, which has entries, and no more than
-- there is room for.
pub record IsCut (limits : Limits) (pieces : List (List Entry)) : Type 0 where
  pub full : List (List Entry)
  pub left : List Entry
  pub are : pieces ≡ with_left full left
  pub sized : All (IsFull limits) full
  pub few : length left ≤ limits.room

-- Behind the pieces the sink is as it was left by them; where it stopped the run, it refused these entries since.
abbrev pub IsLeftSo : {S : Type 0} → (S → List Entry → S → Type 0) → Bool → S → List Entry → S → Type 0
IsLeftSo refuses false behind entries now = now ≡ behind
IsLeftSo refuses true behind entries now = refuses behind entries now

-- the book, how many calls all machines made, and the sink
pub record DeskContents (T Q S : Type 0) : Type 0 where
  pub book : BookContents T Q
  pub total : ℕ
  pub sink : S

-- the book once its history was handed out
abbrev pub with_none_left : {T Q : Type 0} → BookContents T Q → BookContents T Q
with_none_left book = record book { log = handed_out book.log }

-- the same, and the run was stopped
abbrev pub stopped_book : {T Q : Type 0} → BookContents T Q → BookContents T Q
stopped_book book = record book { log = record (handed_out book.log) { stopped = true } }

-- the sink refused the history, and the run was stopped
abbrev pub Stops : {T Q S : Type 0} → (S → List Entry → S → Type 0) → DeskContents T Q S → DeskContents T Q S → Type 0
Stops refuses old new = (new.book ≡ stopped_book old.book) × refuses old.sink old.book.log.history new.sink

-- All entries, those that the sink took since the run began and those that are left, are a legal run to the present state, and as many as the
-- machines made calls, and `Made` holds of them. What the sink was handed was full each time. Where the run was stopped, the sink
-- refused what is in the spare, and no entry follows. A run that has as much room as entries hands none out.
pub record IsDesk {S : Type 0} (run : ℕ) (first : S → Type 0) (takes refuses : S → List Entry → S → Type 0) (Made : List Entry → Type 0) (log : Log) (total : ℕ) (sink : S) (spare : HistoryContents) : Type 0 where
  pub run_is : log.run ≡ run
  pub counted : entries_made log ≡ total
  pub began : S
  pub is_first : first began
  pub pieces : List (List Entry)
  pub behind : S
  pub taken : TakesAll takes began pieces behind
  pub left_so : IsLeftSo refuses log.stopped behind spare.list sink
  pub sized : All (IsFull log.limits) pieces
  pub left_full : log.stopped ≡ true → IsFull log.limits spare.list
  pub few : length (spare.list ++ log.history) ≤ log.limits.room
  pub legal : IsLegal log.limits log.bodies log.capacities (joined pieces ++ (spare.list ++ log.history)) log.state
  pub made : Made (joined pieces ++ (spare.list ++ log.history))
  pub whole : log.limits.room ≡ log.limits.entries → pieces ≡ []
  pub lasts : log.limits.room ≡ log.limits.entries → log.stopped ≡ false
  pub no_outcome : log.stopped ≡ true → log.state.outcome ≡ None
  pub none_left : log.stopped ≡ true → log.history ≡ []
  pub empty : log.stopped ≡ false → spare.list ≡ []
  pub room : log.stopped ≡ false → log.limits.room ≤ spare.room
  pub lasting : log.stopped ≡ false → log.limits.room ≤ spare.lasting
  pub fits : All Fits spare.list
