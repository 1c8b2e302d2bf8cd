-- What a machine gives back once the run is over.
use Rattle.std.specs.Prelude.{◌≡◌, ℕ, not, Option, Some, None, Result, Ok, Err}
use Rattle.std.specs.Option.{option_map_or}
use Rattle.gmp_base.specs.declared.pass.Pass.{Pass}
use Rattle.gmp_base.specs.declared.refusal.Refusal.{Refusal}
use Rattle.gmp_base.specs.declared.refusal.Refusal.TheVariants.{NotHeld, NotOutstanding}
use Rattle.gmp_base.specs.declared.value.Called.{Called}
use Rattle.gmp_base.specs.declared.value.Held.{Held}
use Rattle.gmp_base.specs.declared.value.Proc.{Proc}
use Rattle.gmp_base.specs.declared.value.Ticket.{Ticket}
use Rattle.gmp_base.specs.Values.{readiness_of}
use Rattle.gmp_seq.specs.Table.{is_outstanding}
use Rattle.gmp_book.specs.Slots.{is_vacant}
use Rattle.gmp_journal.specs.Refusals.{first_refusal, refusal_in}
use Rattle.gmp_book.specs.Book.{BookContents, surrender_lines}
use Rattle.gmp_book.specs.Hands.{with_home, with_owner}
use Rattle.gmp_driver.specs.declared.act.Act.TheVariants as act
use Rattle.gmp_driver.specs.declared.act.Told.{Told}
use Rattle.gmp_driver.specs.declared.act.Told.TheVariants as told
use Rattle.gmp_driver.specs.declared.act.Value.{Value}
use Rattle.gmp_driver.specs.declared.act.Value.TheVariants as value
use Rattle.gmp_driver.specs.declared.load.Load.{Load}
use Rattle.gmp_driver.specs.Loads.{load_of, parts_of}
use Rattle.gmp_driver.specs.Machine.{Machine}
use Rattle.gmp_driver.specs.Registers.{joined, unused, used}
use Rattle.gmp_driver.specs.Table.{after}

-- the load once this value was given back
abbrev pub load_without : {T Q : Type 0} → Option Value → Load T Q → Load T Q
load_without (Some value.Held) load = record load { held = None }
load_without (Some value.Called) load = record load { called = None }
load_without (Some value.ToClaim) load = record load { to_claim = None }
load_without (Some value.ToStore) load = record load { to_store = None }
load_without (Some value.Proc) load = record load { proc = None }
load_without None load = load

-- the book once the value is in its place; a ticket has none, and state and history stay
abbrev pub book_with : {T Q : Type 0} → Option Value → Load T Q → BookContents T Q → BookContents T Q
book_with (Some value.Held) load book = record book { bodies = with_home load.held None book.bodies }
book_with (Some value.Called) load book = record book { bodies = with_home None load.called book.bodies }
book_with (Some value.Proc) load book = record book { owners = with_owner load.proc book.owners }
book_with _ load book = book

-- Why the book refuses it, if it does

abbrev pub body_refusal : {T Q : Type 0} → BookContents T Q → ℕ → ℕ → Option Refusal
body_refusal book run g = first_refusal (surrender_lines book.log run (not (is_vacant book.bodies g)) NotHeld)

abbrev pub ticket_refusal : {T Q : Type 0} → BookContents T Q → Ticket → Option Refusal
ticket_refusal book t = first_refusal (surrender_lines book.log t.run (not (is_outstanding book.log.state.table (readiness_of t))) NotOutstanding)

abbrev pub owner_refusal : {T Q : Type 0} → BookContents T Q → Proc Q → Option Refusal
owner_refusal book x = first_refusal (surrender_lines book.log x.run (not (is_vacant book.owners x.p.0)) NotHeld)

abbrev pub refusal_back : {T Q : Type 0} → Option Value → Load T Q → BookContents T Q → Option Refusal
refusal_back {T} {Q} (Some value.Held) load book = option_map_or (λ (h : Held T). body_refusal book h.run h.g.0) load.held None
refusal_back {T} {Q} (Some value.Called) load book = option_map_or (λ (c : Called T). body_refusal book c.run c.g.0) load.called None
refusal_back {T} {Q} (Some value.ToClaim) load book = option_map_or (λ (t : Ticket). ticket_refusal book t) load.to_claim None
refusal_back {T} {Q} (Some value.ToStore) load book = option_map_or (λ (t : Ticket). ticket_refusal book t) load.to_store None
refusal_back {T} {Q} (Some value.Proc) load book = option_map_or (λ (x : Proc Q). owner_refusal book x) load.proc None
refusal_back {T} {Q} None load book = None

-- The outcome

-- what is left of the load, and the book
abbrev pub left_after : {T Q : Type 0} → Option Value → Result Unit Refusal → Load T Q → Load T Q
left_after which (Ok done) load = load_without which load
left_after which (Err why) load = load

abbrev pub book_after : {T Q : Type 0} → Option Value → Result Unit Refusal → Load T Q → BookContents T Q → BookContents T Q
book_after which (Ok done) load book = book_with which load book
book_after which (Err why) load book = book

-- what the driver is told
abbrev pub told_back : Option Value → Result Unit Refusal → Told
told_back (Some v) (Ok done) = told.Surrendered
told_back (Some v) (Err why) = told.Refused why
told_back None result = told.Nothing

-- what the machine hands out
abbrev pub surrendered : {T Q : Type 0} → Machine T Q → Pass → Option Value → Load T Q
surrendered x pass which = load_of x.run pass (used (act.Surrender which) x.hand)

-- The value was given back, or was refused and is where it was; the machine was told so.
pub record Surrenders {T Q : Type 0} (x : Machine T Q) (book : BookContents T Q) (which : Option Value) (result : Result Unit Refusal) (x' : Machine T Q) (book' : BookContents T Q) : Type 0 where
  pub before : Pass
  pub pass : x.pass ≡ Some before
  pub refused : refusal_in result ≡ refusal_back which (surrendered x before which) book
  pub places : book' ≡ book_after which result (surrendered x before which) book
  pub machine : x' ≡ after (record x { pass = Some before; hand = joined (parts_of (left_after which result (surrendered x before which))) (unused (act.Surrender which) x.hand) }) (told_back which result)
