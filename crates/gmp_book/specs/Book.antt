-- What a contract sees of a book, and what its calls do to it.
use Rattle.std.specs.Prelude.{◌≡◌, ℕ, ◌==◌, All, Bool, false, true, not, ◌&&◌, List, [], ◌∷◌, ◌++◌, length, map, Option, Some, None, is_some, is_none, slice_get, slice_set}
use Rattle.std.specs.List.{range_with_len}
use Rattle.gmp_base.specs.declared.number.CNo.{CNo}
use Rattle.gmp_base.specs.declared.pass.Pass.{Pass}
use Rattle.gmp_base.specs.declared.refusal.Refusal.{Refusal}
use Rattle.gmp_base.specs.declared.refusal.Refusal.TheVariants.{WrongRun, NotOver, Busy, BadLimits, OutOfMemory}
use Rattle.gmp_base.specs.declared.value.Held.{Held}
use Rattle.gmp_base.specs.declared.value.Proc.{Proc}
use Rattle.gmp_seq.specs.declared.call.Limits.{Limits}
use Rattle.gmp_seq.specs.declared.status.Goroutine.{Goroutine}
use Rattle.gmp_seq.specs.Fits.{AreLimits, Fits}
use Rattle.gmp_seq.specs.Machines.{Machines}
use Rattle.gmp_seq.specs.Channels.{items_at}
use Rattle.gmp_seq.specs.Run.{received, sent}
use Rattle.gmp_seq.specs.Table.{Table, is_held}
use Rattle.gmp_book.specs.Slots.{all_filled}
use Rattle.gmp_book.specs.declared.report.Report.{Report}
use Rattle.gmp_journal.specs.Log.{Log, is_over, opening_log}
use Rattle.gmp_journal.specs.Refusals.{Line, refusal_line}
use Rattle.gmp_journal.specs.Segments.{IsPart}

-- the run, and the bodies and owners that are in the book
pub record BookContents (T Q : Type 0) : Type 0 where
  pub log : Log
  pub bodies : List (Option T)
  pub owners : List (Option Q)

-- What the book keeps

-- the bodies are in the book, but for those of goroutines that run or make a blocking call
abbrev pub BodiesIn : {T : Type 0} → Table → List (Option T) → Type 0
BodiesIn t bodies = map is_some bodies ≡ map (λ (x : Goroutine). not (is_held x.status)) t.goroutines

-- the owners are in the book, but for those of processors that are held
abbrev pub OwnersIn : {Q : Type 0} → Machines → List (Option Q) → Type 0
OwnersIn w owners = map is_some owners ≡ map is_none w.holders

-- a place for each body and owner; while the run lasts the empty ones are those of what is held
pub record IsBook {T Q : Type 0} (book : BookContents T Q) : Type 0 where
  pub bodies_count : length book.bodies ≡ book.log.bodies
  pub owners_count : length book.owners ≡ book.log.limits.procs
  pub bodies : book.log.state.outcome ≡ None → book.log.stopped ≡ false → BodiesIn book.log.state.table book.bodies
  pub owners : book.log.state.outcome ≡ None → book.log.stopped ≡ false → OwnersIn book.log.state.machines book.owners

-- What a call does with bodies and owners

-- they stay
pub record SameValues {T Q : Type 0} (old now : BookContents T Q) : Type 0 where
  pub bodies : now.bodies ≡ old.bodies
  pub owners : now.owners ≡ old.owners

-- held has the body of its goroutine, out of its place
pub record HandsOut {T Q : Type 0} (old now : BookContents T Q) (held : Held T) : Type 0 where
  pub run : held.run ≡ old.log.run
  pub body : slice_get old.bodies held.g.0 ≡ Some (Some held.body)
  pub bodies : now.bodies ≡ slice_set old.bodies held.g.0 None
  pub owners : now.owners ≡ old.owners

-- the body of held is back in its place
pub record TakesBack {T Q : Type 0} (old now : BookContents T Q) (held : Held T) : Type 0 where
  pub bodies : now.bodies ≡ slice_set old.bodies held.g.0 (Some held.body)
  pub owners : now.owners ≡ old.owners

-- proc has the owner of its processor, out of its place
pub record HandsOutOwner {T Q : Type 0} (old now : BookContents T Q) (proc : Proc Q) : Type 0 where
  pub run : proc.run ≡ old.log.run
  pub owner : slice_get old.owners proc.p.0 ≡ Some (Some proc.owner)
  pub owners : now.owners ≡ slice_set old.owners proc.p.0 None
  pub bodies : now.bodies ≡ old.bodies

-- the owner of proc is back in its place
pub record TakesBackOwner {T Q : Type 0} (old now : BookContents T Q) (proc : Proc Q) : Type 0 where
  pub owners : now.owners ≡ slice_set old.owners proc.p.0 (Some proc.owner)
  pub bodies : now.bodies ≡ old.bodies

-- The opening

-- the limits are in range, and there is an owner for each processor
abbrev pub MayOpen : Limits → ℕ → List ℕ → ℕ → Type 0
MayOpen limits bodies capacities owners = AreLimits limits bodies capacities × (owners ≡ limits.procs)

-- limits out of range are told before want of memory
abbrev pub WhyUnopened : Type 0 → Refusal → Type 0
WhyUnopened may BadLimits = may → ⊥
WhyUnopened may OutOfMemory = may
WhyUnopened may _ = ⊥

-- no call was made, and all bodies and owners are in
abbrev pub opening_book : {T Q : Type 0} → ℕ → Limits → List ℕ → List T → List Q → BookContents T Q
opening_book run limits capacities bodies owners = record {
  log = opening_log run limits (length bodies) capacities;
  bodies = map Some bodies;
  owners = map Some owners;
}

-- The history

-- It is a part of a legal run. What was on a channel's list at its start and what was sent since is what was received since, and then what is on
-- its list.
pub record IsBookPart (log : Log) : Type 0 where
  pub part : IsPart log
  pub fifo : (c : CNo) → items_at part.start.channels c ++ sent c log.history ≡ received c log.history ++ items_at log.state.channels c

-- each machine's pass before its first call
abbrev pub opening_passes : ℕ → ℕ → List Pass
opening_passes run machines = map (λ (m : ℕ). record { run = run; m = record { 0 = m }; calls = 0; seen = 0 }) (range_with_len 0 machines)

-- The end

-- when a surrender is refused: its value is of another run, the run lasts, or astray: the value has no place to go to
abbrev pub surrender_lines : Log → ℕ → Bool → Refusal → List Line
surrender_lines log run astray why =
    refusal_line (not (run == log.run)) WrongRun
    ∷ refusal_line (not (is_over log)) NotOver
    ∷ refusal_line astray why
    ∷ []

-- when a report is refused: the run lasts, or a body or an owner is out
abbrev pub report_lines : {T Q : Type 0} → BookContents T Q → List Line
report_lines book =
    refusal_line (not (is_over book.log)) NotOver
    ∷ refusal_line (not (all_filled book.bodies && all_filled book.owners)) Busy
    ∷ []

-- the report tells the run, whose history is a part of a legal run, and has all bodies and owners in order
pub record IsReport {T Q : Type 0} (book : BookContents T Q) (report : Report T Q) : Type 0 where
  pub limits : report.limits ≡ book.log.limits
  pub capacities : report.capacities.items ≡ book.log.capacities
  pub history : report.history.list ≡ book.log.history
  pub outcome : report.outcome ≡ book.log.state.outcome
  pub over : is_over book.log ≡ true
  pub bodies : map Some report.bodies.items ≡ book.bodies
  pub owners : map Some report.owners.items ≡ book.owners
  pub stock : length report.bodies.items ≡ book.log.bodies
  pub part : IsPart book.log
  pub fits : All Fits book.log.history
  pub within : AreLimits book.log.limits book.log.bodies book.log.capacities
