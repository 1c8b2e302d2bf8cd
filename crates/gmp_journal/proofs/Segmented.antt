-- A journal whose entries were handed out, and segments one after another.
use Rattle.std.specs.declared.alloc.AllocError.{AllocError}
use Rattle.std.specs.Option.{option_map}
use Rattle.std.specs.Prelude.{IfOk, IfSome}
use Rattle.std.proofs.Common.{◌≡◌, ℕ, ◌+◌, ◌<◌, ◌≤◌, ◌||◌, Bool, false, is_some, None, Some, Option, Result, Ok, Err, List, [], ◌∷◌, ◌++◌, length, refl, sym, ap, subst, ◌∙◌, arith}
use Rattle.std.proofs.lemmas.List.Elements.{All-append, All-nil}
use Rattle.std.proofs.lemmas.Bool.{false≢true}
use Rattle.gmp_seq.proofs.Counts.{legal_total, run_total}
use Rattle.gmp_seq.proofs.InOrder.{legal_in_order}
use Rattle.gmp_seq.proofs.Runs.{run_join}
use Rattle.gmp_seq.specs.declared.call.Entry.{Entry}
use Rattle.gmp_seq.specs.declared.call.Limits.{Limits}
use Rattle.gmp_seq.specs.declared.call.Outcome.{Outcome}
use Rattle.gmp_seq.specs.Fits.{Fits}
use Rattle.gmp_seq.specs.Run.{IsLegal, Run}
use Rattle.gmp_seq.specs.State.{State}
use Rattle.gmp_start.specs.declared.start.Start.{Start}
use Rattle.gmp_start.specs.Start.{state_of}
use Rattle.gmp_journal.proofs.Granted.{in_order, since_opening}
use Rattle.gmp_journal.specs.Kept.{IsJournal, IsLeft}
use Rattle.gmp_journal.specs.Log.{IsWhole, Log, entries_made}
use Rattle.gmp_journal.specs.Segments.{AreSegments, IsPart, MayGoOn, Piece, begin_before, begin_of, entries_of}

some_same : {a b : State} → Some a ≡ Some b → a ≡ b
some_same e = cc

-- no other state is kept than the present one
kept_state : (next : Option Start) (begun : Option State) (now s : State) → begun ≡ option_map state_of next → IfSome next (λ x. state_of x ≡ now) → begun ≡ Some s → s ≡ now
kept_state (Some x) begun now s are is same = some_same (sym same ∙ are) ∙ is
kept_state None begun now s are is same = absurd (let no : None ≡ Some s = sym are ∙ same in cc)

lasts_on : (o : Option Outcome) (closed : Bool) → closed ≡ is_some o → closed ≡ false → o ≡ None
lasts_on None closed same not = refl
lasts_on (Some o) closed same not = absurd (false≢true (sym not ∙ same))

-- what came in place of the entries is empty, and has room for as many; it begins at the present state
pub begun_anew : (log : Log) (space lasting : ℕ) (history : List Entry) (next : Option Start) (begun : Option State) (closed : Bool) → IsPart log → history ≡ []
    → log.limits.room ≤ space → log.limits.room ≤ lasting → begun ≡ option_map state_of next → IfSome next (λ s. state_of s ≡ log.state) → closed ≡ is_some log.state.outcome
    → IsJournal (record log { history = history; begun = begun; closed = closed }) space lasting
begun_anew log space lasting history next begun closed part none room lasts are is shut =
    rw none (record {
      part = record {
        before = part.before ++ log.history;
        start = log.state;
        led = since_opening log part;
        before_fits = All-append Fits part.before log.history part.before_fits part.fits;
        run = refl;
        fits = All-nil Fits;
        within = part.within;
      };
      few = omega arith;
      room = room;
      lasts = lasts;
      begins = λ s. kept_state next begun log.state s are is;
      ongoing = λ empty. lasts_on log.state.outcome closed shut;
    })

-- and so many entries may follow
pub left_anew : (log : Log) (history : List Entry) (begun : Option State) (closed : Bool) (left : ℕ) → history ≡ [] → closed ≡ is_some log.state.outcome → left ≤ log.limits.room
    → (0 < left → (closed || log.stopped) ≡ false) → (0 < left → entries_made log + left ≤ log.limits.entries) → IsLeft (record log { history = history; begun = begun; closed = closed }) left
left_anew log history begun closed left none shut room lasts fits = record {
  room = rw none (omega (arith, room));
  lasts = λ more. ap (λ (b : Bool). b || log.stopped) (sym shut) ∙ lasts more;
  fits = fits;
}

-- the history begins there
begins_at : (log : Log) (start s : State) (begun : Option State) (history : List Entry) → Run log.limits start history log.state → ((s : State) → begun ≡ Some s → s ≡ start)
    → begin_before begun history log.state ≡ Some s → s ≡ start
begins_at log start s (Some b) history run kept same = kept s same
begins_at log start s None [] run kept same = some_same (sym same) ∙ run
begins_at log start s None (e ∷ es) run kept same = absurd (let no : None ≡ Some s = same in cc)

pub begin_is : (log : Log) (space lasting : ℕ) (s : State) (kept : IsJournal log space lasting) → begin_of log ≡ Some s → s ≡ kept.part.start
begin_is log space lasting s kept = begins_at log kept.part.start s log.begun log.history kept.part.run kept.begins

-- a run may go on from there, and it goes to the present state
pub begin_led : (log : Log) (space lasting : ℕ) (s : State) → IsJournal log space lasting → begin_of log ≡ Some s → MayGoOn log s × Run log.limits s log.history log.state
begin_led log space lasting s kept same =
    let part = kept.part in
    subst (λ (a : State). MayGoOn log a × Run log.limits a log.history log.state) (sym (begin_is log space lasting s kept same)) (
      record {
        together = (legal_in_order log.limits log.bodies log.capacities part.before part.start part.within part.led).together;
        before = part.before;
        led = part.led;
        before_fits = part.before_fits;
        within = part.within;
      },
      part.run,
    )

-- a run may go on from a copy of the present state, while it lasts
pub may_go_on : (log : Log) (s : State) → IsPart log → s ≡ record log.state { outcome = None } → log.state.outcome ≡ None → MayGoOn log s
may_go_on log s part is lasts =
    let same : s ≡ log.state = is ∙ ap (λ (o : Option Outcome). let y : State = record log.state { outcome = o } in y) (sym lasts) in
    subst (MayGoOn log) (sym same) (record {
      together = (in_order log part).together;
      before = part.before ++ log.history;
      led = since_opening log part;
      before_fits = All-append Fits part.before log.history part.before_fits part.fits;
      within = part.within;
    })

pub copied_on : (log : Log) (r : Result Start AllocError) → IsPart log → IfOk r (λ s. state_of s ≡ record log.state { outcome = None })
    → IfOk r (λ s. log.state.outcome ≡ None → MayGoOn log (state_of s))
copied_on log (Ok s) part is = may_go_on log (state_of s) part is
copied_on log (Err why) part is = tt

-- no entries lead to the opening alone
none_before : (log : Log) (part : IsPart log) (h : List Entry) → IsLegal log.limits log.bodies log.capacities h part.start → length h ≡ 0
    → IsLegal log.limits log.bodies log.capacities log.history log.state
none_before log part [] is none = subst (λ (s : State). Run log.limits s log.history log.state) is part.run
none_before log part (e ∷ h) led none = absurd (omega (arith, none))

pub from_opening : (log : Log) → IsPart log → IsWhole log → IsLegal log.limits log.bodies log.capacities log.history log.state
from_opening log part whole =
    let since = run_total log.limits part.start log.state log.history part.run in
    let before = legal_total log.limits log.bodies log.capacities part.before part.start part.led in
    none_before log part part.before part.led (omega (arith, whole, since, before))

pub joined : (limits : Limits) (a b : State) (pieces : List Piece) → AreSegments limits a pieces b → Run limits a (entries_of pieces) b
joined limits a b [] same = same
joined limits a b (p ∷ ps) (starts, mid, run, rest) = run_join limits a mid b p.entries (entries_of ps) run (joined limits mid b ps rest)
