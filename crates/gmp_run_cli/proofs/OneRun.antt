-- What a run in segments handed out and what it left is one run that is over: nothing is found wrong with it.
use Rattle.std.specs.Prelude.{is_none}
use Rattle.std.proofs.Common.{◌≡◌, ◌≢◌, ◌++◌, ◌∙◌, ℕ, List, [], ◌∷◌, Option, None, Some, IsSome, Result, Ok, Err, IfOk, IfErr, inl, inr, refl, sym, ap, subst, arith, length}
use Rattle.std.proofs.lemmas.Bool.{false≢true}
use Rattle.std.proofs.lemmas.List.{append-nil}
use Rattle.gmp_seq.specs.declared.call.Entry.{Entry}
use Rattle.gmp_seq.specs.declared.call.Limits.{Limits}
use Rattle.gmp_seq.specs.declared.call.Outcome.{Outcome}
use Rattle.gmp_seq.specs.Fits.{AreLimits}
use Rattle.gmp_seq.specs.Run.{Run}
use Rattle.gmp_seq.specs.State.{State, opening}
use Rattle.gmp_trace.specs.declared.trace.End.TheVariants.{Running}
use Rattle.gmp_trace.specs.Text.{end_of}
use Rattle.gmp_check.proofs.Keeping.{opening_consistent, run_fixed}
use Rattle.gmp_check.specs.Consistent.{IsConsistentUnder}
use Rattle.gmp_parts.specs.declared.error.PartError.TheVariants as part_error
use Rattle.gmp_parts.specs.Parts.{Parts, entries_of}
use Rattle.gmp_parts.specs.Writing.{GoesOn, HasWritten, Writing}
use Rattle.gmp_pieces.proofs.Taken.{all_written, refuses, takes}
use Rattle.gmp_pieces.specs.Pieces.{Refuses, WritesLeft, pieces_of}
use Rattle.gmp_run.proofs.Desks.{some_full}
use Rattle.gmp_run.specs.declared.ending.Report.{Report}
use Rattle.gmp_run.specs.declared.ending.Unrun.{Unrun}
use Rattle.gmp_run.specs.Desks.{IsLeftSo, TakesAll, joined, with_left}
use Rattle.gmp_run.specs.Reports.{IsPiecesReport, WhyUnrun}
use Rattle.gmp_words.specs.declared.said.Said.{Said}
use Rattle.gmp_words.specs.declared.said.Said.TheVariants.{NoRun}
use Rattle.gmp_run_cli.proofs.Held.{not_no_run}
use Rattle.gmp_run_cli.proofs.InParts.{at_first}
use Rattle.gmp_run_cli.proofs.Written.{over, two_ways}
use Rattle.gmp_run_cli.specs.Segments.{IsNoRun}
use Rattle.gmp_run_cli.specs.Told.{said_of_unrun}

not_both : {A : Type 0} (o : Option A) → IsSome o → o ≡ None → ⊥
not_both {A} o some none = let bad : IsSome {T = A} None = subst IsSome none some in absurd (false≢true bad)

-- a run goes through the state behind its first entries
split : (limits : Limits) (a c : State) (h k : List Entry) → Run limits a (h ++ k) c → (b : State) × Run limits a h b × Run limits b k c
split limits a c [] k run = (a, refl, run)
split limits a c (e ∷ h) k (mid, step, rest) = let later = split limits mid c h k rest in (later.0, (mid, step, later.1), later.2)

-- what follows goes on from there
goes_on : (limits : Limits) (a b c : State) (h k : List Entry) → IsConsistentUnder limits a → Run limits a h b → Run limits a (h ++ k) c → Run limits b k c
goes_on limits a b c h k is first all =
    let parts = split limits a c h k all in
    subst (λ (s : State). Run limits s k c) (run_fixed limits a parts.0 b h is parts.1 first) parts.2

module _ {W S : Type 0} (contents : W → Option (List ℕ)) (of : S → Writing W) (limits : Limits) (bodies : ℕ) (capacities : List ℕ) (outlet : W)
    (within : AreLimits limits bodies capacities) (began behind : S) (first : of began ≡ at_first contents limits bodies capacities outlet within)
    (pieces : List (List Entry)) (taken : TakesAll (takes contents of) began pieces behind) where
  consistent : IsConsistentUnder limits (opening limits bodies capacities)
  consistent = opening_consistent limits bodies capacities within

  works_on : (a b : S) (all : List (List Entry)) → TakesAll (takes contents of) a all b → (of a).failed ≡ None → (of b).failed ≡ None
  works_on a b [] same none = subst (λ (s : S). (of s).failed ≡ None) (sym same) none
  works_on a b (h ∷ all) (mid, one, rest) none = works_on mid b all rest one.works.1

  -- nothing failed while the pieces were taken
  works : (of behind).failed ≡ None
  works = works_on began behind pieces taken (ap (λ (w : Writing W). w.failed) first)

  -- all that was written is a run from the opening
  led : (end : Writing W) (left : List Entry) → WritesLeft contents (of behind) left end
      → (end.limits ≡ limits) × Run limits (opening limits bodies capacities) (joined pieces ++ left) end.state × (end.entries ≡ length (joined pieces ++ left))
  led end left last = by (all_written contents of began behind end pieces left taken last) where
    by : (parts : Parts) × (pieces_of parts ≡ with_left pieces left) × (entries_of parts ≡ joined pieces ++ left) × HasWritten contents (of began) end parts
        → (end.limits ≡ limits) × Run limits (opening limits bodies capacities) (joined pieces ++ left) end.state × (end.entries ≡ length (joined pieces ++ left))
    by (parts, are, entries, has) =
        let has_first : HasWritten contents (at_first contents limits bodies capacities outlet within) end parts = subst (λ (w : Writing W). HasWritten contents w end parts) first has in
        let long : length (entries_of parts) ≡ length (joined pieces ++ left) = ap (λ (h : List Entry). length h) entries in
        (has_first.same.0, subst (λ (h : List Entry). Run limits (opening limits bodies capacities) h end.state) entries has_first.one_run, omega (arith, has_first.entries, long))

  module _ (left : List Entry) (last : State) (legal : Run limits (opening limits bodies capacities) (joined pieces ++ left) last) where
    -- what is left goes on behind the pieces
    on : (left ≡ [] → ⊥) → GoesOn (of behind) left
    on some =
        let here = led (of behind) [] (works, refl) in
        let run : Run limits (opening limits bodies capacities) (joined pieces) (of behind).state =
        subst (λ (h : List Entry). Run limits (opening limits bodies capacities) h (of behind).state) (append-nil (joined pieces)) here.1 in (
          some,
          (
            last,
            subst (λ (l : Limits). Run l (of behind).state left last) (sym here.0)
                (goes_on limits (opening limits bodies capacities) (of behind).state last (joined pieces) left consistent run legal),
          ),
        )

    -- so it is not refused as no step
    steps : (now : Writing W) → Refuses (of behind) left now → now.failed ≡ Some part_error.NoStep → (left ≡ [] → ⊥) → ⊥
    steps now refused why some = refused.no_step why works (on some)

    module _ (calls : ℕ) (counted : length (joined pieces ++ left) ≡ calls) where
      -- and once it is written the run is over, with as many entries as calls
      whole : (end : Writing W) → IsSome last.outcome → WritesLeft contents (of behind) left end → (end_of end.state.outcome ≢ Running → end.entries ≡ calls → ⊥) → ⊥
      whole end ended wrote short =
          let all = led end left wrote in
          let same : last ≡ end.state = run_fixed limits (opening limits bodies capacities) last end.state (joined pieces ++ left) consistent legal all.1 in
          short (subst (λ (s : State). end_of s.outcome ≢ Running) same (over last.outcome ended)) (all.2 ∙ counted)

module _ {T W S : Type 0} (contents : W → Option (List ℕ)) (of : S → Writing W) (limits : Limits) (bodies : ℕ) (capacities : List ℕ) (outlet : W)
    (within : AreLimits limits bodies capacities) (began sink : S) (first : of began ≡ at_first contents limits bodies capacities outlet within) (after : Writing W) where
  module _ (r : Report T) (report : IsPiecesReport (takes contents of) (refuses contents of) limits capacities bodies began r sink) where
    some_left : IsSome (of sink).failed → WritesLeft contents (of sink) r.history.list after → ⊥
    some_left some wrote = by r.history.list wrote where
      by : (left : List Entry) → WritesLeft contents (of sink) left after → ⊥
      by [] wrote = not_both (of sink).failed some wrote.0
      by (e ∷ left) wrote = not_both (of sink).failed some wrote.works.0

    -- where it went on to its end
    over_then : (o : Outcome) → r.outcome ≡ Some o → sink ≡ report.behind → IsNoRun contents (of sink) r after → ⊥
    over_then o is same (inl stays_out) =
        let none : (of sink).failed ≡ None =
        subst (λ (s : S). (of s).failed ≡ None) (sym same) (works contents of limits bodies capacities outlet within began report.behind first report.pieces report.taken) in
        steps contents of limits bodies capacities outlet within began report.behind first report.pieces report.taken r.history.list report.report.last report.report.legal after
        (subst (λ (s : S). Refuses (of s) r.history.list after) same stays_out.refused) stays_out.why (λ nothing. not_both (of sink).failed (stays_out.nothing nothing) none)
    over_then o is same (inr short) =
        whole contents of limits bodies capacities outlet within began report.behind first report.pieces report.taken r.history.list report.report.last report.report.legal _ report.report.calls after
        (subst IsSome (sym (report.report.outcome ∙ is)) refl) (subst (λ (s : S). WritesLeft contents (of s) r.history.list after) same short.left) short.short

    -- where it was stopped
    stopped_then : r.outcome ≡ None → Refuses (of report.behind) r.history.list (of sink) → IsNoRun contents (of sink) r after → ⊥
    stopped_then is refused (inl stays_out) =
        let stays : after ≡ of sink = stays_out.refused.again refused.fails.0 in
        steps contents of limits bodies capacities outlet within began report.behind first report.pieces report.taken r.history.list report.report.last report.report.legal (of sink) refused
        (subst (λ (w : Writing W). w.failed ≡ Some part_error.NoStep) stays stays_out.why) (some_full {h = r.history.list} within (report.left_full is))
    stopped_then is refused (inr short) = some_left refused.fails.0 short.left

    never : IsNoRun contents (of sink) r after → ⊥
    never = by r.outcome refl report.left_so where
      by : (o : Option Outcome) → r.outcome ≡ o → IsLeftSo (refuses contents of) (is_none o) report.behind r.history.list sink → IsNoRun contents (of sink) r after → ⊥
      by (Some o) is so = over_then o is so
      by None is so = stopped_then is so

  -- of a run that was begun nothing is said to be no run
  pub is_run : (boxes : ℕ) (said : Said) (ran : Result (Report T) (Unrun T)) → boxes ≡ bodies
      → IfOk ran (λ (r : Report T). IsPiecesReport (takes contents of) (refuses contents of) limits capacities boxes began r sink)
      → IfErr ran (λ (u : Unrun T). WhyUnrun (AreLimits limits boxes capacities) u.why) → IfErr ran (λ (u : Unrun T). said ≡ said_of_unrun u.why)
      → IfOk ran (λ (r : Report T). said ≡ NoRun → IsNoRun contents (of sink) r after) → said ≡ NoRun → ⊥
  is_run boxes said (Ok r) counted report why unrun none is =
      never r (subst (λ (n : ℕ). IsPiecesReport (takes contents of) (refuses contents of) limits capacities n began r sink) counted report) (none is)
  is_run boxes said (Err u) counted report why unrun none is =
      absurd (not_no_run u.why (two_ways (AreLimits limits boxes capacities) u.why why) (sym unrun ∙ is))
