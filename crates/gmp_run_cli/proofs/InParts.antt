-- What is written of a run in segments.
use Rattle.std.specs.Prelude.{is_none}
use Rattle.std.proofs.Common.{◌≡◌, ◌≢◌, ◌++◌, ◌∙◌, ℕ, List, Option, None, Result, Ok, Err, IfOk, IfErr, true, refl, sym, ap, subst, arith, length}
use Rattle.std.proofs.lemmas.Bool.{false≢true}
use Rattle.std.specs.Io.KnownBytes.{Appends}
use Rattle.gmp_seq.specs.declared.call.Limits.{Limits}
use Rattle.gmp_seq.specs.Fits.{AreLimits}
use Rattle.gmp_seq.specs.Run.{IsLegal}
use Rattle.gmp_seq.specs.State.{opening}
use Rattle.gmp_trace.specs.declared.trace.End.{End}
use Rattle.gmp_trace.specs.declared.trace.End.TheVariants.{Running}
use Rattle.gmp_trace.specs.Summary.{entries_line, outcome_line}
use Rattle.gmp_trace.specs.Text.{Content, end_of}
use Rattle.gmp_check.specs.Checked.{start_of}
use Rattle.gmp_parts.proofs.Written.{legal_written}
use Rattle.gmp_parts.specs.Parts.{Parts, count, entries_of, first, parts_line, whole}
use Rattle.gmp_parts.specs.Parts.Parts.{NoPart, Then}
use Rattle.gmp_parts.specs.Writing.{HasWritten, Writing}
use Rattle.gmp_pieces.proofs.Taken.{refuses, run_written, takes}
use Rattle.gmp_pieces.specs.Pieces.{pieces_of}
use Rattle.gmp_script.specs.Script.{Commands}
use Rattle.gmp_run.specs.declared.ending.Report.{Report}
use Rattle.gmp_run.specs.declared.ending.Unrun.{Unrun}
use Rattle.gmp_run.specs.Desks.{IsCut, joined, with_left}
use Rattle.gmp_run.specs.Reports.{IsPiecesReport, WhyUnrun}
use Rattle.gmp_words.specs.declared.said.Said.{Said}
use Rattle.gmp_words.specs.declared.said.Said.TheVariants.{BadLimits, Nothing}
use Rattle.gmp_words.specs.Runs.{IsTraceOf, status_of}
use Rattle.gmp_run_cli.proofs.Written.{not_nothing, not_within, two_ways}
use Rattle.gmp_run_cli.specs.Segments.{TellsParts, WritesParts, is_of_end_in_parts, opened}
use Rattle.gmp_run_cli.specs.Told.{IsOfScriptButMakes, said_of_unrun}

-- three lines in a row
abbrev lines_of : End → ℕ → ℕ → List ℕ
lines_of end entries parts = outcome_line end ++ entries_line entries ++ parts_line parts

module _ {W : Type 0} (contents : W → Option (List ℕ)) (limits : Limits) (bodies : ℕ) (capacities : List ℕ) (outlet : W) (within : AreLimits limits bodies capacities) where
  -- the writing as it begins
  abbrev pub at_first : Writing W
  at_first = record { limits = limits; bodies = bodies; state = opening limits bodies capacities; entries = 0; parts = 0; failed = None; out = outlet }

  module _ (now : Writing W) (parts : Parts) (last : Content) (has : HasWritten contents at_first now (Then parts last)) where
    legal : IsLegal (first parts last).limits (first parts last).bodies capacities (entries_of parts ++ last.entries) now.state
    legal = rw (has.begins.0, has.begins.1, ← has.same.0, ← has.same.1) (legal_written contents at_first now (Then parts last) capacities refl has)

    is_trace : IsTraceOf limits capacities (opened capacities parts last)
    unfolding legal
    is_trace = record {
      opened = has.begins.0;
      begun = refl;
      within = rw (has.begins.0, has.begins.1) within;
      last = now.state;
      legal = legal;
      ended = has.stops.3;
    }

    begun : start_of (whole parts last) ≡ start_of (opened capacities parts last)
    begun = rw (has.begins.2, has.begins.0, has.begins.1) refl

  pub wrote_parts : (script : List Commands) → bodies ≡ length script → (now : Writing W) (parts : Parts) (end : End) → HasWritten contents at_first now parts → IsCut limits (pieces_of parts)
      → IsOfScriptButMakes limits capacities script (entries_of parts) → end ≡ end_of now.state.outcome → end ≢ Running
      → (old new : Option (List ℕ)) → Appends old new (lines_of end now.entries now.parts) → WritesParts limits capacities script (status_of end) (contents outlet) (contents now.out) old new
  wrote_parts script all now NoPart end has sized by_script ended over old new told = absurd (over (ended ∙ ap (λ s. end_of s.outcome) has.stops))
  wrote_parts script all now (Then parts last) end has sized by_script ended over old new told =
      let is : last.end ≡ end = has.stops.3 ∙ sym ended in
      let entries : now.entries ≡ length (entries_of (Then parts last)) = omega (arith, has.entries) in
      let number : now.parts ≡ count (Then parts last) = omega (arith, has.number) in
      record {
        parts = parts;
        last = last;
        in_order = has.in_order;
        sized = sized;
        begun = begun now parts last has;
        legal = is_trace now parts last has;
        stock = has.begins.1 ∙ all;
        said = by_script;
        over = rw is over;
        sent = has.appended;
        written =
            subst (λ (n : ℕ). Appends old new (lines_of last.end n (count (Then parts last)))) entries
            (subst (λ (n : ℕ). Appends old new (lines_of last.end now.entries n)) number
            (subst (λ (e : End). Appends old new (lines_of e now.entries now.parts)) (sym is) told));
        told = ap status_of (sym is);
      }

-- Of a run that may not have been begun: `of` is the writer of parts that lies in a sink.

module _ {T W S : Type 0} (contents : W → Option (List ℕ)) (of : S → Writing W) (limits : Limits) (bodies : ℕ) (capacities : List ℕ) (outlet : W)
    (within : AreLimits limits bodies capacities) (began sink : S) (first : of began ≡ at_first contents limits bodies capacities outlet within) where
  pub wrote_run : (script : List Commands) → bodies ≡ length script → (said : Said) (status boxes : ℕ) (after : Writing W) (old new : Option (List ℕ)) (ran : Result (Report T) (Unrun T)) → boxes ≡ bodies
      → IfOk ran (λ (r : Report T). (p : IsPiecesReport (takes contents of) (refuses contents of) limits capacities boxes began r sink) × IsOfScriptButMakes limits capacities script (joined p.pieces ++ r.history.list))
      → IfErr ran (λ (u : Unrun T). WhyUnrun (AreLimits limits boxes capacities) u.why) → IfErr ran (λ (u : Unrun T). said ≡ said_of_unrun u.why)
      → IfOk ran (λ (r : Report T). said ≡ Nothing → (end : End) × TellsParts contents (of sink) r after end old new × status ≡ status_of end) → said ≡ Nothing
      → WritesParts limits capacities script status (contents outlet) (contents after.out) old new
  wrote_run script all said status boxes after old new (Ok r) counted (report, by_script) why unrun told nothing =
      by_end (told nothing)
      (run_written contents of began report.behind sink after report.pieces r.history.list (is_none r.outcome) report.taken report.left_so (told nothing).1.left) where
        by_end : (end : End) × TellsParts contents (of sink) r after end old new × status ≡ status_of end
            → (parts : Parts) × (pieces_of parts ≡ with_left report.pieces r.history.list) × (entries_of parts ≡ joined report.pieces ++ r.history.list) × HasWritten contents (of began) after parts
            → WritesParts limits capacities script status (contents outlet) (contents after.out) old new
        by_end (end, tells, is) (parts, are, entries, has) =
            let has_first : HasWritten contents (at_first contents limits bodies capacities outlet within) after parts = subst (λ (w : Writing W). HasWritten contents w after parts) first has in
            let sized : IsCut limits (pieces_of parts) = record { full = report.pieces; left = r.history.list; are = are; sized = report.sized; few = report.few } in
            subst (λ (n : ℕ). WritesParts limits capacities script n (contents outlet) (contents after.out) old new) (sym is)
            (wrote_parts contents limits bodies capacities outlet within script all after parts end has_first sized (subst (IsOfScriptButMakes limits capacities script) (sym entries) by_script) tells.ended tells.over old new tells.told)
  wrote_run script all said status boxes after old new (Err u) counted report why unrun told nothing =
      absurd (not_nothing u.why (two_ways (AreLimits limits boxes capacities) u.why why) (sym unrun ∙ nothing))

pub begun_within : {T : Type 0} (limits : Limits) (capacities : List ℕ) (boxes bodies : ℕ) (said : Said) (ran : Result (Report T) (Unrun T)) → boxes ≡ bodies
    → AreLimits limits bodies capacities → IfErr ran (λ (u : Unrun T). WhyUnrun (AreLimits limits boxes capacities) u.why)
    → IfErr ran (λ (u : Unrun T). said ≡ said_of_unrun u.why) → IfOk ran (λ (r : Report T). is_of_end_in_parts said ≡ true) → said ≡ BadLimits → ⊥
begun_within limits capacities boxes bodies said (Ok r) counted within why unrun kinds bad =
    false≢true (subst (λ (s : Said). is_of_end_in_parts s ≡ true) bad kinds)
begun_within limits capacities boxes bodies said (Err u) counted within why unrun kinds bad =
    not_within (AreLimits limits boxes capacities) u.why why (two_ways (AreLimits limits boxes capacities) u.why why) (sym unrun ∙ bad)
    (subst (λ (n : ℕ). AreLimits limits n capacities) (sym counted) within)
