-- What is written of a run that was reported, and what is said of one that was not begun.
use Rattle.std.proofs.Common.{◌≡◌, ◌≢◌, ◌⊎◌, ◌<◌, ℕ, true, List, [], Option, None, Some, IsSome, Result, Ok, Err, IfOk, IfErr, inl, inr, length, sym, ap, ◌∙◌, refl, subst, arith}
use Rattle.std.proofs.lemmas.Bool.{false≢true}
use Rattle.gmp_base.specs.declared.number.MNo.{MNo}
use Rattle.gmp_base.specs.declared.refusal.Refusal.{Refusal}
use Rattle.gmp_base.specs.declared.refusal.Refusal.TheVariants as refusal
use Rattle.gmp_seq.specs.declared.call.Limits.{Limits}
use Rattle.gmp_seq.specs.declared.call.Outcome.{Outcome}
use Rattle.gmp_seq.specs.declared.call.Outcome.TheVariants as outcome
use Rattle.gmp_seq.specs.Fits.{AreLimits}
use Rattle.gmp_script.specs.Script.{Commands}
use Rattle.gmp_trace.specs.declared.trace.End.TheVariants.{Running}
use Rattle.gmp_trace.specs.HasText.{HasText}
use Rattle.gmp_trace.specs.Text.{end_of}
use Rattle.gmp_trace.proofs.Numbered.{legal_text}
use Rattle.gmp_run.specs.declared.ending.Report.{Report}
use Rattle.gmp_run.specs.declared.ending.Unrun.{Unrun}
use Rattle.gmp_turn.specs.Whole.{IsWholeRun}
use Rattle.gmp_run.specs.Reports.{IsRunReport, WhyUnrun}
use Rattle.gmp_run.proofs.Auditing.{agrees}
use Rattle.gmp_words.proofs.Whole.{kept_whole}
use Rattle.gmp_words.specs.declared.options.Settings.{Settings}
use Rattle.gmp_words.specs.declared.said.Said.{Said}
use Rattle.gmp_words.specs.declared.said.Said.TheVariants.{BadLimits, Mismatch, Nothing, OutOfMemory, OutputFailed}
use Rattle.gmp_words.specs.Runs.{IsTraceOf, limits_of, status_of}
use Rattle.gmp_run_cli.specs.Runs.{WritesTraceOrSummary}
use Rattle.gmp_run_cli.specs.Told.{IsLeast, IsOfScript, IsOfScriptButMakes, TellsEnd, said_of_unrun, trace_of}

-- a run that has an outcome has ended
pub over : (o : Option Outcome) → IsSome o → end_of o ≢ Running
over (Some outcome.MainEnded) some = λ e. cc
over (Some outcome.AllAsleep) some = λ e. cc
over (Some outcome.BookFull) some = λ e. cc
over None some = absurd (false≢true some)

-- there are two reasons why a run is not begun
pub two_ways : (may : Type 0) (why : Refusal) → WhyUnrun may why → (why ≡ refusal.BadLimits) ⊎ (why ≡ refusal.OutOfMemory)
two_ways may refusal.BadLimits h = inl refl
two_ways may refusal.OutOfMemory h = inr refl
two_ways may refusal.Over h = absurd h
two_ways may refusal.WrongRun h = absurd h
two_ways may (refusal.OutOfTurn n) h = absurd h
two_ways may (refusal.Behind n k) h = absurd h
two_ways may refusal.NotOutstanding h = absurd h
two_ways may refusal.NoProcessor h = absurd h
two_ways may refusal.Busy h = absurd h
two_ways may refusal.NotHeld h = absurd h
two_ways may refusal.NotOver h = absurd h
two_ways may refusal.Full h = absurd h

module _ {T : Type 0} (s : Settings) (capacities : List ℕ) (script : List Commands) (r : Report T) (report : IsRunReport (limits_of s) capacities (length script) [] r) where
  is_trace : IsTraceOf (limits_of s) capacities (trace_of capacities r)
  is_trace = record {
    opened = report.opened;
    begun = refl;
    within = rw (report.opened, report.stock) report.within;
    last = report.last;
    legal = rw (report.opened, report.stock) report.legal;
    ended = ap end_of (sym report.outcome);
  }

  has_text : HasText (trace_of capacities r)
  unfolding is_trace
  has_text = legal_text (trace_of capacities r) capacities report.last refl is_trace.within (kept_whole r.limits s report.opened) is_trace.legal report.fits

  writes : IsSome r.outcome → IsOfScriptButMakes (limits_of s) capacities script r.history.list → (s.scripted ≡ true → IsOfScript r.limits capacities script r.history.list) → (status : ℕ) (old new : Option (List ℕ)) → TellsEnd s.trace capacities r status old new
      → WritesTraceOrSummary s capacities script status old new
  writes some said of_script status old new t = record {
    trace = trace_of capacities r;
    legal = is_trace;
    stock = report.stock;
    said = said;
    scripted = λ on. subst (λ (l : Limits). IsOfScript l capacities script r.history.list) report.opened (of_script on);
    over = over r.outcome some;
    has_text = has_text;
    written = t.1.written;
    told = t.2 ∙ ap status_of t.1.ended;
  }

pub not_nothing : (why : Refusal) → (why ≡ refusal.BadLimits) ⊎ (why ≡ refusal.OutOfMemory) → said_of_unrun why ≡ Nothing → ⊥
not_nothing why (inl e) n = let told : BadLimits ≡ Nothing = ap said_of_unrun (sym e) ∙ n in cc
not_nothing why (inr e) n = let told : OutOfMemory ≡ Nothing = ap said_of_unrun (sym e) ∙ n in cc

pub not_within : (may : Type 0) (why : Refusal) → WhyUnrun may why → (why ≡ refusal.BadLimits) ⊎ (why ≡ refusal.OutOfMemory) → said_of_unrun why ≡ BadLimits → may → ⊥
not_within may why h (inl e) n are = subst (WhyUnrun may) e h are
not_within may why h (inr e) n are = let told : OutOfMemory ≡ BadLimits = ap said_of_unrun (sym e) ∙ n in cc

not_failed : (why : Refusal) → (why ≡ refusal.BadLimits) ⊎ (why ≡ refusal.OutOfMemory) → said_of_unrun why ≡ OutputFailed → ⊥
not_failed why (inl e) n = let told : BadLimits ≡ OutputFailed = ap said_of_unrun (sym e) ∙ n in cc
not_failed why (inr e) n = let told : OutOfMemory ≡ OutputFailed = ap said_of_unrun (sym e) ∙ n in cc

-- where the output failed, the run was begun, within the limits
pub tried_last : {T : Type 0} (s : Settings) (capacities : List ℕ) (boxes bodies : ℕ) (said : Said) (ran : Result (Report T) (Unrun T)) → boxes ≡ bodies
    → IfOk ran (IsRunReport (limits_of s) capacities boxes []) → IfErr ran (λ (u : Unrun T). WhyUnrun (IsWholeRun (limits_of s) boxes capacities) u.why)
    → IfErr ran (λ (u : Unrun T). said ≡ said_of_unrun u.why) → said ≡ OutputFailed → AreLimits (limits_of s) bodies capacities
tried_last s capacities boxes bodies said (Ok r) counted report why unrun failed = subst (λ (n : ℕ). AreLimits (limits_of s) n capacities) counted report.within
tried_last s capacities boxes bodies said (Err u) counted report why unrun failed =
    absurd (not_failed u.why (two_ways (IsWholeRun (limits_of s) boxes capacities) u.why why) (sym unrun ∙ failed))

pub wrote : {T : Type 0} (s : Settings) (capacities : List ℕ) (boxes : ℕ) (script : List Commands) (said : Said) (ran : Result (Report T) (Unrun T)) → boxes ≡ length script
    → IfOk ran (IsRunReport (limits_of s) capacities boxes []) → IfErr ran (λ (u : Unrun T). WhyUnrun (IsWholeRun (limits_of s) boxes capacities) u.why)
    → IfErr ran (λ (u : Unrun T). said ≡ said_of_unrun u.why) → IfOk ran (λ (r : Report T). IsSome r.outcome)
    → IfOk ran (λ (r : Report T). IsOfScriptButMakes (limits_of s) capacities script r.history.list)
    → (s.scripted ≡ true → IfOk ran (λ (r : Report T). said ≡ Nothing → IsOfScript r.limits capacities script r.history.list))
    → (status : ℕ) (old new : Option (List ℕ)) → IfOk ran (λ (r : Report T). said ≡ Nothing → TellsEnd s.trace capacities r status old new) → said ≡ Nothing
    → WritesTraceOrSummary s capacities script status old new
wrote s capacities boxes script said (Ok r) counted report why unrun some by_script of_script status old new printed nothing =
    writes s capacities script r (subst (λ (n : ℕ). IsRunReport (limits_of s) capacities n [] r) counted report) some by_script (λ on. of_script on nothing) status old new (printed nothing)
wrote s capacities boxes script said (Err u) counted report why unrun some by_script of_script status old new printed nothing =
    absurd (not_nothing u.why (two_ways (IsWholeRun (limits_of s) boxes capacities) u.why why) (sym unrun ∙ nothing))

pub out : {T : Type 0} (s : Settings) (capacities : List ℕ) (boxes bodies : ℕ) (said : Said) (ran : Result (Report T) (Unrun T)) → boxes ≡ bodies
    → IfOk ran (IsRunReport (limits_of s) capacities boxes []) → IfErr ran (λ (u : Unrun T). WhyUnrun (IsWholeRun (limits_of s) boxes capacities) u.why)
    → IfErr ran (λ (u : Unrun T). said ≡ said_of_unrun u.why)
    → IfOk ran (λ (r : Report T). said ≡ BadLimits → 65535 < length r.bodies.items) → said ≡ BadLimits → AreLimits (limits_of s) bodies capacities → ⊥
out s capacities boxes bodies said (Ok r) counted report why unrun many bad are =
    let stock = report.stock in
    let few = report.within.stock in
    let more = many bad in
    omega (arith, stock, few, more)
out s capacities boxes bodies said (Err u) counted report why unrun many bad are =
    not_within (IsWholeRun (limits_of s) boxes capacities) u.why why (two_ways (IsWholeRun (limits_of s) boxes capacities) u.why why) (sym unrun ∙ bad)
    (subst (λ (n : ℕ). AreLimits (limits_of s) n capacities) (sym counted) are, refl)

not_mismatch : (why : Refusal) (m : MNo) → (why ≡ refusal.BadLimits) ⊎ (why ≡ refusal.OutOfMemory) → said_of_unrun why ≡ Mismatch m → ⊥
not_mismatch why m (inl e) n = let told : BadLimits ≡ Mismatch m = ap said_of_unrun (sym e) ∙ n in cc
not_mismatch why m (inr e) n = let told : OutOfMemory ≡ Mismatch m = ap said_of_unrun (sym e) ∙ n in cc

-- the audit finds nothing wrong with the report of a run
pub agreed : {T : Type 0} (s : Settings) (capacities : List ℕ) (boxes : ℕ) (said : Said) (ran : Result (Report T) (Unrun T))
    → IfOk ran (IsRunReport (limits_of s) capacities boxes []) → IfErr ran (λ (u : Unrun T). WhyUnrun (IsWholeRun (limits_of s) boxes capacities) u.why)
    → IfErr ran (λ (u : Unrun T). said ≡ said_of_unrun u.why) → IfOk ran (λ (r : Report T). (m : MNo) → said ≡ Mismatch m → IsLeast r m) → (m : MNo) → said ≢ Mismatch m
agreed s capacities boxes said (Ok r) report why unrun least m is =
    let found = least m is in
    found.1.disagrees (agrees (limits_of s) boxes capacities r.history.list report.last r.logs.items report.legal report.logs report.counts found.0.m.0)
agreed s capacities boxes said (Err u) report why unrun least m is = not_mismatch u.why m (two_ways (IsWholeRun (limits_of s) boxes capacities) u.why why) (sym unrun ∙ is)
