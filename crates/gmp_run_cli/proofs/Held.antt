-- What is held against the script where that is asked for.
use Rattle.std.specs.Prelude.{IsSomeAnd, if◌then◌else◌, option_map}
use Rattle.std.specs.Borrow.{Bor}
use Rattle.std.proofs.Math.Logic.{∥∥₁_elim}
use Rattle.std.proofs.Common.{◌≡◌, ℕ, All, Bool, true, false, List, [], Option, None, Some, IfSome, Result, Ok, Err, IfOk, IfErr, ◌⊎◌, inl, inr, length, refl, sym, ap, ◌∙◌, subst}
use Rattle.gmp_base.specs.declared.refusal.Refusal.{Refusal}
use Rattle.gmp_base.specs.declared.refusal.Refusal.TheVariants as refusal
use Rattle.gmp_seq.specs.declared.call.Entry.{Entry}
use Rattle.gmp_seq.specs.declared.call.Limits.{Limits}
use Rattle.gmp_seq.specs.Fits.{AreLimits}
use Rattle.gmp_step_laws.specs.Refused.{HasNoMake}
use Rattle.gmp_step_laws.proofs.Makeless.{none_refused}
use Rattle.gmp_run.specs.Reports.{IsRunReport, WhyUnrun}
use Rattle.gmp_turn.specs.Whole.{IsWholeRun}
use Rattle.gmp_words.specs.declared.options.Settings.{Settings}
use Rattle.gmp_words.specs.Runs.{limits_of}
use Rattle.gmp_run_cli.proofs.Written.{two_ways}
use Rattle.gmp_run.specs.declared.ending.Report.{Report}
use Rattle.gmp_run.specs.declared.ending.Unrun.{Unrun}
use Rattle.gmp_script.specs.Script.{Commands}
use Rattle.gmp_words.specs.declared.said.Said.{Said}
use Rattle.gmp_words.specs.declared.said.Said.TheVariants.{BadLimits, NoRun, Nothing, OutOfMemory}
use Rattle.gmp_run_cli.specs.Told.{IsOfScript, IsOfScriptButMakes, said_of_unrun}

module _ {X : Type 0} (script : List X) (P : List X → Type 0) where
  the_same : (now : List X) (scripted : Bool) → Some now ≡ (if scripted then Some script else None) → now ≡ script
  the_same now true e = cc
  the_same now false e = cc

  is_lent : (lent : Option (Bor (List X))) → option_map (λ (s : Bor (List X)). s.now) lent ≡ Some script → IfSome lent (λ (s : Bor (List X)). P s.now) → P script
  is_lent None e p = absurd (let bad : None ≡ Some script = e in cc)
  is_lent (Some s) e p = subst P (the_same s.now true e) p

  -- and the other way, where it is asked for
  pub of_script : (scripted : Bool) (lent : Option (Bor (List X))) → option_map (λ (s : Bor (List X)). s.now) lent ≡ (if scripted then Some script else None) → scripted ≡ true
      → IfSome lent (λ (s : Bor (List X)). P s.now) → P script
  of_script true lent e on p = is_lent lent e p
  of_script false lent e on p = cc

-- a run that is told of is one of the script, where that is asked for
pub of_script_where : {T : Type 0} (scripted : Bool) (capacities : List ℕ) (script : List Commands) (lent : Option (Bor (List Commands))) (said : Said) (ran : Result (Report T) (Unrun T))
    → option_map (λ (s : Bor (List Commands)). s.now) lent ≡ (if scripted then Some script else None)
    → IfOk ran (λ (r : Report T). said ≡ Nothing → IfSome lent (λ (s : Bor (List Commands)). IsOfScript r.limits capacities s.now r.history.list)) → scripted ≡ true
    → IfOk ran (λ (r : Report T). said ≡ Nothing → IsOfScript r.limits capacities script r.history.list)
of_script_where scripted capacities script lent said (Ok r) are held on =
    λ nothing. of_script script (λ (b : List Commands). IsOfScript r.limits capacities b r.history.list) scripted lent are on (held nothing)
of_script_where scripted capacities script lent said (Err u) are held on = tt

is_asked : {X : Type 0} (script : List X) (P : Bor (List X) → Type 0) (scripted : Bool) (lent : Option (Bor (List X))) → option_map (λ (s : Bor (List X)). s.now) lent ≡ (if scripted then Some script else None)
    → IsSomeAnd lent P → scripted ≡ true
is_asked script P true lent e some = refl
is_asked script P false None e some = absurd some
is_asked script P false (Some s) e some = cc

pub not_no_run : (why : Refusal) → (why ≡ refusal.BadLimits) ⊎ (why ≡ refusal.OutOfMemory) → said_of_unrun why ≡ NoRun → ⊥
not_no_run why (inl e) n = let told : BadLimits ≡ NoRun = ap said_of_unrun (sym e) ∙ n in cc
not_no_run why (inr e) n = let told : OutOfMemory ≡ NoRun = ap said_of_unrun (sym e) ∙ n in cc

-- What is held against a run isn't so of the script
not_lent : {X : Type 0} (script : List X) (P : List X → Type 0) (scripted : Bool) (lent : Option (Bor (List X))) → option_map (λ (s : Bor (List X)). s.now) lent ≡ (if scripted then Some script else None)
    → IsSomeAnd lent (λ (s : Bor (List X)). P s.now → ⊥) → P script → ⊥
not_lent script P scripted None e none p = absurd none
not_lent script P scripted (Some s) e none p = none (subst P (sym (the_same script P s.now scripted e)) p)

-- a run of a script without makes is one of the script
makeless : (limits : Limits) (capacities : List ℕ) (script : List Commands) (h : List Entry) → AreLimits limits (length script) capacities → All HasNoMake script → IsOfScriptButMakes limits capacities script h → (IsOfScript limits capacities script h → ⊥) → ⊥
makeless limits capacities script h within none said not_so =
    ∥∥₁_elim said (λ a b. absurd a) (λ run. not_so (record { within = within; last = run.0; after = run.1; run = none_refused limits capacities script h run.0 run.1 none run.2 }))

-- it is said of none without makes
pub made_where : {T : Type 0} (s : Settings) (capacities : List ℕ) (boxes : ℕ) (script : List Commands) (lent : Option (Bor (List Commands))) (said : Said) (ran : Result (Report T) (Unrun T)) → boxes ≡ length script
    → option_map (λ (b : Bor (List Commands)). b.now) lent ≡ (if s.scripted then Some script else None)
    → IfOk ran (IsRunReport (limits_of s) capacities boxes []) → IfErr ran (λ (u : Unrun T). WhyUnrun (IsWholeRun (limits_of s) boxes capacities) u.why)
    → IfErr ran (λ (u : Unrun T). said ≡ said_of_unrun u.why)
    → IfOk ran (λ (r : Report T). said ≡ NoRun → IsSomeAnd lent (λ (b : Bor (List Commands)). IsOfScript r.limits capacities b.now r.history.list → ⊥))
    → IfOk ran (λ (r : Report T). IsOfScriptButMakes (limits_of s) capacities script r.history.list) → said ≡ NoRun → ¬ (All HasNoMake script)
made_where s capacities boxes script lent said (Ok r) counted are report why unrun none by_script is = λ makes_none.
    makeless (limits_of s) capacities script r.history.list (subst (λ (n : ℕ). AreLimits (limits_of s) n capacities) counted report.within) makes_none by_script
    (λ held. not_lent script (λ (b : List Commands). IsOfScript r.limits capacities b r.history.list) s.scripted lent are (none is)
    (subst (λ (l : Limits). IsOfScript l capacities script r.history.list) (sym report.opened) held))
made_where s capacities boxes script lent said (Err u) counted are report why unrun none by_script is =
    absurd (not_no_run u.why (two_ways (IsWholeRun (limits_of s) boxes capacities) u.why why) (sym unrun ∙ is))

-- that it is none of the script is said where that is asked, of a run within its limits
pub none_where : {T : Type 0} (s : Settings) (capacities : List ℕ) (boxes : ℕ) (script : List Commands) (lent : Option (Bor (List Commands))) (said : Said) (ran : Result (Report T) (Unrun T)) → boxes ≡ length script
    → option_map (λ (b : Bor (List Commands)). b.now) lent ≡ (if s.scripted then Some script else None)
    → IfOk ran (IsRunReport (limits_of s) capacities boxes []) → IfErr ran (λ (u : Unrun T). WhyUnrun (IsWholeRun (limits_of s) boxes capacities) u.why)
    → IfErr ran (λ (u : Unrun T). said ≡ said_of_unrun u.why)
    → IfOk ran (λ (r : Report T). said ≡ NoRun → IsSomeAnd lent (λ (b : Bor (List Commands)). IsOfScript r.limits capacities b.now r.history.list → ⊥)) → said ≡ NoRun
    → (s.scripted ≡ true) × AreLimits (limits_of s) (length script) capacities
none_where s capacities boxes script lent said (Ok r) counted are report why unrun none is =
    (is_asked script (λ (b : Bor (List Commands)). IsOfScript r.limits capacities b.now r.history.list → ⊥) s.scripted lent are (none is), subst (λ (n : ℕ). AreLimits (limits_of s) n capacities) counted report.within)
none_where s capacities boxes script lent said (Err u) counted are report why unrun none is =
    absurd (not_no_run u.why (two_ways (IsWholeRun (limits_of s) boxes capacities) u.why why) (sym unrun ∙ is))
