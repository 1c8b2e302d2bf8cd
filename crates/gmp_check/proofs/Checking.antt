-- Traces that are right, and those that are not.
use Rattle.std.proofs.Common.{◌≡◌, ◌≢◌, ℕ, zero, suc, ◌<◌, Option, Some, List, [], ◌∷◌, length, take, refl, sym, ap, subst, ◌∙◌, arith}
use Rattle.std.proofs.lemmas.List.{take-take}
use Rattle.std.proofs.lemmas.Option.{slice_get_within}
use Rattle.std.specs.List.{slice_get}
use Rattle.gmp_seq.specs.declared.call.Entry.{Entry}
use Rattle.gmp_seq.specs.declared.call.Limits.{Limits}
use Rattle.gmp_seq.specs.declared.call.Outcome.{Outcome}
use Rattle.gmp_seq.specs.Fits.{AreLimits}
use Rattle.gmp_seq.specs.Run.{IsStep, Run}
use Rattle.gmp_seq.specs.State.{State}
use Rattle.gmp_trace.specs.declared.bad.Bad.{Bad}
use Rattle.gmp_trace.specs.declared.bad.Why.{Why}
use Rattle.gmp_trace.specs.declared.bad.Why.TheVariants as why
use Rattle.gmp_trace.specs.HasText.{lines_before}
use Rattle.gmp_trace.specs.Text.{Begins, Content, end_of}
use Rattle.gmp_trace.specs.Text.Begins.{AtOpening, AtState}
use Rattle.gmp_check.proofs.Keeping.{opening_consistent, run_fixed}
use Rattle.gmp_check.specs.Checked.{AreBadCapacities, IsBadAt, IsBadBeginning, IsBadPartAt, IsBadStart, IsFirstBad, IsNoStepAt, IsOtherEndAt, IsRight, IsRightPart, MayStart, Part, line_of, part_of, start_at}
use Rattle.gmp_check.specs.Consistent.{IsConsistentUnder}
use Rattle.gmp_check.specs.Replayed.{EndsWith, IsNoStep}

-- an entry that is no step is one of the entries
pub stops_within : (limits : Limits) (start : State) (h : List Entry) (n : ℕ) → IsNoStep limits start h n → n < length h
stops_within limits start h n (s, run, e, at, none) = slice_get_within h n e at

-- Entries from any state on

-- a run goes through the state before each of its entries
pub split : (limits : Limits) (a c : State) (h : List Entry) (n : ℕ) (e : Entry) → Run limits a h c → slice_get h n ≡ Some e
    → (mid : State) × Run limits a (take n h) mid × ((next : State) × IsStep limits e mid next)
split limits a c [] n e run at = absurd cc
split limits a c (x ∷ h) zero e (next, step, rest) at = let same : x ≡ e = cc in (a, refl, (next, subst (λ (y : Entry). IsStep limits y a next) same step))
split limits a c (x ∷ h) (suc n) e (next, step, rest) at = let later = split limits next c h n e rest at in (later.0, (next, step, later.1), later.2)

module _ (x : Part) (is : IsConsistentUnder x.limits x.start) where
  same_end : (h : List Entry) (a b : State) → Run x.limits x.start h a → Run x.limits x.start h b → a ≡ b
  same_end h a b one two = run_fixed x.limits x.start a b h is one two

  has_steps : (outcome : Option Outcome) (before line : ℕ) → EndsWith x.limits x.start x.entries outcome → IsNoStepAt x before line → ⊥
  has_steps outcome before line ends wrong = meets ends wrong.no_step where
    meets : EndsWith x.limits x.start x.entries outcome → IsNoStep x.limits x.start x.entries wrong.n → ⊥
    meets (t, whole, told) (s, run, e, at, none) =
        let parts = split x.limits x.start t x.entries wrong.n e whole at in
        let same : parts.0 ≡ s = same_end (take wrong.n x.entries) parts.0 s parts.1 run in
        none parts.2.0 (subst (λ (y : State). IsStep x.limits e y parts.2.0) same parts.2.1)

  has_its_end : (outcome : Option Outcome) (before line : ℕ) → IsRightPart x outcome → IsOtherEndAt x before line → ⊥
  has_its_end outcome before line right wrong = meets right.ends wrong.ends where
    meets : EndsWith x.limits x.start x.entries outcome → EndsWith x.limits x.start x.entries wrong.outcome → ⊥
    meets (t, whole, told) (s, run, told_too) =
        let same : t ≡ s = same_end x.entries t s whole run in
        let outcomes : outcome ≡ wrong.outcome = sym told ∙ ap (λ (y : State). y.outcome) same ∙ told_too in
        wrong.other (right.told ∙ ap end_of outcomes)

  -- nothing is wrong with right entries but want of memory
  pub only_memory_from : (outcome : Option Outcome) (before line : ℕ) (what : Why) → IsRightPart x outcome → IsBadPartAt x before line what → what ≡ why.OutOfMemory
  only_memory_from outcome before line why.Step right wrong = absurd (has_steps outcome before line right.ends wrong)
  only_memory_from outcome before line why.Outcome right wrong = absurd (has_its_end outcome before line right wrong)
  only_memory_from outcome before line why.OutOfMemory right wrong = refl
  only_memory_from outcome before line _ right wrong = absurd wrong

same_number : (m n : ℕ) → (m < n → ⊥) → (n < m → ⊥) → m ≡ n
same_number m n one two = omega (arith, one, two)

get_within : (h : List Entry) (m n : ℕ) (e : Entry) → m < n → slice_get h m ≡ Some e → slice_get (take n h) m ≡ Some e
get_within [] m n e less at = absurd cc
get_within (x ∷ h) m zero e less at = absurd (omega arith)
get_within (x ∷ h) zero (suc n) e less at = at
get_within (x ∷ h) (suc m) (suc n) e less at = get_within h m n e (omega arith) at

module _ (x : Part) (is : IsConsistentUnder x.limits x.start) where
  no_step_before : (m n : ℕ) → m < n → IsNoStep x.limits x.start x.entries m → IsNoStep x.limits x.start x.entries n → ⊥
  no_step_before m n less (s, run, e, at, none) (t, longer, f, at_too, none_too) =
      let parts = split x.limits x.start t (take n x.entries) m e longer (get_within x.entries m n e less at) in
      let begun : Run x.limits x.start (take m x.entries) parts.0 = subst (λ (h : List Entry). Run x.limits x.start h parts.0) (take-take m n x.entries (omega (arith, less))) parts.1 in
      let same : parts.0 ≡ s = same_end x is (take m x.entries) parts.0 s begun run in
      none parts.2.0 (subst (λ (y : State). IsStep x.limits e y parts.2.0) same parts.2.1)

  same_line : (before l m : ℕ) → IsNoStepAt x before l → IsNoStepAt x before m → l ≡ m
  same_line before l m a b =
      let same : a.n ≡ b.n = same_number a.n b.n
      (λ less. no_step_before a.n b.n less a.no_step b.no_step)
      (λ less. no_step_before b.n a.n less b.no_step a.no_step) in
      a.there ∙ ap (line_of before) same ∙ sym b.there

  -- one thing is wrong with entries, at one line
  pub one_fault_from : (before l m : ℕ) (v w : Why) → IsBadPartAt x before l v → IsBadPartAt x before m w → v ≢ why.OutOfMemory → w ≢ why.OutOfMemory → (l ≡ m) × (v ≡ w)
  one_fault_from before l m why.OutOfMemory w a b p q = absurd (p refl)
  one_fault_from before l m v why.OutOfMemory a b p q = absurd (q refl)
  one_fault_from before l m why.Step why.Step a b p q = (same_line before l m a b, refl)
  one_fault_from before l m why.Step why.Outcome a b p q = absurd (has_steps x is b.outcome before l b.ends a)
  one_fault_from before l m why.Outcome why.Step a b p q = absurd (has_steps x is a.outcome before m a.ends b)
  one_fault_from before l m why.Outcome why.Outcome a b p q = (a.there ∙ sym b.there, refl)
  one_fault_from before l m why.Step _ a b p q = absurd b
  one_fault_from before l m why.Outcome _ a b p q = absurd b
  one_fault_from before l m _ w a b p q = absurd a

-- A trace

no_capacities : (limits : Limits) (bodies : ℕ) (capacities : List ℕ) → AreLimits limits bodies capacities → AreLimits limits bodies []
no_capacities limits bodies capacities range =
    record {
      procs = range.procs;
      machines = range.machines;
      stock = range.stock;
      channels = (omega arith, range.channels.1);
      buffers = λ k d small. absurd (omega arith);
      entries = range.entries;
      room = range.room;
    }

-- the limits are in range
pub in_range : (limits : Limits) (bodies : ℕ) (b : Begins) → MayStart limits bodies b → AreLimits limits bodies []
in_range limits bodies (AtOpening capacities) may = no_capacities limits bodies capacities may
in_range limits bodies (AtState s) may = may.0

pub starts_consistent : (limits : Limits) (bodies : ℕ) (b : Begins) → MayStart limits bodies b → IsConsistentUnder limits (start_at limits bodies b)
starts_consistent limits bodies (AtOpening capacities) may = opening_consistent limits bodies capacities may
starts_consistent limits bodies (AtState s) may = record { limit = may.0.entries.1; together = may.1.together }

opens : (x : Content) → MayStart x.limits x.bodies x.begins → IsConsistentUnder (part_of x).limits (part_of x).start
opens x range = starts_consistent x.limits x.bodies x.begins range

no_bad_capacities : (limits : Limits) (bodies : ℕ) (b : Begins) (line : ℕ) → MayStart limits bodies b → AreBadCapacities limits bodies b line → ⊥
no_bad_capacities limits bodies (AtOpening capacities) line may bad = bad.2 may
no_bad_capacities limits bodies (AtState s) line may bad = bad

no_bad_start : (limits : Limits) (bodies : ℕ) (b : Begins) (line : ℕ) → MayStart limits bodies b → IsBadStart limits bodies b line → ⊥
no_bad_start limits bodies (AtOpening capacities) line may bad = bad
no_bad_start limits bodies (AtState s) line may bad = bad.2 may.1

pub only_memory : (x : Content) (outcome : Option Outcome) (line : ℕ) (what : Why) → IsRight x outcome → IsBadAt x line what → what ≡ why.OutOfMemory
only_memory x outcome line why.Limits right wrong = absurd (wrong.1 (in_range x.limits x.bodies x.begins right.range))
only_memory x outcome line why.Caps right wrong = absurd (no_bad_capacities x.limits x.bodies x.begins line right.range wrong)
only_memory x outcome line why.Start right wrong = absurd (no_bad_start x.limits x.bodies x.begins line right.range wrong)
only_memory x outcome line why.Step right wrong = only_memory_from (part_of x) (opens x right.range) outcome (lines_before x.begins) line why.Step right.run wrong.1
only_memory x outcome line why.Outcome right wrong = only_memory_from (part_of x) (opens x right.range) outcome (lines_before x.begins) line why.Outcome right.run wrong.1
only_memory x outcome line why.OutOfMemory right wrong = refl
only_memory x outcome line _ right wrong = absurd wrong.1

-- what is wrong with the beginning is wrong with the trace
pub beginning_bad : (x : Content) (line : ℕ) (what : Why) → IsBadBeginning x.limits x.bodies x.begins line what → IsBadAt x line what
beginning_bad x line why.Caps bad = bad
beginning_bad x line why.Start bad = bad
beginning_bad x line why.OutOfMemory bad = bad
beginning_bad x line _ bad = absurd bad

-- so is what is wrong with the entries
pub entries_bad : (x : Content) (line : ℕ) (what : Why) → MayStart x.limits x.bodies x.begins → IsBadPartAt (part_of x) (lines_before x.begins) line what → IsBadAt x line what
entries_bad x line why.Step may bad = (may, bad)
entries_bad x line why.Outcome may bad = (may, bad)
entries_bad x line why.OutOfMemory may bad = (may, bad)
entries_bad x line _ may bad = absurd bad

-- The first bad line is one

one_bad_capacities : (limits : Limits) (bodies : ℕ) (b : Begins) (l m : ℕ) → AreBadCapacities limits bodies b l → AreBadCapacities limits bodies b m → l ≡ m
one_bad_capacities limits bodies (AtOpening capacities) l m one two = one.0 ∙ sym two.0
one_bad_capacities limits bodies (AtState s) l m one two = absurd one

one_bad_start : (limits : Limits) (bodies : ℕ) (b : Begins) (l m : ℕ) → IsBadStart limits bodies b l → IsBadStart limits bodies b m → l ≡ m
one_bad_start limits bodies (AtOpening capacities) l m one two = absurd one
one_bad_start limits bodies (AtState s) l m one two = one.0 ∙ sym two.0

capacities_or_start : (limits : Limits) (bodies : ℕ) (b : Begins) (l m : ℕ) → AreBadCapacities limits bodies b l → IsBadStart limits bodies b m → ⊥
capacities_or_start limits bodies (AtOpening capacities) l m one two = two
capacities_or_start limits bodies (AtState s) l m one two = one

of_capacities : (limits : Limits) (bodies : ℕ) (b : Begins) (l : ℕ) → AreBadCapacities limits bodies b l → AreLimits limits bodies []
of_capacities limits bodies (AtOpening capacities) l bad = bad.1
of_capacities limits bodies (AtState s) l bad = absurd bad

of_start : (limits : Limits) (bodies : ℕ) (b : Begins) (l : ℕ) → IsBadStart limits bodies b l → AreLimits limits bodies []
of_start limits bodies (AtOpening capacities) l bad = absurd bad
of_start limits bodies (AtState s) l bad = bad.1

one_fault : (x : Content) (l m : ℕ) (v w : Why) → IsBadAt x l v → IsBadAt x m w → v ≢ why.OutOfMemory → w ≢ why.OutOfMemory → (l ≡ m) × (v ≡ w)
one_fault x l m why.Limits why.Limits a b p q = (a.0 ∙ sym b.0, refl)
one_fault x l m why.Limits why.Caps a b p q = absurd (a.1 (of_capacities x.limits x.bodies x.begins m b))
one_fault x l m why.Limits why.Start a b p q = absurd (a.1 (of_start x.limits x.bodies x.begins m b))
one_fault x l m why.Limits _ a b p q = absurd (a.1 (in_range x.limits x.bodies x.begins b.0))
one_fault x l m why.Caps why.Limits a b p q = absurd (b.1 (of_capacities x.limits x.bodies x.begins l a))
one_fault x l m why.Caps why.Caps a b p q = (one_bad_capacities x.limits x.bodies x.begins l m a b, refl)
one_fault x l m why.Caps why.Start a b p q = absurd (capacities_or_start x.limits x.bodies x.begins l m a b)
one_fault x l m why.Caps _ a b p q = absurd (no_bad_capacities x.limits x.bodies x.begins l b.0 a)
one_fault x l m why.Start why.Limits a b p q = absurd (b.1 (of_start x.limits x.bodies x.begins l a))
one_fault x l m why.Start why.Caps a b p q = absurd (capacities_or_start x.limits x.bodies x.begins m l b a)
one_fault x l m why.Start why.Start a b p q = (one_bad_start x.limits x.bodies x.begins l m a b, refl)
one_fault x l m why.Start _ a b p q = absurd (no_bad_start x.limits x.bodies x.begins l b.0 a)
one_fault x l m _ why.Limits a b p q = absurd (b.1 (in_range x.limits x.bodies x.begins a.0))
one_fault x l m _ why.Caps a b p q = absurd (no_bad_capacities x.limits x.bodies x.begins m a.0 b)
one_fault x l m _ why.Start a b p q = absurd (no_bad_start x.limits x.bodies x.begins m a.0 b)
one_fault x l m v w a b p q = one_fault_from (part_of x) (opens x a.0) (lines_before x.begins) l m v w a.1 b.1 p q

pub one_first_bad : (x : Content) (a b : Bad) → IsFirstBad x a → IsFirstBad x b → a.why ≢ why.OutOfMemory → b.why ≢ why.OutOfMemory → a ≡ b
one_first_bad x a b is is_too one two =
    let same = one_fault x a.line b.line a.why b.why is is_too one two in
    ap (λ (n : ℕ). let z : Bad = record a { line = n } in z) same.0 ∙ ap (λ (w : Why). let z : Bad = record { line = b.line; why = w } in z) same.1
