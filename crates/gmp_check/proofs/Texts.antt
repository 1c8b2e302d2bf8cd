-- Parts of right traces are right and have texts, and so are two as one.
use Rattle.std.proofs.Common.{◌≡◌, ℕ, Option, None, List, [], ◌++◌, arith, drop, take, refl, sym, ap, subst, ◌∙◌}
use Rattle.std.proofs.lemmas.List.Elements.{All-append, All-drop, All-take}
use Rattle.std.specs.List.{All}
use Rattle.gmp_seq.proofs.Runs.{run_join}
use Rattle.gmp_seq.proofs.Sizes.{legal_sizes}
use Rattle.gmp_seq.specs.declared.call.Entry.{Entry}
use Rattle.gmp_seq.specs.declared.call.Limits.{Limits}
use Rattle.gmp_seq.specs.declared.call.Outcome.{Outcome}
use Rattle.gmp_seq.specs.Fits.{AreLimits, Fits, FitsCall}
use Rattle.gmp_seq.specs.Laws.{HasSizes}
use Rattle.gmp_seq.specs.Run.{IsLegal, Run}
use Rattle.gmp_seq.specs.State.{State, opening}
use Rattle.gmp_start.proofs.Active.{sizes_run}
use Rattle.gmp_trace.proofs.Numbered.{legal_text, run_text}
use Rattle.gmp_trace.proofs.StartBack.{legal_start, run_start}
use Rattle.gmp_trace.specs.HasText.{HasText, IsBeginning}
use Rattle.gmp_trace.specs.StartWhole.{IsStart}
use Rattle.gmp_trace.specs.Text.{Begins, Content, IsCounted, end_of}
use Rattle.gmp_trace.specs.Text.Begins.{AtOpening, AtState}
use Rattle.gmp_check.proofs.Beginning.{starts_begin}
use Rattle.gmp_check.proofs.Checking.{in_range, starts_consistent}
use Rattle.gmp_check.proofs.Keeping.{run_keeps}
use Rattle.gmp_check.proofs.Parting.{is_second, lasts}
use Rattle.gmp_check.specs.Checked.{IsRight, IsRightPart, MayGoOn, MayStart, part, part_of, start_at, start_of}
use Rattle.gmp_check.specs.Parts.{IsJoined, IsPart, IsSecond, Meets}
use Rattle.gmp_check.specs.Replayed.{EndsWith}

-- Right traces

first_sizes : (limits : Limits) (bodies : ℕ) (b : Begins) → MayStart limits bodies b → HasSizes limits bodies (start_at limits bodies b)
first_sizes limits bodies (AtOpening capacities) may = legal_sizes limits bodies capacities [] (opening limits bodies capacities) may refl
first_sizes limits bodies (AtState s) may = may.1.sizes

pub start_counted : (limits : Limits) (bodies : ℕ) (b : Begins) → MayStart limits bodies b → IsCounted b
start_counted limits bodies (AtOpening capacities) may = tt
start_counted limits bodies (AtState s) may = omega (arith, may.1.together.entries, may.0.entries.1)

-- a run may go on from each state to which one leads that lasts there
goes_on : (limits : Limits) (bodies : ℕ) (b : Begins) (h : List Entry) (s : State) → MayStart limits bodies b → Run limits (start_at limits bodies b) h s → s.outcome ≡ None
    → MayGoOn limits bodies s
goes_on limits bodies b h s may run none =
    record {
      sizes = sizes_run limits bodies (start_at limits bodies b) s h (first_sizes limits bodies b may) run;
      together = (run_keeps limits (start_at limits bodies b) s h (starts_consistent limits bodies b may) run).together;
      lasts = none;
    }

-- the part of a trace, whose replay began at this state
pub split_part : (x : Content) (first start : State) (n : ℕ) (h : List Entry) → first ≡ start_of x → IsSecond (part x.limits first x.entries x.end) n start h
    → IsPart x n (record x { begins = AtState start; entries = h })
split_part x first start n h same second =
    record {
      within = second.within;
      start = start;
      led = subst (λ (a : State). Run x.limits a (take n x.entries) start) same second.led;
      part = subst (λ (k : List Entry). record x { begins = AtState start; entries = h } ≡ record x { begins = AtState start; entries = k }) second.rest refl;
    }

module _ (x y : Content) (n : ℕ) (o : Option Outcome) (right : IsRight x o) (is : IsPart x n y) where
  part_lasts : is.start.outcome ≡ None
  part_lasts = lasts (part_of x) n (starts_begin x.limits x.bodies x.begins right.range) is.within o right.run is.start is.led

  later : IsRightPart (part x.limits is.start (drop n x.entries) x.end) o
  later = (is_second (part_of x) n (starts_begin x.limits x.bodies x.begins right.range) is.within is.start (drop n x.entries) is.led refl).right o right.run

  pub part_right : IsRight y o
  part_right =
      subst (λ (z : Content). IsRight z o) (sym is.part)
      (record {
        range = (in_range x.limits x.bodies x.begins right.range, goes_on x.limits x.bodies x.begins (take n x.entries) is.start right.range is.led part_lasts);
        run = later;
      })

pub meet : (x y : Content) (first next : State) → y.limits ≡ x.limits → y.bodies ≡ x.bodies → first ≡ start_of x → next ≡ start_of y → Run x.limits first x.entries next → Meets x y
meet x y first next limits bodies begun later led =
    record {
      limits = limits;
      bodies = bodies;
      led = subst (λ (s : State). Run x.limits (start_of x) x.entries s) later (subst (λ (s : State). Run x.limits s x.entries next) begun led);
    }

pub join_joined : (x y : Content) (b : Begins) (all : List Entry) → Meets x y → b ≡ x.begins → all ≡ x.entries ++ y.entries
    → IsJoined x y (record { limits = x.limits; bodies = x.bodies; begins = b; entries = all; end = y.end })
join_joined x y b all meets begun is =
    record {
      meets = meets;
      whole = ap (λ (c : Begins). let z : Content = record { limits = x.limits; bodies = x.bodies; begins = c; entries = all; end = y.end } in z) begun
          ∙ ap (λ (k : List Entry). let z : Content = record x { entries = k; end = y.end } in z) is;
    }

joined_run : (x y : Content) (t : State) → Meets x y → Run y.limits (start_of y) y.entries t → Run x.limits (start_of x) (x.entries ++ y.entries) t
joined_run x y t meets run =
    run_join x.limits (start_of x) (start_of y) t x.entries y.entries meets.led (subst (λ (l : Limits). Run l (start_of y) y.entries t) meets.limits run)

pub joined_right : (x y z : Content) (o : Option Outcome) → MayStart x.limits x.bodies x.begins → IsRight y o → IsJoined x y z → IsRight z o
joined_right x y z o may right joined =
    subst (λ (c : Content). IsRight c o) (sym joined.whole) (record { range = may; run = record { ends = both right.run.ends; told = right.run.told } })
  where
    both : (t : State) × Run y.limits (start_of y) y.entries t × (t.outcome ≡ o) → (t : State) × Run x.limits (start_of x) (x.entries ++ y.entries) t × (t.outcome ≡ o)
    both (t, run, told) = (t, joined_run x y t joined.meets run, told)

-- Texts

-- a run that begins so leads to a start while it lasts
leads_to_start : (limits : Limits) (bodies : ℕ) (b : Begins) (h : List Entry) (s : State) → IsBeginning limits bodies b → All (λ (e : Entry). FitsCall e.call) h
    → Run limits (start_at limits bodies b) h s → s.outcome ≡ None → IsStart limits bodies s
leads_to_start limits bodies (AtOpening capacities) h s is fit run none = legal_start limits bodies capacities h s is.0 fit run none
leads_to_start limits bodies (AtState a) h s is fit run none = run_start limits bodies a s h is.0.entries.1 is.1 fit run none

-- a run that begins so has a text
has_text : (x : Content) (b : Begins) (s : State) → x.begins ≡ b → IsBeginning x.limits x.bodies b → Run x.limits (start_at x.limits x.bodies b) x.entries s → All Fits x.entries → HasText x
has_text x (AtOpening capacities) s begun is run fits = legal_text x capacities s begun is.0 is.1 run fits
has_text x (AtState a) s begun is run fits = run_text x a s begun is.0 is.1 run fits

calls_fit : (h : List Entry) → All Fits h → All (λ (e : Entry). FitsCall e.call) h
calls_fit h fits k d less = (fits k d less).2

pub part_has_text : (x y : Content) (n : ℕ) (o : Option Outcome) → HasText x → IsRight x o → IsPart x n y → HasText y
part_has_text x y n o has right is = by_end (later x y n o right is).ends where
  fits : All Fits (take n x.entries)
  fits = All-take Fits n x.entries has.fits

  start : IsStart x.limits x.bodies is.start
  start = leads_to_start x.limits x.bodies x.begins (take n x.entries) is.start has.beginning (calls_fit (take n x.entries) fits) is.led (part_lasts x y n o right is)

  by_end : (t : State) × Run x.limits is.start (drop n x.entries) t × (t.outcome ≡ o) → HasText y
  by_end (t, run, told) =
      subst HasText (sym is.part)
      (has_text (record x { begins = AtState is.start; entries = drop n x.entries }) (AtState is.start) t refl (in_range x.limits x.bodies x.begins right.range, start) run
      (All-drop Fits n x.entries has.fits))

pub join_has_text : (x y z : Content) (o : Option Outcome) → HasText x → HasText y → IsRight y o → IsJoined x y z → HasText z
join_has_text x y z o has has_too right joined = by_end right.run.ends where
  by_end : (t : State) × Run y.limits (start_of y) y.entries t × (t.outcome ≡ o) → HasText z
  by_end (t, run, told) =
      subst HasText (sym joined.whole)
      (has_text (record x { entries = x.entries ++ y.entries; end = y.end }) x.begins t refl has.beginning (joined_run x y t joined.meets run)
      (All-append Fits x.entries y.entries has.fits has_too.fits))

-- A segment of a legal run

module _ (x : Content) (capacities : List ℕ) (h : List Entry) (start s : State) (range : AreLimits x.limits x.bodies capacities) (fit : All Fits h)
    (legal : IsLegal x.limits x.bodies capacities h start) (none : start.outcome ≡ None) (begun : x.begins ≡ AtState start) (run : Run x.limits start x.entries s) where
  pub segment_right : x.end ≡ end_of s.outcome → IsRight x s.outcome
  segment_right told =
      record {
        range = subst (MayStart x.limits x.bodies) (sym begun) (in_range x.limits x.bodies (AtOpening capacities) range, goes_on x.limits x.bodies (AtOpening capacities) h start range legal none);
        run = record { ends = subst (λ (b : Begins). EndsWith x.limits (start_at x.limits x.bodies b) x.entries s.outcome) (sym begun) (s, run, refl); told = told };
      }

  pub segment_has_text : All Fits x.entries → HasText x
  segment_has_text fits =
      has_text x (AtState start) s begun
      (in_range x.limits x.bodies (AtOpening capacities) range, legal_start x.limits x.bodies capacities h start range (calls_fit h fit) legal none) run fits
