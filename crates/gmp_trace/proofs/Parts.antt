-- The parts of a trace text.
use Rattle.std.proofs.Common.{◌≡◌, ℕ, ◌<◌, ◌≤◌, ◌^◌, Bool, true, false, not, if◌then◌else◌, List, [], ◌++◌, length, slice_index, refl, sym, ap, subst, ◌∙◌, append_assoc, arith, All}
use Rattle.std.proofs.lemmas.List.Elements.{All-nil, All-weaker}
use Rattle.gmp_seq.specs.declared.call.Limits.{Limits}
use Rattle.gmp_seq.specs.Fits.{AreLimits}
use Rattle.gmp_trace.specs.declared.bad.Why.{Why}
use Rattle.gmp_trace.specs.declared.bad.Why.TheVariants as why
use Rattle.gmp_trace.specs.Beginning.{BeginsSo}
use Rattle.gmp_trace.specs.HasText.{HasText, IsBeginning, origin}
use Rattle.gmp_trace.specs.Pieces.{end_text, entries_text, is_whole, limits_text}
use Rattle.gmp_trace.specs.Text.{Begins, Content, IsCounted, beginning_text, begins_text, first_number, header, start_version, suits, text, version_of}
use Rattle.gmp_trace.specs.Text.Begins.{AtOpening, AtState}
use Rattle.gmp_trace.specs.declared.trace.Version.{Version}
use Rattle.gmp_trace.specs.declared.trace.Version.TheVariants.{One, Two, Four}
use Rattle.gmp_trace.proofs.Lines.{same_rest}
use Rattle.gmp_trace.specs.Reading.{AreEntries, HasLimits, IsBody, IsBodyFault, IsFault}

-- limits that allow some channels allow none
pub of_line_2 : (l : Limits) (bodies : ℕ) (capacities : List ℕ) → AreLimits l bodies capacities → AreLimits l bodies []
of_line_2 l bodies capacities h = record {
  procs = h.procs;
  machines = h.machines;
  stock = h.stock;
  channels = (omega arith, h.channels.1);
  buffers = All-nil (λ (c : ℕ). c ≤ 4096);
  entries = h.entries;
  room = h.room;
}

pub small_capacities : (l : Limits) (bodies : ℕ) (capacities : List ℕ) → AreLimits l bodies capacities → All (λ (c : ℕ). c < 2 ^ 32) capacities
small_capacities l bodies capacities h = All-weaker (λ (c : ℕ). c ≤ 4096) (λ (c : ℕ). c < 2 ^ 32) (λ c small. omega arith) capacities h.buffers

pub few_capacities : (l : Limits) (bodies : ℕ) (capacities : List ℕ) → AreLimits l bodies capacities → length capacities < 1030
few_capacities l bodies capacities h = omega (arith, h.channels)

pub range_of : (l : Limits) (bodies : ℕ) (b : Begins) → IsBeginning l bodies b → AreLimits l bodies []
range_of l bodies (AtOpening capacities) h = of_line_2 l bodies capacities h.0
range_of l bodies (AtState s) h = h.0

regroup_whole : (h l b e f : List ℕ) → h ++ l ++ b ++ e ++ f ≡ h ++ (l ++ (b ++ (e ++ f)))
regroup_whole h l b e f = simp append_assoc

regroup_beginning : (h l b rest : List ℕ) → h ++ (l ++ (b ++ rest)) ≡ h ++ l ++ b ++ rest
regroup_beginning h l b rest = simp append_assoc

pub beginning_parts : (l : Limits) (bodies : ℕ) (b : Begins) (rest : List ℕ)
    → beginning_text l bodies b ++ rest ≡ header (version_of l b) ++ (limits_text l bodies ++ (begins_text b ++ rest))
beginning_parts l bodies b rest = sym (regroup_beginning (header (version_of l b)) (limits_text l bodies) (begins_text b) rest)

abbrev pub behind_beginning : Content → List ℕ
behind_beginning x = entries_text (first_number x.begins) x.entries ++ end_text x.end

abbrev pub behind_limits : Content → List ℕ
behind_limits x = begins_text x.begins ++ behind_beginning x

abbrev pub behind_header : Content → List ℕ
behind_header x = limits_text x.limits x.bodies ++ behind_limits x

pub text_parts : (x : Content) → text x ≡ header (version_of x.limits x.begins) ++ behind_header x
text_parts x =
    regroup_whole (header (version_of x.limits x.begins)) (limits_text x.limits x.bodies) (begins_text x.begins) (entries_text (first_number x.begins) x.entries) (end_text x.end)

pub whole_from : (bytes : List ℕ) (l : Limits) (bodies : ℕ) (b : Begins) (rest one two : List ℕ)
    → bytes ≡ header (version_of l b) ++ one → one ≡ limits_text l bodies ++ two → two ≡ begins_text b ++ rest → bytes ≡ beginning_text l bodies b ++ rest
whole_from bytes l bodies b rest one two p q r =
    p ∙ ap (λ (t : List ℕ). header (version_of l b) ++ t) (q ∙ ap (λ (t : List ℕ). limits_text l bodies ++ t) r)
    ∙ regroup_beginning (header (version_of l b)) (limits_text l bodies) (begins_text b) rest

pub text_from : (bytes : List ℕ) (x : Content) (rest : List ℕ) → bytes ≡ beginning_text x.limits x.bodies x.begins ++ rest → rest ≡ behind_beginning x → bytes ≡ text x
text_from bytes x rest p q =
    p ∙ ap (λ (t : List ℕ). beginning_text x.limits x.bodies x.begins ++ t) q
    ∙ sym (append_assoc (beginning_text x.limits x.bodies x.begins) (entries_text (first_number x.begins) x.entries) (end_text x.end))

pub body_of : (x : Content) (rest : List ℕ) → HasText x → rest ≡ behind_beginning x → IsBody (origin x.limits.machines x.begins) rest x.entries x.end
body_of x rest h is = record { entries = record { fits = h.fits; numbered = h.numbered; answered = h.answered }; whole = is }

-- a fault behind the beginning is one of the text
pub fault_from_body : (bytes : List ℕ) (l : Limits) (bodies : ℕ) (b : Begins) (rest : List ℕ) (line : ℕ) (w : Why)
    → IsBeginning l bodies b → bytes ≡ beginning_text l bodies b ++ rest → IsBodyFault (origin l.machines b) rest line w → IsFault bytes line w
fault_from_body bytes l bodies b rest line why.Header a c d = absurd d.fault
fault_from_body bytes l bodies b rest line why.Limits a c d = absurd d.fault
fault_from_body bytes l bodies b rest line why.Caps a c d = absurd d.fault
fault_from_body bytes l bodies b rest line why.Start a c d = absurd d.fault
fault_from_body bytes l bodies b rest line why.Step a c d = absurd d.fault
fault_from_body bytes l bodies b rest line why.Outcome a c d = absurd d.fault
fault_from_body bytes l bodies b rest line why.Grammar a c d = record { limits = l; bodies = bodies; begins = b; rest = rest; beginning = a; whole = c; fault = d }
fault_from_body bytes l bodies b rest line why.Number a c d = record { limits = l; bodies = bodies; begins = b; rest = rest; beginning = a; whole = c; fault = d }
fault_from_body bytes l bodies b rest line why.End a c d = record { limits = l; bodies = bodies; begins = b; rest = rest; beginning = a; whole = c; fault = d }
fault_from_body bytes l bodies b rest line why.Extra a c d = record { limits = l; bodies = bodies; begins = b; rest = rest; beginning = a; whole = c; fault = d }
fault_from_body bytes l bodies b rest line why.OutOfMemory a c d = d

pub same_limits : (l m : Limits) (bodies stock : ℕ) (caps : List ℕ) → l ≡ m → bodies ≡ stock → AreLimits m stock caps → AreLimits l bodies caps
same_limits l m bodies stock caps p q h = rw (p, q) h

pub has_text : (x : Content) → IsBeginning x.limits x.bodies x.begins → AreEntries (origin x.limits.machines x.begins) x.entries → HasText x
has_text x begun entries = record { beginning = begun; fits = entries.fits; numbered = entries.numbered; answered = entries.answered }

-- line 1 fixes the version and what is behind it
pub one_version : (v w : Version) (a b : List ℕ) → header v ++ a ≡ header w ++ b → (v ≡ w) × (a ≡ b)
one_version One One a b is = (refl, same_rest (header One ++ a) (header One) a b refl is)
one_version Two Two a b is = (refl, same_rest (header Two ++ a) (header Two) a b refl is)
one_version Four Four a b is = (refl, same_rest (header Four ++ a) (header Four) a b refl is)
one_version One Two a b is = absurd (let last : 49 ≡ 50 = ap (λ (t : List ℕ). slice_index t 10) is in omega (arith, last))
one_version Two One a b is = absurd (let last : 50 ≡ 49 = ap (λ (t : List ℕ). slice_index t 10) is in omega (arith, last))
one_version One Four a b is = absurd (let last : 49 ≡ 52 = ap (λ (t : List ℕ). slice_index t 10) is in omega (arith, last))
one_version Four One a b is = absurd (let last : 52 ≡ 49 = ap (λ (t : List ℕ). slice_index t 10) is in omega (arith, last))
one_version Two Four a b is = absurd (let last : 50 ≡ 52 = ap (λ (t : List ℕ). slice_index t 10) is in omega (arith, last))
one_version Four Two a b is = absurd (let last : 52 ≡ 50 = ap (λ (t : List ℕ). slice_index t 10) is in omega (arith, last))

-- ---- versions

abbrev of_whole : Bool → Version
of_whole whole = if whole then Two else Four

-- version 1 begins at no state
never_of_whole : (whole : Bool) → One ≡ of_whole whole → ⊥
never_of_whole true e = cc
never_of_whole false e = cc

pub no_start_version : (l : Limits) → One ≡ start_version l → ⊥
no_start_version l e = never_of_whole (is_whole l) e

suits_of_whole : (l : Limits) (whole : Bool) → is_whole l ≡ whole → suits (of_whole whole) l ≡ true
suits_of_whole l true is = is
suits_of_whole l false is = ap not is

pub suits_moved : (v w : Version) (l : Limits) → v ≡ w → suits w l ≡ true → suits v l ≡ true
suits_moved v w l same h = subst (λ (x : Version). suits x l ≡ true) (sym same) h

-- what may begin so suits its version
pub suits_beginning : (l : Limits) (bodies : ℕ) (b : Begins) → IsBeginning l bodies b → suits (version_of l b) l ≡ true
suits_beginning l bodies (AtOpening capacities) h = h.1
suits_beginning l bodies (AtState s) h = suits_of_whole l (is_whole l) refl

-- ---- the parts of a trace's text

pub beginning_whole : (bytes : List ℕ) (v : Version) (l : Limits) (bodies : ℕ) (text : List ℕ) (b : Begins) (rest : List ℕ) → HasLimits bytes v l bodies text
    → BeginsSo v l bodies text b rest → bytes ≡ beginning_text l bodies b ++ rest
beginning_whole bytes v l bodies text b rest lines so =
    let first : bytes ≡ header (version_of l b) ++ (limits_text l bodies ++ text) = lines.whole ∙ ap (λ (w : Version). header w ++ (limits_text l bodies ++ text)) (sym so.of_version) in
    whole_from bytes l bodies b rest (limits_text l bodies ++ text) text first refl so.whole

pub has_limits_of : (x : Content) (bytes : List ℕ) → HasText x → bytes ≡ text x
    → HasLimits bytes (version_of x.limits x.begins) x.limits x.bodies (begins_text x.begins ++ behind_beginning x)
has_limits_of x bytes h is = record {
  range = range_of x.limits x.bodies x.begins h.beginning;
  of_version = suits_beginning x.limits x.bodies x.begins h.beginning;
  whole = is ∙ text_parts x;
}

pub begins_so : (x : Content) (v : Version) (l : Limits) (bodies : ℕ) (text : List ℕ) → HasText x → v ≡ version_of x.limits x.begins → l ≡ x.limits → bodies ≡ x.bodies
    → text ≡ begins_text x.begins ++ behind_beginning x → BeginsSo v l bodies text x.begins (behind_beginning x)
begins_so x v l bodies text h p q r is = record { of_version = ap (λ (m : Limits). version_of m x.begins) q ∙ sym p; allowed = rw (q, r) h.beginning; whole = is }

pub body_so : (x : Content) (l : Limits) (b : Begins) (rest : List ℕ) → HasText x → l ≡ x.limits → b ≡ x.begins → rest ≡ behind_beginning x
    → IsBody (origin l.machines b) rest x.entries x.end
body_so x l b rest h p q is = rw (p, q) (body_of x rest h is)

pub same_content : (x y : Content) → y.limits ≡ x.limits → y.bodies ≡ x.bodies → y.begins ≡ x.begins → y.entries ≡ x.entries → y.end ≡ x.end → y ≡ x
same_content x y limits bodies begun entries end = rw (limits, bodies, begun, entries, end) refl

-- what may begin so has few entries before it
pub counted_from : (l : Limits) (bodies : ℕ) (b : Begins) → IsBeginning l bodies b → IsCounted b
counted_from l bodies (AtOpening capacities) h = tt
counted_from l bodies (AtState s) h = let few = h.1.together.entries in let most = h.0.entries.1 in omega (arith, few, most)
