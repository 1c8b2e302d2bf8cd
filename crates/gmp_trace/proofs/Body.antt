-- What is left to be read of a text that is a trace's.
use Rattle.std.proofs.Common.{◌≡◌, ℕ, zero, suc, sum, ◌+◌, ◌<◌, ◌≤◌, ◌^◌, ◌==◌, List, [], ◌∷◌, ◌++◌, length, get_or, refl, sym, ap, subst, ◌∙◌, append_assoc, decimal, arith, length-append, cond, inl, inr, slice_index, IsTrue, All}
use Rattle.std.specs.List.{AllByRecursion}
use Rattle.std.proofs.lemmas.List.{append-nil, get_or-set_other, length-set}
use Rattle.std.proofs.lemmas.List.Elements.{All-head, All-tail, All-cons, All-nil, All-append}
use Rattle.std.proofs.lemmas.List.Sums.{count_by-le-length, sum_by-append, sum_by-cons}
use Rattle.std.proofs.lemmas.Grind.{get_or-set_at}
use Rattle.std.proofs.lemmas.Bool.Decides.{eqb_tells}
use Rattle.std.proofs.lemmas.Fmt.{decimal_nonempty}
use Rattle.std.proofs.Math.ListN.{set}
use Rattle.gmp_base.specs.declared.number.MNo.{MNo}
use Rattle.gmp_seq.specs.declared.call.Entry.{Entry}
use Rattle.gmp_seq.specs.Fits.{Fits}
use Rattle.gmp_trace.specs.declared.trace.End.{End}
use Rattle.gmp_trace.specs.declared.trace.End.TheVariants.{MainEnded, AllAsleep, BookFull, Running}
use Rattle.gmp_trace.specs.Pieces.{fields, entry_pieces, entry_text, entries_text, end_text}
use Rattle.gmp_trace.specs.HasText.{AreNumbered, Origin, answers, turns}
use Rattle.gmp_trace.specs.declared.bad.Why.{Why}
use Rattle.gmp_trace.specs.declared.bad.Why.TheVariants as why
use Rattle.gmp_trace.specs.declared.whole.First.{First}
use Rattle.gmp_trace.specs.Beginning.{IsFirst, IsSmall}
use Rattle.gmp_trace.specs.Reading.{AreEntries, IsBodyFault, IsEntry, IsLastFault, IsNext, IsBody, BeginsWith}
use Rattle.gmp_trace.proofs.Numbers.{IsDigit, decimal_digits}
use Rattle.gmp_trace.proofs.Lines.{regroup}

abbrev IsAnswered : Entry → Type 0
IsAnswered e = IsTrue (answers e.call e.reply)

-- the entries that are left, behind those that were read
pub record Left (from : Origin) (es : List Entry) (rest : List ℕ) (xs : List Entry) (end : End) : Type 0 where
  pub others : List Entry
  pub whole : xs ≡ es ++ others
  pub text : rest ≡ entries_text (from.number + length es) others ++ end_text end

-- ---- entries one by one

numbered-append : (from : Origin) (es before others : List Entry) → AreNumbered from before (es ++ others) → AreNumbered from (before ++ es) others
numbered-append from [] before others h = subst (λ (b : List Entry). AreNumbered from b others) (sym (append-nil before)) h
numbered-append from (e ∷ es) before others h =
    subst (λ (b : List Entry). AreNumbered from b others) (append_assoc before (e ∷ []) es) (numbered-append from es (before ++ e ∷ []) others h.2)

numbered-next : (from : Origin) (before es : List Entry) (e : Entry) → AreNumbered from before (e ∷ es) → IsNext from before e
numbered-next from before es e h = (h.0, h.1)

numbered-more : (from : Origin) (es before : List Entry) (e : Entry) → AreNumbered from before es → IsNext from (before ++ es) e → AreNumbered from before (es ++ e ∷ [])
numbered-more from [] before e h next =
    let here = subst (λ (b : List Entry). IsNext from b e) (append-nil before) next in
    (here.0, here.1, tt)
numbered-more from (d ∷ es) before e h next =
    (h.0, h.1, numbered-more from es (before ++ d ∷ []) e h.2 (subst (λ (b : List Entry). IsNext from b e) (sym (append_assoc before (d ∷ []) es)) next))

answers-more : (es : List Entry) (e : Entry) → AllByRecursion IsAnswered es → IsAnswered e → AllByRecursion IsAnswered (es ++ e ∷ [])
answers-more [] e h is = (is, tt)
answers-more (d ∷ es) e h is = (h.0, answers-more es e h.1 is)

answers-behind : (es others : List Entry) → AllByRecursion IsAnswered (es ++ others) → AllByRecursion IsAnswered others
answers-behind [] others h = h
answers-behind (e ∷ es) others h = answers-behind es others h.1

fits-more : (es : List Entry) (e : Entry) → All Fits es → Fits e → All Fits (es ++ e ∷ [])
fits-more es e h is = All-append Fits es (e ∷ []) h (All-cons Fits e [] is (All-nil Fits))

fits-behind : (es others : List Entry) → All Fits (es ++ others) → All Fits others
fits-behind [] others h = h
fits-behind (e ∷ es) others h = fits-behind es others (All-tail Fits e (es ++ others) h)

pub entries_text-more : (n : ℕ) (es : List Entry) (e : Entry) → entries_text n (es ++ e ∷ []) ≡ entries_text n es ++ entry_text (n + length es) e
entries_text-more n [] e = append-nil (entry_text n e) ∙ ap (λ (k : ℕ). entry_text k e) (omega arith)
entries_text-more n (d ∷ es) e =
    let same : n + 1 + length es ≡ n + length (d ∷ es) = omega arith in
    ap (λ (t : List ℕ). entry_text n d ++ t) (entries_text-more (n + 1) es e ∙ ap (λ (k : ℕ). entries_text (n + 1) es ++ entry_text k e) same)
    ∙ sym (append_assoc (entry_text n d) (entries_text (n + 1) es) (entry_text (n + length (d ∷ es)) e))

-- ---- an entry's line is no end line

digit_first : (ds rest more : List ℕ) → AllByRecursion IsDigit ds → 0 < length ds → ds ++ rest ≡ 101 ∷ more → ⊥
digit_first [] rest more h some e = omega arith
digit_first (d ∷ ds) rest more h some e = let same : d ≡ 101 = cc in omega (arith, h.0)

end_first : (end : End) (more : List ℕ) → (others : List ℕ) × (end_text end ++ more ≡ 101 ∷ others)
unfolding end_text
end_first MainEnded more = (_, refl)
end_first AllAsleep more = (_, refl)
end_first BookFull more = (_, refl)
end_first Running more = (_, refl)

rest_of_line : (n : ℕ) (e : Entry) (more : List ℕ) → entry_text n e ++ more ≡ decimal n ++ (fields (entry_pieces e) ++ 10 ∷ more)
unfolding entry_text
rest_of_line n e more = regroup (decimal n) (fields (entry_pieces e)) more

pub entry_is_no_end : (n : ℕ) (e : Entry) (more : List ℕ) (end : End) (behind : List ℕ) → n < 2 ^ 64 → entry_text n e ++ more ≡ end_text end ++ behind → ⊥
entry_is_no_end n e more end behind small is =
    let first = end_first end behind in
    digit_first (decimal n) _ first.0 (decimal_digits n small) (decimal_nonempty n small) (sym (rest_of_line n e more) ∙ is ∙ first.1)

pub end_is_some : (end : End) (more : List ℕ) → [] ≡ end_text end ++ more → ⊥
end_is_some end more is =
    let first = end_first end more in
    let never : [] ≡ 101 ∷ first.0 = is ∙ first.1 in
    cc

-- ---- the loop

pub left_start : (from : Origin) (text : List ℕ) (xs : List Entry) (end : End) → IsBody from text xs end → Left from [] text xs end
left_start from text xs end h = record { others = xs; whole = refl; text = h.whole ∙ ap (λ (n : ℕ). entries_text n xs ++ end_text end) (omega arith) }

-- what the reader of an entry says of a text
abbrev pub OnlyEntry : List ℕ → ℕ → Entry → List ℕ → Type 0
OnlyEntry rest n e more = (m : ℕ) (d : Entry) (behind : List ℕ) → IsEntry m d → rest ≡ entry_text m d ++ behind → (n ≡ m) × (e ≡ d) × (more ≡ behind)

abbrev pub NoEntry : List ℕ → Type 0
NoEntry rest = (m : ℕ) (d : Entry) (behind : List ℕ) → IsEntry m d → rest ≡ entry_text m d ++ behind → ⊥

-- the next entry of a trace
pub record Next (from : Origin) (es : List Entry) (rest : List ℕ) (xs : List Entry) (end : End) (n : ℕ) (e : Entry) (more : List ℕ) : Type 0 where
  pub number : n ≡ from.number + length es
  pub next : IsNext from es e
  pub left : Left from (es ++ e ∷ []) more xs end

pub first_of_left : (from : Origin) (es ys : List Entry) (y : Entry) (xs : List Entry) → AreEntries from xs → xs ≡ es ++ y ∷ ys → from.number + length es < 2 ^ 64
    → IsEntry (from.number + length es) y × IsNext from es y
first_of_left from es ys y xs h whole small =
    let fits = fits-behind es (y ∷ ys) (subst (λ (l : List Entry). All Fits l) whole h.fits) in
    let replies = answers-behind es (y ∷ ys) (subst (λ (l : List Entry). AllByRecursion IsAnswered l) whole h.answered) in
    let numbered = numbered-append from es [] (y ∷ ys) (subst (λ (l : List Entry). AreNumbered from [] l) whole h.numbered) in
    (record { number = small; fits = All-head Fits y ys fits; answered = replies.0 }, numbered-next from es ys y numbered)

next_by : (from : Origin) (text : List ℕ) (es others : List Entry) (rest : List ℕ) (xs : List Entry) (end : End) (n : ℕ) (e : Entry) (more : List ℕ)
    → IsBody from text xs end → xs ≡ es ++ others → rest ≡ entries_text (from.number + length es) others ++ end_text end → from.number + length es < 2 ^ 64
    → n < 2 ^ 64 → rest ≡ entry_text n e ++ more → OnlyEntry rest n e more → Next from es rest xs end n e more
next_by from text es [] rest xs end n e more h whole left few small is only =
    absurd (entry_is_no_end n e more end [] small (sym is ∙ left ∙ sym (append-nil (end_text end))))
next_by from text es (y ∷ ys) rest xs end n e more h whole left few small is only =
    let first = first_of_left from es ys y xs h.entries whole few in
    let same = only (from.number + length es) y (entries_text (from.number + length es + 1) ys ++ end_text end) first.0 (left ∙ append_assoc (entry_text (from.number + length es) y) (entries_text (from.number + length es + 1) ys) (end_text end)) in
    let size : from.number + length es + 1 ≡ from.number + length (es ++ e ∷ []) = omega (arith, length-append es (e ∷ [])) in
    record {
      number = same.0;
      next = subst (λ (x : Entry). IsNext from es x) (sym same.1) first.1;
      left = record {
        others = ys;
        whole = whole ∙ ap (λ (x : Entry). es ++ x ∷ ys) (sym same.1) ∙ sym (append_assoc es (e ∷ []) ys);
        text = same.2 ∙ ap (λ (k : ℕ). entries_text k ys ++ end_text end) size;
      };
    }

pub next_of_left : (from : Origin) (text : List ℕ) (es : List Entry) (rest : List ℕ) (xs : List Entry) (end : End) (n : ℕ) (e : Entry) (more : List ℕ)
    → IsBody from text xs end → Left from es rest xs end → from.number + length es < 2 ^ 64
    → n < 2 ^ 64 → rest ≡ entry_text n e ++ more → OnlyEntry rest n e more → Next from es rest xs end n e more
next_of_left from text es rest xs end n e more h left few small is only = next_by from text es left.others rest xs end n e more h left.whole left.text few small is only

none_by : (from : Origin) (text : List ℕ) (es others : List Entry) (rest : List ℕ) (xs : List Entry) (end : End)
    → IsBody from text xs end → xs ≡ es ++ others → rest ≡ entries_text (from.number + length es) others ++ end_text end → from.number + length es < 2 ^ 64
    → NoEntry rest → (es ≡ xs) × (rest ≡ end_text end)
none_by from text es [] rest xs end h whole left few none = (sym (whole ∙ append-nil es), left)
none_by from text es (y ∷ ys) rest xs end h whole left few none =
    let first = first_of_left from es ys y xs h.entries whole few in
    absurd (none (from.number + length es) y (entries_text (from.number + length es + 1) ys ++ end_text end) first.0 (left ∙ append_assoc (entry_text (from.number + length es) y) (entries_text (from.number + length es + 1) ys) (end_text end)))

-- no entry is left
pub none_left : (from : Origin) (text : List ℕ) (es : List Entry) (rest : List ℕ) (xs : List Entry) (end : End)
    → IsBody from text xs end → Left from es rest xs end → from.number + length es < 2 ^ 64 → NoEntry rest → (es ≡ xs) × (rest ≡ end_text end)
none_left from text es rest xs end h left few none = none_by from text es left.others rest xs end h left.whole left.text few none

append_empty : (xs ys : List ℕ) → [] ≡ xs ++ ys → ys ≡ []
append_empty [] ys e = sym e
append_empty (x ∷ xs) ys e = absurd cc

pub some_left : (from : Origin) (es xs : List Entry) (end : End) → Left from es [] xs end → ⊥
some_left from es xs end left =
    end_is_some end [] (sym (append_empty (entries_text (from.number + length es) left.others) (end_text end) left.text) ∙ sym (append-nil (end_text end)))

-- nothing was read
pub starts_none : (from : Origin) (text : List ℕ) → BeginsWith from text [] text
starts_none from text = record { entries = record { fits = All-nil Fits; numbered = tt; answered = tt }; whole = refl }

-- one entry more
pub starts_more : (from : Origin) (text : List ℕ) (es : List Entry) (rest : List ℕ) (n : ℕ) (e : Entry) (more : List ℕ)
    → BeginsWith from text es rest → rest ≡ entry_text n e ++ more → n ≡ from.number + length es → IsNext from es e → IsEntry n e
    → BeginsWith from text (es ++ e ∷ []) more
starts_more from text es rest n e more h is number next entry =
    let grown : entries_text from.number (es ++ e ∷ []) ≡ entries_text from.number es ++ entry_text n e =
    entries_text-more from.number es e ∙ ap (λ (k : ℕ). entries_text from.number es ++ entry_text k e) (omega (arith, number)) in
    record {
      entries = record {
        fits = fits-more es e h.entries.fits entry.fits;
        numbered = numbered-more from es [] e h.entries.numbered next;
        answered = answers-more es e h.entries.answered entry.answered;
      };
      whole = h.whole ∙ ap (λ (t : List ℕ). entries_text from.number es ++ t) is ∙ sym (append_assoc (entries_text from.number es) (entry_text n e) more)
          ∙ ap (λ (t : List ℕ). t ++ more) (sym grown);
    }

-- what is wrong with an end is wrong with the text
pub last_is_body : (from : Origin) (text rest : List ℕ) (es : List Entry) (lines line : ℕ) (w : Why) → BeginsWith from text es rest → lines ≡ from.lines + length es
    → NoEntry rest → (rest ≡ [] → ⊥) → IsLastFault lines rest line w → IsBodyFault from text line w
last_is_body from text rest es lines line why.Grammar starts is none some f = record {
  es = es;
  rest = rest;
  starts = starts;
  fault = (f.0 ∙ omega (arith, is), record { some = some; no_entry = λ n e more entry is. none n e more entry is; no_end = f.1 });
}
last_is_body from text rest es lines line why.Extra starts is none some f = record { es = es; rest = rest; starts = starts; fault = (f.0 ∙ omega (arith, is), f.1) }
last_is_body from text rest es lines line why.OutOfMemory starts is none some f = f
last_is_body from text rest es lines line _ starts is none some f = absurd f

-- the origin that a reader was told
abbrev pub origin_first : First → Origin
origin_first first = record { machines = first.machines; number = first.number; lines = first.lines; made = λ (m : MNo). slice_index first.made m.0 }

pub is_first : (first : First) → IsSmall first → IsFirst first (origin_first first)
is_first first small = record { small = small; machines = refl; number = refl; lines = refl; made = λ m lt. refl }

-- ---- how many entries each machine has

abbrev pub Counts : Origin → List ℕ → List Entry → Type 0
Counts from counts es = (length counts ≡ 64) × ((m : MNo) → m.0 < 64 → get_or counts m.0 0 ≡ from.made m + turns m es)

turns-more : (m : MNo) (es : List Entry) (e : Entry) → turns m (es ++ e ∷ []) ≡ turns m es + cond (e.m.0 == m.0) 1 0
turns-more m es e = sum_by-append (λ (x : Entry). cond (x.m.0 == m.0) 1 0) es (e ∷ []) ∙ omega arith

pub counts_start : (from : Origin) (counts : List ℕ) → length counts ≡ 64 → ((m : MNo) → m.0 < 64 → get_or counts m.0 0 ≡ from.made m) → Counts from counts []
counts_start from counts size made = (size, λ m lt. made m lt ∙ omega arith)

pub counts_more : (from : Origin) (counts : List ℕ) (es : List Entry) (e : Entry) → Counts from counts es → e.m.0 < 64
    → Counts from (set counts e.m.0 (get_or counts e.m.0 0 + 1)) (es ++ e ∷ [])
counts_more from counts es e h there = (
  length-set counts e.m.0 _ ∙ h.0,
  λ m lt. elim (eqb_tells e.m.0 m.0) [
    | inl same ↦ rw (turns-more m es e, same.0) (get_or-set_at counts e.m.0 m.0 _ 0 (sym same.1) (omega (arith, h.0)) ∙ ap (λ (k : ℕ). k + 1) (ap (λ (k : ℕ). get_or counts k 0) same.1 ∙ h.1 m lt) ∙ omega arith)
    | inr other ↦ rw (turns-more m es e, other.0) (get_or-set_other counts e.m.0 m.0 _ 0 (λ q. other.1 (sym q)) ∙ h.1 m lt ∙ omega arith)
  ],
)

-- an element is no more than the sum
pub each_within : (xs : List ℕ) (i : ℕ) → slice_index xs i ≤ sum xs
each_within [] i = omega arith
each_within (x ∷ xs) zero = let all = sum_by-cons (λ (n : ℕ). n) x xs in omega (arith, all)
each_within (x ∷ xs) (suc i) = let all = sum_by-cons (λ (n : ℕ). n) x xs in let rest = each_within xs i in omega (arith, all, rest)

below_too : (m k : ℕ) → k < m + 1 → (m ≡ k → ⊥) → k < m
below_too m k lt other = omega (arith, lt, other)

-- one place more of an array is copied
pub copied_next : (old from : List ℕ) (m x : ℕ) → length old ≡ 64 → m < 64 → x ≡ get_or from m 0 → ((k : ℕ) → k < m → get_or old k 0 ≡ get_or from k 0)
    → (k : ℕ) → k < m + 1 → get_or (set old m x) k 0 ≡ get_or from k 0
copied_next old from m x size low is before k lt =
    elim (eqb_tells m k) [
      | inl same ↦ get_or-set_at old m k x 0 (sym same.1) (omega (arith, size)) ∙ is ∙ ap (λ (n : ℕ). get_or from n 0) same.1
      | inr other ↦ get_or-set_other old m k x 0 (λ q. other.1 (sym q)) ∙ before k (below_too m k lt (λ q. other.1 q))
    ]

pub turn_small : (m : MNo) (es : List Entry) → turns m es ≤ length es
turn_small m es = count_by-le-length (λ (e : Entry). e.m.0 == m.0) es

-- a text that begins with a line is longer by two at least than what is behind the line
some_fields : (e : Entry) → 1 ≤ length (fields (entry_pieces e))
some_fields e = omega arith

pub shorter : (n : ℕ) (e : Entry) (rest more : List ℕ) → rest ≡ entry_text n e ++ more → length more + 2 ≤ length rest
shorter n e rest more is =
    omega (arith, ap length (is ∙ rest_of_line n e more), length-append (decimal n) (fields (entry_pieces e) ++ 10 ∷ more), length-append (fields (entry_pieces e)) (10 ∷ more), some_fields e)
