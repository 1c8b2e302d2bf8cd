-- At most one line and one word fit a text, and none fits the text of a trace.
use Rattle.std.proofs.Common.{◌≡◌, ◌≢◌, ℕ, ◌+◌, ◌<◌, ◌≤◌, ◌^◌, true, List, [], ◌∷◌, ◌++◌, length, map, take, drop, refl, sym, ap, subst, ◌∙◌, append_assoc, arith, length-append, All}
use Rattle.std.proofs.lemmas.List.{append-nil}
use Rattle.gmp_seq.specs.declared.call.Entry.{Entry}
use Rattle.gmp_seq.specs.declared.call.Limits.{Limits}
use Rattle.gmp_seq.specs.Fits.{AreLimits}
use Rattle.gmp_trace.specs.declared.bad.Why.{Why}
use Rattle.gmp_trace.specs.declared.bad.Why.TheVariants as why
use Rattle.gmp_trace.specs.declared.trace.End.{End}
use Rattle.gmp_trace.specs.Guess.{bodies_of, capacity_of, end_in, entry_of, limits_read, number_read, word_at, words_on}
use Rattle.gmp_trace.specs.HasText.{HasText, IsBeginning, Origin, origin}
use Rattle.gmp_trace.specs.Reading.{AreEntries, FitLimits, HasLimits, IsBadStart, IsBody, IsCapsFault, IsEntry, IsFault, IsFaultBehind, IsHeaderFault, IsLaterFault, IsLimitsFault, IsMisnumbered, IsNext, IsRestFault, BeginsWith}
use Rattle.gmp_trace.specs.StartWhole.{IsStart, IsStartFault}
use Rattle.gmp_seq.specs.State.{State}
use Rattle.gmp_trace.specs.Pieces.{capacities_text, end_text, entries_text, entry_text, limits_text}
use Rattle.gmp_trace.specs.Text.{Begins, Content, beginning_text, begins_text, first_number, header, start_version, suits, text, version_of}
use Rattle.gmp_trace.specs.Text.Begins.{AtOpening, AtState}
use Rattle.gmp_trace.specs.declared.trace.Version.{Version}
use Rattle.gmp_trace.specs.declared.trace.Version.TheVariants.{One}
use Rattle.gmp_trace.proofs.Body.{end_is_some, entry_is_no_end, first_of_left, shorter}
use Rattle.gmp_trace.proofs.Lines.{guessed_end, guessed_entry, same_rest}
use Rattle.gmp_trace.proofs.Opening.{are_of_types, guessed_capacities, guessed_limits}
use Rattle.gmp_trace.proofs.Parts.{behind_beginning, beginning_parts, body_of, few_capacities, no_start_version, one_version, range_of, same_limits, small_capacities, suits_beginning, suits_moved}
use Rattle.gmp_trace.proofs.StartFault.{no_start_fault, one_start_fault, start_once}

-- ---- a line fixes what it says and what is behind it

limits_once : (l m : Limits) (bodies stock : ℕ) (more behind : List ℕ) → FitLimits l bodies → FitLimits m stock
    → limits_text l bodies ++ more ≡ limits_text m stock ++ behind → (l ≡ m) × (bodies ≡ stock) × (more ≡ behind)
limits_once l m bodies stock more behind h k same =
    let bytes : List ℕ = limits_text l bodies ++ more in
    let words : List (List ℕ) = take 4110 (words_on [] bytes) in
    let line : List ℕ = limits_text (limits_read words) (bodies_of words) in
    let one = guessed_limits bytes line words (limits_read words) l (bodies_of words) bodies more refl refl refl refl h refl in
    let two = guessed_limits bytes line words (limits_read words) m (bodies_of words) stock behind refl refl refl refl k same in
    (sym one.0 ∙ two.0, sym one.1 ∙ two.1, same_rest bytes line more behind one.2 two.2)

capacities_once : (cs ds more behind : List ℕ) → All (λ c. c < 2 ^ 32) cs → All (λ c. c < 2 ^ 32) ds → length cs < 1030 → length ds < 1030
    → capacities_text cs ++ more ≡ capacities_text ds ++ behind → more ≡ behind
capacities_once cs ds more behind h k few short same =
    let bytes : List ℕ = capacities_text cs ++ more in
    let words : List (List ℕ) = take 4110 (words_on [] bytes) in
    let guess : List ℕ = map capacity_of (drop 1 words) in
    let line : List ℕ = capacities_text guess in
    let one = guessed_capacities bytes line words guess cs more refl refl refl h few refl in
    let two = guessed_capacities bytes line words guess ds behind refl refl refl k short same in
    same_rest bytes line more behind one.1 two.1

entry_once : (m n : ℕ) (d e : Entry) (more behind : List ℕ) → IsEntry m d → IsEntry n e → entry_text m d ++ more ≡ entry_text n e ++ behind
    → (m ≡ n) × (d ≡ e) × (more ≡ behind)
entry_once m n d e more behind h k same =
    let bytes : List ℕ = entry_text m d ++ more in
    let words : List (List ℕ) = take 4110 (words_on [] bytes) in
    let first : List ℕ = word_at 0 words in
    let line : List ℕ = entry_text (number_read first) (entry_of words) in
    let one = guessed_entry bytes line first words (number_read first) (entry_of words) m d more refl refl refl refl refl h refl in
    let two = guessed_entry bytes line first words (number_read first) (entry_of words) n e behind refl refl refl refl refl k same in
    (sym one.0 ∙ two.0, sym one.1 ∙ two.1, same_rest bytes line more behind one.2 two.2)

end_once : (end other : End) (more behind : List ℕ) → end_text end ++ more ≡ end_text other ++ behind → more ≡ behind
end_once end other more behind same =
    let bytes : List ℕ = end_text end ++ more in
    let words : List (List ℕ) = take 4110 (words_on [] bytes) in
    let line : List ℕ = end_text (end_in words) in
    let one = guessed_end bytes line words (end_in words) end more refl refl refl refl in
    let two = guessed_end bytes line words (end_in words) other behind refl refl refl same in
    same_rest bytes line more behind one.1 two.1

-- ---- where the entries stop

-- no next entry follows these
abbrev Stops : Origin → List Entry → List ℕ → Type 0
Stops from es rest = (e : Entry) (more : List ℕ) → IsEntry (from.number + length es) e → IsNext from es e → rest ≡ entry_text (from.number + length es) e ++ more → ⊥

-- the text has the lines of these entries, and no next one behind them
record Ends (from : Origin) (bytes : List ℕ) (es : List Entry) (rest : List ℕ) : Type 0 where
  starts : BeginsWith from bytes es rest
  stops : Stops from es rest

few_entries : (n : ℕ) (es : List Entry) (rest : List ℕ) → length es + length es ≤ length (entries_text n es ++ rest)
few_entries n [] rest = omega arith
few_entries n (e ∷ es) rest =
    let less = shorter n e (entries_text n (e ∷ es) ++ rest) (entries_text (n + 1) es ++ rest) (append_assoc (entry_text n e) (entries_text (n + 1) es) rest) in
    omega (arith, less, few_entries (n + 1) es rest)

-- what stops behind the front has no entry there
never_more : (from : Origin) (xs zs front : List Entry) (e : Entry) (es : List Entry) (rest more : List ℕ) → AreEntries from zs → from.number + length zs < 2 ^ 64
    → Stops from xs rest → xs ≡ front ++ [] → zs ≡ front ++ e ∷ es → rest ≡ entry_text (from.number + length front) e ++ more → ⊥
never_more from xs zs front e es rest more are few stops none some is =
    let first = first_of_left from front es e zs are some (omega (arith, few, ap length some, length-append front (e ∷ es))) in
    subst (λ (l : List Entry). Stops from l rest) (none ∙ append-nil front) stops e more first.0 first.1 is

same_entries : (from : Origin) (xs zs front ds es : List Entry) (rest other : List ℕ) → AreEntries from xs → AreEntries from zs
    → from.number + length xs < 2 ^ 64 → from.number + length zs < 2 ^ 64 → Stops from xs rest → Stops from zs other → xs ≡ front ++ ds → zs ≡ front ++ es
    → entries_text (from.number + length front) ds ++ rest ≡ entries_text (from.number + length front) es ++ other → (xs ≡ zs) × (rest ≡ other)
same_entries from xs zs front [] [] rest other h k few short stops stops_too p q is = (p ∙ sym q, is)
same_entries from xs zs front [] (e ∷ es) rest other h k few short stops stops_too p q is =
    absurd (never_more from xs zs front e es rest (entries_text (from.number + length front + 1) es ++ other) k short stops p q
    (is ∙ append_assoc (entry_text (from.number + length front) e) (entries_text (from.number + length front + 1) es) other))
same_entries from xs zs front (d ∷ ds) [] rest other h k few short stops stops_too p q is =
    absurd (never_more from zs xs front d ds other (entries_text (from.number + length front + 1) ds ++ rest) h few stops_too q p
    (sym is ∙ append_assoc (entry_text (from.number + length front) d) (entries_text (from.number + length front + 1) ds) rest))
same_entries from xs zs front (d ∷ ds) (e ∷ es) rest other h k few short stops stops_too p q is =
    let n : ℕ = from.number + length front in
    let one = first_of_left from front ds d xs h p (omega (arith, few, ap length p, length-append front (d ∷ ds))) in
    let two = first_of_left from front es e zs k q (omega (arith, short, ap length q, length-append front (e ∷ es))) in
    let same = entry_once n n d e (entries_text (n + 1) ds ++ rest) (entries_text (n + 1) es ++ other) one.0 two.0
    (sym (append_assoc (entry_text n d) (entries_text (n + 1) ds) rest) ∙ is ∙ append_assoc (entry_text n e) (entries_text (n + 1) es) other) in
    let size : n + 1 ≡ from.number + length (front ++ d ∷ []) = omega (arith, length-append front (d ∷ [])) in
    same_entries from xs zs (front ++ d ∷ []) ds es rest other h k few short stops stops_too
    (p ∙ sym (append_assoc front (d ∷ []) ds))
    (q ∙ ap (λ (x : Entry). front ++ x ∷ es) (sym same.1) ∙ sym (append_assoc front (d ∷ []) es))
    (subst (λ (i : ℕ). entries_text i ds ++ rest ≡ entries_text i es ++ other) size same.2)

no_more : (n : ℕ) → n ≡ n + length {A = Entry} []
no_more n = omega arith

-- a text's entries stop at one place
stops_once : (from : Origin) (bytes : List ℕ) (xs zs : List Entry) (rest other : List ℕ) → from.number < 2 ^ 63 → length bytes < 2 ^ 64 → Ends from bytes xs rest → Ends from bytes zs other
    → (xs ≡ zs) × (rest ≡ other)
stops_once from bytes xs zs rest other young small a b =
    same_entries from xs zs [] xs zs rest other a.starts.entries b.starts.entries
    (omega (arith, young, small, ap length a.starts.whole, few_entries from.number xs rest))
    (omega (arith, young, small, ap length b.starts.whole, few_entries from.number zs other))
    a.stops b.stops refl refl
    (subst (λ (n : ℕ). entries_text n xs ++ rest ≡ entries_text n zs ++ other) (no_more from.number) (sym a.starts.whole ∙ b.starts.whole))

-- ---- behind the lines before the entries

not_misnumbered : (from : Origin) (es : List Entry) (rest : List ℕ) (e : Entry) (more : List ℕ) → IsMisnumbered from es rest → IsEntry (from.number + length es) e → IsNext from es e
    → rest ≡ entry_text (from.number + length es) e ++ more → ⊥
not_misnumbered from es rest e more f entry next is =
    let same = entry_once f.n (from.number + length es) f.e e f.more more f.entry entry (sym f.whole ∙ is) in
    f.wrong same.0 (subst (λ (x : Entry). IsNext from es x) (sym same.1) next)

entry_is_some : (n : ℕ) (e : Entry) (more : List ℕ) → [] ≡ entry_text n e ++ more → ⊥
entry_is_some n e more is = let less = shorter n e [] more is in omega (arith, less)

-- where something is wrong, no next entry follows
fault_stops : (from : Origin) (es : List Entry) (rest : List ℕ) (line : ℕ) (what : Why) → IsRestFault from es rest line what → Stops from es rest
fault_stops from es rest line why.Grammar f = λ e more entry next is. f.1.no_entry (from.number + length es) e more entry is
fault_stops from es rest line why.Number f = λ e more entry next is. not_misnumbered from es rest e more f.1 entry next is
fault_stops from es rest line why.End f = λ e more entry next is. entry_is_some (from.number + length es) e more (sym f.1 ∙ is)
fault_stops from es rest line why.Extra f = λ e more entry next is. entry_is_no_end (from.number + length es) e more f.1.end f.1.more entry.number (sym is ∙ f.1.whole)
fault_stops from es rest line _ f = absurd f

end_stops : (from : Origin) (es : List Entry) (end : End) → Stops from es (end_text end)
end_stops from es end e more entry next is = entry_is_no_end (from.number + length es) e more end [] entry.number (sym is ∙ sym (append-nil (end_text end)))

-- one thing is wrong behind these entries
rest_once : (from : Origin) (es : List Entry) (rest : List ℕ) (m n : ℕ) (v w : Why) → IsRestFault from es rest m v → IsRestFault from es rest n w → (m ≡ n) × (v ≡ w)
rest_once from es rest m n why.Grammar why.Grammar a b = (a.0 ∙ sym b.0, refl)
rest_once from es rest m n why.Number why.Number a b = (a.0 ∙ sym b.0, refl)
rest_once from es rest m n why.End why.End a b = (a.0 ∙ sym b.0, refl)
rest_once from es rest m n why.Extra why.Extra a b = (a.0 ∙ sym b.0, refl)
rest_once from es rest m n why.Grammar why.Number a b = absurd (a.1.no_entry b.1.n b.1.e b.1.more b.1.entry b.1.whole)
rest_once from es rest m n why.Number why.Grammar a b = absurd (b.1.no_entry a.1.n a.1.e a.1.more a.1.entry a.1.whole)
rest_once from es rest m n why.Grammar why.End a b = absurd (a.1.some b.1)
rest_once from es rest m n why.End why.Grammar a b = absurd (b.1.some a.1)
rest_once from es rest m n why.Grammar why.Extra a b = absurd (a.1.no_end b.1.end b.1.more b.1.whole)
rest_once from es rest m n why.Extra why.Grammar a b = absurd (b.1.no_end a.1.end a.1.more a.1.whole)
rest_once from es rest m n why.Number why.End a b = absurd (entry_is_some a.1.n a.1.e a.1.more (sym b.1 ∙ a.1.whole))
rest_once from es rest m n why.End why.Number a b = absurd (entry_is_some b.1.n b.1.e b.1.more (sym a.1 ∙ b.1.whole))
rest_once from es rest m n why.Number why.Extra a b = absurd (entry_is_no_end a.1.n a.1.e a.1.more b.1.end b.1.more a.1.entry.number (sym a.1.whole ∙ b.1.whole))
rest_once from es rest m n why.Extra why.Number a b = absurd (entry_is_no_end b.1.n b.1.e b.1.more a.1.end a.1.more b.1.entry.number (sym b.1.whole ∙ a.1.whole))
rest_once from es rest m n why.End why.Extra a b = absurd (end_is_some b.1.end b.1.more (sym a.1 ∙ b.1.whole))
rest_once from es rest m n why.Extra why.End a b = absurd (end_is_some a.1.end a.1.more (sym b.1 ∙ a.1.whole))
rest_once from es rest m n why.Grammar _ a b = absurd b
rest_once from es rest m n why.Number _ a b = absurd b
rest_once from es rest m n why.End _ a b = absurd b
rest_once from es rest m n why.Extra _ a b = absurd b
rest_once from es rest m n _ w a b = absurd a

-- nothing is wrong with an end alone
end_is_right : (from : Origin) (es : List Entry) (end : End) (line : ℕ) (what : Why) → IsRestFault from es (end_text end) line what → ⊥
end_is_right from es end line why.Grammar f = f.1.no_end end [] (sym (append-nil (end_text end)))
end_is_right from es end line why.Number f = entry_is_no_end f.1.n f.1.e f.1.more end [] f.1.entry.number (sym f.1.whole ∙ sym (append-nil (end_text end)))
end_is_right from es end line why.End f = end_is_some end [] (sym f.1 ∙ sym (append-nil (end_text end)))
end_is_right from es end line why.Extra f = f.1.some (sym (end_once end f.1.end [] f.1.more (append-nil (end_text end) ∙ f.1.whole)))
end_is_right from es end line _ f = f

ends_by : (from : Origin) (bytes : List ℕ) (line : ℕ) (what : Why) → (f : IsFaultBehind from bytes line what) → Ends from bytes f.es f.rest
ends_by from bytes line what f = record { starts = f.starts; stops = fault_stops from f.es f.rest line what f.fault }

behind_once : (from : Origin) (bytes : List ℕ) (m n : ℕ) (v w : Why) → from.number < 2 ^ 63 → length bytes < 2 ^ 64 → IsFaultBehind from bytes m v → IsFaultBehind from bytes n w
    → (m ≡ n) × (v ≡ w)
behind_once from bytes m n v w young small a b =
    let same = stops_once from bytes a.es b.es a.rest b.rest young small (ends_by from bytes m v a) (ends_by from bytes n w b) in
    let moved = subst (λ (r : List ℕ). IsRestFault from b.es r n w) (sym same.1) b.fault in
    rest_once from a.es a.rest m n v w a.fault (subst (λ (es : List Entry). IsRestFault from es a.rest n w) (sym same.0) moved)

behind_right : (from : Origin) (bytes : List ℕ) (es : List Entry) (end : End) (line : ℕ) (what : Why) → from.number < 2 ^ 63 → length bytes < 2 ^ 64 → IsBody from bytes es end
    → IsFaultBehind from bytes line what → ⊥
behind_right from bytes es end line what young small h f =
    let whole : Ends from bytes es (end_text end) = record { starts = record { entries = h.entries; whole = h.whole }; stops = end_stops from es end } in
    let same = stops_once from bytes f.es es f.rest (end_text end) young small (ends_by from bytes line what f) whole in
    end_is_right from f.es end line what (subst (λ (r : List ℕ). IsRestFault from f.es r line what) same.1 f.fault)

-- ---- the lines before the entries

-- they are right
record Opens (bytes : List ℕ) : Type 0 where
  limits : Limits
  bodies : ℕ
  begins : Begins
  rest : List ℕ
  beginning : IsBeginning limits bodies begins
  whole : bytes ≡ beginning_text limits bodies begins ++ rest

abbrev of_fault : (bytes : List ℕ) (line : ℕ) (what : Why) → IsLaterFault bytes line what → Opens bytes
of_fault bytes line what f = record { limits = f.limits; bodies = f.bodies; begins = f.begins; rest = f.rest; beginning = f.beginning; whole = f.whole }

abbrev of_trace : (x : Content) → HasText x → Opens (text x)
of_trace x h = record {
  limits = x.limits;
  bodies = x.bodies;
  begins = x.begins;
  rest = behind_beginning x;
  beginning = h.beginning;
  whole = append_assoc (beginning_text x.limits x.bodies x.begins) (entries_text (first_number x.begins) x.entries) (end_text x.end);
}

range : (bytes : List ℕ) (o : Opens bytes) → AreLimits o.limits o.bodies []
range bytes o = range_of o.limits o.bodies o.begins o.beginning

suited : (bytes : List ℕ) (o : Opens bytes) → suits (version_of o.limits o.begins) o.limits ≡ true
suited bytes o = suits_beginning o.limits o.bodies o.begins o.beginning

lines : (bytes : List ℕ) (o : Opens bytes) → bytes ≡ header (version_of o.limits o.begins) ++ (limits_text o.limits o.bodies ++ (begins_text o.begins ++ o.rest))
lines bytes o = o.whole ∙ beginning_parts o.limits o.bodies o.begins o.rest

right_header : (bytes : List ℕ) → Opens bytes → IsHeaderFault bytes → ⊥
right_header bytes o none = none (version_of o.limits o.begins) (limits_text o.limits o.bodies ++ (begins_text o.begins ++ o.rest)) (lines bytes o)

right_limits : (bytes : List ℕ) → Opens bytes → IsLimitsFault bytes → ⊥
right_limits bytes o f =
    let behind : List ℕ = begins_text o.begins ++ o.rest in
    let one = one_version f.version (version_of o.limits o.begins) f.rest (limits_text o.limits o.bodies ++ behind) (sym f.whole ∙ lines bytes o) in
    f.none o.limits o.bodies behind (range bytes o) (suits_moved f.version (version_of o.limits o.begins) o.limits one.0 (suited bytes o)) one.1

-- lines 1 and 2 fix what they say and what is behind them
has_limits_once : (bytes : List ℕ) (v w : Version) (l m : Limits) (bodies stock : ℕ) (rest other : List ℕ) → HasLimits bytes v l bodies rest → HasLimits bytes w m stock other
    → (v ≡ w) × (l ≡ m) × (bodies ≡ stock) × (rest ≡ other)
has_limits_once bytes v w l m bodies stock rest other a b =
    let one = one_version v w (limits_text l bodies ++ rest) (limits_text m stock ++ other) (sym a.whole ∙ b.whole) in
    let same = limits_once l m bodies stock rest other (are_of_types l bodies [] a.range) (are_of_types m stock [] b.range) one.1 in
    (one.0, same.0, same.1, same.2)

abbrev has_limits : (bytes : List ℕ) (o : Opens bytes) → HasLimits bytes (version_of o.limits o.begins) o.limits o.bodies (begins_text o.begins ++ o.rest)
has_limits bytes o = record { range = range bytes o; of_version = suited bytes o; whole = lines bytes o }

no_caps : (l : Limits) (bodies stock : ℕ) (m : Limits) (b : Begins) (more rest : List ℕ) → One ≡ version_of m b → l ≡ m → bodies ≡ stock → IsBeginning m stock b
    → rest ≡ begins_text b ++ more → ((capacities more : List ℕ) → AreLimits l bodies capacities → rest ≢ capacities_text capacities ++ more) → ⊥
no_caps l bodies stock m (AtOpening capacities) more rest v p q h is none = none capacities more (same_limits l m bodies stock capacities p q h.0) is
no_caps l bodies stock m (AtState s) more rest v p q h is none = no_start_version m v

right_caps : (bytes : List ℕ) → Opens bytes → IsCapsFault bytes → ⊥
right_caps bytes o f =
    let same = has_limits_once bytes One (version_of o.limits o.begins) f.limits o.limits f.bodies o.bodies f.rest (begins_text o.begins ++ o.rest) f.lines (has_limits bytes o) in
    no_caps f.limits f.bodies o.bodies o.limits o.begins o.rest f.rest same.0 same.1 same.2 o.beginning same.3 f.none

no_bad_start : (l : Limits) (bodies stock : ℕ) (m : Limits) (b : Begins) (more rest : List ℕ) (line : ℕ) → start_version l ≡ version_of m b → l ≡ m → bodies ≡ stock → IsBeginning m stock b
    → rest ≡ begins_text b ++ more → IsStartFault l bodies rest line → ⊥
no_bad_start l bodies stock m (AtOpening capacities) more rest line v p q h is f = no_start_version l (sym v)
no_bad_start l bodies stock m (AtState s) more rest line v p q h is f =
    no_start_fault m stock (begins_text (AtState s) ++ more) s more line h.0 (record { whole = refl; start = h.1 })
    (subst (λ (t : List ℕ). IsStartFault m stock t line) is (subst (λ (n : ℕ). IsStartFault m n rest line) q (subst (λ (k : Limits). IsStartFault k bodies rest line) p f)))

right_begin : (bytes : List ℕ) (line : ℕ) → Opens bytes → IsBadStart bytes line → ⊥
right_begin bytes line o f =
    let same = has_limits_once bytes (start_version f.limits) (version_of o.limits o.begins) f.limits o.limits f.bodies o.bodies f.rest (begins_text o.begins ++ o.rest) f.lines (has_limits bytes o) in
    no_bad_start f.limits f.bodies o.bodies o.limits o.begins o.rest f.rest line same.0 same.1 same.2 o.beginning same.3 f.fault

-- the beginning fixes where the entries begin, and the text from there
begins_once : (l m : Limits) (bodies stock : ℕ) (b d : Begins) (rest other : List ℕ) → version_of l b ≡ version_of m d → l ≡ m → bodies ≡ stock → IsBeginning l bodies b → IsBeginning m stock d
    → begins_text b ++ rest ≡ begins_text d ++ other → (origin l.machines b ≡ origin m.machines d) × (rest ≡ other)
begins_once l m bodies stock (AtOpening cs) (AtOpening ds) rest other v p q h k is = (
  ap (λ (x : Limits). origin x.machines (AtOpening [])) p,
  capacities_once cs ds rest other (small_capacities l bodies cs h.0) (small_capacities m stock ds k.0) (few_capacities l bodies cs h.0) (few_capacities m stock ds k.0) is,
)
begins_once l m bodies stock (AtOpening cs) (AtState t) rest other v p q h k is = absurd (no_start_version m v)
begins_once l m bodies stock (AtState s) (AtOpening ds) rest other v p q h k is = absurd (no_start_version l (sym v))
begins_once l m bodies stock (AtState s) (AtState t) rest other v p q h k is =
    let moved = subst (λ (n : ℕ). IsStart l n t) (sym q) (subst (λ (x : Limits). IsStart x stock t) (sym p) k.1) in
    let same = start_once l bodies (begins_text (AtState s) ++ rest) s t rest other h.0 (record { whole = refl; start = h.1 }) (record { whole = is; start = moved }) in
    (ap (λ (x : Limits). origin x.machines (AtState s)) p ∙ ap (λ (x : State). origin m.machines (AtState x)) same.0, same.1)

opens_once : (bytes : List ℕ) (a b : Opens bytes) → (origin a.limits.machines a.begins ≡ origin b.limits.machines b.begins) × (a.rest ≡ b.rest)
opens_once bytes a b =
    let same = has_limits_once bytes (version_of a.limits a.begins) (version_of b.limits b.begins) a.limits b.limits a.bodies b.bodies (begins_text a.begins ++ a.rest) (begins_text b.begins ++ b.rest)
    (has_limits bytes a) (has_limits bytes b) in
    begins_once a.limits b.limits a.bodies b.bodies a.begins b.begins a.rest b.rest same.0 same.1 same.2 a.beginning b.beginning same.3

small_rest : (bytes : List ℕ) (o : Opens bytes) → length bytes < 2 ^ 64 → length o.rest < 2 ^ 64
small_rest bytes o small = omega (arith, small, ap length o.whole, length-append (beginning_text o.limits o.bodies o.begins) o.rest)

young : (l : Limits) (bodies machines : ℕ) (b : Begins) → IsBeginning l bodies b → (origin machines b).number < 2 ^ 63
young l bodies machines (AtOpening capacities) h = omega arith
young l bodies machines (AtState s) h = let few = h.1.together.entries in let most = h.0.entries.1 in omega (arith, few, most)

moved_fault : (from to : Origin) (rest other : List ℕ) (line : ℕ) (what : Why) → from ≡ to → rest ≡ other → IsFaultBehind to other line what → IsFaultBehind from rest line what
moved_fault from to rest other line what p q f =
    subst (λ (r : List ℕ). IsFaultBehind from r line what) (sym q) (subst (λ (o : Origin). IsFaultBehind o other line what) (sym p) f)

-- ---- the text

later_once : (bytes : List ℕ) (m n : ℕ) (v w : Why) → length bytes < 2 ^ 64 → IsLaterFault bytes m v → IsLaterFault bytes n w → (m ≡ n) × (v ≡ w)
later_once bytes m n v w small a b =
    let one = of_fault bytes m v a in
    let two = of_fault bytes n w b in
    let same = opens_once bytes one two in
    behind_once (origin a.limits.machines a.begins) a.rest m n v w (young a.limits a.bodies a.limits.machines a.begins a.beginning) (small_rest bytes one small) a.fault
    (moved_fault (origin a.limits.machines a.begins) (origin b.limits.machines b.begins) a.rest b.rest n w same.0 same.1 b.fault)

trace_is_right : (x : Content) (line : ℕ) (what : Why) → length (text x) < 2 ^ 64 → HasText x → IsLaterFault (text x) line what → ⊥
trace_is_right x line what small h f =
    let same = opens_once (text x) (of_trace x h) (of_fault (text x) line what f) in
    behind_right (origin x.limits.machines x.begins) (behind_beginning x) x.entries x.end line what (young x.limits x.bodies x.limits.machines x.begins h.beginning)
    (small_rest (text x) (of_trace x h) small) (body_of x (behind_beginning x) h refl)
    (moved_fault (origin x.limits.machines x.begins) (origin f.limits.machines f.begins) (behind_beginning x) f.rest line what same.0 same.1 f.fault)

-- line 2 is right where line 3 is looked at
not_both : (bytes : List ℕ) (v : Version) (l : Limits) (bodies : ℕ) (rest : List ℕ) → IsLimitsFault bytes → HasLimits bytes v l bodies rest → ⊥
not_both bytes v l bodies rest a b =
    let one = one_version a.version v a.rest (limits_text l bodies ++ rest) (sym a.whole ∙ b.whole) in
    a.none l bodies rest b.range (suits_moved a.version v l one.0 b.of_version) one.1

no_header : (bytes : List ℕ) (v : Version) (l : Limits) (bodies : ℕ) (rest : List ℕ) → IsHeaderFault bytes → HasLimits bytes v l bodies rest → ⊥
no_header bytes v l bodies rest a b = a v (limits_text l bodies ++ rest) b.whole

bad_starts_once : (bytes : List ℕ) (m n : ℕ) → IsBadStart bytes m → IsBadStart bytes n → m ≡ n
bad_starts_once bytes m n a b =
    let same = has_limits_once bytes (start_version a.limits) (start_version b.limits) a.limits b.limits a.bodies b.bodies a.rest b.rest a.lines b.lines in
    one_start_fault a.limits a.bodies a.rest m n a.lines.range a.fault
    (subst (λ (t : List ℕ). IsStartFault a.limits a.bodies t n) (sym same.3)
    (subst (λ (k : ℕ). IsStartFault a.limits k b.rest n) (sym same.2) (subst (λ (x : Limits). IsStartFault x b.bodies b.rest n) (sym same.1) b.fault)))

caps_or_start : (bytes : List ℕ) (n : ℕ) → IsCapsFault bytes → IsBadStart bytes n → ⊥
caps_or_start bytes n a b =
    no_start_version b.limits (has_limits_once bytes One (start_version b.limits) a.limits b.limits a.bodies b.bodies a.rest b.rest a.lines b.lines).0

pub one_fault : (bytes : List ℕ) (m n : ℕ) (v w : Why) → length bytes < 2 ^ 64 → IsFault bytes m v → IsFault bytes n w → v ≢ why.OutOfMemory → w ≢ why.OutOfMemory
    → (m ≡ n) × (v ≡ w)
one_fault bytes m n why.OutOfMemory w small a b p q = absurd (p refl)
one_fault bytes m n v why.OutOfMemory small a b p q = absurd (q refl)
one_fault bytes m n why.Header why.Header small a b p q = (a.0 ∙ sym b.0, refl)
one_fault bytes m n why.Limits why.Limits small a b p q = (a.0 ∙ sym b.0, refl)
one_fault bytes m n why.Caps why.Caps small a b p q = (a.0 ∙ sym b.0, refl)
one_fault bytes m n why.Start why.Start small a b p q = (bad_starts_once bytes m n a b, refl)
one_fault bytes m n why.Header why.Limits small a b p q = absurd (a.1 b.1.version b.1.rest b.1.whole)
one_fault bytes m n why.Limits why.Header small a b p q = absurd (b.1 a.1.version a.1.rest a.1.whole)
one_fault bytes m n why.Header why.Caps small a b p q = absurd (no_header bytes One b.1.limits b.1.bodies b.1.rest a.1 b.1.lines)
one_fault bytes m n why.Caps why.Header small a b p q = absurd (no_header bytes One a.1.limits a.1.bodies a.1.rest b.1 a.1.lines)
one_fault bytes m n why.Header why.Start small a b p q = absurd (no_header bytes (start_version b.limits) b.limits b.bodies b.rest a.1 b.lines)
one_fault bytes m n why.Start why.Header small a b p q = absurd (no_header bytes (start_version a.limits) a.limits a.bodies a.rest b.1 a.lines)
one_fault bytes m n why.Limits why.Caps small a b p q = absurd (not_both bytes One b.1.limits b.1.bodies b.1.rest a.1 b.1.lines)
one_fault bytes m n why.Caps why.Limits small a b p q = absurd (not_both bytes One a.1.limits a.1.bodies a.1.rest b.1 a.1.lines)
one_fault bytes m n why.Limits why.Start small a b p q = absurd (not_both bytes (start_version b.limits) b.limits b.bodies b.rest a.1 b.lines)
one_fault bytes m n why.Start why.Limits small a b p q = absurd (not_both bytes (start_version a.limits) a.limits a.bodies a.rest b.1 a.lines)
one_fault bytes m n why.Caps why.Start small a b p q = absurd (caps_or_start bytes n a.1 b)
one_fault bytes m n why.Start why.Caps small a b p q = absurd (caps_or_start bytes m b.1 a)
one_fault bytes m n why.Header w small a b p q = absurd (right_header bytes (of_fault bytes n w b) a.1)
one_fault bytes m n why.Limits w small a b p q = absurd (right_limits bytes (of_fault bytes n w b) a.1)
one_fault bytes m n why.Caps w small a b p q = absurd (right_caps bytes (of_fault bytes n w b) a.1)
one_fault bytes m n why.Start w small a b p q = absurd (right_begin bytes m (of_fault bytes n w b) a)
one_fault bytes m n v why.Header small a b p q = absurd (right_header bytes (of_fault bytes m v a) b.1)
one_fault bytes m n v why.Limits small a b p q = absurd (right_limits bytes (of_fault bytes m v a) b.1)
one_fault bytes m n v why.Caps small a b p q = absurd (right_caps bytes (of_fault bytes m v a) b.1)
one_fault bytes m n v why.Start small a b p q = absurd (right_begin bytes n (of_fault bytes m v a) b)
one_fault bytes m n v w small a b p q = later_once bytes m n v w small a b

pub no_fault : (x : Content) (line : ℕ) (what : Why) → length (text x) < 2 ^ 64 → HasText x → IsFault (text x) line what → what ≡ why.OutOfMemory
no_fault x line why.OutOfMemory small h f = refl
no_fault x line why.Header small h f = absurd (right_header (text x) (of_trace x h) f.1)
no_fault x line why.Limits small h f = absurd (right_limits (text x) (of_trace x h) f.1)
no_fault x line why.Caps small h f = absurd (right_caps (text x) (of_trace x h) f.1)
no_fault x line why.Start small h f = absurd (right_begin (text x) line (of_trace x h) f)
no_fault x line what small h f = absurd (trace_is_right x line what small h f)
