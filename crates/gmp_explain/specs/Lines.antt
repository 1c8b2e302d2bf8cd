-- Facts as lines.
use Rattle.std.specs.Prelude.{◌≡◌, ℕ, zero, suc, ◌+◌, ◌==◌, nat_le, Bool, true, false, Option, None, Some, IfSome, List, [], ◌∷◌, ◌++◌, length, slice_get, take, drop, codes, if◌then◌else◌}
use Rattle.std.specs.List.{flat_map}
use Rattle.std.specs.Option.{option_map, option_map_or}
use Rattle.gmp_base.specs.declared.number.GNo.{GNo}
use Rattle.gmp_seq.specs.declared.call.Entry.{Entry}
use Rattle.gmp_seq.specs.declared.call.Limits.{Limits}
use Rattle.gmp_seq.specs.State.{State}
use Rattle.gmp_trace.specs.declared.bad.Bad.{Bad}
use Rattle.gmp_trace.specs.declared.bad.Why.{Why}
use Rattle.gmp_trace.specs.declared.bad.Why.TheVariants.{Step, Outcome}
use Rattle.gmp_trace.specs.HasText.{HasText}
use Rattle.gmp_trace.specs.Text.{Content, end_of}
use Rattle.gmp_words.specs.declared.said.Said.{Said}
use Rattle.gmp_words.specs.declared.said.Said.TheVariants.{Nothing, BadTrace}
use Rattle.gmp_check.specs.Checked.{IsFirstBad}
use Rattle.gmp_judge.specs.Judged.{IsJudged, IsRead}
use Rattle.gmp_walk.specs.Led.{IsWalked}
use Rattle.gmp_explain.specs.declared.fact.Fact.{Fact}
use Rattle.gmp_explain.specs.declared.fact.Fact.TheVariants as fact
use Rattle.gmp_explain.specs.Spoken.{Remark, TellsOf, remarks}
use Rattle.gmp_explain.specs.Stated.{state_said}
use Rattle.gmp_explain.specs.Told.{AreOfEntry, TellsEntry}
use Rattle.gmp_explain.specs.Text.{calls_text, dealers_text, fact_text, no_step_text, values_text}

-- a list in parts of n, k at most
abbrev pub parts_up_to : {A : Type 0} → ℕ → ℕ → List A → List (List A)
parts_up_to n zero xs = []
parts_up_to n (suc k) [] = []
parts_up_to n (suc k) (x ∷ xs) = take n (x ∷ xs) ∷ parts_up_to n k (drop n (x ∷ xs))

-- a list in parts of n
abbrev pub parts : {A : Type 0} → ℕ → List A → List (List A)
parts n xs = parts_up_to n (length xs) xs

-- goroutines in parts of 16; nobody is one
abbrev pub who_parts : List GNo → List (List GNo)
who_parts who = if length who == 0 then [] ∷ [] else parts 16 who

-- the place of the last space, of a byte and those behind it
abbrev pub later_space : ℕ → Option ℕ → Option ℕ
later_space b (Some i) = Some (i + 1)
later_space b None = if b == 32 then Some 0 else None

abbrev pub last_space : List ℕ → Option ℕ
last_space [] = None
last_space (b ∷ bytes) = later_space b (last_space bytes)

-- a line of 100 columns or more up to the last space among its first 100, and the rest
abbrev pub split_of : List ℕ → Option (List ℕ × List ℕ)
split_of line = if nat_le 100 (length line) then option_map (λ i. (take i line, drop (i + 1) line)) (last_space (take 100 line)) else None

-- a line in such parts, k + 1 at most
abbrev pub words_up_to : ℕ → List ℕ → List (List ℕ)
words_up_to zero line = line ∷ []
words_up_to (suc k) line = option_map_or (λ s. s.0 ∷ words_up_to k s.1) (split_of line) (line ∷ [])

-- the lines of a fact: one, but for a long list or a long entry
abbrev pub lines_of : Fact → List ℕ
lines_of (fact.Values c values) = flat_map (λ some. values_text c some ++ codes "\n") (parts 4 values.now)
lines_of (fact.Dealers c role who) = flat_map (λ some. dealers_text c role some ++ codes "\n") (who_parts who.now)
lines_of (fact.Calls who calls) = flat_map (λ some. calls_text who some ++ codes "\n") (parts 6 calls.now)
lines_of (fact.NoStep line) = flat_map (λ some. no_step_text some ++ codes "\n") (words_up_to (length line.now) line.now)
lines_of x = fact_text x ++ codes "\n"

-- are there facts where it is said that this is wrong: of a right trace, and where an entry is no step or the end is not that of the run
abbrev pub has_facts : Said → Bool
has_facts Nothing = true
has_facts (BadTrace bad) = of bad.why where
  of : Why → Bool
  of Step = true
  of Outcome = true
  of _ = false
has_facts _ = false

-- the text has the lines of one fact more
abbrev pub AddsLines : List ℕ → Fact → List ℕ → Type 0
AddsLines old x new = new ≡ old ++ lines_of x

-- the text is the lines of facts, and these are their remarks, in order
pub record Says (these : List Remark) (text : List ℕ) : Type 0 where
  pub said : List Fact
  pub lines : text ≡ flat_map lines_of said
  pub said_so : remarks said ≡ these

-- told was what is to be said of the state to which the trace's entries lead, and no other remark
pub record TellsState {S : Type 0} (told : S → Fact → S → Type 0) (x : Content) (old new : S) : Type 0 where
  pub n : ℕ
  pub last : State
  pub walked : IsWalked x n last
  pub tells : TellsOf told (state_said n last) old new

-- the text says so
pub record TellsTrace (x : Content) (text : List ℕ) : Type 0 where
  pub n : ℕ
  pub last : State
  pub walked : IsWalked x n last
  pub says : Says (state_said n last) text

-- the bytes are the text of a right trace, of which it does so
pub record TellsText (bytes text : List ℕ) : Type 0 where
  pub trace : Content
  pub right : IsJudged trace None
  pub read : IsRead bytes trace
  pub tells : TellsTrace trace text

-- told was what is to be said of the entry to which the trace's steps lead, if there is one
pub record TellsRiddle {S : Type 0} (told : S → Fact → S → Type 0) (x : Content) (old new : S) : Type 0 where
  pub n : ℕ
  pub last : State
  pub walked : IsWalked x n last
  pub tells : IfSome (slice_get x.entries n) (λ e. TellsEntry told x.limits last e old new)

-- the text says so
pub record SaysEntry (limits : Limits) (s : State) (e : Entry) (text : List ℕ) : Type 0 where
  pub these : List Remark
  pub right : AreOfEntry limits s e these
  pub says : Says these text

-- it says so of the entry to which the trace's steps lead, if there is one
pub record SaysRiddle (x : Content) (text : List ℕ) : Type 0 where
  pub n : ℕ
  pub last : State
  pub walked : IsWalked x n last
  pub says : IfSome (slice_get x.entries n) (λ e. SaysEntry x.limits last e text)

-- told was the end to which the trace's entries lead
pub record TellsEnd {S : Type 0} (told : S → Fact → S → Type 0) (x : Content) (old new : S) : Type 0 where
  pub n : ℕ
  pub last : State
  pub walked : IsWalked x n last
  pub tells : told old (fact.Leads (end_of last.outcome)) new

-- the text is the line of that end
pub record SaysEnd (x : Content) (text : List ℕ) : Type 0 where
  pub n : ℕ
  pub last : State
  pub walked : IsWalked x n last
  pub line : text ≡ lines_of (fact.Leads (end_of last.outcome))

-- the bytes are the text of a trace whose first wrong line is this, and of which P holds
pub record IsWrongText (bad : Bad) (P : Content → Type 0) (bytes : List ℕ) : Type 0 where
  pub trace : Content
  pub has_text : HasText trace
  pub read : IsRead bytes trace
  pub wrong : IsFirstBad trace bad
  pub is : P trace
