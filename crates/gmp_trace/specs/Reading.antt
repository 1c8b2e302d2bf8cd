-- Which texts are traces, and what is wrong with the others.
use Rattle.std.specs.Prelude.{ℕ, ◌+◌, ◌<◌, ◌^◌, ◌≡◌, ◌≢◌, List, [], ◌++◌, true, length, All, IsTrue}
use Rattle.std.specs.List.{AllByRecursion}
use Rattle.gmp_base.specs.Fits.{IsWord}
use Rattle.gmp_seq.specs.declared.call.Entry.{Entry}
use Rattle.gmp_seq.specs.declared.call.Limits.{Limits}
use Rattle.gmp_seq.specs.Fits.{AreLimits, Fits}
use Rattle.gmp_trace.specs.declared.bad.Why.{Why}
use Rattle.gmp_trace.specs.declared.bad.Why.TheVariants as why
use Rattle.gmp_trace.specs.declared.trace.End.{End}
use Rattle.gmp_trace.specs.HasText.{AreNumbered, IsBeginning, Origin, answers, origin, turns}
use Rattle.gmp_trace.specs.StartWhole.{IsStartFault}
use Rattle.gmp_trace.specs.Pieces.{capacities_text, end_text, entries_text, entry_text, limits_text}
use Rattle.gmp_trace.specs.Text.{Begins, beginning_text, header, start_version, suits}
use Rattle.gmp_trace.specs.declared.trace.Version.{Version}
use Rattle.gmp_trace.specs.declared.trace.Version.TheVariants.{One}

-- Lines

-- each number is within its type
pub record FitLimits (limits : Limits) (bodies : ℕ) : Type 0 where
  pub procs : limits.procs < 2 ^ 8
  pub machines : limits.machines < 2 ^ 8
  pub stock : bodies < 2 ^ 16
  pub channels : limits.channels < 2 ^ 16
  pub entries : limits.entries < 2 ^ 64
  pub room : limits.room < 2 ^ 32

-- an entry by the table, with its number
pub record IsEntry (n : ℕ) (e : Entry) : Type 0 where
  pub number : IsWord n
  pub fits : Fits e
  pub answered : IsTrue (answers e.call e.reply)

-- Behind the lines before the entries

-- the entry may stand behind these
abbrev pub IsNext : Origin → List Entry → Entry → Type 0
IsNext from before e = (e.m.0 < from.machines) × (e.k ≡ from.made e.m + turns e.m before)

-- entries by the table, in their order
pub record AreEntries (from : Origin) (es : List Entry) : Type 0 where
  pub fits : All Fits es
  pub numbered : AreNumbered from [] es
  pub answered : AllByRecursion (λ (e : Entry). IsTrue (answers e.call e.reply)) es

-- the text has the lines of these entries, and then the rest
pub record BeginsWith (from : Origin) (text : List ℕ) (es : List Entry) (rest : List ℕ) : Type 0 where
  pub entries : AreEntries from es
  pub whole : text ≡ entries_text from.number es ++ rest

-- the text has the lines of these entries and of this end
pub record IsBody (from : Origin) (text : List ℕ) (es : List Entry) (end : End) : Type 0 where
  pub entries : AreEntries from es
  pub whole : text ≡ entries_text from.number es ++ end_text end

-- the text begins with the line of no entry and of no end
pub record IsUngrammatical (text : List ℕ) : Type 0 where
  pub some : text ≢ []
  pub no_entry : (n : ℕ) (e : Entry) (more : List ℕ) → IsEntry n e → text ≢ entry_text n e ++ more
  pub no_end : (end : End) (more : List ℕ) → text ≢ end_text end ++ more

-- the text begins with the line of an entry that may not stand behind these
pub record IsMisnumbered (from : Origin) (es : List Entry) (text : List ℕ) : Type 0 where
  pub n : ℕ
  pub e : Entry
  pub more : List ℕ
  pub entry : IsEntry n e
  pub whole : text ≡ entry_text n e ++ more
  pub wrong : n ≡ from.number + length es → IsNext from es e → ⊥

-- the text begins with the line of an end, and goes on
pub record ReadsOn (text : List ℕ) : Type 0 where
  pub end : End
  pub more : List ℕ
  pub some : more ≢ []
  pub whole : text ≡ end_text end ++ more

-- what is wrong behind these entries
abbrev pub IsRestFault : Origin → List Entry → List ℕ → ℕ → Why → Type 0
IsRestFault from es rest line why.Grammar = (line ≡ from.lines + length es + 1) × IsUngrammatical rest
IsRestFault from es rest line why.Number = (line ≡ from.lines + length es + 1) × IsMisnumbered from es rest
IsRestFault from es rest line why.End = (line ≡ from.lines + length es + 1) × (rest ≡ [])
IsRestFault from es rest line why.Extra = (line ≡ from.lines + length es + 2) × ReadsOn rest
IsRestFault from es rest line other = ⊥

-- some entries in their order, and what is wrong behind them
pub record IsFaultBehind (from : Origin) (text : List ℕ) (line : ℕ) (what : Why) : Type 0 where
  pub es : List Entry
  pub rest : List ℕ
  pub starts : BeginsWith from text es rest
  pub fault : IsRestFault from es rest line what

-- what is wrong behind the lines before the entries
abbrev pub IsBodyFault : Origin → List ℕ → ℕ → Why → Type 0
IsBodyFault from text line why.OutOfMemory = line ≡ 0
IsBodyFault from text line what = IsFaultBehind from text line what

-- what is wrong with a text as that of an end, behind so many lines
abbrev pub IsLastFault : ℕ → List ℕ → ℕ → Why → Type 0
IsLastFault lines text line why.Grammar = (line ≡ lines + 1) × ((end : End) (more : List ℕ) → text ≢ end_text end ++ more)
IsLastFault lines text line why.Extra = (line ≡ lines + 2) × ReadsOn text
IsLastFault lines text line why.OutOfMemory = line ≡ 0
IsLastFault lines text line what = ⊥

-- The text

-- line 1 is that of no version
abbrev pub IsHeaderFault : List ℕ → Type 0
IsHeaderFault text = (v : Version) (rest : List ℕ) → text ≢ header v ++ rest

-- line 2 is not of its form, a number is out of range, or the limits are not of the version
pub record IsLimitsFault (text : List ℕ) : Type 0 where
  pub version : Version
  pub rest : List ℕ
  pub whole : text ≡ header version ++ rest
  pub none : (limits : Limits) (bodies : ℕ) (more : List ℕ) → AreLimits limits bodies [] → suits version limits ≡ true → rest ≢ limits_text limits bodies ++ more

-- the text has this version and these limits, and then the rest
pub record HasLimits (text : List ℕ) (version : Version) (limits : Limits) (bodies : ℕ) (rest : List ℕ) : Type 0 where
  pub range : AreLimits limits bodies []
  pub of_version : suits version limits ≡ true
  pub whole : text ≡ header version ++ (limits_text limits bodies ++ rest)

-- line 3 of version 1 is not of its form, or breaks the limits of line 2
pub record IsCapsFault (text : List ℕ) : Type 0 where
  pub limits : Limits
  pub bodies : ℕ
  pub rest : List ℕ
  pub lines : HasLimits text One limits bodies rest
  pub none : (capacities more : List ℕ) → AreLimits limits bodies capacities → rest ≢ capacities_text capacities ++ more

-- in versions 2 and 4 this is the first line of the start that is bad
pub record IsBadStart (text : List ℕ) (line : ℕ) : Type 0 where
  pub limits : Limits
  pub bodies : ℕ
  pub rest : List ℕ
  pub lines : HasLimits text (start_version limits) limits bodies rest
  pub fault : IsStartFault limits bodies rest line

-- the lines before the entries are right, and something is wrong behind them
pub record IsLaterFault (text : List ℕ) (line : ℕ) (what : Why) : Type 0 where
  pub limits : Limits
  pub bodies : ℕ
  pub begins : Begins
  pub rest : List ℕ
  pub beginning : IsBeginning limits bodies begins
  pub whole : text ≡ beginning_text limits bodies begins ++ rest
  pub fault : IsFaultBehind (origin limits.machines begins) rest line what

-- what is wrong with a text: its first bad line, and why
abbrev pub IsFault : List ℕ → ℕ → Why → Type 0
IsFault text line why.Header = (line ≡ 1) × IsHeaderFault text
IsFault text line why.Limits = (line ≡ 2) × IsLimitsFault text
IsFault text line why.Caps = (line ≡ 3) × IsCapsFault text
IsFault text line why.Start = IsBadStart text line
IsFault text line why.OutOfMemory = line ≡ 0
IsFault text line what = IsLaterFault text line what
