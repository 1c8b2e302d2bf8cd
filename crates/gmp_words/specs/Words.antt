-- What the words of a command line say, by what `clap` reads in them.
use Rattle.std.specs.Prelude.{◌≡◌, ◌≤◌, ◌⊎◌, ℕ, true, Bool, false, codes, ◌&&◌, ◌||◌, ◌==◌, List, [], ◌∷◌, Option, Some, None, is_some, not, min, option_map, if◌then◌else◌}
use Rattle.std.specs.List.{list_all, list_any, slice_split}
use Rattle.std.specs.Str.{bytes_eq}
use Rattle.std.specs.Option.{option_map_or}
use Rattle.clap.specs.Words.{IsAmong, Row, Text, fault_of, first_of, subcommand_of}
use Rattle.clap.specs.declared.error.kind.ErrorKind.{ErrorKind}
use Rattle.clap.specs.declared.error.kind.ErrorKind.TheVariants as kind
use Rattle.gmp_script.specs.Numbers.{parsed_number}
use Rattle.gmp_words.specs.Program.{gmp}
use Rattle.gmp_words.specs.declared.options.By.{By}
use Rattle.gmp_words.specs.declared.options.By.TheVariants as by
use Rattle.gmp_words.specs.declared.options.CommandLine.{CommandLine}
use Rattle.gmp_words.specs.declared.options.Segments.{Segments}
use Rattle.gmp_words.specs.declared.options.Settings.{Settings}
use Rattle.gmp_words.specs.declared.options.Task.{Task}
use Rattle.gmp_words.specs.declared.options.Wanted.{Wanted}
use Rattle.gmp_words.specs.declared.options.Task.TheVariants as task

-- the word for what is to be done
abbrev pub name_of : Task → Text
name_of task.Step = codes "step"
name_of task.Run = codes "run"
name_of task.Check = codes "check"
name_of task.Join = codes "join"
name_of task.Cut = codes "cut"
name_of task.Explain = codes "explain"
name_of task.Draw = codes "draw"
name_of task.Explore = codes "explore"

-- the text that an option is given
abbrev pub given : List Row → Text → Option Text
given rows option = first_of option rows

-- the number that an option is given, or the default where it is not
abbrev pub number_or : Option Text → ℕ → Option ℕ
number_or None default = Some default
number_or (Some digits) default = parsed_number digits

abbrev pub number_given : List Row → Text → ℕ → Option ℕ
number_given rows option default = number_or (given rows option) default

-- the flag is given: a flag's text says whether it is
abbrev pub is_given : List Row → Text → Bool
is_given rows flag = option_map_or (λ text. bytes_eq text (codes "true")) (given rows flag) false

-- a name of what can be wanted
abbrev pub is_name : Text → Bool
is_name name = bytes_eq name (codes "no-deadlock") || bytes_eq name (codes "no-fault") || bytes_eq name (codes "no-leak")
    || bytes_eq name (codes "main-ends")

-- the names that an option gives, parted by commas, or no-deadlock alone where it isn't given
abbrev pub names_in : Option Text → List Text
names_in None = codes "no-deadlock" ∷ []
names_in (Some text) = slice_split (λ b. b == 44) text

abbrev pub names_wanted : List Row → List Text
names_wanted rows = names_in (given rows (codes "want"))

-- what is wanted is what the option names, and it names nothing else
pub record AreWanted (rows : List Row) (w : Wanted) : Type 0 where
  pub names : list_all is_name (names_wanted rows) ≡ true
  pub no_deadlock : w.no_deadlock ≡ list_any (λ name. bytes_eq name (codes "no-deadlock")) (names_wanted rows)
  pub no_fault : w.no_fault ≡ list_any (λ name. bytes_eq name (codes "no-fault")) (names_wanted rows)
  pub no_leak : w.no_leak ≡ list_any (λ name. bytes_eq name (codes "no-leak")) (names_wanted rows)
  pub main_ends : w.main_ends ≡ list_any (λ name. bytes_eq name (codes "main-ends")) (names_wanted rows)

-- what has a lane in a picture, which is a machine where nothing else is named
abbrev pub by_name : Option Text → Option By
by_name None = Some by.Machine
by_name (Some text) =
    (if bytes_eq text (codes "machine") then Some by.Machine
    else if bytes_eq text (codes "goroutine") then Some by.Goroutine
    else None)

abbrev pub lanes_by : List Row → Option By
lanes_by rows = by_name (given rows (codes "by"))

-- a folder is named for the segments of the history
abbrev pub names_folder : List Row → Bool
names_folder rows = is_some (given rows (codes "segments"))

-- `--room` goes with `--segments` alone, and `--trace` and `--scripted` don't; nor does `--by` with `--perfetto`
abbrev pub go_together : List Row → Bool
go_together rows =
    (if is_given rows (codes "perfetto") && is_some (given rows (codes "by")) then false
    else if names_folder rows then not (is_given rows (codes "trace")) && not (is_given rows (codes "scripted"))
    else not (is_some (given rows (codes "room"))))

-- the most entries of a history that is kept whole, or of one in segments, of which no more are kept than it may have
abbrev pub AreEntries : List Row → ℕ → Option Segments → Type 0
AreEntries rows entries None =
    (names_folder rows ≡ false) × number_given rows (codes "entries") 10000 ≡ Some entries
AreEntries rows entries (Some x) =
    (names_folder rows ≡ true) × (entries ≡ 10000)
    × number_given rows (codes "entries") 10000 ≡ Some x.entries
    × ((room : ℕ) × number_given rows (codes "room") 1000000 ≡ Some room × (room ≤ 1000000) × x.room ≡ min room x.entries)

-- The settings are what the options are given: the number that each has, or its default, and the flags.
pub record AreGiven (rows : List Row) (s : Settings) : Type 0 where
  pub procs : number_given rows (codes "procs") 1 ≡ Some s.procs
  pub has_procs : s.has_procs ≡ is_some (given rows (codes "procs"))
  pub machines : number_given rows (codes "machines") 1 ≡ Some s.machines
  pub channels : number_given rows (codes "channels") 16 ≡ Some s.channels
  pub entries : AreEntries rows s.entries s.segments
  pub together : go_together rows ≡ true
  pub word : number_given rows (codes "word") 0 ≡ Some s.word
  pub acts : number_given rows (codes "acts") 10000000 ≡ Some s.acts
  pub random : number_given rows (codes "random") 0 ≡ Some s.random
  pub trace : s.trace ≡ is_given rows (codes "trace")
  pub scripted : s.scripted ≡ is_given rows (codes "scripted")
  pub fair : s.fair ≡ is_given rows (codes "fair")
  pub at : number_given rows (codes "at") 0 ≡ Some s.at
  pub json : s.json ≡ is_given rows (codes "json")
  pub all : s.all ≡ is_given rows (codes "all")
  pub by : lanes_by rows ≡ Some s.by
  pub perfetto : s.perfetto ≡ is_given rows (codes "perfetto")
  pub from : number_given rows (codes "from") 0 ≡ Some s.from
  pub to : number_given rows (codes "to") 18446744073709551615 ≡ Some s.to
  pub states : number_given rows (codes "states") 1000000 ≡ Some s.states
  pub wanted : AreWanted rows s.wanted

-- the command that `clap` enters at the words, and what it reads of the options behind it
abbrev pub entered : List Text → Option (Text × List Row)
entered words = subcommand_of gmp words

abbrev pub options_of : Option (Text × List Row) → List Row
options_of command = option_map_or (λ c. c.1) command []

-- help or the version
abbrev pub IsHelp : ErrorKind → Type 0
IsHelp k = (k ≡ kind.DisplayHelp) ⊎ (k ≡ kind.DisplayVersion)

-- what `clap` may find wrong with the words is that they ask for that
abbrev pub AskForHelp : List Text → Type 0
AskForHelp words = IsAmong kind.DisplayHelp (fault_of gmp words) ⊎ IsAmong kind.DisplayVersion (fault_of gmp words)

-- and nothing else
abbrev pub AskForHelpAlone : List Text → Type 0
AskForHelpAlone words = (fault_of gmp words ≡ kind.DisplayHelp ∷ []) ⊎ (fault_of gmp words ≡ kind.DisplayVersion ∷ [])

-- The line is what was entered: the task is the command, the settings and the folder are what its options are given, and the file is the one
-- that is named.
pub record AreSaid (command : Option (Text × List Row)) (line : CommandLine) : Type 0 where
  pub task : option_map (λ c. c.0) command ≡ Some (name_of line.settings.task)
  pub options : AreGiven (options_of command) line.settings
  pub folder : option_map (λ name. name.now) line.folder ≡ given (options_of command) (codes "segments")
  pub file : option_map (λ name. name.now) line.file ≡ given (options_of command) (codes "file")
