-- The program's command line: its commands, and the options of each. What words mean to it is `clap`'s to say.
use Rattle.std.specs.Prelude.{ℕ, true, codes, List, [], ◌∷◌, ◌++◌, Some, false}
use Rattle.clap.specs.Words.{App, Rule, Shape, Text, new_rule}
use Rattle.clap.specs.Simple.{new_shape}
use Rattle.clap.specs.declared.builder.action.ArgAction.TheVariants.{Set, SetTrue}
use Rattle.clap.specs.declared.builder.value_parser.ValueParser.TheVariants.{NonEmptyString, Unsigned}
use Rattle.gmp_words.specs.declared.numeric.Numeric.{Numeric}

-- `--name VALUE` or `--name=VALUE`, at most once
abbrev pub option : Text → Rule
option name = record (new_rule name) { long = Some name; action = Some Set }

-- the same of a number in a range, with both ends
abbrev pub numeric : Text → ℕ → ℕ → Rule
numeric name least most = record (option name) { parser = Some (Unsigned least most) }

abbrev pub numeric_of : Numeric → Rule
numeric_of n = numeric n.id.now n.least n.most

-- the same of the name of a folder, which isn't empty
abbrev pub folder : Text → Rule
folder name = record (option name) { parser = Some NonEmptyString; value_names = 1 }

-- `--name`, at most once
abbrev pub flag : Text → Rule
flag name = record (new_rule name) { long = Some name; action = Some SetTrue }

-- the name of a file, which isn't empty, as a word of its own
abbrev pub file : Rule
file = record (new_rule (codes "file")) { action = Some Set; parser = Some NonEmptyString; value_names = 1 }

-- a command that reads a file, with these options
abbrev pub command : Text → List Rule → Shape
command name options = record (new_shape name) { rules = file ∷ options }

-- one with more options
abbrev pub with_more : Shape → List Rule → Shape
with_more s options = record s { rules = s.rules ++ options }

abbrev pub step : Shape
step = command (codes "step")
    (numeric (codes "procs") 1 32 ∷ numeric (codes "machines") 1 64 ∷ numeric (codes "channels") 0 1024
    ∷ numeric (codes "entries") 16 1000000 ∷ numeric (codes "word") 0 18446744073709551615 ∷ numeric (codes "acts") 1 1000000000
    ∷ flag (codes "fair") ∷ [])

abbrev pub run : Shape
run = command (codes "run")
    (numeric (codes "procs") 1 32 ∷ numeric (codes "machines") 1 64 ∷ numeric (codes "channels") 0 1024
    ∷ numeric (codes "entries") 16 9223372036854775807 ∷ numeric (codes "random") 0 18446744073709551615 ∷ numeric (codes "room") 16 1000000
    ∷ folder (codes "segments") ∷ flag (codes "trace") ∷ flag (codes "scripted") ∷ flag (codes "fair") ∷ [])

abbrev pub check : Shape
check = command (codes "check") []

abbrev pub join : Shape
join = command (codes "join") []

abbrev pub cut : Shape
cut = command (codes "cut") (numeric (codes "at") 0 18446744073709551615 ∷ [])

abbrev pub explain : Shape
explain = command (codes "explain") (flag (codes "json") ∷ flag (codes "all") ∷ [])

abbrev pub draw : Shape
draw = command (codes "draw")
    (numeric (codes "from") 0 18446744073709551615 ∷ numeric (codes "to") 0 18446744073709551615 ∷ option (codes "by")
    ∷ flag (codes "perfetto") ∷ [])

abbrev pub explore : Shape
explore = command (codes "explore")
    (numeric (codes "procs") 1 32 ∷ numeric (codes "channels") 0 1024 ∷ numeric (codes "states") 1 100000000 ∷ option (codes "want")
    ∷ flag (codes "trace") ∷ [])

-- the program, which wants a command
abbrev pub gmp : App
gmp = record {
  top = record (new_shape (codes "gmp")) { is_leaf = false; has_version = true; subcommand_required = true };
  subs = step ∷ run ∷ check ∷ join ∷ cut ∷ explain ∷ draw ∷ explore ∷ [];
}
