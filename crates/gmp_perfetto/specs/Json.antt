-- What is written.
use Rattle.std.specs.Prelude.{◌≡◌, ◌++◌, ℕ, List, Option, Some, codes}
use Rattle.std.specs.Io.KnownBytes.{Appends}
use Rattle.serde_json.specs.Data.{Data}
use Rattle.serde_json.specs.Read.{read}

-- the text of one JSON value, as serde_json reads texts, and a line feed behind it
abbrev pub IsJson : List ℕ → Type 0
IsJson line = (text : List ℕ) × (value : Data) × (read text ≡ Some value) × (line ≡ text ++ codes "\n")

-- which goes out, and nothing else
abbrev pub WritesJson : Option (List ℕ) → Option (List ℕ) → Type 0
WritesJson old new = (line : List ℕ) × IsJson line × Appends old new line
