-- How the input is taken in parts.
use Rattle.std.specs.Prelude.{ℕ, List, Option}
use Rattle.std.specs.Io.KnownBytes.{prepend_known}

-- what is to come: the bytes that were read and belong to no part yet, and those that the reader has left
abbrev pub left : List ℕ → Option (List ℕ) → Option (List ℕ)
left held remaining = prepend_known held remaining
