-- Acts with hand-outs between them.
use Rattle.std.specs.Prelude.{◌≡◌, List, [], ◌∷◌, ◌++◌, Option, None, Some}
use Rattle.gmp_base.specs.declared.number.MNo.{MNo}
use Rattle.gmp_seq.specs.declared.call.Entry.{Entry}
use Rattle.gmp_acts.specs.declared.choice.Choice.{Choice}
use Rattle.gmp_acts.specs.Acts.{Acts}
use Rattle.gmp_acts.specs.System.{System}
use Rattle.gmp_core.specs.Whole.{emptied}

-- a machine's act with its choice; or the entries that are left are handed out
abbrev pub Move : Type 0
Move = Option (MNo × Choice)

-- what moves in a row lead to, and the entries that they hand out, in order
abbrev pub MovesAll : System → List Move → List Entry → System → Type 0
MovesAll k [] out k' = (out ≡ []) × (k' ≡ k)
MovesAll k (Some act ∷ moves) out k' = (mid : System) × Acts k act.0 act.1 mid × MovesAll mid moves out k'
MovesAll k (None ∷ moves) out k' = (later : List Entry) × (out ≡ k.book.history ++ later) × MovesAll (emptied k) moves later k'

-- the acts alone, in order
abbrev pub acts_of : List Move → List (MNo × Choice)
acts_of [] = []
acts_of (Some act ∷ moves) = act ∷ acts_of moves
acts_of (None ∷ moves) = acts_of moves
