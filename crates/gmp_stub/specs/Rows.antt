-- What a `Board` and a `Stub` hold.
-- A board is a chain of cells that starts at its name. Each cell names one row and the next cell, for good. A row has two halves: the board has
-- one, and its stub has the other.
use Rattle.std.specs.Prelude.{ℕ, zero, suc, List, [], ◌∷◌, map}
use base.Stored.{Gv, gnil, gnum, gcons}
use base.Fml.{Fml, fsep, fex, fobs, fauth, fres}

-- a cell's row and next cell
unfoldable pub pair : ℕ × ℕ → Gv
pair p = gcons (gnum p.0) (gnum p.1)

-- the cell γ names the row c .0, which is at x, and the cell c .1, at which the rest begins
abbrev pub cell : ℕ → Gv → (ℕ → Fml) → ℕ × ℕ → Fml
cell γ x rest c = fsep (fauth γ (pair c)) (fsep (fres γ (pair c)) (fsep (fauth c.0 x) (rest c.1)))

-- the chain from γ has these rows, and its last cell is still open
abbrev pub chain : List Gv → ℕ → Fml
chain [] γ = fsep (fobs γ gnil) (fauth γ gnil)
chain (x ∷ xs) γ = fex (ℕ × ℕ) (cell γ x (chain xs))

-- what the cell γ names is known, and F holds of it
abbrev pub past : ℕ → (ℕ × ℕ → Fml) → ℕ × ℕ → Fml
past γ F c = fsep (fres γ (pair c)) (F c)

-- the stub's half of row i of the chain from γ, at x
abbrev pub row : ℕ → Gv → ℕ → Fml
row zero x γ = fex (ℕ × ℕ) (past γ (λ c. fobs c.0 x))
row (suc i) x γ = fex (ℕ × ℕ) (past γ (λ c. row i x c.1))

unfoldable pub board_owns : {X : Type 0} → (X → Gv) → ℕ → List X → Fml
board_owns code name values = chain (map code values) name

unfoldable pub stub_owns : {X : Type 0} → (X → Gv) → ℕ → ℕ → X → Fml
stub_owns code name at value = row at (code value) name
