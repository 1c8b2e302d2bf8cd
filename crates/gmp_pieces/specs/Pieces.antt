-- What the sink does not take of a run's history, what is written of what is left, and what each part has.
use Rattle.std.specs.Prelude.{◌≡◌, List, [], ◌∷◌, ◌++◌, ℕ, Option, None, Some, IsSome}
use Rattle.gmp_seq.specs.declared.call.Entry.{Entry}
use Rattle.gmp_parts.specs.declared.error.PartError.TheVariants.{Device, NoStep}
use Rattle.gmp_parts.specs.Parts.{Parts}
use Rattle.gmp_parts.specs.Parts.Parts.{NoPart, Then}
use Rattle.gmp_parts.specs.Writing.{GoesOn, Writing, WritesPart}

-- a part was not written whole: of the run nothing more is known than before
abbrev pub Fails : {W : Type 0} → Writing W → Writing W → Type 0
Fails old new = IsSome new.failed × new ≡ record old { failed = new.failed; out = new.out }

-- The entries were not written whole as the next part, and why is kept. They are said to be no run only where they don't go on, and nothing was
-- sent then; a device fails only where they do. What had failed before stays as it was.
pub record Refuses {W : Type 0} (old : Writing W) (h : List Entry) (new : Writing W) : Type 0 where
  pub fails : Fails old new
  pub no_step : new.failed ≡ Some NoStep → old.failed ≡ None → GoesOn old h → ⊥
  pub unsent : new.failed ≡ Some NoStep → new.out ≡ old.out
  pub device : new.failed ≡ Some Device → old.failed ≡ None → GoesOn old h
  pub again : IsSome old.failed → new ≡ old

-- nothing failed, and what was left was written as the last part, if there was anything
abbrev pub WritesLeft : {W : Type 0} → (W → Option (List ℕ)) → Writing W → List Entry → Writing W → Type 0
WritesLeft contents old [] new = (old.failed ≡ None) × (new ≡ old)
WritesLeft contents old (entry ∷ entries) new = WritesPart contents old (entry ∷ entries) new

-- the entries of each part
abbrev pub pieces_of : Parts → List (List Entry)
pieces_of NoPart = []
pieces_of (Then parts x) = pieces_of parts ++ x.entries ∷ []
