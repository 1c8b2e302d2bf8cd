-- What becomes of a board and of one of its stubs.
use Rattle.std.specs.Prelude.{◌≡◌, [], ◌∷◌, ◌++◌, length, Some, slice_get, slice_set}
use Rattle.gmp_stub.specs.declared.Board.{Board}
use Rattle.gmp_stub.specs.declared.Stub.{Stub}

-- the board has one value more, the last, and this is its stub
pub record IsAdded {X : Type 0} (old new : Board X) (stub : Stub X) (value : X) : Type 0 where
  pub name : new.name ≡ old.name
  pub values : new.values ≡ old.values ++ value ∷ []
  pub stub_name : stub.name ≡ old.name
  pub stub_at : stub.at ≡ length old.values
  pub stub_value : stub.value ≡ value

-- both had the same value, and have this one now
pub record IsSet {X : Type 0} (old new : Board X) (stub stub' : Stub X) (value : X) : Type 0 where
  pub agreed : slice_get old.values stub.at ≡ Some stub.value
  pub name : new.name ≡ old.name
  pub values : new.values ≡ slice_set old.values stub.at value
  pub stub_name : stub'.name ≡ stub.name
  pub stub_at : stub'.at ≡ stub.at
  pub stub_value : stub'.value ≡ value
