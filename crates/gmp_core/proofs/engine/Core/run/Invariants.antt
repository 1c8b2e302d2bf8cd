use Rattle.std.proofs.Common.{◌≡◌, take}
use Rattle.gmp_acts.specs.Acts.{ActsAll}
use Rattle.gmp_acts.specs.Headline.{SameOpening}
use Rattle.gmp_fair.specs.Fair.{AllSteady}
use Rattle.gmp_core.specs.Whole.{GrantsAll, IsWhole}
use Rattle.gmp_core.proofs.engine.Core.run.Given as goal

-- the first moves were made
abbrev pub invariant-loop-i : goal.invariant-loop-i
invariant-loop-i g l = record {
  acts : ActsAll l.initial.self.system (take l.i l.moves) l.self.system;
  calls : GrantsAll l.initial.self (take l.i l.moves) l.self;
  steady : AllSteady l.initial.self.system → AllSteady l.self.system;
  stock : l.self.stock ≡ l.initial.self.stock;
  opened : SameOpening l.initial.self.system.book l.self.system.book;
  whole : IsWhole l.initial.self.system → IsWhole l.self.system;
}
