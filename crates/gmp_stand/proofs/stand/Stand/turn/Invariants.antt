use Rattle.std.proofs.Common.{◌≡◌}
use Rattle.gmp_acts.specs.Headline.{SameOpening}
use Rattle.gmp_acts.specs.Lookouts.{NoWorkIsAsleep}
use Rattle.gmp_core.specs.Whole.{HeadlineOf}
use Rattle.gmp_fair.specs.Fair.{AllSteady}
use Rattle.gmp_stand.proofs.Turning.{SoFar}
use Rattle.gmp_stand.proofs.stand.Stand.turn.Given as goal

-- so many acts were made
abbrev pub invariant-loop-made : goal.invariant-loop-made
invariant-loop-made l = record {
  far : SoFar l.fn.m l.made (record { core = l.initial.self.core; handed = l.fn.handed }) (record { core = l.self.core; handed = l.handed });
  steady : AllSteady l.initial.self.core.system → AllSteady l.self.core.system;
  headline : HeadlineOf l.self.core.system;
  awake : NoWorkIsAsleep l.self.core.system;
  opened : SameOpening l.initial.self.core.system.book l.self.core.system.book;
  piece : l.self.piece ≡ l.initial.self.piece;
}
