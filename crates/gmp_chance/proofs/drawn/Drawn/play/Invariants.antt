use Rattle.gmp_acts.specs.Headline.{SameOpening}
use Rattle.gmp_chance.specs.Drawn.{Draws}
use Rattle.gmp_chance.proofs.drawn.Drawn.play.Given as goal

-- so many acts were made
abbrev pub invariant-loop-made : goal.invariant-loop-made
invariant-loop-made g l = record {
  draws : Draws g.O.Outside.asks g.O.Outside.answers g.O.Outside.shows g.D.Dealer.deals l.made l.initial.self l.self;
  opened : SameOpening l.initial.self.core.system.book l.self.core.system.book;
}
