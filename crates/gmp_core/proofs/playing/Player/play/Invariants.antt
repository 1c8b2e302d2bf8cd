use Rattle.gmp_acts.specs.Headline.{SameOpening}
use Rattle.gmp_core.specs.Plays.{Plays}
use Rattle.gmp_core.proofs.playing.Player.play.Given as goal

-- so many acts were made
abbrev pub invariant-loop-made : goal.invariant-loop-made
invariant-loop-made g l = record {
  plays : Plays g.O.Outside.asks g.O.Outside.answers g.O.Outside.shows l.word l.made l.initial.self l.self;
  opened : SameOpening l.initial.self.core.system.book l.self.core.system.book;
}
