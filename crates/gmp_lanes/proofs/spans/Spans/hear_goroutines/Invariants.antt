use Rattle.std.proofs.Common.{◌≤◌, length}
use Rattle.gmp_lanes.specs.Shown.{AreShown}
use Rattle.gmp_lanes.proofs.spans.Spans.hear_goroutines.Given as goal

-- the goroutines so far are on their lanes
abbrev pub invariant-loop-g : goal.invariant-loop-g
invariant-loop-g l = record {
  shown : AreShown l.self.current.items l.rows l.g;
  room : l.g ≤ length l.self.current.items;
}
