use Rattle.std.proofs.Common.{◌<◌, ◌≤◌, ℕ, length}
use Rattle.gmp_chance.specs.Ranked.{rank_at}
use Rattle.gmp_chance.proofs.ranked.first.Given as goal

-- it is the greatest so far
abbrev pub invariant-loop-place : goal.invariant-loop-place
invariant-loop-place l = record {
  there : l.first < length l.nexts;
  greatest : (other : ℕ) → other < l.place → rank_at l.ranks l.nexts other ≤ rank_at l.ranks l.nexts l.first;
  first : (other : ℕ) → other < l.first → rank_at l.ranks l.nexts other < rank_at l.ranks l.nexts l.first;
  passed : l.first < l.place;
}
