use Rattle.std.proofs.Common.{◌≡◌, ◌%◌, length, max}
use Rattle.gmp_chance.specs.Ranked.{drawn, ranks_drawn, seeded_55}
use Rattle.gmp_chance.proofs.ranked.Ranked.new.Given as goal

-- so many ranks were drawn
abbrev pub invariant-loop : goal.invariant-loop
invariant-loop l = record {
  ranks : l.ranks.items ≡ (drawn (λ n. max n 8) l.counter (seeded_55 l.fn.seed)).0;
  generator : l.generator ≡ (drawn (λ n. max n 8) l.counter (seeded_55 l.fn.seed)).1;
}

-- and so many falls
abbrev pub invariant-loop-2 : goal.invariant-loop-2
invariant-loop-2 l = record {
  falls : l.at.items ≡ (drawn (λ n. n % max l.fn.steps 1) l.counter (ranks_drawn l.fn.seed l.fn.goroutines).1).0;
  generator : l.generator ≡ (drawn (λ n. n % max l.fn.steps 1) l.counter (ranks_drawn l.fn.seed l.fn.goroutines).1).1;
  few : length l.at.items ≡ l.counter;
}
