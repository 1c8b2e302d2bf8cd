-- Even draws: each machine that is awake comes as often as another. The generator is PCG's (O'Neill 2014).
use Rattle.std.specs.Prelude.{◌≡◌, ℕ, ◌%◌, List, length}
use Rattle.rand_core.specs.Steps.{u64_via_u32}
use Rattle.rand_pcg.specs.Lcg.{Lcg, increment_of, started}
use Rattle.rand_pcg.specs.Pcg.{multiplier_64, pcg32}
use Rattle.gmp_chance.specs.declared.dealer.Next.{Next}

-- the generator that a seed begins
abbrev pub seeded : ℕ → Lcg
seeded seed = started 64 multiplier_64 seed (increment_of 64 54)

-- one draw is the place of the machine, and two more are the word, the low half first
pub record DealsEvenly (g : Lcg) (nexts : List Next) (place word : ℕ) (g' : Lcg) : Type 0 where
  pub placed : place ≡ (pcg32 g).0 % length nexts
  pub worded : (word, g') ≡ u64_via_u32 pcg32 (pcg32 g).1
