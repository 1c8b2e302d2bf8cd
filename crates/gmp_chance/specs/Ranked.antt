-- Drawn ranks: of those that may come next the one of the greatest rank does, and at some steps, which are drawn, the one that would make the
-- step falls behind (Burckhardt, Kothari, Musuvathi and Nagarakatte, "A randomized scheduler with probabilistic guarantees of finding bugs", 2010).
use Rattle.std.specs.Prelude.{◌≡◌, ◌≢◌, ◌⊎◌, ℕ, zero, suc, ◌+◌, ◌%◌, ◌^◌, ◌<◌, ◌≤◌, List, [], ◌∷◌, ◌++◌, Option, None, Some, length, max, min, slice_get, slice_index_or, slice_set}
use Rattle.std.specs.Option.{option_map_or}
use Rattle.rand_core.specs.Steps.{u64_via_u32}
use Rattle.rand_pcg.specs.Lcg.{Lcg, increment_of, started}
use Rattle.rand_pcg.specs.Pcg.{multiplier_64, pcg32}
use Rattle.gmp_base.specs.declared.number.GNo.{GNo}
use Rattle.gmp_chance.specs.declared.dealer.Next.{Next}
use Rattle.gmp_chance.specs.declared.dealer.Whose.{Whose}
use Rattle.gmp_chance.specs.declared.dealer.Whose.TheVariants as whose

-- the generator, the ranks of the clock and of each goroutine, at which steps one falls, and how many steps were dealt
pub record Ranks : Type 0 where
  pub generator : Lcg
  pub ranks : List ℕ
  pub falls : List ℕ
  pub made : ℕ

-- where the rank stands by which an act comes; a machine's own has none
abbrev pub seat_of : Whose → Option ℕ
seat_of whose.Machine = None
seat_of whose.Clock = Some 0
seat_of (whose.Goroutine g) = Some (g.0 + 1)

-- a machine's own act comes before all others
abbrev pub rank_of : List ℕ → Whose → ℕ
rank_of ranks w = option_map_or (λ (seat : ℕ). slice_index_or ranks seat 0) (seat_of w) (2 ^ 32)

-- the rank of what may come next at this place
abbrev pub rank_at : List ℕ → List Next → ℕ → ℕ
rank_at ranks nexts place = option_map_or (λ (n : Next). rank_of ranks n.whose) (slice_get nexts place) 0

-- what comes next at this place has the greatest rank, and is the first that has it
pub record IsGreatest (ranks : List ℕ) (nexts : List Next) (place : ℕ) : Type 0 where
  pub there : place < length nexts
  pub greatest : (other : ℕ) → other < length nexts → rank_at ranks nexts other ≤ rank_at ranks nexts place
  pub first : (other : ℕ) → other < place → rank_at ranks nexts other < rank_at ranks nexts place

-- the ranks where this one's is another
abbrev pub with_rank : List ℕ → Option ℕ → ℕ → List ℕ
with_rank ranks None rank = ranks
with_rank ranks (Some seat) rank = slice_set ranks seat rank

-- at this step the one that would make it falls, to a rank of its own below those that were drawn; of two falls at one step the first counts
pub record Falls (r : Ranks) (w : Whose) (ranks' : List ℕ) : Type 0 where
  pub fall : ℕ
  pub now : slice_get r.falls fall ≡ Some r.made
  pub first : (other : ℕ) → other < fall → slice_get r.falls other ≡ Some r.made → ⊥
  pub behind : ranks' ≡ with_rank r.ranks (seat_of w) fall

-- at this step none falls
pub record Stays (r : Ranks) (ranks' : List ℕ) : Type 0 where
  pub none : (fall : ℕ) → slice_get r.falls fall ≡ Some r.made → ⊥
  pub same : ranks' ≡ r.ranks

-- a machine's own act is no step, and no rank changes
pub record WorksOn (r : Ranks) (w : Whose) (r' : Ranks) : Type 0 where
  pub own : w ≡ whose.Machine
  pub same : r'.ranks ≡ r.ranks
  pub made : r'.made ≡ r.made

-- any other is a step, at which one falls or none
pub record StepsOn (r : Ranks) (w : Whose) (r' : Ranks) : Type 0 where
  pub step : w ≢ whose.Machine
  pub ranked : Falls r w r'.ranks ⊎ Stays r r'.ranks
  pub made : r'.made ≡ (r.made + 1) % 2 ^ 64

-- the one of the greatest rank would act; once it fell, or did not, the place is that of the greatest; two draws are the word, the low half first
pub record DealsByRank (r : Ranks) (nexts : List Next) (place word : ℕ) (r' : Ranks) : Type 0 where
  pub would : ℕ
  pub next : Next
  pub at : slice_get nexts would ≡ Some next
  pub before : IsGreatest r.ranks nexts would
  pub ranked : WorksOn r next.whose r' ⊎ StepsOn r next.whose r'
  pub first : IsGreatest r'.ranks nexts place
  pub planned : r'.falls ≡ r.falls
  pub worded : (word, r'.generator) ≡ u64_via_u32 pcg32 r.generator

-- so many draws, each made a number by f, in order, and the generator behind them
abbrev pub drawn : (ℕ → ℕ) → ℕ → Lcg → List ℕ × Lcg
drawn f zero g = ([], g)
drawn f (suc n) g = ((drawn f n g).0 ++ f (pcg32 (drawn f n g).1).0 ∷ [], (pcg32 (drawn f n g).1).1)

-- the generator that a seed begins
abbrev pub seeded_55 : ℕ → Lcg
seeded_55 seed = started 64 multiplier_64 seed (increment_of 64 55)

-- before the first act, as the seed draws: a rank for the clock and for each of so many goroutines, above those of falls
abbrev pub ranks_drawn : ℕ → ℕ → List ℕ × Lcg
ranks_drawn seed goroutines = drawn (λ n. max n 8) (goroutines + 1) (seeded_55 seed)

-- and then so many falls, at most 8, each among so many steps
abbrev pub falls_drawn : ℕ → ℕ → ℕ → ℕ → List ℕ × Lcg
falls_drawn seed goroutines falls steps = drawn (λ n. n % max steps 1) (min falls 8) (ranks_drawn seed goroutines).1

abbrev pub ranked : ℕ → ℕ → ℕ → ℕ → Ranks
ranked seed goroutines falls steps = record {
  generator = (falls_drawn seed goroutines falls steps).1;
  ranks = (ranks_drawn seed goroutines).0;
  falls = (falls_drawn seed goroutines falls steps).0;
  made = 0;
}
