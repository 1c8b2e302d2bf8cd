-- What a search through seeds finds.
use Rattle.std.specs.Prelude.{◌≡◌, ◌⊎◌, ℕ, ◌+◌, ◌≤◌, ◌<◌, Option, None, Some, Result, Ok, Err}
use Rattle.gmp_seq.specs.declared.call.Outcome.TheVariants as outcome
use Rattle.gmp_host.specs.declared.ending.Ended.{Ended}
use Rattle.gmp_host.specs.declared.ending.Short.{Short}
use Rattle.gmp_host.specs.declared.searching.FellShort.{FellShort}
use Rattle.gmp_host.specs.declared.searching.Found.{Found}

-- main ended, and no goroutine was lost
abbrev pub IsWell : Ended → Type 0
IsWell e = (e.outcome ≡ outcome.MainEnded) × (e.lost ≡ None)

-- what was found has no more entries than this run
abbrev pub IsNoLonger : Option Found → Ended → Type 0
IsNoLonger None ended = ⊥
IsNoLonger (Some found) ended = found.ended.entries ≤ ended.entries

-- it has more, or nothing was found
abbrev pub IsLonger : Option Found → Ended → Type 0
IsLonger None ended = Unit {0}
IsLonger (Some found) ended = ended.entries < found.ended.entries

-- what was found is kept, where this run ended well or is no shorter; else this one is
abbrev pub IsKept : Option Found → Found → Option Found → Type 0
IsKept least new kept = ((kept ≡ least) × (IsWell new.ended ⊎ IsNoLonger least new.ended)) ⊎ ((kept ≡ Some new) × (¬ (IsWell new.ended)) × IsLonger least new.ended)

-- By what a run of each seed may come to.
module _ (runs : ℕ → Result Ended Short → Type 0) where
  -- each of these seeds ran, and its run ended well
  abbrev pub AreWell : ℕ → ℕ → Type 0
  AreWell begin end = (seed : ℕ) → begin ≤ seed → seed < end → (ended : Ended) × runs seed (Ok ended) × IsWell ended

  -- the first of these seeds whose run did not end well
  pub record IsFirst (begin end : ℕ) (found : Found) : Type 0 where
    pub there : (begin ≤ found.seed) × (found.seed < end)
    pub ran : runs found.seed (Ok found.ended)
    pub ill : ¬ (IsWell found.ended)
    pub before : AreWell begin found.seed

  -- it is found, unless all runs ended well
  abbrev pub Searches : ℕ → ℕ → Option Found → Type 0
  Searches begin end (Some found) = IsFirst begin end found
  Searches begin end None = AreWell begin end

  -- of these seeds the run of the one that is named falls short so
  pub record FallsShort (begin end : ℕ) (fell : FellShort) : Type 0 where
    pub there : (begin ≤ fell.seed) × (fell.seed < end)
    pub ran : runs fell.seed (Err fell.why)

  -- and all before it ended well
  pub record FallsAtFirst (begin end : ℕ) (fell : FellShort) : Type 0 where
    pub there : (begin ≤ fell.seed) × (fell.seed < end)
    pub ran : runs fell.seed (Err fell.why)
    pub before : AreWell begin fell.seed

  -- each of these seeds ran, and its run ended well, or has so many entries at least
  abbrev pub AreWellOrLong : ℕ → ℕ → ℕ → Type 0
  AreWellOrLong entries begin end = (seed : ℕ) → begin ≤ seed → seed < end → (ended : Ended) × runs seed (Ok ended) × (IsWell ended ⊎ (entries ≤ ended.entries))

  -- the first of the shortest of these seeds' runs that did not end well
  pub record IsShortest (begin end : ℕ) (found : Found) : Type 0 where
    pub there : (begin ≤ found.seed) × (found.seed < end)
    pub ran : runs found.seed (Ok found.ended)
    pub ill : ¬ (IsWell found.ended)
    pub before : AreWellOrLong (found.ended.entries + 1) begin found.seed
    pub behind : AreWellOrLong found.ended.entries found.seed end

  -- it is found, unless all runs ended well
  abbrev pub Compares : ℕ → ℕ → Option Found → Type 0
  Compares begin end (Some found) = IsShortest begin end found
  Compares begin end None = AreWell begin end
