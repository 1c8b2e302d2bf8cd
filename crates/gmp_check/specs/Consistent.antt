-- Which states a replay can be in, and what a call leaves as it is.
use Rattle.std.specs.Prelude.{◌≡◌, ◌≤◌, ◌<◌, ◌^◌, length}
use Rattle.gmp_seq.specs.declared.call.Limits.{Limits}
use Rattle.gmp_seq.specs.Laws.{FitsTogether, HasSizes}
use Rattle.gmp_seq.specs.State.{State}

-- What the plain scheduler keeps of its state. Each step keeps it, wherever the run began.
pub record IsConsistentUnder (limits : Limits) (s : State) : Type 0 where
  pub limit : limits.entries < 2 ^ 63
  pub together : FitsTogether limits s

-- the same under some limits
abbrev pub IsConsistent : State → Type 0
IsConsistent s = (limits : Limits) × IsConsistentUnder limits s

-- A replay may begin at the state. Each step keeps that.
pub record MayBegin (limits : Limits) (s : State) : Type 0 where
  pub few : length s.table.goroutines < 2 ^ 16
  pub sizes : HasSizes limits (length s.table.goroutines) s
  pub consistent : IsConsistentUnder limits s

-- each machine's count of entries and the outcome stay
abbrev pub SameCounts : State → State → Type 0
SameCounts old new = (new.counts ≡ old.counts) × (new.outcome ≡ old.outcome)
