-- The rule of a local queue, and what each kind of step does to the view of its pass.
-- A queue is that of a P in the Scalable Go Scheduler Design Doc (Vyukov, 2012): its M puts and takes, and other Ms steal. Its ends are crossbeam_deque's FIFO `Worker` and `Stealer`.
-- A position is the number of pushes before the one that put the readiness there.
use Rattle.std.specs.Prelude.{◌≡◌, ℕ, ◌+◌, ◌-◌, ◌<◌, ◌≤◌, ◌==◌, ltb, Bool, true, false, if◌then◌else◌, List, [], ◌∷◌, ◌++◌, length, drop, slice_get, Some, All, sum_by, ⊤}
use mathlib.Core.Option.{some}
use lib.ListN.{get_elem?}
use Rattle.gmp_base.specs.declared.number.Readiness.{Readiness}
use Rattle.gmp_queue.specs.declared.rule.Taken.{Taken}
use Rattle.gmp_queue.specs.declared.rule.View.{View}

-- the parts into which the right to know the whole is cut: one for each of 64 thieves at most, the others stay with the owner
abbrev pub all_parts : ℕ
all_parts = 66

abbrev pub view_with : Bool → ℕ → List Readiness → List Taken → View
view_with owner parts put took = record { owner = owner; parts = parts; put = put; took = took }

abbrev pub taken : ℕ → Readiness → Taken
taken at readiness = record { at = at; readiness = readiness }

-- how often a readiness was taken from this position
abbrev pub times_at : ℕ → List Taken → ℕ
times_at position took = sum_by (λ (t : Taken). if t.at == position then 1 else 0) took

-- one below the front, and else none
abbrev pub once_below : ℕ → ℕ → ℕ
once_below position front = if ltb position front then 1 else 0

-- what was taken from a position is what was put there
abbrev pub AreFrom : List Readiness → List Taken → Type 0
AreFrom put took = All (λ (t : Taken). slice_get put t.at ≡ Some t.readiness) took

-- all positions taken from are before this one
abbrev pub AreBefore : ℕ → List Taken → Type 0
AreBefore front took = All (λ (t : Taken). t.at < front) took

-- what a pass knows is so: the one owner knows all that was put, and what a pass took is what was put there
pub record KnowsTruly (put : List Readiness) (front seat port : ℕ) (v : View) : Type 0 where
  pub knows_put : v.owner ≡ true → (port ≡ seat) × (v.put ≡ put)
  pub from_put : AreFrom put v.took
  pub before : AreBefore front v.took
  pub idle : v.parts ≡ 0 → v.took ≡ []

-- Of all that was put, what is before the front was taken, from each position once, and the queue holds the rest, in order
pub record IsQueue (items : List Readiness) (views : List View) : Type 0 where
  pub put : List Readiness
  pub front : ℕ
  pub seat : ℕ
  pub within : front ≤ length put
  pub rest : items ≡ drop front put
  pub once : (position : ℕ) → sum_by (λ (v : View). times_at position v.took) views ≡ once_below position front
  pub whole : sum_by (λ (v : View). v.parts) views ≡ all_parts
  pub passes : (port : ℕ) (v : View) → get_elem? views port ≡ some v → KnowsTruly put front seat port v

-- a push: what it put went last
abbrev pub PutLast : View → List Readiness → View → Type 0
PutLast v more w = w ≡ record v { put = v.put ++ more }

-- the readiness was taken from this position, after all that this pass took from before
abbrev pub TookFrom : ℕ → View → Readiness → View → Type 0
TookFrom position v r w = (w ≡ record v { took = v.took ++ taken position r ∷ [] }) × AreBefore position v.took

-- a pop: what the owner took is what it had put there
abbrev pub PoppedFirst : View → List Readiness → View → Type 0
PoppedFirst v [] w = ⊤
PoppedFirst v (r ∷ _) w = (position : ℕ) × TookFrom position v r w × (slice_get v.put position ≡ Some r)

-- a steal
abbrev pub StoleFirst : View → List Readiness → View → Type 0
StoleFirst v [] w = ⊤
StoleFirst v (r ∷ _) w = (position : ℕ) × TookFrom position v r w

-- all that was put was taken, from each position once
abbrev pub TookAll : List Readiness → List Taken → Type 0
TookAll put took = ((position : ℕ) → times_at position took ≡ once_below position (length put)) × AreFrom put took

-- a pop that finds none: an owner that has every part knows that all was taken
abbrev pub FoundNone : View → Type 0
FoundNone v = v.parts ≡ all_parts → TookAll v.put v.took

-- a thief's pass is split off the owner's
abbrev pub lent : View
lent = view_with false 1 [] []

abbrev pub kept : View → View
kept v = record v { parts = v.parts - 1 }

-- and joins it again
abbrev pub both : View → View → View
both v w = record v { parts = v.parts + w.parts; took = v.took ++ w.took }

abbrev pub spent : View
spent = view_with false 0 [] []
