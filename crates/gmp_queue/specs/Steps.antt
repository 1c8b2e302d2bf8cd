-- The five kinds of step of a local queue. Each is of one pass, and changes its view alone.
use Rattle.std.specs.Prelude.{◌≡◌, ℕ, ◌<◌, true, [], ◌∷◌, ⊤}
use Rattle.crossbeam_deque.specs.Tasks.{Pushes, Takes, Finds}
use Rattle.gmp_base.specs.declared.number.Readiness.{Readiness}
use Rattle.gmp_queue.specs.declared.rule.View.{View}
use Rattle.gmp_queue.specs.Queue.{IsQueue, PutLast, PoppedFirst, StoleFirst, FoundNone}

-- the owner's pass, with a part
abbrev pub IsOwner : View → Type 0
IsOwner v = (v.owner ≡ true) × (0 < v.parts)

-- any pass with a part, as a thief's
abbrev pub IsActive : View → Type 0
IsActive v = 0 < v.parts

-- whatever the queue holds and the other passes know, the rule holds after each step, and the view of its pass is as it says
pub record KeepTheRule : Type 0 where
  pub push : (port : ℕ) (v : View) → IsOwner v → (r : Readiness) → Pushes IsQueue port v (r ∷ []) (PutLast v (r ∷ []))
  pub pop : (port : ℕ) (v : View) → IsOwner v → Takes IsQueue port v 1 (PoppedFirst v)
  -- neither of those that find none changes anything
  pub pop_none : (port : ℕ) (v : View) → IsOwner v → Finds IsQueue port v (FoundNone v)
  pub steal : (port : ℕ) (v : View) → IsActive v → Takes IsQueue port v 1 (StoleFirst v)
  pub steal_none : (port : ℕ) (v : View) → IsActive v → Finds IsQueue port v ⊤
