-- The table of a machine that is not fair, where that of a fair one differs. Nothing here looks at `aside`.
use Rattle.std.specs.Prelude.{ℕ, ◌-◌, ◌==◌, Bool, true, false, Some, None, if◌then◌else◌}
use Rattle.gmp_seq.specs.declared.call.Reply.TheVariants as reply
use Rattle.gmp_driver.specs.declared.act.Told.{Told}
use Rattle.gmp_driver.specs.declared.act.Told.TheVariants as told
use Rattle.gmp_driver.specs.declared.act.Tried.TheVariants as tried
use Rattle.gmp_driver.specs.declared.place.Place.{Place}
use Rattle.gmp_driver.specs.declared.place.Place.TheVariants as place
use Rattle.gmp_driver.specs.declared.seen.Seen.{Seen}
use Rattle.gmp_driver.specs.Hunt.{begun, more, steal_goal, victim_of}
use Rattle.gmp_driver.specs.Table.{next_place, next_turns}

-- the places at which a machine looks aside
abbrev pub is_aside : Place → Bool
is_aside place.Glance = true
is_aside (place.Peek v) = true
is_aside here = false

-- Where it stands then: after a tick it looks into its own queue, it claims what it scanned, and it steals half of a queue. In all other
-- rows it is as a fair one.
abbrev pub unfair_place : Seen → Place → Told → Place
unfair_place x (place.Ticking now) (told.Replied (reply.Woke n)) = if x.procs == 1 then place.Look else place.Keep
unfair_place x place.Keep (told.Replied (reply.Answer true)) = place.Look
unfair_place x (place.Scan v) (told.Tried (tried.Got hint)) = place.Have
unfair_place x place.PutHave (told.Replied reply.Shelf) = place.Bare
unfair_place x (place.Hunt None) (told.Drew word (tried.Got hint)) = more (victim_of x.procs (begun x word)) (steal_goal hint - 1)
unfair_place x (place.Hunt (Some r)) (told.Tried (tried.Got hint)) = more (victim_of x.procs r) (steal_goal hint - 1)
unfair_place x here what = next_place x here what

-- Its turns: they stay where it may not keep its processor, and begin anew with each tick.
abbrev pub unfair_turns : Seen → Place → Told → ℕ
unfair_turns x place.Keep (told.Replied (reply.Answer false)) = x.turns
unfair_turns x (place.MindTick now) (told.Replied (reply.Woke n)) = 0
unfair_turns x here what = next_turns x here what
