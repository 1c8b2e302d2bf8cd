-- From whom a machine steals, and how many tickets.
use Rattle.std.specs.Prelude.{ℕ, zero, suc, ◌+◌, ◌-◌, ◌%◌, ◌/◌, ◌==◌, min, max, nat_lt, Bool, false, Option, Some, None, if◌then◌else◌}
use Rattle.std.specs.Option.{option_map_or}
use Rattle.gmp_base.specs.declared.number.PNo.{PNo}
use Rattle.gmp_driver.specs.declared.act.Tried.{Tried}
use Rattle.gmp_driver.specs.declared.act.Tried.TheVariants as tried
use Rattle.gmp_driver.specs.declared.place.Aside.{Aside}
use Rattle.gmp_driver.specs.declared.place.Place.{Place}
use Rattle.gmp_driver.specs.declared.place.Place.TheVariants as place
use Rattle.gmp_driver.specs.declared.place.Round.{Round}
use Rattle.gmp_driver.specs.declared.seen.Seen.{Seen}

-- number i of a hunt's order: word mod np, word mod np + 1 and so on, modulo np
abbrev pub victim : ℕ → ℕ → ℕ → PNo
victim np word i = record { 0 = (word % np + i) % np }

abbrev pub victim_of : ℕ → Round → PNo
victim_of np r = victim np r.word r.number

abbrev pub is_processor : PNo → Option PNo → Bool
is_processor p own = option_map_or (λ (q : PNo). q.0 == p.0) own false

-- the own processor is skipped
abbrev pub skipped : Seen → ℕ → ℕ → ℕ
skipped x word i = if is_processor (victim x.procs word i) x.own then i + 1 else i

-- it begins so
abbrev pub begun : Seen → ℕ → Round
begun x word = record { word = word; number = skipped x word 0 }

-- after the last of np it is at Unspin
abbrev pub hunt_on : Seen → ℕ → ℕ → Place
hunt_on x word i = if nat_lt (skipped x word i) x.procs then place.Hunt (Some (record { word = word; number = skipped x word i })) else place.Unspin

-- how many tickets are stolen from a queue that is said to be so long
abbrev pub steal_goal : ℕ → ℕ
steal_goal hint = max 1 (min 16 ((hint + 1) / 2))

-- how many tickets a hunt takes from it: a machine that is fair takes one
abbrev pub hunt_goal : Option Aside → ℕ → ℕ
hunt_goal None hint = steal_goal hint
hunt_goal (Some looks) hint = 1

-- More with goal 0 is Unspin
abbrev pub more : PNo → ℕ → Place
more v zero = place.Unspin
more v (suc goal) = place.More v (suc goal)

-- Got: more of the same victim, where the machine is not fair; Empty: the next victim; Unsure: the same
abbrev pub hunted : Seen → Round → Tried → Place
hunted x r (tried.Got hint) = more (victim_of x.procs r) (hunt_goal x.aside hint - 1)
hunted x r tried.Empty = hunt_on x r.word (r.number + 1)
hunted x r tried.Unsure = place.Hunt (Some r)
