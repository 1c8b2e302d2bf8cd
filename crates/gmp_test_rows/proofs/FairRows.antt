-- Rows of the driver's table in which a fair machine is not as one that is not.
use Rattle.std.proofs.Common.{◌≡◌, ℕ, true, false, Some, None, refl}
use Rattle.gmp_seq.specs.declared.call.Call.TheVariants as call
use Rattle.gmp_seq.specs.declared.call.Reply.TheVariants as reply
use Rattle.gmp_driver.specs.declared.act.Act.{Act}
use Rattle.gmp_driver.specs.declared.act.Act.TheVariants as act
use Rattle.gmp_driver.specs.declared.act.Told.{Told}
use Rattle.gmp_driver.specs.declared.act.Told.TheVariants as told
use Rattle.gmp_driver.specs.declared.act.Tried.TheVariants as tried
use Rattle.gmp_driver.specs.declared.place.Aside.{Aside}
use Rattle.gmp_driver.specs.declared.place.Aside.TheVariants as aside
use Rattle.gmp_driver.specs.declared.place.Place.{Place}
use Rattle.gmp_driver.specs.declared.place.Place.TheVariants as place
use Rattle.gmp_driver.specs.declared.seen.Seen.{Seen}
use Rattle.gmp_driver.specs.Table.{act_at, next_aside, next_place, next_turns}
use Rattle.gmp_test_rows.proofs.Traces.{processor, ticket}

-- It is to look at the shelf next, and then at the queue of processor 2 of three.
abbrev fair : Seen
fair = record { procs = 3; fresh = false; turns = 0; aside = Some (aside.Shelf (processor 2)); own = Some (processor 1); to_claim = Some (ticket 1 2); to_store = None; first = None }

-- It is to look at that queue next.
abbrev queue_next : Seen
queue_next = record fair { aside = Some (aside.Queue (processor 2)) }

-- 16 claims were made since it looked aside
abbrev late : Seen
late = record fair { turns = 16 }

-- there is one processor
abbrev alone : Seen
alone = record fair { procs = 1; aside = Some (aside.Queue (processor 0)) }

-- the act at this place, and once the machine was told this where it stands, its turns, and where it looks aside next
abbrev Leads : Seen → Place → Told → Act → Place → ℕ → Aside → Type 0
Leads x here what does there turns looks = (act_at x here ≡ does) × (next_place x here what ≡ there) × (next_turns x here what ≡ turns) × (next_aside x here what ≡ Some looks)

tick_is_no_look : Leads late (place.Ticking 5) (told.Replied (reply.Woke 0)) (act.Call (call.Tick 5)) place.Keep 0 (aside.Shelf (processor 2))
tick_is_no_look = (refl, refl, refl, refl)

keep_glances : Leads fair place.Keep (told.Replied (reply.Answer true)) (act.Call call.Keep) place.Glance 0 (aside.Queue (processor 2))
keep_glances = (refl, refl, refl, refl)

keep_peeks : Leads queue_next place.Keep (told.Replied (reply.Answer true)) (act.Call call.Keep) (place.Peek (processor 2)) 0 (aside.Shelf (processor 1))
keep_peeks = (refl, refl, refl, refl)

after_the_first_the_last : Leads (record fair { aside = Some (aside.Queue (processor 0)) }) place.Keep (told.Replied (reply.Answer true)) (act.Call call.Keep) (place.Peek (processor 0)) 0 (aside.Shelf (processor 2))
after_the_first_the_last = (refl, refl, refl, refl)

not_kept_is_late : Leads fair place.Keep (told.Replied (reply.Answer false)) (act.Call call.Keep) place.Drain 16 (aside.Shelf (processor 2))
not_kept_is_late = (refl, refl, refl, refl)

alone_peeks : Leads alone (place.Ticking 5) (told.Replied (reply.Woke 0)) (act.Call (call.Tick 5)) (place.Peek (processor 0)) 0 (aside.Shelf (processor 0))
alone_peeks = (refl, refl, refl, refl)

glance_ticket : Leads fair place.Glance (told.Replied (reply.Ticket (ticket 1 2))) (act.Call call.Take) place.Claim 0 (aside.Shelf (processor 2))
glance_ticket = (refl, refl, refl, refl)

glance_nothing : Leads fair place.Glance (told.Replied reply.Nothing) (act.Call call.Take) place.Look 0 (aside.Shelf (processor 2))
glance_nothing = (refl, refl, refl, refl)

peek_got : Leads fair (place.Peek (processor 0)) (told.Tried (tried.Got 9)) (act.Steal (processor 0)) place.Claim 0 (aside.Shelf (processor 2))
peek_got = (refl, refl, refl, refl)

peek_empty : Leads fair (place.Peek (processor 0)) (told.Tried tried.Empty) (act.Steal (processor 0)) place.Look 0 (aside.Shelf (processor 2))
peek_empty = (refl, refl, refl, refl)

peek_unsure : Leads fair (place.Peek (processor 0)) (told.Tried tried.Unsure) (act.Steal (processor 0)) (place.Peek (processor 0)) 0 (aside.Shelf (processor 2))
peek_unsure = (refl, refl, refl, refl)

hunt_takes_one : Leads fair (place.Hunt None) (told.Drew 3 (tried.Got 9)) act.Hunt place.Unspin 0 (aside.Shelf (processor 2))
hunt_takes_one = (refl, refl, refl, refl)

scan_in_time : Leads fair (place.Scan (processor 0)) (told.Tried (tried.Got 1)) (act.Steal (processor 0)) place.Have 0 (aside.Shelf (processor 2))
scan_in_time = (refl, refl, refl, refl)

scan_when_late : Leads late (place.Scan (processor 0)) (told.Tried (tried.Got 1)) (act.Steal (processor 0)) place.PutHave 16 (aside.Shelf (processor 2))
scan_when_late = (refl, refl, refl, refl)

put_have_in_time : Leads fair place.PutHave (told.Replied reply.Shelf) (act.Call (call.Put (ticket 1 2))) place.Bare 0 (aside.Shelf (processor 2))
put_have_in_time = (refl, refl, refl, refl)

put_have_when_late : Leads late place.PutHave (told.Replied reply.Shelf) (act.Call (call.Put (ticket 1 2))) place.Start 16 (aside.Shelf (processor 2))
put_have_when_late = (refl, refl, refl, refl)

minded_tick_is_no_look : Leads late (place.MindTick 8) (told.Replied (reply.Woke 1)) (act.Call (call.Tick 8)) place.Start 16 (aside.Shelf (processor 2))
minded_tick_is_no_look = (refl, refl, refl, refl)
