-- What holds after every list of acts.
use Rattle.std.specs.Prelude.{◌≡◌, ◌⊎◌, ◌↔◌, ℕ, ◌<◌, ◌≤◌, List, [], ◌∷◌, ◌++◌, map, None, Some, false, length, replicate, count_by, Bool}
use Rattle.gmp_driver.specs.Table.{first_aside}
use Rattle.std.specs.List.{range_with_len}
use Rattle.gmp_base.specs.declared.number.GNo.{GNo}
use Rattle.gmp_base.specs.declared.number.MNo.{MNo}
use Rattle.gmp_base.specs.declared.number.Readiness.{Readiness}
use Rattle.gmp_seq.specs.declared.call.Call.TheVariants.{Claim}
use Rattle.gmp_seq.specs.declared.call.Limits.{Limits}
use Rattle.gmp_seq.specs.declared.call.Reply.TheVariants.{Held}
use Rattle.gmp_seq.specs.Laws.{claims}
use Rattle.gmp_seq.specs.Run.{IsLegal, made}
use Rattle.gmp_seq.specs.State.{opening}
use Rattle.gmp_seq.specs.Table.{IsCalling, IsRunning}
use Rattle.gmp_driver.specs.declared.place.Place.TheVariants as place
use Rattle.gmp_acts.specs.Hands.{PlainMachine}
use Rattle.gmp_driver.specs.Registers.{nothing}
use Rattle.gmp_acts.specs.System.{BookRun, System, count_of, machine_at, own_of, held_number, called_number, places_of, readied}

-- while the run lasts
abbrev pub Lasts : System → Type 0 → Type 0
Lasts k fact = k.book.state.outcome ≡ None → fact

-- the machine runs the goroutine, or makes its blocking call
abbrev pub RunsInHand : System → MNo → GNo → Type 0
RunsInHand k m g = held_number (machine_at k m).hand.held ≡ Some g

abbrev pub CallsInHand : System → MNo → GNo → Type 0
CallsInHand k m g = called_number (machine_at k m).hand.called ≡ Some g

abbrev pub HasInHand : System → MNo → GNo → Type 0
HasInHand k m g = RunsInHand k m g ⊎ CallsInHand k m g

-- what was given at the opening stays
pub record SameOpening (old new : BookRun) : Type 0 where
  pub run : new.run ≡ old.run
  pub limits : new.limits ≡ old.limits
  pub bodies : new.bodies ≡ old.bodies
  pub capacities : new.capacities ≡ old.capacities

-- a run that made no call yet
abbrev pub opening_run : ℕ → Limits → ℕ → List ℕ → BookRun
opening_run run limits bodies capacities = record {
  run = run;
  limits = limits;
  bodies = bodies;
  capacities = capacities;
  history = [];
  state = opening limits bodies capacities;
}

-- The headline, for machines that began with these limits, so many bodies and these capacities.
pub record Headline (run : ℕ) (limits : Limits) (bodies : ℕ) (capacities : List ℕ) (k : System) : Type 0 where
  pub opened : SameOpening (opening_run run limits bodies capacities) k.book
  pub machines : length k.machines ≡ limits.machines
  -- the book holds one legal run
  pub legal : IsLegal limits bodies capacities k.book.history k.book.state
  -- each machine's calls, each once, in its order and with that run's replies
  pub calls : (m : MNo) → own_of k m ≡ made k.book.history m
  -- no goroutine is held by two machines, and while the run lasts that machine holds it which its status names
  pub held_once : (m n : MNo) (g : GNo) → HasInHand k m g → HasInHand k n g → m ≡ n
  pub runs : (m : MNo) (g : GNo) → m.0 < limits.machines → Lasts k (RunsInHand k m g ↔ IsRunning k.book.state.table g m)
  pub in_call : (m : MNo) (g : GNo) → m.0 < limits.machines → Lasts k (CallsInHand k m g ↔ IsCalling k.book.state.table g m)
  -- each readiness is claimed at most once
  pub claimed_once : (r : Readiness) → count_by (claims r) k.book.history ≤ 1
  -- every ready goroutine's ticket stands in exactly one place, and no other ticket stands anywhere
  pub one_place : (r : Readiness) → Lasts k (places_of r k ≡ readied r k.book.state.table)
  -- at any time a ticket stands in one place at most, and only that of a ready goroutine
  pub one_at_most : (r : Readiness) → places_of r k ≤ readied r k.book.state.table
  pub once : (r : Readiness) → readied r k.book.state.table ≤ 1

-- Machine m claims the ticket that it holds to claim: that is the one entry more.
pub record EntersClaim (k : System) (m : MNo) (k' : System) : Type 0 where
  pub ticket : Readiness
  pub has_ticket : (machine_at k m).hand.to_claim ≡ Some ticket
  pub entry : k'.book.history ≡ k.book.history ++ record { m = m; k = count_of k.book m; call = Claim ticket; reply = Held } ∷ []

-- No claim is refused: while the run lasts, an act at Claim makes its entry, once fresh is spent.
abbrev pub NoClaimIsRefused : System → MNo → System → Type 0
NoClaimIsRefused k m k' = m.0 < length k.machines → (machine_at k m).place ≡ place.Claim → (machine_at k m).fresh ≡ false → Lasts k (EntersClaim k m k')

-- The opening

-- machine m at its start, with nothing in hand, its pass unused; fair or not
abbrev pub machine_at_start : Bool → ℕ → Limits → ℕ → PlainMachine
machine_at_start is_fair run limits m = record {
  run = run;
  procs = limits.procs;
  place = place.Start;
  fresh = false;
  turns = 0;
  aside = first_aside is_fair;
  pass = Some (record { run = run; m = record { 0 = m }; calls = 0; seen = 0 });
  hand = nothing;
}

-- no call, empty queues, and each machine at its start
abbrev pub opening_system : Bool → ℕ → Limits → ℕ → List ℕ → System
opening_system is_fair run limits bodies capacities = record {
  book = opening_run run limits bodies capacities;
  queues = replicate limits.procs [];
  machines = map (machine_at_start is_fair run limits) (range_with_len 0 limits.machines);
  own = [];
}
