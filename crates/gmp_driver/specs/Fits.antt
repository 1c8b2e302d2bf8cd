-- Which registers are filled at each place.
use Rattle.std.specs.Prelude.{◌≡◌, ◌≤◌, Bool, true, false, IsSome, IfSome, is_some}
use Rattle.gmp_driver.specs.declared.place.Place.{Place}
use Rattle.gmp_driver.specs.declared.place.Place.TheVariants as place
use Rattle.gmp_driver.specs.declared.registers.Registers.{Registers}
use Rattle.gmp_driver.specs.Machine.{Machine}

-- the processor, the goroutine that runs, the one in its blocking call, the ticket to claim, the ticket to store
pub record IsFilled {T Q : Type 0} (processor held called to_claim to_store : Bool) (hand : Registers T Q) : Type 0 where
  pub has_processor : is_some hand.processor ≡ processor
  pub has_held : is_some hand.held ≡ held
  pub has_called : is_some hand.called ≡ called
  pub has_to_claim : is_some hand.to_claim ≡ to_claim
  pub has_to_store : is_some hand.to_store ≡ to_store

abbrev pub HasNothing : {T Q : Type 0} → Registers T Q → Type 0
HasNothing hand = IsFilled false false false false false hand

abbrev pub HasProcessor : {T Q : Type 0} → Registers T Q → Type 0
HasProcessor hand = IsFilled true false false false false hand

-- a processor and a ticket to claim
abbrev pub HasTicket : {T Q : Type 0} → Registers T Q → Type 0
HasTicket hand = IsFilled true false false true false hand

-- a processor and two tickets
abbrev pub HasTickets : {T Q : Type 0} → Registers T Q → Type 0
HasTickets hand = IsFilled true false false true true hand

-- a processor and a goroutine that runs
abbrev pub Runs : {T Q : Type 0} → Registers T Q → Type 0
Runs hand = IsFilled true true false false false hand

-- the same, and a ticket to store
abbrev pub RunsAndStores : {T Q : Type 0} → Registers T Q → Type 0
RunsAndStores hand = IsFilled true true false false true hand

-- a goroutine in its blocking call, and no processor
abbrev pub Calls : {T Q : Type 0} → Registers T Q → Type 0
Calls hand = IsFilled false false true false false hand

-- a ticket to claim, and no processor
abbrev pub HasFound : {T Q : Type 0} → Registers T Q → Type 0
HasFound hand = IsFilled false false false true false hand

-- what a machine holds at a place
abbrev pub SuitsPlace : {T Q : Type 0} → Place → Registers T Q → Type 0
SuitsPlace place.Start hand = HasNothing hand
SuitsPlace place.Look hand = HasProcessor hand
SuitsPlace (place.Ticking now) hand = HasProcessor hand
SuitsPlace place.Keep hand = HasProcessor hand
SuitsPlace place.Glance hand = HasProcessor hand
SuitsPlace (place.Peek v) hand = HasProcessor hand
SuitsPlace place.Drain hand = HasProcessor hand
SuitsPlace place.PutDrain hand = IsFilled true false false false true hand
SuitsPlace place.Global hand = HasProcessor hand
SuitsPlace place.Spin hand = HasProcessor hand
SuitsPlace (place.Hunt r) hand = HasProcessor hand
SuitsPlace (place.More v goal) hand = HasTicket hand
SuitsPlace (place.StoreMore v goal) hand = HasTickets hand
SuitsPlace (place.PutMore v goal) hand = HasTickets hand
SuitsPlace place.Unspin hand = IsFilled true false false (is_some hand.to_claim) false hand
SuitsPlace place.Claim hand = HasTicket hand
SuitsPlace place.Run hand = Runs hand
SuitsPlace (place.Do asked) hand = Runs hand
SuitsPlace place.Store hand = RunsAndStores hand
SuitsPlace place.PutStore hand = RunsAndStores hand
SuitsPlace place.Poke hand = Runs hand
SuitsPlace place.Block hand = Calls hand
SuitsPlace (place.Leave number) hand = Calls hand
SuitsPlace place.Drop hand = HasProcessor hand
SuitsPlace place.Bare hand = HasNothing hand
SuitsPlace (place.Scan v) hand = HasNothing hand
SuitsPlace place.Have hand = HasFound hand
SuitsPlace place.PutHave hand = HasFound hand
SuitsPlace place.Park hand = HasNothing hand
SuitsPlace place.Rest hand = HasNothing hand
SuitsPlace (place.Mind deadline) hand = HasNothing hand
SuitsPlace (place.MindTick now) hand = HasNothing hand
SuitsPlace place.Over hand = Unit {0}
SuitsPlace place.Done hand = HasNothing hand

-- What a driver keeps: it has as many processors as there may be, its pass is of its run, and while nothing is given out it holds what its
-- place says.
pub record IsDriver {T Q : Type 0} (x : Machine T Q) : Type 0 where
  pub some_procs : 1 ≤ x.procs
  pub few_procs : x.procs ≤ 32
  pub few_turns : x.turns ≤ 16
  pub pass : IfSome x.pass (λ p. p.run ≡ x.run)
  pub fits : IsSome x.pass → SuitsPlace x.place x.hand
