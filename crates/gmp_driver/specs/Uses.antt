-- What a call finds in the registers.
use Rattle.std.specs.Prelude.{◌≡◌, Some, None, IsSome}
use Rattle.gmp_seq.specs.declared.call.Call.{Call}
use Rattle.gmp_seq.specs.declared.call.Call.TheVariants as call
use Rattle.gmp_driver.specs.declared.registers.Registers.{Registers}
use Rattle.gmp_driver.specs.Registers.{first_of}

-- which registers a call finds filled, and which free
abbrev pub Uses : {T Q : Type 0} → Call → Registers T Q → Type 0
Uses call.Acquire hand = hand.processor ≡ None
Uses call.Take hand = hand.to_claim ≡ None
-- the ticket to store, where there is one, and else the one to claim
Uses (call.Put r) hand = first_of hand.to_store hand.to_claim ≡ Some r
Uses (call.Claim r) hand = (hand.to_claim ≡ Some r) × (hand.held ≡ None) × (hand.called ≡ None) × IsSome hand.processor
Uses call.Enter hand = IsSome hand.held × IsSome hand.processor × (hand.called ≡ None)
Uses (call.Leave number) hand = IsSome hand.called × (hand.held ≡ None) × (hand.processor ≡ None)
Uses call.Declare hand = (hand.held ≡ None) × (hand.called ≡ None) × IsSome hand.processor
Uses call.Spin hand = (hand.held ≡ None) × (hand.called ≡ None)
Uses call.Woken hand = Unit {0}
Uses call.Keep hand = IsSome hand.processor
Uses call.Unspin hand = Unit {0}
Uses call.Poke hand = Unit {0}
Uses call.Bare hand = hand.processor ≡ None
Uses call.Park hand = hand.processor ≡ None
Uses (call.Tick moment) hand = Unit {0}
-- every other call is of the goroutine that runs; its ticket goes into the register of the ticket to store
Uses asked hand = IsSome hand.held × (hand.called ≡ None) × (hand.to_store ≡ None)
