-- The place that a spot stands for.
use Rattle.std.specs.Prelude.{Bool, true, false, Some, None}
use Rattle.gmp_base.specs.declared.ask.Ask.{Ask}
use Rattle.gmp_base.specs.declared.ask.Ask.TheVariants as ask
use Rattle.gmp_driver.specs.declared.place.Place.{Place}
use Rattle.gmp_driver.specs.declared.place.Place.TheVariants as place
use Rattle.gmp_driver.specs.declared.spot.Spot.{Spot}
use Rattle.gmp_driver.specs.declared.spot.Spot.TheVariants as spot

-- the place, with the ask that stands beside the spot
abbrev pub place_of : Spot → Ask → Place
place_of spot.Start beside = place.Start
place_of spot.Look beside = place.Look
place_of (spot.Ticking now) beside = place.Ticking now
place_of spot.Keep beside = place.Keep
place_of spot.Glance beside = place.Glance
place_of (spot.Peek v) beside = place.Peek v
place_of spot.Drain beside = place.Drain
place_of spot.PutDrain beside = place.PutDrain
place_of spot.Global beside = place.Global
place_of spot.Spin beside = place.Spin
place_of spot.Hunt beside = place.Hunt None
place_of (spot.HuntOn number word) beside = place.Hunt (Some (record { word = word; number = number }))
place_of (spot.More v goal) beside = place.More v goal
place_of (spot.StoreMore v goal) beside = place.StoreMore v goal
place_of (spot.PutMore v goal) beside = place.PutMore v goal
place_of spot.Unspin beside = place.Unspin
place_of spot.Claim beside = place.Claim
place_of spot.Run beside = place.Run
place_of spot.Yield beside = place.Do ask.Yield
place_of (spot.Send c value) beside = place.Do (ask.Send c value)
place_of (spot.Recv c) beside = place.Do (ask.Recv c)
place_of spot.Do beside = place.Do beside
place_of spot.Store beside = place.Store
place_of spot.PutStore beside = place.PutStore
place_of spot.Poke beside = place.Poke
place_of spot.Block beside = place.Block
place_of (spot.Leave number) beside = place.Leave number
place_of spot.Drop beside = place.Drop
place_of spot.Bare beside = place.Bare
place_of (spot.Scan v) beside = place.Scan v
place_of spot.Have beside = place.Have
place_of spot.PutHave beside = place.PutHave
place_of spot.Park beside = place.Park
place_of spot.Rest beside = place.Rest
place_of (spot.Mind deadline) beside = place.Mind deadline
place_of (spot.MindTick now) beside = place.MindTick now
place_of spot.Over beside = place.Over
place_of spot.Done beside = place.Done

-- the ask whose call is made there; at a spot at which none is made, a yield
abbrev pub asked_at : Spot → Ask → Ask
asked_at (spot.Send c value) beside = ask.Send c value
asked_at (spot.Recv c) beside = ask.Recv c
asked_at spot.Do beside = beside
asked_at _ beside = ask.Yield

-- the call that is made there is a body's
abbrev pub is_ask : Spot → Bool
is_ask spot.Yield = true
is_ask (spot.Send c value) = true
is_ask (spot.Recv c) = true
is_ask spot.Do = true
is_ask _ = false
