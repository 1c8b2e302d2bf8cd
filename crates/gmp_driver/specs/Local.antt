-- Acts on queues, bodies and the clock: what may come of each, and which values come back.
use Rattle.std.specs.Prelude.{ℕ, Bool, true, false, Option, Some, None, is_some}
use Rattle.gmp_driver.specs.declared.act.Act.{Act}
use Rattle.gmp_driver.specs.declared.act.Act.TheVariants as act
use Rattle.gmp_driver.specs.declared.act.QueueTold.{QueueTold}
use Rattle.gmp_driver.specs.declared.act.QueueTold.TheVariants as queue
use Rattle.gmp_driver.specs.declared.act.Told.{Told}
use Rattle.gmp_driver.specs.declared.act.Told.TheVariants as told
use Rattle.gmp_driver.specs.declared.act.Tried.{Tried}
use Rattle.gmp_driver.specs.declared.act.Tried.TheVariants as tried
use Rattle.gmp_driver.specs.declared.registers.Registers.{Registers}

-- which registers are filled
pub record Filled : Type 0 where
  pub processor : Bool
  pub held : Bool
  pub called : Bool
  pub to_claim : Bool
  pub to_store : Bool

abbrev pub filled : {T Q : Type 0} → Registers T Q → Filled
filled hand = record { processor = is_some hand.processor; held = is_some hand.held; called = is_some hand.called; to_claim = is_some hand.to_claim; to_store = is_some hand.to_store }

-- the act that takes a ticket from the own queue, to claim it or to store it
abbrev pub pop_for : Bool → Act
pop_for false = act.Pop
pop_for true = act.Drain

-- what is told of that ticket
abbrev pub popped_for : Bool → Told
popped_for false = told.Got
popped_for true = told.Drained

-- an act that steals: the first of a hunt draws a word, and no other does
abbrev pub IsSteal : Act → Option ℕ → Type 0
IsSteal act.Hunt (Some word) = Unit {0}
IsSteal (act.Steal victim) None = Unit {0}
IsSteal _ _ = ⊥

-- what a machine is told of a steal: with the word, where it drew one
abbrev pub tells : Option ℕ → Tried → Told
tells None how = told.Tried how
tells (Some word) how = told.Drew word how

-- what is told of an act at a local queue
abbrev pub told_of : QueueTold → Told
told_of (queue.Popped is_to_store) = popped_for is_to_store
told_of queue.Empty = told.Empty
told_of (queue.Stole drawn how) = tells drawn how
told_of queue.Pushed = told.Pushed
told_of queue.PushRefused = told.PushRefused

-- what may come of such an act; nothing of other acts
abbrev pub MayCome : Act → Told → Type 0
MayCome act.Pop told.Got = Unit {0}
MayCome act.Pop told.Empty = Unit {0}
MayCome act.Drain told.Drained = Unit {0}
MayCome act.Drain told.Empty = Unit {0}
MayCome act.Push told.Pushed = Unit {0}
MayCome act.Push told.PushRefused = Unit {0}
MayCome act.Hunt (told.Drew word how) = Unit {0}
MayCome (act.Steal victim) (told.Tried how) = Unit {0}
MayCome act.Resume (told.Asked asked) = Unit {0}
MayCome act.Block (told.Number number) = Unit {0}
MayCome (act.Clock minded) (told.Moment now) = Unit {0}
MayCome _ _ = ⊥

-- a ticket that is stolen is one to claim, and where the machine has one to claim already, one to store
abbrev pub filled_with_stolen : Bool → Filled → Filled
filled_with_stolen true f = record f { to_store = true }
filled_with_stolen false f = record f { to_claim = true }

-- what comes back: all that was handed out, but for a ticket that was pushed, and a ticket that was popped or stolen besides
abbrev pub come_back : Told → Bool → Filled → Filled
come_back told.Pushed has f = record f { to_store = false }
come_back told.Got has f = record f { to_claim = true }
come_back told.Drained has f = record f { to_store = true }
come_back (told.Tried (tried.Got hint)) has f = filled_with_stolen has f
come_back (told.Drew word (tried.Got hint)) has f = filled_with_stolen has f
come_back what has f = f
