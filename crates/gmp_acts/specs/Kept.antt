-- What acts that are no calls leave as it was.
use Rattle.std.specs.Prelude.{◌≡◌, ◌≢◌}
use Rattle.gmp_base.specs.declared.number.MNo.{MNo}
use Rattle.gmp_base.specs.declared.number.Readiness.{Readiness}
use Rattle.gmp_driver.specs.declared.act.Act.{Act}
use Rattle.gmp_driver.specs.declared.act.Act.TheVariants as act
use Rattle.gmp_driver.specs.Seen.{own_processor}
use Rattle.gmp_acts.specs.System.{System, elsewhere, machine_at}

-- the act is no call of the book and gives nothing back: it is on a queue, a body or the clock, or does nothing
abbrev pub IsLocal : Act → Type 0
IsLocal (act.Call asked) = ⊥
IsLocal (act.Surrender which) = ⊥
IsLocal _ = Unit {0}

-- the run and the other machines, what machine m holds but for tickets, and in how many queues and hands each ticket stands
pub record KeepsAll (k : System) (m : MNo) (k' : System) : Type 0 where
  pub book : k'.book ≡ k.book
  pub own : k'.own ≡ k.own
  pub others : (n : MNo) → n ≢ m → machine_at k' n ≡ machine_at k n
  pub processor : own_processor (machine_at k' m).hand ≡ own_processor (machine_at k m).hand
  pub held : (machine_at k' m).hand.held ≡ (machine_at k m).hand.held
  pub called : (machine_at k' m).hand.called ≡ (machine_at k m).hand.called
  pub tickets : (r : Readiness) → elsewhere r k' ≡ elsewhere r k
