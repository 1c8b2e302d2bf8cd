-- A machine that made an act at a queue is as fair as it was.
use Rattle.std.proofs.Common.{◌≡◌, ℕ, List, is_some, ap, ◌∙◌}
use Rattle.gmp_driver.specs.Machine.{Machine}
use Rattle.gmp_driver.specs.Seen.{seen}
use Rattle.gmp_driver.proofs.Unfair.{fair_stays}
use Rattle.gmp_queue.specs.declared.ends.Owner.{Owner}
use Rattle.gmp_queue.specs.declared.ends.Thief.{Thief}
use Rattle.gmp_worker.specs.AtQueue.{TurnsOnQueue}

pub queue_fair : {T : Type 0} (x x' : Machine T Owner) (thieves : List Thief) (word : ℕ) (thieves' : List Thief) → TurnsOnQueue x thieves word x' thieves' → is_some x'.aside ≡ is_some x.aside
queue_fair x x' thieves word thieves' t = ap (λ (y : Machine _ Owner). is_some y.aside) t.machine ∙ fair_stays (seen (record x { hand = t.hand })) x.place t.what
