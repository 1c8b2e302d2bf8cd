use Rattle.gmp_goroutines.proofs.Common.{◌≡◌, List, GNo}
use Rattle.gmp_seq.specs.Table.{how_many_woken}
use Rattle.gmp_table.proofs.Waking.{IsPartWoken}
use Rattle.gmp_table.specs.Waking.{answer_of}
use Rattle.gmp_goroutines.specs.Tied.{IsTied}
use Rattle.gmp_goroutines.proofs.goroutines.Goroutines.wake_all.Given as goal

-- some were woken, so many, and the records of those are gone
abbrev pub invariant-loop-next : goal.invariant-loop-next
invariant-loop-next l = record {
  woken : (gs : List GNo) × IsPartWoken l.fn.wake l.initial.self-inside.table l.self-inside.table gs l.count;
  tied : IsTied l.self-inside.table.table l.self-inside.channels.waiters l.self-inside.channels.bodies l.self-inside.runners.items;
  same : l.self-inside.runners ≡ l.initial.self-inside.runners;
  channels : l.self-inside.channels.channels ≡ l.initial.self-inside.channels.channels;
  limit : l.self-inside.channels.limit ≡ l.initial.self-inside.channels.limit;
}

abbrev pub decreases-loop-next : goal.decreases-loop-next
decreases-loop-next l = how_many_woken (answer_of l.fn.wake) l.self-inside.table.table
