-- What the fields of a store keep.
use Rattle.gmp_chan.specs.Kept.{IsKept}
use Rattle.gmp_chan.specs.declared.waiters.Store.{Store}

abbrev pub IsStored : Store → Type 0
IsStored s = IsKept s.records.slots s.records.capacity s.queues.next.items s.queues.prev.items s.chains.next.items s.chains.prev.items s.bodies s.channels
