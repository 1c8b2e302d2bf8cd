use Rattle.std.proofs.Common.{◌≡◌}
use Rattle.slab.specs.Slab.{slab_len}
use Rattle.gmp_chan.specs.Stored.{IsStored}
use Rattle.gmp_chan.proofs.Goroutines.{HasLost}
use Rattle.gmp_chan.proofs.waiters.Waiters.withdraw.Given as goal

-- some of the goroutine's offers are gone, and all others are left
abbrev pub invariant-loop-key : goal.invariant-loop-key
invariant-loop-key l = record {
  kept : IsStored l.self-inside.store;
  lost : HasLost l.fn.g l.initial.self-inside.store.records.slots l.self-inside.store.records.slots;
  bodies : l.self-inside.store.bodies ≡ l.initial.self-inside.store.bodies;
  channels : l.self-inside.store.channels ≡ l.initial.self-inside.store.channels;
}

abbrev pub decreases-loop-key : goal.decreases-loop-key
decreases-loop-key l = slab_len l.self-inside.store.records
