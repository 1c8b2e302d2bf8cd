use Rattle.std.proofs.Common.{◌≡◌, ◌≤◌, ◌+◌, ◌++◌, Some, map, reverse, vec_len, vec_capacity}
use Rattle.gmp_book.proofs.slots.Slots.of.Given as goal

-- the slots so far, and those of what is left, are those of the items
abbrev pub invariant-loop-item : goal.invariant-loop-item
invariant-loop-item g l = record {
  items : l.slots.items ++ map Some (reverse l.room.items) ≡ map Some l.fn.items.items;
  slots_fit : vec_len l.slots + vec_len l.room ≤ vec_capacity l.slots;
  room_fits : vec_len l.slots + vec_len l.room ≤ vec_capacity l.room;
}

abbrev pub decreases-loop-item : goal.decreases-loop-item
decreases-loop-item g l = goal.left-loop-item g l
