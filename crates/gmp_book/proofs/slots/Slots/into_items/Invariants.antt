use Rattle.std.proofs.Common.{◌≡◌, ◌≤◌, ◌+◌, ◌++◌, Some, true, is_some, map, reverse, vec_len, vec_capacity}
use Rattle.std.specs.List.{list_all}
use Rattle.gmp_book.proofs.slots.Slots.into_items.Given as goal

-- the items so far, and those of the slots that are left, are those of all
abbrev pub invariant-loop-slot : goal.invariant-loop-slot
invariant-loop-slot g l = record {
  items : map Some l.room.items ++ reverse l.slots.items ≡ l.fn.self;
  filled : list_all is_some l.slots.items ≡ true;
  room_fits : vec_len l.room + vec_len l.slots ≤ vec_capacity l.room;
}

abbrev pub decreases-loop-slot : goal.decreases-loop-slot
decreases-loop-slot g l = goal.left-loop-slot g l
