use Rattle.std.proofs.Common.{rules}
use Rattle.gmp_slots.proofs.Putting.{put_changes}
use Rattle.gmp_slots.proofs.Store.put.Goals as goal

-- what stands at the number of this round and key
pub returns-clause-puts : goal.returns-clause-puts
returns-clause-puts g c =
    let key = c.insert_reserved-key in
    put_changes _ _ _ key.result c.args.value (search rules) key.ensures.key_in_range key.ensures.capacity key.ensures.was_vacant key.ensures.updates
