use Rattle.std.proofs.Common.{◌≡◌, [], refl, replicate, rules}
use Rattle.circular_buffer.specs.Buffer.{buffer}
use Rattle.gmp_base.specs.declared.number.GNo.{GNo}
use Rattle.gmp_seq.specs.State.{dormant}
use Rattle.gmp_table.proofs.Moves.{dormant_table, dormant_off, off_pushed}
use Rattle.gmp_table.proofs.table.StatusTable.open.Goals as goal

pub invariant_of-result : goal.invariant_of-result
invariant_of-result c =
    let n = c.args.bodies in
    let main : GNo = record { 0 = 0 } in
    let rows : c.in_ok-rows.rows ≡ replicate n dormant = search rules in
    let shelf : c.in_ok-shelf.shelf ≡ buffer [] n = search rules in
    rw (c.rise.ensures.rows, c.push_back.ensures.items, rows, shelf) (off_pushed (replicate n dormant) main _ [] n (dormant_table n) (dormant_off n c.requires) refl)
