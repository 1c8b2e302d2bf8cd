use Rattle.std.proofs.Common.{◌≡◌, [], ◌∷◌, Bool, Some, ap, slice_get, sym}
use Rattle.std.specs.Option.{option_map_or}
use Rattle.gmp_seq.specs.declared.status.Mode.{Mode}
use Rattle.gmp_seq.specs.Machines.{spins}
use Rattle.gmp_start.specs.Start.{machines_of}
use Rattle.gmp_explain.specs.Spoken.{Acts}
use Rattle.gmp_explain.specs.Stated.{machine_said}
use Rattle.gmp_explain.proofs.Spoken.{as_said, one}
use Rattle.gmp_explain.proofs.before.tell_machine.Goals as goal

pub returns : goal.returns
returns g c =
    let a = c.args in
    let told = g.S.Sink.told in
    let w = machines_of a.last.now in
    let mode = c.in-Some.mode in
    let is : slice_get w.modes a.m.0 ≡ Some mode = sym c.in-Some.ensures in
    as_said told a.sink.now c.tell.new.self (machine_said w a.m a.holds) (Acts a.m mode a.holds (spins w a.m) ∷ [])
    (ap (λ o. option_map_or (λ (x : Mode). Acts a.m x a.holds (spins w a.m) ∷ []) o []) is)
    (one told a.sink.now c.tell.new.self (Acts a.m mode a.holds (spins w a.m)) c.in_ok-tell.ensures (ap (λ (b : Bool). Some (Acts a.m mode a.holds b)) c.spins.ensures))
