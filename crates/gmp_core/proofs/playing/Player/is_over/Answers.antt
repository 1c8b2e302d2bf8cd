use Rattle.std.proofs.Common.{◌≡◌, ◌<◌, false, true, sym, ◌∙◌, arith, rules}
use Rattle.gmp_driver.specs.Machine.{is_done}
use Rattle.gmp_acts.specs.System.{machine_at}
use Rattle.gmp_core.specs.Stage.{machines_of, parked}
use Rattle.gmp_core.proofs.playing.Player.is_over.Goals as goal

pub returns-then-not-done : goal.returns-then-not-done
returns-then-not-done g c =
    let k = c.self.inside.core.system in
    let within : c.loop-m.m < machines_of k = omega arith in
    let awake : parked k c.loop-m.m ≡ false = sym c.parked.ensures ∙ c.if-not-parked.true in
    let busy : is_done (machine_at k (record { 0 = c.loop-m.m })).place ≡ false = sym c.done.ensures ∙ c.if-not-done.true in
    rw (← c.self.view_is) ((λ no. (let e : false ≡ true = no in cc)), (λ over. sym busy ∙ over.done (record { 0 = c.loop-m.m }) within awake))

pub returns : goal.returns
returns g c = search rules
