use Rattle.std.proofs.Common.{refl, sym, ◌∙◌}
use Rattle.gmp_seq.specs.Machines.{is_parked_mode}
use Rattle.gmp_idle.proofs.Marking.{first_place, none_passes}
use Rattle.gmp_idle.proofs.modes.Modes.wake_least.Goals as goal

pub returns-in_err-least : goal.returns-in_err-least
returns-in_err-least c =
    let i = c.self.inside in
    let none = none_passes is_parked_mode i.modes.items (first_place is_parked_mode i.parked i.modes.items c.self.invariant.0 (sym c.least.ensures ∙ c.in_err-least.was)) in
    rw (c.from_residual.ensures, ← c.self.view_is) (none, refl)

pub returns : goal.returns
returns c =
    let i = c.self.inside in
    let first = first_place is_parked_mode i.parked i.modes.items c.self.invariant.0 (sym c.least.ensures ∙ c.in_ok-least.was) in
    rw (c.put.ensures, ← c.self.view_is) (first, refl)
