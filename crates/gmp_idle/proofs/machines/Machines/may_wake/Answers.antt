use Rattle.std.proofs.Common.{◌≡◌, ◌==◌, true, false, sym, ap, ◌∙◌}
use Rattle.gmp_seq.specs.Machines.{Machines, how_many_spin, some_idle}
use Rattle.gmp_idle.proofs.Moving.{may_wake, may_wake_with, spinners}
use Rattle.gmp_idle.proofs.machines.Machines.may_wake.Goals as goal

pub returns-then-is_empty : goal.returns-then-is_empty
returns-then-is_empty c =
    let i = c.self.inside in
    let old : Machines = record { holders = i.processors; modes = i.modes; spinning = i.spinning; marked = i.marked; active = i.active } in
    let calm : (how_many_spin old == 0) ≡ true = spinners old ∙ (sym c.is_empty.ensures ∙ c.if-is_empty.true) in
    c.has_idle.ensures ∙ (ap some_idle (sym c.self.view_is) ∙ (sym (may_wake_with old true calm) ∙ ap may_wake c.self.view_is))

pub returns-else-is_empty : goal.returns-else-is_empty
returns-else-is_empty c =
    let i = c.self.inside in
    let old : Machines = record { holders = i.processors; modes = i.modes; spinning = i.spinning; marked = i.marked; active = i.active } in
    let busy : (how_many_spin old == 0) ≡ false = spinners old ∙ (sym c.is_empty.ensures ∙ c.if-is_empty.false) in
    c.if-is_empty.false ∙ (sym (may_wake_with old false busy) ∙ ap may_wake c.self.view_is)
