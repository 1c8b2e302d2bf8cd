use Rattle.std.proofs.Common.{Some, refl, sym, ◌∙◌}
use Rattle.std.specs.Prelude.{is_none}
use Rattle.std.proofs.lemmas.Bool.{le-ltb}
use Rattle.gmp_idle.proofs.Marking.{first_below, first_place, marked, none_below, none_passes}
use Rattle.gmp_idle.proofs.processors.Processors.take.Goals as goal

pub returns-in_err-p : goal.returns-in_err-p
returns-in_err-p c =
    let i = c.self.inside in
    let none = none_passes is_none i.holders.items (first_place is_none i.idle i.holders.items c.self.invariant (sym c.least.ensures ∙ c.in_err-p.was)) in
    rw (c.from_residual.ensures, ← c.self.view_is) (none_below is_none i.holders.items c.args.active none, refl)

pub invariant_of-self : goal.invariant_of-self
invariant_of-self c = c.remove.ensures ∙ marked is_none c.self.inside.idle c.self.inside.holders.items c.in_ok-p.p (Some c.args.m) c.self.invariant

pub returns-then-p-active : goal.returns-then-p-active
returns-then-p-active c =
    let i = c.self.inside in
    let first = first_place is_none i.idle i.holders.items c.self.invariant (sym c.least.ensures ∙ c.in_ok-p.was) in
    rw (← c.self.view_is) (first_below is_none i.holders.items c.args.active c.in_ok-p.p first ∙ le-ltb c.in_ok-p.p c.args.active c.if-p-active.true, refl)

pub returns : goal.returns
returns c =
    let i = c.self.inside in
    let first = first_place is_none i.idle i.holders.items c.self.invariant (sym c.least.ensures ∙ c.in_ok-p.was) in
    rw (← c.self.view_is) (first, c.if-p-active.false, refl)
