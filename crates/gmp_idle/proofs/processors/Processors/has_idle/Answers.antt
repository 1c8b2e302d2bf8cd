use Rattle.std.proofs.Common.{ap, sym, ◌∙◌}
use Rattle.std.specs.Prelude.{is_none, take}
use Rattle.std.specs.List.{list_any}
use Rattle.gmp_idle.proofs.Marking.{first_below, first_place, none_below, none_passes}
use Rattle.gmp_idle.proofs.processors.Processors.has_idle.Goals as goal

pub returns-in-Some : goal.returns-in-Some
returns-in-Some c =
    let i = c.self.inside in
    let first = first_place is_none i.idle i.holders.items c.self.invariant (sym c.least.ensures ∙ c.in-Some.is) in
    sym (first_below is_none i.holders.items c.args.active c.in-Some.p first) ∙ ap (λ hs. list_any is_none (take c.args.active hs)) c.self.view_is

pub returns-in-None : goal.returns-in-None
returns-in-None c =
    let i = c.self.inside in
    let none = none_passes is_none i.holders.items (first_place is_none i.idle i.holders.items c.self.invariant (sym c.least.ensures ∙ c.in-None.is)) in
    sym (none_below is_none i.holders.items c.args.active none) ∙ ap (λ hs. list_any is_none (take c.args.active hs)) c.self.view_is
