use Rattle.std.proofs.Common.{ap, length, map, subst, sym, ◌∙◌, arith}
use Rattle.std.proofs.lemmas.List.{length-map}
use Rattle.std.specs.Prelude.{slice_get}
use Rattle.gmp_seq.specs.Machines.{is_parked_mode}
use Rattle.gmp_idle.proofs.Marking.{flag_at_parked, parked_at}
use Rattle.gmp_idle.proofs.modes.Modes.are_others_parked.Goals as goal

pub has_all_but-requires : goal.has_all_but-requires
has_all_but-requires c =
    let i = c.self.inside in
    let long = ap length c.self.invariant.0 in
    let same = ap length c.self.view_is in
    omega (arith, length-map i.modes.items is_parked_mode)

pub returns : goal.returns
returns c =
    let i = c.self.inside in
    let flags = c.self.invariant.0 in
    let long = ap length flags ∙ length-map i.modes.items is_parked_mode in
    let same = ap length c.self.view_is in
    rw (← c.self.view_is) (
      λ is n inside other. parked_at i.modes.items n (ap (λ l. slice_get l n) (sym flags) ∙ c.has_all_but.ensures.0 is n (omega arith) other),
      λ others. c.has_all_but.ensures.1 (λ n inside other. ap (λ l. slice_get l n) flags ∙ flag_at_parked i.modes.items n (others n (omega arith) other)),
    )
