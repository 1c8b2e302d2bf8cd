use Rattle.std.proofs.Common.{◌≡◌, map, replicate, rules, sym, ap, ◌∙◌}
use Rattle.gmp_seq.specs.declared.status.Mode.TheVariants.{Awake}
use Rattle.gmp_seq.specs.Machines.{is_awake_mode, is_parked_mode}
use Rattle.gmp_idle.proofs.Marking.{map-replicate}
use Rattle.gmp_idle.proofs.modes.Modes.all_awake.Goals as goal

pub invariant_of-result : goal.invariant_of-result
invariant_of-result c =
    let items : c.in_ok-vec.field-0.items ≡ replicate c.args.machines Awake = search rules in (
      c.none.ensures ∙ (map-replicate is_parked_mode c.args.machines Awake ∙ ap (map is_parked_mode) (sym items)),
      c.all.ensures ∙ (map-replicate is_awake_mode c.args.machines Awake ∙ ap (map is_awake_mode) (sym items)),
    )
