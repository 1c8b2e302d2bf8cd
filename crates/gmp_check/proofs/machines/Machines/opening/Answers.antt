use Rattle.std.proofs.Common.{◌≡◌, false, true, length, map, replicate, rules, sym, ap, ◌∙◌}
use Rattle.std.proofs.lemmas.List.{length-replicate}
use Rattle.gmp_seq.specs.declared.status.Mode.TheVariants.{Awake}
use Rattle.gmp_seq.specs.Machines.{is_awake_mode}
use Rattle.gmp_check.proofs.Actives.{all_awake}
use Rattle.gmp_check.proofs.machines.Machines.opening.Goals as goal

pub invariant_of-result : goal.invariant_of-result
invariant_of-result c =
    let n = c.args.machines in
    let modes : c.in_ok-vec-2.field-0.items ≡ replicate n Awake = search rules in
    let marked : c.in_ok-vec-4.field-0.items ≡ replicate n false = search rules in
    let awake : c.in_ok-vec-5.field-0.items ≡ replicate n true = search rules in (
      awake ∙ (all_awake n ∙ ap (map is_awake_mode) (sym modes)),
      ap length marked ∙ (length-replicate n false ∙ (sym (length-replicate n Awake) ∙ ap length (sym modes))),
    )
