use Rattle.std.proofs.Common.{◌≡◌, None, Option, map, replicate, rules, sym, ap, ◌∙◌}
use Rattle.std.specs.Prelude.{is_none}
use Rattle.gmp_base.specs.declared.number.MNo.{MNo}
use Rattle.gmp_idle.proofs.Marking.{map-replicate}
use Rattle.gmp_idle.proofs.processors.Processors.idle.Goals as goal

pub invariant_of-result : goal.invariant_of-result
invariant_of-result c =
    let nobody : Option MNo = None in
    let items : c.in_ok-vec.field-0.items ≡ replicate c.args.procs nobody = search rules in
    c.all.ensures ∙ (map-replicate is_none c.args.procs nobody ∙ ap (map is_none) (sym items))
