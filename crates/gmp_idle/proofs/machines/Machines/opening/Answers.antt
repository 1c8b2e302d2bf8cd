use Rattle.std.proofs.Common.{false, sym, ◌∙◌}
use Rattle.std.proofs.lemmas.List.{length-replicate}
use Rattle.gmp_seq.specs.declared.status.Mode.TheVariants.{Awake}
use Rattle.gmp_idle.proofs.Moving.{kept_at_first}
use Rattle.gmp_idle.proofs.machines.Machines.opening.Goals as goal

pub invariant_of-result : goal.invariant_of-result
invariant_of-result c =
    rw (c.in_ok-idle.ensures, c.in_ok-all_awake.ensures, c.none.ensures, c.none-2.ensures, c.none-3.ensures)
    (kept_at_first c.args.procs c.args.machines, length-replicate c.args.machines false ∙ sym (length-replicate c.args.machines Awake))
