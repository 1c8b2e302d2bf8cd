use Rattle.std.proofs.Common.{set, sym, ap, ◌∙◌}
use Rattle.std.proofs.lemmas.List.{length-set, map-set}
use Rattle.gmp_seq.specs.Machines.{is_awake_mode}
use Rattle.gmp_check.proofs.machines.Machines.set_mode.Goals as goal

pub invariant_of-self : goal.invariant_of-self
invariant_of-self c =
    let i = c.self.inside in
    let m = c.args.m.0 in
    let mode = c.args.mode in (
      ap (set i.awake.items m) c.is_awake_mode.ensures ∙ (ap (λ l. set l m (is_awake_mode mode)) c.self.invariant.0 ∙ sym (map-set is_awake_mode i.modes.items m mode)),
      c.self.invariant.1 ∙ sym (length-set i.modes.items m mode),
    )
