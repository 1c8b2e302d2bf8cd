use Rattle.std.proofs.Common.{ap, ◌∙◌}
use Rattle.std.specs.Prelude.{take}
use Rattle.std.specs.List.{list_any}
use Rattle.gmp_seq.specs.Machines.{Machines, is_held_by}
use Rattle.gmp_idle.proofs.Moving.{keeps}
use Rattle.gmp_idle.proofs.machines.Machines.keep.Goals as goal

pub returns : goal.returns
returns c =
    let m = c.args.m in
    let told = c.holds_below.ensures ∙ ap (λ (w : Machines). list_any (is_held_by m) (take w.active w.holders)) c.self.view_is in
    keeps c.args.self.now m c.holds_below.result c.requires.awake c.requires.holds told
