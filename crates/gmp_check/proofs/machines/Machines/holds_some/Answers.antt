use Rattle.std.proofs.Common.{sym, subst}
use Rattle.std.specs.Prelude.{◌↔◌, IsTrue}
use Rattle.gmp_check.proofs.Actives.{holds_active, holds_idle}
use Rattle.gmp_check.specs.Active.{HoldsSo}
use Rattle.gmp_check.proofs.machines.Machines.holds_some.Goals as goal

pub returns-then-active : goal.returns-then-active
returns-then-active c =
    let w = c.args.self.now in
    subst (λ b. IsTrue c.holds_below.result ↔ HoldsSo w c.args.m b) (sym c.if-active.true) (holds_active w c.args.m c.holds_below.result c.holds_below.ensures)

pub returns-else-active : goal.returns-else-active
returns-else-active c =
    let w = c.args.self.now in
    subst (λ b. IsTrue c.holds_above.result ↔ HoldsSo w c.args.m b) (sym c.if-active.false) (holds_idle w c.args.m c.holds_above.result c.holds_above.ensures)
