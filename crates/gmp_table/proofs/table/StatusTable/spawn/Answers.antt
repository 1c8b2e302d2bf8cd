use Rattle.std.proofs.Common.{◌≡◌, refl, sym}
use Rattle.gmp_table.proofs.Startable.{found_passes, none_found, passes_off}
use Rattle.gmp_table.proofs.table.StatusTable.spawn.Goals as goal

pub returns-in_err-g-clause-none : goal.returns-in_err-g-clause-none
returns-in_err-g-clause-none c =
    let same : c.least_startable.new.self ≡ c.self.inside.rows = c.in_err-g.ensures.same in
    let none = none_found c.self.inside.rows (sym c.in_err-g.ensures.least) in
    rw (c.from_residual.ensures, same, sym c.self.view_is) (none, refl)

pub ready-requires-clause-off : goal.ready-requires-clause-off
ready-requires-clause-off c =
    rw c.in_ok-g.ensures.same (passes_off _ (found_passes c.self.inside.rows c.in_ok-g.g.0 (sym c.in_ok-g.ensures.least)))

pub returns-clause-spawns : goal.returns-clause-spawns
returns-clause-spawns c =
    let same : c.least_startable.new.self ≡ c.self.inside.rows = c.in_ok-g.ensures.same in
    let passes = found_passes c.self.inside.rows c.in_ok-g.g.0 (sym c.in_ok-g.ensures.least) in
    rw (c.ready.ensures.table, c.ready.ensures.ticket, same, sym c.self.view_is) (passes, refl, refl)
