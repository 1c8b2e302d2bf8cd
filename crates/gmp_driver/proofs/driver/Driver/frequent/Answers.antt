use Rattle.std.proofs.Common.{refl}
use Rattle.gmp_driver.specs.Seen.{seen_of}
use Rattle.gmp_driver.specs.Spot.{place_of}
use Rattle.gmp_driver.specs.Table.{act_at}
use Rattle.gmp_driver.proofs.Naming.{names_itself}
use Rattle.gmp_driver.proofs.driver.Driver.frequent.Goals as goal

pub returns-clause-act : goal.returns-clause-act
returns-clause-act g c =
    let i = c.self.inside in
    let sees = seen_of i.procs i.fresh i.turns i.aside i.hand in
    rw (c.frequent_at.ensures sees refl refl refl, ← c.self.view_is) (names_itself (act_at sees (place_of i.spot i.ask)))
