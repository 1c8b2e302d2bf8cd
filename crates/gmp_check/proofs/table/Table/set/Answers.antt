use Rattle.std.proofs.Common.{arith, sym, subst}
use Rattle.std.proofs.lemmas.List.{length-set}
use Rattle.gmp_check.proofs.Last.{set_last}
use Rattle.gmp_check.specs.Last.{IsAlone}
use Rattle.gmp_seq.specs.Table.{Table}
use Rattle.gmp_check.proofs.table.Table.set.Goals as goal

pub invariant_of-self : goal.invariant_of-self
invariant_of-self c =
    let i = c.self.inside in
    let t : Table = record { goroutines = i.goroutines.items; arrivals = i.arrivals; clock = i.clock } in (
      omega (arith, length-set i.goroutines.items c.args.g.0 c.args.row, c.self.invariant.0),
      set_last i.last c.come.new.last t c.args.g c.args.row c.self.invariant.1
          (subst (λ (x : Table). IsAlone x c.args.g c.args.row.status) (sym c.self.view_is) c.requires) c.come.ensures.here c.come.ensures.there,
    )
