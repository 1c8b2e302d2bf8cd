use Rattle.std.proofs.Common.{refl, [], sym, subst}
use Rattle.gmp_explain.specs.Spoken.{TellsOf}
use Rattle.gmp_explain.proofs.Spoken.{behind, other}
use Rattle.gmp_explain.proofs.knot.tell_cycles.Goals as goal
use Rattle.gmp_explain.proofs.knot.tell_cycles.Goals.{in-Some+in_ok-tell_cycle, in_default, then-found+in_ok-tell, else-found}

pub loop-g-preserved : goal.loop-g-preserved
loop-g-preserved g c =
    let told = g.S.Sink.told in
    let so_far = c.loop-g.invariant in
    elim c.match-first_again.branch [
      | in-Some+in_ok-tell_cycle w ↦
          subst (λ s. TellsOf told [] c.args.sink.now s) (sym w.sink-is) (behind told c.args.sink.now c.loop-g.sink w.tell_cycle.new.sink [] so_far w.in_ok-tell_cycle.ensures)
      | in_default w ↦ subst (λ s. TellsOf told [] c.args.sink.now s) (sym w.sink-is) so_far
    ]

pub returns : goal.returns
returns g c =
    let told = g.S.Sink.told in
    let so_far = c.loop-g.invariant in
    elim c.if-found.branch [
      | then-found+in_ok-tell w ↦
          subst (λ s. TellsOf told [] c.args.sink.now s) (sym w.sink-is)
          (behind told c.args.sink.now c.loop-g.sink w.tell.new.self [] so_far (other told c.loop-g.sink w.tell.new.self w.in_ok-tell.ensures refl))
      | else-found w ↦ subst (λ s. TellsOf told [] c.args.sink.now s) (sym w.sink-is) so_far
    ]
