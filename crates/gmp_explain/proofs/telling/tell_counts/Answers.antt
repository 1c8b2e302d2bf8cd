use Rattle.std.proofs.Common.{refl, [], sym, subst}
use Rattle.gmp_explain.specs.Spoken.{TellsOf}
use Rattle.gmp_explain.proofs.Spoken.{behind, other}
use Rattle.gmp_explain.proofs.telling.tell_counts.Goals as goal
use Rattle.gmp_explain.proofs.telling.tell_counts.Goals.{then-not-is_empty+in_ok-tell-2, else-not-is_empty}

pub returns : goal.returns
returns g c =
    let told = g.S.Sink.told in
    let first = other told c.args.sink.now c.tell.new.self c.in_ok-tell.ensures refl in
    elim c.if-not-is_empty.branch [
      | then-not-is_empty+in_ok-tell-2 w ↦
          let new = w.tell-then-not-is_empty.new.self in
          subst (λ s. TellsOf told [] c.args.sink.now s) (sym w.sink-is)
          (behind told c.args.sink.now c.tell.new.self new [] first (other told c.tell.new.self new w.in_ok-tell-2.ensures refl))
      | else-not-is_empty w ↦ subst (λ s. TellsOf told [] c.args.sink.now s) (sym w.sink-is) first
    ]
