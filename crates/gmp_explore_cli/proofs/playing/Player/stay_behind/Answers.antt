use Rattle.gmp_explore_cli.proofs.playing.Player.stay_behind.Goals.{then-is_abandoned+then-not-any+in_ok-gets+else-is_err, else-is_abandoned}
use Rattle.gmp_explore_cli.proofs.playing.Player.stay_behind.Goals as goal

pub returns-in_err-gets : goal.returns-in_err-gets
returns-in_err-gets c = λ limits bodies capacities was. c.gets.ensures limits bodies capacities (c.loop-g.invariant limits bodies capacities was)

pub returns-then-is_err : goal.returns-then-is_err
returns-then-is_err c = λ limits bodies capacities was. c.gets.ensures limits bodies capacities (c.loop-g.invariant limits bodies capacities was)

pub loop-g-preserved : goal.loop-g-preserved
loop-g-preserved c = λ limits bodies capacities was.
    let before = c.loop-g.invariant limits bodies capacities was in
    elim c.if-is_abandoned.branch [
      | then-is_abandoned+then-not-any+in_ok-gets+else-is_err w ↦ rw w.self-is (w.gets.ensures limits bodies capacities before)
      | else-is_abandoned w ↦ rw w.self-is before
    ]
