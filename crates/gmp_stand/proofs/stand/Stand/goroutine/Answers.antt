use Rattle.std.proofs.Common.{ap, ◌∙◌}
use Rattle.gmp_base.specs.declared.number.GNo.{GNo}
use Rattle.gmp_core.specs.Whole.{Whole}
use Rattle.gmp_stand.specs.Standing.{Standing, piece_of}
use Rattle.gmp_stand.proofs.Opening.{lent_same}
use Rattle.gmp_stand.proofs.stand.Stand.goroutine.Goals as goal

pub returns-clause-same : goal.returns-clause-same
returns-clause-same c =
    ap (λ (w : Whole GNo). (let s : Standing = record { core = w; piece = piece_of c.self.inside.piece } in s)) (lent_same c.self.inside.core c.args.m c.in-Some.g.now c.in-Some.ensures.body) ∙ c.self.view_is
