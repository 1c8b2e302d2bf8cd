use Rattle.std.proofs.Common.{refl, subst}
use Rattle.std.proofs.Math.Logic.{∥∥₁_map}
use Rattle.gmp_run.specs.Bodies.{AllInside}
use Rattle.gmp_run.specs.Desks.{DeskContents, IsDesk}
use Rattle.gmp_run.specs.Speakers.{AreAccounted, AreAccountedLast}
use Rattle.gmp_run.proofs.Desks.{unchanged}
use Rattle.gmp_run.proofs.Bounds.{heard_last}
use Rattle.gmp_run.proofs.Leading.{all_made}
use Rattle.gmp_run.proofs.desk.Desk.into_parts.Goals as goal

-- all machines are on the board
pub returns-clause-desk : goal.returns-clause-desk
returns-clause-desk g c =
    let d = c.self.inside in
    let run = g.L.RunLedger.run in
    let is_fair = g.L.RunLedger.fair in
    let machines = g.L.Ledger.parts in
    let log = d.book.log in
    let resumes = g.T.Runs.resumes in
    let blocks = g.T.Runs.blocks in
    let given = g.L.DeskLedger.given in
    subst (λ (v : DeskContents _ _ _). IsDesk run g.L.DeskLedger.first g.S.Sink.takes g.S.Sink.refuses (AreAccountedLast resumes blocks given machines run is_fair v.book.log v.book.bodies) v.book.log v.total v.sink d.spare) c.self.view_is
    (unchanged run g.L.DeskLedger.first g.S.Sink.takes g.S.Sink.refuses (AreAccounted resumes blocks given machines run is_fair log d.board.values d.book.bodies) (AreAccountedLast resumes blocks given machines run is_fair log d.book.bodies) log log d.tally.total d.tally.total d.sink d.spare
    c.self.invariant.0 refl (λ h made. (
      all_made machines run is_fair log d.board.values h c.self.invariant.3 made.0,
      ∥∥₁_map made.1 (λ heard. heard_last resumes blocks given machines log d.board.values d.book.bodies h heard),
    )) c.self.invariant.0.counted)

pub returns-clause-bodies : goal.returns-clause-bodies
returns-clause-bodies g c =
    subst (λ (v : DeskContents _ _ _). ∥ AllInside g.T.Runs.resumes g.T.Runs.blocks g.L.DeskLedger.given v.book.bodies ∥₁) c.self.view_is (∥∥₁_map c.self.invariant.4 (λ are. are.inside))
