use Rattle.std.proofs.Common.{List, ap, arith, length, refl, subst, sym, ◌∙◌}
use Rattle.std.proofs.lemmas.List.{length-set}
use Rattle.gmp_driver.specs.Machine.{Machine}
use Rattle.gmp_driver.specs.Table.{next_act}
use Rattle.gmp_run.specs.Boards.{AreCounted}
use Rattle.gmp_run.specs.Bodies.{ArePlaced}
use Rattle.gmp_run.specs.Desks.{IsDesk}
use Rattle.gmp_run.specs.Speakers.{AreAccounted}
use Rattle.gmp_run.proofs.Bodies.{same_led, seen_said}
use Rattle.gmp_run.proofs.Keeping.{counted as on_board, kept}
use Rattle.gmp_run.proofs.Turning.{all_placed}
use Rattle.gmp_run.proofs.desk.Desk+T+Owner+L+S.turn.Goals as goal

pub invariant_of-self : goal.invariant_of-self
invariant_of-self g c =
    let old = c.self.inside in
    let machine = c.args.machine.now in
    let turn = c.counted_turn-woken in
    let desk = c.self.invariant.0 in
    let run = g.L.RunLedger.run in
    let is_fair = g.L.RunLedger.fair in
    let machines = g.L.Ledger.parts in
    let first = g.L.DeskLedger.first in
    let takes = g.S.Sink.takes in
    let refuses = g.S.Sink.refuses in
    let counted = desk.counted in
    let made = turn.ensures.entries in
    let added = c.add.ensures.total in
    let set = c.set.ensures in
    let fits = c.requires.fits.fits machine.pass in
    let resumes = g.T.Runs.resumes in
    let blocks = g.T.Runs.blocks in
    let given = g.L.DeskLedger.given in
    let kept_desk = kept resumes blocks given run is_fair machines first takes refuses old.tally.total c.add.new.self.total old.sink old.spare old.board.values machine.stub.at machine.stub.value set.agreed machine.driver old.book turn.new.driver turn.new.book
    machine.alone machine.led machine.said c.self.invariant.4 desk (next_act machine.driver) refl machine.random _ turn.new.random fits machine.left c.self.invariant.2 turn.ensures.turn (omega (arith, counted, made, added)) in
    let board = on_board machines old.board.values machine.stub.at machine.stub.value set.agreed (next_act machine.driver) machine.driver old.book machine.random
    _ turn.new.driver turn.new.book turn.new.random turn.ensures.turn machine.left c.self.invariant.2 in
    let long = ap (λ (b : List (Machine _ _)). length b) set.values ∙ length-set old.board.values machine.stub.at turn.new.driver in
    let bodies =
    all_placed resumes blocks given old.board.values machine.stub.at machine.stub.value machine.driver set.agreed machine.alone machine.led turn.new.driver old.book turn.new.book c.self.invariant.4 machine.random _ turn.new.random fits
    turn.ensures.turn in (
      subst (λ (b : List (Machine _ _)). IsDesk run first takes refuses (AreAccounted resumes blocks given machines run is_fair turn.new.book.log b turn.new.book.bodies) turn.new.book.log c.add.new.self.total old.sink old.spare) (sym set.values) kept_desk,
      set.name ∙ c.self.invariant.1,
      subst (λ (b : List (Machine _ _)). AreCounted turn.new.book.log.state.counts machines b) (sym set.values) board,
      long ∙ c.self.invariant.3,
      subst (λ (b : List (Machine _ _)). ∥ ArePlaced resumes blocks given b turn.new.book.bodies ∥₁) (sym set.values) bodies,
    )

-- the board has the machine as it is
pub invariant_of-machine-clause-led : goal.invariant_of-machine-clause-led
invariant_of-machine-clause-led g c = same_led g.T.Runs.resumes g.T.Runs.blocks c.set.new.stub.value c.counted_turn-woken.new.driver c.set.ensures.stub_value

pub invariant_of-machine-clause-said : goal.invariant_of-machine-clause-said
invariant_of-machine-clause-said g c = seen_said g.T.Runs.resumes g.T.Runs.blocks c.set.new.stub.value c.counted_turn-woken.new.driver c.set.ensures.stub_value
