use Rattle.std.proofs.Common.{◌≡◌, ℕ, List, Some, ap, length, refl, rules, slice_get, subst, sym, ◌∙◌}
use Rattle.std.proofs.lemmas.List.{length-set}
use Rattle.gmp_seq.specs.declared.call.Entry.{Entry}
use Rattle.gmp_driver.specs.Machine.{Machine}
use Rattle.gmp_acts.specs.Hands.{plain_machine}
use Rattle.gmp_run.specs.Boards.{AreCounted}
use Rattle.gmp_run.specs.Bodies.{ArePlaced}
use Rattle.gmp_run.specs.Speakers.{AreAccounted}
use Rattle.gmp_run.proofs.Bodies.{same_led, seen_said}
use Rattle.gmp_run.proofs.Desks.{unchanged}
use Rattle.gmp_run.proofs.Leading.{acts}
use Rattle.gmp_run.proofs.Trails.{rests}
use Rattle.gmp_run.proofs.Boards.{of_pass, stays}
use Rattle.gmp_run.proofs.Turning.{all_settled, all_settled_heard}
use Rattle.gmp_run.proofs.desk.Desk+T+Owner+L+S.log_of.Goals as goal

pub invariant_of-self : goal.invariant_of-self
invariant_of-self g c =
    let d = c.self.inside in
    let x = c.args.machine in
    let set = c.set.ensures in
    let run = g.L.RunLedger.run in
    let is_fair = g.L.RunLedger.fair in
    let machines = g.L.Ledger.parts in
    let log = d.book.log in
    let resumes = g.T.Runs.resumes in
    let blocks = g.T.Runs.blocks in
    let given = g.L.DeskLedger.given in
    let Made : List (Machine _ _) → List Entry → Type 0 = λ b h. AreAccounted resumes blocks given machines run is_fair log b d.book.bodies h in
    let desk = unchanged run g.L.DeskLedger.first g.S.Sink.takes g.S.Sink.refuses (Made d.board.values) (Made c.set.new.self.values) log log d.tally.total d.tally.total d.sink d.spare c.self.invariant.0 refl
    (λ h made. subst (λ (b : List (Machine _ _)). Made b h) (sym set.values) (
      acts machines run is_fair d.board.values x.stub.at x.stub.value x.driver x.driver set.agreed x.alone log h (rests (plain_machine x.driver)) made.0,
      all_settled_heard resumes blocks given d.board.values x.stub.at x.stub.value x.driver set.agreed x.alone x.led x.said machines log d.book.bodies c.self.invariant.4 h made.1,
    )) c.self.invariant.0.counted in
    let board = stays log.state.counts machines d.board.values c.self.invariant.2 x.stub.at x.stub.value x.driver set.agreed x.left x.driver refl in
    let long = ap (λ (b : List (Machine _ _)). length b) set.values ∙ length-set d.board.values x.stub.at x.driver in
    let bodies = all_settled resumes blocks given d.board.values x.stub.at x.stub.value x.driver set.agreed x.alone x.led d.book.bodies c.self.invariant.4 in (
      desk,
      set.name ∙ c.self.invariant.1,
      subst (λ (b : List (Machine _ _)). AreCounted log.state.counts machines b) (sym set.values) board,
      long ∙ c.self.invariant.3,
      subst (λ (b : List (Machine _ _)). ∥ ArePlaced resumes blocks given b d.book.bodies ∥₁) (sym set.values) bodies,
    )

pub returns-clause-counted : goal.returns-clause-counted
returns-clause-counted g c =
    let d = c.self.inside in
    let x = c.args.machine in
    let log = c.into_log.ensures.log in
    let own = of_pass d.book.log.state.counts g.L.Ledger.parts d.board.values c.self.invariant.2 x.stub.at x.stub.value x.driver c.set.ensures.agreed x.left log.0 log.1 in
    let counts : d.book.log.state.counts ≡ c.args.self.now.book.log.state.counts = search rules in
    subst (λ (l : List ℕ). slice_get l c.into_log.result.0.m.0 ≡ Some c.into_log.result.0.calls) counts
    (subst (λ (calls : _). slice_get d.book.log.state.counts c.into_log.result.0.m.0 ≡ Some calls) (sym log.3)
    (subst (λ (m : _). slice_get d.book.log.state.counts m.0 ≡ Some log.0.calls) (sym log.2) own.1))

-- the board has the machine as it is
pub invariant_of-machine-clause-led : goal.invariant_of-machine-clause-led
invariant_of-machine-clause-led g c = same_led g.T.Runs.resumes g.T.Runs.blocks c.set.new.stub.value c.args.machine.driver c.set.ensures.stub_value

pub invariant_of-machine-clause-said : goal.invariant_of-machine-clause-said
invariant_of-machine-clause-said g c = seen_said g.T.Runs.resumes g.T.Runs.blocks c.set.new.stub.value c.args.machine.driver c.set.ensures.stub_value
