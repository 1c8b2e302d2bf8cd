use Rattle.std.proofs.Common.{◌≡◌, ◌<◌, ◌∙◌, true, false, List, Option, length, ap, arith, rules, subst, sym, tests}
use Rattle.std.proofs.Math.Logic.{∥∥₁_map}
use Rattle.gmp_history.specs.Brief.{HistoryContents}
use Rattle.gmp_seq.specs.declared.call.Entry.{Entry}
use Rattle.gmp_journal.specs.Log.{Log, entries_made, is_over}
use Rattle.gmp_run.specs.Boards.{AreCounted}
use Rattle.gmp_run.specs.Bodies.{ArePlaced}
use Rattle.gmp_run.specs.Speakers.{AreAccounted}
use Rattle.gmp_run.proofs.Desks.{not_over, stopped_by, taken_by}
use Rattle.gmp_run.proofs.Bounds.{heard_out, heard_stopped}
use Rattle.gmp_run.proofs.desk.Desk.hand_out.Goals as goal

-- the sink took the entries
pub invariant_of-self : goal.invariant_of-self
invariant_of-self g c =
    let old = c.self.inside in
    let log = old.book.log in
    let resumes = g.T.Runs.resumes in
    let blocks = g.T.Runs.blocks in
    let given = g.L.DeskLedger.given in
    let machines = g.L.Ledger.parts in
    let Made : Log → List (Option g.row.T.Denot) → List Entry → Type 0 = λ l places h. AreAccounted resumes blocks given machines g.L.RunLedger.run g.L.RunLedger.fair l old.board.values places h in
    let out = c.hand_out.ensures in
    let took = c.in-Ok.ensures in
    let full : length log.history ≡ log.limits.room = search (rules, tests) in
    let goes : entries_made log < log.limits.entries = search (rules, tests) in
    let lasts : is_over log ≡ false = search (rules, tests) in
    let desk = taken_by g.L.RunLedger.run g.L.DeskLedger.first g.S.Sink.takes g.S.Sink.refuses (Made log old.book.bodies) log old.tally.total old.sink old.spare c.self.invariant.0 (Made c.hand_out.new.self.log c.hand_out.new.self.bodies)
    (λ h made. subst (λ (places : List (Option g.row.T.Denot)). Made c.hand_out.new.self.log places h) (sym out.values.bodies)
    (subst (λ (l : Log). Made l old.book.bodies h) (sym out.rest) (made.0, ∥∥₁_map made.1 (λ heard. heard_out resumes blocks given machines log old.board.values old.book.bodies h heard)))) c.hand_out.new.self.log c.take.new.self c.take.new.history out.rest
    (subst (λ (h : List Entry). g.S.Sink.takes old.sink h c.take.new.self) out.out took.takes) full goes (not_over log lasts).1 took.empty
    (let lasts = out.lasting in let room = took.room in omega (arith, lasts, room)) (let lasts = out.lasting in let lasting = took.lasting in omega (arith, lasts, lasting)) in
    let bodies = subst (λ (l : List (Option g.row.T.Denot)). ∥ ArePlaced g.T.Runs.resumes g.T.Runs.blocks g.L.DeskLedger.given old.board.values l ∥₁) (sym out.values.bodies) c.self.invariant.4 in
    (desk, c.self.invariant.1, subst (λ (l : Log). AreCounted l.state.counts g.L.Ledger.parts old.board.values) (sym out.rest) c.self.invariant.2, c.self.invariant.3, bodies)

-- it left them, and the run was stopped
pub invariant_of-self-in-Err : goal.invariant_of-self-in-Err
invariant_of-self-in-Err g c =
    let old = c.self.inside in
    let log = old.book.log in
    let resumes = g.T.Runs.resumes in
    let blocks = g.T.Runs.blocks in
    let given = g.L.DeskLedger.given in
    let machines = g.L.Ledger.parts in
    let Made : Log → List (Option g.row.T.Denot) → List Entry → Type 0 = λ l places h. AreAccounted resumes blocks given machines g.L.RunLedger.run g.L.RunLedger.fair l old.board.values places h in
    let out = c.hand_out.ensures in
    let left = c.in-Err.ensures in
    let full : length log.history ≡ log.limits.room = search (rules, tests) in
    let goes : entries_made log < log.limits.entries = search (rules, tests) in
    let lasts : is_over log ≡ false = search (rules, tests) in
    let rest = c.stop.ensures.log ∙ ap (λ (l : Log). record l { stopped = true }) out.rest in
    let desk = stopped_by g.L.RunLedger.run g.L.DeskLedger.first g.S.Sink.takes g.S.Sink.refuses (Made log old.book.bodies) log old.tally.total old.sink old.spare c.self.invariant.0 (Made c.stop.new.self.log c.stop.new.self.bodies)
    (λ h made. subst (λ (places : List (Option g.row.T.Denot)). Made c.stop.new.self.log places h) (sym (c.stop.ensures.values.bodies ∙ out.values.bodies))
    (subst (λ (l : Log). Made l old.book.bodies h) (sym rest) (made.0, ∥∥₁_map made.1 (λ heard. heard_stopped resumes blocks given machines log old.board.values old.book.bodies h heard)))) c.stop.new.self.log c.take.new.self c.take.new.history rest
    (subst (λ (h : List Entry). g.S.Sink.refuses old.sink h c.take.new.self) out.out left.stops) full goes lasts
    (ap (λ (h : HistoryContents). h.list) left.kept ∙ out.out) c.history.ensures.part.part.fits in
    let bodies = subst (λ (l : List (Option g.row.T.Denot)). ∥ ArePlaced g.T.Runs.resumes g.T.Runs.blocks g.L.DeskLedger.given old.board.values l ∥₁) (sym (c.stop.ensures.values.bodies ∙ out.values.bodies)) c.self.invariant.4 in
    (desk, c.self.invariant.1, subst (λ (l : Log). AreCounted l.state.counts g.L.Ledger.parts old.board.values) (sym rest) c.self.invariant.2, c.self.invariant.3, bodies)
