use Rattle.gmp_goroutines.proofs.Common.{◌≡◌, waiters}
use Rattle.gmp_select.proofs.Picking.{pick_same}
use Rattle.gmp_select.specs.Choosing.{case_can, is_set}
use Rattle.gmp_goroutines.specs.Choice.{choice}
use Rattle.gmp_goroutines.specs.Present.{state_of}
use Rattle.gmp_goroutines.proofs.Choices.{able_case, no_case}
use Rattle.gmp_goroutines.proofs.goroutines.Goroutines.chosen.Goals as goal

told : (c : goal.After-choose) → c.choose.result ≡ choice (state_of c.args.self.now) c.args.cases.now c.args.word
told c =
    let i = c.self.inside in
    let same = pick_same (is_set c.ready_cases.result) (case_can i.channels.channels i.channels.waiters c.args.cases.now) c.args.word c.ready_cases.ensures in
    rw (← c.self.view_is, c.choose.ensures.number) (rw c.self.invariant.same at same)

pub returns-clause-able : goal.returns-clause-able
returns-clause-able c = able_case c.args.self.now.channels (waiters c.args.self.now.table) c.args.cases.now c.args.word c.choose.result (told c)

pub returns-clause-none : goal.returns-clause-none
returns-clause-none c = no_case c.args.self.now.channels (waiters c.args.self.now.table) c.args.cases.now c.args.word c.choose.result c.requires (told c)

pub returns-clause-number : goal.returns-clause-number
returns-clause-number c = told c
