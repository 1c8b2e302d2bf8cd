use Rattle.gmp_journal.proofs.Common.{◌≡◌, ◌++◌, ◌≤◌, length, sym, subst, refl, ◌∙◌, None, Some, Log, need_lines, turn_lines}
use Rattle.gmp_journal.specs.Refusals.{first_refusal, room_lines}
use Rattle.gmp_journal.proofs.Lines.{allowed_if_none, by_first, by_full, by_need, by_state, room_left}
use Rattle.gmp_journal.proofs.journal.Journal.refusal.Goals as goal

pub returns-in-Some-clause-why : goal.returns-in-Some-clause-why
returns-in-Some-clause-why c =
    let a = c.args in
    sym (by_first (turn_lines a.self.now a.pass.now a.values.now) (need_lines a.self.now.state a.pass.now.m a.call.now a.values.now ++ room_lines a.self.now)
    c.in-Some.why (sym c.in-Some.ensures.why))

pub returns-in-Some-need_refusal-clause-why : goal.returns-in-Some-need_refusal-clause-why
returns-in-Some-need_refusal-clause-why c =
    let a = c.args in
    let needs = subst (λ (l : Log). Some c.in-Some-need_refusal.why ≡ first_refusal (need_lines l.state a.pass.now.m a.call.now a.values.now)) c.self.view_is c.in-Some-need_refusal.ensures in
    sym (by_need a.self.now a.pass.now a.call.now a.values.now (sym c.in_default.ensures.why) c.in-Some-need_refusal.why (sym needs))

pub returns-in-None-clause-why : goal.returns-in-None-clause-why
returns-in-None-clause-why c =
    let a = c.args in
    let needs = subst (λ (l : Log). None ≡ first_refusal (need_lines l.state a.pass.now.m a.call.now a.values.now)) c.self.view_is c.in-None.ensures in
    sym (by_full a.self.now a.pass.now a.call.now a.values.now (sym c.in_default.ensures.why) (sym needs) (c.if-is_full.ensures.0 refl))

pub returns-clause-why : goal.returns-clause-why
returns-clause-why c =
    let a = c.args in
    let needs = subst (λ (l : Log). c.need_refusal-2.result ≡ first_refusal (need_lines l.state a.pass.now.m a.call.now a.values.now)) c.self.view_is c.need_refusal-2.ensures in
    let few = subst (λ (l : Log). length l.history ≤ l.limits.room) c.self.view_is c.self.invariant.0.few in
    needs ∙ sym (by_state a.self.now a.pass.now a.call.now a.values.now (sym c.in_default.ensures.why) (room_left _ _ few c.if-is_full.ensures.1))

pub returns-clause-allowed : goal.returns-clause-allowed
returns-clause-allowed c =
    let a = c.args in
    let needs = subst (λ (l : Log). c.need_refusal-2.result ≡ first_refusal (need_lines l.state a.pass.now.m a.call.now a.values.now)) c.self.view_is c.need_refusal-2.ensures in
    let few = subst (λ (l : Log). length l.history ≤ l.limits.room) c.self.view_is c.self.invariant.0.few in
    allowed_if_none a.self.now a.pass.now a.call.now a.values.now c.need_refusal-2.result needs c.in_default.ensures.current c.in_default.ensures.ours (room_left _ _ few c.if-is_full.ensures.1)
