use Rattle.gmp_history.specs.Brief.{HistoryContents}
use Rattle.std.proofs.Common.{sum}
use Rattle.gmp_journal.proofs.Common.{List, ℕ, ◌+◌, ◌∙◌, ap, refl, subst, arith, rules, IsInOrder, Grants, goroutine_in, processor_in, log_of, Log}
use Rattle.gmp_journal.proofs.Granted.{in_order, kept_on, left_on, may_go}
use Rattle.gmp_journal.specs.Scene.{scheduler_state}
use Rattle.gmp_journal.proofs.journal.Journal.accept.Goals as goal

pub effect-requires-clause-grants : goal.effect-requires-clause-grants
effect-requires-clause-grants c =
    let may = (may_go _ _ _ _ c.args.pass.now c.args.call.now c.args.values.now c.self.view_is c.self.invariant.0 c.requires.suits c.requires.allowed) in
    rw (c.goroutine-g.ensures, c.processor-p.ensures) may.grants

pub effect-requires-clause-young : goal.effect-requires-clause-young
effect-requires-clause-young c = (may_go _ _ _ _ c.args.pass.now c.args.call.now c.args.values.now c.self.view_is c.self.invariant.0 c.requires.suits c.requires.allowed).young

pub count_one-requires-clause-there : goal.count_one-requires-clause-there
count_one-requires-clause-there c = rw c.in_ok-effect.ensures.rest.counts (may_go _ _ _ _ c.args.pass.now c.args.call.now c.args.values.now c.self.view_is c.self.invariant.0 c.requires.suits c.requires.allowed).counted

pub count_one-requires-clause-few : goal.count_one-requires-clause-few
count_one-requires-clause-few c = rw c.in_ok-effect.ensures.rest.counts (may_go _ _ _ _ c.args.pass.now c.args.call.now c.args.values.now c.self.view_is c.self.invariant.0 c.requires.suits c.requires.allowed).few

pub add-requires-clause-room : goal.add-requires-clause-room
add-requires-clause-room c =
    let may = (may_go _ _ _ _ c.args.pass.now c.args.call.now c.args.values.now c.self.view_is c.self.invariant.0 c.requires.suits c.requires.allowed) in
    omega (arith, may.room)

pub advance-requires : goal.advance-requires
advance-requires c =
    let may = (may_go _ _ _ _ c.args.pass.now c.args.call.now c.args.values.now c.self.view_is c.self.invariant.0 c.requires.suits c.requires.allowed) in
    omega (arith, may.calls)

pub invariant_of-self-2 : goal.invariant_of-self-2
invariant_of-self-2 c =
    let k = c.in_ok-effect in
    let rest = k.ensures.rest in (
      kept_on (log_of c.self.inside) _ _ c.args.pass.now c.self.invariant.0 (may_go _ _ _ _ c.args.pass.now c.args.call.now c.args.values.now c.self.view_is c.self.invariant.0 c.requires.suits c.requires.allowed).current c.args.call.now c.effect.new.out (scheduler_state c.effect.new.self) (record { m = c.args.pass.now.m; k = c.args.pass.now.calls; call = c.args.call.now; reply = c.effect.new.out }) _ _ _ (may_go _ _ _ _ c.args.pass.now c.args.call.now c.args.values.now c.self.view_is c.self.invariant.0 c.requires.suits c.requires.allowed).free (k.ensures.effect _ _) rest.counts
          refl c.add.ensures.fits (search rules) (ap (λ (h : HistoryContents). h.room) c.add.ensures.list) (ap (λ (h : HistoryContents). h.lasting) c.add.ensures.list),
      record { channels = rw (c.count_one.ensures.rest, rest.limit) c.self.invariant.1.channels; machines = rw (c.count_one.ensures.rest, rest.machines) c.self.invariant.1.machines },
      left_on (log_of c.self.inside) _ _ _ _ c.self.invariant.2 (may_go _ _ _ _ c.args.pass.now c.args.call.now c.args.values.now c.self.view_is c.self.invariant.0 c.requires.suits c.requires.allowed).free
          (ap (λ (h : HistoryContents). h.list) c.add.ensures.list) refl refl (c.count_one.ensures.made ∙ ap (λ (l : List ℕ). sum l + 1) rest.counts) c.count_one.ensures.less c.count_one.ensures.goes_on,
    )

pub returns-clause-records : goal.returns-clause-records
returns-clause-records c =
    let k = c.in_ok-effect in
    record {
      entry = search rules;
      step = (search rules, rw (← c.self.view_is, c.count_one.ensures.counted) (k.ensures.effect _ _), search rules, search rules);
      lasts = search rules;
      shelf = search rules;
      opened = search rules;
      made = search rules;
      pass = search rules;
      order = search rules;
    }

pub returns-clause-grants : goal.returns-clause-grants
returns-clause-grants c =
    subst (λ (l : Log). Grants c.args.pass.now.m (goroutine_in c.args.values.now) (processor_in c.args.values.now) c.args.call.now l.state) c.self.view_is (may_go _ _ _ _ c.args.pass.now c.args.call.now c.args.values.now c.self.view_is c.self.invariant.0 c.requires.suits c.requires.allowed).grants

pub returns-clause-order : goal.returns-clause-order
returns-clause-order c = subst (λ (l : Log). IsInOrder l.limits l.state) c.self.view_is (in_order (log_of c.self.inside) c.self.invariant.0.part)
