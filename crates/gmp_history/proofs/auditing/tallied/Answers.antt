use Rattle.std.proofs.Common.{◌≡◌, ◌∙◌, ◌+◌, ◌<◌, List, [], ◌∷◌, ◌++◌, add-one, ap, arith, get_or, length, sym, take}
use Rattle.std.proofs.lemmas.List.{get_or-replicate, get_or_default, length-map, length-replicate, length-set, length-take, length_push, take_all}
use Rattle.std.proofs.lemmas.Iterator.Consumers.{YieldsList-at, YieldsList-end, YieldsList-from_first, YieldsList-turn}
use Rattle.std.specs.Prelude.{map}
use Rattle.gmp_seq.specs.declared.call.Entry.{Entry}
use Rattle.gmp_history.specs.declared.heads.Head.{Head}
use Rattle.gmp_history.specs.Heads.{head_of}
use Rattle.gmp_history.proofs.Heading.{next_entry}
use Rattle.gmp_history.specs.declared.auditing.PassLog.{PassLog}
use Rattle.gmp_history.specs.declared.auditing.Tally.{Tally}
use Rattle.gmp_history.specs.Audit.{no_tally, tally_of}
use Rattle.gmp_history.proofs.Tallies.{counted_others, counted_own, few_entries, few_logs, logged_others, logged_own, next_tallies}
use Rattle.gmp_history.proofs.auditing.tallied.Goals as goal

-- Entries

pub loop-head-init : goal.loop-head-init
loop-head-init c = (length-replicate 256 no_tally, λ m few. get_or-replicate 256 m no_tally no_tally few)

-- what was counted so far is a start of the history
pub overflow_add-tallies : goal.overflow_add-tallies
overflow_add-tallies c =
    let n = length c.loop-head.yielded in
    let k = c.machine_place.result in
    let few : k < 256 = c.machine_place.ensures.bound in
    let found = ap (λ (t : Tally). t.found) (c.loop-head.invariant.1 k few) in
    let few_so_far = few_entries (take n c.args.history.now.list) k in
    omega (arith, found, few_so_far, length-take n c.args.history.now.list, c.heads-head-items.ensures.few)

pub loop-head-preserved : goal.loop-head-preserved
loop-head-preserved c =
    let list = c.args.history.now.list in
    let hs = c.loop-head.yielded in
    let h = c.in-Some.head in
    let t = YieldsList-turn (YieldsList-at c.into_iter-head-iterator.ensures.into_iter_gives (YieldsList-from_first (λ x. x) (λ left. left) (map head_of c.args.history.now.list) c.heads-head-items.ensures.list))
    hs _ c.loop-head.yielded_by _ _ h c.in-Some.is c.next.ensures.steps in
    let p = next_entry list (length hs) h t.0 t.1 in
    let es = take (length hs) list in
    let e = p.entry in
    let more : take (length (hs ++ h ∷ [])) list ≡ es ++ e ∷ [] = ap (λ k. take k list) (length_push hs h ∙ add-one (length hs)) ∙ p.more in
    let k = c.machine_place.result in
    let own : e.m.0 ≡ k = ap (λ (x : Head). x.m.0) p.own ∙ sym c.machine_place.ensures.value in
    let few : k < 256 = c.machine_place.ensures.bound in
    let within : k < length c.loop-head.tallies = omega (arith, few, c.loop-head.invariant.0) in (
      length-set c.loop-head.tallies k _ ∙ c.loop-head.invariant.0,
      rw more (next_tallies (tally_of es []) (tally_of (es ++ e ∷ []) []) c.loop-head.tallies k _ within c.loop-head.invariant.1
          (counted_own es e k (get_or c.loop-head.tallies k no_tally) own (c.loop-head.invariant.1 k few))
          (counted_others es e k own)),
    )

-- Logs

pub loop-log-init : goal.loop-log-init
loop-log-init c =
    let list = c.args.history.now.list in
    let n = length c.loop-head.yielded in
    let ended = YieldsList-end (YieldsList-at c.into_iter-head-iterator.ensures.into_iter_gives (YieldsList-from_first (λ x. x) (λ left. left) (map head_of c.args.history.now.list) c.heads-head-items.ensures.list))
    c.loop-head.yielded _ c.loop-head.yielded_by _ _ c.in-None.is c.next.ensures.steps in
    let same : length list ≡ n = sym (ended.1 ∙ length-map list head_of) in
    let all : take n list ≡ list = take_all n list (omega (arith, same)) in
    (c.loop-head.invariant.0, λ m few. c.loop-head.invariant.1 m few ∙ ap (λ (h : List Entry). tally_of h [] m) all)

pub overflow_add-tallies-in-loop-log : goal.overflow_add-tallies-in-loop-log
overflow_add-tallies-in-loop-log c =
    let k = c.machine_place-m.result in
    let few : k < 256 = c.machine_place-m.ensures.bound in
    let logged = ap (λ (t : Tally). t.logs) (c.loop-log.invariant.1 k few) in
    let few_so_far = few_logs (take c.loop-log.log-index c.args.logs.now) k in
    let so_far = length-take c.loop-log.log-index c.args.logs.now in
    omega (arith, logged, few_so_far, so_far)

pub loop-log-preserved : goal.loop-log-preserved
loop-log-preserved c =
    let history = c.args.history.now.list in
    let logs = c.args.logs.now in
    let i = c.loop-log.log-index in
    let k = c.machine_place-m.result in
    let none : PassLog = record { m = record { 0 = 0 }; calls = 0 } in
    let l = get_or logs i none in
    let is = get_or_default logs i none l c.loop-log-test.true in
    let own = sym c.machine_place-m.ensures.value in
    let few : k < 256 = c.machine_place-m.ensures.bound in
    let within : k < length c.loop-log.tallies = omega (arith, few, c.loop-log.invariant.0) in (
      length-set c.loop-log.tallies k _ ∙ c.loop-log.invariant.0,
      next_tallies (tally_of history (take i logs)) (tally_of history (take (i + 1) logs)) c.loop-log.tallies k _ within c.loop-log.invariant.1
          (logged_own history logs i l c.loop-log-test.true is k (get_or c.loop-log.tallies k no_tally) c.saturating_add.result own (c.loop-log.invariant.1 k few) c.saturating_add.ensures)
          (logged_others history logs i l c.loop-log-test.true is k own),
    )

pub returns-clause-tallies : goal.returns-clause-tallies
returns-clause-tallies c =
    let all = take_all c.loop-log.log-index c.args.logs.now c.loop-log-test.false in
    λ m few. c.loop-log.invariant.1 m few ∙ ap (λ (logs : List PassLog). tally_of c.args.history.now.list logs m) all
