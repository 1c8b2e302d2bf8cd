use Rattle.std.proofs.Common.{◌≡◌, ◌<◌, ◌==◌, ◌∙◌, ◌++◌, ◌∷◌, [], ap, get_or, length, refl, subst, sym, take, add-one, arith}
use Rattle.std.proofs.lemmas.Iterator.Consumers.{YieldsList-at, YieldsList-end, YieldsList-from_first, YieldsList-turn}
use Rattle.std.proofs.lemmas.List.{length-map, length-set, length-take, length_push, take_all}
use Rattle.std.proofs.lemmas.List.Sums.{count_by-le-length}
use Rattle.std.specs.Prelude.{map}
use Rattle.std.specs.Str.{bytes_eq}
use Rattle.gmp_seq.specs.declared.call.Entry.{Entry}
use Rattle.gmp_history.specs.declared.heads.Head.{Head}
use Rattle.gmp_history.specs.Heads.{head_of}
use Rattle.gmp_history.proofs.Heading.{next_entry}
use Rattle.gmp_trace.specs.Summary.{CountsCalls, CountsMachines, call_name, kind_name, names}
use Rattle.gmp_trace.proofs.Counting.{calls_counted, calls_none, machines_more, machines_none, named}
use Rattle.gmp_trace.proofs.summing.count.Goals as goal

pub loop-head-init : goal.loop-head-init
loop-head-init c = record { machines = machines_none _ _ refl refl; calls = calls_none _ _ refl refl; all_machines = refl; all_calls = refl }

pub overflow_add-machines : goal.overflow_add-machines
overflow_add-machines c =
    let es = take (length c.loop-head.yielded) c.args.entries.now.list in
    let k = c.machine_place.result in
    let counted = c.loop-head.invariant.machines k c.machine_place.ensures.bound in
    let most = count_by-le-length (λ (x : Entry). x.m.0 == k) es in
    omega (arith, counted, most, length-take (length c.loop-head.yielded) c.args.entries.now.list, c.heads-head-items.ensures.few)

pub overflow_add-calls : goal.overflow_add-calls
overflow_add-calls c =
    let es = take (length c.loop-head.yielded) c.args.entries.now.list in
    let i = c.kind_place.result in
    let counted = c.loop-head.invariant.calls i c.kind_place.ensures.bound in
    let most = count_by-le-length (λ (x : Entry). bytes_eq (call_name x.call) (get_or names i [])) es in
    omega (arith, counted, most, length-take (length c.loop-head.yielded) c.args.entries.now.list, c.heads-head-items.ensures.few)

pub loop-head-preserved : goal.loop-head-preserved
loop-head-preserved c =
    let list = c.args.entries.now.list in
    let hs = c.loop-head.yielded in
    let h = c.in-Some.head in
    let t = YieldsList-turn (YieldsList-at c.into_iter-head-iterator.ensures.into_iter_gives (YieldsList-from_first (λ x. x) (λ left. left) (map head_of c.args.entries.now.list) c.heads-head-items.ensures.list))
    hs _ c.loop-head.yielded_by _ _ h c.in-Some.is c.next.ensures.steps in
    let p = next_entry list (length hs) h t.0 t.1 in
    let more : take (length (hs ++ h ∷ [])) list ≡ take (length hs) list ++ p.entry ∷ [] = ap (λ k. take k list) (length_push hs h ∙ add-one (length hs)) ∙ p.more in
    let place : c.machine_place.result ≡ p.entry.m.0 = c.machine_place.ensures.value ∙ sym (ap (λ (x : Head). x.m.0) p.own) in
    let there : p.entry.m.0 < 256 = omega (arith, place, c.machine_place.ensures.bound) in
    let name : get_or names c.kind_place.result [] ≡ call_name p.entry.call = c.kind_place.ensures.name ∙ sym (ap (λ (x : Head). kind_name x.call) p.own) ∙ named p.entry.call in
    record {
      machines = rw (more, place) (machines_more c.loop-head.machines (take (length hs) list) p.entry c.loop-head.invariant.all_machines c.loop-head.invariant.machines there);
      calls = rw more (calls_counted c.loop-head.calls (take (length hs) list) p.entry c.kind_place.result c.loop-head.invariant.all_calls c.loop-head.invariant.calls c.kind_place.ensures.bound name);
      all_machines = length-set c.loop-head.machines _ _ ∙ c.loop-head.invariant.all_machines;
      all_calls = length-set c.loop-head.calls _ _ ∙ c.loop-head.invariant.all_calls;
    }

pub returns-clause-machines : goal.returns-clause-machines
returns-clause-machines c =
    let ended = YieldsList-end (YieldsList-at c.into_iter-head-iterator.ensures.into_iter_gives (YieldsList-from_first (λ x. x) (λ left. left) (map head_of c.args.entries.now.list) c.heads-head-items.ensures.list))
    c.loop-head.yielded _ c.loop-head.yielded_by _ _ c.in-None.is c.next.ensures.steps in
    let all : length c.args.entries.now.list ≡ length c.loop-head.yielded = sym (ended.1 ∙ length-map c.args.entries.now.list head_of) in
    subst (CountsMachines c.loop-head.machines) (take_all (length c.loop-head.yielded) c.args.entries.now.list (omega (arith, all))) c.loop-head.invariant.machines

pub returns-clause-calls : goal.returns-clause-calls
returns-clause-calls c =
    let ended = YieldsList-end (YieldsList-at c.into_iter-head-iterator.ensures.into_iter_gives (YieldsList-from_first (λ x. x) (λ left. left) (map head_of c.args.entries.now.list) c.heads-head-items.ensures.list))
    c.loop-head.yielded _ c.loop-head.yielded_by _ _ c.in-None.is c.next.ensures.steps in
    let all : length c.args.entries.now.list ≡ length c.loop-head.yielded = sym (ended.1 ∙ length-map c.args.entries.now.list head_of) in
    subst (CountsCalls c.loop-head.calls) (take_all (length c.loop-head.yielded) c.args.entries.now.list (omega (arith, all))) c.loop-head.invariant.calls
