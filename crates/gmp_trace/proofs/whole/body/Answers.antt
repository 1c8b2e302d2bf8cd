use Rattle.std.proofs.Common.{◌≡◌, ◌++◌, ◌==◌, ◌≤◌, ◌-◌, get_or, slice_index, ◌+◌, ◌<◌, ◌^◌, ℕ, List, [], length, sym, ap, subst, ◌∙◌, arith, rules}
use Rattle.std.proofs.lemmas.List.{nil_from_length}
use Rattle.std.proofs.lemmas.Bool.{eqb-true}
use Rattle.gmp_trace.specs.Pieces.{entries_text}
use Rattle.std.proofs.lemmas.Bool.{false≢true}
use Rattle.gmp_trace.proofs.Body.{Left, NoEntry, OnlyEntry, is_first, last_is_body, left_start, origin_first, turn_small, next_of_left, none_left, some_left, starts_none, starts_more, counts_start, counts_more, shorter}
use Rattle.gmp_trace.proofs.whole.body.Goals as goal

below_all : (n made turned many : ℕ) → n ≡ made + turned → made < 2 ^ 63 → turned ≤ many → many < 2 ^ 63 → n < 2 ^ 64 - 1
below_all n made turned many is small turns few = omega (arith, is, small, turns, few)

pub loop-rest-init : goal.loop-rest-init
loop-rest-init g c from is = rw c.new-entries.ensures (record {
  starts = starts_none from c.args.text.now;
  counts = counts_start from c.args.first.now.made (omega arith) is.made;
  left = λ xs end h. left_start from c.args.text.now xs end h;
})

pub returns-then-not-is_next-clause-only : goal.returns-then-not-is_next-clause-only
returns-then-not-is_next-clause-only g c from es end is h =
    let inv = c.loop-rest.invariant from is in
    let few : from.number + length c.loop-rest.entries.list < 2 ^ 64 = omega (arith, c.len-read.ensures.value, c.len-read.ensures.few, is.number, is.small.number) in
    let agrees = c.is_next.ensures from c.loop-rest.entries.list is.machines inv.counts.1 in
    let found = rw c.in-Some.is at c.in-Ok.ensures.found in
    let only : OnlyEntry c.loop-rest.rest.now c.in-Some.n c.answered_at.new.entry c.in-Some.more.now = λ m d behind at text. rw c.in-Some.is at (c.in-Ok.ensures.only m d behind at text) in
    let next = next_of_left from c.args.text.now c.loop-rest.entries.list c.loop-rest.rest.now es end c.in-Some.n c.answered_at.new.entry c.in-Some.more.now h
    (inv.left es end h) few found.1.number found.0 only in
    absurd (search (rules, agrees.1 (next.number ∙ omega (arith, c.len-read.ensures.value, c.len-read.ensures.few, is.number), next.next)))

pub returns-then-not-is_next-clause-fault : goal.returns-then-not-is_next-clause-fault
returns-then-not-is_next-clause-fault g c from is =
    let inv = c.loop-rest.invariant from is in
    let agrees = c.is_next.ensures from c.loop-rest.entries.list is.machines inv.counts.1 in
    let found = rw c.in-Some.is at c.in-Ok.ensures.found in
    record {
      es = c.loop-rest.entries.list;
      rest = c.loop-rest.rest.now;
      starts = inv.starts;
      fault = (
        omega (arith, c.len-read.ensures.value, c.len-read.ensures.few, is.lines),
        record {
          n = c.in-Some.n;
          e = c.answered_at.new.entry;
          more = c.in-Some.more.now;
          entry = found.1;
          whole = found.0;
          wrong = λ number next. search (rules, agrees.1 (number ∙ omega (arith, c.len-read.ensures.value, c.len-read.ensures.few, is.number), next));
        },
      );
    }

pub loop-rest-smaller : goal.loop-rest-smaller
loop-rest-smaller g c =
    let found = rw c.in-Some.is at c.in-Ok.ensures.found in
    let less = shorter c.in-Some.n c.answered_at.new.entry c.loop-rest.rest.now c.in-Some.more.now found.0 in
    omega (arith, less)

pub loop-rest-preserved : goal.loop-rest-preserved
loop-rest-preserved g c from is =
    let inv = c.loop-rest.invariant from is in
    let few : from.number + length c.loop-rest.entries.list < 2 ^ 64 = omega (arith, c.len-read.ensures.value, c.len-read.ensures.few, is.number, is.small.number) in
    let agreed = (c.is_next.ensures from c.loop-rest.entries.list is.machines inv.counts.1).0 c.if-not-is_next.false in
    let found = rw c.in-Some.is at c.in-Ok.ensures.found in
    let only : OnlyEntry c.loop-rest.rest.now c.in-Some.n c.answered_at.new.entry c.in-Some.more.now = λ m d behind at text. rw c.in-Some.is at (c.in-Ok.ensures.only m d behind at text) in
    rw (c.push.ensures.list, c.in-Ok-make_room.ensures.list) (record {
      starts = starts_more from c.args.text.now c.loop-rest.entries.list c.loop-rest.rest.now c.in-Some.n c.answered_at.new.entry c.in-Some.more.now inv.starts found.0 (agreed.0 ∙ omega (arith, c.len-read.ensures.value, c.len-read.ensures.few, is.number)) agreed.1 found.1;
      counts = rw c.from.ensures (counts_more from c.loop-rest.counts c.loop-rest.entries.list c.answered_at.new.entry inv.counts (omega (arith, agreed.1.0, is.machines, is.small.machines)));
      left = λ xs end h. (next_of_left from c.args.text.now c.loop-rest.entries.list c.loop-rest.rest.now xs end c.in-Some.n c.answered_at.new.entry c.in-Some.more.now h
          (inv.left xs end h) few found.1.number found.0 only).left;
    })

pub returns-clause-only : goal.returns-clause-only
returns-clause-only g c from es end is h =
    let inv = c.loop-rest.invariant from is in
    let empty : c.loop-rest.rest.now ≡ [] = nil_from_length c.loop-rest.rest.now (eqb-true _ 0 (sym c.loop-rest-test.ensures)) in
    absurd (some_left from c.loop-rest.entries.list es end (subst (λ (r : List ℕ). Left from c.loop-rest.entries.list r es end) empty (inv.left es end h)))

pub returns-in-Ok-last-clause-only : goal.returns-in-Ok-last-clause-only
returns-in-Ok-last-clause-only g c from es end is h =
    let inv = c.loop-rest.invariant from is in
    let few : from.number + length c.loop-rest.entries.list < 2 ^ 64 = omega (arith, c.len-read.ensures.value, c.len-read.ensures.few, is.number, is.small.number) in
    let none : NoEntry c.loop-rest.rest.now = λ m d behind at text. rw c.in_default-found.is at (c.in-Ok.ensures.only m d behind at text) in
    let over = none_left from c.args.text.now c.loop-rest.entries.list c.loop-rest.rest.now es end h (inv.left es end h) few none in
    (over.0, c.in-Ok-last.ensures.only end over.1)

pub returns-in-Err-clause-only : goal.returns-in-Err-clause-only
returns-in-Err-clause-only g c from es end is h =
    let inv = c.loop-rest.invariant from is in
    let few : from.number + length c.loop-rest.entries.list < 2 ^ 64 = omega (arith, c.len-read.ensures.value, c.len-read.ensures.few, is.number, is.small.number) in
    let none : NoEntry c.loop-rest.rest.now = λ m d behind at text. rw c.in_default-found.is at (c.in-Ok.ensures.only m d behind at text) in
    let over = none_left from c.args.text.now c.loop-rest.entries.list c.loop-rest.rest.now es end h (inv.left es end h) few none in
    c.in-Err.ensures.only end over.1

pub returns-in-Ok-last-clause-found : goal.returns-in-Ok-last-clause-found
returns-in-Ok-last-clause-found g c from is =
    let inv = c.loop-rest.invariant from is in
    (inv.starts.entries, inv.starts.whole ∙ ap (λ (t : List ℕ). entries_text from.number c.loop-rest.entries.list ++ t) c.in-Ok-last.ensures.found)

pub returns-in-Err-clause-fault : goal.returns-in-Err-clause-fault
returns-in-Err-clause-fault g c from is =
    let inv = c.loop-rest.invariant from is in
    let none : NoEntry c.loop-rest.rest.now = λ m d behind at text. rw c.in_default-found.is at (c.in-Ok.ensures.only m d behind at text) in
    last_is_body from c.args.text.now c.loop-rest.rest.now c.loop-rest.entries.list _ c.in-Err.bad.line c.in-Err.bad.why inv.starts
    (omega (arith, c.len-read.ensures.value, c.len-read.ensures.few, is.lines)) none
    (λ e. false≢true (c.loop-rest-test.ensures ∙ ap (λ (l : List ℕ). length l == 0) e)) c.in-Err.ensures.fault

pub returns-clause-fault : goal.returns-clause-fault
returns-clause-fault g c from is =
    let inv = c.loop-rest.invariant from is in
    let empty : c.loop-rest.rest.now ≡ [] = nil_from_length c.loop-rest.rest.now (eqb-true _ 0 (sym c.loop-rest-test.ensures)) in
    record { es = c.loop-rest.entries.list; rest = c.loop-rest.rest.now; starts = inv.starts; fault = (omega (arith, is.lines), empty) }

pub bounds-counts-from : goal.bounds-counts-from
bounds-counts-from g c =
    let from = origin_first c.args.first.now in
    let is = is_first c.args.first.now c.requires in
    let next = (c.is_next.ensures from c.loop-rest.entries.list is.machines (c.loop-rest.invariant from is).counts.1).0 c.if-not-is_next.false in
    omega (arith, next.1.0, c.from.ensures, is.machines, c.requires.machines)

pub bounds-counts-from-in-loop-rest : goal.bounds-counts-from-in-loop-rest
bounds-counts-from-in-loop-rest g c =
    let from = origin_first c.args.first.now in
    let is = is_first c.args.first.now c.requires in
    let next = (c.is_next.ensures from c.loop-rest.entries.list is.machines (c.loop-rest.invariant from is).counts.1).0 c.if-not-is_next.false in
    omega (arith, next.1.0, c.from.ensures, is.machines, c.requires.machines)

pub overflow_add-counts : goal.overflow_add-counts
overflow_add-counts g c =
    let from = origin_first c.args.first.now in
    let is = is_first c.args.first.now c.requires in
    let inv = c.loop-rest.invariant from is in
    let m = c.answered_at.new.entry.m in
    let next = (c.is_next.ensures from c.loop-rest.entries.list is.machines inv.counts.1).0 c.if-not-is_next.false in
    let low : m.0 < 64 = omega (arith, next.1.0, is.machines, c.requires.machines) in
    let small : slice_index c.args.first.now.made m.0 < 2 ^ 63 = c.requires.made m.0 low in
    let turns = turn_small m c.loop-rest.entries.list in
    let few : length c.loop-rest.entries.list < 2 ^ 63 = omega (arith, c.len-read.ensures.value, c.len-read.ensures.few) in
    let at : get_or c.loop-rest.counts m.0 0 < 2 ^ 64 - 1 = below_all _ _ _ _ (inv.counts.1 m low) small turns few in
    rw c.from.ensures (omega (arith, at))
