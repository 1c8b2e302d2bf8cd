use Rattle.std.proofs.Common.{◌≡◌, ◌+◌, ◌++◌, ℕ, [], ap, ◌∙◌, arith, drop}
use Rattle.std.proofs.lemmas.Iterator.Consumers.{YieldsList-end, YieldsList-from_first, YieldsList-turn}
use Rattle.std.proofs.lemmas.List.{append-nil, drop_all, length_push}
use Rattle.gmp_trace.specs.Pieces.{entry_text}
use Rattle.gmp_trace.specs.Text.{begins_of, first_number}
use Rattle.gmp_trace.proofs.Owing.{counted_low, entries_text-next, Owes-paid, AppendsStart-none, AppendsStart-longer, Appends-settled, on_refusal}
use Rattle.gmp_trace.proofs.writing.write_view.Goals.{then-len-ge-GATHERED+in_ok-send, else-len-ge-GATHERED}
use Rattle.gmp_trace.proofs.writing.write_view.Goals as goal

pub returns-in_err-out-clause-begun : goal.returns-in_err-out-clause-begun
returns-in_err-out-clause-begun g c = on_refusal _ _ (AppendsStart-none _ _)

pub returns-in_err-put_beginning-clause-begun : goal.returns-in_err-put_beginning-clause-begun
returns-in_err-put_beginning-clause-begun g c = on_refusal _ _ (AppendsStart-none _ _)

pub returns-in_err-put_entry_by-clause-begun : goal.returns-in_err-put_entry_by-clause-begun
returns-in_err-put_entry_by-clause-begun g c = on_refusal _ _ (AppendsStart-longer _ _ _ _ _ c.loop-i.invariant.owes)

pub overflow_step-i : goal.overflow_step-i
overflow_step-i g c =
    let t = YieldsList-turn (YieldsList-from_first (λ x. x) (λ left. left) c.args.trace.entries.now.list c.iter-entry-items.ensures.list)
    c.loop-i.yielded _ c.loop-i.yielded_by _ _ c.in-Some.entry c.in-Some.is c.next.ensures.steps in
    omega (arith, c.loop-i.invariant.counted, t.0, c.iter-entry-items.ensures.few)

pub overflow_add-first : goal.overflow_add-first
overflow_add-first g c =
    let t = YieldsList-turn (YieldsList-from_first (λ x. x) (λ left. left) c.args.trace.entries.now.list c.iter-entry-items.ensures.list)
    c.loop-i.yielded _ c.loop-i.yielded_by _ _ c.in-Some.entry c.in-Some.is c.next.ensures.steps in
    let low = counted_low (begins_of c.args.trace.beginning) c.requires.counted in
    omega (arith, c.loop-i.invariant.counted, t.0, c.iter-entry-items.ensures.few, c.first_number-first.ensures, low)

pub loop-i-preserved : goal.loop-i-preserved
loop-i-preserved g c =
    let es = c.args.trace.entries.now.list in
    let n = c.loop-i.i in
    let k = c.loop-i.invariant in
    let t = YieldsList-turn (YieldsList-from_first (λ x. x) (λ left. left) es c.iter-entry-items.ensures.list)
    c.loop-i.yielded _ c.loop-i.yielded_by _ _ c.in-Some.entry c.in-Some.is c.next.ensures.steps in
    let from = first_number (begins_of c.args.trace.beginning) in
    let put = c.in_ok-put_entry_by.ensures ∙ ap (λ (k : ℕ). c.loop-i.out.items ++ entry_text (k + n) c.in-Some.entry) c.first_number-first.ensures in
    let next = entries_text-next from n es c.in-Some.entry c.loop-i.out.items (omega (arith, k.counted, t.0)) (rw k.counted t.1) in
    let owed = rw (next, ← put) at k.owes in
    let more = length_push c.loop-i.yielded c.in-Some.entry in
    elim c.if-len-ge-GATHERED.branch [
      | then-len-ge-GATHERED+in_ok-send w ↦
          let paid = Owes-paid _ _ _ _ _ _ owed w.in_ok-send.ensures.sent in
          record { counted = omega (arith, k.counted, more); owes = rw (w.writer-is, w.out-is, w.in_ok-send.ensures.empty) paid }
      | else-len-ge-GATHERED w ↦ record { counted = omega (arith, k.counted, more); owes = rw (w.writer-is, w.out-is) owed }
    ]

pub returns-in_err-put_end-clause-begun : goal.returns-in_err-put_end-clause-begun
returns-in_err-put_end-clause-begun g c = on_refusal _ _ (AppendsStart-longer _ _ _ _ _ c.loop-i.invariant.owes)

pub returns-clause-written : goal.returns-clause-written
returns-clause-written g c =
    let es = c.args.trace.entries.now.list in
    let n = c.loop-i.i in
    let k = c.loop-i.invariant in
    let ended = YieldsList-end (YieldsList-from_first (λ x. x) (λ left. left) es c.iter-entry-items.ensures.list)
    c.loop-i.yielded _ c.loop-i.yielded_by _ _ c.in-None.is c.next.ensures.steps in
    let none : drop n es ≡ [] = drop_all n es (omega (arith, k.counted, ended.1)) in
    let owed = rw (none, append-nil c.loop-i.out.items) at k.owes in
    let sent = rw c.in_ok-put_end.ensures at c.in_ok-send-2.ensures.sent in
    Appends-settled _ _ _ _ _ _ owed sent
