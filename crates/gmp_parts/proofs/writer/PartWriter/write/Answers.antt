use Rattle.std.proofs.Common.{◌≡◌, ◌≢◌, ◌+◌, Option, None, List, [], refl, sym, ap, subst, ◌∙◌, arith}
use Rattle.std.specs.Io.KnownBytes.{Appends}
use Rattle.std.specs.List.{All}
use Rattle.gmp_seq.specs.declared.call.Entry.{Entry}
use Rattle.gmp_seq.specs.declared.call.Outcome.{Outcome}
use Rattle.gmp_seq.specs.Fits.{Fits}
use Rattle.gmp_seq.specs.Run.{Run}
use Rattle.gmp_seq.specs.State.{State}
use Rattle.gmp_start.specs.Start.{state_of}
use Rattle.gmp_trace.specs.Text.Begins.{AtState}
use Rattle.gmp_trace.specs.Text.{Content, IsCounted, end_of, text}
use Rattle.gmp_check.specs.Consistent.{IsConsistentUnder}
use Rattle.gmp_check.specs.Replayed.{Replayed}
use Rattle.gmp_parts.proofs.Written.{consistent, counted, few, lasts, replay_is, run_of, under_way_next, with_outcome, wrote}
use Rattle.gmp_parts.specs.Writing.{GoesOn, Writing, WritesPart}
use Rattle.gmp_parts.proofs.writer.PartWriter.write.Goals as goal

pub overflow_add-number : goal.overflow_add-number
overflow_add-number g c =
    let way = c.self.invariant.under_way in
    omega (arith, way.few, few way)

pub write_next-requires-clause-counted : goal.write_next-requires-clause-counted
write_next-requires-clause-counted g c =
    subst (λ (x : Content). IsCounted x.begins) (sym c.unended-part.ensures)
    (counted c.self.invariant.under_way)

pub write_next-requires-clause-consistent : goal.write_next-requires-clause-consistent
write_next-requires-clause-consistent g c =
    subst (λ (r : Replayed). IsConsistentUnder r.limits r.state) (sym (c.self.invariant.follows c.in_default.is))
    (consistent c.self.invariant.under_way)

pub overflow_add-self : goal.overflow_add-self
overflow_add-self g c =
    omega (arith, c.len.ensures.few, few c.self.invariant.under_way)

pub invariant_of-self : goal.invariant_of-self
invariant_of-self g c =
    let i = c.self.inside in
    let old : State = record (state_of i.start) { outcome = i.outcome } in
    let new : State = record (state_of c.in-Ok.next) { outcome = c.outcome-self-inside.result } in
    let h = c.args.history.now.list in
    let same : c.unended-part.result.entries.now.list ≡ h = ap (λ (x : Content). x.entries) c.unended-part.ensures in
    let at : i.replay ≡ record { limits = i.limits; state = old } = c.self.invariant.follows c.in_default.is in
    let behind : new ≡ c.write_next.new.replay.state = with_outcome (state_of c.in-Ok.next) c.write_next.new.replay.state c.outcome-self-inside.result c.in-Ok.ensures.next c.outcome-self-inside.ensures.value in
    let run : Run i.limits old h new = run_of i.replay i.limits old c.write_next.new.replay.state new c.unended-part.result.entries.now.list h at same behind c.in-Ok.ensures.run in
    record {
      under_way =
          under_way_next c.self.invariant.under_way h new (subst (λ (l : List Entry). l ≢ []) same c.in-Ok.ensures.some)
          (subst (λ (l : List Entry). All Fits l) same c.in-Ok.ensures.fits) run (i.entries + c.len.result) (i.parts + 1) (ap (λ n. i.entries + n) c.len.ensures.value) refl;
      follows = λ works. replay_is c.write_next.new.replay i.limits new (c.in-Ok.ensures.limits ∙ ap (λ (r : Replayed). r.limits) at) (sym behind);
    }

pub returns-in-Ok-clause-written : goal.returns-in-Ok-clause-written
returns-in-Ok-clause-written g c =
    let i = c.self.inside in
    let old : State = record (state_of i.start) { outcome = i.outcome } in
    let new : State = record (state_of c.in-Ok.next) { outcome = c.outcome-self-inside.result } in
    let h = c.args.history.now.list in
    let same : c.unended-part.result.entries.now.list ≡ h = ap (λ (x : Content). x.entries) c.unended-part.ensures in
    let at : i.replay ≡ record { limits = i.limits; state = old } = c.self.invariant.follows c.in_default.is in
    let behind : new ≡ c.write_next.new.replay.state = with_outcome (state_of c.in-Ok.next) c.write_next.new.replay.state c.outcome-self-inside.result c.in-Ok.ensures.next c.outcome-self-inside.ensures.value in
    let run : Run i.limits old h new = run_of i.replay i.limits old c.write_next.new.replay.state new c.unended-part.result.entries.now.list h at same behind c.in-Ok.ensures.run in
    let some : h ≢ [] = subst (λ (l : List Entry). l ≢ []) same c.in-Ok.ensures.some in
    let none : i.outcome ≡ None = lasts i.limits old new h some run in
    let put = subst (λ (x : Content). Appends (g.W.Write.contents i.out) (g.W.Write.contents c.write_next.new.out) (text (record x { end = end_of c.write_next.new.replay.state.outcome })))
    c.unended-part.ensures c.in-Ok.ensures.appended in
    let before : Writing g.row.W.Denot = record { limits = i.limits; bodies = i.bodies; state = old; entries = i.entries; parts = i.parts; failed = i.failed; out = i.out } in
    let after : Writing g.row.W.Denot =
    record { limits = i.limits; bodies = i.bodies; state = new; entries = i.entries + c.len.result; parts = i.parts + 1; failed = i.failed; out = c.write_next.new.out } in
    subst (λ (w : Writing g.row.W.Denot). WritesPart g.W.Write.contents w h after) c.self.view_is
    (wrote g.W.Write.contents before after h c.self.invariant.under_way some (subst (λ (l : List Entry). All Fits l) same c.in-Ok.ensures.fits) run (state_of i.start)
    (ap (λ (o : Option Outcome). let x : State = record (state_of i.start) { outcome = o } in x) (sym none))
    (subst (λ (o : Option Outcome). Appends (g.W.Write.contents i.out) (g.W.Write.contents c.write_next.new.out)
    (text (record { limits = i.limits; bodies = i.bodies; begins = AtState (state_of i.start); entries = h; end = end_of o }))) (sym c.outcome-self-inside.ensures.value) put)
    (ap (λ n. i.entries + n) c.len.ensures.value) refl (refl, refl) (c.in_default.is, c.in_default.is))

pub returns-in-Ok-clause-goes_on : goal.returns-in-Ok-clause-goes_on
returns-in-Ok-clause-goes_on g c =
    let i = c.self.inside in
    let old : State = record (state_of i.start) { outcome = i.outcome } in
    let new : State = record (state_of c.in-Ok.next) { outcome = c.outcome-self-inside.result } in
    let h = c.args.history.now.list in
    let same : c.unended-part.result.entries.now.list ≡ h = ap (λ (x : Content). x.entries) c.unended-part.ensures in
    let at : i.replay ≡ record { limits = i.limits; state = old } = c.self.invariant.follows c.in_default.is in
    let behind : new ≡ c.write_next.new.replay.state = with_outcome (state_of c.in-Ok.next) c.write_next.new.replay.state c.outcome-self-inside.result c.in-Ok.ensures.next c.outcome-self-inside.ensures.value in
    let run : Run i.limits old h new = run_of i.replay i.limits old c.write_next.new.replay.state new c.unended-part.result.entries.now.list h at same behind c.in-Ok.ensures.run in
    let some : h ≢ [] = subst (λ (l : List Entry). l ≢ []) same c.in-Ok.ensures.some in
    let before : Writing g.row.W.Denot = record { limits = i.limits; bodies = i.bodies; state = old; entries = i.entries; parts = i.parts; failed = i.failed; out = i.out } in
    subst (λ (w : Writing g.row.W.Denot). GoesOn w h) c.self.view_is (some, (new, run))
