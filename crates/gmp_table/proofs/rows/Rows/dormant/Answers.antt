use Rattle.std.proofs.Common.{◌≡◌, [], List, replicate, refl, sym, ap, ◌∙◌, subst, arith}
use Rattle.std.proofs.lemmas.List.{length-replicate}
use Rattle.gmp_seq.specs.State.{dormant}
use Rattle.gmp_seq.specs.Table.{is_calling, is_ready_or_running}
use Rattle.gmp_seq.specs.declared.status.Goroutine.{Goroutine}
use Rattle.gmp_table.specs.Contents.{has_deadline}
use Rattle.gmp_table.specs.Due.{DueContents, IsTimed}
use Rattle.gmp_table.proofs.Listing.{dormant_none}
use Rattle.gmp_table.proofs.Timed.{dormant_due}
use Rattle.gmp_table.proofs.rows.Rows.dormant.Goals as goal

pub invariant_of-result : goal.invariant_of-result
invariant_of-result c =
    let n = c.args.bodies in
    let all : c.loop.counter ≡ c.args.bodies = omega (arith, c.loop-test.false, c.loop.auto.counter-end) in
    let rows = c.loop.invariant.items ∙ ap (λ m. replicate m dormant) all in
    subst (λ (due : DueContents). IsTimed c.loop.list.items n 0 0 due 0) (sym c.in_ok-deadlines.ensures)
    (subst (λ (l : List Goroutine). IsTimed l n 0 0 (record { list = []; room = n }) 0) (sym rows) (record {
      counted = record {
        size = length-replicate n dormant;
        going_is = sym (dormant_none (λ (x : Goroutine). is_ready_or_running x.status) n refl);
        calling_is = sym (dormant_none (λ (x : Goroutine). is_calling x.status) n refl);
        timed_is = sym (dormant_none (λ (x : Goroutine). has_deadline x.status) n refl);
      };
      each = dormant_due n;
      room = omega arith;
      few = c.ranges.bodies.fits;
      startable = λ i less. absurd (omega (arith, less));
    }))
