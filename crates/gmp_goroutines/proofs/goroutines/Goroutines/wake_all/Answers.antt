use Rattle.gmp_goroutines.proofs.Common.{[], ◌∷◌, ◌++◌, is_some, refl, ap, ◌∙◌, arith, rules, Goroutine}
use Rattle.std.proofs.lemmas.List.Sums.{count_by-le-length}
use Rattle.gmp_seq.specs.Table.{all_woken, how_many_woken}
use Rattle.gmp_table.specs.Waking.{answer_of}
use Rattle.gmp_table.proofs.Waking.{next_less, next_more, all_done}
use Rattle.gmp_goroutines.proofs.Ties.{served_kept}
use Rattle.gmp_goroutines.proofs.goroutines.Goroutines.wake_all.Goals as goal

pub loop-next-smaller : goal.loop-next-smaller
loop-next-smaller c =
    let woken = c.loop-next.invariant.woken in
    next_less c.args.wake c.self.inside.table c.loop-next.self-inside.table c.requeue.new.self woken.0 c.loop-next.count c.in-Some.next woken.1
    c.in-Some.ensures c.requeue.ensures.table c.requeue.ensures.last

pub loop-next-preserved : goal.loop-next-preserved
loop-next-preserved c =
    let woken = c.loop-next.invariant.woken in
    let i = c.loop-next.self-inside in
    let next = c.in-Some.next in
    let first = c.in-Some.ensures in
    record {
      woken = (
        woken.0 ++ next.g ∷ [],
        next_more c.args.wake c.self.inside.table i.table c.requeue.new.self woken.0 c.loop-next.count next woken.1 first c.requeue.ensures.table c.requeue.ensures.last,
      );
      tied = rw c.withdraw_all.ensures.rest (served_kept c.loop-next.invariant.tied next.g _ _ refl c.requeue.ensures.table);
      same = c.loop-next.invariant.same;
      channels = ap (λ v. v.channels) c.withdraw_all.ensures.rest ∙ c.loop-next.invariant.channels;
      limit = ap (λ v. v.limit) c.withdraw_all.ensures.rest ∙ c.loop-next.invariant.limit;
    }

-- who is woken is one of the goroutines
pub prove-unreachable-requires : goal.prove-unreachable-requires
prove-unreachable-requires c =
    let woken = c.loop-next.invariant.woken in
    let less = next_less c.args.wake c.self.inside.table c.loop-next.self-inside.table c.requeue.new.self woken.0 c.loop-next.count c.in-Some.next woken.1
    c.in-Some.ensures c.requeue.ensures.table c.requeue.ensures.last in
    let most = count_by-le-length (λ (x : Goroutine). is_some (answer_of c.args.wake x.status)) c.self.inside.table.table.goroutines in
    let over = c.if-prove.true in
    omega (arith, less, woken.1.counted, most, over, c.len.ensures, c.from-bodies.ensures)

pub returns : goal.returns
returns c =
    let woken = c.loop-next.invariant.woken in
    let done = all_done c.args.wake c.self.inside.table c.loop-next.self-inside.table woken.0 c.loop-next.count woken.1 c.in_default.ensures in
    record {
      table = done.0 ∙ ap (λ v. all_woken (answer_of c.args.wake) v.table) c.self.view_is;
      count = done.1 ∙ ap (λ v. how_many_woken (answer_of c.args.wake) v.table) c.self.view_is;
      order = (woken.0, rw (← ap (λ v. v.table.goroutines) c.self.view_is) done.2, woken.1.shelf ∙ ap (λ v. v.shelf ++ woken.0) c.self.view_is);
      rest = search rules;
    }
