-- Nobody waits.
use Rattle.std.proofs.Common.{◌≡◌, ℕ, ◌+◌, ◌*◌, ◌<◌, ◌≤◌, None, List, [], get_or, ap, ◌∙◌, arith}
use Rattle.gmp_seq.specs.declared.status.Waiter.{Waiter}
use Rattle.gmp_chan.specs.Kept.{AreRings, IsKept, chain_of, key_in, mark_at, queue_in}
use Rattle.gmp_chan.specs.Rings.{AreAlone, IsLinkedAt}
use Rattle.gmp_chan.proofs.Linked.{mark_record, node_within}

all_alone : (ring : Waiter → ℕ) (base ends : ℕ) (next prev : List ℕ) → AreAlone (base + ends) next → AreAlone (base + ends) prev → AreRings ring ends base [] next prev
all_alone ring base ends next prev alone alone' = record { next_size = alone.size; prev_size = alone'.size; linked = linked }
  where
    linked : (n : ℕ) → 0 < mark_at ring base ends n (get_or [] n None)
        → IsLinkedAt base (λ k. mark_at ring base ends k (get_or [] k None)) (λ k. key_in (get_or [] k None)) (λ k. get_or next k 0) (λ k. get_or prev k 0) n
    linked n live =
        let within = node_within ring base ends n (get_or [] n None) live in
        let on : get_or next n 0 ≡ n = alone.same n within in
        let back : get_or prev n 0 ≡ n = alone'.same n within in
        record {
          onward = ap (λ k. mark_at ring base ends k (get_or [] k None)) on;
          back = ap (λ k. mark_at ring base ends k (get_or [] k None)) back;
          there = ap (λ k. get_or prev k 0) on ∙ back;
          here = ap (λ k. get_or next k 0) back ∙ on;
          none = λ k h same _ _. omega (arith, mark_record ring base ends k None h, same, live);
        }

pub opened : (base : ℕ) (next prev own_next own_prev : List ℕ) (bodies channels : ℕ) → 8 * bodies ≤ base → AreAlone (base + 2 * channels) next → AreAlone (base + 2 * channels) prev
    → AreAlone (base + bodies) own_next → AreAlone (base + bodies) own_prev → IsKept [] base next prev own_next own_prev bodies channels
opened base next prev own_next own_prev bodies channels room alone alone' own own' = record {
  room = room;
  placed = λ n w is. absurd cc;
  apart = λ n k w x is is' same. absurd cc;
  few = λ g. omega arith;
  queues = all_alone queue_in base (2 * channels) next prev alone alone';
  chains = all_alone chain_of base bodies own_next own_prev own own';
}
