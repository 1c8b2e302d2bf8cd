-- Who waits first on a channel stands behind the end of its queue.
use Rattle.std.proofs.Common.{◌≡◌, ◌≢◌, ◌⊎◌, inl, inr, ℕ, suc, ◌+◌, ◌*◌, ◌<◌, ◌≤◌, ◌==◌, ◌&&◌, ◌||◌, ltb, leb, eqb, cond, Bool, true, false, IfSome, IfNone, Option, Some, None, List, get_or, filter, slice_get, refl, sym, ap, ◌∙◌, subst, arith}
use Rattle.std.proofs.lemmas.Bool.Decides.{eqb_tells, leb_tells, nat_tests}
use Rattle.gmp_base.specs.declared.number.CNo.{CNo}
use Rattle.gmp_seq.specs.declared.status.Direction.{Direction}
use Rattle.gmp_seq.specs.declared.status.Direction.TheVariants.{Sending, Receiving}
use Rattle.gmp_seq.specs.declared.status.Waiter.{Waiter}
use Rattle.gmp_seq.specs.Waits.{direction_of, is_on, same_direction}
use Rattle.gmp_chan.specs.Kept.{AreApart, AreRings, IsKept, mark_at, mark_in, key_in, queue_end, queue_in}
use Rattle.gmp_chan.specs.Rings.{IsLinkedAt}
use Rattle.gmp_chan.specs.Order.{is_at}
use Rattle.gmp_chan.specs.Slots.{IsFirstSlot, IsNowhere, earlier_of, in_order, rank}
use Rattle.gmp_chan.proofs.Kept.{end_small}
use Rattle.gmp_chan.proofs.Linked.{mark_end, mark_record}
use Rattle.gmp_chan.proofs.Ordered.{first_is, none_is}
use Rattle.gmp_chan.proofs.Ringed.{order}

-- Channels and directions

same_end : (a b : ℕ) (d e : Direction) → queue_end (record { 0 = a }) d ≡ queue_end (record { 0 = b }) e → (a == b) && same_direction e d ≡ true
same_end a b Sending Sending h = (let t : (a == b) ≡ true = (let r : a ≡ b = omega arith in grind (arith, nat_tests)) in rw t refl)
same_end a b Sending Receiving h = absurd (omega arith)
same_end a b Receiving Sending h = absurd (omega arith)
same_end a b Receiving Receiving h = (let t : (a == b) ≡ true = (let r : a ≡ b = omega arith in grind (arith, nat_tests)) in rw t refl)

end_same : (a b : ℕ) (d e : Direction) → (a == b) && same_direction e d ≡ true → queue_end (record { 0 = a }) d ≡ queue_end (record { 0 = b }) e
end_same a b d e h = by (a == b) refl d e h
  where
    by : (t : Bool) → (a == b) ≡ t → (d e : Direction) → t && same_direction e d ≡ true → queue_end (record { 0 = a }) d ≡ queue_end (record { 0 = b }) e
    by false is d e h = absurd cc
    by true is Sending Sending h = (let r : a ≡ b = grind (arith, nat_tests) in omega arith)
    by true is Sending Receiving h = absurd cc
    by true is Receiving Sending h = absurd cc
    by true is Receiving Receiving h = (let r : a ≡ b = grind (arith, nat_tests) in omega arith)

-- Behind the end of a ring

module _ (ring : Waiter → ℕ) (base ends : ℕ) (slots : List (Option Waiter)) (next prev : List ℕ) (rings : AreRings ring ends base slots next prev) (within : (k : ℕ) (x : Waiter) → get_or slots k None ≡ Some x → k < base)
    (e : ℕ) (small : e < ends) where
  mark_e : mark_at ring base ends (base + e) (get_or slots (base + e) None) ≡ base + e + 1
  mark_e = mark_end ring base ends (base + e) (get_or slots (base + e) None) (omega arith) (omega (arith, small))

  at_e : IsLinkedAt base (λ n. mark_at ring base ends n (get_or slots n None)) (λ n. key_in (get_or slots n None)) (λ n. get_or next n 0) (λ n. get_or prev n 0) (base + e)
  at_e = rings.linked (base + e) (omega (arith, mark_e))

  on_ring : (k : ℕ) (x : Waiter) → get_or slots k None ≡ Some x → mark_at ring base ends k (get_or slots k None) ≡ base + ring x + 1
  on_ring k x is = mark_record ring base ends k (get_or slots k None) (within k x is) ∙ ap (mark_in ring base) is

  pub first_on_ring : (w : Waiter) → get_or slots (get_or next (base + e) 0) None ≡ Some w → ring w ≡ e
  first_on_ring w is = omega (arith, on_ring (get_or next (base + e) 0) w is, at_e.onward, mark_e)

  pub first_least : (w : Waiter) → get_or slots (get_or next (base + e) 0) None ≡ Some w → (k : ℕ) (x : Waiter) → get_or slots k None ≡ Some x → ring x ≡ e → rank w ≤ rank x
  first_least w is k x at on = elim (order (rank x) (rank w)) [
    | inr h ↦ h
    | inl h ↦ absurd (at_e.none k (within k x at) (on_ring k x at ∙ omega (arith, mark_e, on)) (λ low. omega (arith, low)) (λ _. omega (arith, h, ap key_in at, ap key_in is)))
  ]

  pub none_on_ring : get_or slots (get_or next (base + e) 0) None ≡ None → (k : ℕ) (x : Waiter) → get_or slots k None ≡ Some x → ring x ≢ e
  none_on_ring none k x at on = at_e.none k (within k x at) (on_ring k x at ∙ omega (arith, mark_e, on)) (λ low. omega (arith, low)) (λ low. absurd (high low))
    where
      i : ℕ
      i = get_or next (base + e) 0

      high : i < base → ⊥
      high low = omega (arith, mark_record ring base ends i (get_or slots i None) low, ap (mark_in ring base) none, at_e.onward, mark_e)

module _ (slots : List (Option Waiter)) (base : ℕ) (next prev own_next own_prev : List ℕ) (bodies channels : ℕ) (kept : IsKept slots base next prev own_next own_prev bodies channels) (c : CNo) (direction : Direction) where
  pub first_there : c.0 < channels → (w : Waiter) → get_or slots (get_or next (base + queue_end c direction) 0) None ≡ Some w → IsFirstSlot (is_on c direction) slots w
  first_there made w is =
      let small = end_small c direction channels made in
      let within : (k : ℕ) (x : Waiter) → get_or slots k None ≡ Some x → k < base = λ k x at. (kept.placed k x at).slot in
      record {
        key = get_or next (base + queue_end c direction) 0;
        there = is;
        passes = same_end w.offer.channel.0 c.0 (direction_of w.offer.deal) direction (first_on_ring queue_in base (2 * channels) slots next prev kept.queues within (queue_end c direction) small w is);
        least = λ k x at on.
            first_least queue_in base (2 * channels) slots next prev kept.queues within (queue_end c direction) small w is k x at (end_same x.offer.channel.0 c.0 (direction_of x.offer.deal) direction on);
      }

  pub first_none : c.0 < channels → get_or slots (get_or next (base + queue_end c direction) 0) None ≡ None → IsNowhere (is_on c direction) slots
  first_none made none k x at = by (is_on c direction x) refl
    where
      by : (b : Bool) → is_on c direction x ≡ b → b ≡ false
      by false on = refl
      by true on =
          absurd (none_on_ring queue_in base (2 * channels) slots next prev kept.queues (λ k x at. (kept.placed k x at).slot) (queue_end c direction) (end_small c direction channels made) none k x at
          (end_same x.offer.channel.0 c.0 (direction_of x.offer.deal) direction on))

  pub queue_some : c.0 < channels → (o : Option Waiter) → o ≡ get_or slots (get_or next (base + queue_end c direction) 0) None → IfSome o (IsFirstSlot (is_on c direction) slots)
  queue_some made None is = tt
  queue_some made (Some w) is = first_there made w (sym is)

  pub queue_none : c.0 < channels → (o : Option Waiter) → o ≡ get_or slots (get_or next (base + queue_end c direction) 0) None → IfNone o (IsNowhere (is_on c direction) slots)
  queue_none made None is = first_none made (sym is)
  queue_none made (Some w) is = tt

-- Both directions

at_either : (c : CNo) (x : Waiter) → is_at c x ≡ true → (is_on c Sending x ≡ true) ⊎ (is_on c Receiving x ≡ true)
at_either c x h = by (direction_of x.offer.deal) h
  where
    by : (d : Direction) → (x.offer.channel.0 == c.0) ≡ true → ((x.offer.channel.0 == c.0) && same_direction Sending d ≡ true) ⊎ ((x.offer.channel.0 == c.0) && same_direction Receiving d ≡ true)
    by Sending h = inl (rw h refl)
    by Receiving h = inr (rw h refl)

on_at : (c : CNo) (d : Direction) (x : Waiter) → is_on c d x ≡ true → is_at c x ≡ true
on_at c d x h = by (x.offer.channel.0 == c.0) h
  where
    by : (b : Bool) → b && same_direction d (direction_of x.offer.deal) ≡ true → b ≡ true
    by true h = refl
    by false h = h

module _ (slots : List (Option Waiter)) (apart : AreApart slots) (cases : (k : ℕ) (x : Waiter) → get_or slots k None ≡ Some x → x.offer.case < 256) where
  pub first_is_it : (p : Waiter → Bool) (w : Waiter) → IsFirstSlot p slots w → slice_get (filter p (in_order slots)) 0 ≡ Some w
  first_is_it p w f = first_is p slots f.key w f.there f.passes (λ k x at on. (
    f.least k x at on,
    λ sooner. elim (order (rank w) (rank x)) [
      | inl less ↦ less
      | inr more ↦ absurd (omega (arith, sooner, apart k f.key x w at f.there (omega (arith, more, f.least k x at on))))
    ],
  ))

  pub first_result : (p : Waiter → Bool) (o : Option Waiter) → IfSome o (IsFirstSlot p slots) → IfNone o (IsNowhere p slots) → o ≡ slice_get (filter p (in_order slots)) 0
  first_result p None _ none = sym (none_is p slots none)
  first_result p (Some w) some _ = sym (first_is_it p w some)

  module _ (c : CNo) where
    nowhere_both : IsNowhere (is_on c Sending) slots → IsNowhere (is_on c Receiving) slots → IsNowhere (is_at c) slots
    nowhere_both s r k x at = by (is_at c x) refl
      where
        by : (b : Bool) → is_at c x ≡ b → b ≡ false
        by false h = refl
        by true h = elim (at_either c x h) [ inl on ↦ absurd (let no = s k x at in cc) | inr on ↦ absurd (let no = r k x at in cc) ]

    -- of two directions, w is first in one, and not later than any in the other
    first_both : (d d' : Direction) → ((x : Waiter) → is_at c x ≡ true → (is_on c d x ≡ true) ⊎ (is_on c d' x ≡ true)) → (w : Waiter) → IsFirstSlot (is_on c d) slots w
        → ((k : ℕ) (x : Waiter) → get_or slots k None ≡ Some x → is_on c d' x ≡ true → rank w ≤ rank x) → Some w ≡ slice_get (filter (is_at c) (in_order slots)) 0
    first_both d d' either w first others = sym (first_is_it (is_at c) w (record {
      key = first.key;
      there = first.there;
      passes = on_at c d w first.passes;
      least = λ k x at on. elim (either x on) [ inl h ↦ first.least k x at h | inr h ↦ others k x at h ];
    }))

    flip : (x : Waiter) → is_at c x ≡ true → (is_on c Receiving x ≡ true) ⊎ (is_on c Sending x ≡ true)
    flip x h = elim (at_either c x h) [ inl on ↦ inr on | inr on ↦ inl on ]

    pub earlier_first : (a b : Option Waiter)
        → IfSome a (IsFirstSlot (is_on c Sending) slots) → IfNone a (IsNowhere (is_on c Sending) slots)
        → IfSome b (IsFirstSlot (is_on c Receiving) slots) → IfNone b (IsNowhere (is_on c Receiving) slots)
        → earlier_of a b ≡ slice_get (filter (is_at c) (in_order slots)) 0
    earlier_first None None _ s _ r = sym (none_is (is_at c) slots (nowhere_both s r))
    earlier_first (Some v) None s _ _ r = first_both Sending Receiving (at_either c) v s (λ k x at on. absurd (let no = r k x at in cc))
    earlier_first None (Some w) _ s r _ = first_both Receiving Sending flip w r (λ k x at on. absurd (let no = s k x at in cc))
    earlier_first (Some v) (Some w) s _ r _ = by (ltb v.arrival w.arrival || ((v.arrival == w.arrival) && ltb v.offer.case w.offer.case)) (told (leb_tells (suc v.arrival) w.arrival) (eqb_tells v.arrival w.arrival) (leb_tells (suc v.offer.case) w.offer.case))
      where
        v_case : v.offer.case < 256
        v_case = cases s.key v s.there

        w_case : w.offer.case < 256
        w_case = cases r.key w r.there

        Told : Bool → Type 0
        Told b = cond b (rank v ≤ rank w) (rank w ≤ rank v)

        told : ((leb (suc v.arrival) w.arrival ≡ true) × (suc v.arrival ≤ w.arrival)) ⊎ ((leb (suc v.arrival) w.arrival ≡ false) × (w.arrival < suc v.arrival))
            → ((eqb v.arrival w.arrival ≡ true) × (v.arrival ≡ w.arrival)) ⊎ ((eqb v.arrival w.arrival ≡ false) × (v.arrival ≢ w.arrival))
            → ((leb (suc v.offer.case) w.offer.case ≡ true) × (suc v.offer.case ≤ w.offer.case)) ⊎ ((leb (suc v.offer.case) w.offer.case ≡ false) × (w.offer.case < suc v.offer.case))
            → Told (ltb v.arrival w.arrival || ((v.arrival == w.arrival) && ltb v.offer.case w.offer.case))
        told (inl a) b d = subst (λ (t : Bool). Told (t || ((v.arrival == w.arrival) && ltb v.offer.case w.offer.case))) (sym a.0) (omega (arith, a.1, v_case))
        told (inr a) (inr b) d = subst (λ (t : Bool). Told (t || ((v.arrival == w.arrival) && ltb v.offer.case w.offer.case))) (sym a.0) (subst (λ (t : Bool). Told (t && ltb v.offer.case w.offer.case)) (sym b.0) (omega (arith, a.1, b.1, w_case)))
        told (inr a) (inl b) (inl d) = subst (λ (t : Bool). Told (t || ((v.arrival == w.arrival) && ltb v.offer.case w.offer.case))) (sym a.0) (subst (λ (t : Bool). Told (t && ltb v.offer.case w.offer.case)) (sym b.0) (subst Told (sym d.0) (omega (arith, b.1, d.1))))
        told (inr a) (inl b) (inr d) = subst (λ (t : Bool). Told (t || ((v.arrival == w.arrival) && ltb v.offer.case w.offer.case))) (sym a.0) (subst (λ (t : Bool). Told (t && ltb v.offer.case w.offer.case)) (sym b.0) (subst Told (sym d.0) (omega (arith, b.1, d.1))))

        by : (b : Bool) → Told b → cond b (Some v) (Some w) ≡ slice_get (filter (is_at c) (in_order slots)) 0
        by true h = first_both Sending Receiving (at_either c) v s (λ k x at on. omega (arith, h, r.least k x at on))
        by false h = first_both Receiving Sending flip w r (λ k x at on. omega (arith, h, s.least k x at on))
