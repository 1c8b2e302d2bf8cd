-- A record is taken out, or put in, and what is kept stays kept.
use Rattle.std.proofs.Common.{◌≡◌, ◌≢◌, ◌⊎◌, inl, inr, ℕ, [], ◌∷◌, ◌++◌, ◌+◌, ◌*◌, ◌<◌, ◌==◌, not, cond, Bool, true, false, Option, Some, None, IsSome, List, get_or, set, filter, count_by, get_or-set_same, get_or-set_other, length-set, refl, sym, ap, ◌∙◌, subst, arith}
use Rattle.std.proofs.lemmas.Bool.Decides.{nat_tests}
use Rattle.gmp_seq.specs.declared.status.Direction.{Direction}
use Rattle.gmp_seq.specs.declared.status.Direction.TheVariants.{Sending, Receiving}
use Rattle.gmp_seq.specs.declared.status.Waiter.{Waiter}
use Rattle.gmp_base.specs.declared.number.CNo.{CNo}
use Rattle.gmp_seq.specs.Waits.{direction_of}
use Rattle.gmp_chan.specs.Contents.{is_of}
use Rattle.gmp_chan.specs.Kept.{IsKept, IsInPlace, chain_of, queue_end, queue_in}
use Rattle.gmp_chan.specs.Slots.{IsLast, in_order, rank}
use Rattle.gmp_chan.proofs.Counted.{count-filter, few_more}
use Rattle.gmp_chan.proofs.Linked.{rings_linked, rings_unlinked}
use Rattle.gmp_chan.proofs.Ordered.{emptied, filled_last, keep, within_some}
use Rattle.gmp_chan.proofs.Ringed.{same_or_not}

pub end_small : (c : CNo) (direction : Direction) (channels : ℕ) → c.0 < channels → queue_end c direction < 2 * channels
end_small c Sending channels h = omega arith
end_small c Receiving channels h = omega arith

pub some_of : {X : Type 0} (o : Option X) → IsSome o → (x : X) × (o ≡ Some x)
some_of None h = absurd cc
some_of (Some x) h = (x, refl)

module _ (slots : List (Option Waiter)) (base : ℕ) (next prev own_next own_prev : List ℕ) (bodies channels : ℕ) (kept : IsKept slots base next prev own_next own_prev bodies channels) where
  -- A record is taken out

  module _ (i : ℕ) (w : Waiter) (there : get_or slots i None ≡ Some w) where
    gone : get_or (set slots i None) i None ≡ None
    gone = get_or-set_same slots i None None (within_some slots i w there)

    rest : (n : ℕ) → n ≢ i → get_or (set slots i None) n None ≡ get_or slots n None
    rest n e = get_or-set_other slots i n None None e

    still : (n : ℕ) (x : Waiter) → get_or (set slots i None) n None ≡ Some x → get_or slots n None ≡ Some x
    still n x is = by (same_or_not n i)
      where
        by : (n ≡ i) ⊎ (n ≢ i) → get_or slots n None ≡ Some x
        by (inl e) = absurd (let no : None ≡ Some x = sym gone ∙ (ap (λ (k : ℕ). get_or (set slots i None) k None) (sym e) ∙ is) in cc)
        by (inr e) = sym (rest n e) ∙ is

    -- all but this
    abbrev others : Waiter → Bool
    others x = not (rank x == rank w)

    one_less : in_order (set slots i None) ≡ filter others (in_order slots)
    one_less = emptied others slots (set slots i None) (length-set slots i None) (λ n. by n (same_or_not n i) (get_or slots n None) refl)
      where
        by : (n : ℕ) → (n ≡ i) ⊎ (n ≢ i) → (o : Option Waiter) → get_or slots n None ≡ o → get_or (set slots i None) n None ≡ keep others o
        by n (inl e) None at = ap (λ (k : ℕ). get_or (set slots i None) k None) e ∙ gone
        by n (inl e) (Some x) at =
            let same : x ≡ w = (let s : Some x ≡ Some w = sym at ∙ (ap (λ (k : ℕ). get_or slots k None) e ∙ there) in cc) in
            let t : (rank x == rank w) ≡ true = (let r = ap rank same in grind (arith, nat_tests)) in
            ap (λ (k : ℕ). get_or (set slots i None) k None) e ∙ (gone ∙ sym (ap (λ (b : Bool). cond (not b) (Some x) None) t))
        by n (inr e) None at = rest n e ∙ at
        by n (inr e) (Some x) at =
            let t : (rank x == rank w) ≡ false = (let apart : rank x ≢ rank w = λ r. e (kept.apart n i x w at there r) in grind (arith, nat_tests)) in
            rest n e ∙ (at ∙ sym (ap (λ (b : Bool). cond (not b) (Some x) None) t))

    pub taken_out : IsKept (set slots i None) base (set next (get_or prev i 0) (get_or next i 0)) (set prev (get_or next i 0) (get_or prev i 0))
        (set own_next (get_or own_prev i 0) (get_or own_next i 0)) (set own_prev (get_or own_next i 0) (get_or own_prev i 0)) bodies channels
    taken_out = record {
      room = kept.room;
      placed = λ n x is. kept.placed n x (still n x is);
      apart = λ n k x y at at' same. kept.apart n k x y (still n x at) (still k y at') same;
      few = λ g. omega (arith, ap (count_by (is_of g)) one_less, count-filter (is_of g) others (in_order slots), kept.few g);
      queues = rings_unlinked queue_in base (2 * channels) slots next prev kept.queues (set slots i None) i (kept.placed i w there).slot rest w there gone kept.apart;
      chains = rings_unlinked chain_of base bodies slots own_next own_prev kept.chains (set slots i None) i (kept.placed i w there).slot rest w there gone kept.apart;
    }

  -- A record is put in, which ranks above all

  module _ (now : List (Option Waiter)) (i : ℕ) (w : Waiter) (within : i < base) (vacant : get_or slots i None ≡ None) (filled : get_or now i None ≡ Some w) (rest : (n : ℕ) → n ≢ i → get_or now n None ≡ get_or slots n None)
      (last : IsLast slots w) where
    new_or_old : (n : ℕ) (x : Waiter) → get_or now n None ≡ Some x → ((n ≡ i) × (x ≡ w)) ⊎ (get_or slots n None ≡ Some x)
    new_or_old n x is = by (same_or_not n i)
      where
        by : (n ≡ i) ⊎ (n ≢ i) → ((n ≡ i) × (x ≡ w)) ⊎ (get_or slots n None ≡ Some x)
        by (inl e) = inl (e, (let s : Some x ≡ Some w = sym is ∙ (ap (λ (k : ℕ). get_or now k None) e ∙ filled) in cc))
        by (inr e) = inr (sym (rest n e) ∙ is)

    pub one_more : in_order now ≡ in_order slots ++ w ∷ []
    one_more = filled_last slots now i w vacant filled rest last

    pub put_in : w.g.0 < bodies → w.offer.channel.0 < channels → w.offer.case < 256 → count_by (is_of w.g) (in_order slots) < 8
        → (q : ℕ) → q ≡ base + queue_in w → (o : ℕ) → o ≡ base + chain_of w
        → IsKept now base (set (set next (get_or prev q 0) i) i q) (set (set prev i (get_or prev q 0)) q i)
        (set (set own_next (get_or own_prev o 0) i) i o) (set (set own_prev i (get_or own_prev o 0)) o i) bodies channels
    put_in known made case few q is_q o is_o = record {
      room = kept.room;
      placed = λ n x is. placed n x (new_or_old n x is);
      apart = λ n k x y at at' same. apart n k x y (new_or_old n x at) (new_or_old k y at') same;
      few = λ g. omega (arith, ap (count_by (is_of g)) one_more, few_more (in_order slots) w kept.few few g);
      queues = rings_linked queue_in base (2 * channels) slots next prev kept.queues now i within rest w (end_small w.offer.channel (direction_of w.offer.deal) channels made) vacant filled last q is_q;
      chains = rings_linked chain_of base bodies slots own_next own_prev kept.chains now i within rest w known vacant filled last o is_o;
    }
      where
        placed : (n : ℕ) (x : Waiter) → ((n ≡ i) × (x ≡ w)) ⊎ (get_or slots n None ≡ Some x) → IsInPlace base bodies channels n x
        placed n x (inl e) = subst (IsInPlace base bodies channels n) (sym e.1) (record { slot = omega (arith, within, e.0); known = known; made = made; case = case })
        placed n x (inr at) = kept.placed n x at

        apart : (n k : ℕ) (x y : Waiter) → ((n ≡ i) × (x ≡ w)) ⊎ (get_or slots n None ≡ Some x) → ((k ≡ i) × (y ≡ w)) ⊎ (get_or slots k None ≡ Some y) → rank x ≡ rank y → n ≡ k
        apart n k x y (inl e) (inl f) same = e.0 ∙ sym f.0
        apart n k x y (inl e) (inr at) same = absurd (omega (arith, last k y at, same, ap rank e.1))
        apart n k x y (inr at) (inl f) same = absurd (omega (arith, last n x at, same, ap rank f.1))
        apart n k x y (inr at) (inr at') same = kept.apart n k x y at at' same
