-- One is taken out of its ring, or linked last in it, and what is linked stays linked.
use Rattle.std.proofs.Common.{◌≡◌, ◌≢◌, inl, inr, ℕ, zero, suc, [], ◌∷◌, ◌+◌, ◌<◌, ◌≤◌, Option, Some, None, List, length, get_or, set, get_or-set_same, get_or-set_other, length-set, refl, sym, ap, ◌∙◌, subst, arith}
use Rattle.std.proofs.lemmas.Bool.Decides.{nat_tests}
use Rattle.gmp_seq.specs.declared.status.Waiter.{Waiter}
use Rattle.gmp_chan.specs.Kept.{AreRings, AreApart, mark_at, mark_in, key_in}
use Rattle.gmp_chan.specs.Slots.{IsLast, rank}
use Rattle.gmp_chan.proofs.Ringed.{unlinked, appended, order}

-- what stands at an index within doesn't depend on the default
pub any_default : {X : Type 0} (xs : List X) (i : ℕ) (d e : X) → i < length xs → get_or xs i d ≡ get_or xs i e
any_default [] i d e h = absurd (omega arith)
any_default (x ∷ xs) zero d e h = refl
any_default (x ∷ xs) (suc i) d e h = any_default xs i d e (omega arith)

module _ (ring : Waiter → ℕ) (base ends : ℕ) where
  -- Marks

  pub mark_record : (n : ℕ) (slot : Option Waiter) → n < base → mark_at ring base ends n slot ≡ mark_in ring base slot
  mark_record n slot h = grind (arith, nat_tests)

  pub mark_end : (n : ℕ) (slot : Option Waiter) → base ≤ n → n < base + ends → mark_at ring base ends n slot ≡ n + 1
  mark_end n slot h k = grind (arith, nat_tests)

  mark_out : (n : ℕ) (slot : Option Waiter) → base + ends ≤ n → mark_at ring base ends n slot ≡ 0
  mark_out n slot h = grind (arith, nat_tests)

  -- a node is a record or an end
  pub node_within : (n : ℕ) (slot : Option Waiter) → 0 < mark_at ring base ends n slot → n < base + ends
  node_within n slot h = elim (order n (base + ends)) [ inl k ↦ k | inr k ↦ absurd (omega (arith, h, mark_out n slot k)) ]

  -- an end is known by its mark
  end_known : (n e : ℕ) (slot slot' : Option Waiter) → base ≤ n → base ≤ e → 0 < mark_at ring base ends e slot' → mark_at ring base ends n slot ≡ mark_at ring base ends e slot' → n ≡ e
  end_known n e slot slot' high high' live same =
      let within = node_within e slot' live in
      let mark_e = mark_end e slot' high' within in
      let within_n = node_within n slot (omega (arith, same, live)) in
      omega (arith, mark_end n slot high within_n, mark_e, same)

  module _ (slots : List (Option Waiter)) (next prev : List ℕ) (rings : AreRings ring ends base slots next prev) where
    abbrev mark : ℕ → ℕ
    mark n = mark_at ring base ends n (get_or slots n None)

    pub next_within : (n : ℕ) → 0 < mark_at ring base ends n (get_or slots n None) → get_or next n 0 < base + ends
    next_within n live = node_within (get_or next n 0) (get_or slots (get_or next n 0) None) (omega (arith, live, (rings.linked n live).onward))

    pub prev_within : (n : ℕ) → 0 < mark_at ring base ends n (get_or slots n None) → get_or prev n 0 < base + ends
    prev_within n live = node_within (get_or prev n 0) (get_or slots (get_or prev n 0) None) (omega (arith, live, (rings.linked n live).back))

    pub record_live : (i : ℕ) (w : Waiter) → i < base → get_or slots i None ≡ Some w → 0 < mark_at ring base ends i (get_or slots i None)
    record_live i w within there = omega (arith, mark_record i (get_or slots i None) within, ap (mark_in ring base) there)

    pub end_live : (k : ℕ) → k < ends → 0 < mark_at ring base ends (base + k) (get_or slots (base + k) None)
    end_live k h = omega (arith, h, mark_end (base + k) (get_or slots (base + k) None) (omega arith) (omega (arith, h)))

    module _ (now : List (Option Waiter)) (i : ℕ) (within : i < base) (others : (n : ℕ) → n ≢ i → get_or now n None ≡ get_or slots n None) where
      -- i is taken out
      pub rings_unlinked : (w : Waiter) → get_or slots i None ≡ Some w → get_or now i None ≡ None → AreApart slots
          → AreRings ring ends base now (set next (get_or prev i 0) (get_or next i 0)) (set prev (get_or next i 0) (get_or prev i 0))
      rings_unlinked w there gone apart = record {
        next_size = length-set next p m ∙ rings.next_size;
        prev_size = length-set prev m p ∙ rings.prev_size;
        linked = unlinked base mark (λ n. key_in (get_or slots n None)) (λ n. get_or next n 0) (λ n. get_or prev n 0)
            (λ n. mark_at ring base ends n (get_or now n None)) (λ n. key_in (get_or now n None)) (λ n. get_or (set next p m) n 0) (λ n. get_or (set prev m p) n 0)
            i rings.linked within live
            (λ k h on same. one k (get_or slots k None) refl (omega (arith, sym (mark_record k (get_or slots k None) h) ∙ on, live)) same)
            (ap (mark_at ring base ends i) gone ∙ mark_record i None within)
            (λ n e. ap (mark_at ring base ends n) (others n e))
            (λ n e. ap key_in (others n e))
            (get_or-set_same next p m 0 (omega (arith, prev_within i live, rings.next_size)))
            (λ n e. get_or-set_other next p n m 0 e)
            (get_or-set_same prev m p 0 (omega (arith, next_within i live, rings.prev_size)))
            (λ n e. get_or-set_other prev m n p 0 e);
      }
        where
          p : ℕ
          p = get_or prev i 0

          m : ℕ
          m = get_or next i 0

          live : 0 < mark i
          live = record_live i w within there

          one : (k : ℕ) (x : Option Waiter) → get_or slots k None ≡ x → 0 < mark_in ring base x → key_in x ≡ key_in (get_or slots i None) → k ≡ i
          one k None at some same = absurd (omega (arith, some))
          one k (Some x) at some same = apart k i x w at there (same ∙ ap key_in there)

      -- w, which ranks above all, is linked last before the end e of its ring
      pub rings_linked : (w : Waiter) → ring w < ends → get_or slots i None ≡ None → get_or now i None ≡ Some w → IsLast slots w → (e : ℕ) → e ≡ base + ring w
          → AreRings ring ends base now (set (set next (get_or prev e 0) i) i e) (set (set prev i (get_or prev e 0)) e i)
      rings_linked w small vacant filled last e is_end = record {
        next_size = length-set (set next l i) i e ∙ (length-set next l i ∙ rings.next_size);
        prev_size = length-set (set prev i l) e i ∙ (length-set prev i l ∙ rings.prev_size);
        linked = appended base mark (λ n. key_in (get_or slots n None)) (λ n. get_or next n 0) (λ n. get_or prev n 0)
            (λ n. mark_at ring base ends n (get_or now n None)) (λ n. key_in (get_or now n None)) (λ n. get_or next' n 0) (λ n. get_or prev' n 0)
            i e rings.linked within mark_i e_high e_live
            (λ n h on. end_known n e (get_or slots n None) (get_or slots e None) h e_high e_live on)
            (λ k h on. later k (get_or slots k None) refl (omega (arith, sym (mark_record k (get_or slots k None) h) ∙ on, e_live)))
            (ap (mark_at ring base ends i) filled ∙ (mark_record i (Some w) within ∙ omega (arith, mark_e, is_end)))
            (λ n h. ap (mark_at ring base ends n) (others n h))
            (λ n h. ap key_in (others n h))
            (get_or-set_other (set next l i) i l e 0 l_other ∙ get_or-set_same next l i 0 (omega (arith, l_within, rings.next_size)))
            (get_or-set_same (set next l i) i e 0 (omega (arith, within, rings.next_size, length-set next l i)))
            (λ n h k. get_or-set_other (set next l i) i n e 0 k ∙ get_or-set_other next l n i 0 h)
            (get_or-set_same (set prev i l) e i 0 (omega (arith, e_within, rings.prev_size, length-set prev i l)))
            (get_or-set_other (set prev i l) e i i 0 (λ h. omega (arith, h, e_high, within)) ∙ get_or-set_same prev i l 0 (omega (arith, within, rings.prev_size)))
            (λ n h k. get_or-set_other (set prev i l) e n i 0 h ∙ get_or-set_other prev i n l 0 k);
      }
        where
          l : ℕ
          l = get_or prev e 0

          next' : List ℕ
          next' = set (set next l i) i e

          prev' : List ℕ
          prev' = set (set prev i l) e i

          e_high : base ≤ e
          e_high = omega (arith, is_end)

          e_within : e < base + ends
          e_within = omega (arith, is_end, small)

          mark_e : mark e ≡ e + 1
          mark_e = mark_end e (get_or slots e None) e_high e_within

          e_live : 0 < mark e
          e_live = omega (arith, mark_e)

          l_within : l < base + ends
          l_within = prev_within e e_live

          mark_i : mark i ≡ 0
          mark_i = mark_record i (get_or slots i None) within ∙ ap (mark_in ring base) vacant

          l_other : l ≢ i
          l_other h = omega (arith, ap mark h, mark_i, e_live, (rings.linked e e_live).back)

          later : (k : ℕ) (x : Option Waiter) → get_or slots k None ≡ x → 0 < mark_in ring base x → key_in x < key_in (get_or now i None)
          later k None at some = absurd (omega (arith, some))
          later k (Some x) at some = subst (λ (c : Option Waiter). rank x < key_in c) (sym filled) (last k x at)
