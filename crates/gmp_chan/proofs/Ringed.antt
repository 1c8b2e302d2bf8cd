-- A ring stays one where a record is taken out, and where one is put in last.
use Rattle.std.proofs.Common.{◌≡◌, ◌≢◌, ◌⊎◌, inl, inr, ℕ, ◌<◌, ◌≤◌, sym, ap, ◌∙◌, arith}
use Rattle.std.proofs.lemmas.Bool.Decides.{eqb_tells, leb_tells}
use Rattle.gmp_chan.specs.Rings.{IsLinkedAt, AreLinked}

pub same_or_not : (a b : ℕ) → (a ≡ b) ⊎ (a ≢ b)
same_or_not a b = elim (eqb_tells a b) [ inl h ↦ inl h.1 | inr h ↦ inr h.1 ]

pub order : (a b : ℕ) → (a < b) ⊎ (b ≤ a)
order a b = elim (leb_tells b a) [ inl h ↦ inr h.1 | inr h ↦ inl h.1 ]

module _ (base : ℕ) (mark key next prev mark' key' next' prev' : ℕ → ℕ) where
  -- node i, a record, is unlinked: its two neighbours are linked
  pub unlinked : (i : ℕ) → AreLinked base mark key next prev → i < base → 0 < mark i
      → ((k : ℕ) → k < base → mark k ≡ mark i → key k ≡ key i → k ≡ i)
      → mark' i ≡ 0 → ((n : ℕ) → n ≢ i → mark' n ≡ mark n) → ((n : ℕ) → n ≢ i → key' n ≡ key n)
      → next' (prev i) ≡ next i → ((n : ℕ) → n ≢ prev i → next' n ≡ next n)
      → prev' (next i) ≡ prev i → ((n : ℕ) → n ≢ next i → prev' n ≡ prev n)
      → AreLinked base mark' key' next' prev'
  unlinked i old within live apart gone marks keys out nexts in_ prevs n node =
      record { onward = onward (same_or_not n (prev i)); back = back (same_or_not n (next i)); there = there (same_or_not n (prev i)); here = here (same_or_not n (next i)); none = none (same_or_not n (prev i)) }
    where
      other : n ≢ i
      other e = omega (arith, ap mark' e)

      kept : mark' n ≡ mark n
      kept = marks n other

      here_i : IsLinkedAt base mark key next prev i
      here_i = old i live

      here_n : IsLinkedAt base mark key next prev n
      here_n = old n (omega (arith, kept))

      p_live : n ≡ prev i → next i ≢ i
      p_live e same = other (e ∙ (ap prev (sym same) ∙ here_i.there))

      m_live : n ≡ next i → prev i ≢ i
      m_live e same = other (e ∙ (ap next (sym same) ∙ here_i.here))

      onward : (n ≡ prev i) ⊎ (n ≢ prev i) → mark' (next' n) ≡ mark' n
      onward (inl e) = ap mark' (ap next' e ∙ out) ∙ (marks (next i) (p_live e) ∙ (here_i.onward ∙ (sym here_i.back ∙ (ap mark (sym e) ∙ sym kept))))
      onward (inr e) = ap mark' (nexts n e) ∙ (marks (next n) (λ s. e (sym here_n.there ∙ ap prev s)) ∙ (here_n.onward ∙ sym kept))

      back : (n ≡ next i) ⊎ (n ≢ next i) → mark' (prev' n) ≡ mark' n
      back (inl e) = ap mark' (ap prev' e ∙ in_) ∙ (marks (prev i) (m_live e) ∙ (here_i.back ∙ (sym here_i.onward ∙ (ap mark (sym e) ∙ sym kept))))
      back (inr e) = ap mark' (prevs n e) ∙ (marks (prev n) (λ s. e (sym here_n.here ∙ ap next s)) ∙ (here_n.back ∙ sym kept))

      there : (n ≡ prev i) ⊎ (n ≢ prev i) → prev' (next' n) ≡ n
      there (inl e) = ap prev' (ap next' e ∙ out) ∙ (in_ ∙ sym e)
      there (inr e) = ap prev' (nexts n e) ∙ (prevs (next n) (λ s. other (sym here_n.there ∙ (ap prev s ∙ here_i.there))) ∙ here_n.there)

      here : (n ≡ next i) ⊎ (n ≢ next i) → next' (prev' n) ≡ n
      here (inl e) = ap next' (ap prev' e ∙ in_) ∙ (out ∙ sym e)
      here (inr e) = ap next' (prevs n e) ∙ (nexts (prev n) (λ s. other (sym here_n.here ∙ (ap next s ∙ here_i.here))) ∙ here_n.here)

      none : (n ≡ prev i) ⊎ (n ≢ prev i) → (k : ℕ) → k < base → mark' k ≡ mark' n → (n < base → key' n < key' k) → (next' n < base → key' k < key' (next' n)) → ⊥
      none (inl e) k below same past short =
          let k_live : k ≢ i = λ s. omega (arith, same, ap mark' s) in
          let m_kept = keys (next i) (p_live e) in
          let to_m : next' n ≡ next i = ap next' e ∙ out in
          let key_m : key' (next' n) ≡ key (next i) = ap key' to_m ∙ m_kept in
          let key_n : key' n ≡ key n = keys n other in
          let key_k = keys k k_live in
          let mark_k = marks k k_live in
          let mark_n = kept in
          let on_i : mark n ≡ mark i = ap mark e ∙ here_i.back in
          let mark_k_i : mark k ≡ mark i = omega arith in
          let tied : key k ≢ key i = λ s. k_live (apart k below mark_k_i s) in
          let to_i : next n ≡ i = ap next e ∙ here_i.here in
          let key_to_i : key (next n) ≡ key i = ap key to_i in
          elim (order (key k) (key i)) [
            | inl less ↦ here_n.none k below (omega arith) (λ h. omega (arith, past h)) (λ _. omega arith)
            | inr more ↦ here_i.none k below mark_k_i (λ _. omega (arith, tied, more)) (λ h. omega (arith, short (omega arith)))
          ]
      none (inr e) k below same past short =
          let k_live : k ≢ i = λ s. omega (arith, same, ap mark' s) in
          let to : next' n ≡ next n = nexts n e in
          let key_to : key' (next' n) ≡ key (next n) = ap key' to ∙ keys (next n) (λ s. e (sym here_n.there ∙ ap prev s)) in
          let key_n : key' n ≡ key n = keys n other in
          let key_k = keys k k_live in
          let mark_k = marks k k_live in
          let mark_n = kept in
          here_n.none k below (omega arith) (λ h. omega (arith, past h)) (λ h. omega (arith, short (omega arith)))

  -- node i, where none was, is linked as the last record before end e
  pub appended : (i e : ℕ) → AreLinked base mark key next prev → i < base → mark i ≡ 0 → base ≤ e → 0 < mark e
      → ((n : ℕ) → base ≤ n → mark n ≡ mark e → n ≡ e)
      → ((k : ℕ) → k < base → mark k ≡ mark e → key k < key' i)
      → mark' i ≡ mark e → ((n : ℕ) → n ≢ i → mark' n ≡ mark n) → ((n : ℕ) → n ≢ i → key' n ≡ key n)
      → next' (prev e) ≡ i → next' i ≡ e → ((n : ℕ) → n ≢ prev e → n ≢ i → next' n ≡ next n)
      → prev' e ≡ i → prev' i ≡ prev e → ((n : ℕ) → n ≢ e → n ≢ i → prev' n ≡ prev n)
      → AreLinked base mark' key' next' prev'
  appended i e old within vacant high end_live only last mark_i marks keys from_last from_i nexts from_e to_last prevs n node = by_node (same_or_not n i)
    where
      at_e : IsLinkedAt base mark key next prev e
      at_e = old e end_live

      e_other : e ≢ i
      e_other s = omega (arith, within, high)

      l_other : prev e ≢ i
      l_other s = omega (arith, ap mark s, at_e.back, vacant, end_live)

      alone : (k : ℕ) → (k ≡ i) ⊎ (k ≢ i) → k < base → mark' k ≡ mark' i → (i < base → key' i < key' k) → ⊥
      alone k (inl is) below on past = omega (arith, past within, ap key' is)
      alone k (inr not_i) below on past = omega (arith, past within, keys k not_i, last k below (sym (marks k not_i) ∙ (on ∙ mark_i)))

      by_node : (n ≡ i) ⊎ (n ≢ i) → IsLinkedAt base mark' key' next' prev' n
      by_node (inl same) = rw same (record {
        onward = ap mark' from_i ∙ (marks e e_other ∙ sym mark_i);
        back = ap mark' to_last ∙ (marks (prev e) l_other ∙ (at_e.back ∙ sym mark_i));
        there = ap prev' from_i ∙ from_e;
        here = ap next' to_last ∙ from_last;
        none = λ k below on past _. alone k (same_or_not k i) below on past;
      })
      by_node (inr other) = record { onward = onward (same_or_not n (prev e)); back = back (same_or_not n e); there = there (same_or_not n (prev e)); here = here (same_or_not n e); none = λ k below on past short. none k (same_or_not k i) (same_or_not n (prev e)) below on past short }
        where
          kept : mark' n ≡ mark n
          kept = marks n other

          at_n : IsLinkedAt base mark key next prev n
          at_n = old n (omega (arith, kept))

          onward : (n ≡ prev e) ⊎ (n ≢ prev e) → mark' (next' n) ≡ mark' n
          onward (inl s) = ap mark' (ap next' s ∙ from_last) ∙ (mark_i ∙ (sym at_e.back ∙ (ap mark (sym s) ∙ sym kept)))
          onward (inr s) = ap mark' (nexts n s other) ∙ (marks (next n) (λ h. omega (arith, ap mark h, vacant, at_n.onward, kept, node)) ∙ (at_n.onward ∙ sym kept))

          back : (n ≡ e) ⊎ (n ≢ e) → mark' (prev' n) ≡ mark' n
          back (inl s) = ap mark' (ap prev' s ∙ from_e) ∙ (mark_i ∙ (ap mark (sym s) ∙ sym kept))
          back (inr s) = ap mark' (prevs n s other) ∙ (marks (prev n) (λ h. omega (arith, ap mark h, vacant, at_n.back, kept, node)) ∙ (at_n.back ∙ sym kept))

          there : (n ≡ prev e) ⊎ (n ≢ prev e) → prev' (next' n) ≡ n
          there (inl s) = ap prev' (ap next' s ∙ from_last) ∙ (to_last ∙ sym s)
          there (inr s) = ap prev' (nexts n s other) ∙ (prevs (next n) (λ h. s (sym at_n.there ∙ ap prev h)) (λ h. omega (arith, ap mark h, vacant, at_n.onward, kept, node)) ∙ at_n.there)

          here : (n ≡ e) ⊎ (n ≢ e) → next' (prev' n) ≡ n
          here (inl s) = ap next' (ap prev' s ∙ from_e) ∙ (from_i ∙ sym s)
          here (inr s) = ap next' (prevs n s other) ∙ (nexts (prev n) (λ h. s (sym at_n.here ∙ (ap next h ∙ at_e.here))) (λ h. omega (arith, ap mark h, vacant, at_n.back, kept, node)) ∙ at_n.here)

          none : (k : ℕ) → (k ≡ i) ⊎ (k ≢ i) → (n ≡ prev e) ⊎ (n ≢ prev e) → k < base → mark' k ≡ mark' n → (n < base → key' n < key' k) → (next' n < base → key' k < key' (next' n)) → ⊥
          none k (inl is) (inl s) below on past short =
              let to : next' n ≡ i = ap next' s ∙ from_last in
              omega (arith, ap key' is, ap key' to, short (omega (arith, to, within)))
          none k (inl is) (inr s) below on past short =
              let to = nexts n s other in
              let mark_n : mark (next n) ≡ mark e = at_n.onward ∙ (sym kept ∙ (sym on ∙ (ap mark' is ∙ mark_i))) in
              let not_i : next n ≢ i = λ h. omega (arith, ap mark h, vacant, mark_n, end_live) in
              elim (order (next n) base) [
                | inl record_ ↦ omega (arith, ap key' is, ap key' to, keys (next n) not_i, last (next n) record_ mark_n, short (omega (arith, to, record_)))
                | inr end_ ↦ s (sym at_n.there ∙ ap prev (only (next n) end_ mark_n))
              ]
          none k (inr not_i) (inl s) below on past short =
              let to : next n ≡ e = ap next s ∙ at_e.here in
              let key_n = keys n other in
              let key_k = keys k not_i in
              at_n.none k below (sym (marks k not_i) ∙ (on ∙ kept)) (λ h. omega (arith, past h)) (λ h. omega (arith, h, to, high))
          none k (inr not_i) (inr s) below on past short =
              let to = nexts n s other in
              let mark_next : mark (next n) ≡ mark n = at_n.onward in
              let not_next : next n ≢ i = λ h. omega (arith, ap mark h, vacant, at_n.onward, kept, node) in
              let key_n = keys n other in
              let key_k = keys k not_i in
              let key_next = keys (next n) not_next in
              let key_to = ap key' to in
              at_n.none k below (sym (marks k not_i) ∙ (on ∙ kept)) (λ h. omega (arith, past h)) (λ h. omega (arith, short (omega (arith, to, h))))
