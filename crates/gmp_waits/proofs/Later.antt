-- Who ran lately, with one entry more.
use Rattle.std.proofs.Common.{◌≡◌, inl, inr, ℕ, ◌-◌, ◌<◌, ◌≤◌, List, [], ◌∷◌, ◌++◌, Option, None, drop, length, refl, sym, ap, subst, ◌∙◌, arith}
use Rattle.std.proofs.lemmas.Bool.{cases_lt}
use Rattle.std.proofs.lemmas.List.{append_assoc, append-nil, drop-append-le, drop_all, length_push, take-append-le, take_all}
use Rattle.gmp_base.specs.declared.number.GNo.{GNo}
use Rattle.gmp_seq.specs.declared.call.Entry.{Entry}
use Rattle.gmp_seq.specs.declared.call.Limits.{Limits}
use Rattle.gmp_seq.specs.Run.{IsLegal, IsStep}
use Rattle.gmp_seq.specs.State.{State, opening}
use Rattle.gmp_check.proofs.Replaying.{run_next}
use Rattle.gmp_waits.specs.Lately.{AreOf, RanTo, listed, whose}

-- one entry more is its goroutine's
one_more : (limits : Limits) (h : List Entry) (e : Entry) (s mid s' : State) (gs : List GNo) → AreOf limits h s mid gs → IsStep limits e mid s'
    → AreOf limits (h ++ e ∷ []) s s' (gs ++ listed (whose e mid.table.goroutines))
one_more limits [] e s mid s' gs (same, none) step =
    subst (λ (x : State). AreOf limits (e ∷ []) s s' (gs ++ listed (whose e x.table.goroutines))) (sym same)
    (s', [], subst (λ (x : State). IsStep limits e x s') same step, (refl, refl), ap (λ (l : List GNo). l ++ listed (whose e s.table.goroutines)) none ∙ sym (append-nil (listed (whose e s.table.goroutines))))
one_more limits (first ∷ h) e s mid s' gs (next, rest, step_first, are, is) step =
    let more = listed (whose e mid.table.goroutines) in
    let own = listed (whose first s.table.goroutines) in
    (next, rest ++ more, step_first, one_more limits h e next mid s' rest are step, ap (λ (l : List GNo). l ++ more) is ∙ append_assoc own rest more)

-- none are before the first
pub late_init : (limits : Limits) (bodies : ℕ) (capacities : List ℕ) (early : ℕ) (s : State) (gs : List GNo) → s ≡ opening limits bodies capacities → gs ≡ [] → RanTo limits bodies capacities early [] s gs
late_init limits bodies capacities early s gs first none = record {
  mid = s;
  legal = subst (λ (h : List Entry). IsLegal limits bodies capacities h s) (sym (take_all early [] (omega arith))) first;
  are = subst (λ (h : List Entry). AreOf limits h s s gs) (sym (drop_all early [] (omega arith))) (refl, none);
}

module _ (limits : Limits) (bodies : ℕ) (capacities : List ℕ) (early : ℕ) (h : List Entry) (e : Entry) (s s' : State) (gs : List GNo) (k : RanTo limits bodies capacities early h s gs)
    (run : IsLegal limits bodies capacities h s) (step : IsStep limits e s s') where
  -- there are more to skip
  skipped : length h < early → RanTo limits bodies capacities early (h ++ e ∷ []) s' gs
  skipped less = record {
    mid = s';
    legal = subst (λ (l : List Entry). IsLegal limits bodies capacities l s') (sym (take_all early (h ++ e ∷ []) within)) (run_next limits (opening limits bodies capacities) s s' h e run step);
    are = subst (λ (l : List Entry). AreOf limits l s' s' gs) (sym (drop_all early (h ++ e ∷ []) within)) (refl, nobody);
  } where
    within : length (h ++ e ∷ []) ≤ early
    within = (let longer = length_push h e in omega (arith, longer, less))

    -- none is told of so far
    nobody : gs ≡ []
    nobody = (subst (λ (l : List Entry). AreOf limits l k.mid s gs) (drop_all early h (omega (arith, less))) k.are).1

  -- there are none
  told : early ≤ length h → RanTo limits bodies capacities early (h ++ e ∷ []) s' (gs ++ listed (whose e s.table.goroutines))
  told over = record {
    mid = k.mid;
    legal = subst (λ (l : List Entry). IsLegal limits bodies capacities l k.mid) (sym (take-append-le early h (e ∷ []) over)) k.legal;
    are = subst (λ (l : List Entry). AreOf limits l k.mid s' (gs ++ listed (whose e s.table.goroutines))) (sym (drop-append-le early h (e ∷ []) over)) (one_more limits (drop early h) e k.mid s s' gs k.are step);
  }

  pub late_next : (who : Option GNo) → (0 < early - length h → who ≡ None) → (early - length h ≡ 0 → who ≡ whose e s.table.goroutines)
      → RanTo limits bodies capacities early (h ++ e ∷ []) s' (gs ++ listed who)
  late_next who is_none is_whose = elim (cases_lt (length h) early) [
    | inl less ↦
        let none : who ≡ None = is_none (omega (arith, less)) in
        subst (λ (w : Option GNo). RanTo limits bodies capacities early (h ++ e ∷ []) s' (gs ++ listed w)) (sym none)
        (subst (λ (l : List GNo). RanTo limits bodies capacities early (h ++ e ∷ []) s' l) (sym (append-nil gs)) (skipped less))
    | inr over ↦
        let it : who ≡ whose e s.table.goroutines = is_whose (omega (arith, over)) in
        subst (λ (w : Option GNo). RanTo limits bodies capacities early (h ++ e ∷ []) s' (gs ++ listed w)) (sym it) (told over)
  ]
