-- What is counted of a machine tells whether its logs agree with its entries.
use Rattle.std.proofs.Common.{◌≡◌, ◌⊎◌, inl, inr, ℕ, suc, ◌+◌, ◌^◌, ◌<◌, min, List, [], ◌∷◌, length, refl, sym, subst, ◌∙◌, arith}
use Rattle.std.proofs.lemmas.Bool.{cases_eq}
use Rattle.std.proofs.lemmas.List.Elements.{All-cons, All-head, All-nil, All-tail}
use Rattle.std.proofs.lemmas.List.Sums.{sum_by-cons}
use Rattle.std.specs.List.{All, sum}
use Rattle.gmp_seq.specs.declared.call.Entry.{Entry}
use Rattle.gmp_history.specs.declared.auditing.PassLog.{PassLog}
use Rattle.gmp_history.specs.declared.auditing.Tally.{Tally}
use Rattle.gmp_history.specs.Audit.{AgreesWithLogs, entries_of, logged_of, tally_of}
use Rattle.gmp_history.proofs.Tallies.{few_entries}

-- each is n
abbrev AllAre : ℕ → List ℕ → Type 0
AllAre n said = All (λ (calls : ℕ). calls ≡ n) said

no_calls : (said : List ℕ) → sum said ≡ 0 → AllAre 0 said
no_calls [] none = All-nil (λ (calls : ℕ). calls ≡ 0)
no_calls (c ∷ rest) none =
    let whole : c + sum rest ≡ 0 = sym (sum_by-cons (λ (n : ℕ). n) c rest) ∙ none in
    All-cons (λ (calls : ℕ). calls ≡ 0) c rest (omega (arith, whole)) (no_calls rest (omega (arith, whole)))

sum_of_none : (said : List ℕ) → AllAre 0 said → sum said ≡ 0
sum_of_none [] all = refl
sum_of_none (c ∷ rest) all =
    let first : c ≡ 0 = All-head (λ (calls : ℕ). calls ≡ 0) c rest all in
    let others : sum rest ≡ 0 = sum_of_none rest (All-tail (λ (calls : ℕ). calls ≡ 0) c rest all) in
    sum_by-cons (λ (n : ℕ). n) c rest ∙ omega (arith, first, others)

one_sum : (said : List ℕ) (n : ℕ) → length said ≡ 1 → sum said ≡ n → AllAre n said
one_sum [] n one is = omega (arith, one)
one_sum (c ∷ []) n one is = All-cons (λ (calls : ℕ). calls ≡ n) c [] (let whole : 0 + c ≡ n = is in omega (arith, whole)) (All-nil (λ (calls : ℕ). calls ≡ n))
one_sum (c ∷ d ∷ rest) n one is = (let no : suc (suc (length rest)) ≡ 1 = one in absurd cc)

sum_of_one : (said : List ℕ) (n : ℕ) → length said ≡ 1 → AllAre n said → sum said ≡ n
sum_of_one [] n one all = omega (arith, one)
sum_of_one (c ∷ []) n one all = (let first : c ≡ n = All-head (λ (calls : ℕ). calls ≡ n) c [] all in let whole : 0 + c ≡ n = omega (arith, first) in whole)
sum_of_one (c ∷ d ∷ rest) n one all = (let no : suc (suc (length rest)) ≡ 1 = one in absurd cc)

module _ (history : List Entry) (logs : List PassLog) (m : ℕ) (t : Tally) (is : t ≡ tally_of history logs m) (few : length history + 1 < 2 ^ 64) where
  below : entries_of history m < 18446744073709551615
  below = omega (arith, few_entries history m, few)

  pub agree : t.said ≡ t.found → (t.found ≡ 0) ⊎ (t.logs ≡ 1) → AgreesWithLogs history logs m
  agree same one = by (subst (λ (u : Tally). (u.found ≡ 0) ⊎ (u.logs ≡ 1)) is one) where
    capped : min (sum (logged_of logs m)) 18446744073709551615 ≡ entries_of history m
    capped = subst (λ (u : Tally). u.said ≡ u.found) is same

    sums : sum (logged_of logs m) ≡ entries_of history m
    sums = omega (arith, capped, below)

    by : (entries_of history m ≡ 0) ⊎ (length (logged_of logs m) ≡ 1) → AgreesWithLogs history logs m
    by (inl none) = record { one = λ some. (let no : ⊥ = omega (arith, none, some) in absurd no); each = subst (λ (n : ℕ). AllAre n (logged_of logs m)) (sym none) (no_calls (logged_of logs m) (sums ∙ none)) }
    by (inr one) = record { one = λ some. one; each = one_sum (logged_of logs m) (entries_of history m) one sums }

  pub agreed : AgreesWithLogs history logs m → (t.said ≡ t.found) × ((t.found ≡ 0) ⊎ (t.logs ≡ 1))
  agreed agrees = subst (λ (u : Tally). (u.said ≡ u.found) × ((u.found ≡ 0) ⊎ (u.logs ≡ 1))) (sym is) (by (cases_eq (entries_of history m) 0)) where
    by : (entries_of history m ≡ 0) ⊎ (entries_of history m ≡ 0 → ⊥) → (min (sum (logged_of logs m)) 18446744073709551615 ≡ entries_of history m) × ((entries_of history m ≡ 0) ⊎ (length (logged_of logs m) ≡ 1))
    by (inl none) =
        let sums : sum (logged_of logs m) ≡ 0 = sum_of_none (logged_of logs m) (subst (λ (n : ℕ). AllAre n (logged_of logs m)) none agrees.each) in
        (omega (arith, sums, none), inl none)
    by (inr some) =
        let one : length (logged_of logs m) ≡ 1 = agrees.one (omega (arith, some)) in
        let sums : sum (logged_of logs m) ≡ entries_of history m = sum_of_one (logged_of logs m) (entries_of history m) one agrees.each in
        (omega (arith, sums, below), inr one)
