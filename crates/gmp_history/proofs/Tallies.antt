-- What is counted of each machine, entry by entry and log by log.
use Rattle.std.proofs.Common.{◌≡◌, ◌≢◌, ◌⊎◌, inl, inr, ℕ, ◌+◌, ◌<◌, ◌≤◌, ◌==◌, min, Bool, true, false, if◌then◌else◌, List, [], ◌∷◌, ◌++◌, length, map, filter, get_or, set, take, refl, sym, ap, subst, ◌∙◌, arith, length-append}
use Rattle.std.proofs.lemmas.Bool.{cases_eq, eq-eqb, ne_eqb}
use Rattle.std.proofs.lemmas.List.{append-nil, get_or-set_other, get_or-set_same, length-map, length_push, map-append}
use Rattle.std.proofs.lemmas.List.Elements.{filter_more, filter-append}
use Rattle.std.proofs.lemmas.List.Sums.{count_by-le-length, length-filter, sum_by_push}
use Rattle.std.specs.List.{count_by, sum}
use Rattle.gmp_seq.specs.declared.call.Entry.{Entry}
use Rattle.gmp_history.specs.declared.auditing.PassLog.{PassLog}
use Rattle.gmp_history.specs.declared.auditing.Tally.{Tally}
use Rattle.gmp_history.specs.Audit.{entries_of, logged_of, no_tally, tally_of}

-- One tally of the array changes

-- each machine has its tally, and machine k's is the next one
pub next_tallies : (f g : ℕ → Tally) (tallies : List Tally) (k : ℕ) (new : Tally) → k < length tallies
    → ((m : ℕ) → m < 256 → get_or tallies m no_tally ≡ f m) → new ≡ g k → ((m : ℕ) → m ≢ k → f m ≡ g m)
    → (m : ℕ) → m < 256 → get_or (set tallies k new) m no_tally ≡ g m
next_tallies f g tallies k new there were is others m few = by (cases_eq m k) where
  by : (m ≡ k) ⊎ (m ≡ k → ⊥) → get_or (set tallies k new) m no_tally ≡ g m
  by (inl e) = subst (λ (j : ℕ). get_or (set tallies k new) j no_tally ≡ g j) (sym e) (get_or-set_same tallies k new no_tally there ∙ is)
  by (inr ne) = get_or-set_other tallies k m new no_tally ne ∙ were m few ∙ others m ne

-- Entries

-- they are no more than all
pub few_entries : (history : List Entry) (m : ℕ) → entries_of history m ≤ length history
few_entries history m =
    let p : Entry → Bool = λ (x : Entry). x.m.0 == m in
    let is : entries_of history m ≡ count_by p history = length-filter p history in
    omega (arith, is, count_by-le-length p history)

module _ (es : List Entry) (e : Entry) where
  one_more : (m : ℕ) (b : Bool) → (e.m.0 == m) ≡ b → entries_of (es ++ e ∷ []) m ≡ entries_of es m + (if b then 1 else 0)
  one_more m b own =
      let p : Entry → Bool = λ (x : Entry). x.m.0 == m in
      ap (λ (l : List Entry). length l) (filter-append p es (e ∷ [])) ∙ length-append (filter p es) (filter p (e ∷ []))
      ∙ ap (λ (c : Bool). entries_of es m + length (if c then e ∷ [] else [])) own ∙ counts b where
        counts : (b : Bool) → entries_of es m + length (if b then e ∷ [] else []) ≡ entries_of es m + (if b then 1 else 0)
        counts true = refl
        counts false = refl

  pub counted_own : (k : ℕ) (t : Tally) → e.m.0 ≡ k → t ≡ tally_of es [] k → record t { found = t.found + 1 } ≡ tally_of (es ++ e ∷ []) [] k
  counted_own k t own was =
      ap (λ (u : Tally). record u { found = u.found + 1 }) was
      ∙ ap (λ (n : ℕ). record no_tally { found = n }) (sym (one_more k true (eq-eqb e.m.0 k own)))

  pub counted_others : (k : ℕ) → e.m.0 ≡ k → (m : ℕ) → m ≢ k → tally_of es [] m ≡ tally_of (es ++ e ∷ []) [] m
  counted_others k own m ne =
      let more : entries_of (es ++ e ∷ []) m ≡ entries_of es m + 0 = one_more m false (ne_eqb e.m.0 m (λ same. ne (sym same ∙ own))) in
      let same : entries_of es m ≡ entries_of (es ++ e ∷ []) m = omega (arith, more) in
      ap (λ (n : ℕ). record no_tally { found = n }) same

-- Logs

-- they are no more than all
pub few_logs : (logs : List PassLog) (m : ℕ) → length (logged_of logs m) ≤ length logs
few_logs logs m =
    let p : PassLog → Bool = λ (x : PassLog). x.m.0 == m in
    let all : length (logged_of logs m) ≡ length (filter p logs) = length-map (filter p logs) (λ (x : PassLog). x.calls) in
    let is : length (filter p logs) ≡ count_by p logs = length-filter p logs in
    omega (arith, all, is, count_by-le-length p logs)

module _ (history : List Entry) (logs : List PassLog) (i : ℕ) (l : PassLog) (there : i < length logs) (is : l ≡ get_or logs i l) where
  one_logged : (m : ℕ) (b : Bool) → (l.m.0 == m) ≡ b → logged_of (take (i + 1) logs) m ≡ logged_of (take i logs) m ++ map (λ (x : PassLog). x.calls) (if b then l ∷ [] else [])
  one_logged m b own =
      let p : PassLog → Bool = λ (x : PassLog). x.m.0 == m in
      let its : PassLog → ℕ = λ (x : PassLog). x.calls in
      ap (map its) (filter_more p logs i l there) ∙ map-append its (filter p (take i logs)) _
      ∙ ap (λ (x : PassLog). logged_of (take i logs) m ++ map its (if p x then x ∷ [] else [])) (sym is)
      ∙ ap (λ (c : Bool). logged_of (take i logs) m ++ map its (if c then l ∷ [] else [])) own

  -- what is counted of a machine whose logs say this
  abbrev counts : ℕ → List ℕ → Tally
  counts m said = record { found = entries_of history m; logs = length said; said = min (sum said) 18446744073709551615 }

  capped : (a c max : ℕ) → min (min a max + c) max ≡ min (a + c) max
  capped a c max = omega arith

  pub logged_own : (k : ℕ) (t : Tally) (said : ℕ) → l.m.0 ≡ k → t ≡ tally_of history (take i logs) k → said ≡ min (t.said + l.calls) 18446744073709551615
      → record t { logs = t.logs + 1; said = said } ≡ tally_of history (take (i + 1) logs) k
  logged_own k t said own was capped_to =
      let before = logged_of (take i logs) k in
      let sums : said ≡ min (sum (before ++ l.calls ∷ [])) 18446744073709551615 =
      capped_to ∙ ap (λ (u : Tally). min (u.said + l.calls) 18446744073709551615) was ∙ capped (sum before) l.calls 18446744073709551615
      ∙ ap (λ (n : ℕ). min n 18446744073709551615) (sym (sum_by_push (λ (n : ℕ). n) before l.calls)) in
      ap (λ (u : Tally). record u { logs = u.logs + 1; said = said }) was
      ∙ ap (λ (n : ℕ). record { found = entries_of history k; logs = n; said = said }) (sym (length_push before l.calls))
      ∙ ap (λ (n : ℕ). record { found = entries_of history k; logs = length (before ++ l.calls ∷ []); said = n }) sums
      ∙ ap (counts k) (sym (one_logged k true (eq-eqb l.m.0 k own)))

  pub logged_others : (k : ℕ) → l.m.0 ≡ k → (m : ℕ) → m ≢ k → tally_of history (take i logs) m ≡ tally_of history (take (i + 1) logs) m
  logged_others k own m ne =
      ap (counts m) (sym (one_logged m false (ne_eqb l.m.0 m (λ same. ne (sym same ∙ own))) ∙ append-nil (logged_of (take i logs) m)))
