-- Deadlines in order, where one is put in or taken out.
use Rattle.std.proofs.Common.{◌≡◌, ◌≢◌, ◌⊎◌, inl, inr, ◌↔◌, ℕ, ◌+◌, ◌-◌, ◌<◌, ◌≤◌, ◌==◌, ◌&&◌, ◌||◌, nat_lt, not, Bool, true, false, Some, List, length, get_or, insert, remove, Contains, refl, sym, ap, ◌∙◌, subst, arith}
use Rattle.std.proofs.lemmas.Bool.{false≢true, cases_eq, cases_lt}
use Rattle.std.proofs.lemmas.Bool.Decides.{nat_tests}
use Rattle.std.proofs.lemmas.List.{get_or_default}
use Rattle.std.proofs.lemmas.List.Edits.{length-insert, get_or-insert_below, get_or-insert_at, get_or-insert_above, length-remove, get_or-remove_below, get_or-remove_above}
use Rattle.std.specs.List.{All}
use Rattle.std.specs.List.Sorted.{IsPartitionedBy, IsPartitionPoint}
use Rattle.gmp_table.specs.declared.deadlines.Deadline.{Deadline}
use Rattle.gmp_table.specs.Due.{is_sooner, IsLatestFirst}

-- The order

sooner_chain : (a b c : Deadline) → is_sooner a b ≡ true → is_sooner b c ≡ true → is_sooner a c ≡ true
sooner_chain a b c h k = on a.rank.moment b.rank.moment c.rank.moment a.rank.arrival b.rank.arrival c.rank.arrival a.g.0 b.g.0 c.g.0 h k
  where
    on : (m n o p q r x y z : ℕ)
        → ((nat_lt m n || ((m == n) && nat_lt p q)) || (not (nat_lt n m || ((n == m) && nat_lt q p)) && nat_lt x y)) ≡ true
        → ((nat_lt n o || ((n == o) && nat_lt q r)) || (not (nat_lt o n || ((o == n) && nat_lt r q)) && nat_lt y z)) ≡ true
        → ((nat_lt m o || ((m == o) && nat_lt p r)) || (not (nat_lt o m || ((o == m) && nat_lt r p)) && nat_lt x z)) ≡ true
    on m n o p q r x y z h k = grind (arith, nat_tests)

not_sooner_itself : (a : Deadline) → is_sooner a a ≡ false
not_sooner_itself a = on a.rank.moment a.rank.arrival a.g.0
  where
    on : (m p x : ℕ) → ((nat_lt m m || ((m == m) && nat_lt p p)) || (not (nat_lt m m || ((m == m) && nat_lt p p)) && nat_lt x x)) ≡ false
    on m p x = grind (arith, nat_tests)

sooner_or_same : (a b : Deadline) → is_sooner a b ≡ false → is_sooner b a ≡ false → a ≡ b
sooner_or_same a b h k =
    let same = on a.rank.moment b.rank.moment a.rank.arrival b.rank.arrival a.g.0 b.g.0 h k in
    made a.rank.moment b.rank.moment a.rank.arrival b.rank.arrival a.g.0 b.g.0 same.0 same.1 same.2
  where
    on : (m n p q x y : ℕ)
        → ((nat_lt m n || ((m == n) && nat_lt p q)) || (not (nat_lt n m || ((n == m) && nat_lt q p)) && nat_lt x y)) ≡ false
        → ((nat_lt n m || ((n == m) && nat_lt q p)) || (not (nat_lt m n || ((m == n) && nat_lt p q)) && nat_lt y x)) ≡ false
        → (m ≡ n) × (p ≡ q) × (x ≡ y)
    on m n p q x y h k = grind (arith, nat_tests)

    made : (m n p q x y : ℕ) → m ≡ n → p ≡ q → x ≡ y
        → (let d : Deadline = record { rank = record { moment = m; arrival = p }; g = record { 0 = x } } in d)
        ≡ (let d : Deadline = record { rank = record { moment = n; arrival = q }; g = record { 0 = y } } in d)
    made m n p q x y e f g = rw (e, f, g) refl

not_both : (a b : Deadline) → is_sooner a b ≡ true → is_sooner b a ≡ false
not_both a b h = by (is_sooner b a) refl
  where
    by : (t : Bool) → is_sooner b a ≡ t → t ≡ false
    by false e = refl
    by true e = sym (sooner_chain a b a h e) ∙ not_sooner_itself a

-- The place of one among them

-- those later than x stand first
pub latest_partitioned : (x : Deadline) (list : List Deadline) → IsLatestFirst list → IsPartitionedBy (is_sooner x) list
latest_partitioned x list ordered i j d below within later = by (cases_eq i j)
  where
    by : (i ≡ j) ⊎ (i ≢ j) → is_sooner x (get_or list i d) ≡ true
    by (inl same) = subst (λ (n : ℕ). is_sooner x (get_or list n d) ≡ true) (sym same) later
    by (inr apart) = sooner_chain x (get_or list j d) (get_or list i d) later (ordered i j d (omega (arith, apart, below)) within)

abbrev pub IsPlace : Deadline → List Deadline → ℕ → Type 0
IsPlace x list i = IsPartitionPoint (λ (y : Deadline). is_sooner x y ≡ true) (λ (y : Deadline). is_sooner x y ≡ false) list i

-- one that is there stands at its place
pub found : (x : Deadline) (list : List Deadline) (i : ℕ) → IsLatestFirst list → IsPlace x list i → Contains list x → (i < length list) × (get_or list i x ≡ x)
found x list i ordered place (k, within, is) = by (cases_eq k i)
  where
    itself : (y : Deadline) → y ≡ x → is_sooner x y ≡ true → ⊥
    itself y e h = false≢true (sym (not_sooner_itself x) ∙ (ap (is_sooner x) (sym e) ∙ h))

    not_before : i ≤ k
    not_before = elim (cases_lt k i) [ inl less ↦ absurd (itself (get_or list k x) is (place.0 k x (omega arith) less)) | inr rest ↦ rest ]

    by : (k ≡ i) ⊎ (k ≢ i) → (i < length list) × (get_or list i x ≡ x)
    by (inl same) = (omega (arith, same, within), ap (λ (n : ℕ). get_or list n x) (sym same) ∙ is)
    by (inr apart) =
        let less : i < k = omega (arith, apart, not_before) in
        let sooner = ap (λ (y : Deadline). is_sooner y (get_or list i x)) (sym is) ∙ ordered i k x less within in
        absurd (false≢true (sym (place.1 i x (omega arith) (omega (arith, less, within))) ∙ sooner))

-- no two are the same
apart_in : (list : List Deadline) (i j : ℕ) (x : Deadline) → IsLatestFirst list → i < j → j < length list → get_or list i x ≡ x → get_or list j x ≡ x → ⊥
apart_in list i j x ordered less within here there =
    let sooner = ordered i j x less within in
    let itself : is_sooner x x ≡ true = rw (here, there) at sooner in
    false≢true (sym (not_sooner_itself x) ∙ itself)

-- One is put in

module _ (x : Deadline) (list : List Deadline) (i : ℕ) (fits : i ≤ length list) where
  pub ordered_inserted : IsLatestFirst list → IsPlace x list i → (Contains list x → ⊥) → IsLatestFirst (insert list i x)
  ordered_inserted ordered place new a b d less within = by (cases_lt a i) (cases_lt b i)
    where
      size : length (insert list i x) ≡ length list + 1
      size = length-insert list i x fits

      by : (a < i) ⊎ (i ≤ a) → (b < i) ⊎ (i ≤ b) → is_sooner (get_or (insert list i x) b d) (get_or (insert list i x) a d) ≡ true
      by (inl p) (inl q) = rw (get_or-insert_below list i x d a p fits, get_or-insert_below list i x d b q fits) (ordered a b d less (omega (arith, q, fits)))
      by (inl p) (inr q) = elim (cases_eq b i) [
        | inl same ↦ rw (same, get_or-insert_below list i x d a p fits, get_or-insert_at list i x d fits) (place.0 a d (omega arith) p)
        | inr apart ↦
            let e : b ≡ (b - 1) + 1 = omega (arith, apart, q, less) in
            let l : i ≤ b - 1 = omega (arith, apart, q, less) in
            subst (λ (n : ℕ). is_sooner (get_or (insert list i x) n d) (get_or (insert list i x) a d) ≡ true) (sym e)
            (rw (get_or-insert_below list i x d a p fits, get_or-insert_above list i x d (b - 1) l fits) (ordered a (b - 1) d (omega (arith, p, l)) (omega (arith, within, size, e))))
      ]
      by (inr p) (inl q) = absurd (omega (arith, p, q, less))
      by (inr p) (inr q) =
          let e : b ≡ (b - 1) + 1 = omega (arith, less) in
          let l : i ≤ b - 1 = omega (arith, p, less) in
          let w : b - 1 < length list = omega (arith, within, size, e) in
          subst (λ (n : ℕ). is_sooner (get_or (insert list i x) n d) (get_or (insert list i x) a d) ≡ true) (sym e)
          (rw (get_or-insert_above list i x d (b - 1) l fits) (elim (cases_eq a i) [
            | inl same ↦ rw (same, get_or-insert_at list i x d fits) (sooner (b - 1) l w)
            | inr apart ↦
                let f : a ≡ (a - 1) + 1 = omega (arith, apart, p) in
                let m : i ≤ a - 1 = omega (arith, apart, p) in
                subst (λ (n : ℕ). is_sooner (get_or list (b - 1) d) (get_or (insert list i x) n d) ≡ true) (sym f)
                (rw (get_or-insert_above list i x d (a - 1) m fits) (ordered (a - 1) (b - 1) d (omega (arith, f, e, less)) w))
          ]))
        where
          sooner : (k : ℕ) → i ≤ k → k < length list → is_sooner (get_or list k d) x ≡ true
          sooner k from w = tested (is_sooner (get_or list k d) x) refl
            where
              tested : (t : Bool) → is_sooner (get_or list k d) x ≡ t → t ≡ true
              tested true e = refl
              tested false e =
                  let same : x ≡ get_or list k d = sooner_or_same x (get_or list k d) (place.1 k d from w) e in
                  absurd (new (k, w, get_or_default list k x d w ∙ sym same))

  pub contains_inserted : (d : Deadline) → Contains (insert list i x) d ↔ ((Some x ≡ Some d) ⊎ Contains list d)
  contains_inserted d = (into, out)
    where
      size : length (insert list i x) ≡ length list + 1
      size = length-insert list i x fits

      into : Contains (insert list i x) d → (Some x ≡ Some d) ⊎ Contains list d
      into (k, within, is) = elim (cases_lt k i) [
        | inl less ↦ inr (k, omega (arith, less, fits), sym (get_or-insert_below list i x d k less fits) ∙ is)
        | inr more ↦ elim (cases_eq k i) [
          | inl same ↦ inl (ap (λ (y : Deadline). Some y) (sym (get_or-insert_at list i x d fits) ∙ (ap (λ (n : ℕ). get_or (insert list i x) n d) (sym same) ∙ is)))
          | inr apart ↦
              let e : k ≡ (k - 1) + 1 = omega (arith, apart, more) in
              inr (k - 1, omega (arith, within, size, e), sym (get_or-insert_above list i x d (k - 1) (omega (arith, apart, more)) fits) ∙ (ap (λ (n : ℕ). get_or (insert list i x) n d) (sym e) ∙ is))
        ]
      ]

      out : (Some x ≡ Some d) ⊎ Contains list d → Contains (insert list i x) d
      out (inl same) = let e : x ≡ d = cc in (i, omega (arith, size, fits), get_or-insert_at list i x d fits ∙ e)
      out (inr (k, within, is)) = elim (cases_lt k i) [
        | inl less ↦ (k, omega (arith, within, size), get_or-insert_below list i x d k less fits ∙ is)
        | inr more ↦ (k + 1, omega (arith, within, size), get_or-insert_above list i x d k more fits ∙ is)
      ]

-- One is taken out

pub contains_removed : (x : Deadline) (list : List Deadline) (i : ℕ) → IsLatestFirst list → i < length list → get_or list i x ≡ x
    → (d : Deadline) → Contains (remove list i) d ↔ (Contains list d × (Some x ≢ Some d))
contains_removed x list i ordered fits at d = (into, out)
  where
    size : length (remove list i) + 1 ≡ length list
    size = length-remove list i fits

    here : get_or list i d ≡ x
    here = get_or_default list i d x fits ∙ at

    other : (k : ℕ) → k < length list → k ≢ i → get_or list k d ≡ d → Some x ≢ Some d
    other k within apart is same =
        let e : x ≡ d = cc in
        elim (cases_lt k i) [
          | inl less ↦ apart_in list k i d ordered less fits is (here ∙ e)
          | inr more ↦ apart_in list i k d ordered (omega (arith, apart, more)) within (here ∙ e) is
        ]

    into : Contains (remove list i) d → Contains list d × (Some x ≢ Some d)
    into (k, within, is) = elim (cases_lt k i) [
      | inl less ↦
          let e = sym (get_or-remove_below list i d k less fits) ∙ is in
          let w : k < length list = omega (arith, less, fits) in
          ((k, w, e), other k w (λ same. omega (arith, same, less)) e)
      | inr more ↦
          let e = sym (get_or-remove_above list i d k more fits) ∙ is in
          let w : k + 1 < length list = omega (arith, within, size) in
          ((k + 1, w, e), other (k + 1) w (λ same. omega (arith, same, more)) e)
    ]

    out : Contains list d × (Some x ≢ Some d) → Contains (remove list i) d
    out ((k, within, is), apart) = elim (cases_lt k i) [
      | inl less ↦ (k, omega (arith, less, size, fits), get_or-remove_below list i d k less fits ∙ is)
      | inr more ↦ elim (cases_eq k i) [
        | inl same ↦ absurd (apart (ap (λ (y : Deadline). Some y) (sym here ∙ (ap (λ (n : ℕ). get_or list n d) (sym same) ∙ is))))
        | inr differ ↦
            let e : k ≡ (k - 1) + 1 = omega (arith, differ, more) in
            (k - 1, omega (arith, within, size, e), get_or-remove_above list i d (k - 1) (omega (arith, differ, more)) fits ∙ (ap (λ (n : ℕ). get_or list n d) (sym e) ∙ is))
      ]
    ]

-- The least

-- none is sooner than the last
pub last_least : (list : List Deadline) (x : Deadline) → IsLatestFirst list → x ≡ get_or list (length list - 1) x → All (λ (y : Deadline). is_sooner y x ≡ false) list
last_least list x ordered is k d within = by (cases_eq k (length list - 1))
  where
    there : get_or list (length list - 1) d ≡ x
    there = get_or_default list (length list - 1) d x (omega (arith, within)) ∙ sym is

    by : (k ≡ length list - 1) ⊎ (k ≢ length list - 1) → is_sooner (get_or list k d) x ≡ false
    by (inl same) = ap (λ (y : Deadline). is_sooner y x) (ap (λ (n : ℕ). get_or list n d) same ∙ there) ∙ not_sooner_itself x
    by (inr apart) =
        let sooner = ordered k (length list - 1) d (omega (arith, apart, within)) (omega (arith, within)) in
        not_both x (get_or list k d) (ap (λ (y : Deadline). is_sooner y (get_or list k d)) (sym there) ∙ sooner)
