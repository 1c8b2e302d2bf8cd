-- How many tickets a machine claims while a ticket waits in a line.
use Rattle.std.proofs.Common.{◌≡◌, ◌⊎◌, inl, inr, ℕ, suc, ◌+◌, ◌*◌, ◌≤◌, Bool, true, false, if◌then◌else◌, is_some, refl, sym, ap, subst, ◌∙◌, arith, Option, None, Some}
use Rattle.std.proofs.Math.Nat.{mul-suc}
use Rattle.std.proofs.lemmas.Bool.{cases_eq, false≢true}
use Rattle.gmp_base.specs.declared.number.MNo.{MNo}
use Rattle.gmp_base.specs.declared.number.PNo.{PNo}
use Rattle.gmp_base.specs.declared.pass.Pass.{Pass}
use Rattle.gmp_driver.specs.declared.act.Told.{Told}
use Rattle.gmp_driver.specs.declared.place.Aside.{Aside}
use Rattle.gmp_driver.specs.declared.place.Aside.TheVariants as looks
use Rattle.gmp_driver.specs.declared.place.Place.{Place}
use Rattle.gmp_driver.specs.declared.place.Place.TheVariants as place
use Rattle.gmp_driver.specs.Seen.{seen}
use Rattle.gmp_driver.specs.Table.{after, turned}
use Rattle.gmp_acts.specs.Hands.{PlainHand, PlainMachine}
use Rattle.gmp_acts.specs.System.{System, machine_at}
use Rattle.gmp_fair.specs.Fair.{IsSteady, IsWithin, claims_of}
use Rattle.gmp_fair.proofs.Shapes.{Rests, Shape, Tells, same_number}
use Rattle.gmp_fair.proofs.Weights.{Begins, base, claimed, high, is_at, weighs, weight, within_turned}

-- no claim is made at a line
at_no_claim : (here : Place) (line : Option PNo) (what : Told) → is_at here line ≡ true → claimed here what ≡ 0
at_no_claim place.Claim line what e = absurd (false≢true e)
at_no_claim here line what e = refl

-- A line: what is counted of each look aside, and what all together are

module _ (line : Option PNo) (full procs : ℕ) (done : Option Aside → ℕ)
    (few : (a : Option Aside) → IsWithin procs a → is_some a ≡ true → done a + 16 ≤ full) (begins : (a : Option Aside) → IsWithin procs a → is_some a ≡ true → Begins line full done procs a) where
  abbrev pub of : PlainMachine → ℕ
  of x = weight line full done x.place x.turns x.aside

  -- claims, what the place in the line costs, and how far the machine has come
  abbrev pub Counts : System → System → MNo → ℕ → ℕ → Type 0
  Counts k k' m j i = claims_of k' m + full * suc i + of (machine_at k m) ≤ claims_of k m + full * suc j + of (machine_at k' m)

  -- it stands where it stood, or one nearer
  abbrev pub Comes : ℕ → ℕ → Type 0
  Comes j i = (j ≡ i) ⊎ (j ≡ suc i)

  costs : (j i : ℕ) → Comes j i → full * suc i ≤ full * suc j
  costs j i (inl same) = (let e : full * suc j ≡ full * suc i = ap (λ (n : ℕ). full * suc n) same in omega (arith, e))
  costs j i (inr one) = (let e : full * suc j ≡ full * suc (suc i) = ap (λ (n : ℕ). full * suc n) one in let p = mul-suc full (suc i) in omega (arith, e, p))

  costs_one : (j i : ℕ) → j ≡ suc i → full * suc j ≡ full * suc i + full
  costs_one j i one = ap (λ (n : ℕ). full * suc n) one ∙ mul-suc full (suc i)

  pub rest_counts : (k k' : System) (m : MNo) (j i : ℕ) → Rests k m k' → Comes j i → Counts k k' m j i
  rest_counts k k' m j i r come =
      let w : of (machine_at k' m) ≡ of (machine_at k m) = ap of r.now in
      let c = r.claims in
      let p = costs j i come in
      omega (arith, w, c, p)

  -- away from the line, where the machine has its 16 claims
  told_counts : (x : PlainMachine) (pass : Option Pass) (hand : PlainHand) (what : Told) → IsSteady x → x.procs ≡ procs → x.turns ≤ 16 → is_at x.place line ≡ false
      → of x + claimed x.place what ≤ of (after (record x { pass = pass; hand = hand }) what)
  told_counts x pass hand what s same turns away =
      let within : IsWithin procs x.aside = subst (λ (n : ℕ). IsWithin n x.aside) same s.within in
      let a = few x.aside within s.fair in
      let b : Begins line full done x.procs x.aside = subst (λ (n : ℕ). Begins line full done n x.aside) (sym same) (begins x.aside within s.fair) in
      let c : done (turned x.procs x.aside) + 16 ≤ full = subst (λ (n : ℕ). done (turned n x.aside) + 16 ≤ full) (sym same) (few (turned procs x.aside) (within_turned procs x.aside within) (fair_turned x.aside s.fair)) in
      let goes = weighs line full done (seen (record x { pass = pass; hand = hand })) s.fair turns a b c x.place what s.left in
      let here : of x ≡ base x.place x.turns (done x.aside) full = ap (λ (b : Bool). if b then full else base x.place x.turns (done x.aside) full) away in
      omega (arith, goes, here)
    where
      fair_turned : (a : Option Aside) → is_some a ≡ true → is_some (turned procs a) ≡ true
      fair_turned None f = absurd (false≢true f)
      fair_turned (Some (looks.Shelf v)) f = refl
      fair_turned (Some (looks.Queue v)) f = refl

  -- at the line: the first of it left, or the machine has still come all the way
  abbrev pub AtLine : System → System → MNo → ℕ → ℕ → Type 0
  AtLine k k' m j i = is_at (machine_at k m).place line ≡ true → (j ≡ suc i) ⊎ (of (machine_at k' m) ≡ full)

  tell_counts : (k k' : System) (m : MNo) (j i : ℕ) → Tells k m k' → IsSteady (machine_at k m) → (machine_at k m).procs ≡ procs → (machine_at k m).turns ≤ 16 → Comes j i → AtLine k k' m j i → Counts k k' m j i
  tell_counts k k' m j i t s same turns come at = by (is_at (machine_at k m).place line) refl where
    by : (b : Bool) → is_at (machine_at k m).place line ≡ b → Counts k k' m j i
    by false away =
        let goes = told_counts (machine_at k m) t.pass t.hand t.what s same turns away in
        let now : of (machine_at k' m) ≡ of (after (record (machine_at k m) { pass = t.pass; hand = t.hand }) t.what) = ap of t.now in
        let c = t.claims in
        let p = costs j i come in
        omega (arith, goes, now, c, p)
    by true there =
        let here : of (machine_at k m) ≡ full = ap (λ (b : Bool). if b then full else base (machine_at k m).place (machine_at k m).turns (done (machine_at k m).aside) full) there in
        let none = at_no_claim (machine_at k m).place line t.what there in
        let c = t.claims in
        elim (at there) [
          | inl one ↦ (let p = costs_one j i one in omega (arith, here, none, c, p))
          | inr all ↦ (let p = costs j i come in omega (arith, here, none, c, p, all))
        ]

  -- one act of any machine
  pub act_counts : (k : System) (n : MNo) (k' : System) (m : MNo) (j i : ℕ) → Shape k n k' → IsSteady (machine_at k m) → (machine_at k m).procs ≡ procs → (machine_at k m).turns ≤ 16
      → Comes j i → (n ≡ m → AtLine k k' m j i) → Counts k k' m j i
  act_counts k n k' m j i h s same turns come at = elim (cases_eq m.0 n.0) [
    | inl e ↦ by_own (same_number m n e) (subst (λ (q : MNo). Tells k q k' ⊎ Rests k q k') (sym (same_number m n e)) h.own)
    | inr other ↦ rest_counts k k' m j i (h.others m (λ e. other (ap (λ (q : MNo). q.0) e))) come
  ] where
    by_own : m ≡ n → Tells k m k' ⊎ Rests k m k' → Counts k k' m j i
    by_own e (inl t) = tell_counts k k' m j i t s same turns come (at (sym e))
    by_own e (inr r) = rest_counts k k' m j i r come

  -- acts in a row
  pub adds : (k mid k' : System) (m : MNo) (j i h : ℕ) → Counts k mid m j i → Counts mid k' m i h → Counts k k' m j h
  adds k mid k' m j i h a b = omega (arith, a, b)

  pub none_yet : (k k' : System) (m : MNo) (j : ℕ) → k' ≡ k → Counts k k' m j j
  none_yet k k' m j same = subst (λ (e : System). Counts k e m j j) (sym same) (omega arith)

  -- at the end
  pub bound : (k k' : System) (m : MNo) (j i : ℕ) → IsSteady (machine_at k' m) → (machine_at k' m).procs ≡ procs → (machine_at k' m).turns ≤ 16 → Counts k k' m j i → claims_of k' m ≤ claims_of k m + full * suc j
  bound k k' m j i s same turns c =
      let within : IsWithin procs (machine_at k' m).aside = subst (λ (n : ℕ). IsWithin n (machine_at k' m).aside) same s.within in
      let most = high line full done (machine_at k' m).place (machine_at k' m).turns (machine_at k' m).aside turns (few (machine_at k' m).aside within s.fair) in
      let p = mul-suc full i in
      omega (arith, c, most, p)

  pub of_most : (x : PlainMachine) → IsSteady x → x.procs ≡ procs → x.turns ≤ 16 → of x ≤ full
  of_most x s same turns =
      let within : IsWithin procs x.aside = subst (λ (n : ℕ). IsWithin n x.aside) same s.within in
      high line full done x.place x.turns x.aside turns (few x.aside within s.fair)

  -- whatever becomes of the line: by one act a machine claims no more than it may before it looks there
  pub leaves_counts : (k : System) (n : MNo) (k' : System) (m : MNo) → Shape k n k' → IsSteady (machine_at k m) → (machine_at k m).procs ≡ procs → (machine_at k m).turns ≤ 16
      → IsSteady (machine_at k' m) → (machine_at k' m).procs ≡ procs → (machine_at k' m).turns ≤ 16 → claims_of k' m + of (machine_at k m) ≤ claims_of k m + full
  leaves_counts k n k' m h s same turns s' same' turns' = elim (cases_eq m.0 n.0) [
    | inl e ↦ by_own (subst (λ (q : MNo). Tells k q k' ⊎ Rests k q k') (sym (same_number m n e)) h.own)
    | inr other ↦ rests (h.others m (λ e. other (ap (λ (q : MNo). q.0) e)))
  ] where
    most : of (machine_at k m) ≤ full
    most = of_most (machine_at k m) s same turns

    rests : Rests k m k' → claims_of k' m + of (machine_at k m) ≤ claims_of k m + full
    rests r = (let c = r.claims in let w = most in omega (arith, c, w))

    by_own : Tells k m k' ⊎ Rests k m k' → claims_of k' m + of (machine_at k m) ≤ claims_of k m + full
    by_own (inr r) = rests r
    by_own (inl t) = by (is_at (machine_at k m).place line) refl where
      by : (b : Bool) → is_at (machine_at k m).place line ≡ b → claims_of k' m + of (machine_at k m) ≤ claims_of k m + full
      by true there = (let none = at_no_claim (machine_at k m).place line t.what there in let c = t.claims in let w = most in omega (arith, none, c, w))
      by false away =
          let goes = told_counts (machine_at k m) t.pass t.hand t.what s same turns away in
          let now : of (machine_at k' m) ≡ of (after (record (machine_at k m) { pass = t.pass; hand = t.hand }) t.what) = ap of t.now in
          let w = of_most (machine_at k' m) s' same' turns' in
          let c = t.claims in
          omega (arith, goes, now, w, c)
