-- The order of those who wait, where a cell is filled or emptied, and who is first.
use Rattle.std.proofs.Common.{◌≡◌, ◌≢◌, inl, inr, ℕ, zero, suc, ◌<◌, ◌≤◌, ◌&&◌, leb, Bool, true, false, cond, Option, Some, None, List, [], ◌∷◌, ◌++◌, length, get_or, filter, count_by, is_some, slice_get, map, refl, sym, ap, ◌∙◌, subst, arith}
use Rattle.std.proofs.lemmas.Bool.Decides.{leb_tells}
use Rattle.std.proofs.lemmas.List.Sums.{sum_by-cons}
use Rattle.gmp_seq.specs.declared.status.Waiter.{Waiter}
use Rattle.std.specs.List.{list_all}
use Rattle.gmp_chan.specs.Slots.{insert, in_order, rank}

abbrev pub Every : (Waiter → Type 0) → List Waiter → Type 0
Every P [] = Unit {0}
Every P (x ∷ xs) = P x × Every P xs

-- How an insertion goes

abbrev Goes : Waiter → Waiter → Bool → Type 0
Goes x y true = rank x ≤ rank y
Goes x y false = rank y < rank x

goes : (x y : Waiter) → Goes x y (leb (rank x) (rank y))
goes x y = elim (leb_tells (rank x) (rank y)) [ inl h ↦ subst (Goes x y) (sym h.0) h.1 | inr h ↦ subst (Goes x y) (sym h.0) h.1 ]

insert_here : (x y : Waiter) (ys : List Waiter) → rank x ≤ rank y → insert x (y ∷ ys) ≡ x ∷ y ∷ ys
insert_here x y ys h = by (leb (rank x) (rank y)) (goes x y)
  where
    by : (b : Bool) → Goes x y b → cond b (x ∷ y ∷ ys) (y ∷ insert x ys) ≡ x ∷ y ∷ ys
    by true g = refl
    by false g = absurd (omega (arith, g, h))

insert_later : (x y : Waiter) (ys : List Waiter) → rank y < rank x → insert x (y ∷ ys) ≡ y ∷ insert x ys
insert_later x y ys h = by (leb (rank x) (rank y)) (goes x y)
  where
    by : (b : Bool) → Goes x y b → cond b (x ∷ y ∷ ys) (y ∷ insert x ys) ≡ y ∷ insert x ys
    by true g = absurd (omega (arith, g, h))
    by false g = refl

insert_first : (x : Waiter) (l : List Waiter) → Every (λ y. rank x ≤ rank y) l → insert x l ≡ x ∷ l
insert_first x [] h = refl
insert_first x (y ∷ ys) (here, rest) = insert_here x y ys here

insert_last : (x : Waiter) (l : List Waiter) → Every (λ y. rank y < rank x) l → insert x l ≡ l ++ x ∷ []
insert_last x [] h = refl
insert_last x (y ∷ ys) (here, rest) = insert_later x y ys here ∙ ap (λ (l : List Waiter). y ∷ l) (insert_last x ys rest)

insert_before : (x w : Waiter) (l : List Waiter) → rank x ≤ rank w → insert x (l ++ w ∷ []) ≡ insert x l ++ w ∷ []
insert_before x w [] h = insert_here x w [] h
insert_before x w (y ∷ ys) h = by (leb (rank x) (rank y)) (insert_before x w ys h)
  where
    by : (b : Bool) → insert x (ys ++ w ∷ []) ≡ insert x ys ++ w ∷ [] → cond b (x ∷ y ∷ (ys ++ w ∷ [])) (y ∷ insert x (ys ++ w ∷ [])) ≡ cond b (x ∷ y ∷ ys) (y ∷ insert x ys) ++ w ∷ []
    by true deeper = refl
    by false deeper = ap (λ (l : List Waiter). y ∷ l) deeper

every_insert : (P : Waiter → Type 0) (x : Waiter) (l : List Waiter) → P x → Every P l → Every P (insert x l)
every_insert P x [] p h = (p, tt)
every_insert P x (y ∷ ys) p (here, rest) = by (leb (rank x) (rank y)) (every_insert P x ys p rest)
  where
    by : (b : Bool) → Every P (insert x ys) → Every P (cond b (x ∷ y ∷ ys) (y ∷ insert x ys))
    by true deeper = (p, (here, rest))
    by false deeper = (here, deeper)

of_insert : (P : Waiter → Type 0) (x : Waiter) (l : List Waiter) → Every P (insert x l) → P x × Every P l
of_insert P x [] h = h
of_insert P x (y ∷ ys) h = by (leb (rank x) (rank y)) (of_insert P x ys) h
  where
    by : (b : Bool) → (Every P (insert x ys) → P x × Every P ys) → Every P (cond b (x ∷ y ∷ ys) (y ∷ insert x ys)) → P x × Every P (y ∷ ys)
    by true deeper (p, rest) = (p, rest)
    by false deeper (here, rest) = let r = deeper rest in (r.0, (here, r.1))

-- What holds of each cell holds of each in order, and back

abbrev pub Cells : Type 0
Cells = List (Option Waiter)

pub within_some : (cells : Cells) (k : ℕ) (x : Waiter) → get_or cells k None ≡ Some x → k < length cells
within_some [] k x is = absurd cc
within_some (y ∷ cells) zero x is = omega arith
within_some (y ∷ cells) (suc k) x is = let r = within_some cells k x is in omega arith

pub every_of : (P : Waiter → Type 0) (cells : Cells) → ((i : ℕ) (x : Waiter) → get_or cells i None ≡ Some x → P x) → Every P (in_order cells)
every_of P [] h = tt
every_of P (None ∷ cells) h = every_of P cells (λ i. h (suc i))
every_of P (Some x ∷ cells) h = every_insert P x (in_order cells) (h 0 x refl) (every_of P cells (λ i. h (suc i)))

pub of_every : (P : Waiter → Type 0) (cells : Cells) → Every P (in_order cells) → (i : ℕ) (x : Waiter) → get_or cells i None ≡ Some x → P x
of_every P [] h i x is = absurd cc
of_every P (None ∷ cells) h zero x is = absurd cc
of_every P (None ∷ cells) h (suc i) x is = of_every P cells h i x is
of_every P (Some y ∷ cells) h zero x is = let same : y ≡ x = cc in subst P same (of_insert P y (in_order cells) h).0
of_every P (Some y ∷ cells) h (suc i) x is = of_every P cells (of_insert P y (in_order cells) h).1 i x is

-- all in the slots rank below n, where all that they are in order do
pub below_of : (cells : Cells) (l : List Waiter) (n : ℕ) → in_order cells ≡ l → Every (λ x. rank x < n) l → (k : ℕ) (x : Waiter) → get_or cells k None ≡ Some x → rank x < n
below_of cells l n is lower = of_every _ cells (subst (Every (λ x. rank x < n)) (sym is) lower)

list_all-insert : (p : Waiter → Bool) (x : Waiter) (l : List Waiter) → list_all p (insert x l) ≡ p x && list_all p l
list_all-insert p x [] = refl
list_all-insert p x (y ∷ ys) = by (leb (rank x) (rank y)) (list_all-insert p x ys)
  where
    swap : (a b c : Bool) → a && (b && c) ≡ b && (a && c)
    swap true b c = refl
    swap false true c = refl
    swap false false c = refl

    by : (b : Bool) → list_all p (insert x ys) ≡ p x && list_all p ys → list_all p (cond b (x ∷ y ∷ ys) (y ∷ insert x ys)) ≡ p x && (p y && list_all p ys)
    by true deeper = refl
    by false deeper = ap (λ (b : Bool). p y && b) deeper ∙ swap (p y) (p x) (list_all p ys)

-- the cell is vacant, or who is in it passes
abbrev pub vacant_or : (Waiter → Bool) → Option Waiter → Bool
vacant_or p None = true
vacant_or p (Some w) = p w

-- each cell is passed by exactly where each in order is
pub list_all-in_order : (p : Waiter → Bool) (cells : Cells) → list_all (vacant_or p) cells ≡ list_all p (in_order cells)
list_all-in_order p [] = refl
list_all-in_order p (None ∷ cells) = list_all-in_order p cells
list_all-in_order p (Some x ∷ cells) = ap (λ (b : Bool). p x && b) (list_all-in_order p cells) ∙ sym (list_all-insert p x (in_order cells))

-- A slot is filled by one that ranks above all

pub same_order : (a b : Cells) → ((k : ℕ) → get_or a k None ≡ get_or b k None) → in_order a ≡ in_order b
same_order [] [] same = refl
same_order [] (y ∷ b) same = (let here : y ≡ None = sym (same 0) in same_order [] b (λ k. same (suc k)) ∙ ap (λ (z : Option Waiter). in_order (z ∷ b)) (sym here))
same_order (x ∷ a) [] same = (let here : x ≡ None = same 0 in ap (λ (z : Option Waiter). in_order (z ∷ a)) here ∙ same_order a [] (λ k. same (suc k)))
same_order (None ∷ a) (y ∷ b) same = same_order a b (λ k. same (suc k)) ∙ ap (λ (z : Option Waiter). in_order (z ∷ b)) (same 0)
same_order (Some x ∷ a) (y ∷ b) same = ap (insert x) (same_order a b (λ k. same (suc k))) ∙ ap (λ (z : Option Waiter). in_order (z ∷ b)) (same 0)

pub filled_last : (old now : Cells) (i : ℕ) (w : Waiter) → get_or old i None ≡ None → get_or now i None ≡ Some w → ((k : ℕ) → k ≢ i → get_or now k None ≡ get_or old k None)
    → ((k : ℕ) (x : Waiter) → get_or old k None ≡ Some x → rank x < rank w) → in_order now ≡ in_order old ++ w ∷ []
filled_last old [] i w vacant filled others last = absurd cc
filled_last [] (y ∷ now) zero w vacant filled others last =
    ap (λ (z : Option Waiter). in_order (z ∷ now)) filled ∙ ap (insert w) (same_order now [] (λ k. others (suc k) (λ e. omega (arith, e))))
filled_last [] (y ∷ now) (suc i) w vacant filled others last =
    ap (λ (z : Option Waiter). in_order (z ∷ now)) (others 0 (λ e. omega (arith, e))) ∙ filled_last [] now i w refl filled (λ k e. others (suc k) (λ s. e (omega (arith, s)))) (λ k x is. absurd cc)
filled_last (c ∷ old) (y ∷ now) zero w vacant filled others last =
    ap (λ (z : Option Waiter). in_order (z ∷ now)) filled
    ∙ (ap (insert w) (same_order now old (λ k. others (suc k) (λ e. omega (arith, e)))) ∙ (insert_last w (in_order old) (every_of _ old (λ k x is. last (suc k) x is)) ∙ ap (λ (z : Option Waiter). in_order (z ∷ old) ++ w ∷ []) (sym vacant)))
filled_last (c ∷ old) (y ∷ now) (suc i) w vacant filled others last = ap (λ (z : Option Waiter). in_order (z ∷ now)) (others 0 (λ e. omega (arith, e))) ∙ by c last (filled_last old now i w vacant filled (λ k e. others (suc k) (λ s. e (omega (arith, s)))) (λ k x is. last (suc k) x is))
  where
    by : (c : Option Waiter) → ((k : ℕ) (x : Waiter) → get_or (c ∷ old) k None ≡ Some x → rank x < rank w) → in_order now ≡ in_order old ++ w ∷ [] → in_order (c ∷ now) ≡ in_order (c ∷ old) ++ w ∷ []
    by None last deeper = deeper
    by (Some x) last deeper = ap (insert x) deeper ∙ insert_before x w (in_order old) (omega (arith, last 0 x refl))

-- How many there are

length-insert : (x : Waiter) (l : List Waiter) → length (insert x l) ≡ suc (length l)
length-insert x [] = refl
length-insert x (y ∷ ys) = by (leb (rank x) (rank y)) (length-insert x ys)
  where
    by : (b : Bool) → length (insert x ys) ≡ suc (length ys) → length (cond b (x ∷ y ∷ ys) (y ∷ insert x ys)) ≡ suc (suc (length ys))
    by true deeper = refl
    by false deeper = ap suc deeper

pub length-in_order : (cells : Cells) → count_by is_some cells ≡ length (in_order cells)
length-in_order [] = refl
length-in_order (None ∷ cells) =
    let deeper = length-in_order cells in
    let parts = sum_by-cons (λ (z : Option Waiter). cond (is_some z) 1 0) None cells in
    omega (arith, parts, deeper)
length-in_order (Some x ∷ cells) =
    let deeper = length-in_order cells in
    let parts = sum_by-cons (λ (z : Option Waiter). cond (is_some z) 1 0) (Some x) cells in
    let longer = length-insert x (in_order cells) in
    omega (arith, parts, deeper, longer)

-- Some cells are emptied

abbrev pub keep : (Waiter → Bool) → Option Waiter → Option Waiter
keep p None = None
keep p (Some x) = cond (p x) (Some x) None

abbrev Rises : List Waiter → Type 0
Rises [] = Unit {0}
Rises (x ∷ xs) = Every (λ y. rank x ≤ rank y) xs × Rises xs

pub every_more : (P Q : Waiter → Type 0) (l : List Waiter) → ((x : Waiter) → P x → Q x) → Every P l → Every Q l
every_more P Q [] h e = tt
every_more P Q (x ∷ l) h (here, rest) = (h x here, every_more P Q l h rest)

every_filter : (P : Waiter → Type 0) (p : Waiter → Bool) (l : List Waiter) → Every P l → Every P (filter p l)
every_filter P p [] h = tt
every_filter P p (x ∷ l) (here, rest) = by (p x) (every_filter P p l rest)
  where
    by : (b : Bool) → Every P (filter p l) → Every P (cond b (x ∷ filter p l) (filter p l))
    by true deeper = (here, deeper)
    by false deeper = deeper

rises_insert : (x : Waiter) (l : List Waiter) → Rises l → Rises (insert x l)
rises_insert x [] r = (tt, tt)
rises_insert x (y ∷ ys) (here, rest) = by (leb (rank x) (rank y)) (goes x y) (rises_insert x ys rest)
  where
    by : (b : Bool) → Goes x y b → Rises (insert x ys) → Rises (cond b (x ∷ y ∷ ys) (y ∷ insert x ys))
    by true g deeper = ((g, every_more _ _ ys (λ z h. omega (arith, g, h)) here), (here, rest))
    by false g deeper = (every_insert _ x ys (omega (arith, g)) here, deeper)

rises_in_order : (cells : Cells) → Rises (in_order cells)
rises_in_order [] = tt
rises_in_order (None ∷ cells) = rises_in_order cells
rises_in_order (Some x ∷ cells) = rises_insert x (in_order cells) (rises_in_order cells)

filter_insert : (p : Waiter → Bool) (x : Waiter) (l : List Waiter) → Rises l → filter p (insert x l) ≡ cond (p x) (insert x (filter p l)) (filter p l)
filter_insert p x [] r = by (p x)
  where
    by : (b : Bool) → cond b (x ∷ []) [] ≡ cond b (x ∷ []) []
    by b = refl
filter_insert p x (y ∷ ys) (here, rest) = by (leb (rank x) (rank y)) (goes x y) (filter_insert p x ys rest)
  where
    later : (b c : Bool) → rank y < rank x
        → cond c (y ∷ cond b (insert x (filter p ys)) (filter p ys)) (cond b (insert x (filter p ys)) (filter p ys)) ≡ cond b (insert x (cond c (y ∷ filter p ys) (filter p ys))) (cond c (y ∷ filter p ys) (filter p ys))
    later true true g = sym (insert_later x y (filter p ys) g)
    later true false g = refl
    later false c g = refl

    by : (b : Bool) → Goes x y b → filter p (insert x ys) ≡ cond (p x) (insert x (filter p ys)) (filter p ys)
        → filter p (cond b (x ∷ y ∷ ys) (y ∷ insert x ys)) ≡ cond (p x) (insert x (filter p (y ∷ ys))) (filter p (y ∷ ys))
    by true g deeper = ap (λ (l : List Waiter). cond (p x) l (filter p (y ∷ ys))) (sym (insert_first x (filter p (y ∷ ys)) (every_filter _ p (y ∷ ys) (g, every_more _ _ ys (λ z h. omega (arith, g, h)) here))))
    by false g deeper = ap (λ (l : List Waiter). cond (p y) (y ∷ l) l) deeper ∙ later (p x) (p y) g

-- the cells that pass are left, and the others are vacant
pub emptied : (p : Waiter → Bool) (cells now : Cells) → length now ≡ length cells
    → ((i : ℕ) → get_or now i None ≡ keep p (get_or cells i None)) → in_order now ≡ filter p (in_order cells)
emptied p [] [] same h = refl
emptied p [] (y ∷ now) same h = absurd (omega (arith, same))
emptied p (x ∷ cells) [] same h = absurd (omega (arith, same))
emptied p (None ∷ cells) (y ∷ now) same h =
    let here : y ≡ None = h 0 in
    ap (λ (z : Option Waiter). in_order (z ∷ now)) here ∙ emptied p cells now (omega arith) (λ i. h (suc i))
emptied p (Some x ∷ cells) (y ∷ now) same h =
    ap (λ (z : Option Waiter). in_order (z ∷ now)) (h 0) ∙ (by (p x) (emptied p cells now (omega arith) (λ i. h (suc i))) ∙ sym (filter_insert p x (in_order cells) (rises_in_order cells)))
  where
    by : (b : Bool) → in_order now ≡ filter p (in_order cells) → in_order (cond b (Some x) None ∷ now) ≡ cond b (insert x (filter p (in_order cells))) (filter p (in_order cells))
    by true rest = ap (insert x) rest
    by false rest = rest

-- Who is first

least : (cells : Cells) (h : ℕ) (w : Waiter) → get_or cells h None ≡ Some w
    → ((k : ℕ) (x : Waiter) → get_or cells k None ≡ Some x → (rank w ≤ rank x) × (k < h → rank w < rank x))
    → slice_get (in_order cells) 0 ≡ Some w
least [] h w is low = absurd cc
least (None ∷ cells) zero w is low = absurd cc
least (Some x ∷ cells) zero w is low =
    let same : x ≡ w = cc in
    ap (λ (l : List Waiter). slice_get l 0) (insert_first x (in_order cells) (every_of _ cells (λ k y at. omega (arith, ap rank same, (low (suc k) y at).0)))) ∙ ap (λ (z : Waiter). Some z) same
least (None ∷ cells) (suc h) w is low = least cells h w is (λ k x at. ((low (suc k) x at).0, λ b. (low (suc k) x at).1 (omega arith)))
least (Some y ∷ cells) (suc h) w is low =
    after (in_order cells) (least cells h w is (λ k x at. ((low (suc k) x at).0, λ b. (low (suc k) x at).1 (omega arith)))) ((low 0 y refl).1 (omega arith))
  where
    after : (l : List Waiter) → slice_get l 0 ≡ Some w → rank w < rank y → slice_get (insert y l) 0 ≡ Some w
    after [] f b = absurd cc
    after (z ∷ zs) f b =
        let same : z ≡ w = cc in
        ap (λ (l : List Waiter). slice_get l 0) (insert_later y z zs (omega (arith, ap rank same))) ∙ f

kept_some : (p : Waiter → Bool) (c : Option Waiter) (x : Waiter) → keep p c ≡ Some x → (c ≡ Some x) × (p x ≡ true)
kept_some p None x is = absurd cc
kept_some p (Some y) x is = by (p y) refl is
  where
    by : (b : Bool) → p y ≡ b → cond b (Some y) None ≡ Some x → (Some y ≡ Some x) × (p x ≡ true)
    by true passes same = (same, (let e : y ≡ x = cc in subst (λ (z : Waiter). p z ≡ true) e passes))
    by false passes same = absurd cc

get_or-kept : (p : Waiter → Bool) (cells : Cells) (i : ℕ) → get_or (map (keep p) cells) i None ≡ keep p (get_or cells i None)
get_or-kept p [] i = refl
get_or-kept p (x ∷ cells) zero = refl
get_or-kept p (x ∷ cells) (suc i) = get_or-kept p cells i

length-kept : (p : Waiter → Bool) (cells : Cells) → length (map (keep p) cells) ≡ length cells
length-kept p [] = refl
length-kept p (x ∷ cells) = let r = length-kept p cells in omega arith

left : (p : Waiter → Bool) (cells : Cells) → in_order (map (keep p) cells) ≡ filter p (in_order cells)
left p cells = emptied p cells (map (keep p) cells) (length-kept p cells) (get_or-kept p cells)

pub first_is : (p : Waiter → Bool) (cells : Cells) (h : ℕ) (w : Waiter) → get_or cells h None ≡ Some w → p w ≡ true
    → ((k : ℕ) (x : Waiter) → get_or cells k None ≡ Some x → p x ≡ true → (rank w ≤ rank x) × (k < h → rank w < rank x))
    → slice_get (filter p (in_order cells)) 0 ≡ Some w
first_is p cells h w is passes low =
    ap (λ (l : List Waiter). slice_get l 0) (sym (left p cells))
    ∙ least (map (keep p) cells) h w (get_or-kept p cells h ∙ (ap (keep p) is ∙ ap (λ (b : Bool). cond b (Some w) None) passes))
    (λ k x at. let there = kept_some p (get_or cells k None) x (sym (get_or-kept p cells k) ∙ at) in low k x there.0 there.1)

pub none_is : (p : Waiter → Bool) (cells : Cells) → ((k : ℕ) (x : Waiter) → get_or cells k None ≡ Some x → p x ≡ false) → slice_get (filter p (in_order cells)) 0 ≡ None
none_is p cells none = nothing (in_order cells) (every_of _ cells none)
  where
    nothing : (l : List Waiter) → Every (λ x. p x ≡ false) l → slice_get (filter p l) 0 ≡ None
    nothing [] h = refl
    nothing (x ∷ l) (here, rest) = ap (λ (b : Bool). slice_get (cond b (x ∷ filter p l) (filter p l)) 0) here ∙ nothing l rest
