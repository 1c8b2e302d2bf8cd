-- Each step keeps the rule of a local queue.
use Rattle.std.proofs.Common.{if◌then◌else◌, ◌≡◌, ◌≢◌, ℕ, zero, suc, ◌+◌, ◌<◌, ◌≤◌, ◌==◌, true, true≢false, List, [], ◌∷◌, ◌++◌, length, drop, set, slice_get, Some, sum_by, sym, refl, ap, ◌∙◌, subst, ⊎_elim, arith, length-append}
use Rattle.std.proofs.lemmas.List.{get_or_append_left, drop-append-le, length-drop}
use Rattle.std.proofs.lemmas.List.Sums.{sum_by-append, sum_by_push, sum_by-cons}
use Rattle.std.proofs.lemmas.List.Elements.{All-append, All-push, All-nil, All-weaker}
use Rattle.std.proofs.lemmas.Bool.Decides.{nat_tests}
use Rattle.std.proofs.lemmas.Option.{slice_get_within, slice_get-get_or, get_or_from_slice_get}
use mathlib.Core.Option.{some, some-ne-none, some-injective}
use lib.ListN.{get_elem?}
use Rattle.crossbeam_deque.specs.Tasks.{Pushes, Takes, Finds, Forks, Merges}
use Rattle.crossbeam_deque.proofs.Lists.{at_set, at_snoc}
use Rattle.gmp_base.specs.declared.number.Readiness.{Readiness}
use Rattle.gmp_queue.specs.declared.rule.Taken.{Taken}
use Rattle.gmp_queue.specs.declared.rule.View.{View}
use Rattle.gmp_queue.specs.Queue.{view_with, all_parts, taken, times_at, once_below, AreFrom, KnowsTruly, IsQueue, PutLast, TookFrom, PoppedFirst, StoleFirst, FoundNone, lent, kept, both, spent}

-- the sum over all passes after a change of one
sum_set : (f : View → ℕ) (views : List View) (port : ℕ) (v w : View) → get_elem? views port ≡ some v → sum_by f (set views port w) + f v ≡ sum_by f views + f w
sum_set f [] port v w at = absurd (some-ne-none v (sym at))
sum_set f (x ∷ xs) zero v w at = let e : f x ≡ f v = ap f (some-injective x v at) in omega (arith, sum_by-cons f x xs, sum_by-cons f w xs)
sum_set f (x ∷ xs) (suc port) v w at = omega (arith, sum_set f xs port v w at, sum_by-cons f x xs, sum_by-cons f x (set xs port w))

-- one pass has no more than all
sum_at : (f : View → ℕ) (views : List View) (port : ℕ) (v : View) → get_elem? views port ≡ some v → f v ≤ sum_by f views
sum_at f [] port v at = absurd (some-ne-none v (sym at))
sum_at f (x ∷ xs) zero v at = let e : f x ≡ f v = ap f (some-injective x v at) in omega (arith, sum_by-cons f x xs)
sum_at f (x ∷ xs) (suc port) v at = omega (arith, sum_at f xs port v at, sum_by-cons f x xs)

abbrev parts : View → ℕ
parts v = v.parts

-- no part, none of f
sum_none : (f : View → ℕ) (views : List View) → ((j : ℕ) (u : View) → get_elem? views j ≡ some u → u.parts ≡ 0 → f u ≡ 0) → sum_by parts views ≡ 0 → sum_by f views ≡ 0
sum_none f [] none all = refl
sum_none f (x ∷ xs) none all =
    let p = sum_by-cons parts x xs in
    let first : f x ≡ 0 = none zero x refl (omega arith) in
    let rest = sum_none f xs (λ j u. none (suc j) u) (omega arith) in omega (arith, sum_by-cons f x xs)

-- what has every part has all of f, where a pass with no part has none of it
sum_whole : (f : View → ℕ) (views : List View) (port : ℕ) (v : View) → get_elem? views port ≡ some v
    → ((j : ℕ) (u : View) → get_elem? views j ≡ some u → u.parts ≡ 0 → f u ≡ 0) → sum_by parts views ≡ v.parts → sum_by f views ≡ f v
sum_whole f [] port v at none same = absurd (some-ne-none v (sym at))
sum_whole f (x ∷ xs) zero v at none same =
    let e : f x ≡ f v = ap f (some-injective x v at) in
    let p : x.parts ≡ v.parts = ap parts (some-injective x v at) in
    let q = sum_by-cons parts x xs in
    let rest = sum_none f xs (λ j u. none (suc j) u) (omega arith) in omega (arith, sum_by-cons f x xs)
sum_whole f (x ∷ xs) (suc port) v at none same =
    let some_part = sum_at parts xs port v at in
    let q = sum_by-cons parts x xs in
    let first : f x ≡ 0 = none zero x refl (omega arith) in
    let e = sum_whole f xs port v at (λ j u. none (suc j) u) (omega arith) in omega (arith, sum_by-cons f x xs)

abbrev Every : (ℕ → View → Type 0) → List View → Type 0
Every F views = (port : ℕ) (v : View) → get_elem? views port ≡ some v → F port v

every_set : (F : ℕ → View → Type 0) (views : List View) (port : ℕ) (w : View) → F port w → ((j : ℕ) (u : View) → j ≢ port → get_elem? views j ≡ some u → F j u) → Every F (set views port w)
every_set F views port w mine others j u e = ⊎_elim (λ (x : (j ≡ port) × (w ≡ u)). subst (λ (y : ℕ × View). F y.0 y.1) (λ i. (sym x.0 i, x.1 i)) mine)
    (λ (x : (j ≢ port) × (get_elem? views j ≡ some u)). others j u x.0 x.1) (at_set views port j w u e)

abbrev hits : ℕ → View → ℕ
hits position v = times_at position v.took

abbrev is_at : ℕ → Taken → ℕ
is_at position t = if t.at == position then 1 else 0

-- what was put stays where it is when more is put
slice_get_append : (xs ys : List Readiness) (k : ℕ) (x : Readiness) → slice_get xs k ≡ Some x → slice_get (xs ++ ys) k ≡ Some x
slice_get_append xs ys k x h =
    let lt : k < length xs = slice_get_within xs k x h in
    let long : k < length (xs ++ ys) = omega (arith, length-append xs ys) in
    slice_get-get_or (xs ++ ys) k x long ∙ ap Some (get_or_append_left xs ys x k lt ∙ get_or_from_slice_get xs k x x h)

-- the first of the rest stands at the front
first_at : (put : List Readiness) (front : ℕ) (x : Readiness) (rest : List Readiness) → x ∷ rest ≡ drop front put → (slice_get put front ≡ Some x) × (rest ≡ drop (suc front) put) × (front < length put)
first_at [] zero x rest e = cc
first_at [] (suc n) x rest e = cc
first_at (y ∷ ys) zero x rest e = (cc, cc, omega arith)
first_at (y ∷ ys) (suc n) x rest e = let t = first_at ys n x rest e in (t.0, t.1, omega (arith, t.2))

pub puts : (port : ℕ) (v : View) (xs : List Readiness) → v.owner ≡ true → 0 < v.parts → Pushes IsQueue port v xs (PutLast v xs)
puts port v xs owner part items views h at =
    let w : View = view_with v.owner v.parts (v.put ++ xs) v.took in
    let mine = h.passes port v at in
    let longer = length-append h.put xs in (
      w,
      record {
        put = h.put ++ xs;
        front = h.front;
        seat = h.seat;
        within = (let t = h.within in omega arith);
        rest = ap (λ l. l ++ xs) h.rest ∙ sym (drop-append-le h.front h.put xs h.within);
        once = λ position. (let s = sum_set (hits position) views port v w at in let o = h.once position in omega arith);
        whole = (let s = sum_set parts views port v w at in let o = h.whole in omega arith);
        passes = every_set (KnowsTruly (h.put ++ xs) h.front h.seat) views port w
            (record {
              knows_put = λ o. ((mine.knows_put owner).0, ap (λ l. l ++ xs) (mine.knows_put owner).1);
              from_put = All-weaker _ _ (λ t e. slice_get_append h.put xs t.at t.readiness e) v.took mine.from_put;
              before = mine.before;
              idle = mine.idle;
            })
            (λ j u other e. let their = h.passes j u e in record {
              knows_put = λ o. absurd (other ((their.knows_put o).0 ∙ sym (mine.knows_put owner).0));
              from_put = All-weaker _ _ (λ t g. slice_get_append h.put xs t.at t.readiness g) u.took their.from_put;
              before = their.before;
              idle = their.idle;
            });
      },
      refl,
    )

-- one position more
once_more : (position front : ℕ) → once_below position (suc front) ≡ once_below position front + (if front == position then 1 else 0)
once_more position front = grind (arith, nat_tests)

abbrev after : View → ℕ → Readiness → View
after v at r = view_with v.owner v.parts v.put (v.took ++ taken at r ∷ [])

-- the first is taken from the front, where it was put
took_first : (port : ℕ) (v : View) (r : Readiness) (items : List Readiness) (views : List View) → 0 < v.parts → IsQueue (r ∷ items) views → get_elem? views port ≡ some v
    → (w : View) × IsQueue items (set views port w) × (position : ℕ) × TookFrom position v r w × (v.owner ≡ true → slice_get v.put position ≡ Some r)
took_first port v r items views part h at =
    let w : View = after v h.front r in
    let mine = h.passes port v at in
    let t = first_at h.put h.front r items h.rest in (
      w,
      record {
        put = h.put;
        front = suc h.front;
        seat = h.seat;
        within = (let u = t.2 in omega arith);
        rest = t.1;
        once = λ position. (let s = sum_set (hits position) views port v w at in let o = h.once position in
            let m = sum_by_push (is_at position) v.took (taken h.front r) in let n = once_more position h.front in omega arith);
        whole = (let s = sum_set parts views port v w at in let o = h.whole in omega arith);
        passes = every_set (KnowsTruly h.put (suc h.front) h.seat) views port w
            (record {
              knows_put = mine.knows_put;
              from_put = All-push (λ (t : Taken). slice_get h.put t.at ≡ Some t.readiness) v.took (taken h.front r) mine.from_put t.0;
              before = All-push (λ (u : Taken). u.at < suc h.front) v.took (taken h.front r) (All-weaker _ _ (λ (u : Taken) (k : u.at < h.front). (let g : u.at < suc h.front = omega arith in g)) v.took mine.before) (let g : h.front < suc h.front = omega arith in g);
              idle = λ none. absurd (omega arith);
            })
            (λ j u other e. let their = h.passes j u e in record {
              knows_put = their.knows_put;
              from_put = their.from_put;
              before = All-weaker _ _ (λ (t : Taken) (k : t.at < h.front). (let g : t.at < suc h.front = omega arith in g)) u.took their.before;
              idle = their.idle;
            });
      },
      h.front,
      (refl, mine.before),
      λ o. ap (λ l. slice_get l h.front) (mine.knows_put o).1 ∙ t.0,
    )

pub pops : (port : ℕ) (v : View) → v.owner ≡ true → 0 < v.parts → Takes IsQueue port v 1 (PoppedFirst v)
pops port v owner part [] items views some_left one h at = absurd (omega arith)
pops port v owner part (r ∷ []) items views some_left one h at = let t = took_first port v r items views part h at in (t.0, t.1, (t.2, t.3, t.4 owner))
pops port v owner part (r ∷ x ∷ xs) items views some_left one h at = absurd (omega arith)

pub steals : (port : ℕ) (v : View) → 0 < v.parts → Takes IsQueue port v 1 (StoleFirst v)
steals port v part [] items views some_left one h at = absurd (omega arith)
steals port v part (r ∷ []) items views some_left one h at = let t = took_first port v r items views part h at in (t.0, t.1, (t.2, t.3))
steals port v part (r ∷ x ∷ xs) items views some_left one h at = absurd (omega arith)

-- a pass with every part has all that was taken
pub finds_none : (port : ℕ) (v : View) → v.owner ≡ true → Finds IsQueue port v (FoundNone v)
finds_none port v owner views h at all =
    let mine = h.passes port v at in
    let known = (mine.knows_put owner).1 in
    let none_left : length h.put ≤ h.front = (let l = ap length h.rest in omega (arith, length-drop h.front h.put)) in
    let front_is : h.front ≡ length v.put = (let a = h.within in let l = ap length known in omega arith) in (
      λ position.
          (let sums = sum_whole (hits position) views port v at (λ j u e none. ap (times_at position) ((h.passes j u e).idle none)) (h.whole ∙ sym all) in
          sym sums ∙ h.once position ∙ ap (once_below position) front_is),
      subst (λ l. AreFrom l v.took) (sym known) mine.from_put,
    )

none_else : (j : ℕ) (u : View) → j ≢ 0 → get_elem? (view_with true all_parts [] [] ∷ []) j ≡ some u → KnowsTruly [] 0 0 j u
none_else zero u other e = absurd (other refl)
none_else (suc j) u other e = absurd (some-ne-none u (sym e))

-- at the start
pub begins : IsQueue [] (view_with true all_parts [] [] ∷ [])
begins = record {
  put = [];
  front = 0;
  seat = 0;
  within = omega arith;
  rest = refl;
  once = λ position. grind (arith, nat_tests);
  whole = refl;
  passes = every_set (KnowsTruly [] 0 0) (view_with true all_parts [] [] ∷ []) 0 (view_with true all_parts [] []) (record { knows_put = λ _. (refl, refl); from_put = All-nil _; before = All-nil _; idle = λ _. refl })
      (λ j u other e. none_else j u other e);
}

pub forks : (port : ℕ) (v : View) → v.owner ≡ true → 1 < v.parts → Forks IsQueue port v (kept v) lent
forks port v owner part items views h at =
    let mine = h.passes port v at in record {
      put = h.put;
      front = h.front;
      seat = h.seat;
      within = h.within;
      rest = h.rest;
      once = λ position. (let s = sum_set (hits position) views port v (kept v) at in let o = h.once position in let p = sum_by_push (hits position) (set views port (kept v)) lent in omega arith);
      whole = (let s = sum_set parts views port v (kept v) at in let o = h.whole in let p = sum_by_push parts (set views port (kept v)) lent in omega arith);
      passes = λ j u e. ⊎_elim
          (every_set (KnowsTruly h.put h.front h.seat) views port (kept v) (record { knows_put = mine.knows_put; from_put = mine.from_put; before = mine.before; idle = λ none. absurd (omega arith) })
          (λ i x other g. h.passes i x g) j u)
          (λ (is : lent ≡ u). subst (KnowsTruly h.put h.front h.seat j) is (record { knows_put = λ o. absurd (true≢false (sym o)); from_put = All-nil _; before = All-nil _; idle = λ _. refl }))
          (at_snoc (set views port (kept v)) lent u j e);
    }

pub merges : (port : ℕ) (v : View) (other : ℕ) (u : View) → 0 < v.parts → Merges IsQueue port v other u (both v u) spent
merges port v other u part items views h at two at' =
    let mine = h.passes port v at in
    let vs : List View = set views port (both v u) in
    let was : get_elem? views other ≡ some u = ⊎_elim (λ x. absurd (two x.0)) (λ x. x.1) (at_set views port other (both v u) u at') in
    let theirs = h.passes other u was in record {
      put = h.put;
      front = h.front;
      seat = h.seat;
      within = h.within;
      rest = h.rest;
      once = λ position. (let a = sum_set (hits position) views port v (both v u) at in let b = sum_set (hits position) vs other u spent at' in let o = h.once position in
          let p = sum_by-append (is_at position) v.took u.took in omega arith);
      whole = (let a = sum_set parts views port v (both v u) at in let b = sum_set parts vs other u spent at' in let o = h.whole in omega arith);
      passes = every_set (KnowsTruly h.put h.front h.seat) vs other spent (record { knows_put = λ o. absurd (true≢false (sym o)); from_put = All-nil _; before = All-nil _; idle = λ _. refl })
          (λ j y apart e. every_set (KnowsTruly h.put h.front h.seat) views port (both v u)
          (record { knows_put = mine.knows_put; from_put = All-append (λ (t : Taken). slice_get h.put t.at ≡ Some t.readiness) v.took u.took mine.from_put theirs.from_put; before = All-append (λ (t : Taken). t.at < h.front) v.took u.took mine.before theirs.before; idle = λ none. absurd (omega arith) })
          (λ i x _ g. h.passes i x g) j y e);
    }
