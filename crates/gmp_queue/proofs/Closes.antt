-- What is left in a queue is taken, one after another.
use Rattle.std.proofs.Common.{if◌then◌else◌, ◌==◌, ◌≡◌, ℕ, ◌+◌, ◌-◌, ◌<◌, ◌≤◌, List, [], ◌∷◌, ◌++◌, length, map, All, Some, slice_get, flat_map, max, sym, ap, ◌∙◌, subst, append_assoc, append-nil, arith}
use Rattle.std.proofs.lemmas.List.{map-append}
use lib.Seq.{take-append_seam, drop-append_seam}
use Rattle.std.proofs.lemmas.Option.{slice_get_within}
use Rattle.std.specs.List.Sorted.{IsPermutation}
use Rattle.std.proofs.lemmas.List.Sorted.{sum_by-IsPermutation, All-permutation, IsPermutation-sym, IsPermutation-append_left, IsPermutation-append_right, IsPermutation-append_comm}
use Rattle.std.proofs.lemmas.List.Elements.{All-append, All-push, All-nil, All-head, All-tail, All-take, All-drop, All-weaker}
use Rattle.gmp_base.specs.declared.number.GNo.{GNo}
use Rattle.gmp_base.specs.declared.number.Readiness.{Readiness}
use Rattle.gmp_queue.specs.declared.rule.Taken.{Taken}
use Rattle.gmp_queue.specs.declared.rule.View.{View}
use Rattle.gmp_queue.specs.declared.ends.Owner.{Owner}
use Rattle.gmp_queue.specs.Ends.{owner_view, thief_view, SameOwner, IsThiefOf, AreTheEnds, taken_by}
use Rattle.std.specs.List.{slice_index_or}
use Rattle.gmp_queue.specs.declared.ends.Thief.{Thief}
use Rattle.gmp_queue.specs.Queue.{view_with, all_parts, taken, AreBefore, PoppedFirst, TookAll, FoundNone}
use Rattle.gmp_queue.specs.Closed.{pair_taken, IsRising, AppendsTaken, ClosesQueue, GivesBack, Drains, Gathers}

pub all_left : (P : Taken → Type 0) (xs ys : List Taken) → All P (xs ++ ys) → All P xs
all_left P xs ys h = subst (All P) (take-append_seam xs ys) (All-take P (length xs) (xs ++ ys) h)

pub all_right : (P : Taken → Type 0) (xs ys : List Taken) → All P (xs ++ ys) → All P ys
all_right P xs ys h = subst (All P) (drop-append_seam xs ys) (All-drop P (length xs) (xs ++ ys) h)

-- the position after the last that was taken from
abbrev pub next_of : List Taken → ℕ
next_of [] = 0
next_of (t ∷ ts) = max (t.at + 1) (next_of ts)

pub next_le : (front : ℕ) (took : List Taken) → AreBefore front took → next_of took ≤ front
next_le front [] before = omega arith
next_le front (t ∷ ts) before =
    let first : t.at < front = All-head (λ (u : Taken). u.at < front) t ts before in
    let rest = next_le front ts (All-tail (λ (u : Taken). u.at < front) t ts before) in omega arith

pub next_push : (took : List Taken) (t : Taken) → t.at < next_of (took ++ t ∷ [])
next_push [] t = omega arith
next_push (x ∷ xs) t = let rest = next_push xs t in omega arith

rising_push : (took : List Taken) (t : Taken) → IsRising took → AreBefore t.at took → IsRising (took ++ t ∷ [])
rising_push [] t rising before = (All-nil (λ (u : Taken). t.at < u.at), tt)
rising_push (x ∷ xs) t rising before = (
  All-push (λ (u : Taken). x.at < u.at) xs t rising.0 (All-head (λ (u : Taken). u.at < t.at) x xs before),
  rising_push xs t rising.1 (All-tail (λ (u : Taken). u.at < t.at) x xs before),
)

pub drains_none : (v : View) (old : List (GNo × ℕ)) → Drains v v old old
drains_none v old = ([], ap (view_with v.owner v.parts v.put) (sym (append-nil v.took)), sym (append-nil old), tt, All-nil (λ (t : Taken). AreBefore t.at v.took))

-- one more
pub drains_more : (v w u : View) (old mid new : List (GNo × ℕ)) (r : Readiness) → Drains v w old mid → PoppedFirst w (r ∷ []) u → new ≡ mid ++ (r.g, r.epoch) ∷ [] → Drains v u old new
drains_more v w u old mid new r d first more =
    let popped = d.0 in
    let t : Taken = taken first.0 r in
    let before : AreBefore first.0 (v.took ++ popped) = subst (λ (x : View). AreBefore first.0 x.took) d.1 first.1.1 in (
      popped ++ t ∷ [],
      first.1.0 ∙ ap (λ (x : View). view_with x.owner x.parts x.put (x.took ++ t ∷ [])) d.1 ∙ ap (view_with v.owner v.parts v.put) (append_assoc v.took popped (t ∷ [])),
      more ∙ ap (λ (l : List (GNo × ℕ)). l ++ pair_taken t ∷ []) d.2 ∙ append_assoc old (map pair_taken popped) (pair_taken t ∷ []) ∙ ap (λ (l : List (GNo × ℕ)). old ++ l) (sym (map-append pair_taken popped (t ∷ []))),
      rising_push popped t d.3 (all_right (λ (x : Taken). x.at < first.0) v.took popped before),
      All-push (λ (x : Taken). AreBefore x.at v.took) popped t d.4 (all_left (λ (x : Taken). x.at < first.0) v.took popped before),
    )

-- each pop takes from a position nearer the end
pub nearer : (w u : View) (r : Readiness) → PoppedFirst w (r ∷ []) u → length u.put - next_of u.took < length w.put - next_of w.took
nearer w u r first =
    let low = next_le first.0 w.took first.1.1 in
    let high : first.0 < length w.put = slice_get_within w.put first.0 r first.2 in
    let moved = next_push w.took (taken first.0 r) in
    let n : next_of u.took ≡ next_of (w.took ++ taken first.0 r ∷ []) = ap (λ (x : View). next_of x.took) first.1.0 in
    let l : length u.put ≡ length w.put = ap (λ (x : View). length x.put) first.1.0 in omega arith

-- what is taken stays all that was put in another order
pub TookAll-permutation : (put : List Readiness) (xs ys : List Taken) → IsPermutation xs ys → TookAll put ys → TookAll put xs
TookAll-permutation put xs ys same all = (
  λ position. sym (sum_by-IsPermutation (λ (t : Taken). if t.at == position then 1 else 0) xs ys same) ∙ all.0 position,
  All-permutation (λ (t : Taken). slice_get put t.at ≡ Some t.readiness) ys xs (IsPermutation-sym xs ys same) all.1,
)

-- what was drained before the thieves gave theirs may as well stand behind
pub drained_behind : (took first theirs : List Taken) → IsPermutation ((took ++ theirs) ++ first) ((took ++ first) ++ theirs)
drained_behind took first theirs = subst (λ l. IsPermutation l ((took ++ first) ++ theirs)) (sym (append_assoc took theirs first))
    (subst (IsPermutation (took ++ (theirs ++ first))) (sym (append_assoc took first theirs)) (IsPermutation-append_right took (theirs ++ first) (first ++ theirs) (IsPermutation-append_comm theirs first)))

pub both_behind : (took first theirs second : List Taken) → IsPermutation ((took ++ theirs) ++ (first ++ second)) (((took ++ first) ++ theirs) ++ second)
both_behind took first theirs second = subst (λ l. IsPermutation l (((took ++ first) ++ theirs) ++ second)) (append_assoc (took ++ theirs) first second)
    (IsPermutation-append_left second ((took ++ theirs) ++ first) ((took ++ first) ++ theirs) (drained_behind took first theirs))

-- what is taken later is after what was taken before
rising_append : (xs ys : List Taken) → IsRising xs → IsRising ys → All (λ (t : Taken). AreBefore t.at xs) ys → IsRising (xs ++ ys)
rising_append [] ys a b apart = b
rising_append (x ∷ xs) ys a b apart = (
  All-append (λ (u : Taken). x.at < u.at) xs ys a.0 (λ k d lt. All-head (λ (u : Taken). u.at < (slice_index_or ys k d).at) x xs (apart k d lt)),
  rising_append xs ys a.1 b (λ k d lt. All-tail (λ (u : Taken). u.at < (slice_index_or ys k d).at) x xs (apart k d lt)),
)

-- a drain, the thieves' gifts and a drain
pub two_drains : (h v w u : View) (thieves : List Thief) (old mid new : List (GNo × ℕ)) → Drains h v old mid → Gathers v thieves w → Drains w u mid new
    → (left : List Taken) × AppendsTaken left old new × IsPermutation ((h.took ++ flat_map (λ (t : Thief). (thief_view t).took) thieves) ++ left) u.took × (u.put ≡ h.put) × (u.parts ≡ all_parts)
two_drains h v w u thieves old mid new one gifts two =
    let theirs = flat_map (λ (t : Thief). (thief_view t).took) thieves in
    let w_is : w ≡ view_with h.owner all_parts h.put ((h.took ++ one.0) ++ theirs) = gifts ∙ ap (λ (x : View). view_with x.owner all_parts x.put (x.took ++ theirs)) one.1 in
    let u_is : u ≡ view_with h.owner all_parts h.put (((h.took ++ one.0) ++ theirs) ++ two.0) = two.1 ∙ ap (λ (x : View). view_with x.owner x.parts x.put (x.took ++ two.0)) w_is in
    let late : All (λ (t : Taken). AreBefore t.at ((h.took ++ one.0) ++ theirs)) two.0 = subst (λ (x : View). All (λ (t : Taken). AreBefore t.at x.took) two.0) w_is two.4 in (
      one.0 ++ two.0,
      (
        two.2 ∙ ap (λ (l : List (GNo × ℕ)). l ++ map pair_taken two.0) one.2 ∙ append_assoc old (map pair_taken one.0) (map pair_taken two.0) ∙ ap (λ (l : List (GNo × ℕ)). old ++ l) (sym (map-append pair_taken one.0 two.0)),
        rising_append one.0 two.0 one.3 two.3
            (λ k d lt. (let P : Taken → Type 0 = λ t. t.at < (slice_index_or two.0 k d).at in all_right P h.took one.0 (all_left P (h.took ++ one.0) theirs (late k d lt)))),
      ),
      subst (λ (x : View). IsPermutation ((h.took ++ theirs) ++ (one.0 ++ two.0)) x.took) (sym u_is) (both_behind h.took one.0 theirs two.0),
      ap (λ (x : View). x.put) u_is,
      ap (λ (x : View). x.parts) u_is,
    )

-- the second finds none
pub closes : (o : Owner) (thieves : List Thief) (v w u : View) (old mid new : List (GNo × ℕ)) → Drains (owner_view o) v old mid → Gathers v thieves w → Drains w u mid new → FoundNone u → ClosesQueue o thieves old new
closes o thieves v w u old mid new one gifts two none =
    let d = two_drains (owner_view o) v w u thieves old mid new one gifts two in
    let all : TookAll (owner_view o).put u.took = subst (λ put. TookAll put u.took) d.3 (none d.4) in
    (d.0, d.1, TookAll-permutation (owner_view o).put (taken_by o thieves ++ d.0) u.took d.2 all)

-- memory ran out in the first, and the thieves have theirs
pub gives_back_first : (o p : Owner) (thieves : List Thief) (old new : List (GNo × ℕ)) → AreTheEnds o thieves → SameOwner o p → Drains (owner_view o) (owner_view p) old new → GivesBack o thieves old new p thieves
gives_back_first o p thieves old new ends same one =
    let v = owner_view o in
    let theirs = flat_map (λ (t : Thief). (thief_view t).took) thieves in
    let parts : (owner_view p).parts ≡ v.parts = ap (λ (x : View). x.parts) one.1 in record {
      ends = (All-weaker (IsThiefOf o) (IsThiefOf p) (λ t h. (h.0 ∙ sym same.0, h.1 ∙ sym same.1)) thieves ends.0, (let whole = ends.1 in omega arith));
      same = same;
      put = ap (λ (x : View). x.put) one.1;
      left = one.0;
      appended = (one.2, one.3);
      took = subst (λ (x : View). IsPermutation ((v.took ++ theirs) ++ one.0) (x.took ++ theirs)) (sym one.1) (drained_behind v.took one.0 theirs);
    }

-- memory ran out in the second, and the owner has theirs
pub gives_back_second : (o p : Owner) (thieves : List Thief) (v w : View) (old mid new : List (GNo × ℕ)) → SameOwner o p → Drains (owner_view o) v old mid → Gathers v thieves w → Drains w (owner_view p) mid new
    → GivesBack o thieves old new p []
gives_back_second o p thieves v w old mid new same one gifts two =
    let d = two_drains (owner_view o) v w (owner_view p) thieves old mid new one gifts two in record {
      ends = (All-nil (IsThiefOf p), (let parts = d.4 in omega arith));
      same = same;
      put = d.3;
      left = d.0;
      appended = d.1;
      took = subst (IsPermutation (taken_by o thieves ++ d.0)) (sym (append-nil (owner_view p).took)) d.2;
    }
