-- All ends of one queue: as they are opened, and after pushes, pops and steals.
use Rattle.std.proofs.Common.{◌≡◌, ℕ, List, [], ◌∷◌, ◌++◌, length, All, sym, subst, ap, ◌∙◌, arith, length-append}
use Rattle.std.specs.Global.{Vec}
use Rattle.std.specs.List.{AllZip}
use Rattle.std.proofs.lemmas.List.Elements.{All-nil, All-cons, All-head, All-tail}
use Rattle.gmp_queue.specs.declared.ends.Owner.{Owner}
use Rattle.gmp_queue.specs.declared.ends.Thief.{Thief}
use Rattle.gmp_queue.specs.Ends.{KeepsOwner, KeepsThief, IsThiefOf, AreTheEnds}
use Rattle.gmp_queue.specs.Opened.{IsFresh, IsFreshThiefOf, IsOpened}

-- of one owner there is one thief
only_thief : (o : Owner) (ts : List Thief) (t : Thief) → AllZip IsFreshThiefOf (o ∷ []) (ts ++ t ∷ []) → IsFreshThiefOf o t
only_thief o [] t all = all.0
only_thief o (x ∷ []) t all = absurd all.1
only_thief o (x ∷ y ∷ ts) t all = absurd all.1

abbrev HasThief : Owner → Vec Thief → Type 0
HasThief o row = AllZip IsFreshThiefOf (o ∷ []) row.items

-- one element, and two, by those that are taken off the end
one_left : {X : Type 0} (xs rest : List X) (x : X) → length xs ≡ 1 → xs ≡ rest ++ x ∷ [] → xs ≡ x ∷ []
one_left xs [] x one e = e
one_left xs (y ∷ ys) x one e = let l = ap length e in absurd (omega (arith, length-append ys (x ∷ [])))

two_left : {X : Type 0} (xs mid rest : List X) (x y : X) → length xs ≡ 2 → xs ≡ mid ++ y ∷ [] → mid ≡ rest ++ x ∷ [] → xs ≡ x ∷ y ∷ []
two_left xs mid [] x y two e f = e ∙ ap (λ l. l ++ y ∷ []) f
two_left xs mid (z ∷ zs) x y two e f =
    let l = ap length e in
    let m = ap length f in absurd (omega (arith, length-append mid (y ∷ []), length-append zs (x ∷ [])))

-- a queue that is opened for two machines
opened_for_two : (run : ℕ) (owners : List Owner) (o : Owner) (rows : List (Vec Thief)) (one two : Vec Thief) (ones twos : List Thief) (a b : Thief)
    → IsOpened run 2 owners rows → owners ≡ o ∷ [] → rows ≡ one ∷ two ∷ [] → one.items ≡ ones ++ a ∷ [] → two.items ≡ twos ++ b ∷ [] → AreTheEnds o (a ∷ b ∷ [])
opened_for_two run owners o rows one two ones twos a b opened only both first second =
    let fresh : IsFresh run 2 o = All-head (IsFresh run 2) o [] (subst (All (IsFresh run 2)) only opened.0) in
    let thieves : All (HasThief o) (one ∷ two ∷ []) = subst (λ (x : List Owner × List (Vec Thief)). All (λ (row : Vec Thief). AllZip IsFreshThiefOf x.0 row.items) x.1) (λ i. (only i, both i)) opened.2 in
    let x : IsFreshThiefOf o a = only_thief o ones a (subst (AllZip IsFreshThiefOf (o ∷ [])) first (All-head (HasThief o) one (two ∷ []) thieves)) in
    let y : IsFreshThiefOf o b = only_thief o twos b (subst (AllZip IsFreshThiefOf (o ∷ [])) second (All-head (HasThief o) two [] (All-tail (HasThief o) one (two ∷ []) thieves))) in
    let p = ap (λ v. v.parts) fresh.1 in
    let q = ap (λ v. v.parts) x.1 in
    let r = ap (λ v. v.parts) y.1 in (
      All-cons (IsThiefOf o) a (b ∷ []) x.0 (All-cons (IsThiefOf o) b [] y.0 (All-nil (IsThiefOf o))),
      omega arith,
    )

pub taken_off : (run : ℕ) (owners owners' : List Owner) (o : Owner) (rows mid rest : List (Vec Thief)) (one two : Vec Thief) (ones twos : List Thief) (a b : Thief)
    → IsOpened run 2 owners rows → length owners ≡ 1 → owners ≡ owners' ++ o ∷ [] → rows ≡ mid ++ two ∷ [] → mid ≡ rest ++ one ∷ [] → two.items ≡ twos ++ b ∷ [] → one.items ≡ ones ++ a ∷ [] → AreTheEnds o (a ∷ b ∷ [])
taken_off run owners owners' o rows mid rest one two ones twos a b opened lone e f g second first =
    opened_for_two run owners o rows one two ones twos a b opened (one_left owners owners' o lone e) (two_left rows mid rest one two opened.1 f g) first second

thief_stays : (o p : Owner) (t u : Thief) → KeepsOwner o p → KeepsThief t u → IsThiefOf o t → IsThiefOf p u
thief_stays o p t u a b h = (b.0.0 ∙ h.0 ∙ sym a.0.0, b.0.1 ∙ h.1 ∙ sym a.0.1)

-- two thieves and their owner, after pushes, pops and steals
pub still_the_ends : (o p : Owner) (a b c d : Thief) → AreTheEnds o (a ∷ b ∷ []) → KeepsOwner o p → KeepsThief a c → KeepsThief b d → AreTheEnds p (c ∷ d ∷ [])
still_the_ends o p a b c d ends same first second =
    let one : IsThiefOf p c = thief_stays o p a c same first (All-head (IsThiefOf o) a (b ∷ []) ends.0) in
    let two : IsThiefOf p d = thief_stays o p b d same second (All-head (IsThiefOf o) b [] (All-tail (IsThiefOf o) a (b ∷ []) ends.0)) in
    let whole = ends.1 in
    let x = first.1 in
    let y = second.1 in
    let z = same.1 in
    (All-cons (IsThiefOf p) c (d ∷ []) one (All-cons (IsThiefOf p) d [] two (All-nil (IsThiefOf p))), omega arith)
