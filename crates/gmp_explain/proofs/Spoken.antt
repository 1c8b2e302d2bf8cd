-- What was told, put together.
use Rattle.std.proofs.Common.{◌≡◌, ◌<◌, ℕ, zero, suc, ◌+◌, Option, Some, None, List, [], ◌∷◌, ◌++◌, get_or, length, map, take, refl, sym, ap, subst, ◌∙◌, arith}
use Rattle.std.proofs.lemmas.List.{append-nil, map-append, take_more}
use Rattle.std.proofs.lemmas.List.Concat.{flat_map-append}
use Rattle.std.proofs.lemmas.List.Elements.{filter_map-append}
use Rattle.std.specs.List.{cons_option, filter_map, flat_map}
use Rattle.std.specs.Option.{option_map}
use Rattle.gmp_seq.specs.declared.status.Direction.{Direction}
use Rattle.gmp_explain.specs.declared.fact.Fact.{Fact}
use Rattle.gmp_explain.specs.Spoken.{Remark, Tells, TellsOf, remark}
use Rattle.gmp_explain.specs.Stated.{for_each}

-- one number more
pub for_more : {A : Type 0} (n k : ℕ) (of : ℕ → List A) → k ≡ n + 1 → for_each k of ≡ for_each n of ++ of n
for_more n zero of is = absurd (omega (arith, is))
for_more n (suc k) of is = let same : k ≡ n = omega (arith, is) in ap (λ (i : ℕ). for_each i of ++ of i) same

-- those who have another role don't wait
pub no_wait : (o : Option Direction) (of : Direction → Remark) → o ≡ None → option_map of o ≡ None
no_wait o of is = ap (λ (x : Option Direction). option_map of x) is

-- those who have this one do
pub a_wait : (o : Option Direction) (of : Direction → Remark) (d : Direction) → o ≡ Some d → option_map of o ≡ Some (of d)
a_wait o of d is = ap (λ (x : Option Direction). option_map of x) is

module _ {S : Type 0} (told : S → Fact → S → Type 0) where
  tells_join : (old mid new : S) (a b : List Fact) → Tells told old a mid → Tells told mid b new → Tells told old (a ++ b) new
  tells_join old mid new [] b same rest = subst (λ (s : S). Tells told s b new) same rest
  tells_join old mid new (x ∷ a) b (next, one, more) rest = (next, one, tells_join next mid new a b more rest)

  -- first these, and then those
  pub join : (old mid new : S) (a b : List Remark) → TellsOf told a old mid → TellsOf told b mid new → TellsOf told (a ++ b) old new
  join old mid new a b one two = record {
    said = one.said ++ two.said;
    tells = tells_join old mid new one.said two.said one.tells two.tells;
    said_so = filter_map-append remark one.said two.said ∙ ap (λ (l : List Remark). l ++ filter_map remark two.said) one.said_so ∙ ap (λ (l : List Remark). a ++ l) two.said_so;
  }

  -- nothing
  pub none : (s : S) → TellsOf told [] s s
  none s = record { said = []; tells = refl; said_so = refl }

  -- something else behind
  pub behind : (old mid new : S) (a : List Remark) → TellsOf told a old mid → TellsOf told [] mid new → TellsOf told a old new
  behind old mid new a first rest = subst (λ (l : List Remark). TellsOf told l old new) (append-nil a) (join old mid new a [] first rest)

  -- the same in other words
  pub as_said : (old new : S) (a b : List Remark) → a ≡ b → TellsOf told b old new → TellsOf told a old new
  as_said old new a b same = subst (λ (l : List Remark). TellsOf told l old new) (sym same)

  -- one fact that says nothing of it
  pub other : (old new : S) {x : Fact} → told old x new → remark x ≡ None → TellsOf told [] old new
  other old new {x} is else = record { said = x ∷ []; tells = (new, is, refl); said_so = ap (λ (o : Option Remark). cons_option o []) else }

  -- one that does
  pub one : (old new : S) (d : Remark) {x : Fact} → told old x new → remark x ≡ Some d → TellsOf told (d ∷ []) old new
  one old new d {x} is says = record { said = x ∷ []; tells = (new, is, refl); said_so = ap (λ (o : Option Remark). cons_option o []) says }

  -- what one number more gives
  pub number_told : (old mid new : S) (of : ℕ → List Remark) (n : ℕ) (here : List Remark) → here ≡ of n → TellsOf told (for_each n of) old mid → TellsOf told here mid new
      → TellsOf told (for_each (n + 1) of) old new
  number_told old mid new of n here same so_far step =
      as_said old new (for_each (n + 1) of) (for_each n of ++ here) (for_more n (n + 1) of refl ∙ ap (λ (l : List Remark). for_each n of ++ l) (sym same))
      (join old mid new (for_each n of) here so_far step)

  module _ {A : Type 0} (xs : List A) (i : ℕ) (d : A) where
    -- one element more, which is told by one fact
    pub element_told : (f : A → Remark) (old mid new : S) → i < length xs → TellsOf told (map f (take i xs)) old mid → TellsOf told (f (get_or xs i d) ∷ []) mid new
        → TellsOf told (map f (take (i + 1) xs)) old new
    element_told f old mid new within so_far step =
        as_said old new (map f (take (i + 1) xs)) (map f (take i xs) ++ f (get_or xs i d) ∷ [])
        (ap (map f) (take_more xs i d within) ∙ map-append f (take i xs) (get_or xs i d ∷ []))
        (join old mid new (map f (take i xs)) (f (get_or xs i d) ∷ []) so_far step)

    -- by some
    pub elements_told : (f : A → List Remark) (old mid new : S) → i < length xs → TellsOf told (flat_map f (take i xs)) old mid → TellsOf told (f (get_or xs i d)) mid new
        → TellsOf told (flat_map f (take (i + 1) xs)) old new
    elements_told f old mid new within so_far step =
        as_said old new (flat_map f (take (i + 1) xs)) (flat_map f (take i xs) ++ f (get_or xs i d))
        (ap (flat_map f) (take_more xs i d within) ∙ flat_map-append f (take i xs) (get_or xs i d ∷ []) ∙ ap (λ (l : List Remark). flat_map f (take i xs) ++ l) (append-nil (f (get_or xs i d))))
        (join old mid new (flat_map f (take i xs)) (f (get_or xs i d)) so_far step)
