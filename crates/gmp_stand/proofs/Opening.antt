-- A scheduler that was opened, and one whose body was lent and not changed.
use Rattle.std.proofs.Common.{◌≡◌, ℕ, Bool, List, [], ◌∷◌, map, length, sym, ap, subst, ◌∙◌, Option, None, Some}
use Rattle.gmp_base.specs.declared.number.GNo.{GNo}
use Rattle.gmp_base.specs.declared.number.MNo.{MNo}
use Rattle.gmp_seq.specs.declared.call.Limits.{Limits}
use Rattle.gmp_seq.specs.State.{main}
use Rattle.gmp_acts.specs.Headline.{opening_system}
use Rattle.gmp_acts.specs.System.{System}
use Rattle.gmp_core.specs.Whole.{IsBodyInHand, IsWhole, Whole, stock_with, with_body_in_hand}
use Rattle.gmp_stand.specs.Standing.{IsNumbered, IsStanding, Standing, numbers, opening_standing}
use Rattle.gmp_stand.proofs.Numbers.{length_numbers, numbered, same_put}

pub one_for_each : (n : ℕ) (items : List GNo) → items ≡ numbers n → length items ≡ n
one_for_each n items its = ap (λ (l : List GNo). length l) its ∙ length_numbers n

module _ (is_fair : Bool) (limits : Limits) (n : ℕ) (capacities kept : List ℕ) (items : List GNo) (k : Whole GNo) (its : items ≡ numbers n)
    (system : k.system ≡ opening_system is_fair 0 limits (length items) capacities) (stock : k.stock ≡ map Some items) where
  opened : k.system ≡ opening_system is_fair 0 limits n capacities
  opened = system ∙ ap (λ (i : ℕ). opening_system is_fair 0 limits i capacities) (one_for_each n items its)

  stocked : k.stock ≡ map Some (numbers n)
  stocked = stock ∙ ap (λ (l : List GNo). map Some l) its

  pub stands : kept ≡ capacities → IsWhole k.system → IsStanding limits n kept None k
  stands same whole = record {
    numbered = subst IsNumbered (sym stocked) (numbered n);
    limits_are = ap (λ (s : System). s.book.limits) opened;
    bodies_are = ap (λ (s : System). s.book.bodies) opened;
    capacities_are = ap (λ (s : System). s.book.capacities) opened ∙ sym same;
    roomy = tt;
    whole = λ none. whole;
  }

  pub opens : k.shelf ≡ main ∷ [] → (let s : Standing = record { core = k; piece = [] } in s) ≡ opening_standing is_fair limits n capacities
  opens shelf = λ i. record { core = record { system = opened i; stock = stocked i; shelf = shelf i }; piece = [] }

-- what is left behind the loan is what was lent
pub lent_same : (k : Whole GNo) (m : MNo) (body : GNo) → IsBodyInHand k m body → with_body_in_hand k m body ≡ k
lent_same k m body is =
    ap (λ (s : List (Option GNo)). (let w : Whole GNo = record k { stock = s } in w))
    (ap (λ (g : Option GNo). stock_with g body k.stock) is.in_hand ∙ same_put k.stock is.g.0 (Some body) is.its)
