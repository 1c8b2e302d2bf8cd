-- The queues as lists, from rings.
use Rattle.std.proofs.Common.{◌≡◌, ℕ, zero, suc, ◌<◌, ◌≤◌, ◌^◌, List, [], ◌∷◌, ◌++◌, length, map, set, get_or, replicate, drop, slice_get, Option, refl, sym, ap, ◌∙◌, arith}
use Rattle.std.proofs.lemmas.List.{get_or-map, length-map, map-set}
use Rattle.std.proofs.Math.Seq.{map-set_same}
use Rattle.std.specs.Prelude.{All}
use Rattle.circular_buffer.specs.Buffer.{Buffer, buffer}
use Rattle.gmp_base.specs.declared.number.PNo.{PNo}
use Rattle.gmp_base.specs.declared.number.Readiness.{Readiness}
use Rattle.gmp_core.specs.Queues.{HasRoom, Pops}

abbrev pub Ring : Type 0
Ring = Buffer Readiness

abbrev pub items_of : Ring → List Readiness
items_of b = b.items

-- as many empty rings as queues
pub empty : (n room : ℕ) → map items_of (replicate n (buffer [] room)) ≡ replicate n []
empty zero room = refl
empty (suc n) room = ap (λ (l : List (List Readiness)). [] ∷ l) (empty n room)

pub within : (rings : List Ring) (p : PNo) → p.0 < length (map items_of rings) → p.0 < length rings
within rings p there = rw (length-map rings items_of) at there

-- the ring at a place
module _ (rings : List Ring) (p : PNo) (b : Ring) (there : p.0 < length rings) (at : b ≡ get_or rings p.0 b) where
  pub its_queue : get_or (map items_of rings) p.0 [] ≡ b.items
  its_queue = get_or-map items_of rings p.0 b [] there ∙ ap items_of (sym at)

  pub is_short : (room : ℕ) → (room < 2 ^ 16) × All (HasRoom room) rings → length b.items < 2 ^ 32
  is_short room kept = (let w : HasRoom room (get_or rings p.0 b) = kept.1 p.0 b there in let l : length b.items ≤ room = rw at w.1 in omega (arith, kept.0, l))

  pub has_place : (room : ℕ) → (room < 2 ^ 16) × All (HasRoom room) rings → length (get_or (map items_of rings) p.0 []) < room → length b.items < b.capacity
  has_place room kept left = (
      let w : HasRoom room (get_or rings p.0 b) = kept.1 p.0 b there in
      let enough : room ≤ b.capacity = rw at w.0 in
      let few : length b.items < room = rw its_queue at left in
      omega (arith, enough, few))

  popped_by : (q : List Readiness) (r : Option Readiness) (b' : Ring) → b.items ≡ q → r ≡ slice_get q 0 → b' ≡ buffer (drop 1 q) b.capacity
      → Pops (map items_of rings) p q r (map items_of (set rings p.0 b'))
  popped_by [] r b' is first rest = (first, map-set_same items_of rings p.0 b' b (ap items_of rest ∙ sym is ∙ ap items_of at))
  popped_by (x ∷ q) r b' is first rest = (first, map-set items_of rings p.0 b' ∙ ap (λ (l : List Readiness). set (map items_of rings) p.0 l) (ap items_of rest))

  pub popped : (r : Option Readiness) (b' : Ring) → r ≡ slice_get b.items 0 → b' ≡ buffer (drop 1 b.items) b.capacity
      → Pops (map items_of rings) p (get_or (map items_of rings) p.0 []) r (map items_of (set rings p.0 b'))
  popped r b' first rest = rw its_queue (popped_by b.items r b' refl first rest)

  pub pushed : (r : Readiness) (b' : Ring) → b' ≡ buffer (b.items ++ r ∷ []) b.capacity
      → map items_of (set rings p.0 b') ≡ set (map items_of rings) p.0 (get_or (map items_of rings) p.0 [] ++ r ∷ [])
  pushed r b' last = map-set items_of rings p.0 b' ∙ ap (λ (l : List Readiness). set (map items_of rings) p.0 l) (ap items_of last ∙ ap (λ (l : List Readiness). l ++ r ∷ []) (sym its_queue))
