-- One offer further.
use Rattle.std.proofs.Common.{◌≡◌, ℕ, suc, ◌+◌, ◌-◌, ◌<◌, List, [], ◌∷◌, ◌++◌, map, length, take, drop, get_or, refl, ◌∙◌, arith, add-one, append_assoc, drop-cons}
use Rattle.gmp_seq.specs.declared.status.Offer.{Offer}
use Rattle.gmp_trace.specs.StartGuess.{offer_read}

pub offer_next : {W : Type 0} (text_of : W → List ℕ) (offers : List Offer) (ws : List W) (i : ℕ) (d : W) → i < 8 → i < length ws
    → (offers ++ offer_read (text_of (get_or ws i d)) ∷ []) ++ map offer_read (take (8 - (i + 1)) (map text_of (drop (i + 1) ws))) ≡ offers ++ map offer_read (take (8 - i) (map text_of (drop i ws)))
offer_next text_of offers ws i d few lt =
    let n : 8 - i ≡ suc (8 - (i + 1)) = omega arith in
    let cons : drop i ws ≡ get_or ws i d ∷ drop (i + 1) ws = drop-cons ws i d lt ∙ rw (add-one i) refl in
    rw (n, cons) (append_assoc offers (offer_read (text_of (get_or ws i d)) ∷ []) (map offer_read (take (8 - (i + 1)) (map text_of (drop (i + 1) ws)))))
