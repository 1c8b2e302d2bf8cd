-- What a put changes.
use Rattle.std.proofs.Common.{◌≡◌, ◌≢◌, ℕ, ◌+◌, ◌*◌, ◌/◌, ◌%◌, ◌<◌, None, Some, ap, arith, inl, inr, sym, ◌∙◌}
use Rattle.std.proofs.lemmas.Bool.{cases_eq}
use Rattle.std.proofs.lemmas.Nat.{div-add-mod', div-mul-add, mod-mul-add}
use Rattle.slab.specs.Slab.{Updates, get}
use Rattle.gmp_slots.specs.declared.Store.{Store}
use Rattle.gmp_slots.specs.Store.{Changes, of_round, span}

module _ {T : Type 0} where
  -- a slot of this round has its value there, and nothing at another round
  of_round-same : (round : ℕ) (value : T) → of_round round (Some (record { round = round; value = value })) ≡ Some value
  of_round-same round value = grind arith

  of_round-other : (round at : ℕ) (value : T) → at ≢ round → of_round at (Some (record { round = round; value = value })) ≡ None
  of_round-other round at value differs = grind arith

  -- a value that is put under a vacant key in this round stands at one number, and at each other stands what stood there
  pub put_changes : (old new : Store T) (number key : ℕ) (value : T) → number ≡ old.rounds * span old + key → key < span new → span new ≡ span old → get old.slots key ≡ None
      → Updates old.slots new.slots key (Some (record { round = old.rounds; value = value })) → Changes old new number (Some value)
  put_changes old new number key value is within same vacant updates =
      let w = span old in
      let below : key < w = omega (arith, within, same) in
      let round : number / w ≡ old.rounds = ap (λ n. n / w) is ∙ div-mul-add old.rounds w key below in
      let place : number % w ≡ key = ap (λ n. n % w) is ∙ mod-mul-add old.rounds w key below in
      record {
        changed = rw (same, round, place, updates.changed) (of_round-same old.rounds value);
        others = λ other differs.
            elim (cases_eq (other % w) key) [
              | inl here ↦
                  let another : other / w ≢ old.rounds = λ equal. differs (sym (div-add-mod' other w) ∙ ap (λ r. r * w + other % w) equal ∙ ap (λ k. old.rounds * w + k) here ∙ sym is) in
                  rw (same, here, updates.changed, vacant) (of_round-other old.rounds (other / w) value another)
              | inr away ↦ rw same (ap (of_round (other / w)) (updates.others (other % w) away))
            ];
      }
