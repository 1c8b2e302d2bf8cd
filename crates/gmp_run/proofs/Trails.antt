-- A machine goes on, by acts of its own or along one entry more.
use Rattle.std.proofs.Common.{inl, inr, ℕ, List, [], ◌∷◌, ◌++◌, refl, sym, subst}
use Rattle.gmp_seq.specs.declared.call.Entry.{Entry}
use Rattle.gmp_seq.specs.declared.call.Limits.{Limits}
use Rattle.gmp_seq.specs.Run.{IsStep}
use Rattle.gmp_seq.specs.State.{State}
use Rattle.gmp_acts.specs.Hands.{PlainMachine}
use Rattle.gmp_run.specs.Trails.{GoesAll, GoesAlone, GoesAlong, GoesOn, MeetsEntry}

-- Acts that make no entry

-- none
pub rests : (x : PlainMachine) → GoesAlone x x
rests x = ([], refl)

-- one
pub goes : (x y : PlainMachine) → GoesOn x y → GoesAlone x y
goes x y one = (y ∷ [], (one, refl))

all_join : (x y z : PlainMachine) (front rest : List PlainMachine) → GoesAll x front y → GoesAll y rest z → GoesAll x (front ++ rest) z
all_join x y z [] rest is more = subst (λ (w : PlainMachine). GoesAll w rest z) is more
all_join x y z (mid ∷ front) rest (one, others) more = (one, all_join mid y z front rest others more)

-- some, and others
pub alone_join : (x y z : PlainMachine) → GoesAlone x y → GoesAlone y z → GoesAlone x z
alone_join x y z (front, first) (rest, more) = (front ++ rest, all_join x y z front rest first more)

-- Entries

module _ (limits : Limits) (m : ℕ) where
  -- acts behind the last entry
  pub along_on : (old new : State) (h : List Entry) (x y z : PlainMachine) → GoesAlong limits m old h new x y → GoesAlone y z → GoesAlong limits m old h new x z
  along_on old new [] x y z (same, alone) more = (same, alone_join x y z alone more)
  along_on old new (e ∷ h) x y z (mid, w, step, meets, rest) more = (mid, w, step, meets, along_on mid new h w y z rest more)

  last_entry : (e : Entry) (old new : State) (x y z : PlainMachine) → IsStep limits e old new → GoesAlone x y → MeetsEntry m e old new y z → GoesAlong limits m old (e ∷ []) new x z
  last_entry e old new x y z step alone (inl (other, same)) = (new, x, step, inl (other, refl), (refl, subst (GoesAlone x) (sym same) alone))
  last_entry e old new x y z step alone (inr (own, w, more, makes)) = (new, z, step, inr (own, w, alone_join x y w alone more, makes), (refl, rests z))

  -- one entry more
  pub along_more : (old mid new : State) (h : List Entry) (e : Entry) (x y z : PlainMachine) → GoesAlong limits m old h mid x y → IsStep limits e mid new → MeetsEntry m e mid new y z
      → GoesAlong limits m old (h ++ e ∷ []) new x z
  along_more old mid new [] e x y z (same, alone) step meets =
      last_entry e old new x y z (subst (λ (s : State). IsStep limits e s new) same step) alone (subst (λ (s : State). MeetsEntry m e s new y z) same meets)
  along_more old mid new (first ∷ h) e x y z (next, w, is, met, rest) step meets = (next, w, is, met, along_more next mid new h e w y z rest step meets)
