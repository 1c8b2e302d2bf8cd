-- The acts of a turn, one by one.
use Rattle.std.proofs.Common.{◌≡◌, ◌≤◌, ℕ, suc, ◌+◌, List, [], ◌∷◌, ◌++◌, length, refl, sym, subst, arith}
use Rattle.std.proofs.lemmas.List.{length_push}
use Rattle.gmp_base.specs.declared.number.MNo.{MNo}
use Rattle.gmp_acts.specs.declared.choice.Choice.{Choice}
use Rattle.gmp_acts.specs.Acts.{ActsAll}
use Rattle.gmp_core.specs.Whole.{GrantsAll}
use Rattle.gmp_core.proofs.Moves.{all_and_one, grants_and_one}
use Rattle.gmp_stand.specs.declared.event.Event.{Event}
use Rattle.gmp_stand.specs.Turns.{Advances, Desk, EndsAt, Moves, MovesAll, TakesTurn}

-- so many acts of machine m lead from this to that
pub record SoFar (m : MNo) (count : ℕ) (s s' : Desk) : Type 0 where
  pub moves : List (MNo × Choice)
  pub counted : length moves ≡ count
  pub made : MovesAll m 0 moves s s'
  pub acts : ActsAll s.core.system moves s'.core.system
  pub granted : GrantsAll s.core moves s'.core

pub none_yet : (m : MNo) (s : Desk) → SoFar m 0 s s
none_yet m s = record { moves = []; counted = refl; made = refl; acts = refl; granted = refl }

made_and_one : (m : MNo) (before : ℕ) (moves : List (MNo × Choice)) (move : MNo × Choice) (s mid end : Desk) → MovesAll m before moves s mid → Moves m (before + length moves) move mid end
    → MovesAll m before (moves ++ move ∷ []) s end
made_and_one m before [] move s mid end all one =
    let none : before + 0 ≡ before = omega arith in
    (end, subst (λ (j : Desk). Moves m before move j end) all (subst (λ (i : ℕ). Moves m i move mid end) none one), refl)
made_and_one m before (first ∷ moves) move s mid end all one =
    let one_on : before + suc (length moves) ≡ suc before + length moves = omega arith in
    (all.0, all.1, made_and_one m (suc before) moves move all.0 mid end all.2 (subst (λ (i : ℕ). Moves m i move mid end) one_on one))

pub one_more : (m : MNo) (count : ℕ) (s mid end : Desk) → SoFar m count s mid → Advances m count mid end → SoFar m (count + 1) s end
one_more m count s mid end far on = record {
  moves = far.moves ++ (m, on.choice) ∷ [];
  counted = (let longer = length_push far.moves (m, on.choice) in let counted = far.counted in omega (arith, longer, counted));
  made = made_and_one m 0 far.moves (m, on.choice) s mid end far.made (subst (λ (i : ℕ). Moves m i (m, on.choice) mid end) (let counted = far.counted in let e : count ≡ 0 + length far.moves = omega (arith, counted) in e) on.moves);
  acts = all_and_one far.moves (m, on.choice) s.core.system mid.core.system end.core.system far.acts on.moves.acts;
  granted = grants_and_one far.moves (m, on.choice) s.core mid.core end.core far.granted on.moves.acts on.calls on.claims on.fixed;
}

pub turned : (m : MNo) (count : ℕ) (s s' : Desk) (event : Event) → SoFar m count s s' → count ≤ 4096 → EndsAt event s'.core.system m s'.handed count → TakesTurn m s.handed event s.core s'.core
turned m count s s' event far few ends = record {
  moves = far.moves;
  left = s'.handed;
  few = (let counted = far.counted in omega (arith, counted, few));
  made = far.made;
  acts = far.acts;
  granted = far.granted;
  ends = subst (λ (i : ℕ). EndsAt event s'.core.system m s'.handed i) (sym far.counted) ends;
}
