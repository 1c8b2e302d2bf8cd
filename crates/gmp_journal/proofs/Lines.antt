-- The lines of refusals: which is the first that holds, and where none does.
use Rattle.gmp_journal.proofs.Common.{◌≡◌, false≢true, ℕ, ◌<◌, ◌≤◌, arith, length, turn_lines, Bool, true, false, if◌then◌else◌, None, Some, Option, List, [], ◌∷◌, ◌++◌, refl, sym, ap, ◌∙◌, Pass, Refusal, Call, Handed, names_other, Log, IsAllowed, IsCurrent, need_lines}
use Rattle.std.specs.Prelude.{IfNone}
use Rattle.std.proofs.Common.{nat_le}
use Rattle.std.proofs.lemmas.Bool.Decides.{nat_tests}
use Rattle.gmp_base.specs.declared.refusal.Refusal.TheVariants.{Full}
use Rattle.gmp_journal.specs.Refusals.{Line, first_refusal, refusal_of, room_lines}

-- none of the lines holds
abbrev pub NoneHolds : List Line → Type 0
NoneHolds [] = Unit {0}
NoneHolds (l ∷ ls) = (l.test ≡ false) × NoneHolds ls

pub none_refuses : (ls : List Line) → NoneHolds ls → first_refusal ls ≡ None
none_refuses [] none = refl
none_refuses (l ∷ ls) none = ap (λ (b : Bool). if b then Some l.why else first_refusal ls) none.0 ∙ none_refuses ls none.1

pub none_holds : (ls : List Line) → first_refusal ls ≡ None → NoneHolds ls
none_holds [] e = tt
none_holds (l ∷ ls) e = by_test l.test refl e (none_holds ls) where
  by_test : (b : Bool) → l.test ≡ b → (if b then Some l.why else first_refusal ls) ≡ None → (first_refusal ls ≡ None → NoneHolds ls) → NoneHolds (l ∷ ls)
  by_test true is h rest = absurd cc
  by_test false is h rest = (is, rest h)

-- a line of the first ones refuses
pub by_first : (ls ks : List Line) (why : Refusal) → first_refusal ls ≡ Some why → first_refusal (ls ++ ks) ≡ Some why
by_first [] ks why e = cc
by_first (l ∷ ls) ks why e = by_test l.test e (by_first ls ks why) where
  by_test : (b : Bool) → (if b then Some l.why else first_refusal ls) ≡ Some why → (first_refusal ls ≡ Some why → first_refusal (ls ++ ks) ≡ Some why)
      → (if b then Some l.why else first_refusal (ls ++ ks)) ≡ Some why
  by_test true h rest = h
  by_test false h rest = rest h

-- none of the first ones does
pub by_next : (ls ks : List Line) → first_refusal ls ≡ None → first_refusal (ls ++ ks) ≡ first_refusal ks
by_next [] ks e = refl
by_next (l ∷ ls) ks e = by_test l.test e (by_next ls ks) where
  by_test : (b : Bool) → (if b then Some l.why else first_refusal ls) ≡ None → (first_refusal ls ≡ None → first_refusal (ls ++ ks) ≡ first_refusal ks)
      → (if b then Some l.why else first_refusal (ls ++ ks)) ≡ first_refusal ks
  by_test true h rest = absurd cc
  by_test false h rest = rest h

-- none of the last ones does
pub by_last : (ls ks : List Line) → first_refusal ks ≡ None → first_refusal (ls ++ ks) ≡ first_refusal ls
by_last [] ks e = e
by_last (l ∷ ls) ks e = ap (λ (r : Option Refusal). if l.test then Some l.why else r) (by_last ls ks e)

-- Refusals behind the lines of a turn

module _ (log : Log) (pass : Pass) (asked : Call) (values : Handed) (turn : first_refusal (turn_lines log pass values) ≡ None) where
  -- a line on the state refuses
  pub by_need : (why : Refusal) → first_refusal (need_lines log.state pass.m asked values) ≡ Some why → refusal_of log pass asked values ≡ Some why
  by_need why is =
      by_next (turn_lines log pass values) (need_lines log.state pass.m asked values ++ room_lines log) turn
      ∙ by_first (need_lines log.state pass.m asked values) (room_lines log) why is

  -- with room left, what the state says
  pub by_state : length log.history < log.limits.room → refusal_of log pass asked values ≡ first_refusal (need_lines log.state pass.m asked values)
  by_state room =
      let test : nat_le log.limits.room (length log.history) ≡ false = grind (arith, nat_tests, room) in
      by_next (turn_lines log pass values) (need_lines log.state pass.m asked values ++ room_lines log) turn
      ∙ by_last (need_lines log.state pass.m asked values) (room_lines log) (ap (λ (b : Bool). if b then Some Full else None) test)

  module _ (needs : first_refusal (need_lines log.state pass.m asked values) ≡ None) where
    -- only the room is left to be asked for
    by_room : refusal_of log pass asked values ≡ first_refusal (room_lines log)
    by_room =
        by_next (turn_lines log pass values) (need_lines log.state pass.m asked values ++ room_lines log) turn
        ∙ by_next (need_lines log.state pass.m asked values) (room_lines log) needs

    pub by_full : length log.history ≡ log.limits.room → refusal_of log pass asked values ≡ Some Full
    by_full full =
        let test : nat_le log.limits.room (length log.history) ≡ true = grind (arith, nat_tests, full) in
        by_room ∙ ap (λ (b : Bool). if b then Some Full else None) test

-- there is room where the history is not full
pub room_left : (n most : ℕ) → n ≤ most → (n ≡ most → false ≡ true) → n < most
room_left n most few full = let differ : n ≡ most → ⊥ = λ e. false≢true (full e) in omega (arith, few, differ)

-- the pass may call, the values are of the run, the state allows what is asked, and the history has room
allowed_where : (log : Log) (pass : Pass) (asked : Call) (values : Handed) → first_refusal (need_lines log.state pass.m asked values) ≡ None → IsCurrent log pass
    → names_other log.run values ≡ false → length log.history < log.limits.room → IsAllowed log pass asked values
allowed_where log pass asked values needs current ours room =
    let none = none_holds (need_lines log.state pass.m asked values) needs in
    record { current = current; ours = ours; free = none.0; equipped = none.1.0; unspent = none.1.1.0; own = none.1.1.1.0; room = room }

pub allowed_if_none : (log : Log) (pass : Pass) (asked : Call) (values : Handed) (r : Option Refusal) → r ≡ first_refusal (need_lines log.state pass.m asked values) → IsCurrent log pass
    → names_other log.run values ≡ false → length log.history < log.limits.room → IfNone r (IsAllowed log pass asked values)
allowed_if_none log pass asked values None e current ours room = allowed_where log pass asked values (sym e) current ours room
allowed_if_none log pass asked values (Some why) e current ours room = tt
