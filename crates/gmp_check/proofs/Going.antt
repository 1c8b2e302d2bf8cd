-- In which way a communication goes.
use Rattle.std.proofs.Common.{◌≡◌, ℕ, true, false, None, Some, List, [], ◌∷◌, ◌++◌, drop, refl, ap, ◌∙◌}
use Rattle.std.specs.List.{slice_get}
use Rattle.gmp_base.specs.declared.cases.Case.{Case}
use Rattle.gmp_base.specs.declared.cases.Case.TheVariants as case
use Rattle.gmp_base.specs.declared.number.CNo.{CNo}
use Rattle.gmp_seq.specs.declared.call.Taken.{Taken}
use Rattle.gmp_seq.specs.declared.status.Direction.TheVariants.{Sending, Receiving}
use Rattle.gmp_seq.specs.declared.status.Transfer.{Transfer}
use Rattle.gmp_seq.specs.declared.status.Transfer.TheVariants.{Stored, First, Relayed, Drained}
use Rattle.gmp_seq.specs.declared.status.Waiter.{Waiter}
use Rattle.gmp_seq.specs.Channels.{has_room, is_closed, items_at}
use Rattle.gmp_seq.proofs.Determined.{proceeds_fixed}
use Rattle.gmp_seq.specs.State.{State}
use Rattle.gmp_seq.specs.Step.{Communicates, told_of}
use Rattle.gmp_seq.specs.Waits.{first_on, offered, waiters, waits}
use Rattle.gmp_check.specs.Ways.{IsWay, channels_after}

-- Lists

nothing : {A : Type 0} (xs : List A) → slice_get xs 0 ≡ None → xs ≡ []
nothing [] none = refl
nothing (x ∷ xs) none = absurd cc

headed : {A : Type 0} (xs : List A) (x : A) → slice_get xs 0 ≡ Some x → xs ≡ x ∷ drop 1 xs
headed [] x first = absurd cc
headed (y ∷ xs) x first = let same : y ≡ x = cc in ap (λ z. z ∷ xs) same

headed_with : {A : Type 0} (xs ys : List A) (x : A) → slice_get xs 0 ≡ Some x → xs ++ ys ≡ x ∷ drop 1 (xs ++ ys)
headed_with [] ys x first = absurd cc
headed_with (y ∷ xs) ys x first = let same : y ≡ x = cc in ap (λ z. z ∷ xs ++ ys) same

-- Receives

pub way_relayed : (s : State) (c : CNo) (v : ℕ) (w : Waiter) → slice_get (items_at s.channels c) 0 ≡ Some v → first_on (waiters s.table) c Sending ≡ Some w
    → IsWay s (case.Recv (Some c)) (Some (Relayed v w))
way_relayed s c v w first waits_first =
    (drop 1 (items_at s.channels c ++ offered w ∷ []), waits_first, headed_with (items_at s.channels c) (offered w ∷ []) v first, refl)

pub way_relayed_alone : (s : State) (c : CNo) (w : Waiter) → slice_get (items_at s.channels c) 0 ≡ None → first_on (waiters s.table) c Sending ≡ Some w
    → IsWay s (case.Recv (Some c)) (Some (Relayed (offered w) w))
way_relayed_alone s c w none waits_first =
    let empty = nothing (items_at s.channels c) none in
    (drop 1 (items_at s.channels c ++ offered w ∷ []), waits_first, (rw empty refl), refl)

pub way_first : (s : State) (c : CNo) (v : ℕ) → slice_get (items_at s.channels c) 0 ≡ Some v → first_on (waiters s.table) c Sending ≡ None
    → IsWay s (case.Recv (Some c)) (Some (First v))
way_first s c v first nobody =
    (drop 1 (items_at s.channels c), headed (items_at s.channels c) v first, nothing (waits (waiters s.table) c Sending) nobody, refl)

pub way_drained : (s : State) (c : CNo) → slice_get (items_at s.channels c) 0 ≡ None → first_on (waiters s.table) c Sending ≡ None → is_closed s.channels c ≡ true
    → IsWay s (case.Recv (Some c)) (Some Drained)
way_drained s c none nobody closed = (nothing (items_at s.channels c) none, nothing (waits (waiters s.table) c Sending) nobody, closed, refl)

-- Sends

pub way_stored : (s : State) (c : CNo) (v : ℕ) → is_closed s.channels c ≡ false → first_on (waiters s.table) c Receiving ≡ None → has_room s.channels c ≡ true
    → IsWay s (case.Send (Some c) v) (Some Stored)
way_stored s c v open_ nobody room = (open_, nothing (waits (waiters s.table) c Receiving) nobody, room, refl)

-- What is told

-- a communication is told of in one way
pub not_told : (s : State) (c : Case) (how : Transfer) (told : Taken) → IsWay s c (Some how) → (told ≡ told_of s.table how → ⊥) → (other : State)
    → Communicates c told s other → ⊥
not_told s c how told way differs other (too, goes, is, table, machines) =
    let same = proceeds_fixed s.channels other.channels (channels_after s.channels c how) (waiters s.table) c too how goes way in
    differs (is ∙ ap (told_of s.table) same.0)
