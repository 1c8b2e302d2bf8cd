-- What fair machines claim while a ticket waits.
use Rattle.std.proofs.Common.{◌≡◌, ◌⊎◌, inl, inr, ℕ, ◌+◌, ◌-◌, ◌*◌, ◌<◌, ◌≤◌, nat_le, if◌then◌else◌, List, [], ◌∷◌, length, count_by, refl, sym, ap, subst, ◌∙◌, arith}
use Rattle.std.proofs.lemmas.Bool.{cases_lt}
use Rattle.std.proofs.lemmas.List.{append-nil}
use Rattle.std.proofs.lemmas.List.Sums.{sum_by-append}
use Rattle.gmp_base.specs.declared.number.GNo.{GNo}
use Rattle.gmp_base.specs.declared.number.MNo.{MNo}
use Rattle.gmp_base.specs.declared.number.Readiness.{Readiness}
use Rattle.gmp_seq.specs.declared.call.Call.{Call}
use Rattle.gmp_seq.specs.declared.call.Entry.{Entry}
use Rattle.gmp_seq.specs.declared.call.Reply.{Reply}
use Rattle.gmp_driver.specs.declared.act.Act.{Act}
use Rattle.gmp_driver.specs.declared.act.Act.TheVariants as act
use Rattle.gmp_driver.specs.Table.{next_act}
use Rattle.gmp_acts.specs.declared.choice.Choice.{Choice}
use Rattle.gmp_acts.specs.Acts.{Acts, DoesAct, MakesCall}
use Rattle.gmp_acts.specs.Sound.{IsSound}
use Rattle.gmp_acts.specs.System.{System, machine_at}
use Rattle.gmp_fair.specs.Fair.{AllSteady, InTurn, claims_of, is_claim_by}
use Rattle.gmp_fair.specs.Waits.{IsWaiting, Waits, claimed_past, lines_of}
use Rattle.gmp_fair.proofs.Turn.{in_turn}
use Rattle.gmp_fair.proofs.Whole.{whole_bound}
use Rattle.gmp_core.specs.Inside.{IsCore, Parts, system_of}
use Rattle.gmp_core.specs.Waits.{WaitsThrough}
use Rattle.gmp_core.specs.Whole.{Enters, TakesFixed, Whole, with_before}
use Rattle.gmp_core.proofs.Before.{acts_before}

-- What an act leaves of the book

-- a machine's call made this entry, which is the one more
abbrev pub Entered : System → MNo → System → Type 0
Entered k m k' = (asked : Call) × (answer : Reply) × (next_act (machine_at k m) ≡ act.Call asked) × Enters k m asked answer k'

module _ (k : System) (m : MNo) (choice : Choice) (k' : System) where
  called : (asked : Call) → next_act (machine_at k m) ≡ act.Call asked → MakesCall k m asked k' → Entered k m k' ⊎ (k'.book ≡ k.book)
  called asked next (x', book', own', inl h, is) = inl (asked, h.answer, next, ap (λ (s : System). s.book.history) is ∙ h.entry)
  called asked next (x', book', own', inr (inl h), is) = inr (ap (λ (s : System). s.book) is ∙ h.same)
  called asked next (x', book', own', inr (inr (inl h)), is) = inr (ap (λ (s : System). s.book) is ∙ h.same)
  called asked next (x', book', own', inr (inr (inr h)), is) = inr (ap (λ (s : System). s.book) is ∙ h.same)

  left : (a : Act) → next_act (machine_at k m) ≡ a → DoesAct a k m choice k' → Entered k m k' ⊎ (k'.book ≡ k.book)
  left (act.Call asked) next does = called asked next does
  left act.Pop next does = inr (ap (λ (s : System). s.book) does)
  left act.Drain next does = inr (ap (λ (s : System). s.book) does)
  left act.Push next does = inr (ap (λ (s : System). s.book) does)
  left act.Hunt next does = inr (ap (λ (s : System). s.book) does)
  left (act.Steal v) next does = inr (ap (λ (s : System). s.book) does)
  left act.Resume next does = inr (ap (λ (s : System). s.book) does)
  left act.Block next does = inr (ap (λ (s : System). s.book) does)
  left (act.Clock minded) next does = inr (ap (λ (s : System). s.book) does)
  left (act.Surrender which) next does = inr (ap (λ (s : System). s.book) does)
  left act.Nothing next does = inr (ap (λ (s : System). s.book) does)

  -- an act makes one entry, or leaves the book as it was
  pub book_left : m.0 < length k.machines → Acts k m choice k' → Entered k m k' ⊎ (k'.book ≡ k.book)
  book_left inside acts = left (next_act (machine_at k m)) refl (acts.by_place inside)

-- The shelf

as_was : (old new : List GNo) → new ≡ old → InTurn old new
as_was old new e = inl ([], e ∙ sym (append-nil old))

-- from act to act the shelf is in turn
pub shelf_turns : {T : Type 0} (k : Whole T) (m : MNo) (choice : Choice) (k' : Whole T) → Acts k.system m choice k'.system → TakesFixed k m choice.word k' → InTurn k.shelf k'.shelf
shelf_turns k m choice k' acts fixed =
    elim (cases_lt m.0 (length k.system.machines)) [
      | inl inside ↦ by inside (book_left k.system m choice k'.system inside acts)
      | inr past ↦ as_was k.shelf k'.shelf (fixed.stays (ap (λ (s : System). s.book) (acts.else_none past)))
    ] where
      by : m.0 < length k.system.machines → Entered k.system m k'.system ⊎ (k'.system.book ≡ k.system.book) → InTurn k.shelf k'.shelf
      by inside (inl (asked, answer, next, enters)) = in_turn asked answer _ _ k.shelf k'.shelf (fixed.takes asked answer inside next enters).1
      by inside (inr stays) = as_was k.shelf k'.shelf (fixed.stays stays)

-- Entries that were handed out

claims_before : (out : List Entry) (k : System) (m : MNo) → claims_of (with_before out k) m ≡ count_by (is_claim_by m) out + claims_of k m
claims_before out k m = sum_by-append _ out k.book.history

past_before : (out : List Entry) (k k' : System) (m : MNo) (r : Readiness) → claimed_past m r (with_before out k) (with_before out k') ≡ claimed_past m r k k'
past_before out k k' m r =
    let more : claims_of (with_before out k') m - claims_of (with_before out k) m ≡ claims_of k' m - claims_of k m =
    (let a = claims_before out k' m in let b = claims_before out k m in omega (arith, a, b)) in
    ap (λ (n : ℕ). if nat_le 1 (lines_of r k) then n else 0) more

module _ {T : Type 0} (out : List Entry) (m : MNo) (r : Readiness) where
  waits_before : (k : Whole T) → IsWaiting r k.shelf k.system → IsWaiting r k.shelf (with_before out k.system)
  waits_before k w = record { lasts = w.lasts; ready = w.ready; shelf = w.shelf }

  pub waits : (moves : List (MNo × Choice)) (k : Whole T) (count : ℕ) (k' : Whole T) → WaitsThrough m r k moves count k'
      → Waits m r k.shelf (with_before out k.system) moves count (with_before out k'.system)
  waits [] k count k' (on, none, same) = (waits_before k on, none, ap (λ (x : Whole T). with_before out x.system) same)
  waits (move ∷ moves) k count k' (on, mid, rest, acts, fixed, count_is, later) = (
    waits_before k on,
    with_before out mid.system,
    mid.shelf,
    rest,
    acts_before out k.system move.0 move.1 mid.system acts,
    shelf_turns k move.0 move.1 mid acts fixed,
    count_is ∙ ap (λ (n : ℕ). n + rest) (sym (past_before out k.system mid.system m r)),
    waits moves mid rest k' later,
  )

-- no machine of a core whose machines are steady claims more while a ticket waits
pub served : {T : Type 0} (c : Parts T) (k : Whole T) (m : MNo) (r : Readiness) (moves : List (MNo × Choice)) (count : ℕ) (k' : Whole T) → IsCore c → system_of c ≡ k.system → AllSteady k.system
    → m.0 < length k.system.machines → WaitsThrough m r k moves count k' → count ≤ 32 * (k.system.book.limits.procs + 1) * k.system.book.bodies
served c k m r moves count k' core is steady inside through =
    whole_bound r m k.system.book.limits.procs k.system.book.bodies moves k.shelf (with_before core.out k.system) count (with_before core.out k'.system)
    (record { sound = subst (λ (s : System). IsSound (with_before core.out s)) is core.sound; steady = steady; procs_are = refl; inside = inside })
    refl (waits core.out m r moves k count k' through)
