-- How a run ended, read from its last state.
use Rattle.std.proofs.Common.{◌≡◌, ◌↔◌, inl, inr, ℕ, Bool, true, false, cond, Option, None, Some, List, [], ◌∷◌, leb, set, refl, sym, ap, subst, ◌∙◌}
use Rattle.std.specs.List.{slice_get, sum}
use Rattle.gmp_base.specs.declared.number.GNo.{GNo}
use Rattle.gmp_base.specs.declared.number.MNo.{MNo}
use Rattle.gmp_seq.proofs.Epochs.{slice_get-set_same}
use Rattle.gmp_seq.proofs.Lands.{effect_lands}
use Rattle.gmp_seq.proofs.Manned.{status_of}
use Rattle.gmp_seq.proofs.OneEach.{row_at}
use Rattle.gmp_seq.specs.declared.call.Call.{Call}
use Rattle.gmp_seq.specs.declared.call.Call.TheVariants as call
use Rattle.gmp_seq.specs.declared.call.Entry.{Entry}
use Rattle.gmp_seq.specs.declared.call.Limits.{Limits}
use Rattle.gmp_seq.specs.declared.call.Outcome.{Outcome}
use Rattle.gmp_seq.specs.declared.call.Outcome.TheVariants as outcome
use Rattle.gmp_seq.specs.declared.call.Reply.{Reply}
use Rattle.gmp_seq.specs.declared.call.Reply.TheVariants as reply
use Rattle.gmp_seq.specs.declared.status.Goroutine.{Goroutine}
use Rattle.gmp_seq.specs.declared.status.Status.TheVariants as status
use Rattle.gmp_seq.specs.Run.{Run, IsLegal}
use Rattle.gmp_seq.specs.State.{State, main, opening}
use Rattle.gmp_seq.specs.Step
use Rattle.gmp_seq.specs.Table.{Table, IsAsleep, status_at, epoch_at}

abbrev MainIsDead : Table → Type 0
MainIsDead t = status_at t main ≡ Some status.Dead

-- what an exit writes
abbrev dead_row : Table → GNo → Goroutine
dead_row t g = record { status = status.Dead; epoch = epoch_at t g }

-- an exit of main leaves it dead
exits : (m : MNo) (g : GNo) (old new : Table) → status_at old g ≡ Some (status.Running m) → Step.Exits g reply.MainEnded old new → MainIsDead new
exits m g old new running (number, is) =
    let row = row_at old g (status.Running m) running in
    let there : slice_get old.goroutines 0 ≡ Some row.0 = subst (λ (n : ℕ). slice_get old.goroutines n ≡ Some row.0) number row.1 in
    let dead : Table → Type 0 = λ t. MainIsDead t in
    subst dead (sym is)
    (subst (λ (n : ℕ). status_of (slice_get (set old.goroutines n (dead_row old g)) 0) ≡ Some status.Dead) (sym number)
    (ap (λ (o : Option Goroutine). status_of o) (slice_get-set_same old.goroutines 0 (dead_row old g) row.0 there)))

-- only the exit of main is answered that main ended
main_ends : (limits : Limits) (m : MNo) (c : Call) (old new : State) → Step.Effect limits m c reply.MainEnded old new → MainIsDead new.table
main_ends limits m call.Exit old new (g, running, (h, rest, more)) = exits m g old.table new.table running h
main_ends limits m call.Acquire old new (h, is, rest) = absurd h
main_ends limits m call.Take old new (awake, (h, rest, more)) = absurd h
main_ends limits m (call.Put r) old new (awake, (h, rest, more)) = absurd h
main_ends limits m (call.Claim r) old new (free, holds, (h, rest, more)) = absurd h
main_ends limits m (call.Go k) old new (g, running, (h, rest, more)) = absurd h
main_ends limits m call.Spawn old new (g, running, (h, rest, more)) = absurd h
main_ends limits m call.Yield old new (g, running, (h, rest, more)) = absurd h
main_ends limits m (call.Make capacity) old new (g, running, (h, is, rest)) = absurd h
main_ends limits m (call.Send c v) old new (g, running, h) = absurd h
main_ends limits m (call.Recv c) old new (g, running, h) = absurd h
main_ends limits m (call.Close None) old new (g, running, h) = absurd h
main_ends limits m (call.Close (Some c)) old new (g, running, h) = absurd h
main_ends limits m (call.Len c) old new (g, running, (h, is, rest)) = absurd h
main_ends limits m (call.Cap c) old new (g, running, (h, is, rest)) = absurd h
main_ends limits m (call.Procs n) old new (g, running, (h, is, rest)) = absurd h
main_ends limits m (call.Select cases has_default until) old new (few, (g, running, h)) = absurd h
main_ends limits m (call.Sleep until) old new (g, running, (h, rest, more)) = absurd h
main_ends limits m call.Gopark old new (g, running, (h, rest, more)) = absurd h
main_ends limits m (call.Ready k) old new (g, running, (h, rest, more)) = absurd h
main_ends limits m call.Enter old new (g, running, (is, h, more)) = absurd h
main_ends limits m (call.Leave number) old new (g, calling, (h, rest, more)) = absurd h
main_ends limits m call.Spin old new (free, (h, is, rest)) = absurd h
main_ends limits m call.Woken old new (h, is, rest) = absurd h
main_ends limits m call.Keep old new (h, is, rest) = absurd h
main_ends limits m call.Unspin old new (h, is, rest) = absurd h
main_ends limits m call.Poke old new (h, is, rest) = absurd h
main_ends limits m call.Declare old new (free, (h, is, rest)) = absurd h
main_ends limits m call.Bare old new (h, is, rest) = absurd h
main_ends limits m call.Park old new (bare, h) = absurd h
main_ends limits m (call.Tick moment) old new (awake, (h, rest, more)) = absurd h

-- only a park is answered that all are asleep, and they are
asleep_ends : (limits : Limits) (m : MNo) (c : Call) (old new : State) → Step.Effect limits m c reply.AllAsleep old new → IsAsleep new.table
asleep_ends limits m call.Park old new (bare, (work, asleep, (is, rest, more))) = subst (λ (t : Table). IsAsleep t) (sym is) asleep
asleep_ends limits m call.Acquire old new (h, is, rest) = absurd h
asleep_ends limits m call.Take old new (awake, (h, rest, more)) = absurd h
asleep_ends limits m (call.Put r) old new (awake, (h, rest, more)) = absurd h
asleep_ends limits m (call.Claim r) old new (free, holds, (h, rest, more)) = absurd h
asleep_ends limits m (call.Go k) old new (g, running, (h, rest, more)) = absurd h
asleep_ends limits m call.Spawn old new (g, running, (h, rest, more)) = absurd h
asleep_ends limits m call.Yield old new (g, running, (h, rest, more)) = absurd h
asleep_ends limits m call.Exit old new (g, running, (h, rest, more)) = absurd h
asleep_ends limits m (call.Make capacity) old new (g, running, (h, is, rest)) = absurd h
asleep_ends limits m (call.Send c v) old new (g, running, h) = absurd h
asleep_ends limits m (call.Recv c) old new (g, running, h) = absurd h
asleep_ends limits m (call.Close None) old new (g, running, h) = absurd h
asleep_ends limits m (call.Close (Some c)) old new (g, running, h) = absurd h
asleep_ends limits m (call.Len c) old new (g, running, (h, is, rest)) = absurd h
asleep_ends limits m (call.Cap c) old new (g, running, (h, is, rest)) = absurd h
asleep_ends limits m (call.Procs n) old new (g, running, (h, is, rest)) = absurd h
asleep_ends limits m (call.Select cases has_default until) old new (few, (g, running, h)) = absurd h
asleep_ends limits m (call.Sleep until) old new (g, running, (h, rest, more)) = absurd h
asleep_ends limits m call.Gopark old new (g, running, (h, rest, more)) = absurd h
asleep_ends limits m (call.Ready k) old new (g, running, (h, rest, more)) = absurd h
asleep_ends limits m call.Enter old new (g, running, (is, h, more)) = absurd h
asleep_ends limits m (call.Leave number) old new (g, calling, (h, rest, more)) = absurd h
asleep_ends limits m call.Spin old new (free, (h, is, rest)) = absurd h
asleep_ends limits m call.Woken old new (h, is, rest) = absurd h
asleep_ends limits m call.Keep old new (h, is, rest) = absurd h
asleep_ends limits m call.Unspin old new (h, is, rest) = absurd h
asleep_ends limits m call.Poke old new (h, is, rest) = absurd h
asleep_ends limits m call.Declare old new (free, (h, is, rest)) = absurd h
asleep_ends limits m call.Bare old new (h, is, rest) = absurd h
asleep_ends limits m (call.Tick moment) old new (awake, (h, rest, more)) = absurd h

-- the outcome says which reply was the last

full_only : (b : Bool) (o : Outcome) → cond b (Some outcome.BookFull) None ≡ Some o → outcome.BookFull ≡ o
full_only true o e = let is : outcome.BookFull ≡ o = cc in is
full_only false o e = absurd cc

said_main : (limits : Limits) (answer : Reply) (counts : List ℕ) → Step.outcome_after limits answer counts ≡ Some outcome.MainEnded → answer ≡ reply.MainEnded
said_main limits reply.MainEnded counts e = refl
said_main limits reply.AllAsleep counts e = absurd cc
said_main limits _ counts e = absurd (let not : outcome.BookFull ≡ outcome.MainEnded = full_only (leb limits.entries (sum counts)) outcome.MainEnded e in cc)

said_asleep : (limits : Limits) (answer : Reply) (counts : List ℕ) → Step.outcome_after limits answer counts ≡ Some outcome.AllAsleep → answer ≡ reply.AllAsleep
said_asleep limits reply.AllAsleep counts e = refl
said_asleep limits reply.MainEnded counts e = absurd cc
said_asleep limits _ counts e = absurd (let not : outcome.BookFull ≡ outcome.AllAsleep = full_only (leb limits.entries (sum counts)) outcome.AllAsleep e in cc)

-- All runs

record EndsSo (s : State) : Type 0 where
  ended : s.outcome ≡ Some outcome.MainEnded → MainIsDead s.table
  dead : MainIsDead s.table → s.outcome ≡ Some outcome.MainEnded
  asleep : s.outcome ≡ Some outcome.AllAsleep → IsAsleep s.table

-- after one step
step_ends : (limits : Limits) (m : MNo) (c : Call) (answer : Reply) (old new : State) → EndsSo old → Step.Step limits m c answer old new → EndsSo new
step_ends limits m c answer old new before (ongoing, effect, counted, ended) =
    record {
      ended = λ e. main_ends limits m c old new (subst (λ (r : Reply). Step.Effect limits m c r old new) (said_main limits answer new.counts (sym ended ∙ e)) effect);
      dead = λ e. elim (effect_lands limits m c answer old new effect 0 status.Dead e) [
        | inl was ↦ absurd (let over = before.dead was in let none : None ≡ Some outcome.MainEnded = sym ongoing ∙ over in cc)
        | inr lands ↦ ended ∙ ap (λ (r : Reply). Step.outcome_after limits r new.counts) (lands refl)
      ];
      asleep = λ e. asleep_ends limits m c old new (subst (λ (r : Reply). Step.Effect limits m c r old new) (said_asleep limits answer new.counts (sym ended ∙ e)) effect);
    }

run_ends : (limits : Limits) (old new : State) (h : List Entry) → EndsSo old → Run limits old h new → EndsSo new
run_ends limits old new [] before run = subst EndsSo (sym run) before
run_ends limits old new (e ∷ h) before (mid, (number, step), rest) = run_ends limits mid new h (step_ends limits e.m e.call e.reply old mid before step) rest

legal_ends : (limits : Limits) (bodies : ℕ) (capacities : List ℕ) (h : List Entry) (s : State) → IsLegal limits bodies capacities h s → EndsSo s
legal_ends limits bodies capacities h s run =
    run_ends limits (opening limits bodies capacities) s h (record { ended = λ e. absurd cc; dead = λ e. absurd cc; asleep = λ e. absurd cc }) run

pub legal_main_ended : (limits : Limits) (bodies : ℕ) (capacities : List ℕ) (h : List Entry) (s : State) → IsLegal limits bodies capacities h s
    → (s.outcome ≡ Some outcome.MainEnded) ↔ (status_at s.table main ≡ Some status.Dead)
legal_main_ended limits bodies capacities h s run = let ends = legal_ends limits bodies capacities h s run in (ends.ended, ends.dead)

pub legal_all_asleep : (limits : Limits) (bodies : ℕ) (capacities : List ℕ) (h : List Entry) (s : State) → IsLegal limits bodies capacities h s
    → s.outcome ≡ Some outcome.AllAsleep → IsAsleep s.table
legal_all_asleep limits bodies capacities h s run = (legal_ends limits bodies capacities h s run).asleep
