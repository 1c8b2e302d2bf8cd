-- What holds all along of a machine that is counted.
use Rattle.std.proofs.Common.{◌≡◌, ℕ, ◌<◌, ◌≤◌, length, ap, ◌∙◌, arith}
use Rattle.gmp_base.specs.declared.number.MNo.{MNo}
use Rattle.gmp_seq.specs.declared.call.Limits.{Limits}
use Rattle.gmp_acts.specs.declared.choice.Choice.{Choice}
use Rattle.gmp_acts.specs.Acts.{Acts}
use Rattle.gmp_acts.specs.Sound.{IsSound}
use Rattle.gmp_acts.specs.System.{System, machine_at}
use Rattle.gmp_acts.proofs.Moving.{act_sound}
use Rattle.gmp_acts.proofs.Onward.{act_opened}
use Rattle.gmp_fair.specs.Fair.{AllSteady}
use Rattle.gmp_fair.proofs.Steady.{act_steady}

pub record Kept (m : MNo) (procs : ℕ) (k : System) : Type 0 where
  pub sound : IsSound k
  pub steady : AllSteady k
  pub procs_are : k.book.limits.procs ≡ procs
  pub inside : m.0 < length k.machines

pub kept_procs : (m : MNo) (procs : ℕ) (k : System) → Kept m procs k → (machine_at k m).procs ≡ procs
kept_procs m procs k kept = (kept.sound.each m kept.inside).procs ∙ kept.procs_are

pub kept_turns : (m : MNo) (procs : ℕ) (k : System) → Kept m procs k → (machine_at k m).turns ≤ 16
kept_turns m procs k kept = (kept.sound.each m kept.inside).driver.few_turns

pub kept_on : (m : MNo) (procs : ℕ) (k : System) (n : MNo) (choice : Choice) (k' : System) → Kept m procs k → Acts k n choice k' → Kept m procs k'
kept_on m procs k n choice k' kept acts =
    let s = act_sound k n choice k' acts kept.sound in
    let same = (act_opened k n choice k' acts).limits in
    record {
      sound = s;
      steady = act_steady k n choice k' kept.steady acts;
      procs_are = ap (λ (l : Limits). l.procs) same ∙ kept.procs_are;
      inside = (let a = s.count in let b = kept.sound.count in let c = ap (λ (l : Limits). l.machines) same in let d = kept.inside in omega (arith, a, b, c, d));
    }
