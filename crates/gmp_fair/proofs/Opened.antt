-- What is kept, from the opening on.
use Rattle.std.proofs.Common.{◌≡◌, ℕ, ◌<◌, true, List, ap, arith}
use Rattle.gmp_base.specs.declared.number.MNo.{MNo}
use Rattle.gmp_seq.specs.declared.call.Limits.{Limits}
use Rattle.gmp_seq.specs.Fits.{AreLimits}
use Rattle.gmp_acts.specs.declared.choice.Choice.{Choice}
use Rattle.gmp_acts.specs.Acts.{ActsAll}
use Rattle.gmp_acts.specs.Headline.{opening_system}
use Rattle.gmp_acts.specs.System.{System}
use Rattle.gmp_acts.proofs.Moving.{all_sound}
use Rattle.gmp_acts.proofs.Onward.{headline_after}
use Rattle.gmp_acts.proofs.Whole.{opening_sound}
use Rattle.gmp_fair.proofs.Served.{Kept}
use Rattle.gmp_fair.proofs.Steady.{all_steady, opening_steady}

pub kept_after : (run : ℕ) (limits : Limits) (bodies : ℕ) (capacities : List ℕ) (before : List (MNo × Choice)) (k : System) (m : MNo) → AreLimits limits bodies capacities
    → ActsAll (opening_system true run limits bodies capacities) before k → m.0 < limits.machines → Kept m limits.procs k
kept_after run limits bodies capacities before k m are all inside =
    let head = headline_after true run limits bodies capacities before k are all in
    record {
      sound = all_sound before (opening_system true run limits bodies capacities) k all (opening_sound true run limits bodies capacities are);
      steady = all_steady before (opening_system true run limits bodies capacities) k all (opening_steady run limits bodies capacities are);
      procs_are = ap (λ (l : Limits). l.procs) head.opened.limits;
      inside = (let a = head.machines in omega (arith, a, inside));
    }

pub bodies_are : (run : ℕ) (limits : Limits) (bodies : ℕ) (capacities : List ℕ) (before : List (MNo × Choice)) (k : System) → AreLimits limits bodies capacities
    → ActsAll (opening_system true run limits bodies capacities) before k → k.book.bodies ≡ bodies
bodies_are run limits bodies capacities before k are all = (headline_after true run limits bodies capacities before k are all).opened.bodies
