-- How many processors are active, and how many rows there are, along a run.
use Rattle.std.proofs.Common.{◌≡◌, ℕ, Option, None, List, [], ◌∷◌, length, replicate, sym, subst, arith}
use Rattle.std.proofs.lemmas.List.{length-replicate}
use Rattle.gmp_base.specs.declared.number.MNo.{MNo}
use Rattle.gmp_seq.proofs.Sizes.{step_active, step_sizes}
use Rattle.gmp_seq.specs.declared.call.Entry.{Entry}
use Rattle.gmp_seq.specs.declared.call.Limits.{Limits}
use Rattle.gmp_seq.specs.Fits.{AreLimits}
use Rattle.gmp_seq.specs.Laws.{HasSizes}
use Rattle.gmp_seq.specs.Run.{IsStep, Run}
use Rattle.gmp_seq.specs.State.{State, opening}
use Rattle.gmp_start.specs.Active.{HasActive}

pub opening_active : (limits : Limits) (bodies : ℕ) (capacities : List ℕ) → AreLimits limits bodies capacities → HasActive (opening limits bodies capacities).machines
opening_active limits bodies capacities are =
    let one = are.procs.0 in
    let none : Option MNo = None in
    let as_many : length (replicate limits.procs none) ≡ limits.procs = length-replicate limits.procs none in
    record { some = one; all = omega arith }

pub active_step : (limits : Limits) (e : Entry) (old new : State) → HasActive old.machines → IsStep limits e old new → HasActive new.machines
active_step limits e old new active step =
    let after = step_active limits e old new (active.some, active.all) step in
    record { some = after.0; all = after.1 }

pub active_run : (limits : Limits) (old new : State) (h : List Entry) → HasActive old.machines → Run limits old h new → HasActive new.machines
active_run limits old new [] active same = subst (λ (s : State). HasActive s.machines) (sym same) active
active_run limits old new (e ∷ h) active (mid, step, rest) = active_run limits mid new h (active_step limits e old mid active step) rest

pub sizes_run : (limits : Limits) (bodies : ℕ) (old new : State) (h : List Entry) → HasSizes limits bodies old → Run limits old h new → HasSizes limits bodies new
sizes_run limits bodies old new [] sizes same = subst (HasSizes limits bodies) (sym same) sizes
sizes_run limits bodies old new (e ∷ h) sizes (mid, step, rest) = sizes_run limits bodies mid new h (step_sizes limits bodies e old mid sizes step) rest
