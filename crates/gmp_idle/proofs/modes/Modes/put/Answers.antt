use Rattle.std.proofs.Common.{set, sym, ap, ◌∙◌}
use Rattle.gmp_seq.specs.Machines.{is_awake_mode, is_parked_mode}
use Rattle.gmp_idle.proofs.Marking.{marked}
use Rattle.gmp_idle.proofs.Holding.{not_awake, not_parked}
use Rattle.gmp_idle.proofs.modes.Modes.put.Goals as goal
use Rattle.gmp_idle.proofs.modes.Modes.put.Goals.{in-Parked, in-Awake, in-Awake-mode, in-Parked-mode}

pub invariant_of-self : goal.invariant_of-self
invariant_of-self c =
    let i = c.self.inside in
    let parks = marked is_parked_mode i.parked i.modes.items c.args.m.0 c.args.mode c.self.invariant.0 in
    let wakes = marked is_awake_mode i.awake i.modes.items c.args.m.0 c.args.mode c.self.invariant.1 in
    elim c.match-mode.branch [
      | in-Parked w ↦ elim c.match-mode-2.branch [
        | in-Awake-mode v ↦
            rw (v.self-inside-is, v.insert-in-Awake-mode.ensures, w.self-inside-is, w.insert.ensures)
            (ap (λ b. set i.parked c.args.m.0 b) (sym (ap is_parked_mode w.in-Parked.is)) ∙ parks, ap (λ b. set i.awake c.args.m.0 b) (sym (ap is_awake_mode v.in-Awake-mode.is)) ∙ wakes)
        | in-Parked-mode v ↦
            rw (v.self-inside-is, v.remove-in-Parked-mode.ensures, w.self-inside-is, w.insert.ensures)
            (ap (λ b. set i.parked c.args.m.0 b) (sym (ap is_parked_mode w.in-Parked.is)) ∙ parks, ap (λ b. set i.awake c.args.m.0 b) (sym (not_awake c.args.mode v.in-Parked-mode.is)) ∙ wakes)
      ]
      | in-Awake w ↦ elim c.match-mode-2.branch [
        | in-Awake-mode v ↦
            rw (v.self-inside-is, v.insert-in-Awake-mode.ensures, w.self-inside-is, w.remove.ensures)
            (ap (λ b. set i.parked c.args.m.0 b) (sym (not_parked c.args.mode w.in-Awake.is)) ∙ parks, ap (λ b. set i.awake c.args.m.0 b) (sym (ap is_awake_mode v.in-Awake-mode.is)) ∙ wakes)
        | in-Parked-mode v ↦
            rw (v.self-inside-is, v.remove-in-Parked-mode.ensures, w.self-inside-is, w.remove.ensures)
            (ap (λ b. set i.parked c.args.m.0 b) (sym (not_parked c.args.mode w.in-Awake.is)) ∙ parks, ap (λ b. set i.awake c.args.m.0 b) (sym (not_awake c.args.mode v.in-Parked-mode.is)) ∙ wakes)
      ]
    ]
