use Rattle.std.proofs.Common.{ℕ, ◌+◌, ◌≤◌, ◌||◌, false, is_some, rules, [], sym, ap, subst, ◌∙◌, arith}
use Rattle.std.specs.Prelude.{sum}
use Rattle.gmp_seq.proofs.Counts.{none_yet}
use Rattle.gmp_seq.specs.State.{State, opening}
use Rattle.gmp_journal.proofs.journal.Journal.open.Goals as goal

pub invariant_of-result : goal.invariant_of-result
invariant_of-result c =
    rw (c.in_ok-entries.ensures) (
      record {
        part = record { before = []; start = opening c.args.limits c.args.bodies c.args.capacities.items; led = search rules; before_fits = search rules; run = search rules; fits = search rules; within = c.requires };
        few = omega arith;
        room = omega arith;
        lasts = omega arith;
        begins = search rules;
        ongoing = search rules;
      },
      search rules,
      record {
        room = omega (arith, c.left_of.ensures.room);
        lasts = λ more. ap (λ (s : State). is_some s.outcome || false) c.in_ok-scheduler.ensures.state;
        fits = λ more. subst (λ (n : ℕ). n + c.left_of.result ≤ c.args.limits.entries) (sym (ap (λ (s : State). sum s.counts) c.in_ok-scheduler.ensures.state ∙ none_yet c.args.limits.machines))
            (c.left_of.ensures.fits more);
      },
    )
