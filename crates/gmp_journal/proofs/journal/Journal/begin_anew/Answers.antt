use Rattle.std.proofs.Common.{ℕ, ◌+◌, ◌≤◌, subst, rules}
use Rattle.gmp_journal.proofs.Common.{log_of}
use Rattle.gmp_journal.proofs.Segmented.{begun_anew, left_anew}
use Rattle.gmp_journal.proofs.journal.Journal.begin_anew.Goals as goal

pub invariant_of-self : goal.invariant_of-self
invariant_of-self c = (
  begun_anew (log_of c.self.inside) _ _ c.swap.new.x.list c.args.next _ c.is_some-self-inside.result c.self.invariant.0.part (search rules) (search rules) (search rules)
      (c.of.ensures _) (search rules) (search rules),
  c.self.invariant.1,
  left_anew (log_of c.self.inside) c.swap.new.x.list _ _ _ (search rules) c.is_some-self-inside.ensures c.left_of-self-inside.ensures.room c.left_of-self-inside.ensures.lasts (λ more. subst (λ (n : ℕ). n + c.left_of-self-inside.result ≤ c.self.inside.limits.entries) c.all.ensures (c.left_of-self-inside.ensures.fits more)),
)
