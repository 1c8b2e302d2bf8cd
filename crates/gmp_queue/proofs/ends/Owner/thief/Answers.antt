use Rattle.gmp_queue.proofs.Keeps.{forks}
use Rattle.gmp_queue.proofs.ends.Owner.thief.Goals as goal

pub another-pass-requires : goal.another-pass-requires
another-pass-requires c = forks _ _ c.args.self.now.owns c.requires
