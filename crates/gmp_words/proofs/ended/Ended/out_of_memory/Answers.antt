use Rattle.std.proofs.Common.{rules}
use Rattle.gmp_words.proofs.ended.Ended.out_of_memory.Goals as goal

pub invariant_of-result : goal.invariant_of-result
invariant_of-result c = search rules
