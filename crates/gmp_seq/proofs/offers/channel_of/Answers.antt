use Rattle.std.proofs.Common.{rules}
use Rattle.gmp_seq.proofs.offers.channel_of.Goals as goal

pub returns-in-Send : goal.returns-in-Send
returns-in-Send c = search rules
