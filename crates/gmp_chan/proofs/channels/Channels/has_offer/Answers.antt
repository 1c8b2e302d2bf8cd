use Rattle.std.proofs.Common.{rules}
use Rattle.gmp_chan.proofs.channels.Channels.has_offer.Goals as goal

pub returns : goal.returns
returns c = search rules
