use Rattle.std.proofs.Common.{rules}
use Rattle.gmp_chan.proofs.channels.Channels.is_full.Goals as goal

pub returns : goal.returns
returns c = search rules
