use Rattle.std.proofs.Common.{length}
use Rattle.gmp_chan.proofs.cases.+slice_rises.Given as goal

abbrev pub decreases-slice_rises : goal.decreases-slice_rises
decreases-slice_rises l = length l.offers.now
