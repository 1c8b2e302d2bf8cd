use Rattle.gmp_check.proofs.Texts.{join_has_text}
use Rattle.gmp_check.proofs.laws.joins_have_text.Goals as goal

pub returns : goal.returns
returns c = join_has_text
