use Rattle.gmp_check.proofs.Texts.{part_has_text}
use Rattle.gmp_check.proofs.laws.parts_have_text.Goals as goal

pub returns : goal.returns
returns c = part_has_text
