use Rattle.gmp_check.proofs.Texts.{segment_has_text, segment_right}
use Rattle.gmp_check.proofs.laws.segments_are_right.Goals as goal

pub returns-clause-right : goal.returns-clause-right
returns-clause-right c = segment_right

pub returns-clause-text : goal.returns-clause-text
returns-clause-text c = segment_has_text
