use Rattle.gmp_pieces.proofs.Taken.{all_written}
use Rattle.gmp_pieces.proofs.laws.written.Goals as goal

pub returns : goal.returns
returns g c = λ began now ended pieces left taken last. all_written g.W.Write.contents (λ s. s.0) began now ended.0 pieces left taken last
