use Rattle.std.proofs.Common.{rules}
use Rattle.gmp_trace.specs.Text.{Content, content}
use Rattle.gmp_check.proofs.Texts.{part_has_text}
use Rattle.gmp_check.specs.Checked.{IsRight}
use Rattle.gmp_check.specs.Parts.{IsPart}
use Rattle.gmp_parts.specs.Parts.{IsRightTrace}
use Rattle.gmp_check_cli.proofs.cutting.cut.Goals as goal

-- the part of a right trace is one
part_right : (x y : Content) (n : _) → IsRightTrace x → IsPart x n y → ((o : _) → IsRight x o → IsRight y o) → IsRightTrace y
part_right x y n is part right =
    record { has_text = part_has_text x y n is.outcome is.has_text is.right part; outcome = is.outcome; right = right is.outcome is.right }

pub returns-in-Ok-write-clause-passed : goal.returns-in-Ok-write-clause-passed
returns-in-Ok-write-clause-passed g c said =
    let x : Content = content c.in-Ok.trace in
    let y : Content = content c.in-Ok-split.part in
    let is = c.in-Ok.ensures.right in
    let cut = c.in-Ok-split.ensures.part in
    record {
      trace = x;
      right = is;
      read = c.in-Ok.ensures.read;
      part = y;
      cut = cut;
      right_too = part_right x y c.args.at is cut c.in-Ok-split.ensures.right;
      written = c.in-Ok-write.ensures.written;
    }
