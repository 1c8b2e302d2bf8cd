use Rattle.std.proofs.Common.{◌<◌, length, rules, sym, subst, ◌∙◌}
use Rattle.std.proofs.Output.{has_written_of_eq}
use Rattle.gmp_explain.proofs.Parts.{text_of_utf8, text_of_other}
use Rattle.gmp_explain.proofs.text.AsciiDisplay.fmt.Goals as goal

pub returns-in-Ok-clause-writes : goal.returns-in-Ok-clause-writes
returns-in-Ok-clause-writes g c =
    let is = c.in-Ok.ensures.cases in
    λ plain ok. has_written_of_eq _ _ _ _ _ (is.0 ∙ sym (text_of_utf8 c.args.self.now.0.now is.1)) (c.write_str.ensures.writes plain ok)

pub returns-in-Err-clause-writes : goal.returns-in-Err-clause-writes
returns-in-Err-clause-writes g c =
    let bytes = c.args.self.now.0.now in
    let short = subst (λ n. n < length bytes) c.in-Err.ensures.valid_len c.in-Err.ensures.cases.1.short in
    λ plain _. has_written_of_eq _ _ _ _ _ (sym (text_of_other bytes short)) (search rules)
