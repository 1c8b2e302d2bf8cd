use Rattle.std.proofs.Common.{sym}
use Rattle.std.proofs.lemmas.List.{take-map}
use Rattle.gmp_trace.proofs.words.until.Goals as goal

pub returns-then-n-words : goal.returns-then-n-words
returns-then-n-words c = sym (take-map (λ w. w.now) c.args.n c.args.words.now)
