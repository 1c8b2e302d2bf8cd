use Rattle.std.proofs.Common.{◌≡◌, ◌-◌, length, take, drop, sym, arith}
use Rattle.std.proofs.lemmas.List.{take_all, drop-map, length-drop}
use Rattle.gmp_trace.proofs.words.skip.Goals as goal

pub returns-then-n-words : goal.returns-then-n-words
returns-then-n-words c =
    let rest = drop c.args.n c.args.words.now in
    let whole : take (length c.args.words.now - c.args.n) rest ≡ rest = take_all _ rest (omega (arith, length-drop c.args.n c.args.words.now)) in
    rw whole (sym (drop-map _ c.args.n c.args.words.now))
