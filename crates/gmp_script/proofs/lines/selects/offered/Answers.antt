use Rattle.std.proofs.Common.{◌≡◌, ◌<◌, ◌-◌, ℕ, List, [], Bor, true, false, codes, get_or, length, arith, rules}
use Rattle.std.proofs.lemmas.Grind.{common_steps}
use Rattle.std.specs.Str.{bytes_eq}
use Rattle.gmp_script.proofs.Selects.{offered-default, offered-plain}
use Rattle.gmp_script.proofs.lines.selects.offered.Goals as goal

pub returns-in-len1-up : goal.returns-in-len1-up
returns-in-len1-up c =
    let d : Bor (List ℕ) = record { ref_ptr = (0, 0); now = [] } in
    let is : bytes_eq (get_or c.args.words.now (length c.args.words.now - 1) d).now (codes "default") ≡ true = search rules in
    rw (offered-default (λ (word : Bor (List ℕ)). word.now) c.args.words.now c.args.until d c.in-len1-up.len_at_least is) c.select.ensures

pub returns-in_default : goal.returns-in_default
returns-in_default c =
    let d : Bor (List ℕ) = record { ref_ptr = (0, 0); now = [] } in
    let other : 0 < length c.args.words.now → bytes_eq (get_or c.args.words.now (length c.args.words.now - 1) d).now (codes "default") ≡ false = λ some. grind (arith, common_steps) in
    rw (offered-plain (λ (word : Bor (List ℕ)). word.now) c.args.words.now c.args.until d other) c.select-in_default.ensures
