use Rattle.std.proofs.Common.{◌≡◌, ◌<◌, ◌-◌, ℕ, List, [], Bor, Some, true, false, codes, get_or, length, arith, rules}
use Rattle.std.proofs.lemmas.Grind.{common_steps}
use Rattle.std.specs.Str.{bytes_eq}
use Rattle.gmp_script.specs.Lines.{value}
use Rattle.gmp_script.proofs.Selects.{selected-plain, selected-until}
use Rattle.gmp_script.proofs.lines.selects.selected.Goals as goal

pub returns-in-Some : goal.returns-in-Some
returns-in-Some c =
    let d : Bor (List ℕ) = record { ref_ptr = (0, 0); now = [] } in
    let is : bytes_eq (get_or c.args.words.now (length c.args.words.now - 2) d).now (codes "until") ≡ true = search rules in
    let gives : value (get_or c.args.words.now (length c.args.words.now - 1) d).now ≡ Some c.in-Some.moment = search rules in
    rw (selected-until (λ (word : Bor (List ℕ)). word.now) c.args.words.now c.in-Some.moment d c.in-len2-up.len_at_least is gives) c.offered.ensures

pub returns-in_default : goal.returns-in_default
returns-in_default c =
    let d : Bor (List ℕ) = record { ref_ptr = (0, 0); now = [] } in
    let other : 1 < length c.args.words.now → bytes_eq (get_or c.args.words.now (length c.args.words.now - 2) d).now (codes "until") ≡ false = λ some. grind (arith, common_steps) in
    rw (selected-plain (λ (word : Bor (List ℕ)). word.now) c.args.words.now d other) c.offered-in_default.ensures
