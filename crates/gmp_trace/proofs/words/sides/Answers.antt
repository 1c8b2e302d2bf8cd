use Rattle.std.proofs.Common.{◌≡◌, true, false, [], map, take, get_or, sym, ◌∙◌, arith, rules, codes}
use Rattle.std.proofs.lemmas.List.{get_or-map, length-map}
use Rattle.std.specs.Str.{bytes_eq}
use Rattle.gmp_trace.specs.Guess.{sides}
use Rattle.gmp_trace.proofs.Arrow.{arrow_here, arrow_later}
use Rattle.gmp_trace.proofs.words.sides.Goals as goal

pub returns-then-eq : goal.returns-then-eq
unfolding sides
returns-then-eq c =
    let texts = map (λ w. w.now) c.args.words.now in
    let at = get_or-map (λ w. w.now) c.args.words.now c.loop-i.i (record { ref_ptr = (0, 0); now = [] }) [] c.loop-i-test.true in
    let test : bytes_eq (get_or texts c.loop-i.i []) (codes "->") ≡ true = rw at (search rules) in
    rw (c.until.ensures, c.skip.ensures)
    (sym (arrow_here (take c.loop-i.i texts) texts c.loop-i.i (omega (arith, length-map c.args.words.now (λ w. w.now))) test) ∙ c.loop-i.invariant)

pub loop-i-preserved : goal.loop-i-preserved
loop-i-preserved c =
    let texts = map (λ w. w.now) c.args.words.now in
    let at = get_or-map (λ w. w.now) c.args.words.now c.loop-i.i (record { ref_ptr = (0, 0); now = [] }) [] c.loop-i-test.true in
    let test : bytes_eq (get_or texts c.loop-i.i []) (codes "->") ≡ false = rw at (search rules) in
    arrow_later texts c.loop-i.i (omega (arith, length-map c.args.words.now (λ w. w.now))) test ∙ c.loop-i.invariant
