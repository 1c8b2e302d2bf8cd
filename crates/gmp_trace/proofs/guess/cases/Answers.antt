use Rattle.std.proofs.Common.{◌≡◌, ◌-◌, ◌+◌, ◌≤◌, true, false, [], ◌∷◌, length, get_or, map, sym, ap, ◌∙◌, arith, rules}
use Rattle.std.proofs.Math.ListN.{get_or-map}
use Rattle.std.proofs.lemmas.List.{length-map, length-append, drop_all}
use Rattle.gmp_trace.specs.Guess.{is_case, case_read}
use Rattle.gmp_trace.proofs.CaseLoop.{after_full, after_other, after_end, after_case}
use Rattle.gmp_trace.proofs.guess.cases.Goals as goal

pub returns-then-i-ge8 : goal.returns-then-i-ge8
returns-then-i-ge8 c =
    rw c.skip.ensures (sym (after_full c.loop-i.cases (map (λ w. w.now) c.args.words.now) (8 - c.loop-i.i) c.loop-i.i (omega arith)) ∙ c.loop-i.invariant.found)

pub returns-then-not-is_case : goal.returns-then-not-is_case
returns-then-not-is_case c =
    let texts = map (λ w. w.now) c.args.words.now in
    let test : is_case (get_or texts c.loop-i.i []) ≡ false = rw (get_or-map (λ w. w.now) c.args.words.now c.loop-i.i (record { ref_ptr = (0, 0); now = [] })) (search rules) in
    rw c.skip-then-not-is_case.ensures (sym (after_other c.loop-i.cases texts (8 - c.loop-i.i) c.loop-i.i (omega (arith, length-map c.args.words.now (λ w. w.now))) test) ∙ c.loop-i.invariant.found)

pub returns : goal.returns
returns c =
    let texts = map (λ w. w.now) c.args.words.now in
    let past : length texts ≤ c.loop-i.i = omega (arith, length-map c.args.words.now (λ w. w.now)) in
    let none : map (λ w. w.now) c.skip-2.result.now ≡ [] = c.skip-2.ensures ∙ drop_all (length c.args.words.now) texts (omega (arith, length-map c.args.words.now (λ w. w.now))) in
    rw none (sym (after_end c.loop-i.cases texts (8 - c.loop-i.i) c.loop-i.i past) ∙ c.loop-i.invariant.found)

pub loop-i-preserved : goal.loop-i-preserved
loop-i-preserved c =
    let texts = map (λ w. w.now) c.args.words.now in
    let at = get_or-map (λ w. w.now) c.args.words.now c.loop-i.i (record { ref_ptr = (0, 0); now = [] }) in
    let test : is_case (get_or texts c.loop-i.i []) ≡ true = rw at (search rules) in
    let is : c.case.result ≡ case_read (get_or texts c.loop-i.i []) = rw at c.case.ensures in
    record {
      count = ap length c.add.ensures ∙ omega (arith, length-append c.loop-i.cases (c.case.result ∷ []));
      room = omega arith;
      found = rw (c.add.ensures, is) (sym (after_case c.loop-i.cases texts (8 - c.loop-i.i) (8 - (c.loop-i.i + 1)) c.loop-i.i (omega arith) (omega (arith, length-map c.args.words.now (λ w. w.now))) test) ∙ c.loop-i.invariant.found);
    }
