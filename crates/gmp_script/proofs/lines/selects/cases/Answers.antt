use Rattle.std.proofs.Common.{◌≡◌, Some, map, sym, ◌∙◌, arith}
use Rattle.std.proofs.lemmas.Grind.{common_steps}
use Rattle.gmp_script.specs.Lines.{case_of}
use Rattle.gmp_script.proofs.Selects.{cases_of-none, cases_of-somes}
use Rattle.gmp_script.proofs.lines.selects.cases.Goals as goal

pub returns-in_default : goal.returns-in_default
returns-in_default c = sym (cases_of-none (λ word. word.now) c.args.words.now c.loop-word.word-index _ c.loop-word-test.true (sym c.in_ok-case.ensures ∙ c.in_default.is))

pub returns : goal.returns
returns c =
    let all : map Some c.loop-word.cases ≡ map (λ word. case_of word.now) c.args.words.now = grind (arith, common_steps) in
    sym (cases_of-somes (λ word. word.now) c.args.words.now c.loop-word.cases all c.loop-word.invariant.fit)
