use Rattle.std.proofs.Common.{◌≡◌, Some, map, sym, ◌∙◌, arith, rules}
use Rattle.std.proofs.lemmas.Grind.{common_steps}
use Rattle.gmp_script.specs.Lines.{value}
use Rattle.gmp_script.proofs.Selects.{all_named-none, all_named-somes, somes-push}
use Rattle.gmp_script.proofs.lines.clocks.values.Goals as goal

pub loop-word-preserved : goal.loop-word-preserved
loop-word-preserved c =
    let more = somes-push (λ word. value word.now) c.args.words.now c.loop-word.values.items c.loop-word.word-index c.in-Some.value _ c.loop-word-test.true
    (sym c.value.ensures ∙ c.in-Some.is) c.loop-word.invariant in
    search (rules, more)

pub returns-in_default : goal.returns-in_default
returns-in_default c = sym (all_named-none (λ word. word.now) value c.args.words.now c.loop-word.word-index _ c.loop-word-test.true (sym c.value.ensures ∙ c.in_default.is))

pub returns : goal.returns
returns c =
    let all : map Some c.loop-word.values.items ≡ map (λ word. value word.now) c.args.words.now = grind (arith, common_steps) in
    sym (all_named-somes (λ word. word.now) value c.args.words.now c.loop-word.values.items all)
