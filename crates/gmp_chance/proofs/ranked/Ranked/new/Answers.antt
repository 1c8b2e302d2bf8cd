use Rattle.std.proofs.Common.{◌≡◌, ◌%◌, ◌++◌, ◌∷◌, ◌∙◌, ℕ, List, [], ap, add-one, max, refl, rules, sym}
use Rattle.gmp_chance.specs.Ranked.{drawn}
use Rattle.gmp_chance.proofs.Drawing.{drawn_on}
use Rattle.gmp_chance.proofs.ranked.Ranked.new.Goals as goal

pub loop-preserved : goal.loop-preserved
loop-preserved c =
    let on = drawn_on (λ n. max n 8) c.loop.counter _ c.loop.ranks.items c.loop.generator c.next_word.result c.next_word.new.self c.loop.invariant.ranks c.loop.invariant.generator (search rules) in
    record { ranks = search (rules, on); generator = on.1 }

pub loop-2-preserved : goal.loop-2-preserved
loop-2-preserved c =
    let on = drawn_on (λ n. n % max c.args.steps 1) c.loop-2.counter _ c.loop-2.at.items c.loop-2.generator c.next_word-in-loop-2.result c.next_word-in-loop-2.new.self c.loop-2.invariant.falls c.loop-2.invariant.generator (search rules) in
    record { falls = search (rules, on); generator = on.1; few = search rules }
