use Rattle.gmp_words.specs.Program.{numeric_of}
use Rattle.gmp_words.proofs.Building.{one_after, one_more, still_local}
use Rattle.gmp_words.proofs.commands.with.Goals as goal

pub loop-option-preserved : goal.loop-option-preserved
loop-option-preserved c =
    let old = c.loop-option.command in
    let new = c.in_ok-command.command in
    record {
      shape = one_after numeric_of _ _ _ _ c.args.options.now c.loop-option.option-index _ c.loop-option-test.true c.arg.ensures.rule
          c.loop-option.invariant.shape (one_more old new c.arg.result c.in_ok-command.ensures c.arg.ensures.local);
      local = λ none. still_local old new c.arg.result c.in_ok-command.ensures c.arg.ensures.local (c.loop-option.invariant.local none);
    }
