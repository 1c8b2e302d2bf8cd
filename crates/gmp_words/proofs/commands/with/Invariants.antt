use Rattle.std.proofs.Common.{◌≡◌, false, map, take}
use Rattle.clap.specs.Words.{shape_of}
use Rattle.clap.specs.declared.builder.command.Command.TheViews.{out-Command}
use Rattle.gmp_words.specs.Program.{numeric_of, with_more}
use Rattle.gmp_words.proofs.commands.with.Given as goal

abbrev pub invariant-loop-option : goal.invariant-loop-option
invariant-loop-option l = record {
  shape : shape_of l.command ≡ with_more (shape_of l.initial.command) (map numeric_of (take l.option-index l.options));
  local : (out-Command l.initial.command).has_globals ≡ false → (out-Command l.command).has_globals ≡ false;
}
