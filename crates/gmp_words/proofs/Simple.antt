-- `clap` gives the exact matches of the program's command line, and when it takes words.
use Rattle.std.proofs.Common.{◌≡◌, true, refl}
use Rattle.clap.specs.Words.{is_simple, is_simple_and_free}
use Rattle.gmp_words.specs.Program.{gmp}

pub gmp_is_simple : is_simple gmp ≡ true
gmp_is_simple = refl

pub gmp_is_free : is_simple_and_free gmp ≡ true
gmp_is_free = refl
