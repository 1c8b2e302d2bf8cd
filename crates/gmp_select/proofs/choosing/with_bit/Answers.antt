use Rattle.std.proofs.Common.{◌==◌, ap, w8}
use Rattle.std.proofs.lemmas.Nat.Bits.{bit_at_set_same, bit_at_set_other}
use Rattle.gmp_select.proofs.choosing.with_bit.Goals as goal

pub returns-clause-same : goal.returns-clause-same
returns-clause-same c = ap (λ b. b == 1) (bit_at_set_same w8 c.args.bits c.args.i c.requires)

pub returns-clause-others : goal.returns-clause-others
returns-clause-others c = λ j other. ap (λ b. b == 1) (bit_at_set_other w8 c.args.bits c.args.i c.requires j other)
