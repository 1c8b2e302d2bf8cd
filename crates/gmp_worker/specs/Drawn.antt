-- The word that an act of a machine draws from the machine's generator.
use Rattle.std.specs.Prelude.{ℕ}
use Rattle.gmp_seq.specs.declared.call.Call.{Call}
use Rattle.gmp_seq.specs.declared.call.Call.TheVariants as call
use Rattle.gmp_driver.specs.declared.act.Act.{Act}
use Rattle.gmp_driver.specs.declared.act.Act.TheVariants as act
use Rattle.rand_core.specs.Steps.{u64_via_u32}
use Rattle.rand_pcg.specs.Lcg.{Lcg}
use Rattle.rand_pcg.specs.Pcg.{pcg32}

-- the generator's next word, of two of its 32 bits, the low half first, and the generator after it
abbrev pub next_word : Lcg → ℕ × Lcg
next_word g = u64_via_u32 pcg32 g

-- the word that a call draws, and the generator after it; a call that draws none leaves the generator
abbrev pub drawn : Call → Lcg → ℕ × Lcg
drawn (call.Select cases has_default until) g = next_word g
drawn asked g = (0, g)

-- the same of an act: a call, or the first steal of a hunt
abbrev pub drawn_for : Act → Lcg → ℕ × Lcg
drawn_for (act.Call asked) g = drawn asked g
drawn_for act.Hunt g = next_word g
drawn_for what g = (0, g)
