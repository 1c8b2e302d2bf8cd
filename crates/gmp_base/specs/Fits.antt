-- Numbers within their types.
use Rattle.std.specs.Prelude.{ℕ, ◌^◌, ◌<◌, IfSome}
use Rattle.gmp_base.specs.declared.cases.Case.{Case}
use Rattle.gmp_base.specs.declared.cases.Case.TheVariants as case
use Rattle.gmp_base.specs.declared.number.CNo.{CNo}

-- a value, a moment in nanoseconds, a count or an epoch: a `u64`
abbrev pub IsWord : ℕ → Type 0
IsWord n = n < 2 ^ 64

-- the number of a channel, a `u16`
abbrev pub IsChannelNumber : CNo → Type 0
IsChannelNumber c = c.0 < 2 ^ 16

-- a select's case
abbrev pub FitsCase : Case → Type 0
FitsCase (case.Send c v) = IfSome c IsChannelNumber × IsWord v
FitsCase (case.Recv c) = IfSome c IsChannelNumber
