-- What is said of a goroutine: what it does, since when, and whether it is a leak.
use Rattle.std.specs.Prelude.{ℕ, Bool, Option, None, Some, List, [], ◌++◌, if◌then◌else◌, codes, decimal}
use Rattle.gmp_base.specs.declared.number.GNo.{GNo}
use Rattle.gmp_seq.specs.declared.status.Status.{Status}
use Rattle.gmp_seq.specs.declared.status.Status.TheVariants as status
use Rattle.gmp_waits.specs.Doing.{doing_text}

-- since which entry; None is before the first
abbrev pub since_text : Status → Option ℕ → List ℕ
since_text status.Dormant since = []
since_text status.Dead (Some n) = codes " at entry " ++ decimal n
since_text does (Some n) = codes ", since entry " ++ decimal n
since_text does None = codes ", since before the first entry"

-- it waits though main ended
abbrev pub leak_text : Bool → List ℕ
leak_text leak = if leak then codes ", a leak" else []

abbrev pub goroutine_text : GNo → Status → Option ℕ → Bool → List ℕ
goroutine_text g does since leak = codes "goroutine " ++ (decimal g.0 ++ (codes ": " ++ (doing_text does ++ (since_text does since ++ leak_text leak))))
