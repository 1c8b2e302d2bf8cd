-- The case that a select takes.
use Rattle.gmp_goroutines.proofs.Common.{◌≡◌, ℕ, ◌≤◌, true, false, Option, Some, None, List, length, slice_get, sym, Case, Waiter}
use Rattle.std.specs.List.{list_any}
use Rattle.std.specs.Prelude.{IfNone, IfSome}
use Rattle.gmp_seq.specs.Channels.{Channel}
use Rattle.gmp_seq.specs.Waits.{can}
use Rattle.gmp_select.specs.Choosing.{case_can, pick}
use Rattle.gmp_select.proofs.Picking.{none_picked, picked}

-- what is picked can proceed
pub able_case : (channels : List Channel) (all : List Waiter) (cases : List Case) (word : ℕ) (result : Option ℕ) → result ≡ pick (case_can channels all cases) word
    → IfSome result (λ i. (c : Case) × (slice_get cases i ≡ Some c) × (can channels all c ≡ true))
able_case channels all cases word (Some i) is = picked channels all cases word i (sym is)
able_case channels all cases word None is = tt

-- where none is picked none can
pub no_case : (channels : List Channel) (all : List Waiter) (cases : List Case) (word : ℕ) (result : Option ℕ) → length cases ≤ 8 → result ≡ pick (case_can channels all cases) word
    → IfNone result (list_any (can channels all) cases ≡ false)
no_case channels all cases word (Some i) few is = tt
no_case channels all cases word None few is = none_picked channels all cases word few (sym is)
