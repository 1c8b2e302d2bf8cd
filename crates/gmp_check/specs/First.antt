-- Which offer comes first.
use Rattle.std.specs.Prelude.{◌≡◌, ◌==◌, ◌&&◌, ◌||◌, nat_lt, Bool, true, Option, None, Some, Contains, if◌then◌else◌}
use Rattle.gmp_base.specs.declared.number.CNo.{CNo}
use Rattle.gmp_base.specs.declared.number.GNo.{GNo}
use Rattle.gmp_seq.specs.declared.status.Direction.{Direction}
use Rattle.gmp_seq.specs.declared.status.Status.{Status}
use Rattle.gmp_seq.specs.declared.status.Status.TheVariants.{Waiting}
use Rattle.gmp_seq.specs.declared.status.Wait.{Wait}
use Rattle.gmp_seq.specs.declared.status.Waiter.{Waiter}
use Rattle.gmp_seq.specs.Laws.{IsOffer, ComesBefore}
use Rattle.gmp_seq.specs.Table.{Table}
use Rattle.gmp_seq.specs.Waits.{is_on}

-- it is an offer of a goroutine that waits, on the channel in this direction
abbrev pub IsOfferOn : Table → CNo → Direction → Waiter → Type 0
IsOfferOn t c direction w = IsOffer t w × (is_on c direction w ≡ true)

-- it is one of the offers of this wait of g, on the channel in this direction
abbrev pub IsOfferOf : GNo → Wait → CNo → Direction → Waiter → Type 0
IsOfferOf g x c direction w =
    (w.g ≡ g) × (x.arrival ≡ w.arrival) × (x.kind ≡ w.kind) × Contains x.offers w.offer × (is_on c direction w ≡ true)

-- the same of a goroutine with this status, which waits
abbrev pub IsOfferAt : GNo → Status → CNo → Direction → Waiter → Type 0
IsOfferAt g s c direction w = (x : Wait) × (s ≡ Waiting x) × IsOfferOf g x c direction w

-- of those that P holds of, the first, where there is one
abbrev pub IsFirstOf : (Waiter → Type 0) → Option Waiter → Type 0
IsFirstOf P None = (w : Waiter) → P w → ⊥
IsFirstOf P (Some first) = P first × ((w : Waiter) → P w → ComesBefore w first → ⊥)

-- does x come before y
abbrev pub comes_before : Waiter → Waiter → Bool
comes_before x y = nat_lt x.arrival y.arrival || ((x.arrival == y.arrival) && nat_lt x.offer.case y.offer.case)

-- the one of two that comes first
abbrev pub sooner : Option Waiter → Option Waiter → Option Waiter
sooner None b = b
sooner (Some x) None = Some x
sooner (Some x) (Some y) = if comes_before y x then Some y else Some x
