-- What is told, fact by fact.
use Rattle.std.specs.Prelude.{◌≡◌, ℕ, Bool, Option, Some, None, List, [], ◌∷◌}
use Rattle.std.specs.List.{filter_map}
use Rattle.std.specs.Option.{option_map}
use Rattle.gmp_base.specs.declared.number.CNo.{CNo}
use Rattle.gmp_base.specs.declared.number.GNo.{GNo}
use Rattle.gmp_base.specs.declared.number.MNo.{MNo}
use Rattle.gmp_base.specs.declared.number.PNo.{PNo}
use Rattle.gmp_base.specs.declared.number.Readiness.{Readiness}
use Rattle.gmp_seq.specs.declared.status.Direction.{Direction}
use Rattle.gmp_seq.specs.declared.status.Direction.TheVariants.{Sending, Receiving}
use Rattle.gmp_seq.specs.declared.status.Mode.{Mode}
use Rattle.gmp_seq.specs.declared.status.Offer.{Offer}
use Rattle.gmp_seq.specs.declared.status.Status.{Status}
use Rattle.gmp_trace.specs.declared.trace.End.{End}
use Rattle.gmp_check.specs.declared.state.needs.Need.{Need}
use Rattle.gmp_explain.specs.declared.fact.Fact.{Fact}
use Rattle.gmp_explain.specs.declared.fact.Fact.TheVariants as fact
use Rattle.gmp_explain.specs.declared.fact.Role.{Role}
use Rattle.gmp_explain.specs.declared.fact.Role.TheVariants as role

-- What is said of a state: how the run ended, after so many entries; what a goroutine does, and whether it is a leak; a case of the select in
-- which one waits; its latest ticket; what a channel is: closed or not, its room, how many values it holds; those values; who waits on it; what a
-- machine does, which processor it holds, whether it spins. And what is said of an entry that is no step: its line, a reply that is allowed there in
-- its words, what its call lacks, or that the run was over.
pub data Remark : Type 0 where
  Ends : End → ℕ → Remark
  Does : GNo → Status → Bool → Remark
  Would : GNo → Offer → Remark
  Ticket : Readiness → Remark
  Is : CNo → Bool → ℕ → ℕ → Remark
  Keeps : CNo → List ℕ → Remark
  Wait : CNo → Direction → List GNo → Remark
  Acts : MNo → Mode → Option PNo → Bool → Remark
  Line : List ℕ → Remark
  May : List ℕ → Remark
  Lacking : Need → Remark
  WasOver : Remark

-- how those with this role wait, if they do
abbrev pub waiting_by : Role → Option Direction
waiting_by role.WaitsToSend = Some Sending
waiting_by role.WaitsToReceive = Some Receiving
waiting_by _ = None

-- what a fact says of the state or of an entry that is no step; the others are of the past, and of the state lost readies and cycles
abbrev pub remark : Fact → Option Remark
remark (fact.End end entries first) = Some (Ends end entries)
remark (fact.Goroutine told) = Some (Does told.g told.status.now told.leak)
remark (fact.Case g offer) = Some (Would g offer.now)
remark (fact.Latest r) = Some (Ticket r)
remark (fact.Channel c closed room holds) = Some (Is c closed room holds)
remark (fact.Values c values) = Some (Keeps c values.now)
remark (fact.Dealers c role who) = option_map (λ direction. Wait c direction who.now) (waiting_by role)
remark (fact.Machine m mode holds spins) = Some (Acts m mode holds spins)
remark (fact.NoStep line) = Some (Line line.now)
remark (fact.Allowed reply) = Some (May reply.now)
remark (fact.Lacks need) = Some (Lacking need)
remark fact.Over = Some WasOver
remark _ = None

-- what facts say of either, in order
abbrev pub remarks : List Fact → List Remark
remarks said = filter_map remark said

module _ {S : Type 0} (told : S → Fact → S → Type 0) where
  -- these facts were told, one after another
  abbrev pub Tells : S → List Fact → S → Type 0
  Tells old [] new = new ≡ old
  Tells old (x ∷ said) new = (mid : S) × told old x mid × Tells mid said new

  -- facts were told, and these are their remarks, in order
  pub record TellsOf (these : List Remark) (old new : S) : Type 0 where
    pub said : List Fact
    pub tells : Tells old said new
    pub said_so : remarks said ≡ these
