-- The forms of what is stored in a state: those that the text of a start can say.
use Rattle.std.specs.Prelude.{◌≡◌, ◌≢◌, ◌⊎◌, ℕ, ◌<◌, ◌≤◌, ◌^◌, ◌∷◌, [], List, All, AllPairs, IfSome, length, Option, None, Some}
use Rattle.gmp_base.specs.declared.ask.Fault.TheVariants.{SendOnClosed}
use Rattle.gmp_base.specs.declared.ask.Woke.{Woke}
use Rattle.gmp_base.specs.declared.ask.Woke.TheVariants as woke
use Rattle.gmp_base.specs.declared.number.GNo.{GNo}
use Rattle.gmp_base.specs.Fits.{IsWord}
use Rattle.gmp_seq.specs.declared.call.Limits.{Limits}
use Rattle.gmp_seq.specs.declared.status.Deal.{Deal}
use Rattle.gmp_seq.specs.declared.status.Deal.TheVariants as deal
use Rattle.gmp_seq.specs.declared.status.Kind.{Kind}
use Rattle.gmp_seq.specs.declared.status.Kind.TheVariants as kind
use Rattle.gmp_seq.specs.declared.status.Offer.{Offer}
use Rattle.gmp_seq.specs.declared.status.Status.{Status}
use Rattle.gmp_seq.specs.declared.status.Status.TheVariants as status
use Rattle.gmp_seq.specs.declared.status.Wait.{Wait}
use Rattle.gmp_seq.specs.Channels.{Channel}
use Rattle.gmp_seq.specs.Laws.{IsEarlierCase}
use Rattle.gmp_seq.specs.State.{State}
use Rattle.gmp_seq.specs.Table.{status_at}

-- what is stored for one that is ready: the eight kinds, with words
abbrev pub FitsWoke : Woke → Type 0
FitsWoke woke.First = Unit {0}
FitsWoke woke.Done = Unit {0}
FitsWoke (woke.Got v sent) = IsWord v
FitsWoke (woke.Chose i None) = i < 2 ^ 8
FitsWoke (woke.Chose i (Some (v, sent))) = (i < 2 ^ 8) × IsWord v
FitsWoke woke.Late = Unit {0}
FitsWoke (woke.Number n) = IsWord n
FitsWoke (woke.Fault f) = f ≡ SendOnClosed
FitsWoke _ = ⊥

-- a value that is sent is a word
abbrev pub FitsDeal : Deal → Type 0
FitsDeal (deal.Send v) = IsWord v
FitsDeal deal.Receive = Unit {0}

-- of a case below 8, on one of so many channels
pub record FitsOffer (channels : ℕ) (o : Offer) : Type 0 where
  pub case : o.case < 8
  pub listed : o.channel.0 < channels
  pub deal : FitsDeal o.deal

-- what a wait of this kind has beside its arrival
abbrev pub SuitsKind : Kind → List Offer → Option ℕ → Type 0
SuitsKind kind.Plain offers until = ((offers ≡ []) ⊎ ((o : Offer) × (offers ≡ o ∷ []) × (o.case ≡ 0))) × (until ≡ None)
SuitsKind kind.Select offers until = AllPairs IsEarlierCase offers
SuitsKind kind.Sleep offers until = (offers ≡ []) × (until ≢ None)
SuitsKind kind.Parked offers until = (offers ≡ []) × (until ≡ None)

-- all of a wait but its arrival
pub record IsFormedWait (channels : ℕ) (w : Wait) : Type 0 where
  pub few : length w.offers ≤ 8
  pub until : IfSome w.until IsWord
  pub offers : All (FitsOffer channels) w.offers
  pub kind : SuitsKind w.kind w.offers w.until

-- what a goroutine does beside so many channels
abbrev pub IsFormed : ℕ → Status → Type 0
IsFormed channels (status.Ready place answer) = FitsWoke answer
IsFormed channels (status.Waiting w) = IsFormedWait channels w
IsFormed channels _ = Unit {0}

-- of a channel
pub record IsFormedChannel (x : Channel) : Type 0 where
  pub capacity : x.capacity ≤ 4096
  pub items : All IsWord x.items

-- What the text of a state can say, beside what `FitsTogether` has. Each step keeps it whose call is of words.
pub record HasForms (limits : Limits) (s : State) : Type 0 where
  pub rows : (g : GNo) (does : Status) → status_at s.table g ≡ Some does → IsFormed (length s.channels) does
  pub few_channels : length s.channels ≤ limits.channels
  pub channels : All IsFormedChannel s.channels
  pub clock : IsWord s.table.clock

-- the status of a goroutine may stand beside so many machines and channels, but for what the types say of its numbers
abbrev pub HasForm : (machines channels : ℕ) → Status → Type 0
HasForm machines channels (status.Ready place answer) = FitsWoke answer
HasForm machines channels (status.Running m) = m.0 < machines
HasForm machines channels (status.Calling m) = m.0 < machines
HasForm machines channels (status.Waiting w) = All (FitsOffer channels) w.offers × SuitsKind w.kind w.offers w.until
HasForm machines channels _ = Unit {0}
