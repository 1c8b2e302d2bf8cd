-- What a machine's program made: acts of its own, and at its entries of a history the calls that it named.
use Rattle.std.specs.Prelude.{◌≡◌, ◌≢◌, ◌⊎◌, ℕ, ◌+◌, ◌<◌, Bool, true, false, is_some, List, [], ◌∷◌, Option, Some, None, sum}
use Rattle.gmp_base.specs.declared.number.Readiness.{Readiness}
use Rattle.gmp_base.specs.declared.pass.Pass.{Pass}
use Rattle.gmp_base.specs.declared.refusal.Refusal.{Refusal}
use Rattle.gmp_seq.specs.declared.call.Call.{Call}
use Rattle.gmp_seq.specs.declared.call.Entry.{Entry}
use Rattle.gmp_seq.specs.declared.call.Limits.{Limits}
use Rattle.gmp_seq.specs.Run.{IsStep}
use Rattle.gmp_seq.specs.State.{State, opening}
use Rattle.gmp_driver.specs.declared.act.Act.TheVariants as act
use Rattle.gmp_driver.specs.declared.act.Told.{Told}
use Rattle.gmp_driver.specs.declared.act.Told.TheVariants as told
use Rattle.gmp_driver.specs.declared.act.Tried.TheVariants as tried
use Rattle.gmp_driver.specs.declared.act.Value.{Value}
use Rattle.gmp_driver.specs.declared.place.Place.TheVariants as place
use Rattle.gmp_driver.specs.Local.{MayCome}
use Rattle.gmp_driver.specs.Own.{with_found}
use Rattle.gmp_driver.specs.Registers.{nothing}
use Rattle.gmp_driver.specs.Table.{after, first_aside, next_act}
use Rattle.gmp_acts.specs.Acts.{given_back}
use Rattle.gmp_acts.specs.Hands.{PlainHand, PlainMachine, hand_after}
use Rattle.gmp_said.specs.Standing.{hand_refused}

-- Acts that make no entry

-- What it holds once it was told this: the ticket that it found too, to claim or to store; all but the one that it pushed; else what it held.
abbrev pub HoldsThen : Told → PlainHand → PlainHand → Type 0
HoldsThen told.Got hand hand' = (r : Readiness) × (hand' ≡ with_found r false hand)
HoldsThen told.Drained hand hand' = (r : Readiness) × (hand' ≡ with_found r true hand)
HoldsThen (told.Tried (tried.Got hint)) hand hand' = (r : Readiness) × (hand' ≡ with_found r (is_some hand.to_claim) hand)
HoldsThen (told.Drew word (tried.Got hint)) hand hand' = (r : Readiness) × (hand' ≡ with_found r (is_some hand.to_claim) hand)
HoldsThen told.Pushed hand hand' = (r : Readiness) × (hand.to_store ≡ Some r) × (hand' ≡ record hand { to_store = None })
HoldsThen what hand hand' = hand' ≡ hand

-- It was told what came of its act at a queue, on a body or the clock. A queue may give any ticket, a body ask anything, the clock show any moment.
pub record IsTold (x y : PlainMachine) : Type 0 where
  pub what : Told
  pub hand : PlainHand
  pub comes : MayCome (next_act x) what
  pub holds : HoldsThen what x.hand hand
  pub machine : y ≡ after (record x { hand = hand }) what

-- It was told that the call which it names was refused, for any reason.
pub record IsRefused (x y : PlainMachine) : Type 0 where
  pub asked : Call
  pub why : Refusal
  pub next : next_act x ≡ act.Call asked
  pub machine : y ≡ after (record x { hand = hand_refused asked why x.hand }) (told.Refused why)

-- The value that it names was given back, or was refused, or there is none left.
pub record GivesBack (x y : PlainMachine) : Type 0 where
  pub which : Option Value
  pub next : next_act x ≡ act.Surrender which
  pub machine : (y ≡ given_back x which) ⊎ ((why : Refusal) × (y ≡ after x (told.Refused why)))

-- it made one act, and no entry
abbrev pub GoesOn : PlainMachine → PlainMachine → Type 0
GoesOn x y = IsTold x y ⊎ IsRefused x y ⊎ GivesBack x y

-- such acts in a row, with the machine after each
abbrev pub GoesAll : PlainMachine → List PlainMachine → PlainMachine → Type 0
GoesAll x [] y = y ≡ x
GoesAll x (mid ∷ mids) y = GoesOn x mid × GoesAll mid mids y

-- it made acts, and no entry
abbrev pub GoesAlone : PlainMachine → PlainMachine → Type 0
GoesAlone x y = (mids : List PlainMachine) × GoesAll x mids y

-- Entries

-- The entry is the call that the machine names, by its pass and with its number of calls, from one state to another. The machine is told the
-- reply; a goroutine that it claims is to be told what the state before has stored for it.
pub record MakesEntry (e : Entry) (old new : State) (x y : PlainMachine) : Type 0 where
  pub pass : Pass
  pub next : next_act x ≡ act.Call e.call
  pub has_pass : x.pass ≡ Some pass
  pub its : pass.m ≡ e.m
  pub number : pass.calls ≡ e.k
  pub machine : y
      ≡ after (record x { pass = Some (record pass { calls = pass.calls + 1; seen = sum new.counts }); hand = hand_after old.table e.call e.reply x.hand }) (told.Replied e.reply)

-- Machine m makes the entry, after acts of its own, if it is m's. If it is another's, m stays.
abbrev pub MeetsEntry : ℕ → Entry → State → State → PlainMachine → PlainMachine → Type 0
MeetsEntry m e old new x z = ((e.m.0 ≢ m) × (z ≡ x)) ⊎ ((e.m.0 ≡ m) × (y : PlainMachine) × GoesAlone x y × MakesEntry e old new y z)

-- Machine m went from x to z along these entries, which are steps from one state to another: it made exactly those that are its own, in order.
abbrev pub GoesAlong : Limits → ℕ → State → List Entry → State → PlainMachine → PlainMachine → Type 0
GoesAlong limits m old [] new x z = (new ≡ old) × GoesAlone x z
GoesAlong limits m old (e ∷ h) new x z = (mid : State) × (y : PlainMachine) × IsStep limits e old mid × MeetsEntry m e old mid x y × GoesAlong limits m mid h new y z

-- Runs

-- the pass of machine m before its first call
abbrev pub first_pass : ℕ → ℕ → Pass
first_pass run m = record { run = run; m = record { 0 = m }; calls = 0; seen = 0 }

-- a machine with this pass before its first act, in a run with so many processors, fair or not
abbrev pub first_machine : Pass → ℕ → Bool → PlainMachine
first_machine pass procs is_fair = record { run = pass.run; procs = procs; place = place.Start; fresh = false; turns = 0; aside = first_aside is_fair; pass = Some pass; hand = nothing }

-- From its start the program of machine m went along this history, from the opening to the last state, and is here now.
abbrev pub CameTo : ℕ → Bool → Limits → ℕ → List ℕ → State → List Entry → ℕ → PlainMachine → Type 0
CameTo run is_fair limits bodies capacities last h m x = GoesAlong limits m (opening limits bodies capacities) h last (first_machine (first_pass run m) limits.procs is_fair) x

-- Each of so many machines made its entries of the history by its own program, and no others: by acts of its own and these it came somewhere.
abbrev pub AreMade : ℕ → ℕ → Bool → Limits → ℕ → List ℕ → State → List Entry → Type 0
AreMade machines run is_fair limits bodies capacities last h = (m : ℕ) → m < machines → ∥ ((x : PlainMachine) × CameTo run is_fair limits bodies capacities last h m x) ∥₁
