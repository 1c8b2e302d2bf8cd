-- A run whose machines and words are drawn: a dealer picks each act's machine, among those that are not parked, and its word.
use Rattle.std.specs.Prelude.{◌≡◌, ◌≢◌, ◌⊎◌, ℕ, zero, suc, ◌+◌, ◌≤◌, Bool, true, false, List, [], ◌∷◌, ◌++◌, map, if◌then◌else◌, Option, None, Some, slice_get}
use Rattle.gmp_base.specs.declared.ask.Ask.{Ask}
use Rattle.gmp_base.specs.declared.ask.Woke.{Woke}
use Rattle.gmp_base.specs.declared.number.GNo.{GNo}
use Rattle.gmp_seq.specs.declared.call.Limits.{Limits}
use Rattle.gmp_driver.specs.Bodies.{speaker_at}
use Rattle.gmp_driver.specs.Table.{next_act}
use Rattle.gmp_acts.specs.Hands.{PlainMachine}
use Rattle.gmp_acts.specs.System.{System, machine_at}
use Rattle.gmp_core.specs.Plays.{PlaysOne}
use Rattle.gmp_core.specs.Stage.{AreParked, Stage, machines_of, opening_stage, parked}
use Rattle.gmp_core.specs.Whole.{Whole, wanted_by}
use Rattle.gmp_core.specs.declared.want.Want.{Want}
use Rattle.gmp_core.specs.declared.want.Want.TheVariants as want
use Rattle.gmp_chance.specs.declared.dealer.Next.{Next}
use Rattle.gmp_chance.specs.declared.dealer.Whose.{Whose}
use Rattle.gmp_chance.specs.declared.dealer.Whose.TheVariants as whose

-- all machines together with the goroutines' bodies, what is outside, and the dealer
pub record Table (T O D : Type 0) : Type 0 where
  pub core : Whole T
  pub outside : O
  pub dealer : D

-- the same where it is this machine's turn
abbrev pub at_turn : {T O D : Type 0} → ℕ → Table T O D → Stage T O
at_turn turn t = record { core = t.core; outside = t.outside; turn = turn }

-- no act was made yet, and main is on the shelf; all machines are fair, or none is; there is one run, number 0
abbrev pub opening_table : {T O D : Type 0} → Bool → Limits → List ℕ → List T → O → D → Table T O D
opening_table is_fair limits capacities bodies outside dealer = record {
  core = (opening_stage is_fair limits capacities bodies outside).core;
  outside = outside;
  dealer = dealer;
}

-- of the machines below this number those that the book has not parked
abbrev pub awake_below : System → ℕ → List ℕ
awake_below k zero = []
awake_below k (suc m) = awake_below k m ++ (if parked k m then [] else (m ∷ []))

-- all machines that the book has not parked
abbrev pub awake : System → List ℕ
awake k = awake_below k (machines_of k)

-- whose act comes next: a goroutine's step, else time's where a deadline is waited for, else the machine's own
abbrev pub whose_of : Option GNo → Want → Whose
whose_of (Some g) wanted = whose.Goroutine g
whose_of None (want.Moment (Some deadline)) = whose.Clock
whose_of None wanted = whose.Machine

-- whose act this machine makes next
abbrev pub whose_next : PlainMachine → Whose
whose_next x = whose_of (speaker_at x.place x.hand) (wanted_by (next_act x))

-- what machine m does next
abbrev pub next_of : System → ℕ → Next
next_of k m = record { machine = record { 0 = m }; whose = whose_next (machine_at k (record { 0 = m })) }

-- what may come next
abbrev pub nexts : System → List Next
nexts k = map (next_of k) (awake k)

-- By what bodies ask, what their blocking calls answer, what the clock shows, and what the dealer deals.
module _ {T O D : Type 0} (asks : O → T → Woke → Ask → O → T → Type 0) (answers : O → T → ℕ → O → T → Type 0) (shows : O → Option ℕ → ℕ → O → Type 0)
    (deals : D → List Next → ℕ → ℕ → D → Type 0) where
  -- one act, of the machine and by the word that the dealer deals
  pub record DrawsOne (t t' : Table T O D) : Type 0 where
    pub place : ℕ
    pub word : ℕ
    pub m : ℕ
    pub dealt : deals t.dealer (nexts t.core.system) place word t'.dealer
    pub picked : slice_get (awake t.core.system) place ≡ Some m
    pub plays : PlaysOne asks answers shows word (at_turn m t) (at_turn (m + 1) t')

  -- so many acts, one after another
  abbrev pub Draws : ℕ → Table T O D → Table T O D → Type 0
  Draws zero t t' = t' ≡ t
  Draws (suc n) t t' = (mid : Table T O D) × Draws n t mid × DrawsOne mid t'

  -- to the run's end: it has an outcome, or as many acts were made as may be, or no machine is left to act
  pub record IsDrawn (acts : ℕ) (t t' : Table T O D) : Type 0 where
    pub made : ℕ
    pub few : made ≤ acts
    pub draws : Draws made t t'
    pub ends : (t'.core.system.book.state.outcome ≢ None) ⊎ (made ≡ acts) ⊎ AreParked t'.core.system

  -- an act was made, or nothing changed, since it has an outcome or no machine is left to act
  abbrev pub TriesDraw : Bool → Table T O D → Table T O D → Type 0
  TriesDraw true t t' = DrawsOne t t'
  TriesDraw false t t' = (t' ≡ t) × ((t.core.system.book.state.outcome ≢ None) ⊎ AreParked t.core.system)
