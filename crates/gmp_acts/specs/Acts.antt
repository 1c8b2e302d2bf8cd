-- What one act of a machine does to the system. Which act it is, the machine's place says.
use Rattle.std.specs.Prelude.{◌≡◌, ◌≢◌, ◌⊎◌, ℕ, ◌+◌, ◌<◌, ◌≤◌, Bool, true, false, List, [], ◌∷◌, ◌++◌, Option, None, Some, length, slice_index_or, slice_set}
use Rattle.gmp_base.specs.declared.ask.Ask.{Ask}
use Rattle.gmp_base.specs.declared.ask.Ask.TheVariants as ask
use Rattle.gmp_base.specs.declared.number.MNo.{MNo}
use Rattle.gmp_base.specs.declared.number.PNo.{PNo}
use Rattle.gmp_base.specs.declared.number.Readiness.{Readiness}
use Rattle.gmp_base.specs.declared.pass.Pass.{Pass}
use Rattle.gmp_base.specs.declared.refusal.Refusal.TheVariants.{Over, OutOfMemory}
use Rattle.gmp_seq.specs.declared.call.Call.{Call}
use Rattle.gmp_seq.specs.declared.call.Reply.{Reply}
use Rattle.gmp_seq.specs.Needs.{Needs, WantsMemory}
use Rattle.gmp_seq.specs.Step.{Step}
use Rattle.gmp_acts.specs.declared.choice.Choice.{Choice}
use Rattle.gmp_acts.specs.declared.made.Made.{Made}
use Rattle.gmp_acts.specs.Hands.{PlainHand, PlainMachine, hand_after, hand_unmade}
use Rattle.gmp_acts.specs.System.{BookRun, System, Has, count_of, count_of_all, machine_at}
use Rattle.gmp_driver.specs.declared.act.Act.{Act}
use Rattle.gmp_driver.specs.declared.act.Act.TheVariants as act
use Rattle.gmp_driver.specs.declared.act.Told.{Told}
use Rattle.gmp_driver.specs.declared.act.Told.TheVariants as told
use Rattle.gmp_driver.specs.declared.act.Tried.TheVariants as tried
use Rattle.gmp_driver.specs.declared.act.Value.{Value}
use Rattle.gmp_driver.specs.Hunt.{begun, victim_of}
use Rattle.gmp_driver.specs.Local.{popped_for, tells}
use Rattle.gmp_driver.specs.Own.{with_found}
use Rattle.gmp_driver.specs.Registers.{but}
use Rattle.gmp_driver.specs.Seen.{own_processor, seen}
use Rattle.gmp_driver.specs.Table.{after, next_act}

-- Book calls

-- The machine's pass is of the run, its own and its latest.
pub record MayCall (x : PlainMachine) (m : MNo) (book : BookRun) : Type 0 where
  pub pass : Pass
  pub has_pass : x.pass ≡ Some pass
  pub run : pass.run ≡ book.run
  pub its : pass.m ≡ m
  pub turn : pass.calls ≡ count_of book m
  pub seen : pass.seen ≤ count_of_all book

-- The scheduler grants the call: the machine may call, what the call needs is met, and what the machine holds is its own.
pub record IsGranted (x : PlainMachine) (m : MNo) (asked : Call) (book : BookRun) : Type 0 where
  pub may : MayCall x m book
  pub needs : Needs m asked book.state
  pub has : Has book.state m x.hand

-- A step of the scheduler: its entry goes last, the call and its reply go last in what was made, and the machine is told the reply.
pub record Accepted (x : PlainMachine) (m : MNo) (asked : Call) (book : BookRun) (own : List Made) (x' : PlainMachine) (book' : BookRun) (own' : List Made) : Type 0 where
  pub granted : IsGranted x m asked book
  pub answer : Reply
  pub step : Step book.limits m asked answer book.state book'.state
  pub entry : book'.history ≡ book.history ++ record { m = m; k = count_of book m; call = asked; reply = answer } ∷ []
  pub opened : book' ≡ record book { history = book'.history; state = book'.state }
  pub made : own' ≡ own ++ record { m = m; call = asked; reply = answer } ∷ []
  pub machine : x'
      ≡ after (record x { pass = Some (record granted.may.pass { calls = granted.may.pass.calls + 1; seen = count_of_all book' }); hand = hand_after book.state.table asked answer x.hand }) (told.Replied answer)

-- The run is over: there is no entry, and the machine is told so.
pub record Stopped (x : PlainMachine) (book : BookRun) (own : List Made) (x' : PlainMachine) (book' : BookRun) (own' : List Made) : Type 0 where
  pub over : book.state.outcome ≢ None
  pub same : book' ≡ book
  pub none : own' ≡ own
  pub machine : x' ≡ after x (told.Refused Over)

-- Memory was refused for a channel, by a make that would be a step: there is no entry, and the goroutine is told so.
pub record Unmade (x : PlainMachine) (m : MNo) (asked : Call) (book : BookRun) (own : List Made) (x' : PlainMachine) (book' : BookRun) (own' : List Made) : Type 0 where
  pub granted : IsGranted x m asked book
  pub lasts : book.state.outcome ≡ None
  pub makes : WantsMemory book.limits asked book.state
  pub same : book' ≡ book
  pub none : own' ≡ own
  pub machine : x' ≡ after (record x { hand = hand_unmade x.hand }) (told.Refused OutOfMemory)

-- The scheduler does not grant the call, and nothing changes.
pub record Declined (x : PlainMachine) (m : MNo) (asked : Call) (book : BookRun) (own : List Made) (x' : PlainMachine) (book' : BookRun) (own' : List Made) : Type 0 where
  pub lasts : book.state.outcome ≡ None
  pub unmet : IsGranted x m asked book → ⊥
  pub same : book' ≡ book
  pub none : own' ≡ own
  pub machine : x' ≡ x

-- what a book call of machine m comes to
abbrev pub Answers : PlainMachine → MNo → Call → BookRun → List Made → PlainMachine → BookRun → List Made → Type 0
Answers x m asked book own x' book' own' =
    Accepted x m asked book own x' book' own' ⊎ Stopped x book own x' book' own' ⊎ Unmade x m asked book own x' book' own' ⊎ Declined x m asked book own x' book' own'

abbrev pub MakesCall : System → MNo → Call → System → Type 0
MakesCall k m asked k' = (x' : PlainMachine) × (book' : BookRun) × (own' : List Made) × Answers (machine_at k m) m asked k.book k.own x' book' own'
    × (k' ≡ record k { book = book'; machines = slice_set k.machines m.0 x'; own = own' })

-- Acts on local queues

-- a machine and the local queues
abbrev pub WithQueues : Type 0
WithQueues = PlainMachine × List (List Readiness)

-- the system with another machine m and other queues
abbrev pub with_local : System → MNo → WithQueues → System
with_local k m l = record k { machines = slice_set k.machines m.0 l.0; queues = l.1 }

abbrev pub with_queue : List (List Readiness) → Option PNo → List Readiness → List (List Readiness)
with_queue queues None queue = queues
with_queue queues (Some p) queue = slice_set queues p.0 queue

abbrev pub queue_of : List (List Readiness) → Option PNo → List Readiness
queue_of queues None = []
queue_of queues (Some p) = slice_index_or queues p.0 []

-- a ticket that is stolen is to claim, or, where there is one to claim, to store
abbrev pub with_ticket : Readiness → PlainHand → Option Readiness → PlainHand
with_ticket r hand None = record hand { to_claim = Some r }
with_ticket r hand (Some t) = record hand { to_store = Some r }

-- the machine takes the first of the own queue, to claim it or to store it, or there is none
abbrev pub own_taken_from : Bool → PlainMachine → List (List Readiness) → List Readiness → WithQueues
own_taken_from is_to_store x queues [] = (after x told.Empty, queues)
own_taken_from is_to_store x queues (r ∷ rest) =
    (after (record x { hand = with_found r is_to_store x.hand }) (popped_for is_to_store), with_queue queues (own_processor x.hand) rest)

abbrev pub own_taken : Bool → PlainMachine → List (List Readiness) → WithQueues
own_taken is_to_store x queues = own_taken_from is_to_store x queues (queue_of queues (own_processor x.hand))

-- a pop's ticket is one to claim
abbrev pub popped : PlainMachine → List (List Readiness) → WithQueues
popped x queues = own_taken false x queues

-- a drain's is one to store
abbrev pub drained : PlainMachine → List (List Readiness) → WithQueues
drained x queues = own_taken true x queues

-- it takes the first of processor v's queue, or there is none; the hint is the queue's length before
abbrev pub stolen_from : PlainMachine → Option ℕ → List (List Readiness) → PNo → List Readiness → WithQueues
stolen_from x drawn queues v [] = (after x (tells drawn tried.Empty), queues)
stolen_from x drawn queues v (r ∷ rest) =
    (after (record x { hand = with_ticket r x.hand x.hand.to_claim }) (tells drawn (tried.Got (length (r ∷ rest)))), slice_set queues v.0 rest)

abbrev pub stolen : PlainMachine → Option ℕ → List (List Readiness) → PNo → Bool → WithQueues
stolen x drawn queues v true = (after x (tells drawn tried.Unsure), queues)
stolen x drawn queues v false = stolen_from x drawn queues v (slice_index_or queues v.0 [])

-- the ticket to store goes last on the machine's own queue, or the push is refused
abbrev pub pushed : PlainMachine → List (List Readiness) → Option Readiness → Bool → WithQueues
pushed x queues None refused = (x, queues)
pushed x queues (Some r) true = (after x told.PushRefused, queues)
pushed x queues (Some r) false =
    (after (record x { hand = record x.hand { to_store = None } }) told.Pushed, with_queue queues (own_processor x.hand) (queue_of queues (own_processor x.hand) ++ r ∷ []))

-- Local acts

-- the value is given back, or there is none
abbrev pub given_back : PlainMachine → Option Value → PlainMachine
given_back x None = after x told.Nothing
given_back x (Some which) = after (record x { hand = but (Some which) x.hand }) told.Surrendered

-- the machine is told this, and nothing else changes
abbrev pub with_told : System → MNo → Told → System
with_told k m what = record k { machines = slice_set k.machines m.0 (after (machine_at k m) what) }

-- what an act of machine m makes of the system
abbrev pub DoesAct : Act → System → MNo → Choice → System → Type 0
DoesAct (act.Call asked) k m choice k' = MakesCall k m asked k'
DoesAct act.Pop k m choice k' = k' ≡ with_local k m (popped (machine_at k m) k.queues)
DoesAct act.Drain k m choice k' = k' ≡ with_local k m (drained (machine_at k m) k.queues)
DoesAct act.Push k m choice k' = k' ≡ with_local k m (pushed (machine_at k m) k.queues (machine_at k m).hand.to_store choice.push_refused)
DoesAct act.Hunt k m choice k' =
    k' ≡ with_local k m (stolen (machine_at k m) (Some choice.word) k.queues (victim_of (machine_at k m).procs (begun (seen (machine_at k m)) choice.word)) choice.unsure)
DoesAct (act.Steal v) k m choice k' = k' ≡ with_local k m (stolen (machine_at k m) None k.queues v choice.unsure)
DoesAct act.Resume k m choice k' = k' ≡ with_told k m (told.Asked choice.ask)
DoesAct act.Block k m choice k' = k' ≡ with_told k m (told.Number choice.number)
DoesAct (act.Clock deadline) k m choice k' = k' ≡ with_told k m (told.Moment choice.moment)
DoesAct (act.Surrender which) k m choice k' = k' ≡ record k { machines = slice_set k.machines m.0 (given_back (machine_at k m) which) }
DoesAct act.Nothing k m choice k' = k' ≡ k

-- a select has at most 8 cases: its type holds no more
abbrev pub HasFewCases : Ask → Type 0
HasFewCases (ask.Select cases has_default until) = length cases ≤ 8
HasFewCases asked = Unit {0}

-- One act of machine m, by where its program stands. An act of no machine changes nothing.
pub record Acts (k : System) (m : MNo) (choice : Choice) (k' : System) : Type 0 where
  pub few : HasFewCases choice.ask
  pub by_place : m.0 < length k.machines → DoesAct (next_act (machine_at k m)) k m choice k'
  pub else_none : length k.machines ≤ m.0 → k' ≡ k

-- acts in a row
abbrev pub ActsAll : System → List (MNo × Choice) → System → Type 0
ActsAll k [] k' = k' ≡ k
ActsAll k (move ∷ moves) k' = (mid : System) × Acts k move.0 move.1 mid × ActsAll mid moves k'
