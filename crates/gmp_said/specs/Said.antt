-- A run of the scheduler by these bodies: each of a goroutine's calls is what its body asks once it is told what the history gives it, and what a
-- blocking call brings is its body's. A make that memory refuses has no entry: its goroutine is told so, and goes on. Nothing is said of machines.
use Rattle.std.specs.Prelude.{◌≡◌, ◌⊎◌, ℕ, Option, Some, None, List, [], ◌∷◌, length, map, slice_get, slice_set}
use Rattle.gmp_base.specs.declared.ask.Ask.{Ask}
use Rattle.gmp_base.specs.declared.ask.Ask.TheVariants as ask
use Rattle.gmp_base.specs.declared.ask.Woke.{Woke}
use Rattle.gmp_base.specs.declared.ask.Woke.TheVariants as woke
use Rattle.gmp_base.specs.declared.number.GNo.{GNo}
use Rattle.gmp_base.specs.declared.number.MNo.{MNo}
use Rattle.gmp_base.specs.declared.number.Readiness.{Readiness}
use Rattle.gmp_seq.specs.declared.call.Call.{Call}
use Rattle.gmp_seq.specs.declared.call.Call.TheVariants as call
use Rattle.gmp_seq.specs.declared.call.Entry.{Entry}
use Rattle.gmp_seq.specs.declared.call.Limits.{Limits}
use Rattle.gmp_seq.specs.declared.call.Reply.{Reply}
use Rattle.gmp_seq.specs.Needs.{WantsMemory}
use Rattle.gmp_seq.specs.Run.{IsStep}
use Rattle.gmp_seq.specs.State.{State, opening}
use Rattle.gmp_seq.specs.Step.{woke_after}
use Rattle.gmp_seq.specs.Table.{Table, IsCalling, IsRunning, stored_at}
use Rattle.gmp_driver.specs.Table.{call_for}

-- how bodies are resumed: from one, with this answer, to this ask and the body after
abbrev pub Resumes : Type 0 → Type 1
Resumes T = T → Woke → Ask → T → Type 0

-- how they make their blocking calls: from one, to this number and the body after
abbrev pub Blocks : Type 0 → Type 1
Blocks T = T → ℕ → T → Type 0

-- a goroutine's body as its last call left it, and what it is told when it is resumed next
pub record Speaker (T : Type 0) : Type 0 where
  pub body : T
  pub woke : Woke

-- one that made no call; what it is told its first claim says
abbrev pub unheard : {T : Type 0} → T → Speaker T
unheard body = record { body = body; woke = woke.Done }

-- the entries among turns, of which the others are makes that were refused
abbrev pub entries_of : List (Option Entry) → List Entry
entries_of [] = []
entries_of (None ∷ turns) = entries_of turns
entries_of (Some e ∷ turns) = e ∷ entries_of turns

module _ {T : Type 0} (resumes : Resumes T) (blocks : Blocks T) where
  -- The goroutine that m runs, told what it is to be told, asks for this call, and is to be told the reply.
  pub record AsksFor (m : MNo) (what : Call) (answer : Reply) (t : Table) (old new : List (Speaker T)) : Type 0 where
    pub g : GNo
    pub runs : IsRunning t g m
    pub before : Speaker T
    pub has : slice_get old g.0 ≡ Some before
    pub asked : Ask
    pub after : T
    pub asks : resumes before.body before.woke asked after
    pub calls : what ≡ call_for asked
    pub goes : new ≡ slice_set old g.0 (record { body = after; woke = woke_after answer })

  -- the goroutine that is claimed is to be told what was stored for it
  pub record TakesUp (r : Readiness) (t : Table) (old new : List (Speaker T)) : Type 0 where
    pub before : Speaker T
    pub has : slice_get old r.g.0 ≡ Some before
    pub goes : new ≡ slice_set old r.g.0 (record { body = before.body; woke = stored_at t r.g })

  -- The goroutine whose blocking call m makes brings this number, and is to be told it.
  pub record Brings (m : MNo) (number : ℕ) (t : Table) (old new : List (Speaker T)) : Type 0 where
    pub g : GNo
    pub calls : IsCalling t g m
    pub before : Speaker T
    pub has : slice_get old g.0 ≡ Some before
    pub after : T
    pub brings : blocks before.body number after
    pub goes : new ≡ slice_set old g.0 (record { body = after; woke = woke.Number number })

  -- what a call of m and its reply do to the goroutines; a call of the machine's own does nothing
  abbrev pub LeadsSpeakers : MNo → Call → Reply → Table → List (Speaker T) → List (Speaker T) → Type 0
  LeadsSpeakers m (call.Claim r) answer t old new = TakesUp r t old new
  LeadsSpeakers m (call.Leave number) answer t old new = Brings m number t old new
  LeadsSpeakers m call.Acquire answer t old new = new ≡ old
  LeadsSpeakers m call.Take answer t old new = new ≡ old
  LeadsSpeakers m (call.Put r) answer t old new = new ≡ old
  LeadsSpeakers m call.Spin answer t old new = new ≡ old
  LeadsSpeakers m call.Woken answer t old new = new ≡ old
  LeadsSpeakers m call.Keep answer t old new = new ≡ old
  LeadsSpeakers m call.Unspin answer t old new = new ≡ old
  LeadsSpeakers m call.Poke answer t old new = new ≡ old
  LeadsSpeakers m call.Declare answer t old new = new ≡ old
  LeadsSpeakers m call.Bare answer t old new = new ≡ old
  LeadsSpeakers m call.Park answer t old new = new ≡ old
  LeadsSpeakers m (call.Tick moment) answer t old new = new ≡ old
  LeadsSpeakers m what answer t old new = AsksFor m what answer t old new

  -- while the run lasts, a goroutine that a machine runs asks for a make that wants memory, and is to be told that there is none
  pub record PassesMake (limits : Limits) (s : State) (old new : List (Speaker T)) : Type 0 where
    pub lasts : s.outcome ≡ None
    pub m : MNo
    pub g : GNo
    pub runs : IsRunning s.table g m
    pub before : Speaker T
    pub has : slice_get old g.0 ≡ Some before
    pub capacity : ℕ
    pub after : T
    pub asks : resumes before.body before.woke (ask.Make capacity) after
    pub wants : WantsMemory limits (call.Make capacity) s
    pub goes : new ≡ slice_set old g.0 (record { body = after; woke = woke.NoMemory })

  -- turns by these goroutines: each a step, or a make that was refused
  abbrev pub RunsTurns : Limits → State → List (Speaker T) → List (Option Entry) → State → List (Speaker T) → Type 0
  RunsTurns limits old speakers [] new speakers' = (new ≡ old) × (speakers' ≡ speakers)
  RunsTurns limits old speakers (Some e ∷ turns) new speakers' =
      (mid : State) × (between : List (Speaker T)) × IsStep limits e old mid × LeadsSpeakers e.m e.call e.reply old.table speakers between × RunsTurns limits mid between turns new speakers'
  RunsTurns limits old speakers (None ∷ turns) new speakers' = (between : List (Speaker T)) × PassesMake limits old speakers between × RunsTurns limits old between turns new speakers'

  -- What the body of goroutine g is behind the last entry, where this is the table then: it is as its last call left it, or asked once more on
  -- the machine that runs it, or its blocking call was made.
  abbrev pub IsLast : Table → GNo → Speaker T → T → Type 0
  IsLast t g s b =
      (s.body ≡ b) ⊎ ((m : MNo) × IsRunning t g m × (asked : Ask) × resumes s.body s.woke asked b) ⊎ ((m : MNo) × IsCalling t g m × (number : ℕ) × blocks s.body number b)

  abbrev pub AreLast : Table → List (Speaker T) → List T → Type 0
  AreLast t speakers bodies = (i : ℕ) (b : T) → slice_get bodies i ≡ Some b → (s : Speaker T) × (slice_get speakers i ≡ Some s) × IsLast t (record { 0 = i }) s b

  -- The history is what these bodies said from the opening on, and they are those that were given.
  abbrev pub IsSaid : Limits → List ℕ → List T → List Entry → State → List (Speaker T) → Type 0
  IsSaid limits capacities given h last speakers =
      (turns : List (Option Entry)) × (entries_of turns ≡ h) × RunsTurns limits (opening limits (length given) capacities) (map unheard given) turns last speakers

  -- the same, and these bodies are what became of them
  abbrev pub AreSaid : Limits → List ℕ → List T → List Entry → List T → Type 0
  AreSaid limits capacities given h bodies =
      ∥ ((last : State) × (speakers : List (Speaker T)) × IsSaid limits capacities given h last speakers × AreLast last.table speakers bodies) ∥₁
