-- Runs by bodies that have no make.
use Rattle.std.proofs.Common.{◌≡◌, ◌⊎◌, inl, inr, ℕ, Bool, true, false, List, [], ◌∷◌, if◌then◌else◌, length, map, set, Option, None, Some, refl, sym, ap, subst, ◌∙◌}
use Rattle.std.specs.Prelude.{All}
use Rattle.std.specs.List.{slice_get}
use Rattle.std.specs.Option.{option_map}
use Rattle.std.proofs.lemmas.Option.{get_or_from_slice_get, slice_get-map, slice_get_within}
use Rattle.gmp_base.specs.declared.ask.Ask.TheVariants as ask
use Rattle.gmp_base.specs.declared.ask.Woke.{Woke}
use Rattle.gmp_base.specs.declared.ask.Woke.TheVariants as woke
use Rattle.gmp_base.specs.declared.number.MNo.{MNo}
use Rattle.gmp_script.specs.declared.commands.Command.{Command}
use Rattle.gmp_script.specs.declared.commands.Command.TheVariants.{Make}
use Rattle.gmp_script.specs.Script.{AsksTold, BringsLast, Commands, ask_of, heard, place_of, says_closed, skipped}
use Rattle.gmp_seq.proofs.Manned.{set_at}
use Rattle.gmp_seq.specs.declared.call.Call.{Call}
use Rattle.gmp_seq.specs.declared.call.Call.TheVariants as call
use Rattle.gmp_seq.specs.declared.call.Entry.{Entry}
use Rattle.gmp_seq.specs.declared.call.Limits.{Limits}
use Rattle.gmp_seq.specs.declared.call.Reply.{Reply}
use Rattle.gmp_seq.specs.State.{State, opening}
use Rattle.gmp_seq.specs.Step.{woke_after}
use Rattle.gmp_seq.specs.Table.{Table, stored_at}
use Rattle.gmp_said.specs.Said.{AsksFor, RunsTurns, Speaker, entries_of, unheard}
use Rattle.gmp_scene.specs.Reached.{IsRunOf}
use Rattle.gmp_scene.specs.Scripted.{LeadsBodies, RunsScript, Speakers}
use Rattle.gmp_step_laws.specs.Refused.{HasNoMake, IsRunButMakes}

-- no body has a make
abbrev AreMakeless : Speakers → Type 0
AreMakeless speakers = (i : ℕ) (s : Speaker Commands) (n capacity : ℕ) → slice_get speakers i ≡ Some s → slice_get s.body.commands n ≡ Some (Make capacity) → ⊥

-- whose body is in the script
in_script : (o : Option Commands) (s : Speaker Commands) → option_map unheard o ≡ Some s → o ≡ Some s.body
in_script None s e = absurd (let no : None ≡ Some s = e in cc)
in_script (Some b) s e = ap (λ (o : Option (Speaker Commands)). option_map (λ (q : Speaker Commands). q.body) o) e

makeless : (script : List Commands) → All HasNoMake script → AreMakeless (map unheard script)
makeless script all i s n capacity at make =
    let its : slice_get script i ≡ Some s.body = in_script (slice_get script i) s (sym (slice_get-map unheard script i) ∙ at) in
    let none : HasNoMake s.body = subst HasNoMake (get_or_from_slice_get script i s.body s.body its) (all i s.body (slice_get_within script i s.body its)) in
    none capacity (n, slice_get_within s.body.commands n (Make capacity) make, get_or_from_slice_get s.body.commands n (Make capacity) (Make capacity) make)

-- who asks for a make has that command
command_of : (o : Option Command) (capacity : ℕ) → ask.Make capacity ≡ ask_of o → o ≡ Some (Make capacity)
command_of (Some (Make n)) capacity e = let same : ask.Make capacity ≡ ask.Make n = e in cc
command_of _ capacity e = absurd cc

-- what a body is told changes none of its commands
heard_same : (told : Woke) (b : Commands) → (heard told b).commands ≡ b.commands
heard_same told b = by (says_closed told) where
  by : (closed : Bool) → (let c : Commands = (if closed then record b { next = skipped b } else b) in c).commands ≡ b.commands
  by true = refl
  by false = refl

-- a body that goes on keeps its commands
go_on : (speakers : Speakers) (i : ℕ) (before after : Speaker Commands) → AreMakeless speakers → slice_get speakers i ≡ Some before → after.body.commands ≡ before.body.commands → AreMakeless (set speakers i after)
go_on speakers i before after h at same j s n capacity is make =
    elim (set_at speakers i before after j at) [
      | inl here ↦
          let e : s ≡ after = (let x = sym is ∙ here.1 in cc) in
          h i before n capacity at (ap (λ (l : List Command). slice_get l n) (sym same) ∙ ap (λ (x : Speaker Commands). slice_get x.body.commands n) (sym e) ∙ make)
      | inr there ↦ h j s n capacity (sym there.1 ∙ is) make
    ]

-- a call changes one speaker, whose commands stay, or none
record ChangesOne (x y : Speakers) : Type 0 where
  i : ℕ
  before : Speaker Commands
  after : Speaker Commands
  has : slice_get x i ≡ Some before
  same : after.body.commands ≡ before.body.commands
  goes : y ≡ set x i after

asked_one : (m : MNo) (c : Call) (answer : Reply) (t : Table) (x y : Speakers) → AsksFor AsksTold BringsLast m c answer t x y → ChangesOne x y ⊎ (y ≡ x)
asked_one m c answer t x y a = inl (record { i = a.g.0; before = a.before; after = record { body = a.after; woke = woke_after answer }; has = a.has; same = a.asks.same ∙ heard_same a.before.woke a.before.body; goes = a.goes })

one_or : (m : MNo) (c : Call) (answer : Reply) (t : Table) (x y : Speakers) → LeadsBodies m c answer t x y → ChangesOne x y ⊎ (y ≡ x)
one_or m (call.Claim r) answer t x y h = inl (record { i = r.g.0; before = h.before; after = record { body = h.before.body; woke = stored_at t r.g }; has = h.has; same = refl; goes = h.goes })
one_or m (call.Leave number) answer t x y h = inl (record { i = h.g.0; before = h.before; after = record { body = h.after; woke = woke.Number number }; has = h.has; same = ap (λ (b : Commands). b.commands) h.brings.1; goes = h.goes })
one_or m call.Acquire answer t x y h = inr h
one_or m call.Take answer t x y h = inr h
one_or m (call.Put r) answer t x y h = inr h
one_or m call.Spin answer t x y h = inr h
one_or m call.Woken answer t x y h = inr h
one_or m call.Keep answer t x y h = inr h
one_or m call.Unspin answer t x y h = inr h
one_or m call.Poke answer t x y h = inr h
one_or m call.Declare answer t x y h = inr h
one_or m call.Bare answer t x y h = inr h
one_or m call.Park answer t x y h = inr h
one_or m (call.Tick moment) answer t x y h = inr h
one_or m c answer t x y h = asked_one m c answer t x y h

still_makeless : (m : MNo) (c : Call) (answer : Reply) (t : Table) (x y : Speakers) → LeadsBodies m c answer t x y → AreMakeless x → AreMakeless y
still_makeless m c answer t x y leads h =
    elim (one_or m c answer t x y leads) [
      | inl one ↦ subst AreMakeless (sym one.goes) (go_on x one.i one.before one.after h one.has one.same)
      | inr same ↦ subst AreMakeless (sym same) h
    ]

module _ (limits : Limits) where
  entries_alone : (t : List (Option Entry)) (a b : State) (x y : Speakers) → AreMakeless x → RunsTurns AsksTold BringsLast limits a x t b y → RunsScript limits a x (entries_of t) b y
  entries_alone [] a b x y h same = same
  entries_alone (Some e ∷ t) a b x y h (mid, between, step, leads, rest) =
      (mid, between, step, leads, entries_alone t mid b between y (still_makeless e.m e.call e.reply a.table x between leads h) rest)
  entries_alone (None ∷ t) a b x y h (between, passes, rest) =
      let told : Commands = heard passes.before.woke passes.before.body in
      let make : slice_get told.commands (place_of told) ≡ Some (Make passes.capacity) = command_of (slice_get told.commands (place_of told)) passes.capacity passes.asks.asks in
      absurd (h passes.g.0 passes.before (place_of told) passes.capacity passes.has
      (ap (λ (l : List Command). slice_get l (place_of told)) (sym (heard_same passes.before.woke passes.before.body)) ∙ make))

pub none_refused : (limits : Limits) (capacities : List ℕ) (script : List Commands) (h : List Entry) (s : State) (after : Speakers) → All HasNoMake script → IsRunButMakes limits capacities script h s after
    → IsRunOf limits capacities script h s after
none_refused limits capacities script h s after all run =
    subst (λ (l : List Entry). RunsScript limits (opening limits (length script) capacities) (map unheard script) l s after) run.1
    (entries_alone limits run.0 (opening limits (length script) capacities) s (map unheard script) after (makeless script all) run.2)
