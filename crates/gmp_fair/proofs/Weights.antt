-- One step of a machine's program: what it may still claim before it looks aside, and how far it is from its look at one line.
use Rattle.std.proofs.Common.{◌≡◌, ◌⊎◌, inl, inr, ℕ, ◌+◌, ◌-◌, ◌==◌, ◌<◌, ◌≤◌, ◌&&◌, Bool, true, false, if◌then◌else◌, nat_le, nat_lt, is_some, Option, None, Some, refl, sym, ap, subst, ◌∙◌, arith}
use Rattle.std.proofs.lemmas.Bool.{false≢true}
use Rattle.std.proofs.lemmas.Bool.Decides.{nat_tests}
use Rattle.gmp_base.specs.declared.ask.Ask.{Ask}
use Rattle.gmp_base.specs.declared.ask.Ask.TheVariants as ask
use Rattle.gmp_base.specs.declared.number.PNo.{PNo}
use Rattle.gmp_base.specs.declared.refusal.Refusal.TheVariants as refusal
use Rattle.gmp_seq.specs.declared.call.Reply.{Reply}
use Rattle.gmp_seq.specs.declared.call.Reply.TheVariants as reply
use Rattle.gmp_seq.specs.Step.{closed_in, ticket_in}
use Rattle.gmp_driver.specs.declared.act.Act.{Act}
use Rattle.gmp_driver.specs.declared.act.Act.TheVariants as act
use Rattle.gmp_driver.specs.declared.act.Told.{Told}
use Rattle.gmp_driver.specs.declared.act.Told.TheVariants as told
use Rattle.gmp_driver.specs.declared.act.Tried.TheVariants as tried
use Rattle.gmp_driver.specs.declared.place.Aside.{Aside}
use Rattle.gmp_driver.specs.declared.place.Aside.TheVariants as looks
use Rattle.gmp_driver.specs.declared.place.Place.{Place}
use Rattle.gmp_driver.specs.declared.place.Place.TheVariants as place
use Rattle.gmp_driver.specs.declared.seen.Seen.{Seen}
use Rattle.gmp_driver.specs.Local.{MayCome}
use Rattle.gmp_driver.specs.Table.{act_at, after_ask, aside_at, is_late, next_aside, next_place, next_turns, raised, turned}
use Rattle.gmp_fair.specs.Fair.{IsWithin, leads_to_claim}

-- At Look a ticket is found, or none, only where fewer than 16 claims were made
abbrev pub CanCome : Told → Place → ℕ → Type 0
CanCome told.Got place.Look turns = turns ≤ 15
CanCome told.Empty place.Look turns = turns ≤ 15
CanCome what here turns = Unit {0}

pub le_15 : (n : ℕ) → nat_le 16 n ≡ false → n ≤ 15
le_15 n e = grind (arith, nat_tests, e)

looked : (b : Bool) (n : ℕ) (a : Act) → nat_le 16 n ≡ b → (if b then act.Clock None else act.Pop) ≡ a → a ≡ act.Pop → n ≤ 15
looked true n a e is pop = absurd (let no : act.Clock None ≡ act.Pop = is ∙ pop in (let bad : ⊥ = cc in bad))
looked false n a e is pop = le_15 n e

-- what comes of an act that is no call
pub comes : (s : Seen) (what : Told) (here : Place) (a : Act) → act_at s here ≡ a → MayCome a what → CanCome what here s.turns
comes s told.Got place.Look act.Pop is m = looked (nat_le 16 s.turns) s.turns act.Pop refl is refl
comes s told.Empty place.Look act.Pop is m = looked (nat_le 16 s.turns) s.turns act.Pop refl is refl
comes s told.Empty place.Look act.Drain is m = absurd (not_drain (nat_le 16 s.turns) is) where
  not_drain : (b : Bool) → (if b then act.Clock None else act.Pop) ≡ act.Drain → ⊥
  not_drain true e = cc
  not_drain false e = cc
comes s told.Got place.Look _ is m = absurd m
comes s told.Empty place.Look _ is m = absurd m
comes s what here a is m = tt

-- Steadiness

asks_on : (asked : Ask) (answer : Reply) → leads_to_claim (after_ask asked answer) ≡ false
asks_on asked reply.Waits = refl
asks_on asked (reply.Shelved r) = refl
asks_on asked reply.Dead = refl
asks_on asked (reply.Entered p m) = refl
asks_on asked reply.MainEnded = refl
asks_on asked (reply.Number before) = by (raised before asked) where
  by : (b : Bool) → leads_to_claim (if b then place.Poke else place.Run) ≡ false
  by true = refl
  by false = refl
asks_on asked answer = by (is_some (ticket_in answer)) (nat_lt 0 (closed_in answer)) where
  by : (b c : Bool) → leads_to_claim (if b then place.Store else (if c then place.Poke else place.Run)) ≡ false
  by true c = refl
  by false true = refl
  by false false = refl

module _ (s : Seen) (fair : is_some s.aside ≡ true) where
  -- the machine, told this, is late nowhere on the way to a claim
  abbrev StaysLeft : Place → Told → Type 0
  StaysLeft here what = leads_to_claim (next_place s here what) ≡ true → next_turns s here what ≤ 15

  not_late : (b : Bool) → is_late s ≡ b → leads_to_claim (if b then place.PutHave else place.Have) ≡ true → s.turns ≤ 15
  not_late true e h = absurd (false≢true h)
  not_late false e h = (let e' : nat_le 16 s.turns ≡ false = ap (λ (c : Bool). c && nat_le 16 s.turns) (sym fair) ∙ e in le_15 s.turns e')

  pub left_on : (here : Place) (what : Told) → CanCome what here s.turns → (leads_to_claim here ≡ true → s.turns ≤ 15) → StaysLeft here what
  left_on place.Start (told.Replied (reply.Proc p)) c l e = absurd (false≢true e)
  left_on place.Start (told.Replied reply.Nothing) c l e = absurd (false≢true e)
  left_on place.Start (told.Refused refusal.Over) c l e = absurd (false≢true e)
  left_on place.Start _ c l e = absurd (false≢true e)
  left_on place.Look (told.Moment now) c l e = absurd (false≢true e)
  left_on place.Look told.Got c l e = c
  left_on place.Look told.Empty c l e = c
  left_on place.Look (told.Refused refusal.Over) c l e = absurd (false≢true e)
  left_on place.Look _ c l e = absurd (false≢true e)
  left_on (place.Ticking now) (told.Replied (reply.Woke n)) c l e = omega arith
  left_on (place.Ticking now) (told.Refused refusal.Over) c l e = absurd (false≢true e)
  left_on (place.Ticking now) _ c l e = absurd (false≢true e)
  left_on place.Keep (told.Replied (reply.Answer false)) c l e = absurd (false≢true e)
  left_on place.Keep _ c l e = l refl
  left_on place.Drain told.Drained c l e = absurd (false≢true e)
  left_on place.Drain told.Empty c l e = absurd (false≢true e)
  left_on place.Drain (told.Refused refusal.Over) c l e = absurd (false≢true e)
  left_on place.Drain _ c l e = absurd (false≢true e)
  left_on place.PutDrain (told.Replied reply.Shelf) c l e = absurd (false≢true e)
  left_on place.PutDrain (told.Refused refusal.Over) c l e = absurd (false≢true e)
  left_on place.PutDrain _ c l e = absurd (false≢true e)
  left_on place.Claim (told.Replied reply.Held) c l e = absurd (false≢true e)
  left_on place.Claim _ c l e = l refl
  left_on place.Run (told.Asked asked) c l e = absurd (false≢true e)
  left_on place.Run (told.Refused refusal.Over) c l e = absurd (false≢true e)
  left_on place.Run _ c l e = absurd (false≢true e)
  left_on (place.Do asked) (told.Replied answer) c l e = absurd (false≢true (sym (asks_on asked answer) ∙ e))
  left_on (place.Do (ask.Make capacity)) (told.Refused refusal.OutOfMemory) c l e = absurd (false≢true e)
  left_on (place.Do asked) (told.Refused refusal.Over) c l e = absurd (false≢true e)
  left_on (place.Do asked) _ c l e = absurd (false≢true e)
  left_on place.Store told.Pushed c l e = absurd (false≢true e)
  left_on place.Store told.PushRefused c l e = absurd (false≢true e)
  left_on place.Store (told.Refused refusal.Over) c l e = absurd (false≢true e)
  left_on place.Store _ c l e = absurd (false≢true e)
  left_on place.PutStore (told.Replied reply.Shelf) c l e = absurd (false≢true e)
  left_on place.PutStore (told.Refused refusal.Over) c l e = absurd (false≢true e)
  left_on place.PutStore _ c l e = absurd (false≢true e)
  left_on place.Poke (told.Replied (reply.Wakes n)) c l e = absurd (false≢true e)
  left_on place.Poke (told.Replied reply.Nothing) c l e = absurd (false≢true e)
  left_on place.Poke (told.Refused refusal.Over) c l e = absurd (false≢true e)
  left_on place.Poke _ c l e = absurd (false≢true e)
  left_on place.Block (told.Number number) c l e = absurd (false≢true e)
  left_on place.Block (told.Refused refusal.Over) c l e = absurd (false≢true e)
  left_on place.Block _ c l e = absurd (false≢true e)
  left_on (place.Leave number) (told.Replied (reply.Runs p)) c l e = absurd (false≢true e)
  left_on (place.Leave number) (told.Replied (reply.Shelved r)) c l e = absurd (false≢true e)
  left_on (place.Leave number) (told.Refused refusal.Over) c l e = absurd (false≢true e)
  left_on (place.Leave number) _ c l e = absurd (false≢true e)
  left_on place.Drop (told.Replied (reply.Idle p)) c l e = absurd (false≢true e)
  left_on place.Drop (told.Refused refusal.Over) c l e = absurd (false≢true e)
  left_on place.Drop _ c l e = absurd (false≢true e)
  left_on place.Bare (told.Replied reply.Done) c l e = absurd (false≢true e)
  left_on place.Bare (told.Refused refusal.Over) c l e = absurd (false≢true e)
  left_on place.Bare _ c l e = absurd (false≢true e)
  left_on (place.Scan v) (told.Tried (tried.Got hint)) c l e = not_late (is_late s) refl e
  left_on (place.Scan v) (told.Tried tried.Empty) c l e = absurd (by (nat_lt (v.0 + 1) s.procs) e) where
    by : (b : Bool) → leads_to_claim (if b then place.Scan (record { 0 = v.0 + 1 }) else place.Park) ≡ true → ⊥
    by true h = false≢true h
    by false h = false≢true h
  left_on (place.Scan v) (told.Tried tried.Unsure) c l e = absurd (false≢true e)
  left_on (place.Scan v) (told.Refused refusal.Over) c l e = absurd (false≢true e)
  left_on (place.Scan v) _ c l e = absurd (false≢true e)
  left_on place.PutHave (told.Replied reply.Shelf) c l e = absurd (by (is_late s) e) where
    by : (b : Bool) → leads_to_claim (if b then place.Start else place.Bare) ≡ true → ⊥
    by true h = false≢true h
    by false h = false≢true h
  left_on place.PutHave (told.Refused refusal.Over) c l e = absurd (false≢true e)
  left_on place.PutHave _ c l e = absurd (false≢true e)
  left_on place.Park (told.Replied reply.Parked) c l e = absurd (false≢true e)
  left_on place.Park (told.Replied reply.Work) c l e = absurd (false≢true e)
  left_on place.Park (told.Replied (reply.Mind until)) c l e = absurd (false≢true e)
  left_on place.Park (told.Replied reply.AllAsleep) c l e = absurd (false≢true e)
  left_on place.Park (told.Replied reply.LookAgain) c l e = absurd (false≢true e)
  left_on place.Park (told.Refused refusal.Over) c l e = absurd (false≢true e)
  left_on place.Park _ c l e = absurd (false≢true e)
  left_on place.Rest (told.Replied (reply.Answer true)) c l e = absurd (false≢true e)
  left_on place.Rest (told.Replied (reply.Answer false)) c l e = absurd (false≢true e)
  left_on place.Rest (told.Refused refusal.Over) c l e = absurd (false≢true e)
  left_on place.Rest _ c l e = absurd (false≢true e)
  left_on (place.Mind deadline) (told.Moment now) c l e = absurd (false≢true e)
  left_on (place.Mind deadline) (told.Refused refusal.Over) c l e = absurd (false≢true e)
  left_on (place.Mind deadline) _ c l e = absurd (false≢true e)
  left_on (place.MindTick now) (told.Replied (reply.Woke n)) c l e = absurd (false≢true e)
  left_on (place.MindTick now) (told.Refused refusal.Over) c l e = absurd (false≢true e)
  left_on (place.MindTick now) _ c l e = absurd (false≢true e)
  left_on place.Over told.Surrendered c l e = absurd (false≢true e)
  left_on place.Over told.Nothing c l e = absurd (false≢true e)
  left_on place.Over (told.Refused refusal.Over) c l e = absurd (false≢true e)
  left_on place.Over _ c l e = absurd (false≢true e)
  left_on place.Done (told.Refused refusal.Over) c l e = absurd (false≢true e)
  left_on place.Done _ c l e = absurd (false≢true e)
  left_on _ what c l e = l refl

  fair_turned : (procs : ℕ) (a : Option Aside) → is_some (turned procs a) ≡ is_some a
  fair_turned procs None = refl
  fair_turned procs (Some (looks.Shelf v)) = refl
  fair_turned procs (Some (looks.Queue v)) = refl

  -- it stays fair
  pub fair_on : (here : Place) (what : Told) → is_some (next_aside s here what) ≡ true
  fair_on (place.Ticking now) (told.Replied (reply.Woke n)) = by (s.procs == 1) where
    by : (b : Bool) → is_some (if b then turned s.procs s.aside else s.aside) ≡ true
    by true = fair_turned s.procs s.aside ∙ fair
    by false = fair
  fair_on place.Keep (told.Replied (reply.Answer true)) = fair_turned s.procs s.aside ∙ fair
  fair_on (place.Ticking now) _ = fair
  fair_on place.Keep _ = fair
  fair_on _ what = fair

before_within : (procs : ℕ) (v : PNo) (b : Bool) → v.0 < procs → (v.0 == 0) ≡ b → (if b then procs - 1 else v.0 - 1) < procs
before_within procs v true h e = omega (arith, h)
before_within procs v false h e = omega (arith, h)

pub within_turned : (procs : ℕ) (a : Option Aside) → IsWithin procs a → IsWithin procs (turned procs a)
within_turned procs None h = tt
within_turned procs (Some (looks.Shelf v)) h = h
within_turned procs (Some (looks.Queue v)) h = before_within procs v (v.0 == 0) h refl

pub within_on : (s : Seen) (here : Place) (what : Told) → IsWithin s.procs s.aside → IsWithin s.procs (next_aside s here what)
within_on s (place.Ticking now) (told.Replied (reply.Woke n)) h = by (s.procs == 1) where
  by : (b : Bool) → IsWithin s.procs (if b then turned s.procs s.aside else s.aside)
  by true = within_turned s.procs s.aside h
  by false = h
within_on s place.Keep (told.Replied (reply.Answer true)) h = within_turned s.procs s.aside h
within_on s (place.Ticking now) _ h = h
within_on s place.Keep _ h = h
within_on s _ what h = h

-- Weights

-- which line is looked at here: the shelf, for None, or a queue
abbrev pub is_at : Place → Option PNo → Bool
is_at place.Glance None = true
is_at place.Glance (Some p) = false
is_at (place.Peek v) None = false
is_at (place.Peek v) (Some p) = v.0 == p.0
is_at here line = false

-- the claim that an answer at a place is
abbrev pub claimed : Place → Told → ℕ
claimed place.Claim (told.Replied reply.Held) = 1
claimed here what = 0

abbrev pub base : Place → ℕ → ℕ → ℕ → ℕ
base place.Keep turns done full = 16 + done
base place.Over turns done full = full
base place.Done turns done full = full
base here turns done full = turns + done

-- How far a machine has come on its way to a look at the line: `done` counts 16 for each look aside since the last one there, and once it is
-- there, or the run is over, it has come all the way.
abbrev pub weight : Option PNo → ℕ → (Option Aside → ℕ) → Place → ℕ → Option Aside → ℕ
weight line full done here turns a = if is_at here line then full else base here turns (done a) full

low_base : (here : Place) (turns done full : ℕ) → turns ≤ 16 → done + 16 ≤ full → turns + done ≤ base here turns done full
low_base place.Keep turns done full t f = omega (arith, t, f)
low_base place.Over turns done full t f = omega (arith, t, f)
low_base place.Done turns done full t f = omega (arith, t, f)
low_base _ turns done full t f = omega arith

high_base : (here : Place) (turns done full : ℕ) → turns ≤ 16 → done + 16 ≤ full → base here turns done full ≤ full
high_base place.Keep turns done full t f = omega (arith, t, f)
high_base place.Over turns done full t f = omega arith
high_base place.Done turns done full t f = omega arith
high_base _ turns done full t f = omega (arith, t, f)

module _ (line : Option PNo) (full : ℕ) (done : Option Aside → ℕ) where
  abbrev w : Place → ℕ → Option Aside → ℕ
  w here turns a = weight line full done here turns a

  low : (here : Place) (turns : ℕ) (a : Option Aside) → turns ≤ 16 → done a + 16 ≤ full → turns + done a ≤ w here turns a
  low here turns a t f = by (is_at here line) where
    by : (b : Bool) → turns + done a ≤ (if b then full else base here turns (done a) full)
    by true = omega (arith, t, f)
    by false = low_base here turns (done a) full t f

  pub high : (here : Place) (turns : ℕ) (a : Option Aside) → turns ≤ 16 → done a + 16 ≤ full → w here turns a ≤ full
  high here turns a t f = by (is_at here line) where
    by : (b : Bool) → (if b then full else base here turns (done a) full) ≤ full
    by true = omega arith
    by false = high_base here turns (done a) full t f

  -- where a look aside begins: at the line it has come all the way, elsewhere 16 further
  abbrev pub Begins : ℕ → Option Aside → Type 0
  Begins procs a = (is_at (aside_at a) line ≡ true) ⊎ (done a + 16 ≤ done (turned procs a))

  module _ (s : Seen) (fair : is_some s.aside ≡ true) (few : s.turns ≤ 16) (f : done s.aside + 16 ≤ full) (begins : Begins s.procs s.aside) (g : done (turned s.procs s.aside) + 16 ≤ full) where
    begun : (turns : ℕ) → turns ≤ 16 → 16 + done s.aside ≤ w (aside_at s.aside) turns (turned s.procs s.aside)
    begun turns t = elim begins [
      | inl there ↦ subst (λ (b : Bool). 16 + done s.aside ≤ (if b then full else base (aside_at s.aside) turns (done (turned s.procs s.aside)) full)) (sym there) (omega (arith, f))
      | inr on ↦ (let l = low (aside_at s.aside) turns (turned s.procs s.aside) t g in omega (arith, on, l))
    ]

    abbrev Weighs : Place → Told → Type 0
    Weighs here what = base here s.turns (done s.aside) full + claimed here what ≤ w (next_place s here what) (next_turns s here what) (next_aside s here what)

    -- whatever the place, with turns and looks as they were
    same : (there : Place) → s.turns + done s.aside + 0 ≤ w there s.turns s.aside
    same there = (let l = low there s.turns s.aside few f in omega (arith, l))

    pub weighs : (here : Place) (what : Told) → (leads_to_claim here ≡ true → s.turns ≤ 15) → Weighs here what
    weighs place.Keep (told.Replied (reply.Answer true)) l = (let b = begun s.turns few in omega (arith, b))
    weighs place.Keep (told.Replied (reply.Answer false)) l = by (is_some s.aside) fair where
      by : (c : Bool) → c ≡ true → 16 + done s.aside + 0 ≤ (if c then 16 else s.turns) + done s.aside
      by true h = omega arith
      by false h = absurd (false≢true h)
    weighs place.Keep (told.Refused refusal.Over) l = omega (arith, f)
    weighs place.Keep _ l = omega arith
    weighs (place.Ticking now) (told.Replied (reply.Woke n)) l = by (s.procs == 1) where
      by : (b : Bool) → s.turns + done s.aside + 0 ≤ w (if b then aside_at s.aside else place.Keep) 0 (if b then turned s.procs s.aside else s.aside)
      by true = (let b = begun 0 (omega arith) in omega (arith, b, few))
      by false = omega (arith, few)
    weighs (place.Ticking now) what l = same (next_place s (place.Ticking now) what)
    weighs place.Claim (told.Replied reply.Held) l = (let t = l refl in omega (arith, t))
    weighs place.Claim what l = same (next_place s place.Claim what)
    weighs (place.MindTick now) (told.Replied (reply.Woke n)) l = by (is_some s.aside) fair where
      by : (c : Bool) → c ≡ true → s.turns + done s.aside + 0 ≤ (if c then s.turns else 0) + done s.aside
      by true h = omega arith
      by false h = absurd (false≢true h)
    weighs (place.MindTick now) what l = same (next_place s (place.MindTick now) what)
    weighs place.Over told.Surrendered l = omega arith
    weighs place.Over told.Nothing l = omega arith
    weighs place.Over (told.Refused refusal.Over) l = omega arith
    weighs place.Over _ l = omega arith
    weighs place.Done (told.Refused refusal.Over) l = omega arith
    weighs place.Done _ l = omega arith
    weighs here what l = same (next_place s here what)
