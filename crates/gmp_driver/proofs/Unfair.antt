-- A machine that is not fair, row by row.
use Rattle.std.proofs.Common.{◌≡◌, ℕ, zero, suc, ◌+◌, ◌-◌, ◌==◌, Bool, true, false, if◌then◌else◌, nat_lt, is_some, Option, None, Some, refl, sym, ap, subst}
use Rattle.std.proofs.lemmas.Bool.{false≢true}
use Rattle.gmp_base.specs.declared.ask.Ask.{Ask}
use Rattle.gmp_base.specs.declared.ask.Ask.TheVariants as ask
use Rattle.gmp_base.specs.declared.number.PNo.{PNo}
use Rattle.gmp_base.specs.declared.refusal.Refusal.TheVariants as refusal
use Rattle.gmp_seq.specs.declared.call.Reply.{Reply}
use Rattle.gmp_seq.specs.declared.call.Reply.TheVariants as reply
use Rattle.gmp_seq.specs.Step.{closed_in, ticket_in}
use Rattle.gmp_driver.specs.declared.act.Told.{Told}
use Rattle.gmp_driver.specs.declared.act.Told.TheVariants as told
use Rattle.gmp_driver.specs.declared.act.Tried.{Tried}
use Rattle.gmp_driver.specs.declared.act.Tried.TheVariants as tried
use Rattle.gmp_driver.specs.declared.place.Aside.{Aside}
use Rattle.gmp_driver.specs.declared.place.Aside.TheVariants as looks
use Rattle.gmp_driver.specs.declared.place.Place.{Place}
use Rattle.gmp_driver.specs.declared.place.Place.TheVariants as place
use Rattle.gmp_driver.specs.declared.place.Round.{Round}
use Rattle.gmp_driver.specs.declared.seen.Seen.{Seen}
use Rattle.gmp_driver.specs.Hunt.{begun, hunted, more, skipped, steal_goal, victim_of}
use Rattle.gmp_driver.specs.Table.{act_at, after_ask, next_aside, next_fresh, next_place, next_turns, raised, turned}
use Rattle.gmp_driver.specs.Unfair.{is_aside, unfair_place, unfair_turns}

abbrev with_looks : Seen → Option Aside → Seen
with_looks s a = record s { aside = a }

pub acts_alike : (s : Seen) (looks : Option Aside) (here : Place) → act_at s here ≡ act_at (record s { aside = looks }) here
acts_alike s looks _ = refl

pub fresh_alike : (s : Seen) (looks : Option Aside) (here : Place) (what : Told) → next_fresh s here what ≡ next_fresh (record s { aside = looks }) here what
fresh_alike s looks _ what = refl

turned_fair : (procs : ℕ) (a : Option Aside) → is_some (turned procs a) ≡ is_some a
turned_fair procs None = refl
turned_fair procs (Some (looks.Shelf v)) = refl
turned_fair procs (Some (looks.Queue v)) = refl

-- a machine is fair for good, or never
pub fair_stays : (s : Seen) (here : Place) (what : Told) → is_some (next_aside s here what) ≡ is_some s.aside
fair_stays s (place.Ticking now) (told.Replied (reply.Woke n)) = by (s.procs == 1) where
  by : (b : Bool) → is_some (if b then turned s.procs s.aside else s.aside) ≡ is_some s.aside
  by true = turned_fair s.procs s.aside
  by false = refl
fair_stays s (place.Ticking now) _ = refl
fair_stays s place.Keep (told.Replied (reply.Answer true)) = turned_fair s.procs s.aside
fair_stays s place.Keep _ = refl
fair_stays s _ what = refl

asked_on : (asked : Ask) (answer : Reply) → is_aside (after_ask asked answer) ≡ false
asked_on asked reply.Waits = refl
asked_on asked (reply.Shelved r) = refl
asked_on asked reply.Dead = refl
asked_on asked (reply.Entered p m) = refl
asked_on asked reply.MainEnded = refl
asked_on asked (reply.Number before) = by (raised before asked) where
  by : (b : Bool) → is_aside (if b then place.Poke else place.Run) ≡ false
  by true = refl
  by false = refl
asked_on asked answer = by (is_some (ticket_in answer)) (nat_lt 0 (closed_in answer)) where
  by : (b c : Bool) → is_aside (if b then place.Store else (if c then place.Poke else place.Run)) ≡ false
  by true c = refl
  by false true = refl
  by false false = refl

more_on : (v : PNo) (goal : ℕ) → is_aside (more v goal) ≡ false
more_on v zero = refl
more_on v (suc goal) = refl

either : (b : Bool) (x y : Place) → is_aside x ≡ false → is_aside y ≡ false → is_aside (if b then x else y) ≡ false
either true x y e f = e
either false x y e f = f

module _ (s : Seen) where
  places : (looks : Option Aside) (here : Place) (what : Told) → next_place (record s { aside = None }) here what ≡ unfair_place (record s { aside = looks }) here what
  places looks (place.Hunt None) (told.Drew word (tried.Got hint)) = refl
  places looks (place.Hunt None) (told.Drew word _) = refl
  places looks (place.Hunt (Some r)) (told.Tried (tried.Got hint)) = refl
  places looks (place.Hunt (Some r)) (told.Tried _) = refl
  places looks _ what = refl

  turns : (looks : Option Aside) (here : Place) (what : Told) → next_turns (record s { aside = None }) here what ≡ unfair_turns (record s { aside = looks }) here what
  turns looks _ what = refl

  hunts : (r : Round) (how : Tried) → is_aside (hunted (record s { aside = None }) r how) ≡ false
  hunts r (tried.Got hint) = more_on (victim_of s.procs r) (steal_goal hint - 1)
  hunts r tried.Empty = either (nat_lt (skipped (record s { aside = None }) r.word (r.number + 1)) s.procs) _ place.Unspin refl refl
  hunts r tried.Unsure = refl

  never : (here : Place) (what : Told) → is_aside here ≡ false → is_aside (next_place (record s { aside = None }) here what) ≡ false
  never place.Glance what e = absurd (false≢true (sym e))
  never (place.Peek v) what e = absurd (false≢true (sym e))
  never (place.Ticking now) (told.Replied (reply.Woke n)) e = either (s.procs == 1) place.Look place.Keep refl refl
  never (place.Ticking now) (told.Refused refusal.Over) e = refl
  never (place.Ticking now) _ e = refl
  never place.Global (told.Replied reply.Nothing) e = either (s.procs == 1) place.Drop place.Spin refl refl
  never place.Global (told.Replied (reply.Ticket r)) e = refl
  never place.Global (told.Refused refusal.Over) e = refl
  never place.Global _ e = refl
  never (place.Hunt None) (told.Drew word how) e = hunts (begun (record s { aside = None }) word) how
  never (place.Hunt None) (told.Refused refusal.Over) e = refl
  never (place.Hunt None) _ e = refl
  never (place.Hunt (Some r)) (told.Tried how) e = hunts r how
  never (place.Hunt (Some r)) (told.Refused refusal.Over) e = refl
  never (place.Hunt (Some r)) _ e = refl
  never (place.StoreMore v goal) told.Pushed e = more_on v goal
  never (place.StoreMore v goal) told.PushRefused e = refl
  never (place.StoreMore v goal) (told.Refused refusal.Over) e = refl
  never (place.StoreMore v goal) _ e = refl
  never (place.PutMore v goal) (told.Replied reply.Shelf) e = more_on v goal
  never (place.PutMore v goal) (told.Refused refusal.Over) e = refl
  never (place.PutMore v goal) _ e = refl
  never place.Unspin (told.Replied reply.Done) e = either (is_some s.to_claim) place.Claim place.Drop refl refl
  never place.Unspin (told.Refused refusal.Over) e = refl
  never place.Unspin _ e = refl
  never (place.Do asked) (told.Replied answer) e = asked_on asked answer
  never (place.Do (ask.Make capacity)) (told.Refused refusal.OutOfMemory) e = refl
  never (place.Do asked) (told.Refused refusal.Over) e = refl
  never (place.Do asked) _ e = refl
  never (place.Scan v) (told.Tried tried.Empty) e = either (nat_lt (v.0 + 1) s.procs) _ place.Park refl refl
  never (place.Scan v) (told.Tried (tried.Got hint)) e = refl
  never (place.Scan v) (told.Tried tried.Unsure) e = refl
  never (place.Scan v) (told.Refused refusal.Over) e = refl
  never (place.Scan v) _ e = refl
  never place.Start (told.Replied (reply.Proc p)) e = refl
  never place.Start (told.Replied reply.Nothing) e = refl
  never place.Start (told.Refused refusal.Over) e = refl
  never place.Start _ e = refl
  never place.Look (told.Moment now) e = refl
  never place.Look told.Got e = refl
  never place.Look told.Empty e = refl
  never place.Look (told.Refused refusal.Over) e = refl
  never place.Look _ e = refl
  never place.Keep (told.Replied (reply.Answer true)) e = refl
  never place.Keep (told.Replied (reply.Answer false)) e = refl
  never place.Keep (told.Refused refusal.Over) e = refl
  never place.Keep _ e = refl
  never place.Spin (told.Replied (reply.Answer true)) e = refl
  never place.Spin (told.Replied (reply.Answer false)) e = refl
  never place.Spin (told.Refused refusal.Over) e = refl
  never place.Spin _ e = refl
  never (place.More v goal) (told.Tried (tried.Got hint)) e = refl
  never (place.More v goal) (told.Tried tried.Empty) e = refl
  never (place.More v goal) (told.Tried tried.Unsure) e = refl
  never (place.More v goal) (told.Refused refusal.Over) e = refl
  never (place.More v goal) _ e = refl
  never place.Claim (told.Replied (reply.Wakes m)) e = refl
  never place.Claim (told.Replied reply.Nothing) e = refl
  never place.Claim (told.Replied reply.Held) e = refl
  never place.Claim (told.Refused refusal.Over) e = refl
  never place.Claim _ e = refl
  never place.Have (told.Replied (reply.Proc p)) e = refl
  never place.Have (told.Replied reply.Nothing) e = refl
  never place.Have (told.Refused refusal.Over) e = refl
  never place.Have _ e = refl
  never place.PutHave (told.Replied reply.Shelf) e = refl
  never place.PutHave (told.Refused refusal.Over) e = refl
  never place.PutHave _ e = refl
  never place.Drain told.Drained e = refl
  never place.Drain told.Empty e = refl
  never place.Drain (told.Refused refusal.Over) e = refl
  never place.Drain _ e = refl
  never place.PutDrain (told.Replied reply.Shelf) e = refl
  never place.PutDrain (told.Refused refusal.Over) e = refl
  never place.PutDrain _ e = refl
  never place.Run (told.Asked asked) e = refl
  never place.Run (told.Refused refusal.Over) e = refl
  never place.Run _ e = refl
  never place.Store told.Pushed e = refl
  never place.Store told.PushRefused e = refl
  never place.Store (told.Refused refusal.Over) e = refl
  never place.Store _ e = refl
  never place.PutStore (told.Replied reply.Shelf) e = refl
  never place.PutStore (told.Refused refusal.Over) e = refl
  never place.PutStore _ e = refl
  never place.Poke (told.Replied (reply.Wakes n)) e = refl
  never place.Poke (told.Replied reply.Nothing) e = refl
  never place.Poke (told.Refused refusal.Over) e = refl
  never place.Poke _ e = refl
  never place.Block (told.Number number) e = refl
  never place.Block (told.Refused refusal.Over) e = refl
  never place.Block _ e = refl
  never (place.Leave number) (told.Replied (reply.Runs p)) e = refl
  never (place.Leave number) (told.Replied (reply.Shelved r)) e = refl
  never (place.Leave number) (told.Refused refusal.Over) e = refl
  never (place.Leave number) _ e = refl
  never place.Drop (told.Replied (reply.Idle p)) e = refl
  never place.Drop (told.Refused refusal.Over) e = refl
  never place.Drop _ e = refl
  never place.Bare (told.Replied reply.Done) e = refl
  never place.Bare (told.Refused refusal.Over) e = refl
  never place.Bare _ e = refl
  never place.Park (told.Replied reply.Parked) e = refl
  never place.Park (told.Replied reply.Work) e = refl
  never place.Park (told.Replied (reply.Mind until)) e = refl
  never place.Park (told.Replied reply.AllAsleep) e = refl
  never place.Park (told.Replied reply.LookAgain) e = refl
  never place.Park (told.Refused refusal.Over) e = refl
  never place.Park _ e = refl
  never place.Rest (told.Replied (reply.Answer true)) e = refl
  never place.Rest (told.Replied (reply.Answer false)) e = refl
  never place.Rest (told.Refused refusal.Over) e = refl
  never place.Rest _ e = refl
  never (place.Mind deadline) (told.Moment now) e = refl
  never (place.Mind deadline) (told.Refused refusal.Over) e = refl
  never (place.Mind deadline) _ e = refl
  never (place.MindTick now) (told.Replied (reply.Woke n)) e = refl
  never (place.MindTick now) (told.Refused refusal.Over) e = refl
  never (place.MindTick now) _ e = refl
  never place.Over told.Surrendered e = refl
  never place.Over told.Nothing e = refl
  never place.Over (told.Refused refusal.Over) e = refl
  never place.Over _ e = refl
  never place.Done (told.Refused refusal.Over) e = refl
  never place.Done _ e = refl

module _ (s : Seen) (none : s.aside ≡ None) where
  as_bare : record s { aside = None } ≡ s
  as_bare = ap (with_looks s) (sym none)

  pub places_alike : (looks : Option Aside) (here : Place) (what : Told) → next_place s here what ≡ unfair_place (record s { aside = looks }) here what
  places_alike looks here what = subst (λ (u : Seen). next_place u here what ≡ unfair_place (record s { aside = looks }) here what) as_bare (places s looks here what)

  pub turns_alike : (looks : Option Aside) (here : Place) (what : Told) → next_turns s here what ≡ unfair_turns (record s { aside = looks }) here what
  turns_alike looks here what = subst (λ (u : Seen). next_turns u here what ≡ unfair_turns (record s { aside = looks }) here what) as_bare (turns s looks here what)

  pub never_aside : (here : Place) (what : Told) → is_aside here ≡ false → is_aside (next_place s here what) ≡ false
  never_aside here what e = subst (λ (u : Seen). is_aside (next_place u here what) ≡ false) as_bare (never s here what e)
