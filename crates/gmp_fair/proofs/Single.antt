-- A fair machine takes one ticket a hunt: it never comes to steal more.
use Rattle.std.proofs.Common.{◌≡◌, ℕ, ◌+◌, ◌-◌, ◌==◌, Bool, true, false, if◌then◌else◌, nat_lt, is_some, Option, None, Some, refl, sym}
use Rattle.std.proofs.lemmas.Bool.{false≢true}
use Rattle.gmp_base.specs.declared.ask.Ask.{Ask}
use Rattle.gmp_base.specs.declared.ask.Ask.TheVariants as ask
use Rattle.gmp_base.specs.declared.number.PNo.{PNo}
use Rattle.gmp_base.specs.declared.refusal.Refusal.TheVariants as refusal
use Rattle.gmp_seq.specs.declared.call.Reply.{Reply}
use Rattle.gmp_seq.specs.declared.call.Reply.TheVariants as reply
use Rattle.gmp_seq.specs.Step.{closed_in, ticket_in}
use Rattle.gmp_driver.specs.declared.act.Told.{Told}
use Rattle.gmp_driver.specs.declared.act.Told.TheVariants as told
use Rattle.gmp_driver.specs.declared.act.Tried.{Tried}
use Rattle.gmp_driver.specs.declared.act.Tried.TheVariants as tried
use Rattle.gmp_driver.specs.declared.place.Place.{Place}
use Rattle.gmp_driver.specs.declared.place.Place.TheVariants as place
use Rattle.gmp_driver.specs.declared.place.Round.{Round}
use Rattle.gmp_driver.specs.declared.seen.Seen.{Seen}
use Rattle.gmp_driver.specs.declared.place.Aside.{Aside}
use Rattle.gmp_driver.specs.declared.place.Aside.TheVariants as looks
use Rattle.gmp_driver.specs.Hunt.{begun, hunt_goal, hunted, more, skipped, victim_of}
use Rattle.gmp_driver.specs.Table.{after_ask, aside_at, is_late, next_place, raised}
use Rattle.gmp_fair.specs.Fair.{steals_more}

asked_on : (asked : Ask) (answer : Reply) → steals_more (after_ask asked answer) ≡ false
asked_on asked reply.Waits = refl
asked_on asked (reply.Shelved r) = refl
asked_on asked reply.Dead = refl
asked_on asked (reply.Entered p m) = refl
asked_on asked reply.MainEnded = refl
asked_on asked (reply.Number before) = by (raised before asked) where
  by : (b : Bool) → steals_more (if b then place.Poke else place.Run) ≡ false
  by true = refl
  by false = refl
asked_on asked answer = by (is_some (ticket_in answer)) (nat_lt 0 (closed_in answer)) where
  by : (b c : Bool) → steals_more (if b then place.Store else (if c then place.Poke else place.Run)) ≡ false
  by true c = refl
  by false true = refl
  by false false = refl

either : (b : Bool) (x y : Place) → steals_more x ≡ false → steals_more y ≡ false → steals_more (if b then x else y) ≡ false
either true x y e f = e
either false x y e f = f

asides : (a : Option Aside) → steals_more (aside_at a) ≡ false
asides None = refl
asides (Some (looks.Shelf v)) = refl
asides (Some (looks.Queue v)) = refl

-- the goal of a fair machine is one ticket, which it has
one_more : (a : Option Aside) (v : PNo) (hint : ℕ) → is_some a ≡ true → steals_more (more v (hunt_goal a hint - 1)) ≡ false
one_more None v hint f = absurd (false≢true f)
one_more (Some x) v hint f = refl

module _ (s : Seen) (fair : is_some s.aside ≡ true) where
  hunts : (r : Round) (how : Tried) → steals_more (hunted s r how) ≡ false
  hunts r (tried.Got hint) = one_more s.aside (victim_of s.procs r) hint fair
  hunts r tried.Empty = either (nat_lt (skipped s r.word (r.number + 1)) s.procs) _ place.Unspin refl refl
  hunts r tried.Unsure = refl

  pub single_on : (here : Place) (what : Told) → steals_more here ≡ false → steals_more (next_place s here what) ≡ false
  single_on (place.More v goal) what e = absurd (false≢true (sym e))
  single_on (place.StoreMore v goal) what e = absurd (false≢true (sym e))
  single_on (place.PutMore v goal) what e = absurd (false≢true (sym e))
  single_on place.Glance (told.Replied (reply.Ticket r)) e = refl
  single_on place.Glance (told.Replied reply.Nothing) e = refl
  single_on place.Glance (told.Refused refusal.Over) e = refl
  single_on place.Glance _ e = refl
  single_on (place.Peek v) (told.Tried (tried.Got hint)) e = refl
  single_on (place.Peek v) (told.Tried tried.Empty) e = refl
  single_on (place.Peek v) (told.Tried tried.Unsure) e = refl
  single_on (place.Peek v) (told.Refused refusal.Over) e = refl
  single_on (place.Peek v) _ e = refl
  single_on (place.Ticking now) (told.Replied (reply.Woke n)) e = either (s.procs == 1) (aside_at s.aside) place.Keep (asides s.aside) refl
  single_on (place.Ticking now) (told.Refused refusal.Over) e = refl
  single_on (place.Ticking now) _ e = refl
  single_on place.Global (told.Replied reply.Nothing) e = either (s.procs == 1) place.Drop place.Spin refl refl
  single_on place.Global (told.Replied (reply.Ticket r)) e = refl
  single_on place.Global (told.Refused refusal.Over) e = refl
  single_on place.Global _ e = refl
  single_on (place.Hunt None) (told.Drew word how) e = hunts (begun s word) how
  single_on (place.Hunt None) (told.Refused refusal.Over) e = refl
  single_on (place.Hunt None) _ e = refl
  single_on (place.Hunt (Some r)) (told.Tried how) e = hunts r how
  single_on (place.Hunt (Some r)) (told.Refused refusal.Over) e = refl
  single_on (place.Hunt (Some r)) _ e = refl
  single_on place.Unspin (told.Replied reply.Done) e = either (is_some s.to_claim) place.Claim place.Drop refl refl
  single_on place.Unspin (told.Refused refusal.Over) e = refl
  single_on place.Unspin _ e = refl
  single_on (place.Do asked) (told.Replied answer) e = asked_on asked answer
  single_on (place.Do (ask.Make capacity)) (told.Refused refusal.OutOfMemory) e = refl
  single_on (place.Do asked) (told.Refused refusal.Over) e = refl
  single_on (place.Do asked) _ e = refl
  single_on (place.Scan v) (told.Tried tried.Empty) e = either (nat_lt (v.0 + 1) s.procs) _ place.Park refl refl
  single_on (place.Scan v) (told.Tried (tried.Got hint)) e = either (is_late s) place.PutHave place.Have refl refl
  single_on (place.Scan v) (told.Tried tried.Unsure) e = refl
  single_on (place.Scan v) (told.Refused refusal.Over) e = refl
  single_on (place.Scan v) _ e = refl
  single_on place.Start (told.Replied (reply.Proc p)) e = refl
  single_on place.Start (told.Replied reply.Nothing) e = refl
  single_on place.Start (told.Refused refusal.Over) e = refl
  single_on place.Start _ e = refl
  single_on place.Look (told.Moment now) e = refl
  single_on place.Look told.Got e = refl
  single_on place.Look told.Empty e = refl
  single_on place.Look (told.Refused refusal.Over) e = refl
  single_on place.Look _ e = refl
  single_on place.Keep (told.Replied (reply.Answer true)) e = asides s.aside
  single_on place.Keep (told.Replied (reply.Answer false)) e = refl
  single_on place.Keep (told.Refused refusal.Over) e = refl
  single_on place.Keep _ e = refl
  single_on place.Spin (told.Replied (reply.Answer true)) e = refl
  single_on place.Spin (told.Replied (reply.Answer false)) e = refl
  single_on place.Spin (told.Refused refusal.Over) e = refl
  single_on place.Spin _ e = refl
  single_on place.Claim (told.Replied (reply.Wakes m)) e = refl
  single_on place.Claim (told.Replied reply.Nothing) e = refl
  single_on place.Claim (told.Replied reply.Held) e = refl
  single_on place.Claim (told.Refused refusal.Over) e = refl
  single_on place.Claim _ e = refl
  single_on place.Have (told.Replied (reply.Proc p)) e = refl
  single_on place.Have (told.Replied reply.Nothing) e = refl
  single_on place.Have (told.Refused refusal.Over) e = refl
  single_on place.Have _ e = refl
  single_on place.PutHave (told.Replied reply.Shelf) e = either (is_late s) place.Start place.Bare refl refl
  single_on place.PutHave (told.Refused refusal.Over) e = refl
  single_on place.PutHave _ e = refl
  single_on place.Drain told.Drained e = refl
  single_on place.Drain told.Empty e = refl
  single_on place.Drain (told.Refused refusal.Over) e = refl
  single_on place.Drain _ e = refl
  single_on place.PutDrain (told.Replied reply.Shelf) e = refl
  single_on place.PutDrain (told.Refused refusal.Over) e = refl
  single_on place.PutDrain _ e = refl
  single_on place.Run (told.Asked asked) e = refl
  single_on place.Run (told.Refused refusal.Over) e = refl
  single_on place.Run _ e = refl
  single_on place.Store told.Pushed e = refl
  single_on place.Store told.PushRefused e = refl
  single_on place.Store (told.Refused refusal.Over) e = refl
  single_on place.Store _ e = refl
  single_on place.PutStore (told.Replied reply.Shelf) e = refl
  single_on place.PutStore (told.Refused refusal.Over) e = refl
  single_on place.PutStore _ e = refl
  single_on place.Poke (told.Replied (reply.Wakes n)) e = refl
  single_on place.Poke (told.Replied reply.Nothing) e = refl
  single_on place.Poke (told.Refused refusal.Over) e = refl
  single_on place.Poke _ e = refl
  single_on place.Block (told.Number number) e = refl
  single_on place.Block (told.Refused refusal.Over) e = refl
  single_on place.Block _ e = refl
  single_on (place.Leave number) (told.Replied (reply.Runs p)) e = refl
  single_on (place.Leave number) (told.Replied (reply.Shelved r)) e = refl
  single_on (place.Leave number) (told.Refused refusal.Over) e = refl
  single_on (place.Leave number) _ e = refl
  single_on place.Drop (told.Replied (reply.Idle p)) e = refl
  single_on place.Drop (told.Refused refusal.Over) e = refl
  single_on place.Drop _ e = refl
  single_on place.Bare (told.Replied reply.Done) e = refl
  single_on place.Bare (told.Refused refusal.Over) e = refl
  single_on place.Bare _ e = refl
  single_on place.Park (told.Replied reply.Parked) e = refl
  single_on place.Park (told.Replied reply.Work) e = refl
  single_on place.Park (told.Replied (reply.Mind until)) e = refl
  single_on place.Park (told.Replied reply.AllAsleep) e = refl
  single_on place.Park (told.Replied reply.LookAgain) e = refl
  single_on place.Park (told.Refused refusal.Over) e = refl
  single_on place.Park _ e = refl
  single_on place.Rest (told.Replied (reply.Answer true)) e = refl
  single_on place.Rest (told.Replied (reply.Answer false)) e = refl
  single_on place.Rest (told.Refused refusal.Over) e = refl
  single_on place.Rest _ e = refl
  single_on (place.Mind deadline) (told.Moment now) e = refl
  single_on (place.Mind deadline) (told.Refused refusal.Over) e = refl
  single_on (place.Mind deadline) _ e = refl
  single_on (place.MindTick now) (told.Replied (reply.Woke n)) e = refl
  single_on (place.MindTick now) (told.Refused refusal.Over) e = refl
  single_on (place.MindTick now) _ e = refl
  single_on place.Over told.Surrendered e = refl
  single_on place.Over told.Nothing e = refl
  single_on place.Over (told.Refused refusal.Over) e = refl
  single_on place.Over _ e = refl
  single_on place.Done (told.Refused refusal.Over) e = refl
  single_on place.Done _ e = refl
