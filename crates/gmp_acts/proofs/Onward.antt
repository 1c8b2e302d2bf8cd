-- Each act leads somewhere, and what was told at the opening stays.
use Rattle.std.proofs.Common.{◌≡◌, ◌≢◌, ◌⊎◌, inl, inr, ℕ, suc, ◌+◌, ◌<◌, List, [], ◌∷◌, ◌++◌, length, set, refl, sym, ap, ◌∙◌, subst, arith, sum, Option, Some, None, Bool}
use Rattle.std.specs.Prelude.{All}
use Rattle.std.proofs.lemmas.Bool.{cases_lt}
use Rattle.gmp_base.specs.declared.number.MNo.{MNo}
use Rattle.gmp_base.specs.declared.pass.Pass.{Pass}
use Rattle.gmp_base.specs.declared.refusal.Refusal.TheVariants.{Over}
use Rattle.gmp_seq.proofs.Needed.{needs_step}
use Rattle.gmp_seq.specs.declared.call.Call.{Call}
use Rattle.gmp_seq.specs.declared.call.Entry.{Entry}
use Rattle.gmp_seq.specs.declared.call.Limits.{Limits}
use Rattle.gmp_seq.specs.declared.call.Outcome.{Outcome}
use Rattle.gmp_seq.specs.declared.call.Reply.{Reply}
use Rattle.gmp_seq.specs.Fits.{AreLimits}
use Rattle.gmp_seq.specs.State.{State}
use Rattle.gmp_seq.specs.Step.{Step}
use Rattle.gmp_driver.specs.declared.act.Act.{Act}
use Rattle.gmp_driver.specs.declared.act.Act.TheVariants as act
use Rattle.gmp_driver.specs.declared.act.Told.TheVariants as told
use Rattle.gmp_driver.specs.Table.{after, next_act}
use Rattle.gmp_acts.specs.declared.choice.Choice.{Choice}
use Rattle.gmp_acts.specs.declared.made.Made.{Made}
use Rattle.gmp_acts.specs.Acts.{Acts, ActsAll, Answers, DoesAct, HasFewCases}
use Rattle.gmp_acts.specs.Hands.{PlainMachine, hand_after}
use Rattle.gmp_acts.specs.Headline.{Headline, SameOpening, opening_system}
use Rattle.gmp_acts.specs.Sound.{Agrees, IsSound}
use Rattle.gmp_acts.specs.System.{BookRun, System, count_of, machine_at}
use Rattle.gmp_acts.proofs.Granted.{granted}
use Rattle.gmp_acts.proofs.Kept.{same_pass}
use Rattle.gmp_acts.proofs.Moving.{act_sound, all_sound}
use Rattle.gmp_acts.proofs.Whole.{headline_of, opening_sound}

-- Somewhere

none_or_some : (o : Option Outcome) → (o ≡ None) ⊎ (o ≢ None)
none_or_some None = inl refl
none_or_some (Some x) = inr (λ e. cc)

module _ (k : System) (m : MNo) (inside : m.0 < length k.machines) (s : IsSound k) where
  abbrev mine : Agrees k.book m (machine_at k m)
  mine = s.each m inside

  -- the machine once its call is answered so
  abbrev told_of : Call → Reply → State → PlainMachine
  told_of c answer s' =
      after (record (machine_at k m) { pass = Some (record mine.pass { calls = mine.pass.calls + 1; seen = sum s'.counts }); hand = hand_after k.book.state.table c answer (machine_at k m).hand }) (told.Replied answer)

  abbrev entered : Call → Reply → List Entry
  entered c answer = k.book.history ++ record { m = m; k = count_of k.book m; call = c; reply = answer } ∷ []

  -- every step of the scheduler is an answer
  by_step : (c : Call) (answer : Reply) (s' : State) → next_act (machine_at k m) ≡ act.Call c → Step k.book.limits m c answer k.book.state s'
      → Answers (machine_at k m) m c k.book k.own (told_of c answer s') (record k.book { history = entered c answer; state = s' }) (k.own ++ record { m = m; call = c; reply = answer } ∷ [])
  by_step c answer s' acts step =
      let g = granted k m c inside s acts step.0 in
      let same : mine.pass ≡ g.may.pass = same_pass mine.pass g.may.pass (machine_at k m).pass mine.has_pass g.may.has_pass in
      inl (record {
        granted = g;
        answer = answer;
        step = step;
        entry = refl;
        opened = refl;
        made = refl;
        machine = ap (λ (p : Pass). after (record (machine_at k m) { pass = Some (record p { calls = p.calls + 1; seen = sum s'.counts }); hand = hand_after k.book.state.table c answer (machine_at k m).hand }) (told.Replied answer)) same;
      })

  answered : (c : Call) → next_act (machine_at k m) ≡ act.Call c → (x : PlainMachine) × (book : BookRun) × (own : List Made) × Answers (machine_at k m) m c k.book k.own x book own
  answered c acts = elim (none_or_some k.book.state.outcome) [
    | inl goes ↦
        let w = needs_step k.book.limits m c k.book.state goes (granted k m c inside s acts goes).needs in
        (told_of c w.0 w.1, record k.book { history = entered c w.0; state = w.1 }, k.own ++ record { m = m; call = c; reply = w.0 } ∷ [], by_step c w.0 w.1 acts w.2)
    | inr over ↦ (after (machine_at k m) (told.Refused Over), k.book, k.own, inr (inl (record { over = over; same = refl; none = refl; machine = refl })))
  ]

  does : (a : Act) (choice : Choice) → next_act (machine_at k m) ≡ a → (k' : System) × DoesAct a k m choice k'
  does (act.Call c) choice e = (let w = answered c e in (record k { book = w.1; machines = set k.machines m.0 w.0; own = w.2 }, (w.0, w.1, w.2, w.3, refl)))
  does act.Pop choice e = (_, refl)
  does act.Drain choice e = (_, refl)
  does act.Push choice e = (_, refl)
  does act.Hunt choice e = (_, refl)
  does (act.Steal v) choice e = (_, refl)
  does act.Resume choice e = (_, refl)
  does act.Block choice e = (_, refl)
  does (act.Clock deadline) choice e = (_, refl)
  does (act.Surrender which) choice e = (_, refl)
  does act.Nothing choice e = (_, refl)

-- and to any step of the scheduler
pub step_on : (k : System) (m : MNo) (choice : Choice) (c : Call) (answer : Reply) (s' : State) → IsSound k → HasFewCases choice.ask → m.0 < length k.machines → next_act (machine_at k m) ≡ act.Call c
    → Step k.book.limits m c answer k.book.state s'
    → (end : System) × Acts k m choice end × (end.book.state ≡ s') × (end.book.history ≡ k.book.history ++ record { m = m; k = count_of k.book m; call = c; reply = answer } ∷ [])
step_on k m choice c answer s' s few inside acts step =
    let x = told_of k m inside s c answer s' in
    let book : BookRun = record k.book { history = entered k m inside s c answer; state = s' } in
    let own : List Made = k.own ++ record { m = m; call = c; reply = answer } ∷ [] in
    let end : System = record k { book = book; machines = set k.machines m.0 x; own = own } in
    (end, record { few = few; by_place = λ _. subst (λ (a : Act). DoesAct a k m choice end) (sym acts) (x, book, own, by_step k m inside s c answer s' acts step, refl); else_none = λ past. absurd (omega (arith, inside, past)) }, refl, refl)

pub go_on : (k : System) (m : MNo) (choice : Choice) → IsSound k → HasFewCases choice.ask → (k' : System) × Acts k m choice k'
go_on k m choice s few =
    elim (cases_lt m.0 (length k.machines)) [
      | inl inside ↦ (let w = does k m inside s (next_act (machine_at k m)) choice refl in (w.0, record { few = few; by_place = λ _. w.1; else_none = λ past. absurd (omega (arith, inside, past)) }))
      | inr past ↦ (k, record { few = few; by_place = λ inside. absurd (omega (arith, inside, past)); else_none = λ _. refl })
    ]

-- a list of acts leads somewhere
pub all_go_on : (moves : List (MNo × Choice)) (k : System) → IsSound k → All (λ (move : MNo × Choice). HasFewCases move.1.ask) moves → (end : System) × ActsAll k moves end
all_go_on [] k s few = (k, refl)
all_go_on (move ∷ moves) k s few =
    let one = go_on k move.0 move.1 s (few 0 move (omega arith)) in
    let rest = all_go_on moves one.0 (act_sound k move.0 move.1 one.0 one.1 s) (λ i d l. few (suc i) d (omega (arith, l))) in
    (rest.0, (one.0, one.1, rest.1))

-- What was given at the opening

same_opening : (k : System) → SameOpening k.book k.book
same_opening k = record { run = refl; limits = refl; bodies = refl; capacities = refl }

from_equal : (a b : BookRun) → b ≡ a → SameOpening a b
from_equal a b e = subst (SameOpening a) (sym e) (record { run = refl; limits = refl; bodies = refl; capacities = refl })

from_answers : (x : PlainMachine) (m : MNo) (c : Call) (book : BookRun) (own : List Made) (x' : PlainMachine) (book' : BookRun) (own' : List Made) → Answers x m c book own x' book' own' → SameOpening book book'
from_answers x m c book own x' book' own' (inl done) = record {
  run = ap (λ (b : BookRun). b.run) done.opened;
  limits = ap (λ (b : BookRun). b.limits) done.opened;
  bodies = ap (λ (b : BookRun). b.bodies) done.opened;
  capacities = ap (λ (b : BookRun). b.capacities) done.opened;
}
from_answers x m c book own x' book' own' (inr (inl stop)) = from_equal book book' stop.same
from_answers x m c book own x' book' own' (inr (inr (inl want))) = from_equal book book' want.same
from_answers x m c book own x' book' own' (inr (inr (inr declined))) = from_equal book book' declined.same

opened_by : (a : Act) (k : System) (m : MNo) (choice : Choice) (k' : System) → DoesAct a k m choice k' → SameOpening k.book k'.book
opened_by (act.Call c) k m choice k' d = subst (λ (j : System). SameOpening k.book j.book) (sym d.4) (from_answers (machine_at k m) m c k.book k.own d.0 d.1 d.2 d.3)
opened_by act.Pop k m choice k' d = from_equal k.book k'.book (ap (λ (j : System). j.book) d)
opened_by act.Drain k m choice k' d = from_equal k.book k'.book (ap (λ (j : System). j.book) d)
opened_by act.Push k m choice k' d = from_equal k.book k'.book (ap (λ (j : System). j.book) d)
opened_by act.Hunt k m choice k' d = from_equal k.book k'.book (ap (λ (j : System). j.book) d)
opened_by (act.Steal v) k m choice k' d = from_equal k.book k'.book (ap (λ (j : System). j.book) d)
opened_by act.Resume k m choice k' d = from_equal k.book k'.book (ap (λ (j : System). j.book) d)
opened_by act.Block k m choice k' d = from_equal k.book k'.book (ap (λ (j : System). j.book) d)
opened_by (act.Clock deadline) k m choice k' d = from_equal k.book k'.book (ap (λ (j : System). j.book) d)
opened_by (act.Surrender which) k m choice k' d = from_equal k.book k'.book (ap (λ (j : System). j.book) d)
opened_by act.Nothing k m choice k' d = from_equal k.book k'.book (ap (λ (j : System). j.book) d)

pub act_opened : (k : System) (m : MNo) (choice : Choice) (k' : System) → Acts k m choice k' → SameOpening k.book k'.book
act_opened k m choice k' acts =
    elim (cases_lt m.0 (length k.machines)) [
      | inl inside ↦ opened_by (next_act (machine_at k m)) k m choice k' (acts.by_place inside)
      | inr past ↦ from_equal k.book k'.book (ap (λ (j : System). j.book) (acts.else_none past))
    ]

all_opened : (moves : List (MNo × Choice)) (k k' : System) → ActsAll k moves k' → SameOpening k.book k'.book
all_opened [] k k' all = from_equal k.book k'.book (ap (λ (j : System). j.book) all)
all_opened (move ∷ moves) k k' all =
    let one = act_opened k move.0 move.1 all.0 all.1 in
    let rest = all_opened moves all.0 k' all.2 in
    record { run = rest.run ∙ one.run; limits = rest.limits ∙ one.limits; bodies = rest.bodies ∙ one.bodies; capacities = rest.capacities ∙ one.capacities }

pub headline_after : (is_fair : Bool) (run : ℕ) (limits : Limits) (bodies : ℕ) (capacities : List ℕ) (moves : List (MNo × Choice)) (end : System) → AreLimits limits bodies capacities
    → ActsAll (opening_system is_fair run limits bodies capacities) moves end → Headline run limits bodies capacities end
headline_after is_fair run limits bodies capacities moves end are all =
    let same = all_opened moves (opening_system is_fair run limits bodies capacities) end all in
    let head : Headline end.book.run end.book.limits end.book.bodies end.book.capacities end = headline_of end (all_sound moves (opening_system is_fair run limits bodies capacities) end all (opening_sound is_fair run limits bodies capacities are)) in
    subst (λ (n : ℕ). Headline n limits bodies capacities end) same.run
    (subst (λ (l : Limits). Headline end.book.run l bodies capacities end) same.limits
    (subst (λ (n : ℕ). Headline end.book.run end.book.limits n capacities end) same.bodies (subst (λ (c : List ℕ). Headline end.book.run end.book.limits end.book.bodies c end) same.capacities head)))
