-- Runs by a script's bodies, entry by entry: what the entries so far lead to is fixed, so where the next one leads nowhere no run goes on.
use Rattle.std.proofs.Common.{◌≡◌, ◌<◌, ℕ, zero, suc, Bool, true, false, None, Some, List, [], ◌∷◌, ◌++◌, length, refl, sym, ap, subst, ◌∙◌, inl, inr, arith}
use Rattle.std.specs.Bool.{IsTrue}
use Rattle.std.specs.List.{slice_get, slice_set}
use Rattle.gmp_base.specs.declared.ask.Ask.{Ask}
use Rattle.gmp_base.specs.declared.ask.Woke.TheVariants as woke
use Rattle.gmp_base.specs.declared.number.GNo.{GNo}
use Rattle.gmp_base.specs.declared.number.MNo.{MNo}
use Rattle.gmp_base.specs.declared.number.Readiness.{Readiness}
use Rattle.gmp_check.proofs.Keeping.{next_fixed, step_keeps}
use Rattle.gmp_check.specs.Consistent.{IsConsistentUnder}
use Rattle.gmp_check.specs.Decides.{Decides}
use Rattle.gmp_driver.specs.Table.{call_for}
use Rattle.gmp_follow.specs.declared.calls.Part.{Part}
use Rattle.gmp_follow.specs.declared.calls.Part.TheVariants as part
use Rattle.gmp_follow.specs.Follows.{AsksCall, BringsNumber, part_of}
use Rattle.gmp_said.specs.Said.{AsksFor, Brings, Speaker, TakesUp}
use Rattle.gmp_scene.specs.Scripted.{LeadsBodies, RunsScript, Speakers}
use Rattle.gmp_script.proofs.Asking.{next_once}
use Rattle.gmp_script.specs.Script.{AsksTold, BringsLast, Commands, heard}
use Rattle.gmp_seq.specs.declared.call.Call.{Call}
use Rattle.gmp_seq.specs.declared.call.Call.TheVariants as call
use Rattle.gmp_seq.specs.declared.call.Entry.{Entry}
use Rattle.gmp_seq.specs.declared.call.Limits.{Limits}
use Rattle.gmp_seq.specs.declared.call.Reply.{Reply}
use Rattle.gmp_seq.specs.Run.{IsStep}
use Rattle.gmp_seq.specs.State.{State}
use Rattle.gmp_seq.specs.Step.{woke_after}
use Rattle.gmp_seq.specs.Table.{Table, IsCalling, IsRunning, stored_at}

-- What is decided

-- the same of the same
pub decides_at : {X : Type 0} (R : X → X → Type 0) {old now new after : X} {said holds : Bool} → old ≡ now → after ≡ new → said ≡ holds → Decides R old new holds → Decides R now after said
decides_at R {old} {now} {new} {after} {said} {holds} from to told is =
    let a : Decides R now new holds = subst (λ x. Decides R x new holds) from is in
    let b : Decides R now after holds = subst (λ x. Decides R now x holds) (sym to) a in
    subst (Decides R now after) (sym told) b

-- what is so where this is, and only there, is decided with it
pub decides_as : {X : Type 0} (R Q : X → X → Type 0) (old new : X) (holds : Bool) → ((x : X) → R old x → Q old x) → ((x : X) → Q old x → R old x) → Decides R old new holds → Decides Q old new holds
decides_as R Q old new true to from is = to new is
decides_as R Q old new false to from is = (is.0, λ x so. is.1 x (from x so))

-- One of a list

-- the one at this place goes on so, and the others stay
pub record DoesAt (S : Speaker Commands → Speaker Commands → Type 0) (k : ℕ) (old new : Speakers) : Type 0 where
  pub before : Speaker Commands
  pub has : slice_get old k ≡ Some before
  pub after : Speaker Commands
  pub does : S before after
  pub goes : new ≡ slice_set old k after

-- at one place stands one
pub one_speaker : {a b : Speaker Commands} → Some a ≡ Some b → a ≡ b
one_speaker e = cc

-- what is written where it stands changes nothing
same_speaker : (speakers : Speakers) (k : ℕ) (s : Speaker Commands) → slice_get speakers k ≡ Some s → slice_set speakers k s ≡ speakers
same_speaker [] k s has = absurd cc
same_speaker (t ∷ speakers) zero s has = ap (λ u. u ∷ speakers) (one_speaker (sym has))
same_speaker (t ∷ speakers) (suc k) s has = ap (λ l. t ∷ l) (same_speaker speakers k s has)

-- where the one that stands there is asked
pub at_some : (S : Speaker Commands → Speaker Commands → Type 0) (speakers : Speakers) (k : ℕ) (before after : Speaker Commands) (holds : Bool) → slice_get speakers k ≡ Some before
    → Decides S before after holds → Decides (DoesAt S k) speakers (slice_set speakers k after) holds
at_some S speakers k before after true has is = record { before = before; has = has; after = after; does = is; goes = refl }
at_some S speakers k before after false has is = (
  ap (slice_set speakers k) is.0 ∙ same_speaker speakers k before has,
  λ other d. (let same : d.before ≡ before = one_speaker (sym d.has ∙ has) in is.1 d.after (subst (λ (s : Speaker Commands). S s d.after) same d.does)),
)

-- where none stands there
pub at_none : (S : Speaker Commands → Speaker Commands → Type 0) (speakers : Speakers) (k : ℕ) → slice_get speakers k ≡ None → Decides (DoesAt S k) speakers speakers false
at_none S speakers k none = (refl, λ other d. absurd (let no : None ≡ Some d.before = sym none ∙ d.has in cc))

-- none stands behind the last one
pub none_past : (speakers : Speakers) (k : ℕ) → (k < length speakers → ⊥) → slice_get speakers k ≡ None
none_past [] k past = refl
none_past (s ∷ speakers) zero past = absurd (past (omega arith))
none_past (s ∷ speakers) (suc k) past = none_past speakers k (λ within. past (omega arith))

-- Who makes a call

-- m runs one goroutine at most
abbrev pub RunsOne : Table → MNo → Type 0
RunsOne t m = (g h : GNo) → IsRunning t g m → IsRunning t h m → g ≡ h

-- and makes the blocking call of one at most
abbrev pub CallsOne : Table → MNo → Type 0
CallsOne t m = (g h : GNo) → IsCalling t g m → IsCalling t h m → g ≡ h

pub runs_one : (limits : Limits) (s : State) (m : MNo) → IsConsistentUnder limits s → RunsOne s.table m
runs_one limits s m is g h one two = is.together.one_goroutine m g h (inl one) (inl two)

pub calls_one : (limits : Limits) (s : State) (m : MNo) → IsConsistentUnder limits s → CallsOne s.table m
calls_one limits s m is g h one two = is.together.one_goroutine m g h (inr one) (inr two)

-- The parts of `LeadsBodies`

abbrev pub Asks : MNo → Call → Reply → Table → Speakers → Speakers → Type 0
Asks = AsksFor AsksTold BringsLast

abbrev pub Takes : Readiness → Table → Speakers → Speakers → Type 0
Takes = TakesUp AsksTold BringsLast

abbrev pub Ends : MNo → ℕ → Table → Speakers → Speakers → Type 0
Ends = Brings AsksTold BringsLast

-- what it says, by what the call has to do with bodies
abbrev pub LeadsPart : MNo → Call → Reply → Table → Part → Speakers → Speakers → Type 0
LeadsPart m what answer t part.Asked old new = Asks m what answer t old new
LeadsPart m what answer t (part.Claims r) old new = Takes r t old new
LeadsPart m what answer t (part.Brings number) old new = Ends m number t old new
LeadsPart m what answer t part.Own old new = new ≡ old

leads_so : (m : MNo) (what : Call) (answer : Reply) (t : Table) (old new : Speakers) → LeadsBodies m what answer t old new → LeadsPart m what answer t (part_of what) old new
leads_so m (call.Claim r) answer t old new is = is
leads_so m (call.Leave number) answer t old new is = is
leads_so m _ answer t old new is = is

-- a body asks for no other call next
pub asks_another : (what : Call) (answer : Reply) (before : Speaker Commands) (asked : Ask) (behind : Commands) → AsksTold before.body before.woke asked behind → (what ≡ call_for asked → ⊥)
    → (other : Speaker Commands) → AsksCall what answer before other → ⊥
asks_another what answer before asked behind asks differs other a =
    let same = next_once (heard before.woke before.body) a.asked asked a.behind behind a.asks asks in differs (a.calls ∙ ap call_for same.0)

-- Each part by the one that does it

pub asks_by : (m : MNo) (what : Call) (answer : Reply) (t : Table) (g : GNo) (old new : Speakers) (holds : Bool) → RunsOne t m → IsRunning t g m → Decides (DoesAt (AsksCall what answer) g.0) old new holds
    → Decides (Asks m what answer t) old new holds
asks_by m what answer t g old new holds one runs is = decides_as (DoesAt (AsksCall what answer) g.0) (Asks m what answer t) old new holds to from is where
  to : (x : Speakers) → DoesAt (AsksCall what answer) g.0 old x → Asks m what answer t old x
  to x d =
      record {
        g = g;
        runs = runs;
        before = d.before;
        has = d.has;
        asked = d.does.asked;
        after = d.does.behind;
        asks = d.does.asks;
        calls = d.does.calls;
        goes = d.goes ∙ ap (slice_set old g.0) d.does.goes;
      }

  from : (x : Speakers) → Asks m what answer t old x → DoesAt (AsksCall what answer) g.0 old x
  from x a =
      let who : a.g ≡ g = one a.g g a.runs runs in
      let then : Speaker Commands = record { body = a.after; woke = woke_after answer } in
      record {
        before = a.before;
        has = ap (λ (h : GNo). slice_get old h.0) (sym who) ∙ a.has;
        after = then;
        does = record { asked = a.asked; behind = a.after; asks = a.asks; calls = a.calls; goes = refl };
        goes = a.goes ∙ ap (λ (h : GNo). slice_set old h.0 then) who;
      }

-- nobody runs on m
pub asks_nowhere : (m : MNo) (what : Call) (answer : Reply) (t : Table) (speakers : Speakers) → ((g : GNo) → IsRunning t g m → ⊥) → Decides (Asks m what answer t) speakers speakers false
asks_nowhere m what answer t speakers nobody = (refl, λ other a. nobody a.g a.runs)

-- what is told whom
abbrev pub IsTold : Table → GNo → Speaker Commands → Speaker Commands → Type 0
IsTold t g before after = after ≡ record before { woke = stored_at t g }

pub takes_by : (r : Readiness) (t : Table) (old new : Speakers) (holds : Bool) → Decides (DoesAt (IsTold t r.g) r.g.0) old new holds → Decides (Takes r t) old new holds
takes_by r t old new holds is = decides_as (DoesAt (IsTold t r.g) r.g.0) (Takes r t) old new holds to from is where
  to : (x : Speakers) → DoesAt (IsTold t r.g) r.g.0 old x → Takes r t old x
  to x d = record { before = d.before; has = d.has; goes = d.goes ∙ ap (slice_set old r.g.0) d.does }

  from : (x : Speakers) → Takes r t old x → DoesAt (IsTold t r.g) r.g.0 old x
  from x u = record { before = u.before; has = u.has; after = record { body = u.before.body; woke = stored_at t r.g }; does = refl; goes = u.goes }

pub brings_by : (m : MNo) (number : ℕ) (t : Table) (g : GNo) (old new : Speakers) (holds : Bool) → CallsOne t m → IsCalling t g m → Decides (DoesAt (BringsNumber number) g.0) old new holds
    → Decides (Ends m number t) old new holds
brings_by m number t g old new holds one calls is = decides_as (DoesAt (BringsNumber number) g.0) (Ends m number t) old new holds to from is where
  to : (x : Speakers) → DoesAt (BringsNumber number) g.0 old x → Ends m number t old x
  to x d =
      record {
        g = g;
        calls = calls;
        before = d.before;
        has = d.has;
        after = d.before.body;
        brings = (d.does.0, refl);
        goes = d.goes ∙ ap (slice_set old g.0) d.does.1;
      }

  from : (x : Speakers) → Ends m number t old x → DoesAt (BringsNumber number) g.0 old x
  from x b =
      let who : b.g ≡ g = one b.g g b.calls calls in
      let then : Commands → Speaker Commands = λ c. record { body = c; woke = woke.Number number } in
      record {
        before = b.before;
        has = ap (λ (h : GNo). slice_get old h.0) (sym who) ∙ b.has;
        after = then b.after;
        does = (b.brings.0, ap then b.brings.1);
        goes = b.goes ∙ ap (λ (h : GNo). slice_set old h.0 (then b.after)) who;
      }

-- m makes no blocking call
pub brings_nowhere : (m : MNo) (number : ℕ) (t : Table) (speakers : Speakers) → ((g : GNo) → IsCalling t g m → ⊥) → Decides (Ends m number t) speakers speakers false
brings_nowhere m number t speakers nobody = (refl, λ other b. nobody b.g b.calls)

-- A call leads in one way

asks_fixed : (m : MNo) (what : Call) (answer : Reply) (t : Table) (old a b : Speakers) → RunsOne t m → Asks m what answer t old a → Asks m what answer t old b → a ≡ b
asks_fixed m what answer t old a b one x y =
    let who : x.g ≡ y.g = one x.g y.g x.runs y.runs in
    let before : x.before ≡ y.before = one_speaker (sym x.has ∙ ap (λ (h : GNo). slice_get old h.0) who ∙ y.has) in
    let too : AsksTold x.before.body x.before.woke y.asked y.after = subst (λ (s : Speaker Commands). AsksTold s.body s.woke y.asked y.after) (sym before) y.asks in
    let same = next_once (heard x.before.woke x.before.body) x.asked y.asked x.after y.after x.asks too in
    let then : Commands → Speaker Commands = λ c. record { body = c; woke = woke_after answer } in
    x.goes ∙ ap (λ (h : GNo). slice_set old h.0 (then x.after)) who ∙ ap (λ (c : Commands). slice_set old y.g.0 (then c)) same.1 ∙ sym y.goes

takes_fixed : (r : Readiness) (t : Table) (old a b : Speakers) → Takes r t old a → Takes r t old b → a ≡ b
takes_fixed r t old a b x y =
    let before : x.before ≡ y.before = one_speaker (sym x.has ∙ y.has) in
    let then : Speaker Commands → Speaker Commands = λ s. record { body = s.body; woke = stored_at t r.g } in
    x.goes ∙ ap (λ (s : Speaker Commands). slice_set old r.g.0 (then s)) before ∙ sym y.goes

brings_fixed : (m : MNo) (number : ℕ) (t : Table) (old a b : Speakers) → CallsOne t m → Ends m number t old a → Ends m number t old b → a ≡ b
brings_fixed m number t old a b one x y =
    let who : x.g ≡ y.g = one x.g y.g x.calls y.calls in
    let before : x.before ≡ y.before = one_speaker (sym x.has ∙ ap (λ (h : GNo). slice_get old h.0) who ∙ y.has) in
    let body : x.after ≡ y.after = x.brings.1 ∙ ap (λ (s : Speaker Commands). s.body) before ∙ sym y.brings.1 in
    let then : Commands → Speaker Commands = λ c. record { body = c; woke = woke.Number number } in
    x.goes ∙ ap (λ (h : GNo). slice_set old h.0 (then x.after)) who ∙ ap (λ (c : Commands). slice_set old y.g.0 (then c)) body ∙ sym y.goes

part_fixed : (m : MNo) (what : Call) (answer : Reply) (t : Table) (p : Part) (old a b : Speakers) → RunsOne t m → CallsOne t m → LeadsPart m what answer t p old a
    → LeadsPart m what answer t p old b → a ≡ b
part_fixed m what answer t part.Asked old a b runs calls x y = asks_fixed m what answer t old a b runs x y
part_fixed m what answer t (part.Claims r) old a b runs calls x y = takes_fixed r t old a b x y
part_fixed m what answer t (part.Brings number) old a b runs calls x y = brings_fixed m number t old a b calls x y
part_fixed m what answer t part.Own old a b runs calls x y = x ∙ sym y

pub leads_fixed : (m : MNo) (what : Call) (answer : Reply) (t : Table) (old a b : Speakers) → RunsOne t m → CallsOne t m → LeadsBodies m what answer t old a → LeadsBodies m what answer t old b → a ≡ b
leads_fixed m what answer t old a b runs calls x y =
    part_fixed m what answer t (part_of what) old a b runs calls (leads_so m what answer t old a x) (leads_so m what answer t old b y)

-- Runs

-- a run and one entry more
pub runs_next : (limits : Limits) (old mid new : State) (bodies between after : Speakers) (h : List Entry) (e : Entry) → RunsScript limits old bodies h mid between
    → IsStep limits e mid new → LeadsBodies e.m e.call e.reply mid.table between after → RunsScript limits old bodies (h ++ e ∷ []) new after
runs_next limits old mid new bodies between after [] e (state, body) step lead =
    let from : IsStep limits e old new = subst (λ (s : State). IsStep limits e s new) state step in
    let by_state : LeadsBodies e.m e.call e.reply old.table between after = subst (λ (s : State). LeadsBodies e.m e.call e.reply s.table between after) state lead in
    (new, after, from, subst (λ (l : Speakers). LeadsBodies e.m e.call e.reply old.table l after) body by_state, (refl, refl))
runs_next limits old mid new bodies between after (d ∷ h) e (x, l, one, two, rest) step lead =
    (x, l, one, two, runs_next limits x mid new l between after h e rest step lead)

-- a run of more goes through what its first entries lead to
pub runs_part : (limits : Limits) (old new : State) (bodies after : Speakers) (h k : List Entry) → RunsScript limits old bodies (h ++ k) new after
    → (mid : State) × (between : Speakers) × RunsScript limits old bodies h mid between × RunsScript limits mid between k new after
runs_part limits old new bodies after [] k run = (old, bodies, (refl, refl), run)
runs_part limits old new bodies after (e ∷ h) k (x, l, one, two, rest) =
    let p = runs_part limits x new l after h k rest in
    (p.0, p.1, (x, l, one, two, p.2), p.3)

-- entries lead in one way
pub runs_fixed : (limits : Limits) (old a b : State) (bodies x y : Speakers) (h : List Entry) → IsConsistentUnder limits old → RunsScript limits old bodies h a x
    → RunsScript limits old bodies h b y → (a ≡ b) × (x ≡ y)
runs_fixed limits old a b bodies x y [] is one two = (one.0 ∙ sym two.0, one.1 ∙ sym two.1)
runs_fixed limits old a b bodies x y (e ∷ h) is (mid, between, step, lead, rest) (mid_too, between_too, step_too, lead_too, rest_too) =
    let state : mid_too ≡ mid = next_fixed limits e old mid_too mid is step_too step in
    let body : between_too ≡ between = leads_fixed e.m e.call e.reply old.table bodies between_too between (runs_one limits old e.m is) (calls_one limits old e.m is) lead_too lead in
    let by_state : RunsScript limits mid between_too h b y = subst (λ (s : State). RunsScript limits s between_too h b y) state rest_too in
    runs_fixed limits mid a b between x y h (step_keeps limits e old mid is step) rest (subst (λ (l : Speakers). RunsScript limits mid l h b y) body by_state)

-- some run of these entries
abbrev pub Follows : Limits → State → Speakers → List Entry → Type 0
Follows limits start script h = (s : State) × (after : Speakers) × RunsScript limits start script h s after

-- where the entries so far lead somewhere and the next one leads nowhere from there, no run has them all
pub stops : (limits : Limits) (start mid : State) (script between : Speakers) (h rest : List Entry) (e : Entry) → IsConsistentUnder limits start
    → RunsScript limits start script h mid between
    → ((s : State) (after : Speakers) → IsStep limits e mid s → LeadsBodies e.m e.call e.reply mid.table between after → ⊥)
    → Follows limits start script (h ++ e ∷ rest) → ⊥
stops limits start mid script between h rest e is run none (s, after, whole) =
    let p = runs_part limits start s script after h (e ∷ rest) whole in
    let same = runs_fixed limits start p.0 mid script p.1 between h is p.2 run in
    let next = p.3 in
    let step : IsStep limits e mid next.0 = subst (λ (x : State). IsStep limits e x next.0) same.0 next.2 in
    let by_state : LeadsBodies e.m e.call e.reply mid.table p.1 next.1 = subst (λ (x : State). LeadsBodies e.m e.call e.reply x.table p.1 next.1) same.0 next.3 in
    none next.0 next.1 step (subst (λ (l : Speakers). LeadsBodies e.m e.call e.reply mid.table l next.1) same.1 by_state)

-- what holds of nothing is no where the answer is no
pub is_no : {P : Type 0} → (P → ⊥) → (IsTrue false → P) × (P → IsTrue false)
is_no none = (λ holds. absurd cc, λ p. absurd (none p))
