-- Entries one after another, and what a call does to the speakers.
use Rattle.std.proofs.Common.{◌≡◌, ◌⊎◌, inl, inr, List, [], ◌∷◌, ◌++◌, refl, subst}
use Rattle.gmp_base.specs.declared.ask.Ask.{Ask}
use Rattle.gmp_base.specs.declared.ask.Ask.TheVariants as ask
use Rattle.gmp_base.specs.declared.number.MNo.{MNo}
use Rattle.gmp_base.specs.declared.number.Readiness.{Readiness}
use Rattle.gmp_driver.specs.Table.{call_for}
use Rattle.gmp_script.specs.Script.{AsksTold, BringsLast}
use Rattle.gmp_seq.specs.declared.call.Call.{Call}
use Rattle.gmp_seq.specs.declared.call.Call.TheVariants as call
use Rattle.gmp_seq.specs.declared.call.Entry.{Entry}
use Rattle.gmp_seq.specs.declared.call.Limits.{Limits}
use Rattle.gmp_seq.specs.declared.call.Reply.{Reply}
use Rattle.gmp_seq.specs.Run.{IsStep}
use Rattle.gmp_seq.specs.State.{State}
use Rattle.gmp_seq.specs.Table.{Table}
use Rattle.gmp_said.specs.Said.{AsksFor}
use Rattle.gmp_said.proofs.Places.{IsOwn}
use Rattle.gmp_scene.specs.Scripted.{LeadsBodies, RunsScript, Speakers}

-- one entry more
pub runs_on : (limits : Limits) (a b c : State) (x y z : Speakers) (h : List Entry) (e : Entry) → RunsScript limits a x h b y → IsStep limits e b c → LeadsBodies e.m e.call e.reply b.table y z
    → RunsScript limits a x (h ++ e ∷ []) c z
runs_on limits a b c x y z [] e same step leads =
    subst (λ (s : State). RunsScript limits s x (e ∷ []) c z) same.0 (subst (λ (q : Speakers). RunsScript limits b q (e ∷ []) c z) same.1 (c, z, step, leads, (refl, refl)))
runs_on limits a b c x y z (first ∷ h) e (mid, between, step, leads, rest) last leads_last = (mid, between, step, leads, runs_on limits mid b c between y z h e rest last leads_last)

-- a claim, or another call
pub claim_or : (c : Call) → ((r : Readiness) × (c ≡ call.Claim r)) ⊎ ((r : Readiness) → c ≡ call.Claim r → ⊥)
claim_or (call.Claim r) = inl (r, refl)
claim_or _ = inr (λ r e. let wrong : ⊥ = cc in wrong)

-- the call for an ask
pub leads_asked : (m : MNo) (asked : Ask) (answer : Reply) (t : Table) (x y : Speakers) → AsksFor AsksTold BringsLast m (call_for asked) answer t x y → LeadsBodies m (call_for asked) answer t x y
leads_asked m ask.Yield answer t x y h = h
leads_asked m ask.Exit answer t x y h = h
leads_asked m _ answer t x y h = h

-- a call of the machine's own that is no claim
pub leads_own : (m : MNo) (c : Call) (answer : Reply) (t : Table) (x : Speakers) → IsOwn c → ((r : Readiness) → c ≡ call.Claim r → ⊥) → LeadsBodies m c answer t x x
leads_own m (call.Claim r) answer t x own other = absurd (other r refl)
leads_own m call.Acquire answer t x own other = refl
leads_own m call.Take answer t x own other = refl
leads_own m (call.Put r) answer t x own other = refl
leads_own m call.Spin answer t x own other = refl
leads_own m call.Woken answer t x own other = refl
leads_own m call.Keep answer t x own other = refl
leads_own m call.Unspin answer t x own other = refl
leads_own m call.Poke answer t x own other = refl
leads_own m call.Declare answer t x own other = refl
leads_own m call.Bare answer t x own other = refl
leads_own m call.Park answer t x own other = refl
leads_own m (call.Tick moment) answer t x own other = refl
leads_own m _ answer t x own other = absurd own
