-- No claim is refused.
use Rattle.std.proofs.Common.{◌≡◌, Bool, if◌then◌else◌, List, [], ◌∷◌, ◌++◌, refl, ap, ◌∙◌, subst, inl, inr, Some, is_some}
use Rattle.gmp_base.specs.declared.number.MNo.{MNo}
use Rattle.gmp_base.specs.declared.number.Readiness.{Readiness}
use Rattle.gmp_seq.specs.declared.call.Call.TheVariants as call
use Rattle.gmp_seq.specs.declared.call.Reply.{Reply}
use Rattle.gmp_seq.specs.declared.call.Reply.TheVariants as reply
use Rattle.gmp_acts.specs.System.{BookRun, count_of}
use Rattle.gmp_driver.specs.declared.act.Act.{Act}
use Rattle.gmp_driver.specs.declared.act.Act.TheVariants as act
use Rattle.gmp_driver.specs.declared.place.Place.{Place}
use Rattle.gmp_driver.specs.Fits.{SuitsPlace}
use Rattle.gmp_driver.specs.Seen.{seen}
use Rattle.gmp_driver.specs.Table.{act_at, claim_call, next_act}
use Rattle.gmp_acts.specs.declared.choice.Choice.{Choice}
use Rattle.gmp_acts.specs.declared.made.Made.{Made}
use Rattle.gmp_acts.specs.Hands.{PlainMachine}
use Rattle.gmp_acts.specs.System.{System, machine_at}
use Rattle.gmp_acts.specs.Acts.{Acts, Answers, MakesCall, DoesAct}
use Rattle.gmp_acts.specs.Headline.{EntersClaim, NoClaimIsRefused}
use Rattle.gmp_acts.specs.Sound.{Agrees, IsSound}
use Rattle.gmp_acts.proofs.Granted.{granted}
use Rattle.gmp_acts.proofs.Lands.{some_of}
use Rattle.gmp_acts.proofs.Replies.{CanReply, replies}

held_reply : (r : Readiness) (answer : Reply) → CanReply (call.Claim r) answer → answer ≡ reply.Held
held_reply r reply.Held h = refl
held_reply r _ h = absurd h

pub no_claim_refused : (k : System) (m : MNo) (choice : Choice) (k' : System) → IsSound k → Acts k m choice k' → NoClaimIsRefused k m k'
no_claim_refused k m choice k' s acts inside at stale goes =
    let x = machine_at k m in
    let mine : Agrees k.book m (machine_at k m) = s.each m inside in
    let t = some_of (machine_at k m).hand.to_claim (subst (λ (p : Place). SuitsPlace p (machine_at k m).hand) at (mine.driver.fits (ap is_some mine.has_pass))).has_to_claim in
    let next : next_act (machine_at k m) ≡ act.Call (call.Claim t.0) =
    ap (λ (p : Place). act_at (seen (machine_at k m)) p) at ∙ ap (λ (b : Bool). if b then act.Call call.Poke else claim_call (machine_at k m).hand.to_claim) stale ∙ ap claim_call t.1 in
    let d : MakesCall k m (call.Claim t.0) k' = subst (λ (a : Act). DoesAct a k m choice k') next (acts.by_place inside) in
    by_answer t.0 t.1 next d.0 d.1 d.2 d.3 (ap (λ (j : System). j.book.history) d.4)
  where
    by_answer : (r : Readiness) → (machine_at k m).hand.to_claim ≡ Some r → next_act (machine_at k m) ≡ act.Call (call.Claim r) → (x' : PlainMachine) (book' : BookRun) (own' : List Made)
        → Answers (machine_at k m) m (call.Claim r) k.book k.own x' book' own' → k'.book.history ≡ book'.history → EntersClaim k m k'
    by_answer r has next x' book' own' (inl done) is =
        let answer : done.answer ≡ reply.Held = held_reply r done.answer (replies k.book.limits m (call.Claim r) done.answer k.book.state book'.state done.step.1) in
        record {
          ticket = r;
          has_ticket = has;
          entry = is ∙ done.entry ∙ ap (λ (y : Reply). k.book.history ++ record { m = m; k = count_of k.book m; call = call.Claim r; reply = y } ∷ []) answer;
        }
    by_answer r has next x' book' own' (inr (inl stop)) is = absurd (stop.over goes)
    by_answer r has next x' book' own' (inr (inr (inl want))) is = absurd want.makes
    by_answer r has next x' book' own' (inr (inr (inr declined))) is = absurd (declined.unmet (granted k m (call.Claim r) inside s next declined.lasts))
