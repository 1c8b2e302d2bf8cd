-- What bodies of a script said, each its own.
use Rattle.std.proofs.Common.{Bool, ◌≡◌, ℕ, List, [], ◌∷◌, ◌++◌, Result, Ok, Err, IfOk, length, map, refl, ap, subst, ◌∙◌}
use Rattle.std.proofs.lemmas.List.{length-map}
use Rattle.std.proofs.Math.Logic.{∥∥₁_map}
use Rattle.gmp_base.specs.declared.ask.Ask.{Ask}
use Rattle.gmp_base.specs.declared.ask.Woke.{Woke}
use Rattle.gmp_seq.specs.declared.call.Entry.{Entry}
use Rattle.gmp_seq.specs.declared.call.Limits.{Limits}
use Rattle.gmp_scene.specs.Scripted.{Speakers}
use Rattle.gmp_script.specs.Script.{AsksTold, BringsLast, Commands}
use Rattle.gmp_worker.specs.declared.bodies.Own.{Own}
use Rattle.gmp_said.specs.Said.{AreSaid, Speaker}
use Rattle.gmp_step_laws.specs.Refused.{IsRunButMakes}
use Rattle.gmp_step_laws.proofs.Said.{script_said}
use Rattle.gmp_run.specs.declared.ending.Report.{Report}
use Rattle.gmp_run.specs.Desks.{joined}
use Rattle.gmp_run.specs.Reports.{IsPiecesReport, SaysPieces}
use Rattle.gmp_run_cli.specs.Told.{IsOfScriptButMakes}

abbrev pub OwnBody : Type 0
OwnBody = Own Commands

abbrev pub own : Commands → OwnBody
own b = record { 0 = b }

-- how a body of a script is resumed, and makes its blocking calls
abbrev pub asks : OwnBody → Woke → Ask → OwnBody → Type 0
asks b woke asked c = AsksTold b.0 woke asked c.0

abbrev pub brings : OwnBody → ℕ → OwnBody → Type 0
brings b number c = BringsLast b.0 number c.0

same_bodies : (script : List Commands) → map (λ (o : OwnBody). o.0) (map own script) ≡ script
same_bodies [] = refl
same_bodies (b ∷ script) = ap (λ (bs : List Commands). b ∷ bs) (same_bodies script)

pub length_own : (script : List Commands) (owned : List OwnBody) → owned ≡ map own script → length owned ≡ length script
length_own script owned is = ap (λ (l : List OwnBody). length l) is ∙ length-map script own

module _ (limits : Limits) (capacities : List ℕ) (script : List Commands) (owned : List OwnBody) (are : owned ≡ map own script) where
  pub said_by : (h : List Entry) (bodies : List OwnBody) → AreSaid asks brings limits capacities owned h bodies → IsOfScriptButMakes limits capacities script h
  said_by h bodies said =
      let given : map (λ (o : OwnBody). o.0) owned ≡ script = ap (map (λ (o : OwnBody). o.0)) are ∙ same_bodies script in
      ∥∥₁_map said (λ s.
      let of_script : Speaker OwnBody → Speaker Commands = λ q. record { body = q.body.0; woke = q.woke } in
      let after : Speakers = map of_script s.1 in (
        s.0,
        after,
        subst (λ (bs : List Commands). IsRunButMakes limits capacities bs h s.0 after) given
            (script_said asks brings (λ (o : OwnBody). o.0) (λ b woke asked c is. is) (λ b number c is. is) limits capacities owned h s.0 s.1 s.2),
      ))

  pub run_said : {E : Type 0} (ran : Result (Report OwnBody) E) → IfOk ran (λ (r : Report OwnBody). AreSaid asks brings limits capacities owned r.history.list r.bodies.items)
      → IfOk ran (λ (r : Report OwnBody). IsOfScriptButMakes limits capacities script r.history.list)
  run_said (Ok r) said = said_by r.history.list r.bodies.items said
  run_said (Err u) said = tt

  pub pieces_said : {S E : Type 0} (takes refuses : S → List Entry → S → Type 0) (began sink : S) (run : ℕ) (is_fair : Bool) (ran : Result (Report OwnBody) E)
      → IfOk ran (λ (r : Report OwnBody). SaysPieces run is_fair asks brings takes refuses limits capacities owned began r sink)
      → IfOk ran (λ (r : Report OwnBody). (p : IsPiecesReport takes refuses limits capacities (length owned) began r sink) × IsOfScriptButMakes limits capacities script (joined p.pieces ++ r.history.list))
  pieces_said takes refuses began sink run is_fair (Ok r) said = (said.0.0, said_by (joined said.0.0.pieces ++ r.history.list) r.bodies.items said.1)
  pieces_said takes refuses began sink run is_fair (Err u) said = tt
