use Rattle.std.proofs.Common.{rules, refl, ◌≡◌, ℕ, List, IfOk, length, subst}
use Rattle.gmp_pieces.proofs.Taken.{refuses, takes}
use Rattle.gmp_run.specs.Reports.{IsPiecesReport, SaysPieces}
use Rattle.gmp_seq.specs.declared.call.Limits.{Limits}
use Rattle.gmp_seq.specs.Fits.{AreLimits}
use Rattle.gmp_words.specs.Runs.{limits_in}
use Rattle.gmp_run_cli.proofs.InParts.{at_first, begun_within, wrote_run}
use Rattle.gmp_run_cli.proofs.OneRun.{is_run}
use Rattle.gmp_run_cli.proofs.Owned.{asks, brings, length_own, pieces_said}
use Rattle.gmp_run_cli.proofs.segments.in_parts.Given.{Over}
use Rattle.gmp_run_cli.proofs.segments.in_parts.Goals as goal

-- each body is its own, and the run may have these limits
module _ (g : Over) (c : goal.After-drop-script-2 g) where
  counted : length c.in-Ok.owned.items ≡ length c.args.script.bodies.items
  counted = length_own c.args.script.bodies.items c.in-Ok.owned.items (search rules)

  within : AreLimits (limits_in c.args.segments c.args.settings.now) (length c.args.script.bodies.items) c.args.script.capacities.items
  within = search rules

  first : c.in-Ok-open.parts ≡ at_first g.O.Write.contents (limits_in c.args.segments c.args.settings.now) (length c.args.script.bodies.items) c.args.script.capacities.items c.args.outlet within
  first = search rules

  -- this is what the run came to, under these limits and with these capacities
  abbrev RunsTo : Limits → List ℕ → Type 0
  RunsTo limits capacities =
      IfOk c.run_into_fair-ran.result.0
      (λ r. IsPiecesReport (takes g.O.Write.contents (λ s. s.0)) (refuses g.O.Write.contents (λ s. s.0)) limits capacities (length c.in-Ok.owned.items) (record { 0 = c.in-Ok-open.parts }) r
      c.run_into_fair-ran.result.1)

  came_to : RunsTo (limits_in c.args.segments c.args.settings.now) c.args.script.capacities.items
  came_to =
      subst (λ (limits : Limits). RunsTo limits c.args.script.capacities.items) c.limits_in-limits.ensures
      (subst (RunsTo c.limits_in-limits.result) c.deref-3.ensures.value c.run_into_fair-ran.ensures.report)

  -- and what was said in it
  abbrev SaysTo : Limits → List ℕ → Type 0
  SaysTo limits capacities =
      IfOk c.run_into_fair-ran.result.0
      (λ r. SaysPieces 0 c.args.settings.now.fair asks brings (takes g.O.Write.contents (λ s. s.0)) (refuses g.O.Write.contents (λ s. s.0)) limits capacities c.in-Ok.owned.items (record { 0 = c.in-Ok-open.parts }) r
      c.run_into_fair-ran.result.1)

  said_in : SaysTo (limits_in c.args.segments c.args.settings.now) c.args.script.capacities.items
  said_in =
      subst (λ (limits : Limits). SaysTo limits c.args.script.capacities.items) c.limits_in-limits.ensures
      (subst (SaysTo c.limits_in-limits.result) c.deref-3.ensures.value c.run_into_fair-ran.ensures.says)

pub returns-clause-written : goal.returns-clause-written
returns-clause-written g c = λ nothing.
    rw c.into_inner.ensures
    (wrote_run g.O.Write.contents (λ s. s.0) (limits_in c.args.segments c.args.settings.now) (length c.args.script.bodies.items) c.args.script.capacities.items c.args.outlet
    (within g c) (record { 0 = c.in-Ok-open.parts }) c.run_into_fair-ran.result.1 (first g c) c.args.script.bodies.items refl
    c.told_in_parts-ended.result.said c.told_in_parts-ended.result.status _ c.told_in_parts-ended.new.pieces.0 _ _ c.run_into_fair-ran.result.0 (counted g c)
    (pieces_said (limits_in c.args.segments c.args.settings.now) c.args.script.capacities.items c.args.script.bodies.items c.in-Ok.owned.items (search rules)
    (takes g.O.Write.contents (λ s. s.0)) (refuses g.O.Write.contents (λ s. s.0)) (record { 0 = c.in-Ok-open.parts }) c.run_into_fair-ran.result.1 0 c.args.settings.now.fair c.run_into_fair-ran.result.0 (said_in g c))
    (search rules) c.told_in_parts-ended.ensures.unrun c.told_in_parts-ended.ensures.told nothing)

pub returns-clause-limits : goal.returns-clause-limits
returns-clause-limits g c = λ bad are.
    begun_within (limits_in c.args.segments c.args.settings.now) c.args.script.capacities.items _ _ c.told_in_parts-ended.result.said c.run_into_fair-ran.result.0 (counted g c) are
    (search rules) c.told_in_parts-ended.ensures.unrun c.told_in_parts-ended.ensures.kinds bad

pub returns-clause-audit : goal.returns-clause-audit
returns-clause-audit g c = λ none.
    is_run g.O.Write.contents (λ s. s.0) (limits_in c.args.segments c.args.settings.now) (length c.args.script.bodies.items) c.args.script.capacities.items c.args.outlet
    (within g c) (record { 0 = c.in-Ok-open.parts }) c.run_into_fair-ran.result.1 (first g c) c.told_in_parts-ended.new.pieces.0
    _ c.told_in_parts-ended.result.said c.run_into_fair-ran.result.0 (counted g c) (came_to g c)
    (search rules) c.told_in_parts-ended.ensures.unrun c.told_in_parts-ended.ensures.no_run none
