use Rattle.std.proofs.Common.{◌≡◌, [], ◌∷◌, Bool, Some, ap, rules}
use Rattle.gmp_seq.specs.Table.{status_at}
use Rattle.gmp_start.specs.Start.{table_of}
use Rattle.std.specs.Option.{option_map_or}
use Rattle.gmp_seq.specs.declared.status.Status.{Status}
use Rattle.gmp_explain.specs.Spoken.{Does, Remark}
use Rattle.gmp_explain.specs.Stated.{cases_said, is_leak}
use Rattle.gmp_allowed.proofs.Results.{on_ok}
use Rattle.gmp_explain.proofs.Spoken.{as_said, behind, join, one}
use Rattle.gmp_explain.proofs.telling.tell_goroutine.Goals as goal

pub returns : goal.returns
returns g c =
    let a = c.args in
    let told = g.S.Sink.told in
    let o = a.story.now.replay.state.outcome in
    let t = table_of a.story.now.last in
    let status = c.in-Some.status.now in
    let is : status_at t a.g ≡ Some status = search rules in
    let leak : c.is_leak.result ≡ is_leak o status = search rules in
    let does : Remark = Does a.g status (is_leak o status) in
    let first = one told a.sink.now c.tell.new.self does c.in_ok-tell.ensures (ap (λ (b : Bool). Some (Does a.g status b)) leak) in
    on_ok c.tell_lost.result (λ last.
    as_said told a.sink.now c.tell_lost.new.sink _ (does ∷ cases_said a.g status)
    (ap (λ o1. option_map_or (λ (s : Status). Does a.g s (is_leak o s) ∷ cases_said a.g s) o1 []) is)
    (join told a.sink.now c.tell.new.self c.tell_lost.new.sink (does ∷ []) (cases_said a.g status) first
    (behind told c.tell.new.self c.tell_cases.new.sink c.tell_lost.new.sink (cases_said a.g status) c.in_ok-tell_cases.ensures last))) c.tell_lost.ensures
