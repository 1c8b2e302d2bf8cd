use Rattle.std.proofs.Common.{◌≡◌, ◌^◌, ◌∷◌, ◌++◌, ℕ, List, [], length, map, min, Some, rules, ap, ◌∙◌, sym}
use Rattle.std.proofs.lemmas.List.{length-map}
use Rattle.gmp_base.specs.declared.number.CNo.{CNo}
use Rattle.gmp_base.specs.declared.number.GNo.{GNo}
use Rattle.gmp_seq.specs.State.{State}
use Rattle.gmp_start.specs.Start.{channel_of, state_of, table_of}
use Rattle.gmp_trace.specs.declared.trace.End.{End}
use Rattle.gmp_trace.specs.Text.{end_of}
use Rattle.gmp_explain.specs.Spoken.{Ends, Remark, TellsOf}
use Rattle.gmp_explain.specs.Stated.{channel_said, for_each, goroutine_said, state_said}
use Rattle.gmp_allowed.proofs.Results.{on_ok}
use Rattle.gmp_explain.proofs.Spoken.{as_said, behind, join, one}
use Rattle.gmp_explain.proofs.telling.tell_story.Goals as goal

pub returns : goal.returns
returns g c =
    let told = g.S.Sink.told in
    let a = c.args.sink.now in
    let story = c.args.story.now in
    let s = story.replay.state in
    let b = c.tell.new.self in
    let d = c.tell_goroutines.new.sink in
    let e = c.tell_channels.new.sink in
    let f = c.tell_cycles.new.sink in
    let rows = story.last.goroutines.items in
    let channels = map channel_of story.last.channels.items in
    let ends : Remark = Ends (end_of s.outcome) story.steps in
    let goroutines : List Remark = for_each (length rows) (λ (n : ℕ). let h : GNo = record { 0 = n } in goroutine_said s.outcome (table_of story.last) h) in
    let told_channels : List Remark = for_each (min (length story.last.channels.items) (2 ^ 16)) (λ (n : ℕ). let h : CNo = record { 0 = n } in channel_said rows channels h) in
    let here : State = record (state_of story.last) { outcome = s.outcome } in
    let same : here ≡ s = ap (λ (x : State). let y : State = record x { outcome = s.outcome } in y) c.requires.same in
    let size : length story.last.channels.items ≡ length channels = sym (length-map story.last.channels.items channel_of) in
    let are : state_said story.steps s ≡ ends ∷ (goroutines ++ told_channels) =
    sym (ap (λ (k : ℕ). ends ∷ (goroutines ++ for_each (min k (2 ^ 16)) (λ (n : ℕ). let h : CNo = record { 0 = n } in channel_said rows channels h))) size ∙ ap (state_said story.steps) same) in
    let end_is : c.of.result ≡ end_of s.outcome = search rules in
    let first : TellsOf told (ends ∷ []) a b = one told a b ends c.in_ok-tell.ensures (ap (λ (e : End). Some (Ends e story.steps)) end_is) in
    on_ok c.tell_units.result (λ last.
    as_said told a c.tell_units.new.sink (state_said story.steps s) (ends ∷ (goroutines ++ told_channels)) are
    (behind told a f c.tell_units.new.sink (ends ∷ (goroutines ++ told_channels))
    (behind told a e f (ends ∷ (goroutines ++ told_channels))
    (join told a b e (ends ∷ []) (goroutines ++ told_channels) first (join told b d e goroutines told_channels c.in_ok-tell_goroutines.ensures c.in_ok-tell_channels.ensures))
    c.in_ok-tell_cycles.ensures) last)) c.tell_units.ensures
