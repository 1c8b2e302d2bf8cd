use Rattle.std.proofs.Common.{◌≡◌, ◌∙◌, ◌+◌, ◌++◌, ◌∷◌, [], List, Some, sym, ap, drop, arith}
use Rattle.std.specs.List.{slice_get}
use Rattle.circular_buffer.proofs.Places.{slice_get-some}
use Rattle.gmp_history.specs.Brief.{HistoryContents}
use Rattle.gmp_seq.specs.declared.call.Entry.{Entry}
use Rattle.gmp_check.proofs.Parting.{added}
use Rattle.gmp_check.proofs.cut.add_from.Goals as goal
use Rattle.gmp_check.proofs.cut.add_from.Goals.{in-Some+in_ok-make_room, in_default}

pub loop-i-preserved : goal.loop-i-preserved
loop-i-preserved c =
    let h : List Entry = c.args.entries.now.list in
    let i = c.loop-i.i in
    let all : List Entry = c.args.history.now.list ++ drop c.args.first h in
    elim c.match-get.branch [
      | in-Some+in_ok-make_room w ↦
          let e : Entry = w.in-Some.entry in
          let at : slice_get h i ≡ Some e = sym c.get.ensures ∙ w.in-Some.is in
          let now_ : c.match-get.history.list ≡ c.loop-i.history.list ++ e ∷ [] =
          ap (λ (x : HistoryContents). x.list) (w.history-is ∙ w.push.ensures.list) ∙ ap (λ (l : List Entry). l ++ e ∷ []) w.in_ok-make_room.ensures.list in
          ap (λ (l : List Entry). l ++ drop (i + 1) h) now_ ∙ added c.loop-i.history.list h all i e at c.loop-i.invariant
      | in_default w ↦
          let (e, at) = slice_get-some h i (omega (arith, c.loop-i-test.true, c.len-i-end.ensures.value)) in
          absurd (w.in_default.not-Some e (c.get.ensures ∙ at))
    ]
