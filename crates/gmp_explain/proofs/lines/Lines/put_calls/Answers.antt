use Rattle.std.proofs.Common.{◌≡◌, ℕ, ◌++◌, codes, length, min, string_bytes, arith, ap, ◌∙◌}
use Rattle.std.specs.Slice.Iter.{chunks_rest}
use Rattle.gmp_explain.specs.Text.{calls_text}
use Rattle.gmp_explain.proofs.PartLemmas.{parts_added, parts_done}
use Rattle.gmp_explain.proofs.lines.Lines.put_calls.Goals as goal

pub loop-some-preserved : goal.loop-some-preserved
loop-some-preserved c =
    let so_far = c.loop-some.invariant in
    let rest = chunks_rest c.loop-some.some-iterator in
    let steps = c.in-Some.ensures.steps in
    let size : length c.in-Some.some.now ≡ min 6 (length rest) = steps.1.1 ∙ ap (λ (n : ℕ). min n (length rest)) so_far.size in
    let more = parts_added (λ some. calls_text c.args.who some ++ codes "\n") 6 so_far.k rest c.in-Some.some.now (chunks_rest c.next.new.self)
    (string_bytes c.loop-some.self.text) (string_bytes c.put.new.self.text) _ steps.1.0 size steps.1.2 (omega arith) so_far.room c.in_ok-put.ensures so_far.whole in
    record { size = steps.0 ∙ so_far.size; k = more.0; room = more.1; whole = more.2 }

pub returns : goal.returns
returns c =
    let so_far = c.loop-some.invariant in
    parts_done (λ some. calls_text c.args.who some ++ codes "\n") 6 so_far.k (chunks_rest c.loop-some.some-iterator)
    (string_bytes c.loop-some.self.text) _ c.in-None.ensures.steps.1.0 so_far.whole
