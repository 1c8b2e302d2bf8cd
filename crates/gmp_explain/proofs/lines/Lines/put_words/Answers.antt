use Rattle.std.proofs.Common.{◌++◌, codes, string_bytes, rules}
use Rattle.gmp_explain.specs.Text.{no_step_text}
use Rattle.gmp_explain.proofs.PartLemmas.{words_added, words_done}
use Rattle.gmp_allowed.proofs.Results.{on_ok}
use Rattle.gmp_explain.proofs.lines.Lines.put_words.Goals as goal

pub loop-words-preserved : goal.loop-words-preserved
loop-words-preserved c =
    let so_far = c.loop-words.invariant in
    let more = words_added (λ some. no_step_text some ++ codes "\n") so_far.k c.loop-words.rest.now c.in-Some.words.now c.in-Some.more.now
    (string_bytes c.loop-words.self.text) (string_bytes c.put.new.self.text) _ (search rules) (search rules) so_far.room c.in_ok-put.ensures so_far.whole in
    record { k = more.0; room = more.1; whole = more.2 }

pub returns : goal.returns
returns c =
    let so_far = c.loop-words.invariant in
    on_ok c.put-2.result (λ is. words_done (λ some. no_step_text some ++ codes "\n") so_far.k c.loop-words.rest.now
    (string_bytes c.loop-words.self.text) (string_bytes c.put-2.new.self.text) _ (search rules) is so_far.whole) c.put-2.ensures
