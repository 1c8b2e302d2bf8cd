use Rattle.std.proofs.Common.{◌≡◌, ℕ, ◌-◌, List, length, take, vec_len, rules, ap, ◌∙◌}
use Rattle.gmp_trace.specs.Pieces.{entry_text}
use Rattle.gmp_explain.proofs.ReplyWords.{without_feed}
use Rattle.gmp_explain.proofs.riddle.line_of.Goals as goal

pub returns : goal.returns
returns c =
    let text : c.put_entry.new.out.items ≡ entry_text c.args.number c.args.entry.now = search rules in
    let out = c.put_entry.new.out in
    let size : vec_len out ≡ length out.items = search rules in
    without_feed c.args.number c.args.entry.now c.pop.new.self.items
    (c.pop.ensures.rest ∙ ap (λ (n : ℕ). take (n - 1) out.items) size ∙ ap (λ (l : List ℕ). take (length l - 1) l) text)
