use Rattle.std.proofs.Common.{◌≡◌, ◌∙◌, ℕ, List, ◌++◌, ◌∷◌, [], codes, decimal, append_assoc, subst, rules}
use Rattle.std.specs.Io.KnownBytes.{Appends}
use Rattle.gmp_trace.specs.declared.trace.End.{End}
use Rattle.gmp_trace.specs.Summary.{entries_line, outcome_line}
use Rattle.gmp_parts.specs.Parts.{parts_line}
use Rattle.gmp_parts.proofs.telling.tell.Goals as goal

three_lines : (words : List ℕ) (end : End) (n k : ℕ) → codes "outcome: " ++ (words ++ 10 ∷ []) ≡ outcome_line end
    → codes "outcome: " ++ (words ++ (codes "\nentries: " ++ (decimal n ++ (codes "\nparts: " ++ (decimal k ++ 10 ∷ [])))))
    ≡ outcome_line end ++ entries_line n ++ parts_line k
unfolding entries_line
three_lines words end n k is =
    subst (λ (l : List ℕ). codes "outcome: " ++ (words ++ (codes "\nentries: " ++ (decimal n ++ (codes "\nparts: " ++ (decimal k ++ 10 ∷ []))))) ≡ l ++ entries_line n ++ parts_line k) is
    (simp append_assoc)

pub returns-clause-written : goal.returns-clause-written
returns-clause-written g c =
    let whole : c.as_bytes.result.now ≡ outcome_line c.args.end ++ entries_line c.args.entries ++ parts_line c.args.parts =
    c.as_bytes.ensures.value ∙ c.in_ok-text.ensures.ok ∙ three_lines c.words_of-words.result.now c.args.end c.args.entries c.args.parts c.words_of-words.ensures in
    subst (λ (l : List ℕ). Appends (g.W.Write.contents c.args.writer.now) (g.W.Write.contents c.write_all.new.self) l) whole (search rules)
