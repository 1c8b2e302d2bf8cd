use Rattle.std.proofs.Common.{◌≡◌, ◌≤◌, ℕ, ◌++◌, codes, length, string_bytes}
use Rattle.std.specs.List.{flat_map}
use Rattle.gmp_explain.specs.Lines.{words_up_to}
use Rattle.gmp_explain.specs.Text.{no_step_text}
use Rattle.gmp_explain.proofs.lines.Lines.put_words.Given as goal

-- what was added, and the lines of the words that are left
abbrev pub invariant-loop-words : goal.invariant-loop-words
invariant-loop-words l = record {
  k : ℕ;
  room : length l.rest ≤ k;
  whole : string_bytes l.self.text ++ flat_map (λ some. no_step_text some ++ codes "\n") (words_up_to k l.rest)
      ≡ string_bytes l.initial.self.text ++ flat_map (λ some. no_step_text some ++ codes "\n") (words_up_to (length l.fn.line) l.fn.line);
}

abbrev pub decreases-loop-words : goal.decreases-loop-words
decreases-loop-words l = length l.rest
