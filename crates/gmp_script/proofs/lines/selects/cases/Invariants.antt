use Rattle.std.proofs.Common.{◌≡◌, ◌≤◌, length, map, take, Some}
use Rattle.gmp_script.specs.Lines.{case_of}
use Rattle.gmp_script.proofs.lines.selects.cases.Given as goal

abbrev pub invariant-loop-word : goal.invariant-loop-word
invariant-loop-word l = record {
  named : map Some l.cases ≡ take l.word-index (map (λ word. case_of word.now) l.words);
  fit : length l.cases ≤ 8;
}
