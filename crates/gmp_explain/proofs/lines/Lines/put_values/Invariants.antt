use Rattle.std.proofs.Common.{◌≡◌, ◌≤◌, ℕ, ◌++◌, codes, length, string_bytes}
use Rattle.std.specs.List.{flat_map}
use Rattle.std.specs.Slice.Iter.{chunks_rest, chunks_size}
use Rattle.gmp_explain.specs.Lines.{parts, parts_up_to}
use Rattle.gmp_explain.specs.Text.{values_text}
use Rattle.gmp_explain.proofs.lines.Lines.put_values.Given as goal

-- what was added, and the lines of the parts that are left
abbrev pub invariant-loop-some : goal.invariant-loop-some
invariant-loop-some l = record {
  size : chunks_size l.some-iterator ≡ 4;
  k : ℕ;
  room : length (chunks_rest l.some-iterator) ≤ k;
  whole : string_bytes l.self.text ++ flat_map (λ some. values_text l.fn.c some ++ codes "\n") (parts_up_to 4 k (chunks_rest l.some-iterator))
      ≡ string_bytes l.initial.self.text ++ flat_map (λ some. values_text l.fn.c some ++ codes "\n") (parts 4 l.fn.values);
}
