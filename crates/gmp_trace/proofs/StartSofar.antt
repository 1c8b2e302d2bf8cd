-- From line to line, and the first that is bad.
use Rattle.std.proofs.Common.{◌≡◌, ℕ, ◌+◌, false, List, [], ◌∷◌, ◌++◌, length, refl, sym, ap, ◌∙◌, arith}
use Rattle.gmp_seq.specs.declared.call.Limits.{Limits}
use Rattle.gmp_trace.specs.StartForms.{IsLineFault, NoneFollows, StartLine, is_begin, lines_text, nothing_passed, passed_all}
use Rattle.gmp_trace.specs.StartNext.{IsNext}
use Rattle.gmp_trace.specs.StartWhole.{SoFar}
use Rattle.gmp_trace.proofs.StartPushing.{are_append, lines_push}

module _ (limits : Limits) (bodies : ℕ) (text : List ℕ) where
  pub first : SoFar limits bodies text [] text
  first = record { whole = refl; right = tt }

  pub next : (ls : List StartLine) (rest : List ℕ) (l : StartLine) (more : List ℕ) → SoFar limits bodies text ls rest → is_begin l ≡ false
      → IsNext limits bodies (passed_all nothing_passed ls) rest l more → SoFar limits bodies text (ls ++ l ∷ []) more
  next ls rest l more before plain is =
      record {
        whole = before.whole ∙ ap (λ (t : List ℕ). lines_text ls ++ t) is.whole ∙ sym (lines_push ls l more);
        right = are_append limits bodies nothing_passed ls (l ∷ []) before.right (plain, is.may, tt);
      }

  pub fault : (ls : List StartLine) (rest : List ℕ) (line : ℕ) → SoFar limits bodies text ls rest → line ≡ length ls + 3
      → NoneFollows limits bodies (passed_all nothing_passed ls) rest → IsLineFault limits bodies text line
  fault ls rest line before at none =
      record { before = ls; rest = rest; right = before.right; whole = before.whole; there = omega (arith, at); none = none }
