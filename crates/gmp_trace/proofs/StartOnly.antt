-- What is read is fixed by the text, and where a start stands there is no bad line.
use Rattle.std.proofs.Common.{◌≡◌, ℕ, ◌+◌, List, [], ◌++◌, length, codes, refl, sym, ap, subst, ◌∙◌, arith, append_assoc}
use Rattle.gmp_seq.specs.declared.call.Limits.{Limits}
use Rattle.gmp_seq.specs.Fits.{AreLimits}
use Rattle.gmp_seq.specs.State.{State}
use Rattle.gmp_trace.specs.StartForms.{HasLines, IsLineFault, MayFollow, Passed, chan_lines, line_text, lines_text, nothing_passed, passed_all, row_lines, state_lines}
use Rattle.gmp_trace.specs.StartForms.StartLine.{Begin}
use Rattle.gmp_trace.specs.StartNext.{behind_channels, behind_rows}
use Rattle.gmp_trace.specs.StartText.{start_text}
use Rattle.gmp_trace.specs.StartWhole.{AreStartLines}
use Rattle.gmp_trace.proofs.StartPushing.{chans_passed, passed_more, rows_passed, rows_there}
use Rattle.gmp_trace.proofs.StartSaid.{text_is}
use Rattle.gmp_trace.proofs.StartUnique.{IsWhole, no_fault, one_bad, one_start}

-- the text of a state and what is behind it, by lines
pub by_lines : (made : ℕ) (s : State) (rest : List ℕ) → start_text made s ++ rest ≡ lines_text (state_lines made s) ++ (line_text Begin ++ rest)
by_lines made s rest = ap (λ (t : List ℕ). t ++ rest) (text_is made s) ∙ append_assoc (lines_text (state_lines made s)) (codes "begin\n") rest

state_passed : (made : ℕ) (s : State) → passed_all nothing_passed (state_lines made s) ≡ behind_rows (length s.channels) (length s.table.goroutines)
state_passed made s =
    let xs : List _ = s.channels in
    let gs : List _ = s.table.goroutines in
    let one : 0 + length xs ≡ length xs = omega arith in
    let two : 0 + length gs ≡ length gs = omega arith in
    passed_more (behind_channels 0) (chan_lines 0 xs) (row_lines 0 gs)
    ∙ ap (λ (p : Passed). passed_all p (row_lines 0 gs)) (chans_passed 0 xs (behind_channels 0) refl refl refl ∙ ap behind_channels one ∙ rows_there (length xs))
    ∙ rows_passed (length xs) 0 gs (behind_rows (length xs) 0) refl refl refl ∙ ap (behind_rows (length xs)) two

module _ (limits : Limits) (bodies : ℕ) (are : AreLimits limits bodies []) (text : List ℕ) where
  whole_of : (made : ℕ) (s : State) → HasLines limits bodies made s → IsWhole limits bodies are nothing_passed (state_lines made s)
  whole_of made s has =
      record {
        right = has.lines;
        begins = subst (λ (p : Passed). MayFollow limits bodies p Begin) (sym (state_passed made s)) (omega arith, has.stock);
      }

  pub read_no_fault : (made : ℕ) (s : State) (rest : List ℕ) (line : ℕ) → AreStartLines limits bodies made text s rest → IsLineFault limits bodies text line → ⊥
  read_no_fault made s rest line read fault =
      no_fault limits bodies are nothing_passed (state_lines made s) fault.before text rest fault.rest (omega arith, omega arith)
      (whole_of made s read.lines) fault.right (read.whole ∙ by_lines made s rest) fault.whole fault.none

  pub lines_agree : (made : ℕ) (s : State) (rest : List ℕ) (said : ℕ) (t : State) (more : List ℕ)
      → AreStartLines limits bodies made text s rest → AreStartLines limits bodies said text t more
      → (state_lines made s ≡ state_lines said t) × (rest ≡ more)
  lines_agree made s rest said t more one two =
      one_start limits bodies are nothing_passed (state_lines made s) (state_lines said t) text rest more (omega arith, omega arith)
      (whole_of made s one.lines) (whole_of said t two.lines) (one.whole ∙ by_lines made s rest) (two.whole ∙ by_lines said t more)

  pub one_line_fault : (m n : ℕ) → IsLineFault limits bodies text m → IsLineFault limits bodies text n → m ≡ n
  one_line_fault m n one two =
      let many = one_bad limits bodies are nothing_passed one.before two.before text one.rest two.rest (omega arith, omega arith) one.right two.right one.whole two.whole one.none two.none in
      let a = one.there in
      let b = two.there in
      omega (arith, many, a, b)
