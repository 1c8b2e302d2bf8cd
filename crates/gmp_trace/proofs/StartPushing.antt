-- One line more behind those that were read.
use Rattle.std.proofs.Common.{◌≡◌, ◌<◌, ℕ, ◌+◌, List, [], ◌∷◌, ◌++◌, length, refl, sym, ap, subst, ◌∙◌, arith, append_assoc}
use Rattle.std.proofs.lemmas.Grind.{flat_map-append}
use Rattle.std.proofs.lemmas.List.{length-append}
use Rattle.gmp_seq.specs.declared.call.Limits.{Limits}
use Rattle.gmp_seq.specs.declared.status.Goroutine.{Goroutine}
use Rattle.gmp_seq.specs.Channels.{Channel}
use Rattle.gmp_trace.specs.StartForms.{AreLines, Passed, StartLine, chan_lines, line_text, lines_text, passed, passed_all, row_lines}
use Rattle.gmp_trace.specs.StartForms.StartLine.{Chan, Row}
use Rattle.gmp_trace.specs.StartNext.{AreChannels, AreRows, IsNext, behind_channels, behind_rows, chan_line, row_line}

-- Lines

pub lines_push : (ls : List StartLine) (l : StartLine) (more : List ℕ) → lines_text (ls ++ l ∷ []) ++ more ≡ lines_text ls ++ (line_text l ++ more)
lines_push ls l more = rw (flat_map-append line_text ls (l ∷ [])) (simp append_assoc)

pub are_append : (limits : Limits) (bodies : ℕ) (p : Passed) (a b : List StartLine) → AreLines limits bodies p a → AreLines limits bodies (passed_all p a) b
    → AreLines limits bodies p (a ++ b)
are_append limits bodies p [] b one two = two
are_append limits bodies p (l ∷ ls) b (plain, may, one) two = (plain, may, are_append limits bodies (passed p l) ls b one two)

abbrev mk : ℕ → ℕ → ℕ → Passed
mk a b c = record { lines = a; rows = b; channels = c }

pub same_passed : (p : Passed) (a b c : ℕ) → p.lines ≡ a → p.rows ≡ b → p.channels ≡ c → p ≡ mk a b c
same_passed p a b c e f g = ap (λ (n : ℕ). mk n p.rows p.channels) e ∙ ap (λ (n : ℕ). mk a n p.channels) f ∙ ap (λ (n : ℕ). mk a b n) g

pub passed_more : (p : Passed) (ls ks : List StartLine) → passed_all p (ls ++ ks) ≡ passed_all (passed_all p ls) ks
passed_more p [] ks = refl
passed_more p (l ∷ ls) ks = passed_more (passed p l) ls ks

pub rows_there : (n : ℕ) → behind_channels n ≡ behind_rows n 0
rows_there n = same_passed (behind_channels n) (6 + n + 0) 0 n (omega arith) refl refl

-- Channels

chans_push : (c : ℕ) (xs : List Channel) (y : Channel) → chan_lines c (xs ++ y ∷ []) ≡ chan_lines c xs ++ Chan (c + length xs) y ∷ []
chans_push c [] y = ap (λ (n : ℕ). Chan n y ∷ []) (let same : c ≡ c + 0 = omega arith in same)
chans_push c (x ∷ xs) y =
    let same : c + 1 + length xs ≡ c + length (x ∷ xs) = omega arith in
    ap (λ (ls : List StartLine). Chan c x ∷ ls) (chans_push (c + 1) xs y ∙ ap (λ (n : ℕ). chan_lines (c + 1) xs ++ Chan n y ∷ []) same)

pub chans_passed : (c : ℕ) (xs : List Channel) (p : Passed) → p.lines ≡ 6 + c → p.rows ≡ 0 → p.channels ≡ c
    → passed_all p (chan_lines c xs) ≡ behind_channels (c + length xs)
chans_passed c [] p a b d = same_passed p (6 + (c + 0)) 0 (c + 0) (omega (arith, a)) b (omega (arith, d))
chans_passed c (x ∷ xs) p a b d =
    let same : c + 1 + length xs ≡ c + length (x ∷ xs) = omega arith in
    chans_passed (c + 1) xs _ (omega (arith, a)) b (omega (arith, d)) ∙ ap behind_channels same

pub channels_more : (limits : Limits) (bodies n : ℕ) (text : List ℕ) (xs : List Channel) (rest : List ℕ) (x : Channel) (more : List ℕ)
    → AreChannels limits bodies text xs rest → length xs ≡ n → IsNext limits bodies (behind_channels n) rest (chan_line n x) more
    → AreChannels limits bodies text (xs ++ x ∷ []) more
channels_more limits bodies n text xs rest x more are many next =
    let zero_more : 0 + length xs ≡ n = omega (arith, many) in
    let pushed : chan_lines 0 (xs ++ x ∷ []) ≡ chan_lines 0 xs ++ Chan n x ∷ [] =
    chans_push 0 xs x ∙ ap (λ (k : ℕ). chan_lines 0 xs ++ Chan k x ∷ []) zero_more in
    let there : passed_all (behind_channels 0) (chan_lines 0 xs) ≡ behind_channels n = chans_passed 0 xs (behind_channels 0) refl refl refl ∙ ap behind_channels zero_more in
    let less : n < limits.channels = next.may.2 in
    record {
      whole = are.whole ∙ ap (λ (t : List ℕ). lines_text (chan_lines 0 xs) ++ t) next.whole ∙ sym (lines_push (chan_lines 0 xs) (Chan n x) more)
          ∙ ap (λ (ls : List StartLine). lines_text ls ++ more) (sym pushed);
      right = subst (AreLines limits bodies (behind_channels 0)) (sym pushed)
          (are_append limits bodies (behind_channels 0) (chan_lines 0 xs) (Chan n x ∷ []) are.right
          (subst (λ (p : Passed). AreLines limits bodies p (Chan n x ∷ [])) (sym there) (refl, next.may, tt)));
      few = let all = length-append xs (x ∷ []) in omega (arith, all, many, less);
    }

-- Goroutines

rows_push : (g : ℕ) (xs : List Goroutine) (y : Goroutine) → row_lines g (xs ++ y ∷ []) ≡ row_lines g xs ++ Row (g + length xs) y ∷ []
rows_push g [] y = ap (λ (n : ℕ). Row n y ∷ []) (let same : g ≡ g + 0 = omega arith in same)
rows_push g (x ∷ xs) y =
    let same : g + 1 + length xs ≡ g + length (x ∷ xs) = omega arith in
    ap (λ (ls : List StartLine). Row g x ∷ ls) (rows_push (g + 1) xs y ∙ ap (λ (n : ℕ). row_lines (g + 1) xs ++ Row n y ∷ []) same)

pub rows_passed : (n g : ℕ) (xs : List Goroutine) (p : Passed) → p.lines ≡ 6 + n + g → p.rows ≡ g → p.channels ≡ n
    → passed_all p (row_lines g xs) ≡ behind_rows n (g + length xs)
rows_passed n g [] p a b d = same_passed p (6 + n + (g + 0)) (g + 0) n (omega (arith, a)) (omega (arith, b)) d
rows_passed n g (x ∷ xs) p a b d =
    let same : g + 1 + length xs ≡ g + length (x ∷ xs) = omega arith in
    rows_passed n (g + 1) xs _ (omega (arith, a)) (omega (arith, b)) d ∙ ap (behind_rows n) same

pub rows_more : (limits : Limits) (bodies n g : ℕ) (text : List ℕ) (xs : List Goroutine) (rest : List ℕ) (x : Goroutine) (more : List ℕ)
    → AreRows limits bodies n text xs rest → length xs ≡ g → IsNext limits bodies (behind_rows n g) rest (row_line g x) more
    → AreRows limits bodies n text (xs ++ x ∷ []) more
rows_more limits bodies n g text xs rest x more are many next =
    let zero_more : 0 + length xs ≡ g = omega (arith, many) in
    let pushed : row_lines 0 (xs ++ x ∷ []) ≡ row_lines 0 xs ++ Row g x ∷ [] =
    rows_push 0 xs x ∙ ap (λ (k : ℕ). row_lines 0 xs ++ Row k x ∷ []) zero_more in
    let start : 6 + n + 0 ≡ 6 + n + 0 = refl in
    let there : passed_all (behind_rows n 0) (row_lines 0 xs) ≡ behind_rows n g = rows_passed n 0 xs (behind_rows n 0) start refl refl ∙ ap (behind_rows n) zero_more in
    record {
      whole = are.whole ∙ ap (λ (t : List ℕ). lines_text (row_lines 0 xs) ++ t) next.whole ∙ sym (lines_push (row_lines 0 xs) (Row g x) more)
          ∙ ap (λ (ls : List StartLine). lines_text ls ++ more) (sym pushed);
      right = subst (AreLines limits bodies (behind_rows n 0)) (sym pushed)
          (are_append limits bodies (behind_rows n 0) (row_lines 0 xs) (Row g x ∷ []) are.right
          (subst (λ (p : Passed). AreLines limits bodies p (Row g x ∷ [])) (sym there) (refl, next.may, tt)));
    }
