-- Behind the first six lines: channels, goroutines and `begin`.
use Rattle.std.proofs.Common.{◌≡◌, ◌≢◌, ◌≤◌, ◌<◌, ℕ, ◌+◌, List, [], ◌∷◌, ◌++◌, length, refl, sym, ap, subst, ◌∙◌, arith, append_assoc, codes}
use Rattle.std.proofs.lemmas.Grind.{flat_map-append}
use Rattle.std.proofs.lemmas.List.{length-append}
use Rattle.gmp_seq.specs.declared.call.Limits.{Limits}
use Rattle.gmp_seq.specs.declared.status.Goroutine.{Goroutine}
use Rattle.gmp_seq.specs.Channels.{Channel}
use Rattle.gmp_trace.specs.StartForms.{AreLines, IsLineFault, NoneFollows, Passed, StartLine, chan_lines, line_text, lines_text, nothing_passed, passed_all, row_lines}
use Rattle.gmp_trace.specs.StartForms.StartLine.{Head as HeadLine, Counts, Procs, Machines, Spinning, Marked, Chan, Row, Begin}
use Rattle.gmp_trace.specs.declared.start.whole.Heads.{Heads}
use Rattle.gmp_trace.specs.StartNext.{AreChannels, AreRows, NoChannel, NoRow, RowsEnd, behind_channels, behind_rows}
use Rattle.gmp_trace.specs.StartWhole.{AreHeads, SoFar, six_lines}
use Rattle.gmp_trace.proofs.StartPushing.{are_append, chans_passed, passed_more, rows_passed, rows_there}
use Rattle.gmp_trace.proofs.StartSofar.{fault}

chans_many : (c : ℕ) (ys : List Channel) → length (chan_lines c ys) ≡ length ys
chans_many c [] = refl
chans_many c (y ∷ ys) = let rest = chans_many (c + 1) ys in omega (arith, rest)

rows_many : (g : ℕ) (ys : List Goroutine) → length (row_lines g ys) ≡ length ys
rows_many g [] = refl
rows_many g (y ∷ ys) = let rest = rows_many (g + 1) ys in omega (arith, rest)

-- how many lines channels and goroutines have
pub lines_many : (xs : List Channel) (rows : List Goroutine) → length (chan_lines 0 xs ++ row_lines 0 rows) ≡ length xs + length rows
lines_many xs rows =
    let both = length-append (chan_lines 0 xs) (row_lines 0 rows) in
    let channels = chans_many 0 xs in
    let goroutines = rows_many 0 rows in
    omega (arith, both, channels, goroutines)

module _ (limits : Limits) (bodies : ℕ) (text : List ℕ) where
  append : (ls ks : List StartLine) (rest more : List ℕ) → SoFar limits bodies text ls rest → rest ≡ lines_text ks ++ more
      → AreLines limits bodies (passed_all nothing_passed ls) ks → SoFar limits bodies text (ls ++ ks) more
  append ls ks rest more before is are =
      record {
        whole = before.whole ∙ ap (λ (t : List ℕ). lines_text ls ++ t) is ∙ rw (flat_map-append line_text ls ks) (simp append_assoc);
        right = are_append limits bodies nothing_passed ls ks before.right are;
      }

  module _ (h : Heads) (xs : List Channel) (after_heads after_channels : List ℕ) (heads : AreHeads limits bodies text h after_heads)
      (channels : AreChannels limits bodies after_heads xs after_channels) where
    abbrev so_many : List StartLine
    so_many = six_lines h ++ chan_lines 0 xs

    with_channels : SoFar limits bodies text so_many after_channels
    with_channels = append (six_lines h) (chan_lines 0 xs) after_heads after_channels heads channels.whole channels.right

    passed_channels : passed_all nothing_passed so_many ≡ behind_rows (length xs) 0
    passed_channels =
        let same : 0 + length xs ≡ length xs = omega arith in
        chans_passed 0 xs (behind_channels 0) refl refl refl ∙ ap behind_channels same ∙ rows_there (length xs)

    pub with_rows : (rows : List Goroutine) (rest : List ℕ) → AreRows limits bodies (length xs) after_channels rows rest
        → SoFar limits bodies text (so_many ++ row_lines 0 rows) rest
    with_rows rows rest are =
        append so_many (row_lines 0 rows) after_channels rest with_channels are.whole
        (subst (λ (p : Passed). AreLines limits bodies p (row_lines 0 rows)) (sym passed_channels) are.right)

    passed_rows : (rows : List Goroutine) → passed_all nothing_passed (so_many ++ row_lines 0 rows) ≡ behind_rows (length xs) (length rows)
    passed_rows rows =
        let same : 0 + length rows ≡ length rows = omega arith in
        passed_more nothing_passed so_many (row_lines 0 rows) ∙ ap (λ (p : Passed). passed_all p (row_lines 0 rows)) passed_channels
        ∙ rows_passed (length xs) 0 rows (behind_rows (length xs) 0) refl refl refl ∙ ap (behind_rows (length xs)) same

    all_many : (rows : List Goroutine) → length (so_many ++ row_lines 0 rows) ≡ 6 + length xs + length rows
    all_many rows = let behind = lines_many xs rows in omega (arith, behind)

    module _ (some : 1 ≤ bodies) where
      none_row : (count : ℕ) (rows : List Goroutine) (rest : List ℕ) → NoChannel limits bodies (length xs) after_channels → AreRows limits bodies (length xs) after_channels rows rest
          → length rows ≡ count → count < bodies → NoRow limits bodies (length xs) count rest → NoneFollows limits bodies (behind_rows (length xs) count) rest
      none_row count rows rest no_channel are many few no_row (HeadLine made now arrivals active) more may is = let at = may.0 in omega (arith, at)
      none_row count rows rest no_channel are many few no_row (Counts ys) more may is = let at = may.0 in omega (arith, at)
      none_row count rows rest no_channel are many few no_row (Procs ys) more may is = let at = may.0 in omega (arith, at)
      none_row count rows rest no_channel are many few no_row (Machines ys) more may is = let at = may.0 in omega (arith, at)
      none_row count rows rest no_channel are many few no_row (Spinning ys) more may is = let at = may.0 in omega (arith, at)
      none_row count rows rest no_channel are many few no_row (Marked ys) more may is = let at = may.0 in omega (arith, at)
      none_row count [] rest no_channel are many few no_row (Chan c x) more (at, none, less, room, low, words) is =
          no_channel c x more ((let a = at in let n = none in omega (arith, a, n)), refl, less, room, low, words) (are.whole ∙ is)
      none_row count (y ∷ ys) rest no_channel are many few no_row (Chan c x) more (at, none, less, room, low, words) is = let n = none in let m = many in omega (arith, n, m)
      none_row count rows rest no_channel are many few no_row (Row g x) more may is = no_row g x more may is
      none_row count rows rest no_channel are many few no_row Begin more (six, all) is = let a = all in omega (arith, a, few)

      pub row_fault : (count : ℕ) → NoChannel limits bodies (length xs) after_channels → RowsEnd limits bodies (length xs) after_channels count
          → IsLineFault limits bodies text (9 + length xs + count)
      row_fault count no_channel end =
          let there : passed_all nothing_passed (so_many ++ row_lines 0 end.rows) ≡ behind_rows (length xs) count = passed_rows end.rows ∙ ap (behind_rows (length xs)) end.many in
          let all = all_many end.rows in
          let many = end.many in
          fault limits bodies text (so_many ++ row_lines 0 end.rows) end.rest (9 + length xs + count) (with_rows end.rows end.rest end.are) (omega (arith, all, many))
          (subst (λ (p : Passed). NoneFollows limits bodies p end.rest) (sym there) (none_row count end.rows end.rest no_channel end.are end.many end.few end.none))

      none_begin : (rest : List ℕ) → ((more : List ℕ) → rest ≢ codes "begin\n" ++ more) → NoneFollows limits bodies (behind_rows (length xs) bodies) rest
      none_begin rest nope (HeadLine made now arrivals active) more may is = let at = may.0 in omega (arith, at)
      none_begin rest nope (Counts ys) more may is = let at = may.0 in omega (arith, at)
      none_begin rest nope (Procs ys) more may is = let at = may.0 in omega (arith, at)
      none_begin rest nope (Machines ys) more may is = let at = may.0 in omega (arith, at)
      none_begin rest nope (Spinning ys) more may is = let at = may.0 in omega (arith, at)
      none_begin rest nope (Marked ys) more may is = let at = may.0 in omega (arith, at)
      none_begin rest nope (Chan c x) more may is = let at = may.1 in omega (arith, at, some)
      none_begin rest nope (Row g x) more may is = let at = may.1 in let less = may.2 in omega (arith, at, less)
      none_begin rest nope Begin more may is = nope more is

      pub begin_fault : (rows : List Goroutine) (rest : List ℕ) → AreRows limits bodies (length xs) after_channels rows rest → length rows ≡ bodies
          → ((more : List ℕ) → rest ≢ codes "begin\n" ++ more) → IsLineFault limits bodies text (9 + length xs + bodies)
      begin_fault rows rest are many nope =
          let there : passed_all nothing_passed (so_many ++ row_lines 0 rows) ≡ behind_rows (length xs) bodies = passed_rows rows ∙ ap (behind_rows (length xs)) many in
          let all = all_many rows in
          fault limits bodies text (so_many ++ row_lines 0 rows) rest (9 + length xs + bodies) (with_rows rows rest are) (omega (arith, all, many))
          (subst (λ (p : Passed). NoneFollows limits bodies p rest) (sym there) (none_begin rest nope))
