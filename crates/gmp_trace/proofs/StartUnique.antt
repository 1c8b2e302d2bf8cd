-- No text begins with two lines that may stand there.
use Rattle.std.proofs.Common.{◌≡◌, ◌≤◌, ◌<◌, ◌^◌, ℕ, ◌-◌, append_assoc, Bool, Option, Some, None, IfSome, List, [], ◌∷◌, ◌++◌, length, map, take, drop, codes, refl, sym, ap, ap₂, subst, ◌∙◌, arith, All}
use Rattle.std.proofs.lemmas.Bool.{false≢true}
use Rattle.std.proofs.lemmas.List.Elements.{All-head, All-tail, All-cons, All-nil}
use Rattle.gmp_base.specs.declared.number.MNo.{MNo}
use Rattle.gmp_base.specs.Fits.{IsWord}
use Rattle.gmp_seq.specs.declared.call.Limits.{Limits}
use Rattle.gmp_seq.specs.declared.status.Goroutine.{Goroutine}
use Rattle.gmp_seq.specs.declared.status.Mode.{Mode}
use Rattle.gmp_seq.specs.Channels.{Channel}
use Rattle.gmp_seq.specs.Fits.{AreLimits}
use Rattle.gmp_trace.proofs.Lines.{same_rest}
use Rattle.gmp_trace.specs.Guess.{words_on, narrow, number_at, number_read}
use Rattle.gmp_trace.proofs.StartChans.{guessed_channel}
use Rattle.gmp_trace.proofs.StartFlags.{guessed_members}
use Rattle.gmp_trace.proofs.StartLists.{guessed_counts, guessed_head, guessed_machines, guessed_procs}
use Rattle.gmp_trace.proofs.StartRows.{guessed_row}
use Rattle.gmp_trace.specs.declared.start.at.Head.{Head}
use Rattle.gmp_trace.specs.StartForms.{AreLines, BelowAll, FitsStatus, MayFollow, NoneFollows, Passed, StartLine, is_begin, line_text, lines_text, passed, passed_all}
use Rattle.gmp_trace.specs.StartForms.StartLine.{Head as HeadLine, Counts, Procs, Machines, Spinning, Marked, Chan, Row, Begin}
use Rattle.gmp_trace.specs.StartGuess.{channel_read, flags_read, holder_read, mode_read, row_read}
use Rattle.gmp_trace.specs.StartText.{channel_line, counts_text, goroutine_line, head_text, machines_text, members_text, procs_text}

-- the words of a line
abbrev heard : List ℕ → List (List ℕ)
heard text = take 4110 (words_on [] text)

abbrev first_of : List ℕ → ℕ
first_of [] = 0
first_of (x ∷ xs) = x

module _ (text a b : List ℕ) where
  one_counts : (xs ys : List ℕ) → All IsWord xs → All IsWord ys → length xs < 4100 → length ys < 4100 → text ≡ counts_text xs ++ a → text ≡ counts_text ys ++ b → (xs ≡ ys) × (a ≡ b)
  one_counts xs ys words_x words_y few_x few_y p q =
      let guess : List ℕ = map number_read (drop 1 (heard text)) in
      let x = guessed_counts text (counts_text guess) (heard text) guess xs a refl refl refl words_x few_x p in
      let y = guessed_counts text (counts_text guess) (heard text) guess ys b refl refl refl words_y few_y q in
      (sym x.0 ∙ y.0, same_rest text (counts_text guess) a b x.1 y.1)

  one_procs : (xs ys : List (Option MNo)) → BelowAll 256 xs → BelowAll 256 ys → length xs < 4100 → length ys < 4100 → text ≡ procs_text xs ++ a → text ≡ procs_text ys ++ b
      → (xs ≡ ys) × (a ≡ b)
  one_procs xs ys words_x words_y few_x few_y p q =
      let guess : List (Option MNo) = map holder_read (drop 1 (heard text)) in
      let x = guessed_procs text (procs_text guess) (heard text) guess xs a refl refl refl words_x few_x p in
      let y = guessed_procs text (procs_text guess) (heard text) guess ys b refl refl refl words_y few_y q in
      (sym x.0 ∙ y.0, same_rest text (procs_text guess) a b x.1 y.1)

  one_machines : (xs ys : List Mode) → length xs < 4100 → length ys < 4100 → text ≡ machines_text xs ++ a → text ≡ machines_text ys ++ b → (xs ≡ ys) × (a ≡ b)
  one_machines xs ys few_x few_y p q =
      let guess : List Mode = map mode_read (drop 1 (heard text)) in
      let x = guessed_machines text (machines_text guess) (heard text) guess xs a refl refl refl few_x p in
      let y = guessed_machines text (machines_text guess) (heard text) guess ys b refl refl refl few_y q in
      (sym x.0 ∙ y.0, same_rest text (machines_text guess) a b x.1 y.1)

  one_spinning : (machines : ℕ) (xs ys : List Bool) → machines ≤ 256 → length xs ≡ machines → length ys ≡ machines → text ≡ members_text (codes "spinning") xs ++ a
      → text ≡ members_text (codes "spinning") ys ++ b → (xs ≡ ys) × (a ≡ b)
  one_spinning machines xs ys low few_x few_y p q =
      let guess : List Bool = flags_read machines (drop 1 (heard text)) in
      let x = guessed_members (codes "spinning") text (members_text (codes "spinning") guess) (heard text) machines guess xs a refl refl refl refl low few_x p in
      let y = guessed_members (codes "spinning") text (members_text (codes "spinning") guess) (heard text) machines guess ys b refl refl refl refl low few_y q in
      (sym x.0 ∙ y.0, same_rest text (members_text (codes "spinning") guess) a b x.1 y.1)

  one_marked : (machines : ℕ) (xs ys : List Bool) → machines ≤ 256 → length xs ≡ machines → length ys ≡ machines → text ≡ members_text (codes "marked") xs ++ a
      → text ≡ members_text (codes "marked") ys ++ b → (xs ≡ ys) × (a ≡ b)
  one_marked machines xs ys low few_x few_y p q =
      let guess : List Bool = flags_read machines (drop 1 (heard text)) in
      let x = guessed_members (codes "marked") text (members_text (codes "marked") guess) (heard text) machines guess xs a refl refl refl refl low few_x p in
      let y = guessed_members (codes "marked") text (members_text (codes "marked") guess) (heard text) machines guess ys b refl refl refl refl low few_y q in
      (sym x.0 ∙ y.0, same_rest text (members_text (codes "marked") guess) a b x.1 y.1)

  one_head : (h k : Head) → IsWord h.made → IsWord h.clock → IsWord h.arrivals → h.active < 2 ^ 8 → IsWord k.made → IsWord k.clock → IsWord k.arrivals → k.active < 2 ^ 8
      → text ≡ head_text h.made h.clock h.arrivals h.active ++ a → text ≡ head_text k.made k.clock k.arrivals k.active ++ b → (h ≡ k) × (a ≡ b)
  one_head h k e f g i e2 f2 g2 i2 p q =
      let made : ℕ = number_at 1 (heard text) in
      let now : ℕ = number_at 3 (heard text) in
      let arrivals : ℕ = number_at 5 (heard text) in
      let active : ℕ = narrow 8 (number_at 7 (heard text)) in
      let x = guessed_head text (head_text made now arrivals active) (heard text) made now arrivals active h a refl refl refl refl refl refl e f g i p in
      let y = guessed_head text (head_text made now arrivals active) (heard text) made now arrivals active k b refl refl refl refl refl refl e2 f2 g2 i2 q in
      (sym x.0 ∙ y.0, same_rest text (head_text made now arrivals active) a b x.1 y.1)

  one_channel : (c d : ℕ) (x y : Channel) → c < 2 ^ 16 → d < 2 ^ 16 → x.capacity < 2 ^ 32 → y.capacity < 2 ^ 32 → All IsWord x.items → All IsWord y.items → length x.items ≤ 4096
      → length y.items ≤ 4096 → text ≡ channel_line c x ++ a → text ≡ channel_line d y ++ b → (c ≡ d) × (x ≡ y) × (a ≡ b)
  one_channel c d x y c_low d_low x_low y_low x_words y_words x_few y_few p q =
      let number : ℕ = narrow 16 (number_at 1 (heard text)) in
      let guess : Channel = channel_read (heard text) in
      let one = guessed_channel text (channel_line number guess) (heard text) number guess c x a refl refl refl refl c_low x_low x_words x_few p in
      let two = guessed_channel text (channel_line number guess) (heard text) number guess d y b refl refl refl refl d_low y_low y_words y_few q in
      (sym one.0 ∙ two.0, sym one.1 ∙ two.1, same_rest text (channel_line number guess) a b one.2 two.2)

  one_row : (machines channels g k : ℕ) (x y : Goroutine) → machines ≤ 64 → channels ≤ 1024 → g < 2 ^ 16 → k < 2 ^ 16 → IsWord x.epoch → IsWord y.epoch → FitsStatus machines channels x.status
      → FitsStatus machines channels y.status → text ≡ goroutine_line g x ++ a → text ≡ goroutine_line k y ++ b → (g ≡ k) × (x ≡ y) × (a ≡ b)
  one_row machines channels g k x y low some g_low k_low x_word y_word x_fits y_fits p q =
      let number : ℕ = narrow 16 (number_at 1 (heard text)) in
      let guess : Goroutine = row_read (heard text) in
      let one = guessed_row text (goroutine_line number guess) (heard text) number guess machines channels g x a refl refl refl refl g_low low some x_word x_fits p in
      let two = guessed_row text (goroutine_line number guess) (heard text) number guess machines channels k y b refl refl refl refl k_low low some y_word y_fits q in
      (sym one.0 ∙ two.0, sym one.1 ∙ two.1, same_rest text (goroutine_line number guess) a b one.2 two.2)

  chan_no_row : (c g : ℕ) (x : Channel) (y : Goroutine) → text ≡ channel_line c x ++ a → text ≡ goroutine_line g y ++ b → ⊥
  unfolding channel_line goroutine_line
  chan_no_row c g x y p q = let same : 99 ≡ 103 = ap first_of (sym p ∙ q) in omega (arith, same)

below_more : (n k : ℕ) → n ≤ k → (xs : List (Option MNo)) → BelowAll n xs → BelowAll k xs
below_more n k le [] h = All-nil _
below_more n k le (x ∷ xs) h =
    All-cons (λ (o : Option MNo). IfSome o (λ (m : MNo). m.0 < k)) x xs (one x (All-head (λ (o : Option MNo). IfSome o (λ (m : MNo). m.0 < n)) x xs h))
    (below_more n k le xs (All-tail (λ (o : Option MNo). IfSome o (λ (m : MNo). m.0 < n)) x xs h)) where
      one : (o : Option MNo) → IfSome o (λ (m : MNo). m.0 < n) → IfSome o (λ (m : MNo). m.0 < k)
      one None h = tt
      one (Some m) h = omega (arith, h, le)

module _ (limits : Limits) (bodies : ℕ) (are : AreLimits limits bodies [])
    (p : Passed) (text a b : List ℕ) (listed : p.channels ≤ 1024) where
  pub one_line : (l k : StartLine) → MayFollow limits bodies p l → MayFollow limits bodies p k → text ≡ line_text l ++ a → text ≡ line_text k ++ b → (l ≡ k) × (a ≡ b)
  one_line (HeadLine made1 now1 arrivals1 active1) (HeadLine made2 now2 arrivals2 active2) may can at is =
      let h : Head = record { made = made1; clock = now1; arrivals = arrivals1; active = active1 } in
      let k : Head = record { made = made2; clock = now2; arrivals = arrivals2; active = active2 } in
      let same = one_head text a b h k may.1 may.2 may.3 (let n = may.5 in omega (arith, n, are.procs.1)) can.1 can.2 can.3 (let n = can.5 in omega (arith, n, are.procs.1)) at is in
      (ap (λ (h : Head). HeadLine h.made h.clock h.arrivals h.active) same.0, same.1)
  one_line (HeadLine made1 now1 arrivals1 active1) (Counts xs2) may can at is = absurd (let m = may.0 in let n = can.0 in omega (arith, m, n))
  one_line (HeadLine made1 now1 arrivals1 active1) (Procs xs2) may can at is = absurd (let m = may.0 in let n = can.0 in omega (arith, m, n))
  one_line (HeadLine made1 now1 arrivals1 active1) (Machines xs2) may can at is = absurd (let m = may.0 in let n = can.0 in omega (arith, m, n))
  one_line (HeadLine made1 now1 arrivals1 active1) (Spinning xs2) may can at is = absurd (let m = may.0 in let n = can.0 in omega (arith, m, n))
  one_line (HeadLine made1 now1 arrivals1 active1) (Marked xs2) may can at is = absurd (let m = may.0 in let n = can.0 in omega (arith, m, n))
  one_line (HeadLine made1 now1 arrivals1 active1) (Chan c2 x2) may can at is = absurd (let m = may.0 in let n = can.0 in omega (arith, m, n))
  one_line (HeadLine made1 now1 arrivals1 active1) (Row g2 x2) may can at is = absurd (let m = may.0 in let n = can.0 in omega (arith, m, n))
  one_line (HeadLine made1 now1 arrivals1 active1) Begin may can at is = absurd (let m = may.0 in let n = can.0 in omega (arith, m, n))
  one_line (Counts xs1) (HeadLine made2 now2 arrivals2 active2) may can at is = absurd (let m = may.0 in let n = can.0 in omega (arith, m, n))
  one_line (Counts xs1) (Counts xs2) may can at is = let same = one_counts text a b xs1 xs2 may.2 can.2 (let n = may.1 in omega (arith, n, are.machines.1)) (let n = can.1 in omega (arith, n, are.machines.1)) at is in (ap (λ xs. Counts xs) same.0, same.1)
  one_line (Counts xs1) (Procs xs2) may can at is = absurd (let m = may.0 in let n = can.0 in omega (arith, m, n))
  one_line (Counts xs1) (Machines xs2) may can at is = absurd (let m = may.0 in let n = can.0 in omega (arith, m, n))
  one_line (Counts xs1) (Spinning xs2) may can at is = absurd (let m = may.0 in let n = can.0 in omega (arith, m, n))
  one_line (Counts xs1) (Marked xs2) may can at is = absurd (let m = may.0 in let n = can.0 in omega (arith, m, n))
  one_line (Counts xs1) (Chan c2 x2) may can at is = absurd (let m = may.0 in let n = can.0 in omega (arith, m, n))
  one_line (Counts xs1) (Row g2 x2) may can at is = absurd (let m = may.0 in let n = can.0 in omega (arith, m, n))
  one_line (Counts xs1) Begin may can at is = absurd (let m = may.0 in let n = can.0 in omega (arith, m, n))
  one_line (Procs xs1) (HeadLine made2 now2 arrivals2 active2) may can at is = absurd (let m = may.0 in let n = can.0 in omega (arith, m, n))
  one_line (Procs xs1) (Counts xs2) may can at is = absurd (let m = may.0 in let n = can.0 in omega (arith, m, n))
  one_line (Procs xs1) (Procs xs2) may can at is = let same = one_procs text a b xs1 xs2 (below_more limits.machines 256 (omega (arith, are.machines.1)) xs1 may.2) (below_more limits.machines 256 (omega (arith, are.machines.1)) xs2 can.2) (let n = may.1 in omega (arith, n, are.procs.1)) (let n = can.1 in omega (arith, n, are.procs.1)) at is in (ap (λ xs. Procs xs) same.0, same.1)
  one_line (Procs xs1) (Machines xs2) may can at is = absurd (let m = may.0 in let n = can.0 in omega (arith, m, n))
  one_line (Procs xs1) (Spinning xs2) may can at is = absurd (let m = may.0 in let n = can.0 in omega (arith, m, n))
  one_line (Procs xs1) (Marked xs2) may can at is = absurd (let m = may.0 in let n = can.0 in omega (arith, m, n))
  one_line (Procs xs1) (Chan c2 x2) may can at is = absurd (let m = may.0 in let n = can.0 in omega (arith, m, n))
  one_line (Procs xs1) (Row g2 x2) may can at is = absurd (let m = may.0 in let n = can.0 in omega (arith, m, n))
  one_line (Procs xs1) Begin may can at is = absurd (let m = may.0 in let n = can.0 in omega (arith, m, n))
  one_line (Machines xs1) (HeadLine made2 now2 arrivals2 active2) may can at is = absurd (let m = may.0 in let n = can.0 in omega (arith, m, n))
  one_line (Machines xs1) (Counts xs2) may can at is = absurd (let m = may.0 in let n = can.0 in omega (arith, m, n))
  one_line (Machines xs1) (Procs xs2) may can at is = absurd (let m = may.0 in let n = can.0 in omega (arith, m, n))
  one_line (Machines xs1) (Machines xs2) may can at is = let same = one_machines text a b xs1 xs2 (let n = may.1 in omega (arith, n, are.machines.1)) (let n = can.1 in omega (arith, n, are.machines.1)) at is in (ap (λ xs. Machines xs) same.0, same.1)
  one_line (Machines xs1) (Spinning xs2) may can at is = absurd (let m = may.0 in let n = can.0 in omega (arith, m, n))
  one_line (Machines xs1) (Marked xs2) may can at is = absurd (let m = may.0 in let n = can.0 in omega (arith, m, n))
  one_line (Machines xs1) (Chan c2 x2) may can at is = absurd (let m = may.0 in let n = can.0 in omega (arith, m, n))
  one_line (Machines xs1) (Row g2 x2) may can at is = absurd (let m = may.0 in let n = can.0 in omega (arith, m, n))
  one_line (Machines xs1) Begin may can at is = absurd (let m = may.0 in let n = can.0 in omega (arith, m, n))
  one_line (Spinning xs1) (HeadLine made2 now2 arrivals2 active2) may can at is = absurd (let m = may.0 in let n = can.0 in omega (arith, m, n))
  one_line (Spinning xs1) (Counts xs2) may can at is = absurd (let m = may.0 in let n = can.0 in omega (arith, m, n))
  one_line (Spinning xs1) (Procs xs2) may can at is = absurd (let m = may.0 in let n = can.0 in omega (arith, m, n))
  one_line (Spinning xs1) (Machines xs2) may can at is = absurd (let m = may.0 in let n = can.0 in omega (arith, m, n))
  one_line (Spinning xs1) (Spinning xs2) may can at is = let same = one_spinning text a b limits.machines xs1 xs2 (omega (arith, are.machines.1)) may.1 can.1 at is in (ap (λ xs. Spinning xs) same.0, same.1)
  one_line (Spinning xs1) (Marked xs2) may can at is = absurd (let m = may.0 in let n = can.0 in omega (arith, m, n))
  one_line (Spinning xs1) (Chan c2 x2) may can at is = absurd (let m = may.0 in let n = can.0 in omega (arith, m, n))
  one_line (Spinning xs1) (Row g2 x2) may can at is = absurd (let m = may.0 in let n = can.0 in omega (arith, m, n))
  one_line (Spinning xs1) Begin may can at is = absurd (let m = may.0 in let n = can.0 in omega (arith, m, n))
  one_line (Marked xs1) (HeadLine made2 now2 arrivals2 active2) may can at is = absurd (let m = may.0 in let n = can.0 in omega (arith, m, n))
  one_line (Marked xs1) (Counts xs2) may can at is = absurd (let m = may.0 in let n = can.0 in omega (arith, m, n))
  one_line (Marked xs1) (Procs xs2) may can at is = absurd (let m = may.0 in let n = can.0 in omega (arith, m, n))
  one_line (Marked xs1) (Machines xs2) may can at is = absurd (let m = may.0 in let n = can.0 in omega (arith, m, n))
  one_line (Marked xs1) (Spinning xs2) may can at is = absurd (let m = may.0 in let n = can.0 in omega (arith, m, n))
  one_line (Marked xs1) (Marked xs2) may can at is = let same = one_marked text a b limits.machines xs1 xs2 (omega (arith, are.machines.1)) may.1 can.1 at is in (ap (λ xs. Marked xs) same.0, same.1)
  one_line (Marked xs1) (Chan c2 x2) may can at is = absurd (let m = may.0 in let n = can.0 in omega (arith, m, n))
  one_line (Marked xs1) (Row g2 x2) may can at is = absurd (let m = may.0 in let n = can.0 in omega (arith, m, n))
  one_line (Marked xs1) Begin may can at is = absurd (let m = may.0 in let n = can.0 in omega (arith, m, n))
  one_line (Chan c1 x1) (HeadLine made2 now2 arrivals2 active2) may can at is = absurd (let m = may.0 in let n = can.0 in omega (arith, m, n))
  one_line (Chan c1 x1) (Counts xs2) may can at is = absurd (let m = may.0 in let n = can.0 in omega (arith, m, n))
  one_line (Chan c1 x1) (Procs xs2) may can at is = absurd (let m = may.0 in let n = can.0 in omega (arith, m, n))
  one_line (Chan c1 x1) (Machines xs2) may can at is = absurd (let m = may.0 in let n = can.0 in omega (arith, m, n))
  one_line (Chan c1 x1) (Spinning xs2) may can at is = absurd (let m = may.0 in let n = can.0 in omega (arith, m, n))
  one_line (Chan c1 x1) (Marked xs2) may can at is = absurd (let m = may.0 in let n = can.0 in omega (arith, m, n))
  one_line (Chan c1 x1) (Chan c2 x2) may can at is =
      let same = one_channel text a b c1 c2 x1 x2 (let n = may.2 in omega (arith, n, are.channels.1)) (let n = can.2 in omega (arith, n, are.channels.1)) (let n = may.3 in omega (arith, n)) (let n = can.3 in omega (arith, n))
      may.5 can.5 may.4 can.4 at is in
      (ap₂ (λ (c : ℕ) (x : Channel). Chan c x) same.0 same.1, same.2)
  one_line (Chan c1 x1) (Row g2 x2) may can at is = absurd (chan_no_row text a b c1 g2 x1 x2 at is)
  one_line (Chan c1 x1) Begin may can at is = absurd (let m = may.1 in let n = can.1 in omega (arith, m, n, are.stock.0))
  one_line (Row g1 x1) (HeadLine made2 now2 arrivals2 active2) may can at is = absurd (let m = may.0 in let n = can.0 in omega (arith, m, n))
  one_line (Row g1 x1) (Counts xs2) may can at is = absurd (let m = may.0 in let n = can.0 in omega (arith, m, n))
  one_line (Row g1 x1) (Procs xs2) may can at is = absurd (let m = may.0 in let n = can.0 in omega (arith, m, n))
  one_line (Row g1 x1) (Machines xs2) may can at is = absurd (let m = may.0 in let n = can.0 in omega (arith, m, n))
  one_line (Row g1 x1) (Spinning xs2) may can at is = absurd (let m = may.0 in let n = can.0 in omega (arith, m, n))
  one_line (Row g1 x1) (Marked xs2) may can at is = absurd (let m = may.0 in let n = can.0 in omega (arith, m, n))
  one_line (Row g1 x1) (Chan c2 x2) may can at is = absurd (chan_no_row text b a c2 g1 x2 x1 is at)
  one_line (Row g1 x1) (Row g2 x2) may can at is =
      let same = one_row text a b limits.machines p.channels g1 g2 x1 x2 are.machines.1 listed (let n = may.2 in omega (arith, n, are.stock.1)) (let n = can.2 in omega (arith, n, are.stock.1)) may.3 can.3 may.4 can.4 at is in
      (ap₂ (λ (g : ℕ) (x : Goroutine). Row g x) same.0 same.1, same.2)
  one_line (Row g1 x1) Begin may can at is = absurd (let m = may.1 in let n = can.1 in let o = may.2 in omega (arith, m, n, o))
  one_line Begin (HeadLine made2 now2 arrivals2 active2) may can at is = absurd (let m = may.0 in let n = can.0 in omega (arith, m, n))
  one_line Begin (Counts xs2) may can at is = absurd (let m = may.0 in let n = can.0 in omega (arith, m, n))
  one_line Begin (Procs xs2) may can at is = absurd (let m = may.0 in let n = can.0 in omega (arith, m, n))
  one_line Begin (Machines xs2) may can at is = absurd (let m = may.0 in let n = can.0 in omega (arith, m, n))
  one_line Begin (Spinning xs2) may can at is = absurd (let m = may.0 in let n = can.0 in omega (arith, m, n))
  one_line Begin (Marked xs2) may can at is = absurd (let m = may.0 in let n = can.0 in omega (arith, m, n))
  one_line Begin (Chan c2 x2) may can at is = absurd (let m = may.1 in let n = can.1 in omega (arith, m, n, are.stock.0))
  one_line Begin (Row g2 x2) may can at is = absurd (let m = may.1 in let n = can.1 in let o = can.2 in omega (arith, m, n, o))
  one_line Begin Begin may can at is = (refl, same_rest text (codes "begin\n") a b at is)

-- how many channels were passed, as the lines say
abbrev Counted : Passed → Type 0
Counted p = (p.channels ≤ p.lines - 6) × (p.channels ≤ 1024)

module _ (limits : Limits) (bodies : ℕ) (are : AreLimits limits bodies []) where
  counted_more : (p : Passed) (l : StartLine) → Counted p → MayFollow limits bodies p l → Counted (passed p l)
  counted_more p (Chan c x) (one, two) may = let at = may.0 in let less = may.2 in (omega (arith, at, one), omega (arith, at, less, one, are.channels.1))
  counted_more p (HeadLine made now arrivals active) (one, two) may = (omega (arith, one), two)
  counted_more p (Counts xs) (one, two) may = (omega (arith, one), two)
  counted_more p (Procs xs) (one, two) may = (omega (arith, one), two)
  counted_more p (Machines xs) (one, two) may = (omega (arith, one), two)
  counted_more p (Spinning xs) (one, two) may = (omega (arith, one), two)
  counted_more p (Marked xs) (one, two) may = (omega (arith, one), two)
  counted_more p (Row g x) (one, two) may = (omega (arith, one), two)
  counted_more p Begin (one, two) may = (omega (arith, one), two)

  -- the lines of a start, up to and with `begin`
  pub record IsWhole (p : Passed) (ls : List StartLine) : Type 0 where
    pub right : AreLines limits bodies p ls
    pub begins : MayFollow limits bodies (passed_all p ls) Begin

  -- they are fixed by the text
  pub one_start : (p : Passed) (ls ks : List StartLine) (text a b : List ℕ) → Counted p → IsWhole p ls → IsWhole p ks → text ≡ lines_text ls ++ (line_text Begin ++ a)
      → text ≡ lines_text ks ++ (line_text Begin ++ b) → (ls ≡ ks) × (a ≡ b)
  one_start p [] [] text a b counted one two at is = (refl, same_rest text (line_text Begin) a b at is)
  one_start p [] (k ∷ ks) text a b counted one two at is =
      let same = one_line limits bodies are p text a (lines_text ks ++ (line_text Begin ++ b)) counted.1 Begin k one.begins two.right.1 at (is ∙ append_assoc (line_text k) (lines_text ks) (line_text Begin ++ b)) in
      absurd (false≢true (sym two.right.0 ∙ ap is_begin (sym same.0)))
  one_start p (l ∷ ls) [] text a b counted one two at is =
      let same = one_line limits bodies are p text (lines_text ls ++ (line_text Begin ++ a)) b counted.1 l Begin one.right.1 two.begins (at ∙ append_assoc (line_text l) (lines_text ls) (line_text Begin ++ a)) is in
      absurd (false≢true (sym one.right.0 ∙ ap is_begin same.0))
  one_start p (l ∷ ls) (k ∷ ks) text a b counted one two at is =
      let same = one_line limits bodies are p text (lines_text ls ++ (line_text Begin ++ a)) (lines_text ks ++ (line_text Begin ++ b)) counted.1 l k one.right.1 two.right.1
      (at ∙ append_assoc (line_text l) (lines_text ls) (line_text Begin ++ a)) (is ∙ append_assoc (line_text k) (lines_text ks) (line_text Begin ++ b)) in
      let later : IsWhole (passed p k) ks = record { right = two.right.2; begins = two.begins } in
      let rest = one_start (passed p l) ls ks (lines_text ls ++ (line_text Begin ++ a)) a b (counted_more p l counted one.right.1) (record { right = one.right.2; begins = one.begins })
      (subst (λ (m : StartLine). IsWhole (passed p m) ks) (sym same.0) later) refl same.1 in
      (ap₂ (λ (x : StartLine) (xs : List StartLine). x ∷ xs) same.0 rest.0, rest.1)

  -- and such a text has no bad line
  pub no_fault : (p : Passed) (ls before : List StartLine) (text a rest : List ℕ) → Counted p → IsWhole p ls → AreLines limits bodies p before → text ≡ lines_text ls ++ (line_text Begin ++ a)
      → text ≡ lines_text before ++ rest → NoneFollows limits bodies (passed_all p before) rest → ⊥
  no_fault p [] [] text a rest counted one right at is none = none Begin a one.begins (sym is ∙ at)
  no_fault p (l ∷ ls) [] text a rest counted one right at is none =
      none l (lines_text ls ++ (line_text Begin ++ a)) one.right.1 (sym is ∙ at ∙ append_assoc (line_text l) (lines_text ls) (line_text Begin ++ a))
  no_fault p [] (k ∷ ks) text a rest counted one right at is none =
      let same = one_line limits bodies are p text a (lines_text ks ++ rest) counted.1 Begin k one.begins right.1 at (is ∙ append_assoc (line_text k) (lines_text ks) rest) in
      absurd (false≢true (sym right.0 ∙ ap is_begin (sym same.0)))
  no_fault p (l ∷ ls) (k ∷ ks) text a rest counted one right at is none =
      let same = one_line limits bodies are p text (lines_text ls ++ (line_text Begin ++ a)) (lines_text ks ++ rest) counted.1 l k one.right.1 right.1
      (at ∙ append_assoc (line_text l) (lines_text ls) (line_text Begin ++ a)) (is ∙ append_assoc (line_text k) (lines_text ks) rest) in
      no_fault (passed p l) ls ks (lines_text ls ++ (line_text Begin ++ a)) a rest (counted_more p l counted one.right.1) (record { right = one.right.2; begins = one.begins })
      (subst (λ (m : StartLine). AreLines limits bodies (passed p m) ks) (sym same.0) right.2) refl same.1
      (subst (λ (m : StartLine). NoneFollows limits bodies (passed_all (passed p m) ks) rest) (sym same.0) none)

  -- the lines before a bad one are as many in each way to read the text
  pub one_bad : (p : Passed) (ls ks : List StartLine) (text a b : List ℕ) → Counted p → AreLines limits bodies p ls → AreLines limits bodies p ks
      → text ≡ lines_text ls ++ a → text ≡ lines_text ks ++ b → NoneFollows limits bodies (passed_all p ls) a → NoneFollows limits bodies (passed_all p ks) b → length ls ≡ length ks
  one_bad p [] [] text a b counted one two at is none nobody = refl
  one_bad p [] (k ∷ ks) text a b counted one two at is none nobody =
      absurd (none k (lines_text ks ++ b) two.1 (sym at ∙ is ∙ append_assoc (line_text k) (lines_text ks) b))
  one_bad p (l ∷ ls) [] text a b counted one two at is none nobody =
      absurd (nobody l (lines_text ls ++ a) one.1 (sym is ∙ at ∙ append_assoc (line_text l) (lines_text ls) a))
  one_bad p (l ∷ ls) (k ∷ ks) text a b counted one two at is none nobody =
      let same = one_line limits bodies are p text (lines_text ls ++ a) (lines_text ks ++ b) counted.1 l k one.1 two.1
      (at ∙ append_assoc (line_text l) (lines_text ls) a) (is ∙ append_assoc (line_text k) (lines_text ks) b) in
      let rest = one_bad (passed p l) ls ks (lines_text ls ++ a) a b (counted_more p l counted one.1) one.2
      (subst (λ (m : StartLine). AreLines limits bodies (passed p m) ks) (sym same.0) two.2) refl same.1 none
      (subst (λ (m : StartLine). NoneFollows limits bodies (passed_all (passed p m) ks) b) (sym same.0) nobody) in
      omega (arith, rest)
