use Rattle.std.proofs.Common.{◌≡◌, ◌+◌, ◌++◌, ◌≤◌, [], ◌∷◌, length, drop, map, ◌∙◌, arith, append_assoc, length-append}
use Rattle.std.proofs.lemmas.List.{length-map, map-append}
use Rattle.gmp_trace.specs.Guess.{words_on}
use Rattle.gmp_trace.proofs.Splitting.{between, between_more, words_at_space, words_at_other, words_at_feed, words_at_end, nothing_between, found_all, found_most}
use Rattle.gmp_trace.proofs.words.split.Goals as goal
use Rattle.gmp_trace.proofs.words.split.Goals.{then-b-eq32+in_ok-push-2+else-len-ge-MOST_WORDS, else-b-eq32}

pub loop-i-preserved-then-b-gt32 : goal.loop-i-preserved-then-b-gt32
loop-i-preserved-then-b-gt32 c =
    let t = c.args.text.now in
    let i = c.loop-i.i in
    record {
      order = omega (arith, c.loop-i.invariant.order);
      few = c.loop-i.invariant.few;
      found = rw (between_more c.loop-i.start i t c.loop-i.invariant.order c.loop-i-test.true, ← words_at_other _ t i c.loop-i-test.true (λ is. omega (arith, is, c.if-b-gt32.true)) (λ is. omega (arith, is, c.if-b-gt32.true))) c.loop-i.invariant.found;
    }

pub loop-i-preserved : goal.loop-i-preserved
loop-i-preserved c =
    let t = c.args.text.now in
    let i = c.loop-i.i in
    elim c.if-b-eq32.branch [
      | then-b-eq32+in_ok-push-2+else-len-ge-MOST_WORDS w ↦
          rw (w.words-is, w.start-is) (record {
            order = omega arith;
            few = omega (arith, w.len.ensures, w.if-len-ge-MOST_WORDS.false);
            found = rw (nothing_between (i + 1) t, w.in_ok-push-2.ensures.items, map-append, append_assoc)
                (rw (← words_at_space (between c.loop-i.start i t) t i c.loop-i-test.true w.if-b-eq32.true) c.loop-i.invariant.found);
          })
      | else-b-eq32 w ↦
          rw (w.words-is, w.start-is) (record {
            order = omega (arith, c.loop-i.invariant.order);
            few = c.loop-i.invariant.few;
            found = rw (between_more c.loop-i.start i t c.loop-i.invariant.order c.loop-i-test.true, ← words_at_other _ t i c.loop-i-test.true c.if-b-eq10.false w.if-b-eq32.false) c.loop-i.invariant.found;
          })
    ]

pub returns-then-b-eq10 : goal.returns-then-b-eq10
returns-then-b-eq10 c =
    let t = c.args.text.now in
    let step = words_at_feed (between c.loop-i.start c.loop-i.i t) t c.loop-i.i c.loop-i-test.true c.if-b-eq10.true in
    let texts = map (λ w. w.now) c.loop-i.words.items ++ between c.loop-i.start c.loop-i.i t ∷ [] in
    let few : length texts ≤ 4110 = omega (arith, c.loop-i.invariant.few, length-append (map (λ w. w.now) c.loop-i.words.items) (between c.loop-i.start c.loop-i.i t ∷ []), length-map c.loop-i.words.items (λ w. w.now)) in
    rw (c.in_ok-push.ensures.items, map-append) (found_all texts (words_on [] t) (rw step at c.loop-i.invariant.found) few)

pub returns-then-len-ge-MOST_WORDS : goal.returns-then-len-ge-MOST_WORDS
returns-then-len-ge-MOST_WORDS c =
    let t = c.args.text.now in
    let front = between c.loop-i.start c.loop-i.i t in
    let rest = words_on [] (drop (c.loop-i.i + 1) t) in
    let step = words_at_space front t c.loop-i.i c.loop-i-test.true c.if-b-eq32.true in
    let words = map (λ w. w.now) c.loop-i.words.items in
    let full : length (words ++ front ∷ []) ≡ 4110 =
    omega (arith, c.loop-i.invariant.few, c.len.ensures, c.if-len-ge-MOST_WORDS.true, c.in_ok-push-2.ensures.len, length-append words (front ∷ []), length-map c.loop-i.words.items (λ w. w.now)) in
    let found : (words ++ front ∷ []) ++ rest ≡ words_on [] t = append_assoc words (front ∷ []) rest ∙ rw step at c.loop-i.invariant.found in
    rw (c.in_ok-push-2.ensures.items, map-append) (found_most (words ++ front ∷ []) rest (words_on [] t) found full)

pub returns : goal.returns
returns c =
    let t = c.args.text.now in
    let same : c.loop-i.i ≡ length t = omega arith in
    let front = between c.loop-i.start c.loop-i.i t in
    let words = map (λ w. w.now) c.loop-i.words.items in
    let step = words_at_end front t c.loop-i.i c.loop-i-test.false in
    let few : length (words ++ front ∷ []) ≤ 4110 =
    omega (arith, c.loop-i.invariant.few, length-append words (front ∷ []), length-map c.loop-i.words.items (λ w. w.now)) in
    let found = found_all (words ++ front ∷ []) (words_on [] t) (rw step at c.loop-i.invariant.found) few in
    rw (c.in_ok-push-3.ensures.items, map-append) (rw same at found)
