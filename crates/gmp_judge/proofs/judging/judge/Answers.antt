use Rattle.std.proofs.Common.{◌≡◌, ◌∙◌, ℕ, List, Result, Ok, Err, IfErr, IfOk, IfSome, subst, sym}
use Rattle.gmp_trace.specs.declared.bad.Bad.{Bad}
use Rattle.gmp_trace.specs.declared.trace.Trace.{Trace}
use Rattle.gmp_trace.specs.HasText.{HasText}
use Rattle.gmp_trace.specs.Reading.{IsFault}
use Rattle.gmp_trace.specs.Text.{Content, content, text}
use Rattle.gmp_judge.proofs.Wrong.{fault_of, wrong_text, wrong_trace}
use Rattle.gmp_judge.specs.Judged.{IsJudged, IsRead, IsWrong}
use Rattle.gmp_judge.specs.declared.judging.Judgement.{Judgement}
use Rattle.gmp_words.specs.declared.ended.Ended.{Ended}
use Rattle.gmp_words.specs.declared.said.Said.TheVariants.{BadTrace, OutOfMemory}
use Rattle.gmp_judge.proofs.judging.judge.Goals.{in-Ok, in-Err}
use Rattle.gmp_judge.proofs.judging.judge.Goals as goal

-- a line that is named is bad
Names : List ℕ → Result Judgement Ended → Type 0
Names bytes r = IfErr r (λ e. (bad : Bad) → e.said ≡ BadTrace bad → IsWrong bytes bad)

of_memory : (bytes : List ℕ) (r : Result Judgement Ended) → IfErr r (λ e. e.said ≡ OutOfMemory) → Names bytes r
unfolding Names
of_memory bytes (Ok found) is = tt
of_memory bytes (Err e) is = λ bad told. let both : OutOfMemory ≡ BadTrace bad = sym is ∙ told in absurd cc

pub returns-clause-bad : goal.returns-clause-bad
unfolding Names
returns-clause-bad g c =
    elim c.match-read_watched.branch [
      | in-Ok w ↦ subst (Names c.args.bytes.now) (sym w.found-is) (of_memory c.args.bytes.now w.of-found.result w.of-found.ensures.memory)
      | in-Err w ↦
          subst (Names c.args.bytes.now) (sym w.found-is)
          (λ bad told. wrong_text c.args.bytes.now w.in-Err.bad bad w.from.result.said w.from.ensures w.in-Err.ensures.fault w.in-Err.ensures.only told)
    ]

-- so is the first wrong line of a trace
Finds : List ℕ → Result Judgement Ended → Type 0
Finds bytes r = IfOk r (λ found. IfSome found.wrong (IsWrong bytes))

of_judged : (bytes : List ℕ) (x : Content) (r : Result Judgement Ended) → HasText x → IsRead bytes x → ((y : Content) → HasText y → bytes ≡ text y → x ≡ y)
    → IfOk r (λ found. IsJudged x found.wrong) → Finds bytes r
unfolding Finds
of_judged bytes x (Ok found) has_text read only judged = wrong_trace bytes x found.wrong has_text read only judged
of_judged bytes x (Err e) has_text read only judged = tt

pub returns-clause-wrong : goal.returns-clause-wrong
unfolding Finds
returns-clause-wrong g c =
    elim c.match-read_watched.branch [
      | in-Ok w ↦
          subst (Finds c.args.bytes.now) (sym w.found-is)
          (of_judged c.args.bytes.now (content w.in-Ok.trace) w.of-found.result w.in-Ok.ensures.found.0 w.in-Ok.ensures.found.1 w.in-Ok.ensures.only
          w.of-found.ensures.judged)
      | in-Err w ↦ subst (Finds c.args.bytes.now) (sym w.found-is) tt
    ]

-- a line that is named is one that was not read
Unread : List ℕ → Result Judgement Ended → Type 0
Unread bytes r = IfErr r (λ e. (bad : Bad) → e.said ≡ BadTrace bad → IsFault bytes bad.line bad.why)

memory_unread : (bytes : List ℕ) (r : Result Judgement Ended) → IfErr r (λ e. e.said ≡ OutOfMemory) → Unread bytes r
unfolding Unread
memory_unread bytes (Ok found) is = tt
memory_unread bytes (Err e) is = λ bad told. let both : OutOfMemory ≡ BadTrace bad = sym is ∙ told in absurd cc

pub returns-clause-unread : goal.returns-clause-unread
unfolding Unread
returns-clause-unread g c =
    elim c.match-read_watched.branch [
      | in-Ok w ↦ subst (Unread c.args.bytes.now) (sym w.found-is) (memory_unread c.args.bytes.now w.of-found.result w.of-found.ensures.memory)
      | in-Err w ↦
          subst (Unread c.args.bytes.now) (sym w.found-is)
          (λ bad told. fault_of c.args.bytes.now w.in-Err.bad bad w.from.result.said w.from.ensures w.in-Err.ensures.fault told)
    ]
