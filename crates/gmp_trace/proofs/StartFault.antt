-- A text has one bad line at most, and the text of a start has none.
use Rattle.std.proofs.Common.{◌≡◌, inl, inr, ℕ, ◌+◌, List, [], length, sum, sym, ap, subst, ◌∙◌}
use Rattle.gmp_seq.specs.declared.call.Limits.{Limits}
use Rattle.gmp_seq.specs.Fits.{AreLimits}
use Rattle.gmp_seq.specs.Laws.{FitsTogether}
use Rattle.gmp_seq.specs.State.{State}
use Rattle.gmp_trace.specs.StartWhole.{AreStartLines, IsStartFault, IsStartText}
use Rattle.gmp_trace.proofs.StartOnly.{lines_agree, one_line_fault, read_no_fault}
use Rattle.gmp_trace.proofs.StartSame.{same_state}

-- where the state's lines end
abbrev begins_at : State → ℕ
begins_at s = 9 + length s.channels + length s.table.goroutines

pub one_start_fault : (limits : Limits) (bodies : ℕ) (text : List ℕ) (m n : ℕ) → AreLimits limits bodies [] → IsStartFault limits bodies text m
    → IsStartFault limits bodies text n → m ≡ n
one_start_fault limits bodies text m n are (inl a) (inl b) = one_line_fault limits bodies are text m n a b
one_start_fault limits bodies text m n are (inl a) (inr b) = absurd (read_no_fault limits bodies are text b.made b.state b.rest m b.lines a)
one_start_fault limits bodies text m n are (inr a) (inl b) = absurd (read_no_fault limits bodies are text a.made a.state a.rest n a.lines b)
one_start_fault limits bodies text m n are (inr a) (inr b) =
    let agree = lines_agree limits bodies are text a.made a.state a.rest b.made b.state b.rest a.lines b.lines in
    let same = same_state a.made b.made a.state b.state (a.lasts ∙ sym b.lasts) agree.0 in
    a.there ∙ ap begins_at same.1 ∙ sym b.there

pub no_start_fault : (limits : Limits) (bodies : ℕ) (text : List ℕ) (s : State) (rest : List ℕ) (line : ℕ) → AreLimits limits bodies []
    → IsStartText limits bodies text s rest → IsStartFault limits bodies text line → ⊥
no_start_fault limits bodies text s rest line are is (inl fault) =
    let lines : AreStartLines limits bodies (sum s.counts) text s rest = record { whole = is.whole; lines = is.start.lines } in
    read_no_fault limits bodies are text (sum s.counts) s rest line lines fault
no_start_fault limits bodies text s rest line are is (inr fault) =
    let lines : AreStartLines limits bodies (sum s.counts) text s rest = record { whole = is.whole; lines = is.start.lines } in
    let agree = lines_agree limits bodies are text (sum s.counts) s rest fault.made fault.state fault.rest lines fault.lines in
    let same = same_state (sum s.counts) fault.made s fault.state (is.start.lasts ∙ sym fault.lasts) agree.0 in
    fault.wrong (ap (λ (t : State). sum t.counts) (sym same.1) ∙ same.0) (subst (FitsTogether limits) same.1 is.start.together)

-- a text begins with one start at most
pub start_once : (limits : Limits) (bodies : ℕ) (text : List ℕ) (s t : State) (rest other : List ℕ) → AreLimits limits bodies []
    → IsStartText limits bodies text s rest → IsStartText limits bodies text t other → (s ≡ t) × (rest ≡ other)
start_once limits bodies text s t rest other are a b =
    let one : AreStartLines limits bodies (sum s.counts) text s rest = record { whole = a.whole; lines = a.start.lines } in
    let two : AreStartLines limits bodies (sum t.counts) text t other = record { whole = b.whole; lines = b.start.lines } in
    let agree = lines_agree limits bodies are text (sum s.counts) s rest (sum t.counts) t other one two in
    ((same_state (sum s.counts) (sum t.counts) s t (a.start.lasts ∙ sym b.start.lasts) agree.0).1, agree.1)
