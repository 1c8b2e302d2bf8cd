use Rattle.std.proofs.Common.{ℕ, List, ◌++◌, ap, ◌∙◌, slice_get, string_bytes}
use Rattle.gmp_trace.specs.Text.{content, end_of}
use Rattle.gmp_explain.specs.declared.fact.Fact.{Fact}
use Rattle.gmp_explain.specs.declared.fact.Fact.TheVariants as fact
use Rattle.gmp_explain.specs.declared.lines.Lines.{Lines}
use Rattle.gmp_explain.specs.Lines.{lines_of}
use Rattle.gmp_explain.specs.Stated.{state_said}
use Rattle.gmp_explain.proofs.Texts.{if_some, says, says_entry}
use Rattle.gmp_explain.proofs.explaining.facts.Goals as goal

pub returns-clause-told : goal.returns-clause-told
returns-clause-told c plain right =
    let state = c.in_ok-tell-2.ensures.right right in
    record {
      n = state.n;
      last = state.last;
      walked = state.walked;
      says = says (λ (l : Lines). string_bytes l.text) c.new-lines.result c.tell-2.new.sink (state_said state.n state.last) c.new-lines.ensures state.tells;
    }

pub returns-clause-riddle : goal.returns-clause-riddle
returns-clause-riddle c plain bad is step =
    let x = content c.args.judgement.now.trace in
    let state = c.in_ok-tell-2.ensures.riddle bad is step in
    record {
      n = state.n;
      last = state.last;
      walked = state.walked;
      says = if_some (slice_get x.entries state.n) (λ e. says_entry (λ (l : Lines). string_bytes l.text) x.limits state.last e c.new-lines.result c.tell-2.new.sink c.new-lines.ensures) state.tells;
    }

pub returns-clause-leads : goal.returns-clause-leads
returns-clause-leads c plain bad is end =
    let state = c.in_ok-tell-2.ensures.leads bad is end in
    let last : Fact = fact.Leads (end_of state.last.outcome) in
    record {
      n = state.n;
      last = state.last;
      walked = state.walked;
      line = state.tells ∙ ap (λ (l : List ℕ). l ++ lines_of last) c.new-lines.ensures;
    }
