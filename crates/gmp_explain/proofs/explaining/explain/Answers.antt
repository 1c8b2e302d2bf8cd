use Rattle.gmp_trace.specs.declared.bad.Why.TheVariants as why
use Rattle.gmp_trace.specs.Text.{content}
use Rattle.gmp_explain.proofs.Texts.{first_bad, found_bad, if_ok, if_some, no_end_fault, no_step_fault, unread_never}
use Rattle.gmp_explain.proofs.explaining.explain.Goals as goal

pub returns-in-Ok-clause-riddle : goal.returns-in-Ok-clause-riddle
returns-in-Ok-clause-riddle g c =
    let found = c.in-Ok.judgement in
    let told = c.explain_trace.ensures in
    if_ok c.explain_trace.result.facts (λ text says plain.
    if_some (g.R.Read.remaining c.args.reader.now) (λ all read bad is step. record {
      trace = content found.trace;
      has_text = c.in-Ok.ensures.text;
      read = read;
      wrong = first_bad (content found.trace) found.wrong bad (found_bad found.wrong c.explain_trace.result.ended.said bad told.said is) c.in-Ok.ensures.judged;
      is = says plain bad (found_bad found.wrong c.explain_trace.result.ended.said bad told.said is) step;
    }) c.in-Ok.ensures.read) told.riddle

pub returns-in-Ok-clause-leads : goal.returns-in-Ok-clause-leads
returns-in-Ok-clause-leads g c =
    let found = c.in-Ok.judgement in
    let told = c.explain_trace.ensures in
    if_ok c.explain_trace.result.facts (λ text says plain.
    if_some (g.R.Read.remaining c.args.reader.now) (λ all read bad is end. record {
      trace = content found.trace;
      has_text = c.in-Ok.ensures.text;
      read = read;
      wrong = first_bad (content found.trace) found.wrong bad (found_bad found.wrong c.explain_trace.result.ended.said bad told.said is) c.in-Ok.ensures.judged;
      is = says plain bad (found_bad found.wrong c.explain_trace.result.ended.said bad told.said is) end;
    }) c.in-Ok.ensures.read) told.leads

pub returns-in-Err-clause-riddle : goal.returns-in-Err-clause-riddle
returns-in-Err-clause-riddle g c plain =
    unread_never (g.R.Read.remaining c.args.reader.now) c.in-Err.ended.said why.Step _ no_step_fault c.in-Err.ensures.unread

pub returns-in-Err-clause-leads : goal.returns-in-Err-clause-leads
returns-in-Err-clause-leads g c plain =
    unread_never (g.R.Read.remaining c.args.reader.now) c.in-Err.ended.said why.Outcome _ no_end_fault c.in-Err.ensures.unread
