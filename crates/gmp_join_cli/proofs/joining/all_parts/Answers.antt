use Rattle.std.proofs.Common.{◌≡◌, Result, Ok, Err, IfErr, rules, sym, subst}
use Rattle.std.specs.Result.{IsErrAnd}
use Rattle.gmp_words.specs.declared.ended.Ended.{Ended}
use Rattle.gmp_words.specs.declared.reading.TheConstants.{MAX_TRACE}
use Rattle.gmp_join_cli.proofs.Behind.{apart_behind, bad_behind, long_behind, read_on}
use Rattle.gmp_join_cli.specs.declared.joining.Joined.{Joined}
use Rattle.gmp_join_cli.specs.Takes.{left}
use Rattle.gmp_join_cli.proofs.joining.all_parts.Goals as goal

-- what holds of an error holds of it as it is handed on
handed_on : (r : Result Joined Ended) (e : Ended) (P : Ended → Type 0) → IsErrAnd r (λ x. x ≡ e) → P e → IfErr r P
handed_on (Ok x) e P same holds = tt
handed_on (Err x) e P same holds = subst P (sym same) holds

pub returns-in_err-bytes-clause-too_long : goal.returns-in_err-bytes-clause-too_long
returns-in_err-bytes-clause-too_long g c =
    handed_on c.from_residual.result c.in_err-bytes.field-0.0 _ c.from_residual.ensures.1
    (λ said. long_behind (g.R.Read.remaining c.args.reader.now) (left c.parts.held.items (g.R.Read.remaining c.parts.reader)) MAX_TRACE c.parts.joined
    c.parts.invariant.so_far (c.in_err-bytes.ensures.too_long said))

pub returns-in_err-joined-clause-first : goal.returns-in_err-joined-clause-first
returns-in_err-joined-clause-first g c =
    handed_on c.from_residual-in_err-joined.result c.in_err-joined.field-0.0 _ c.from_residual-in_err-joined.ensures.1
    (λ n bad said. bad_behind (g.R.Read.remaining c.args.reader.now) (left c.parts.held.items (g.R.Read.remaining c.parts.reader))
    (left c.next_part.new.held.items (g.R.Read.remaining c.next_part.new.reader)) c.parts.joined c.in_ok-bytes.bytes.items n bad
    c.parts.invariant.so_far c.in_ok-bytes.ensures.taken (c.in_err-joined.ensures.bad n bad said))

pub returns-in_err-joined-clause-apart : goal.returns-in_err-joined-clause-apart
returns-in_err-joined-clause-apart g c =
    handed_on c.from_residual-in_err-joined.result c.in_err-joined.field-0.0 _ c.from_residual-in_err-joined.ensures.1
    (λ n said. apart_behind (g.R.Read.remaining c.args.reader.now) (left c.parts.held.items (g.R.Read.remaining c.parts.reader))
    (left c.next_part.new.held.items (g.R.Read.remaining c.next_part.new.reader)) c.parts.joined c.in_ok-bytes.bytes.items n
    c.parts.invariant.so_far c.in_ok-bytes.ensures.taken (c.in_err-joined.ensures.apart n said))

pub parts-preserved : goal.parts-preserved
parts-preserved g c =
    record {
      so_far = read_on (g.R.Read.remaining c.args.reader.now) (left c.parts.held.items (g.R.Read.remaining c.parts.reader))
          (left c.next_part.new.held.items (g.R.Read.remaining c.next_part.new.reader)) c.parts.joined c.in_ok-joined.joined c.in_ok-bytes.bytes.items
          c.parts.invariant.so_far c.in_ok-bytes.ensures.taken c.in_ok-joined.ensures.joined;
      counted = search rules;
    }
