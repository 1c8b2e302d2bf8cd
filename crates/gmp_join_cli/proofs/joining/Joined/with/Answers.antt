use Rattle.std.proofs.Common.{ℕ, ◌+◌, IsTrue, ap, arith, rules, length-append}
use Rattle.gmp_trace.specs.Text.{content}
use Rattle.gmp_parts.proofs.Parts.{parts_few}
use Rattle.gmp_parts.specs.Parts.{entries_of}
use Rattle.gmp_join_cli.proofs.joining.Joined.with.Goals as goal

pub overflow_add-result : goal.overflow_add-result
overflow_add-result g c =
    let told = c.requires.told in
    omega (arith, parts_few told.0 told.1.in_order, told.1.entries, c.len.ensures.few)

pub returns-clause-joined : goal.returns-clause-joined
returns-clause-joined g c parts tells =
    let trace = c.in_ok-trace.trace in
    let yes : IsTrue c.in_ok-may_have.field-0 = search rules in
    record {
      next = content trace;
      read = c.in_ok-trace.ensures.read;
      tells = record {
        in_order = (tells.in_order, c.in_ok-trace.ensures.right, c.in_ok-may_have.ensures.meets yes parts tells);
        entries = omega (arith, tells.entries, c.len.ensures.value, length-append (entries_of parts) trace.entries.list);
        count = ap (λ (k : ℕ). k + 1) tells.count;
        last = c.in-Ok.ensures;
      };
    }
