use Rattle.std.proofs.Common.{rules}
use Rattle.gmp_trace.specs.HasText.{origin}
use Rattle.gmp_trace.specs.Text.{Content, begins_at}
use Rattle.gmp_trace.proofs.Parts.{begins_so, beginning_whole, body_so, counted_from, fault_from_body, has_limits_of, has_text, same_content, text_from}
use Rattle.gmp_trace.proofs.whole.read_watched.Goals as goal

pub returns-in_err-beginning-clause-fault : goal.returns-in_err-beginning-clause-fault
returns-in_err-beginning-clause-fault g c = search (rules, c.in_err-beginning.ensures.fault c.args.bytes.now c.in_ok-version.ensures.found)

pub returns-in-Err-clause-only : goal.returns-in-Err-clause-only
returns-in-Err-clause-only g c x h is =
    let one = c.in_ok-version.ensures.only _ x.limits x.bodies _ (has_limits_of x c.args.bytes.now h is) in
    let two = c.in_ok-beginning.ensures.only x.begins _ (begins_so x c.in_ok-version.version c.in_ok-version.limits c.in_ok-version.bodies c.in_ok-version.behind_limits.now h one.0 one.1 one.2 one.3) in
    c.in-Err.ensures.only (origin c.in_ok-version.limits.machines (begins_at c.in_ok-beginning.beginning)) x.entries x.end c.in_ok-beginning.ensures.first
    (body_so x c.in_ok-version.limits (begins_at c.in_ok-beginning.beginning) c.in_ok-beginning.rest.now h one.1 two.0 two.1)

pub returns-in-Err-clause-fault : goal.returns-in-Err-clause-fault
returns-in-Err-clause-fault g c =
    let b = begins_at c.in_ok-beginning.beginning in
    let whole = beginning_whole c.args.bytes.now c.in_ok-version.version c.in_ok-version.limits c.in_ok-version.bodies c.in_ok-version.behind_limits.now b c.in_ok-beginning.rest.now
    c.in_ok-version.ensures.found c.in_ok-beginning.ensures.found in
    fault_from_body c.args.bytes.now c.in_ok-version.limits c.in_ok-version.bodies b c.in_ok-beginning.rest.now c.in-Err.bad.line c.in-Err.bad.why
    c.in_ok-beginning.ensures.found.allowed whole (c.in-Err.ensures.fault (origin c.in_ok-version.limits.machines b) c.in_ok-beginning.ensures.first)

pub returns-clause-found : goal.returns-clause-found
returns-clause-found g c =
    let b = begins_at c.in_ok-beginning.beginning in
    let x : Content = record { limits = c.in_ok-version.limits; bodies = c.in_ok-version.bodies; begins = b; entries = c.in-Ok.entries.list; end = c.in-Ok.end } in
    let whole = beginning_whole c.args.bytes.now c.in_ok-version.version c.in_ok-version.limits c.in_ok-version.bodies c.in_ok-version.behind_limits.now b c.in_ok-beginning.rest.now
    c.in_ok-version.ensures.found c.in_ok-beginning.ensures.found in
    let read = c.in-Ok.ensures.found (origin c.in_ok-version.limits.machines b) c.in_ok-beginning.ensures.first in
    (has_text x c.in_ok-beginning.ensures.found.allowed read.0, text_from c.args.bytes.now x c.in_ok-beginning.rest.now whole read.1)

pub returns-clause-only : goal.returns-clause-only
returns-clause-only g c x h is =
    let b = begins_at c.in_ok-beginning.beginning in
    let y : Content = record { limits = c.in_ok-version.limits; bodies = c.in_ok-version.bodies; begins = b; entries = c.in-Ok.entries.list; end = c.in-Ok.end } in
    let one = c.in_ok-version.ensures.only _ x.limits x.bodies _ (has_limits_of x c.args.bytes.now h is) in
    let two = c.in_ok-beginning.ensures.only x.begins _ (begins_so x c.in_ok-version.version c.in_ok-version.limits c.in_ok-version.bodies c.in_ok-version.behind_limits.now h one.0 one.1 one.2 one.3) in
    let three = c.in-Ok.ensures.only (origin c.in_ok-version.limits.machines b) x.entries x.end c.in_ok-beginning.ensures.first
    (body_so x c.in_ok-version.limits b c.in_ok-beginning.rest.now h one.1 two.0 two.1) in
    same_content x y one.1 one.2 two.0 three.0 three.1

pub returns-clause-counted : goal.returns-clause-counted
returns-clause-counted g c =
    counted_from c.in_ok-version.limits c.in_ok-version.bodies (begins_at c.in_ok-beginning.beginning) c.in_ok-beginning.ensures.found.allowed
