use Rattle.std.proofs.Common.{refl}
use Rattle.gmp_trace.specs.StartForms.{NoneFollows}
use Rattle.gmp_trace.specs.StartNext.{IsNext, behind_lines, counts_line, head_line, machines_line, marked_line, procs_line, spinning_line}
use Rattle.gmp_trace.proofs.StartSofar.{fault, first, next}
use Rattle.gmp_trace.proofs.start.whole.heads_of.Goals as goal

pub returns-in_default-clause-fault : goal.returns-in_default-clause-fault
returns-in_default-clause-fault c =
    let s0 = first c.args.limits c.args.bodies c.args.text.now in
    let none : NoneFollows c.args.limits c.args.bodies (behind_lines 0) c.args.text.now = rw c.in_default.is at c.in_ok-head.ensures in
    fault c.args.limits c.args.bodies c.args.text.now _ c.args.text.now 3 s0 refl none

pub returns-in_default-2-clause-fault : goal.returns-in_default-2-clause-fault
returns-in_default-2-clause-fault c =
    let s0 = first c.args.limits c.args.bodies c.args.text.now in
    let is1 : IsNext c.args.limits c.args.bodies (behind_lines 0) c.args.text.now (head_line c.in-Some.head) c.in-Some.rest.now = rw c.in-Some.is at c.in_ok-head.ensures in
    let s1 = next c.args.limits c.args.bodies c.args.text.now _ c.args.text.now (head_line c.in-Some.head) c.in-Some.rest.now s0 refl is1 in
    let none : NoneFollows c.args.limits c.args.bodies (behind_lines 1) c.in-Some.rest.now = rw c.in_default-2.is at c.in_ok-counts.ensures in
    fault c.args.limits c.args.bodies c.args.text.now _ c.in-Some.rest.now 4 s1 refl none

pub returns-in_default-3-clause-fault : goal.returns-in_default-3-clause-fault
returns-in_default-3-clause-fault c =
    let s0 = first c.args.limits c.args.bodies c.args.text.now in
    let is1 : IsNext c.args.limits c.args.bodies (behind_lines 0) c.args.text.now (head_line c.in-Some.head) c.in-Some.rest.now = rw c.in-Some.is at c.in_ok-head.ensures in
    let s1 = next c.args.limits c.args.bodies c.args.text.now _ c.args.text.now (head_line c.in-Some.head) c.in-Some.rest.now s0 refl is1 in
    let is2 : IsNext c.args.limits c.args.bodies (behind_lines 1) c.in-Some.rest.now (counts_line c.in-Some-2.counts.items) c.in-Some-2.rest.now = rw c.in-Some-2.is at c.in_ok-counts.ensures in
    let s2 = next c.args.limits c.args.bodies c.args.text.now _ c.in-Some.rest.now (counts_line c.in-Some-2.counts.items) c.in-Some-2.rest.now s1 refl is2 in
    let none : NoneFollows c.args.limits c.args.bodies (behind_lines 2) c.in-Some-2.rest.now = rw c.in_default-3.is at c.in_ok-holders.ensures in
    fault c.args.limits c.args.bodies c.args.text.now _ c.in-Some-2.rest.now 5 s2 refl none

pub returns-in_default-4-clause-fault : goal.returns-in_default-4-clause-fault
returns-in_default-4-clause-fault c =
    let s0 = first c.args.limits c.args.bodies c.args.text.now in
    let is1 : IsNext c.args.limits c.args.bodies (behind_lines 0) c.args.text.now (head_line c.in-Some.head) c.in-Some.rest.now = rw c.in-Some.is at c.in_ok-head.ensures in
    let s1 = next c.args.limits c.args.bodies c.args.text.now _ c.args.text.now (head_line c.in-Some.head) c.in-Some.rest.now s0 refl is1 in
    let is2 : IsNext c.args.limits c.args.bodies (behind_lines 1) c.in-Some.rest.now (counts_line c.in-Some-2.counts.items) c.in-Some-2.rest.now = rw c.in-Some-2.is at c.in_ok-counts.ensures in
    let s2 = next c.args.limits c.args.bodies c.args.text.now _ c.in-Some.rest.now (counts_line c.in-Some-2.counts.items) c.in-Some-2.rest.now s1 refl is2 in
    let is3 : IsNext c.args.limits c.args.bodies (behind_lines 2) c.in-Some-2.rest.now (procs_line c.in-Some-3.holders.items) c.in-Some-3.rest.now = rw c.in-Some-3.is at c.in_ok-holders.ensures in
    let s3 = next c.args.limits c.args.bodies c.args.text.now _ c.in-Some-2.rest.now (procs_line c.in-Some-3.holders.items) c.in-Some-3.rest.now s2 refl is3 in
    let none : NoneFollows c.args.limits c.args.bodies (behind_lines 3) c.in-Some-3.rest.now = rw c.in_default-4.is at c.in_ok-modes.ensures in
    fault c.args.limits c.args.bodies c.args.text.now _ c.in-Some-3.rest.now 6 s3 refl none

pub returns-in_default-5-clause-fault : goal.returns-in_default-5-clause-fault
returns-in_default-5-clause-fault c =
    let s0 = first c.args.limits c.args.bodies c.args.text.now in
    let is1 : IsNext c.args.limits c.args.bodies (behind_lines 0) c.args.text.now (head_line c.in-Some.head) c.in-Some.rest.now = rw c.in-Some.is at c.in_ok-head.ensures in
    let s1 = next c.args.limits c.args.bodies c.args.text.now _ c.args.text.now (head_line c.in-Some.head) c.in-Some.rest.now s0 refl is1 in
    let is2 : IsNext c.args.limits c.args.bodies (behind_lines 1) c.in-Some.rest.now (counts_line c.in-Some-2.counts.items) c.in-Some-2.rest.now = rw c.in-Some-2.is at c.in_ok-counts.ensures in
    let s2 = next c.args.limits c.args.bodies c.args.text.now _ c.in-Some.rest.now (counts_line c.in-Some-2.counts.items) c.in-Some-2.rest.now s1 refl is2 in
    let is3 : IsNext c.args.limits c.args.bodies (behind_lines 2) c.in-Some-2.rest.now (procs_line c.in-Some-3.holders.items) c.in-Some-3.rest.now = rw c.in-Some-3.is at c.in_ok-holders.ensures in
    let s3 = next c.args.limits c.args.bodies c.args.text.now _ c.in-Some-2.rest.now (procs_line c.in-Some-3.holders.items) c.in-Some-3.rest.now s2 refl is3 in
    let is4 : IsNext c.args.limits c.args.bodies (behind_lines 3) c.in-Some-3.rest.now (machines_line c.in-Some-4.modes.items) c.in-Some-4.rest.now = rw c.in-Some-4.is at c.in_ok-modes.ensures in
    let s4 = next c.args.limits c.args.bodies c.args.text.now _ c.in-Some-3.rest.now (machines_line c.in-Some-4.modes.items) c.in-Some-4.rest.now s3 refl is4 in
    let none : NoneFollows c.args.limits c.args.bodies (behind_lines 4) c.in-Some-4.rest.now = rw c.in_default-5.is at c.in_ok-spinning.ensures in
    fault c.args.limits c.args.bodies c.args.text.now _ c.in-Some-4.rest.now 7 s4 refl none

pub returns-in_default-6-clause-fault : goal.returns-in_default-6-clause-fault
returns-in_default-6-clause-fault c =
    let s0 = first c.args.limits c.args.bodies c.args.text.now in
    let is1 : IsNext c.args.limits c.args.bodies (behind_lines 0) c.args.text.now (head_line c.in-Some.head) c.in-Some.rest.now = rw c.in-Some.is at c.in_ok-head.ensures in
    let s1 = next c.args.limits c.args.bodies c.args.text.now _ c.args.text.now (head_line c.in-Some.head) c.in-Some.rest.now s0 refl is1 in
    let is2 : IsNext c.args.limits c.args.bodies (behind_lines 1) c.in-Some.rest.now (counts_line c.in-Some-2.counts.items) c.in-Some-2.rest.now = rw c.in-Some-2.is at c.in_ok-counts.ensures in
    let s2 = next c.args.limits c.args.bodies c.args.text.now _ c.in-Some.rest.now (counts_line c.in-Some-2.counts.items) c.in-Some-2.rest.now s1 refl is2 in
    let is3 : IsNext c.args.limits c.args.bodies (behind_lines 2) c.in-Some-2.rest.now (procs_line c.in-Some-3.holders.items) c.in-Some-3.rest.now = rw c.in-Some-3.is at c.in_ok-holders.ensures in
    let s3 = next c.args.limits c.args.bodies c.args.text.now _ c.in-Some-2.rest.now (procs_line c.in-Some-3.holders.items) c.in-Some-3.rest.now s2 refl is3 in
    let is4 : IsNext c.args.limits c.args.bodies (behind_lines 3) c.in-Some-3.rest.now (machines_line c.in-Some-4.modes.items) c.in-Some-4.rest.now = rw c.in-Some-4.is at c.in_ok-modes.ensures in
    let s4 = next c.args.limits c.args.bodies c.args.text.now _ c.in-Some-3.rest.now (machines_line c.in-Some-4.modes.items) c.in-Some-4.rest.now s3 refl is4 in
    let is5 : IsNext c.args.limits c.args.bodies (behind_lines 4) c.in-Some-4.rest.now (spinning_line c.in-Some-5.spinning.items) c.in-Some-5.rest.now = rw c.in-Some-5.is at c.in_ok-spinning.ensures in
    let s5 = next c.args.limits c.args.bodies c.args.text.now _ c.in-Some-4.rest.now (spinning_line c.in-Some-5.spinning.items) c.in-Some-5.rest.now s4 refl is5 in
    let none : NoneFollows c.args.limits c.args.bodies (behind_lines 5) c.in-Some-5.rest.now = rw c.in_default-6.is at c.in_ok-marked.ensures in
    fault c.args.limits c.args.bodies c.args.text.now _ c.in-Some-5.rest.now 8 s5 refl none

pub returns-clause-right : goal.returns-clause-right
returns-clause-right c =
    let s0 = first c.args.limits c.args.bodies c.args.text.now in
    let is1 : IsNext c.args.limits c.args.bodies (behind_lines 0) c.args.text.now (head_line c.in-Some.head) c.in-Some.rest.now = rw c.in-Some.is at c.in_ok-head.ensures in
    let s1 = next c.args.limits c.args.bodies c.args.text.now _ c.args.text.now (head_line c.in-Some.head) c.in-Some.rest.now s0 refl is1 in
    let is2 : IsNext c.args.limits c.args.bodies (behind_lines 1) c.in-Some.rest.now (counts_line c.in-Some-2.counts.items) c.in-Some-2.rest.now = rw c.in-Some-2.is at c.in_ok-counts.ensures in
    let s2 = next c.args.limits c.args.bodies c.args.text.now _ c.in-Some.rest.now (counts_line c.in-Some-2.counts.items) c.in-Some-2.rest.now s1 refl is2 in
    let is3 : IsNext c.args.limits c.args.bodies (behind_lines 2) c.in-Some-2.rest.now (procs_line c.in-Some-3.holders.items) c.in-Some-3.rest.now = rw c.in-Some-3.is at c.in_ok-holders.ensures in
    let s3 = next c.args.limits c.args.bodies c.args.text.now _ c.in-Some-2.rest.now (procs_line c.in-Some-3.holders.items) c.in-Some-3.rest.now s2 refl is3 in
    let is4 : IsNext c.args.limits c.args.bodies (behind_lines 3) c.in-Some-3.rest.now (machines_line c.in-Some-4.modes.items) c.in-Some-4.rest.now = rw c.in-Some-4.is at c.in_ok-modes.ensures in
    let s4 = next c.args.limits c.args.bodies c.args.text.now _ c.in-Some-3.rest.now (machines_line c.in-Some-4.modes.items) c.in-Some-4.rest.now s3 refl is4 in
    let is5 : IsNext c.args.limits c.args.bodies (behind_lines 4) c.in-Some-4.rest.now (spinning_line c.in-Some-5.spinning.items) c.in-Some-5.rest.now = rw c.in-Some-5.is at c.in_ok-spinning.ensures in
    let s5 = next c.args.limits c.args.bodies c.args.text.now _ c.in-Some-4.rest.now (spinning_line c.in-Some-5.spinning.items) c.in-Some-5.rest.now s4 refl is5 in
    let is6 : IsNext c.args.limits c.args.bodies (behind_lines 5) c.in-Some-5.rest.now (marked_line c.in-Some-6.marked.items) c.in-Some-6.rest.now = rw c.in-Some-6.is at c.in_ok-marked.ensures in
    let s6 = next c.args.limits c.args.bodies c.args.text.now _ c.in-Some-5.rest.now (marked_line c.in-Some-6.marked.items) c.in-Some-6.rest.now s5 refl is6 in
    s6
