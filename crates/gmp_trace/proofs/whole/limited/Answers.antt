use Rattle.std.proofs.Common.{◌++◌, ℕ, List, refl, sym, ap, ◌∙◌}
use Rattle.gmp_trace.specs.Pieces.{limits_text}
use Rattle.gmp_trace.specs.Text.{header}
use Rattle.gmp_trace.proofs.Parts.{one_version, suits_moved}
use Rattle.gmp_trace.proofs.whole.limited.Goals as goal

pub returns-in_default-clause-only : goal.returns-in_default-clause-only
returns-in_default-clause-only c v limits bodies rest h = absurd (c.in_default.ensures v (limits_text limits bodies ++ rest) h.whole)

pub returns-in_default-found-clause-only : goal.returns-in_default-found-clause-only
returns-in_default-found-clause-only c v limits bodies rest h =
    let one = one_version c.in-Some.version v c.in-Some.rest.now (limits_text limits bodies ++ rest) (sym c.in-Some.ensures ∙ h.whole) in
    absurd (rw c.in_default-found.is at (c.in-Ok.ensures.only limits bodies rest h.range (suits_moved c.in-Some.version v limits one.0 h.of_version) one.1))

pub returns-in_default-found-clause-fault : goal.returns-in_default-found-clause-fault
returns-in_default-found-clause-fault c = (
  refl,
  record {
    version = c.in-Some.version;
    rest = c.in-Some.rest.now;
    whole = c.in-Some.ensures;
    none = λ l bodies more h suits is. rw c.in_default-found.is at (c.in-Ok.ensures.only l bodies more h suits is);
  },
)

pub returns-clause-found : goal.returns-clause-found
returns-clause-found c =
    let found = rw c.in-Some-found.is at c.in-Ok.ensures.found in
    record { range = found.1; of_version = found.2; whole = c.in-Some.ensures ∙ ap (λ (t : List ℕ). header c.in-Some.version ++ t) found.0 }

pub returns-clause-only : goal.returns-clause-only
returns-clause-only c v limits bodies rest h =
    let one = one_version c.in-Some.version v c.in-Some.rest.now (limits_text limits bodies ++ rest) (sym c.in-Some.ensures ∙ h.whole) in
    let same = rw c.in-Some-found.is at (c.in-Ok.ensures.only limits bodies rest h.range (suits_moved c.in-Some.version v limits one.0 h.of_version) one.1) in
    (one.0, same.0, same.1, same.2)
