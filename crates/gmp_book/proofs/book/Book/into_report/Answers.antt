use Rattle.std.proofs.Common.{◌≡◌, ◌∙◌, All, Some, ap, length, rules, subst, sym}
use Rattle.std.proofs.lemmas.List.{length-map}
use Rattle.gmp_seq.specs.Fits.{AreLimits, Fits}
use Rattle.gmp_journal.specs.Log.{Log}
use Rattle.gmp_journal.specs.Segments.{IsPart}
use Rattle.gmp_book.proofs.book.Book.into_report.Goals as goal

pub returns-clause-report : goal.returns-clause-report
returns-clause-report g c =
    let told = c.into_parts-capacities.ensures in
    let same = ap (λ v. v.log) c.self.view_is in
    record {
      limits = search rules;
      capacities = search rules;
      history = search rules;
      outcome = search rules;
      over = search rules;
      bodies = search rules;
      owners = search rules;
      stock = subst (λ (l : Log). length c.into_items.result.items ≡ l.bodies) same
          (sym (length-map c.into_items.result.items Some) ∙ (ap length c.into_items.ensures ∙ c.self.invariant.bodies_count));
      part = subst IsPart same told.part;
      fits = subst (λ (l : Log). All Fits l.history) same told.part.fits;
      within = subst (λ (l : Log). AreLimits l.limits l.bodies l.capacities) same told.part.within;
    }

pub into_items-requires : goal.into_items-requires
into_items-requires g c = search rules

pub returns-clause-refused : goal.returns-clause-refused
returns-clause-refused g c = search rules
