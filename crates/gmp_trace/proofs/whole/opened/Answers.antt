use Rattle.std.proofs.Common.{◌≡◌, ◌<◌, ℕ, replicate, slice_index, refl, arith}
use Rattle.std.proofs.lemmas.List.{get_or-replicate}
use Rattle.gmp_trace.proofs.whole.opened.Goals as goal

zero_at : (m : ℕ) → m < 64 → slice_index (replicate 64 0) m ≡ 0
zero_at m lt = get_or-replicate {A = ℕ} 64 m 0 0 lt

pub returns-in_default-found-clause-only : goal.returns-in_default-found-clause-only
returns-in_default-found-clause-only c capacities rest range is = absurd (rw c.in_default-found.is at (c.in-Ok.ensures.only capacities rest range is))

pub returns-in_default-found-clause-fault : goal.returns-in_default-found-clause-fault
returns-in_default-found-clause-fault c bytes lines = (
  refl,
  record {
    limits = c.args.limits;
    bodies = c.args.bodies;
    rest = c.args.text.now;
    lines = lines;
    none = λ capacities more range is. rw c.in_default-found.is at (c.in-Ok.ensures.only capacities more range is);
  },
)

pub returns-clause-found : goal.returns-clause-found
returns-clause-found c = let found = rw c.in-Some.is at c.in-Ok.ensures.found in (found.1, found.0)

pub returns-clause-first : goal.returns-clause-first
returns-clause-first c =
    let found = rw c.in-Some.is at c.in-Ok.ensures.found in
    record {
      small = record {
        machines = omega (arith, found.1.machines);
        number = omega arith;
        lines = omega arith;
        made = λ m lt. let none = zero_at m lt in omega (arith, none);
      };
      machines = refl;
      number = refl;
      lines = refl;
      made = λ m lt. zero_at m.0 lt;
    }

pub returns-clause-only : goal.returns-clause-only
returns-clause-only c capacities rest range is = rw c.in-Some.is at (c.in-Ok.ensures.only capacities rest range is)
