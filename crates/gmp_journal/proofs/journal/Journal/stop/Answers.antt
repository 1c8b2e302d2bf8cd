use Rattle.std.proofs.Common.{arith}
use Rattle.gmp_journal.proofs.journal.Journal.stop.Goals as goal

pub invariant_of-self : goal.invariant_of-self
invariant_of-self c =
    let kept = c.self.invariant.0 in
    let part = kept.part in (
      record {
        part = record { before = part.before; start = part.start; led = part.led; before_fits = part.before_fits; run = part.run; fits = part.fits; within = part.within };
        few = kept.few;
        room = kept.room;
        lasts = kept.lasts;
        begins = kept.begins;
        ongoing = kept.ongoing;
      },
      c.self.invariant.1,
      record { room = omega (arith, c.self.invariant.2.room); lasts = λ more. absurd (omega (arith, more)); fits = λ more. absurd (omega (arith, more)) },
    )
