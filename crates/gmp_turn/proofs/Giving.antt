-- A surrender that is taken is an act of several machines.
use Rattle.std.proofs.Common.{◌≡◌, Option, None, Some, Ok, refl, sym, ap, ◌∙◌}
use Rattle.gmp_base.specs.declared.pass.Pass.{Pass}
use Rattle.gmp_driver.specs.declared.act.Act.TheVariants as act
use Rattle.gmp_driver.specs.declared.act.Value.{Value}
use Rattle.gmp_driver.specs.declared.act.Value.TheVariants as value
use Rattle.gmp_driver.specs.Loads.{parts_of}
use Rattle.gmp_driver.specs.Machine.{Machine}
use Rattle.gmp_driver.specs.Registers.{but, joined, unused}
use Rattle.gmp_driver.specs.Table.{after}
use Rattle.gmp_book.specs.Book.{BookContents}
use Rattle.gmp_acts.specs.Acts.{given_back}
use Rattle.gmp_acts.specs.Hands.{PlainHand, PlainMachine, plain, plain_machine}
use Rattle.gmp_turn.specs.Acts.{run_of}
use Rattle.gmp_turn.specs.Surrenders.{Surrenders, left_after, surrendered, told_back}
use Rattle.gmp_turn.proofs.Ending.{log_after}
use Rattle.gmp_acts.proofs.Plain.{after_plain}

module _ {T Q : Type 0} (x : Machine T Q) (pass : Pass) where
  holds : (which : Option Value) → plain (joined (parts_of (left_after which (Ok tt) (surrendered x pass which))) (unused (act.Surrender which) x.hand)) ≡ but which (plain x.hand)
  holds (Some value.Held) = refl
  holds (Some value.Called) = refl
  holds (Some value.ToClaim) = refl
  holds (Some value.ToStore) = refl
  holds (Some value.Proc) = refl
  holds None = refl

  told_so : (which : Option Value) → after (record (plain_machine x) { hand = but which (plain x.hand) }) (told_back which (Ok tt)) ≡ given_back (plain_machine x) which
  told_so (Some v) = refl
  told_so None = refl

pub given : {T Q : Type 0} (x x' : Machine T Q) (book book' : BookContents T Q) (which : Option Value) → Surrenders x book which (Ok tt) x' book'
    → (plain_machine x' ≡ given_back (plain_machine x) which) × (run_of book'.log ≡ run_of book.log)
given x x' book book' which s =
    let told = told_back which (Ok tt) in
    let machine_of : Option Pass → PlainHand → PlainMachine = λ p h. after (record (plain_machine x) { pass = p; hand = h }) told in (
      ap plain_machine s.machine ∙ after_plain _ told ∙ ap (machine_of (Some s.before)) (holds x s.before which) ∙ ap (λ (p : Option Pass). machine_of p (but which (plain x.hand))) (sym s.pass) ∙ told_so x s.before which,
      ap (λ (b : BookContents _ _). run_of b.log) s.places ∙ ap run_of (log_after which (Ok tt) (surrendered x s.before which) book),
    )
