-- One turn of a machine at the book: the act that its driver names, the word that it draws, and the machine that it wakes.
use Rattle.std.specs.Prelude.{◌≡◌, Option, None, Result}
use Rattle.gmp_base.specs.declared.number.MNo.{MNo}
use Rattle.gmp_base.specs.declared.refusal.Refusal.{Refusal}
use Rattle.gmp_seq.specs.declared.call.Reply.{Reply}
use Rattle.gmp_book.specs.Book.{BookContents}
use Rattle.gmp_driver.specs.declared.act.Act.{Act}
use Rattle.gmp_driver.specs.declared.act.Act.TheVariants as act
use Rattle.gmp_driver.specs.Machine.{Machine}
use Rattle.gmp_turn.specs.Surrenders.{Surrenders}
use Rattle.gmp_turn.specs.Turns.{Turns, woken_by}
use Rattle.gmp_worker.specs.Drawn.{drawn}
use Rattle.rand_pcg.specs.Lcg.{Lcg}

-- the act is a call of the book, or gives a value back to it
abbrev pub IsAtBook : Act → Type 0
IsAtBook (act.Call asked) = Unit {0}
IsAtBook (act.Surrender which) = Unit {0}
IsAtBook _ = ⊥

-- The one call that the act names is made, with the word that it draws, or the one value is given back, which draws none and wakes nobody.
abbrev pub TakesTurn : {T Q : Type 0} → Act → Machine T Q → BookContents T Q → Lcg → Option MNo → Machine T Q → BookContents T Q → Lcg → Type 0
TakesTurn (act.Call asked) x book g woken x' book' g' =
    (result : Result Reply Refusal) × Turns x book asked (drawn asked g).0 result x' book' × (woken ≡ woken_by result) × (g' ≡ (drawn asked g).1)
TakesTurn (act.Surrender which) x book g woken x' book' g' =
    (result : Result Unit Refusal) × Surrenders x book which result x' book' × (woken ≡ None) × (g' ≡ g)
TakesTurn _ x book g woken x' book' g' = ⊥
