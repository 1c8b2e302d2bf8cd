-- Decisions carried over from one relation to another.
use Rattle.std.proofs.Common.{◌≡◌, ℕ, Bool, true, false, Option, None, Some, List, refl, sym, subst, ◌∙◌}
use Rattle.std.specs.List.{slice_get}
use Rattle.gmp_base.specs.declared.cases.Case.{Case}
use Rattle.gmp_base.specs.declared.number.GNo.{GNo}
use Rattle.gmp_seq.specs.declared.call.Reply.TheVariants as reply
use Rattle.gmp_seq.specs.declared.call.Taken.{Taken}
use Rattle.gmp_seq.specs.State.{State}
use Rattle.gmp_seq.specs.Step.{Communicates, Selects, none_missing}
use Rattle.gmp_check.specs.Decides.{Decides}

-- to one that leads from here to the same
pub decides_as : {X : Type 0} (R S : X → X → Type 0) (old new : X) (b : Bool) → ((other : X) → R old other → S old other) → ((other : X) → S old other → R old other)
    → Decides R old new b → Decides S old new b
decides_as R S old new true on back is = on new is
decides_as R S old new false on back is = (is.0, λ other s. is.1 other (back other s))

-- a case that is chosen
pub decides_chosen : (g : GNo) (cases : List Case) (has_default : Bool) (until : Option ℕ) (i : ℕ) (told : Taken) (x : Case) (old new : State) (b : Bool)
    → none_missing old.channels cases ≡ true → slice_get cases i ≡ Some x → Decides (Communicates x told) old new b → Decides (Selects g cases has_default until (reply.Chose i told)) old new b
decides_chosen g cases has_default until i told x old new b made at =
    decides_as (Communicates x told) (Selects g cases has_default until (reply.Chose i told)) old new b
    (λ other is. (made, x, at, is))
    (λ other (made_so, y, at_too, is).
    let e : Some y ≡ Some x = sym at_too ∙ at in let same : y ≡ x = cc in subst (λ z. Communicates z told old other) same is)

pub not_chosen : (g : GNo) (cases : List Case) (has_default : Bool) (until : Option ℕ) (i : ℕ) (told : Taken) (s : State) → slice_get cases i ≡ None
    → Decides (Selects g cases has_default until (reply.Chose i told)) s s false
not_chosen g cases has_default until i told s past = (refl, λ other (made, y, at, is). let e : None ≡ Some y = sym past ∙ at in cc)
