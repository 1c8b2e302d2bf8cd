-- Which replies are allowed at an entry.
use Rattle.std.specs.Prelude.{◌≡◌, ◌⊎◌, List, [], ◌∷◌, ◌++◌, Contains}
use Rattle.gmp_seq.specs.declared.call.Entry.{Entry}
use Rattle.gmp_seq.specs.declared.call.Limits.{Limits}
use Rattle.gmp_seq.specs.declared.call.Reply.{Reply}
use Rattle.gmp_seq.specs.Fits.{FitsReply}
use Rattle.gmp_seq.specs.Run.{IsStep}
use Rattle.gmp_seq.specs.State.{State}
use Rattle.gmp_check.specs.Decides.{Leads}

-- with this reply the entry is a step
abbrev pub IsAllowed : Limits → State → Entry → Reply → Type 0
IsAllowed limits s e reply = Leads (IsStep limits (record e { reply = reply })) s

-- the reply was tried, and added where it is allowed
abbrev pub Tries : Limits → State → Entry → Reply → List Reply → List Reply → Type 0
Tries limits s e r old new = (IsAllowed limits s e r × (new ≡ old ++ r ∷ [])) ⊎ ((IsAllowed limits s e r → ⊥) × (new ≡ old))

-- of the replies that were tried, in order, exactly those that are allowed were found
abbrev pub AreThoseAllowed : Limits → State → Entry → List Reply → List Reply → Type 0
AreThoseAllowed limits s e [] found = found ≡ []
AreThoseAllowed limits s e (r ∷ tried) found =
    (IsAllowed limits s e r × (rest : List Reply) × (found ≡ r ∷ rest) × AreThoseAllowed limits s e tried rest)
    ⊎ ((IsAllowed limits s e r → ⊥) × AreThoseAllowed limits s e tried found)

-- none that is allowed and fits a trace is left out
abbrev pub IsWhole : Limits → State → Entry → List Reply → Type 0
IsWhole limits s e found = (r : Reply) → FitsReply r → IsAllowed limits s e r → Contains found r

-- they differ in their replies alone
abbrev pub AreAlike : Entry → Entry → Type 0
AreAlike a b = (r : Reply) → record a { reply = r } ≡ record b { reply = r }
