-- Entries that differ in their replies alone, and which replies of those that are tried are allowed: none is left out.
use Rattle.std.proofs.Common.{◌≡◌, None, Option, zero, suc, List, [], ◌∷◌, ◌++◌, All, Contains, inl, inr, refl, sym, ap, subst, ◌∙◌, arith}
use Rattle.std.proofs.lemmas.List.Elements.{All-cons, All-nil, Contains-append_right}
use Rattle.gmp_seq.specs.declared.call.Entry.{Entry}
use Rattle.gmp_seq.specs.declared.call.Limits.{Limits}
use Rattle.gmp_seq.specs.declared.call.Outcome.{Outcome}
use Rattle.gmp_seq.specs.declared.call.Reply.{Reply}
use Rattle.gmp_seq.specs.Run.{IsStep}
use Rattle.gmp_seq.specs.State.{State}
use Rattle.gmp_seq.specs.Step.{Effect}
use Rattle.gmp_check.specs.Decides.{Leads}
use Rattle.gmp_allowed.specs.Allowed.{AreAlike, AreThoseAllowed, IsAllowed, IsWhole, Tries}
use Rattle.gmp_allowed.specs.Tried.{HasAll}

-- what is allowed of one is allowed of the other
pub allowed_alike : (limits : Limits) (s : State) (a b : Entry) (r : Reply) → AreAlike a b → IsAllowed limits s a r → IsAllowed limits s b r
allowed_alike limits s a b r alike is = subst (λ (e : Entry). Leads (IsStep limits e) s) (alike r) is

pub tries_alike : (limits : Limits) (s : State) (a b : Entry) (r : Reply) (old new : List Reply) → AreAlike a b → Tries limits s a r old new → Tries limits s b r old new
tries_alike limits s a b r old new alike (inl (may, is)) = inl (allowed_alike limits s a b r alike may, is)
tries_alike limits s a b r old new alike (inr (never, is)) = inr (λ may. never (allowed_alike limits s b a r (λ q. sym (alike q)) may), is)

-- one was tried more
pub those_more : (limits : Limits) (s : State) (e : Entry) (tried : List Reply) (r : Reply) (found new : List Reply) → AreThoseAllowed limits s e tried found → Tries limits s e r found new
    → AreThoseAllowed limits s e (tried ++ r ∷ []) new
those_more limits s e [] r found new none (inl (may, is)) = inl (may, [], is ∙ ap (λ (l : List Reply). l ++ r ∷ []) none, refl)
those_more limits s e [] r found new none (inr (never, is)) = inr (never, is ∙ none)
those_more limits s e (t ∷ tried) r found new (inl (ok, rest, is, more)) (inl (may, adds)) =
    inl (ok, rest ++ r ∷ [], adds ∙ ap (λ (l : List Reply). l ++ r ∷ []) is, those_more limits s e tried r rest (rest ++ r ∷ []) more (inl (may, refl)))
those_more limits s e (t ∷ tried) r found new (inl (ok, rest, is, more)) (inr (never, same)) =
    inl (ok, rest, same ∙ is, those_more limits s e tried r rest rest more (inr (never, refl)))
those_more limits s e (t ∷ tried) r found new (inr (out, more)) tries = inr (out, those_more limits s e tried r found new more tries)

-- all that were found are allowed
pub those_right : (limits : Limits) (s : State) (e : Entry) (tried found : List Reply) → AreThoseAllowed limits s e tried found → All (IsAllowed limits s e) found
those_right limits s e [] found none = subst (All (IsAllowed limits s e)) (sym none) (All-nil (IsAllowed limits s e))
those_right limits s e (t ∷ tried) found (inl (ok, rest, is, more)) =
    subst (All (IsAllowed limits s e)) (sym is) (All-cons (IsAllowed limits s e) t rest ok (those_right limits s e tried rest more))
those_right limits s e (t ∷ tried) found (inr (out, more)) = those_right limits s e tried found more

-- and all that are allowed were found
pub those_all : (limits : Limits) (s : State) (e : Entry) (tried found : List Reply) (r : Reply) → AreThoseAllowed limits s e tried found → Contains tried r → IsAllowed limits s e r → Contains found r
those_all limits s e [] found r none (k, within, is) may = absurd (omega (arith, within))
those_all limits s e (t ∷ tried) found r (inl (ok, rest, same, more)) (zero, within, is) may = subst (λ (l : List Reply). Contains l r) (sym same) (zero, omega arith, is)
those_all limits s e (t ∷ tried) found r (inl (ok, rest, same, more)) (suc k, within, is) may =
    subst (λ (l : List Reply). Contains l r) (sym same) (Contains-append_right (t ∷ []) rest r (those_all limits s e tried rest r more (k, omega (arith, within), is) may))
those_all limits s e (t ∷ tried) found r (inr (out, more)) (zero, within, is) may = absurd (out (subst (IsAllowed limits s e) (sym is) may))
those_all limits s e (t ∷ tried) found r (inr (out, more)) (suc k, within, is) may = those_all limits s e tried found r more (k, omega (arith, within), is) may

-- what was found of the tried is whole
pub whole_of : (limits : Limits) (s : State) (e : Entry) (tried found : List Reply) (last : State) → last ≡ record s { outcome = None } → HasAll e.m e.call last tried
    → AreThoseAllowed limits s e tried found → IsWhole limits s e found
whole_of limits s e tried found last is has those r fits allowed =
    let lasts : s.outcome ≡ None = allowed.1.1.0 in
    let same : last ≡ s = is ∙ ap (λ (o : Option Outcome). let x : State = record s { outcome = o } in x) (sym lasts) in
    those_all limits s e tried found r those (has r (fits, limits, allowed.0, subst (λ (x : State). Effect limits e.m e.call r x allowed.0) (sym same) allowed.1.1.1)) allowed
