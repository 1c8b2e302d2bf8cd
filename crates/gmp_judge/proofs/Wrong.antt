-- What is wrong with a text, or with a line.
use Rattle.std.proofs.Common.{◌≡◌, ◌≢◌, ◌∙◌, ℕ, true, List, Option, None, Some, IfSome, refl, sym, subst, inl, inr}
use Rattle.gmp_trace.specs.declared.bad.Bad.{Bad}
use Rattle.gmp_trace.specs.declared.bad.Why.{Why}
use Rattle.gmp_trace.specs.declared.bad.Why.TheVariants as why
use Rattle.gmp_trace.specs.HasText.{HasText}
use Rattle.gmp_trace.specs.Reading.{IsFault}
use Rattle.gmp_trace.specs.Text.{Content, text}
use Rattle.gmp_parts.specs.Parts.{IsRightTrace}
use Rattle.gmp_judge.specs.Judged.{HasNoRightTrace, IsJudged, IsRead, IsWrong}
use Rattle.gmp_words.specs.declared.said.Said.{Said}
use Rattle.gmp_words.specs.declared.said.Said.TheVariants.{BadTrace, OutOfMemory}
use Rattle.gmp_words.specs.Said.{is_of_line, said_for}

-- what is said of a bad line tells it
told_of : (what : Why) (b bad : Bad) → said_for what b ≡ BadTrace bad → b ≡ bad
told_of why.OutOfMemory b bad is = absurd cc
told_of why.Header b bad is = cc
told_of why.Limits b bad is = cc
told_of why.Caps b bad is = cc
told_of why.Start b bad is = cc
told_of why.Grammar b bad is = cc
told_of why.Number b bad is = cc
told_of why.End b bad is = cc
told_of why.Extra b bad is = cc
told_of why.Step b bad is = cc
told_of why.Outcome b bad is = cc

-- of bytes that are no trace's text
pub wrong_text : (bytes : List ℕ) (b bad : Bad) (said : Said) → said ≡ said_for b.why b → IsFault bytes b.line b.why
    → ((x : Content) → HasText x → bytes ≡ text x → b.why ≡ why.OutOfMemory) → said ≡ BadTrace bad → IsWrong bytes bad
wrong_text bytes b bad said says fault only is =
    let told : said_for b.why b ≡ BadTrace bad = sym says ∙ is in
    let same : b ≡ bad = told_of b.why b bad told in
    let none : HasNoRightTrace bytes =
    λ x right read. let memory : b.why ≡ why.OutOfMemory = only x right.has_text read in
    absurd (no_memory (subst (λ (what : Why). said_for what b ≡ BadTrace bad) memory told))
    in
    subst (λ (x : Bad). IsWrong bytes x) same (record { first = inl fault; exact = none })
  where
    no_memory : OutOfMemory ≡ BadTrace bad → ⊥
    no_memory h = cc

-- what is named is the fault
pub fault_of : (bytes : List ℕ) (b bad : Bad) (said : Said) → said ≡ said_for b.why b → IsFault bytes b.line b.why → said ≡ BadTrace bad → IsFault bytes bad.line bad.why
fault_of bytes b bad said says fault is = subst (λ (x : Bad). IsFault bytes x.line x.why) (told_of b.why b bad (sym says ∙ is)) fault

-- of the text of a trace that is judged
pub wrong_trace : (bytes : List ℕ) (x : Content) (wrong : Option Bad) → HasText x → IsRead bytes x → ((y : Content) → HasText y → bytes ≡ text y → x ≡ y) → IsJudged x wrong
    → IfSome wrong (IsWrong bytes)
wrong_trace bytes x None has_text read only right = tt
wrong_trace bytes x (Some bad) has_text read only found =
    record {
      first = inr (record { trace = x; has_text = has_text; read = read; wrong = found.first });
      exact = λ y right of_y. found.exact (subst IsRightTrace (sym (only y right.has_text of_y)) right);
    }

-- but for want of memory the word is one of a line
pub is_line : (what : Why) → what ≢ why.OutOfMemory → is_of_line what ≡ true
is_line why.OutOfMemory not = absurd (not refl)
is_line why.Header not = refl
is_line why.Limits not = refl
is_line why.Caps not = refl
is_line why.Start not = refl
is_line why.Grammar not = refl
is_line why.Number not = refl
is_line why.End not = refl
is_line why.Extra not = refl
is_line why.Step not = refl
is_line why.Outcome not = refl
