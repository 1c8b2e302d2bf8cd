use Rattle.std.proofs.Common.{◌≡◌, ◌≢◌, ℕ, length, true, false, List, get_or, Some, None, Result, Ok, Err, Bor, sym, ◌∙◌, inl, inr, arith}
use Rattle.std.specs.Result.{MatchResult, result_ok}
use Rattle.std.specs.Str.{all_ascii_digits, IsUtf8}
use Rattle.std.specs.Str.Parse.{digits_value, ParsesUnsigned}
use Rattle.std.proofs.lemmas.Bool.{cases_Bool, cases_lt}
use Rattle.std.proofs.lemmas.Bool.Decides.{nat_tests}
use Rattle.std.proofs.lemmas.Grind.{common_steps}
use Rattle.std.proofs.lemmas.Str.{IsUtf8-from_ascii}
use Rattle.std.proofs.lemmas.Str.Parse.{IsNumeralModel, numerals_by_value, tells_all_ascii_digits, parse_plain, digit_at}
use Rattle.gmp_script.specs.Numbers.{parsed_number}
use Rattle.gmp_script.proofs.digits.number.Goals as goal
use Rattle.gmp_script.proofs.digits.number.Goals.{in-43, in_default, in_default-2}

own : IsNumeralModel (λ ds. all_ascii_digits ds ≡ true) (digits_value 10)
own = numerals_by_value (λ ds. all_ascii_digits ds ≡ true) tells_all_ascii_digits

utf8_digits : (word : List ℕ) → all_ascii_digits word ≡ true → IsUtf8 word
utf8_digits word h = IsUtf8-from_ascii word (λ i. elim (cases_lt i (length word)) [
  | inl l ↦ let d = digit_at word i (own.to word h) l in grind (arith, common_steps)
  | inr g ↦ grind (arith, common_steps)
])

no_number : (word : List ℕ) → all_ascii_digits word ≡ false → parsed_number word ≡ None
no_number word h = grind (arith, nat_tests)

parsed : {E : Type 0} (word : List ℕ) (r : Result ℕ E) → get_or word 0 0 ≢ 43 → ParsesUnsigned 64 10 word r → result_ok r ≡ parsed_number word
parsed {E} word (Ok n) plus h =
    let k = parse_plain own {E = E} 64 word (Ok n) h plus in
    grind (arith, nat_tests)
parsed {E} word (Err e) plus h =
    let k = parse_plain own {E = E} 64 word (Err e) h plus in
    elim (cases_Bool (all_ascii_digits word)) [
      | inl t ↦ grind (arith, nat_tests)
      | inr f ↦ sym (no_number word f)
    ]

not_utf8 : {T E : Type 0} (P : T → Type 0) (Q : E → Type 0) (word : List ℕ) (r : Result T E) → MatchResult r P (λ e. ¬ (IsUtf8 word) × Q e) → result_ok r ≡ None → parsed_number word ≡ None
not_utf8 P Q word (Ok x) h e = cc
not_utf8 P Q word (Err e') h e = elim (cases_Bool (all_ascii_digits word)) [
  | inl t ↦ absurd (h.0 (utf8_digits word t))
  | inr f ↦ no_number word f
]

text_is : {E : Type 0} (Q : E → Type 0) (word : List ℕ) (r : Result (Bor (List ℕ)) E) (x : Bor (List ℕ)) → MatchResult r (λ s. (s.now ≡ word) × IsUtf8 word) Q → result_ok r ≡ Some x → x.now ≡ word
text_is Q word (Ok y) x h e = cc
text_is Q word (Err e') x h e = cc

pub returns-in_err-ok : goal.returns-in_err-ok
returns-in_err-ok c = c.from_residual.ensures ∙ sym (not_utf8 _ _ c.args.word.now c.from_utf8.result c.from_utf8.ensures.cases (sym c.ok.ensures.value ∙ c.in_err-ok.was))

pub returns : goal.returns
returns c =
    let e = text_is _ c.args.word.now c.from_utf8.result c.in_ok-ok.field-0 c.from_utf8.ensures.cases (sym c.ok.ensures.value ∙ c.in_ok-ok.was) in
    let h = rw e at c.parse.ensures.value.0 in
    let plus : get_or c.args.word.now 0 0 ≢ 43 = elim c.if-matches-2.branch [
      | in-43 w ↦ grind (arith, common_steps)
      | in_default w ↦ grind (arith, common_steps)
      | in_default-2 w ↦ grind (arith, common_steps)
    ] in
    c.ok-2.ensures.value ∙ parsed c.args.word.now c.parse.result plus h

pub returns-then-matches : goal.returns-then-matches
returns-then-matches c = grind (arith, common_steps)
