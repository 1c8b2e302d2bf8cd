-- Lines, one after another.
use Rattle.std.proofs.Common.{◌≡◌, ◌⊎◌, ℕ, Option, None, Some, IfSome, Result, Ok, Err, IfOk, subst, inl, inr, List, [], ◌∷◌, ◌++◌, sym, ap, ◌∙◌, append_assoc}
use Rattle.std.proofs.lemmas.List.{append-nil}
use Rattle.std.specs.List.{flat_map}
use Rattle.gmp_seq.specs.declared.call.Entry.{Entry}
use Rattle.gmp_seq.specs.declared.call.Limits.{Limits}
use Rattle.gmp_seq.specs.State.{State}
use Rattle.gmp_trace.specs.declared.bad.Bad.{Bad}
use Rattle.gmp_trace.specs.declared.bad.Why.{Why}
use Rattle.gmp_trace.specs.declared.bad.Why.TheVariants as why
use Rattle.gmp_trace.specs.Reading.{IsFault}
use Rattle.gmp_trace.specs.Text.{Content}
use Rattle.gmp_check.specs.Checked.{IsFirstBad}
use Rattle.gmp_judge.specs.Judged.{IsJudged, said_of}
use Rattle.gmp_words.specs.declared.said.Said.{Said}
use Rattle.gmp_words.specs.declared.said.Said.TheVariants as said
use Rattle.gmp_explain.specs.declared.fact.Fact.{Fact}
use Rattle.gmp_explain.specs.Lines.{AddsLines, Says, SaysEntry, lines_of}
use Rattle.gmp_explain.specs.Spoken.{Remark, Tells, TellsOf}
use Rattle.gmp_explain.specs.Told.{TellsEntry}

-- what was told behind these bytes has its lines there
module _ {S : Type 0} (text : S → List ℕ) where
  abbrev pub adds : S → Fact → S → Type 0
  adds old x new = AddsLines (text old) x (text new)

  pub told_lines : (old new : S) (said : List Fact) → Tells adds old said new → text new ≡ text old ++ flat_map lines_of said
  told_lines old new [] same = ap text same ∙ sym (append-nil (text old))
  told_lines old new (x ∷ said) (mid, is, rest) =
      told_lines mid new said rest ∙ ap (λ (l : List ℕ). l ++ flat_map lines_of said) is ∙ append_assoc (text old) (lines_of x) (flat_map lines_of said)

  -- from no text on
  pub says : (old new : S) (these : List Remark) → text old ≡ [] → TellsOf adds these old new → Says these (text new)
  says old new these none told = record {
    said = told.said;
    lines = told_lines old new told.said told.tells ∙ ap (λ (l : List ℕ). l ++ flat_map lines_of told.said) none;
    said_so = told.said_so;
  }

  -- the same of an entry
  pub says_entry : (limits : Limits) (s : State) (e : Entry) (old new : S) → text old ≡ [] → TellsEntry adds limits s e old new → SaysEntry limits s e (text new)
  says_entry limits s e old new none told = record { these = told.these; right = told.right; says = says old new told.these none told.tells }

-- what follows of a value, where there is one
pub if_some : {T : Type 0} (o : Option T) {P Q : T → Type 0} → ((x : T) → P x → Q x) → IfSome o P → IfSome o Q
if_some (Some x) f p = f x p
if_some None f p = p

pub if_ok : {T E : Type 0} (r : Result T E) {P Q : T → Type 0} → ((x : T) → P x → Q x) → IfOk r P → IfOk r Q
if_ok (Ok x) f p = f x p
if_ok (Err e) f p = p

-- a text that is no trace's is called neither no step nor of another end
pub no_step_fault : (bytes : List ℕ) (line : ℕ) (what : Why) → what ≡ why.Step → IsFault bytes line what → ⊥
no_step_fault bytes line what is fault = let found = subst (IsFault bytes line) is fault in found.fault.fault

pub no_end_fault : (bytes : List ℕ) (line : ℕ) (what : Why) → what ≡ why.Outcome → IsFault bytes line what → ⊥
no_end_fault bytes line what is fault = let found = subst (IsFault bytes line) is fault in found.fault.fault

-- and so nothing is to be shown of such a line
pub unread_never : (o : Option (List ℕ)) (x : Said) (what : Why) (P : Bad → List ℕ → Type 0) → ((bytes : List ℕ) (line : ℕ) (w : Why) → w ≡ what → IsFault bytes line w → ⊥)
    → ((bad : Bad) → x ≡ said.BadTrace bad → IfSome o (λ all. IsFault all bad.line bad.why)) → IfSome o (λ all. (bad : Bad) → x ≡ said.BadTrace bad → bad.why ≡ what → P bad all)
unread_never (Some all) x what P never unread = λ bad is same. absurd (never all bad.line bad.why same (unread bad is))
unread_never None x what P never unread = tt

-- of a trace that was judged so, this is the first wrong line
pub first_bad : (x : Content) (wrong : Option Bad) (bad : Bad) → wrong ≡ Some bad → IsJudged x wrong → IsFirstBad x bad
first_bad x None bad is judged = absurd cc
first_bad x (Some b) bad is judged = let same : b ≡ bad = cc in subst (IsFirstBad x) same judged.first

-- the line that is called bad is the one that was found
pub found_bad : (wrong : Option Bad) (x : Said) (bad : Bad) → (x ≡ said_of wrong) ⊎ (x ≡ said.OutOfMemory) → x ≡ said.BadTrace bad → wrong ≡ Some bad
found_bad None x bad (inl same) is = absurd cc
found_bad None x bad (inr other) is = absurd cc
found_bad (Some b) x bad (inl same) is = let b_is : b ≡ bad = cc in ap (λ (y : Bad). Some y) b_is
found_bad (Some b) x bad (inr other) is = absurd cc
