-- What the pieces of a run are, once all of them were written.
use Rattle.std.proofs.Common.{◌≡◌, ◌++◌, ◌∙◌, ℕ, Bool, true, false, List, [], ◌∷◌, Option, None, IsSome, refl, sym, ap, subst, append_assoc}
use Rattle.std.proofs.lemmas.Bool.{false≢true}
use Rattle.std.proofs.lemmas.List.{append-nil}
use Rattle.gmp_seq.specs.declared.call.Entry.{Entry}
use Rattle.gmp_trace.specs.Text.{Content}
use Rattle.gmp_parts.proofs.Written.{none_written, one_written}
use Rattle.gmp_parts.specs.Parts.{Parts, entries_of}
use Rattle.gmp_parts.specs.Parts.Parts.{NoPart, Then}
use Rattle.gmp_parts.specs.Writing.{HasWritten, Writing, WritesPart}
use Rattle.gmp_run.proofs.Desks.{joined_one_more, joined_with_left}
use Rattle.gmp_run.specs.Desks.{IsLeftSo, TakesAll, joined, with_left}
use Rattle.gmp_pieces.specs.Pieces.{Refuses, WritesLeft, pieces_of}

not_both : {A : Type 0} (o : Option A) → IsSome o → o ≡ None → ⊥
not_both {A} o some none = let bad : IsSome {T = A} None = subst IsSome none some in absurd (false≢true bad)

entries_joined : (parts : Parts) → entries_of parts ≡ joined (pieces_of parts)
entries_joined NoPart = refl
entries_joined (Then parts x) = ap (λ (l : List Entry). l ++ x.entries) (entries_joined parts) ∙ sym (joined_one_more (pieces_of parts) x.entries)

module _ {W S : Type 0} (contents : W → Option (List ℕ)) (of : S → Writing W) where
  abbrev pub takes : S → List Entry → S → Type 0
  takes old h new = WritesPart contents (of old) h (of new)

  abbrev pub refuses : S → List Entry → S → Type 0
  refuses old h new = Refuses (of old) h (of new)

  -- what was left is written only where nothing was refused
  went_on : (behind now : S) (end : Writing W) (left : List Entry) (stopped : Bool) → IsLeftSo refuses stopped behind left now → WritesLeft contents (of now) left end → now ≡ behind
  went_on behind now end left false same last = same
  went_on behind now end [] true refused last = absurd (not_both _ refused.fails.0 last.0)
  went_on behind now end (e ∷ left) true refused last = absurd (not_both _ refused.fails.0 last.works.0)

  -- these pieces were written since it began, each as a part
  abbrev Has : Writing W → Writing W → List (List Entry) → Type 0
  Has began now pieces = (parts : Parts) × (pieces_of parts ≡ pieces) × HasWritten contents began now parts

  one_more : (began old new : Writing W) (pieces : List (List Entry)) (h : List Entry) → Has began old pieces → WritesPart contents old h new → Has began new (pieces ++ h ∷ [])
  one_more began old new pieces h (parts, are, has) written = by_part (one_written contents began old new parts h has written) where
    by_part : (x : Content) × (x.entries ≡ h) × HasWritten contents began new (Then parts x) → Has began new (pieces ++ h ∷ [])
    by_part (x, has_h, all) = (Then parts x, ap (λ (l : List (List Entry)). l ++ x.entries ∷ []) are ∙ ap (λ (l : List Entry). pieces ++ l ∷ []) has_h, all)

  all_pieces : (began : Writing W) (a b : S) (pieces before : List (List Entry)) → TakesAll takes a pieces b → Has began (of a) before → Has began (of b) (before ++ pieces)
  all_pieces began a b [] before taken has =
      let here : Has began (of b) before = subst (λ (s : S). Has began (of s) before) (sym taken) has in
      (here.0, here.1 ∙ sym (append-nil before), here.2)
  all_pieces began a b (h ∷ pieces) before taken has =
      let all : Has began (of b) ((before ++ h ∷ []) ++ pieces) = all_pieces began taken.0 b pieces (before ++ h ∷ []) taken.2 (one_more began (of a) (of taken.0) before h has taken.1) in
      (all.0, all.1 ∙ append_assoc before (h ∷ []) pieces, all.2)

  pub all_written : (a b : S) (end : Writing W) (pieces : List (List Entry)) (left : List Entry) → TakesAll takes a pieces b → WritesLeft contents (of b) left end
      → (parts : Parts) × (pieces_of parts ≡ with_left pieces left) × (entries_of parts ≡ joined pieces ++ left) × HasWritten contents (of a) end parts
  all_written a b end pieces left taken last = told (by left last (all_pieces (of a) a b pieces [] taken (NoPart, refl, none_written contents (of a)))) where
    by : (left : List Entry) → WritesLeft contents (of b) left end → Has (of a) (of b) pieces → Has (of a) end (with_left pieces left)
    by [] last all = (all.0, all.1, subst (λ (w : Writing W). HasWritten contents (of a) w all.0) (sym last.1) all.2)
    by (e ∷ left) last all = one_more (of a) (of b) end pieces (e ∷ left) all last

    told : Has (of a) end (with_left pieces left) → (parts : Parts) × (pieces_of parts ≡ with_left pieces left) × (entries_of parts ≡ joined pieces ++ left) × HasWritten contents (of a) end parts
    told (parts, are, has) = (parts, are, entries_joined parts ∙ ap joined are ∙ joined_with_left pieces left, has)

  -- the same, where the run went on to its end or was stopped
  pub run_written : (a behind b : S) (end : Writing W) (pieces : List (List Entry)) (left : List Entry) (stopped : Bool) → TakesAll takes a pieces behind
      → IsLeftSo refuses stopped behind left b → WritesLeft contents (of b) left end
      → (parts : Parts) × (pieces_of parts ≡ with_left pieces left) × (entries_of parts ≡ joined pieces ++ left) × HasWritten contents (of a) end parts
  run_written a behind b end pieces left stopped taken left_so last =
      all_written a behind end pieces left taken (subst (λ (s : S). WritesLeft contents (of s) left end) (went_on behind b end left stopped left_so last) last)
