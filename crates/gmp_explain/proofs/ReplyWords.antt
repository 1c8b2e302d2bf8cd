-- What is told of replies.
use Rattle.std.proofs.Common.{◌≡◌, ℕ, ◌+◌, ◌-◌, true, false, Option, None, Some, is_some, List, [], ◌∷◌, ◌++◌, codes, decimal, drop, length, map, take, refl, sym, ap, subst, ◌∙◌, arith, append_assoc}
use Rattle.std.proofs.lemmas.List.{length-append}
use Rattle.std.proofs.lemmas.List.Concat.{flat_map-append}
use Rattle.std.proofs.Math.Seq.{drop-append-add, take-append_seam}
use Rattle.gmp_seq.specs.declared.call.Entry.{Entry}
use Rattle.gmp_seq.specs.declared.call.Limits.{Limits}
use Rattle.gmp_seq.specs.declared.call.Outcome.{Outcome}
use Rattle.gmp_seq.specs.declared.call.Reply.TheVariants as reply
use Rattle.gmp_seq.specs.Needs.{Needs}
use Rattle.gmp_seq.specs.State.{State}
use Rattle.gmp_check.specs.declared.state.needs.Need.{Need}
use Rattle.gmp_check.specs.Missing.{Lacks}
use Rattle.gmp_trace.specs.Pieces.{Pair, Piece, Word, call_pieces, entry_pieces, entry_text, fields, piece_text, reply_pieces}
use Rattle.gmp_allowed.specs.Allowed.{AreAlike}
use Rattle.gmp_explain.specs.declared.fact.Fact.{Fact}
use Rattle.gmp_explain.specs.Spoken.{Lacking, Line, Remark, TellsOf, WasOver, remark}
use Rattle.gmp_explain.specs.Told.{AnswersCall, AnswersEntry, IsReplyPlace, TellsAllowed, TellsAnswer, TellsBefore, TellsEntry, before_reply, may, reply_text}
use Rattle.gmp_explain.proofs.Spoken.{join, one}

-- a line without its line feed
pub without_feed : (n : ℕ) (e : Entry) (line : List ℕ) → line ≡ take (length (entry_text n e) - 1) (entry_text n e) → line ≡ decimal n ++ fields (entry_pieces e)
unfolding entry_text
without_feed n e line is =
    let words : List ℕ = decimal n ++ fields (entry_pieces e) in
    let size : length (words ++ codes "\n") - 1 ≡ length words = ap (λ (k : ℕ). k - 1) (length-append words (codes "\n")) ∙ omega arith in
    is ∙ ap (λ (k : ℕ). take k (words ++ codes "\n")) size ∙ take-append_seam words (codes "\n")

-- the words up to the reply, and the reply's
pub line_parts : (n : ℕ) (e : Entry) → decimal n ++ fields (entry_pieces e) ≡ before_reply n e ++ fields (reply_pieces e.reply)
line_parts n e =
    let first : Piece = Pair 8 e.m.0 e.k in
    let parts : entry_pieces e ≡ (first ∷ (call_pieces e.call ++ Word (codes "->") ∷ [])) ++ reply_pieces e.reply = ap (λ (l : List Piece). first ∷ l) (sym (append_assoc (call_pieces e.call) (Word (codes "->") ∷ []) (reply_pieces e.reply))) in
    ap (λ (l : List Piece). decimal n ++ fields l) parts
    ∙ ap (λ (l : List ℕ). decimal n ++ l) (flat_map-append (λ p. codes " " ++ piece_text p) (first ∷ (call_pieces e.call ++ Word (codes "->") ∷ [])) (reply_pieces e.reply))
    ∙ sym (append_assoc (decimal n) _ _)

-- from the place behind the arrow and a space on stand the reply's words
pub reply_words : (e : Entry) (line : List ℕ) (place : ℕ) → line ≡ decimal 0 ++ fields (entry_pieces e) → place ≡ length (before_reply 0 e) + 1 → drop place line ≡ reply_text e.reply
reply_words e line place is at =
    ap (λ (l : List ℕ). drop place l) (is ∙ line_parts 0 e) ∙ ap (λ (n : ℕ). drop n (before_reply 0 e ++ fields (reply_pieces e.reply))) at
    ∙ drop-append-add (before_reply 0 e) (fields (reply_pieces e.reply)) 1

module _ {S : Type 0} (told : S → Fact → S → Type 0) (limits : Limits) (s : State) (e : Entry) where
  -- the run was over
  pub answer_over : (o : Option Outcome) (old new : S) → o ≡ s.outcome → is_some o ≡ true → TellsOf told (WasOver ∷ []) old new → TellsAnswer told limits s e old new
  answer_over None old new is over tells = absurd cc
  answer_over (Some outcome) old new is over tells = record {
    these = WasOver ∷ [];
    right = subst (λ (o : Option Outcome). AnswersEntry limits s e o (WasOver ∷ [])) is refl;
    tells = tells;
  }

  -- it lasted
  answer_lasting : (o : Option Outcome) (lacks : Option Need) (these : List Remark) (old new : S) → o ≡ s.outcome → is_some o ≡ false → Lacks e.m e.call s (Needs e.m e.call s) lacks
      → AnswersCall limits s e lacks these → TellsOf told these old new → TellsAnswer told limits s e old new
  answer_lasting (Some outcome) lacks these old new is lasts missing answer tells = absurd cc
  answer_lasting None lacks these old new is lasts missing answer tells = record {
    these = these;
    right = subst (λ (o : Option Outcome). AnswersEntry limits s e o these) is (lacks, missing, answer);
    tells = tells;
  }

  -- and the call lacks this
  pub answer_lacking : (o : Option Outcome) (need : Need) (old new : S) → o ≡ s.outcome → is_some o ≡ false → Lacks e.m e.call s (Needs e.m e.call s) (Some need)
      → TellsOf told (Lacking need ∷ []) old new → TellsAnswer told limits s e old new
  answer_lacking o need old new is lasts missing tells = answer_lasting o (Some need) (Lacking need ∷ []) old new is lasts missing refl tells

  -- and nothing is lacking
  pub answer_allowed : (o : Option Outcome) (old new : S) → o ≡ s.outcome → is_some o ≡ false → Needs e.m e.call s → TellsAllowed told limits s e old new → TellsAnswer told limits s e old new
  answer_allowed o old new is lasts met allowed =
      answer_lasting o None (map may allowed.replies) old new is lasts met (allowed.replies, allowed.right, allowed.whole, refl) allowed.tells

  -- the line was told, then what was before it, and then the answer
  pub entry_told : (number : ℕ) (old first mid new : S) {x : Fact} → told old x first → remark x ≡ Some (Line (decimal number ++ fields (entry_pieces e)))
      → TellsBefore told (record s { outcome = None }) e first mid → TellsAnswer told limits s e mid new → TellsEntry told limits s e old new
  entry_told number old first mid new {x} is line before answer =
      let words : Remark = Line (decimal number ++ fields (entry_pieces e)) in
      record {
        these = words ∷ (before.said ++ answer.these);
        right = record {
          number = number;
          before = before.said;
          is_before = record { holds = before.is_before.holds; held = before.is_before.held; at = before.is_before.at; runs = before.is_before.runs; all = before.is_before.all };
          answer = answer.these;
          answers = answer.right;
          all = refl;
        };
        tells = join told old first new (words ∷ []) (before.said ++ answer.these) (one told old first words is line) (join told first mid new before.said answer.these before.tells answer.tells);
      }

-- the reply begins at the same place
pub alike_place : (a b : Entry) (place : ℕ) → AreAlike a b → IsReplyPlace b place → IsReplyPlace a place
alike_place a b place alike is = is ∙ ap (λ (e : Entry). length (before_reply 0 e) + 1) (sym (alike reply.Nothing))
