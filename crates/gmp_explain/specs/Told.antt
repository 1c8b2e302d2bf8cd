-- What is told of a trace is true of the state to which its entries lead.
use Rattle.std.specs.Prelude.{◌≡◌, ℕ, ◌+◌, Option, None, Some, List, [], ◌∷◌, ◌++◌, All, codes, decimal, drop, length, map}
use Rattle.gmp_seq.specs.declared.call.Entry.{Entry}
use Rattle.gmp_seq.specs.declared.call.Limits.{Limits}
use Rattle.gmp_seq.specs.declared.call.Outcome.{Outcome}
use Rattle.gmp_seq.specs.declared.call.Reply.{Reply}
use Rattle.gmp_seq.specs.Needs.{Needs}
use Rattle.gmp_seq.specs.State.{State}
use Rattle.gmp_start.specs.declared.start.Start.{Start}
use Rattle.gmp_start.specs.Start.{state_of}
use Rattle.gmp_trace.specs.Pieces.{Pair, Word, call_pieces, entry_pieces, fields, reply_pieces}
use Rattle.gmp_trace.specs.Text.{Content}
use Rattle.gmp_check.specs.declared.state.needs.Need.{Need}
use Rattle.gmp_check.specs.Missing.{Lacks}
use Rattle.gmp_walk.specs.Led.{IsWalked}
use Rattle.gmp_allowed.specs.Allowed.{IsAllowed, IsWhole}
use Rattle.gmp_explain.specs.declared.fact.Fact.{Fact}
use Rattle.gmp_explain.specs.Spoken.{Lacking, Line, May, Remark, TellsOf, WasOver}
use Rattle.gmp_explain.specs.Stated.{IsBefore}

-- the first n entries lead to this state, which is told by its parts; they are all, or no step follows by the next
pub record IsTold (x : Content) (n : ℕ) (s : State) (last : Start) : Type 0 where
  pub walked : IsWalked x n s
  pub told : state_of last ≡ record s { outcome = None }

-- the line of an entry up to its reply
abbrev pub before_reply : ℕ → Entry → List ℕ
before_reply n e = decimal n ++ fields (Pair 8 e.m.0 e.k ∷ (call_pieces e.call ++ Word (codes "->") ∷ []))

-- the reply begins there in the line of entry 0
abbrev pub IsReplyPlace : Entry → ℕ → Type 0
IsReplyPlace e place = place ≡ length (before_reply 0 e) + 1

-- a reply in the words of a trace
abbrev pub reply_text : Reply → List ℕ
reply_text reply = drop 1 (fields (reply_pieces reply))

-- that it is allowed
abbrev pub may : Reply → Remark
may reply = May (reply_text reply)

-- told was of replies that are allowed, each in its words, of no other, and none that fits a trace is left out
pub record TellsAllowed {S : Type 0} (told : S → Fact → S → Type 0) (limits : Limits) (s : State) (e : Entry) (old new : S) : Type 0 where
  pub replies : List Reply
  pub right : All (IsAllowed limits s e) replies
  pub whole : IsWhole limits s e replies
  pub tells : TellsOf told (map may replies) old new

-- while the run lasts, by what the call lacks: that, or replies that are allowed, and none that is and fits a trace is left out
abbrev pub AnswersCall : Limits → State → Entry → Option Need → List Remark → Type 0
AnswersCall limits s e (Some need) these = these ≡ Lacking need ∷ []
AnswersCall limits s e None these = (replies : List Reply) × All (IsAllowed limits s e) replies × IsWhole limits s e replies × (these ≡ map may replies)

-- what is to be said of the replies at an entry, by how the run ended before it
abbrev pub AnswersEntry : Limits → State → Entry → Option Outcome → List Remark → Type 0
AnswersEntry limits s e (Some outcome) these = these ≡ WasOver ∷ []
AnswersEntry limits s e None these = (lacks : Option Need) × Lacks e.m e.call s (Needs e.m e.call s) lacks × AnswersCall limits s e lacks these

-- told was that
pub record TellsAnswer {S : Type 0} (told : S → Fact → S → Type 0) (limits : Limits) (s : State) (e : Entry) (old new : S) : Type 0 where
  pub these : List Remark
  pub right : AnswersEntry limits s e s.outcome these
  pub tells : TellsOf told these old new

-- told was what there is to be said of the state before an entry
pub record TellsBefore {S : Type 0} (told : S → Fact → S → Type 0) (s : State) (e : Entry) (old new : S) : Type 0 where
  pub said : List Remark
  pub is_before : IsBefore s e said
  pub tells : TellsOf told said old new

-- what is to be said of an entry that is no step: its line, under some number; what was before it; and what is to be said of its replies
pub record AreOfEntry (limits : Limits) (s : State) (e : Entry) (these : List Remark) : Type 0 where
  pub number : ℕ
  pub before : List Remark
  pub is_before : IsBefore s e before
  pub answer : List Remark
  pub answers : AnswersEntry limits s e s.outcome answer
  pub all : these ≡ Line (decimal number ++ fields (entry_pieces e)) ∷ (before ++ answer)

-- told was that
pub record TellsEntry {S : Type 0} (told : S → Fact → S → Type 0) (limits : Limits) (s : State) (e : Entry) (old new : S) : Type 0 where
  pub these : List Remark
  pub right : AreOfEntry limits s e these
  pub tells : TellsOf told these old new
