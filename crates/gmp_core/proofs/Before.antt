-- Entries that were handed out change no act: what leads on from those that are left leads on from all.
use Rattle.std.proofs.Common.{◌≡◌, inl, inr, ℕ, Bool, List, [], ◌∷◌, ◌++◌, map, sym, ap, ◌∙◌, subst, None, Some}
use Rattle.std.proofs.lemmas.List.{append_assoc, append-nil, append_cancel_left, map-append}
use Rattle.gmp_base.specs.declared.number.MNo.{MNo}
use Rattle.gmp_seq.specs.declared.call.Call.{Call}
use Rattle.gmp_seq.specs.declared.call.Entry.{Entry}
use Rattle.gmp_seq.specs.declared.call.Limits.{Limits}
use Rattle.gmp_seq.specs.Fits.{AreLimits}
use Rattle.gmp_driver.specs.declared.act.Act.{Act}
use Rattle.gmp_driver.specs.declared.act.Act.TheVariants as act
use Rattle.gmp_driver.specs.Table.{next_act}
use Rattle.gmp_acts.specs.declared.choice.Choice.{Choice}
use Rattle.gmp_acts.specs.declared.made.Made.{Made}
use Rattle.gmp_acts.specs.Acts.{Accepted, Acts, ActsAll, Answers, DoesAct, IsGranted, MakesCall}
use Rattle.gmp_acts.specs.Hands.{PlainMachine}
use Rattle.gmp_acts.specs.Headline.{Headline, opening_system}
use Rattle.gmp_acts.specs.Lookouts.{NoWorkIsAsleep}
use Rattle.gmp_acts.specs.Sound.{IsSound}
use Rattle.gmp_acts.specs.System.{BookRun, System, machine_at, made_of}
use Rattle.gmp_acts.proofs.Moving.{act_sound}
use Rattle.gmp_acts.proofs.Onward.{headline_after}
use Rattle.gmp_acts.proofs.Watching.{awake_after}
use Rattle.gmp_acts.proofs.Whole.{opening_sound}
use Rattle.gmp_core.specs.Pieces.{Move, MovesAll, acts_of}
use Rattle.gmp_core.specs.Whole.{HeadlineOf, IsWhole, emptied, with_before}

-- a book with these entries before its own
abbrev book_before : List Entry → BookRun → BookRun
book_before out b = record b { history = out ++ b.history }

abbrev own_before : List Entry → List Made → List Made
own_before out own = map made_of out ++ own

-- What a call needs does not go by the history.
pub granted_before : (out : List Entry) (x : PlainMachine) (m : MNo) (asked : Call) (b : BookRun) → IsGranted x m asked b → IsGranted x m asked (book_before out b)
granted_before out x m asked b g = record {
  may = record { pass = g.may.pass; has_pass = g.may.has_pass; run = g.may.run; its = g.may.its; turn = g.may.turn; seen = g.may.seen };
  needs = g.needs;
  has = g.has;
}

pub granted_here : (out : List Entry) (x : PlainMachine) (m : MNo) (asked : Call) (b : BookRun) → IsGranted x m asked (book_before out b) → IsGranted x m asked b
granted_here out x m asked b g = record {
  may = record { pass = g.may.pass; has_pass = g.may.has_pass; run = g.may.run; its = g.may.its; turn = g.may.turn; seen = g.may.seen };
  needs = g.needs;
  has = g.has;
}

module _ (out : List Entry) (x : PlainMachine) (m : MNo) (asked : Call) (b : BookRun) (own : List Made) (x' : PlainMachine) (b' : BookRun) (own' : List Made) where
  accepted : Accepted x m asked b own x' b' own' → Accepted x m asked (book_before out b) (own_before out own) x' (book_before out b') (own_before out own')
  unfolding granted_before
  accepted a = record {
    granted = granted_before out x m asked b a.granted;
    answer = a.answer;
    step = a.step;
    entry = ap (λ (l : List Entry). out ++ l) a.entry ∙ sym (append_assoc out b.history _);
    opened = ap (book_before out) a.opened;
    made = ap (λ (l : List Made). map made_of out ++ l) a.made ∙ sym (append_assoc (map made_of out) own _);
    machine = a.machine;
  }

  answers : Answers x m asked b own x' b' own' → Answers x m asked (book_before out b) (own_before out own) x' (book_before out b') (own_before out own')
  answers (inl a) = inl (accepted a)
  answers (inr (inl a)) = inr (inl (record { over = a.over; same = ap (book_before out) a.same; none = ap (own_before out) a.none; machine = a.machine }))
  answers (inr (inr (inl a))) = inr (inr (inl (record {
    granted = granted_before out x m asked b a.granted;
    lasts = a.lasts;
    makes = a.makes;
    same = ap (book_before out) a.same;
    none = ap (own_before out) a.none;
    machine = a.machine;
  })))
  answers (inr (inr (inr a))) = inr (inr (inr (record {
    lasts = a.lasts;
    unmet = λ g. a.unmet (granted_here out x m asked b g);
    same = ap (book_before out) a.same;
    none = ap (own_before out) a.none;
    machine = a.machine;
  })))

module _ (out : List Entry) (k : System) (m : MNo) (choice : Choice) (k' : System) where
  abbrev joins : System → System
  joins = with_before out

  makes_call : (asked : Call) → MakesCall k m asked k' → MakesCall (joins k) m asked (joins k')
  makes_call asked (x', b', own', a, is) = (x', book_before out b', own_before out own', answers out (machine_at k m) m asked k.book k.own x' b' own' a, ap joins is)

  does_act : (a : Act) → DoesAct a k m choice k' → DoesAct a (joins k) m choice (joins k')
  does_act (act.Call asked) d = makes_call asked d
  does_act act.Pop d = ap joins d
  does_act act.Drain d = ap joins d
  does_act act.Push d = ap joins d
  does_act act.Hunt d = ap joins d
  does_act (act.Steal v) d = ap joins d
  does_act act.Resume d = ap joins d
  does_act act.Block d = ap joins d
  does_act (act.Clock deadline) d = ap joins d
  does_act (act.Surrender which) d = ap joins d
  does_act act.Nothing d = ap joins d

  pub acts_before : Acts k m choice k' → Acts (joins k) m choice (joins k')
  acts_before a = record {
    few = a.few;
    by_place = λ inside. does_act (next_act (machine_at k m)) (a.by_place inside);
    else_none = λ past. ap joins (a.else_none past);
  }

-- Hand-outs

-- the calls that are left are those of the entries that are left
pub own_left : (out : List Entry) (k : System) → IsSound (with_before out k) → map made_of k.book.history ≡ k.own
own_left out k s = append_cancel_left (map made_of out) _ _ (sym (map-append made_of out k.book.history) ∙ s.own)

-- what was handed out before and what is handed out now stand before what is left
pub hands_out : (out : List Entry) (k : System) → IsSound (with_before out k) → with_before (out ++ k.book.history) (emptied k) ≡ with_before out k
hands_out out k s = λ i. record k { book = record k.book { history = append-nil (out ++ k.book.history) i }; own = made i } where
  made : map made_of (out ++ k.book.history) ++ [] ≡ map made_of out ++ k.own
  made = append-nil (map made_of (out ++ k.book.history)) ∙ map-append made_of out k.book.history ∙ ap (λ (l : List Made). map made_of out ++ l) (own_left out k s)

-- the acts alone lead to the same, with all entries
acts_alone : (moves : List Move) (k : System) (before out : List Entry) (k' : System) → IsSound (with_before before k) → MovesAll k moves out k'
    → ActsAll (with_before before k) (acts_of moves) (with_before (before ++ out) k')
acts_alone [] k before out k' s is =
    ap (with_before (before ++ out)) is.1 ∙ ap (λ (l : List Entry). with_before l k) (ap (λ (l : List Entry). before ++ l) is.0 ∙ append-nil before)
acts_alone (Some move ∷ moves) k before out k' s is =
    let acts = acts_before before k move.0 move.1 is.0 is.1 in
    (with_before before is.0, acts, acts_alone moves is.0 before out k' (act_sound (with_before before k) move.0 move.1 (with_before before is.0) acts s) is.2)
acts_alone (None ∷ moves) k before out k' s is =
    let same = hands_out before k s in
    let rest = acts_alone moves (emptied k) (before ++ k.book.history) is.0 k' (subst IsSound (sym same) s) is.2 in
    let all : (before ++ k.book.history) ++ is.0 ≡ before ++ out = append_assoc before k.book.history is.0 ∙ ap (λ (l : List Entry). before ++ l) (sym is.1) in
    subst (λ (j : System). ActsAll j (acts_of moves) (with_before (before ++ out) k')) same
    (subst (λ (l : List Entry). ActsAll (with_before (before ++ k.book.history) (emptied k)) (acts_of moves) (with_before l k')) all rest)

module _ (is_fair : Bool) (run : ℕ) (limits : Limits) (bodies : ℕ) (capacities : List ℕ) (moves : List Move) (out : List Entry) (k : System) (are : AreLimits limits bodies capacities)
    (all : MovesAll (opening_system is_fair run limits bodies capacities) moves out k) where
  pub alone : ActsAll (opening_system is_fair run limits bodies capacities) (acts_of moves) (with_before out k)
  alone = acts_alone moves (opening_system is_fair run limits bodies capacities) [] out k (opening_sound is_fair run limits bodies capacities are) all

  pub joined_headline : Headline run limits bodies capacities (with_before out k)
  joined_headline = headline_after is_fair run limits bodies capacities (acts_of moves) (with_before out k) are alone

  pub none_asleep : NoWorkIsAsleep k
  none_asleep = awake_after is_fair run limits bodies capacities (acts_of moves) (with_before out k) are alone

-- of a history of which none was handed out the headline holds by itself
pub whole_headline : (k : System) → HeadlineOf k → IsWhole k → Headline k.book.run k.book.limits k.book.bodies k.book.capacities k
whole_headline k head whole =
    subst (λ (out : List Entry). Headline k.book.run k.book.limits k.book.bodies k.book.capacities (with_before out k)) (head.whole whole) head.headline
