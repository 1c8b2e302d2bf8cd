-- What a desk keeps it keeps by each turn, and where its history is handed out.
use Rattle.std.specs.Prelude.{◌||◌, is_none, is_some}
use Rattle.std.proofs.Common.{◌≡◌, ◌⊎◌, inl, inr, ℕ, zero, suc, ◌+◌, ◌<◌, ◌≤◌, Bool, true, false, Option, None, Some, IsSome, All, List, [], ◌∷◌, ◌++◌, length, slice_get, slice_index, slice_set, sum, refl, sym, ap, subst, ◌∙◌, arith}
use Rattle.std.proofs.lemmas.Bool.{eqb-true, false≢true, not-false}
use Rattle.std.proofs.lemmas.Bool.Decides.{nat_tests}
use Rattle.std.proofs.lemmas.List.Elements.{All-nil, All-push}
use Rattle.std.proofs.lemmas.List.{append_assoc, append-nil, length-append}
use Rattle.std.proofs.lemmas.List.Sums.{sum_by-cons}
use Rattle.gmp_base.specs.declared.pass.Pass.{Pass}
use Rattle.gmp_history.specs.Brief.{HistoryContents}
use Rattle.gmp_seq.specs.declared.call.Call.{Call}
use Rattle.gmp_seq.specs.declared.call.Entry.{Entry}
use Rattle.gmp_seq.specs.declared.call.Limits.{Limits}
use Rattle.gmp_seq.specs.declared.call.Outcome.{Outcome}
use Rattle.gmp_seq.specs.declared.call.Reply.{Reply}
use Rattle.gmp_seq.specs.Fits.{AreLimits, Fits}
use Rattle.gmp_seq.specs.Run.{IsLegal, Run}
use Rattle.gmp_seq.specs.State.{State, opening}
use Rattle.gmp_seq.proofs.Counts.{legal_total, none_yet}
use Rattle.gmp_seq.proofs.Runs.{run_join}
use Rattle.gmp_journal.specs.Log.{Log, Records, calls_of, entries_made, is_over, opening_log}
use Rattle.gmp_journal.specs.Segments.{handed_out}
use Rattle.gmp_journal.specs.Refusals.{need_lines, refusal_of, room_lines, turn_lines}
use Rattle.gmp_journal.specs.declared.handed.Handed.{Handed}
use Rattle.gmp_journal.proofs.Lines.{none_holds}
use Rattle.gmp_run.specs.Desks.{IsDesk, IsFull, IsLeftSo, TakesAll, joined, with_left}

-- entries that stand in one of two places
pub none_of_length : (xs : List Entry) → length xs ≡ 0 → xs ≡ []
none_of_length [] is = refl
none_of_length (x ∷ xs) is = absurd (omega (arith, is))

pub all_in_first : (xs ys : List Entry) → (length xs ≡ 0 → ⊥) → (xs ≡ []) ⊎ (ys ≡ []) → xs ≡ xs ++ ys
all_in_first xs ys some (inl none) = absurd (some (ap (λ (l : List Entry). length l) none))
all_in_first xs ys some (inr none) = sym (ap (λ (l : List Entry). xs ++ l) none ∙ append-nil xs)

-- one that isn't over has no outcome, and wasn't stopped
pub not_over : (log : Log) → is_over log ≡ false → (log.state.outcome ≡ None) × (log.stopped ≡ false)
not_over log e = by log.state.outcome e where
  by : (o : Option Outcome) → (is_some o || log.stopped) ≡ false → (o ≡ None) × (log.stopped ≡ false)
  by None e = (refl, e)
  by (Some how) e = absurd (false≢true (sym e))

-- one that is over was stopped where it has no outcome
stopped_so : (o : Option Outcome) (stopped : Bool) → (is_some o || stopped) ≡ true → (stopped ≡ true → o ≡ None) → stopped ≡ is_none o
stopped_so None stopped over none = over
stopped_so (Some how) false over none = refl
stopped_so (Some how) true over none = absurd (let none : Some how ≡ None = none refl in cc)

-- one piece more
pub takes_one_more : {S : Type 0} (takes : S → List Entry → S → Type 0) (a b c : S) (pieces : List (List Entry)) (piece : List Entry) → TakesAll takes a pieces b → takes b piece c
    → TakesAll takes a (pieces ++ piece ∷ []) c
takes_one_more takes a b c [] piece is one = (c, subst (λ (s : _). takes s piece c) is one, refl)
takes_one_more takes a b c (p ∷ ps) piece (mid, first, rest) one = (mid, first, takes_one_more takes mid b c ps piece rest one)

pub joined_one_more : (pieces : List (List Entry)) (piece : List Entry) → joined (pieces ++ piece ∷ []) ≡ joined pieces ++ piece
joined_one_more [] piece = append-nil piece
joined_one_more (p ∷ ps) piece = ap (λ (h : List Entry). p ++ h) (joined_one_more ps piece) ∙ sym (append_assoc p (joined ps) piece)

-- a place whose count grows is there
place_counted : (counts : List ℕ) (m k : ℕ) → sum (slice_set counts m k) ≡ sum counts + 1 → slice_get counts m ≡ Some (slice_index counts m)
place_counted [] m k more = absurd (omega (arith, more))
place_counted (x ∷ xs) zero k more = refl
place_counted (x ∷ xs) (suc m) k more =
    let old = sum_by-cons (λ (n : ℕ). n) x xs in
    let new = sum_by-cons (λ (n : ℕ). n) x (slice_set xs m k) in
    place_counted xs m k (omega (arith, old, new, more))

-- with what was left, if there was anything
pub joined_with_left : (pieces : List (List Entry)) (left : List Entry) → joined (with_left pieces left) ≡ joined pieces ++ left
joined_with_left pieces [] = sym (append-nil (joined pieces))
joined_with_left pieces (e ∷ left) = joined_one_more pieces (e ∷ left)

-- one that is full has entries
pub some_full : {limits : Limits} {bodies : ℕ} {capacities : List ℕ} {h : List Entry} → AreLimits limits bodies capacities → IsFull limits h → h ≡ [] → ⊥
some_full within full none = let room = within.room.0 in let empty = ap (λ (k : List Entry). length k) none in omega (arith, empty, full, room)

-- an entry more has room
more_room : (old now : Log) (before after : Pass) (call : Call) (reply : Reply) (values : Handed) → refusal_of old before call values ≡ None → Records old before call reply now after
    → length now.history ≤ old.limits.room
more_room old now before after call reply values none made =
    let lines = none_holds (turn_lines old before values ++ need_lines old.state before.m call values ++ room_lines old) none in
    let test = lines.1.1.1.1.1.1.1.1.0 in
    let less : length old.history < old.limits.room = grind (arith, nat_tests, test) in
    let long = ap (λ (h : List Entry). length h) made.entry ∙ length-append old.history _ in
    omega (arith, less, long)

-- the entry's number is how many its machine made before
numbered : (old now : Log) (before after : Pass) (call : Call) (reply : Reply) (values : Handed) → refusal_of old before call values ≡ None → Records old before call reply now after
    → slice_get old.state.counts before.m.0 ≡ Some before.calls
numbered old now before after call reply values none made =
    let lines = none_holds (turn_lines old before values ++ need_lines old.state before.m call values ++ room_lines old) none in
    let turn : before.calls ≡ calls_of old before.m = eqb-true before.calls (calls_of old before.m) (not-false _ lines.1.0) in
    let counts = made.step.2 in
    place_counted old.state.counts before.m.0 _ (sym (ap (λ (l : List ℕ). sum l) counts) ∙ made.made) ∙ ap (λ (k : ℕ). Some k) (sym turn)

module _ {S : Type 0} (run : ℕ) (first : S → Type 0) (takes refuses : S → List Entry → S → Type 0) (Made Made' : List Entry → Type 0) (old now : Log) (total total' : ℕ) (sink : S) (spare : HistoryContents)
    (desk : IsDesk run first takes refuses Made old total sink spare) where
  -- no entry was made
  pub unchanged : now ≡ old → ((h : List Entry) → Made h → Made' h) → entries_made now ≡ total' → IsDesk run first takes refuses Made' now total' sink spare
  unchanged same stays counted = record {
    run_is = ap (λ (l : Log). l.run) same ∙ desk.run_is;
    counted = counted;
    began = desk.began;
    is_first = desk.is_first;
    pieces = desk.pieces;
    behind = desk.behind;
    taken = desk.taken;
    left_so = subst (λ (l : Log). IsLeftSo refuses l.stopped desk.behind spare.list sink) (sym same) desk.left_so;
    sized = subst (λ (l : Log). All (IsFull l.limits) desk.pieces) (sym same) desk.sized;
    left_full = subst (λ (l : Log). l.stopped ≡ true → IsFull l.limits spare.list) (sym same) desk.left_full;
    few = subst (λ (l : Log). length (spare.list ++ l.history) ≤ l.limits.room) (sym same) desk.few;
    legal = subst (λ (l : Log). IsLegal l.limits l.bodies l.capacities (joined desk.pieces ++ (spare.list ++ l.history)) l.state) (sym same) desk.legal;
    made = subst (λ (l : Log). Made' (joined desk.pieces ++ (spare.list ++ l.history))) (sym same) (stays _ desk.made);
    whole = subst (λ (l : Log). l.limits.room ≡ l.limits.entries → desk.pieces ≡ []) (sym same) desk.whole;
    lasts = subst (λ (l : Log). l.limits.room ≡ l.limits.entries → l.stopped ≡ false) (sym same) desk.lasts;
    no_outcome = subst (λ (l : Log). l.stopped ≡ true → l.state.outcome ≡ None) (sym same) desk.no_outcome;
    none_left = subst (λ (l : Log). l.stopped ≡ true → l.history ≡ []) (sym same) desk.none_left;
    empty = subst (λ (l : Log). l.stopped ≡ false → spare.list ≡ []) (sym same) desk.empty;
    room = subst (λ (l : Log). l.stopped ≡ false → l.limits.room ≤ spare.room) (sym same) desk.room;
    lasting = subst (λ (l : Log). l.stopped ≡ false → l.limits.room ≤ spare.lasting) (sym same) desk.lasting;
    fits = desk.fits;
  }

  -- an entry more was made
  pub recorded : (before after : Pass) (call : Call) (reply : Reply) (values : Handed) → refusal_of old before call values ≡ None → Records old before call reply now after
      → ((h : List Entry) → Made h → Made' (h ++ record { m = before.m; k = before.calls; call = call; reply = reply } ∷ [])) → entries_made now ≡ total'
      → IsDesk run first takes refuses Made' now total' sink spare
  recorded before after call reply values none made grows counted =
      let number = numbered old now before after call reply values none made in
      let room = more_room old now before after call reply values none made in
      let e : Entry = record { m = before.m; k = before.calls; call = call; reply = reply } in
      let same : now ≡ record old { history = now.history; state = now.state; shelf = now.shelf } = made.opened in
      let limits : now.limits ≡ old.limits = ap (λ (l : Log). l.limits) same in
      let bodies : now.bodies ≡ old.bodies = ap (λ (l : Log). l.bodies) same in
      let capacities : now.capacities ≡ old.capacities = ap (λ (l : Log). l.capacities) same in
      let one : Run old.limits old.state (e ∷ []) now.state = (now.state, (number, made.step), refl) in
      let start : State = opening old.limits old.bodies old.capacities in
      let empty : spare.list ≡ [] = desk.empty made.lasts in
      let on : now.stopped ≡ false = ap (λ (l : Log). l.stopped) same ∙ made.lasts in
      let before : Run old.limits start (joined desk.pieces ++ old.history) old.state = subst (λ (h : List Entry). Run old.limits start (joined desk.pieces ++ (h ++ old.history)) old.state) empty desk.legal in
      let all : Run old.limits start ((joined desk.pieces ++ old.history) ++ e ∷ []) now.state = run_join old.limits start old.state now.state (joined desk.pieces ++ old.history) (e ∷ []) before one in
      let history : (joined desk.pieces ++ old.history) ++ e ∷ [] ≡ joined desk.pieces ++ now.history =
      append_assoc (joined desk.pieces) old.history (e ∷ []) ∙ ap (λ (h : List Entry). joined desk.pieces ++ h) (sym made.entry) in
      let plain : Run old.limits start (joined desk.pieces ++ now.history) now.state = subst (λ (h : List Entry). Run old.limits start h now.state) history all in
      let legal : Run old.limits start (joined desk.pieces ++ (spare.list ++ now.history)) now.state = subst (λ (h : List Entry). Run old.limits start (joined desk.pieces ++ (h ++ now.history)) now.state) (sym empty) plain in
      let made_before : Made (joined desk.pieces ++ old.history) = subst (λ (h : List Entry). Made (joined desk.pieces ++ (h ++ old.history))) empty desk.made in
      let made_plain : Made' (joined desk.pieces ++ now.history) = subst Made' history (grows _ made_before) in
      let legal_by_capacities : IsLegal old.limits old.bodies now.capacities (joined desk.pieces ++ (spare.list ++ now.history)) now.state =
      subst (λ (cs : List ℕ). IsLegal old.limits old.bodies cs (joined desk.pieces ++ (spare.list ++ now.history)) now.state) (sym capacities) legal in
      let legal_by_bodies : IsLegal old.limits now.bodies now.capacities (joined desk.pieces ++ (spare.list ++ now.history)) now.state =
      subst (λ (n : ℕ). IsLegal old.limits n now.capacities (joined desk.pieces ++ (spare.list ++ now.history)) now.state) (sym bodies) legal_by_capacities in
      record {
        run_is = ap (λ (l : Log). l.run) same ∙ desk.run_is;
        counted = counted;
        began = desk.began;
        is_first = desk.is_first;
        pieces = desk.pieces;
        behind = desk.behind;
        taken = desk.taken;
        left_so = subst (λ (b : Bool). IsLeftSo refuses b desk.behind spare.list sink) (made.lasts ∙ sym on) desk.left_so;
        sized = subst (λ (l : Limits). All (IsFull l) desk.pieces) (sym limits) desk.sized;
        left_full = λ stopped. absurd (false≢true (sym on ∙ stopped));
        few =
            subst (λ (l : Limits). length (spare.list ++ now.history) ≤ l.room) (sym limits)
            (subst (λ (h : List Entry). length (h ++ now.history) ≤ old.limits.room) (sym empty) room);
        legal = subst (λ (l : Limits). IsLegal l now.bodies now.capacities (joined desk.pieces ++ (spare.list ++ now.history)) now.state) (sym limits) legal_by_bodies;
        made = subst (λ (h : List Entry). Made' (joined desk.pieces ++ (h ++ now.history))) (sym empty) made_plain;
        whole = subst (λ (l : Limits). l.room ≡ l.entries → desk.pieces ≡ []) (sym limits) desk.whole;
        lasts = λ e. on;
        no_outcome = λ stopped. absurd (false≢true (sym on ∙ stopped));
        none_left = λ stopped. absurd (false≢true (sym on ∙ stopped));
        empty = λ e. empty;
        room = λ e. subst (λ (l : Limits). l.room ≤ spare.room) (sym limits) (desk.room made.lasts);
        lasting = λ e. subst (λ (l : Limits). l.room ≤ spare.lasting) (sym limits) (desk.lasting made.lasts);
        fits = desk.fits;
      }

-- the history was handed out while the run goes on, and the sink took it
module _ {S : Type 0} (run : ℕ) (first : S → Type 0) (takes refuses : S → List Entry → S → Type 0) (Made : List Entry → Type 0) (old : Log) (total : ℕ) (sink : S) (spare : HistoryContents)
    (desk : IsDesk run first takes refuses Made old total sink spare) where
  -- the history is no longer than the entries made
  made_at_least : length old.history ≤ entries_made old
  made_at_least =
      let total = legal_total old.limits old.bodies old.capacities (joined desk.pieces ++ (spare.list ++ old.history)) old.state desk.legal in
      let both = length-append (joined desk.pieces) (spare.list ++ old.history) in
      let rest = length-append spare.list old.history in
      omega (arith, total, both, rest)

  -- while it wasn't stopped nothing is left in the spare
  legal_on : old.stopped ≡ false → IsLegal old.limits old.bodies old.capacities (joined desk.pieces ++ old.history) old.state
  legal_on on = subst (λ (h : List Entry). IsLegal old.limits old.bodies old.capacities (joined desk.pieces ++ (h ++ old.history)) old.state) (desk.empty on) desk.legal

  made_on : old.stopped ≡ false → Made (joined desk.pieces ++ old.history)
  made_on on = subst (λ (h : List Entry). Made (joined desk.pieces ++ (h ++ old.history))) (desk.empty on) desk.made

  -- the sink is as the pieces left it
  taken_on : old.stopped ≡ false → TakesAll takes desk.began desk.pieces sink
  taken_on on =
      let same : sink ≡ desk.behind = subst (λ (b : Bool). IsLeftSo refuses b desk.behind spare.list sink) on desk.left_so in
      subst (TakesAll takes desk.began desk.pieces) (sym same) desk.taken

  pub taken_by : (Made' : List Entry → Type 0) → ((h : List Entry) → Made h → Made' h) → (now : Log) (sink' : S) (spare' : HistoryContents) → now ≡ handed_out old → takes sink old.history sink'
      → IsFull old.limits old.history → entries_made old < old.limits.entries → old.stopped ≡ false → spare'.list ≡ [] → old.limits.room ≤ spare'.room → old.limits.room ≤ spare'.lasting
      → IsDesk run first takes refuses Made' now total sink' spare'
  taken_by Made' stays now sink' spare' same took full goes on empty room lasting = subst (λ (l : Log). IsDesk run first takes refuses Made' l total sink' spare') (sym same) (record {
    run_is = desk.run_is;
    counted = desk.counted;
    began = desk.began;
    is_first = desk.is_first;
    pieces = desk.pieces ++ old.history ∷ [];
    behind = sink';
    taken = takes_one_more takes desk.began sink sink' desk.pieces old.history (taken_on on) took;
    left_so = subst (λ (b : Bool). IsLeftSo refuses b sink' spare'.list sink') (sym on) refl;
    sized = All-push (IsFull old.limits) desk.pieces old.history desk.sized full;
    left_full = λ stopped. absurd (false≢true (sym on ∙ stopped));
    few = subst (λ (h : List Entry). length (h ++ []) ≤ old.limits.room) (sym empty) (omega arith);
    legal =
        subst (λ (h : List Entry). IsLegal old.limits old.bodies old.capacities (joined (desk.pieces ++ old.history ∷ []) ++ (h ++ [])) old.state) (sym empty)
        (subst (λ (h : List Entry). IsLegal old.limits old.bodies old.capacities h old.state) (sym (append-nil _ ∙ joined_one_more desk.pieces old.history)) (legal_on on));
    made =
        subst (λ (h : List Entry). Made' (joined (desk.pieces ++ old.history ∷ []) ++ (h ++ []))) (sym empty)
        (subst Made' (sym (append-nil _ ∙ joined_one_more desk.pieces old.history)) (stays _ (made_on on)));
    whole = λ e. absurd (let made = made_at_least in omega (arith, e, goes, made, full));
    lasts = λ e. on;
    no_outcome = λ stopped. absurd (false≢true (sym on ∙ stopped));
    none_left = λ stopped. refl;
    empty = λ e. empty;
    room = λ e. room;
    lasting = λ e. lasting;
    fits = subst (All Fits) (sym empty) (All-nil Fits);
  })

  -- the sink refused it, and the run was stopped
  pub stopped_by : (Made' : List Entry → Type 0) → ((h : List Entry) → Made h → Made' h) → (now : Log) (sink' : S) (spare' : HistoryContents) → now ≡ record (handed_out old) { stopped = true } → refuses sink old.history sink'
      → IsFull old.limits old.history → entries_made old < old.limits.entries → is_over old ≡ false → spare'.list ≡ old.history → All Fits old.history
      → IsDesk run first takes refuses Made' now total sink' spare'
  stopped_by Made' stays now sink' spare' same refused full goes lasts left fit = subst (λ (l : Log). IsDesk run first takes refuses Made' l total sink' spare') (sym same) (record {
    run_is = desk.run_is;
    counted = desk.counted;
    began = desk.began;
    is_first = desk.is_first;
    pieces = desk.pieces;
    behind = sink;
    taken = taken_on (not_over old lasts).1;
    left_so = subst (λ (h : List Entry). refuses sink h sink') (sym left) refused;
    sized = desk.sized;
    left_full = λ stopped. ap (λ (h : List Entry). length h) left ∙ full;
    few = (let long = ap (λ (h : List Entry). length h) (append-nil _ ∙ left) in omega (arith, long, full));
    legal =
        subst (λ (h : List Entry). IsLegal old.limits old.bodies old.capacities (joined desk.pieces ++ h) old.state) (sym (append-nil _ ∙ left)) (legal_on (not_over old lasts).1);
    made = subst (λ (h : List Entry). Made' (joined desk.pieces ++ h)) (sym (append-nil _ ∙ left)) (stays _ (made_on (not_over old lasts).1));
    whole = λ e. absurd (let made = made_at_least in omega (arith, e, goes, made, full));
    lasts = λ e. absurd (let made = made_at_least in omega (arith, e, goes, made, full));
    no_outcome = λ stopped. (not_over old lasts).0;
    none_left = λ stopped. refl;
    empty = λ e. absurd (false≢true (sym e));
    room = λ e. absurd (false≢true (sym e));
    lasting = λ e. absurd (false≢true (sym e));
    fits = subst (All Fits) (sym left) fit;
  })

  -- the entries that were not taken stand in one place
  pub in_one_place : (spare.list ≡ []) ⊎ (old.history ≡ [])
  in_one_place = by old.stopped refl where
    by : (b : Bool) → old.stopped ≡ b → (spare.list ≡ []) ⊎ (old.history ≡ [])
    by true is = inr (desk.none_left is)
    by false is = inl (desk.empty is)

  -- of a run that is over these are the entries that were not taken
  pub left_at_end : is_over old ≡ true → (left : List Entry) → left ≡ spare.list ++ old.history → IsLeftSo refuses (is_none old.state.outcome) desk.behind left sink
  left_at_end over left are =
      subst (λ (b : Bool). IsLeftSo refuses b desk.behind left sink) (stopped_so old.state.outcome old.stopped over desk.no_outcome) (by old.stopped desk.none_left desk.left_so) where
        by : (b : Bool) → (b ≡ true → old.history ≡ []) → IsLeftSo refuses b desk.behind spare.list sink → IsLeftSo refuses b desk.behind left sink
        by false none same = same
        by true none refused = subst (λ (h : List Entry). refuses desk.behind h sink) (sym (are ∙ ap (λ (h : List Entry). spare.list ++ h) (none refl) ∙ append-nil spare.list)) refused

  -- of one that was stopped they are full
  pub full_at_end : is_over old ≡ true → old.state.outcome ≡ None → (left : List Entry) → left ≡ spare.list ++ old.history → IsFull old.limits left
  full_at_end over none left are =
      let stopped : old.stopped ≡ true = stopped_so old.state.outcome old.stopped over desk.no_outcome ∙ ap (λ (o : Option Outcome). is_none o) none in
      ap (λ (h : List Entry). length h) (are ∙ ap (λ (h : List Entry). spare.list ++ h) (desk.none_left stopped) ∙ append-nil spare.list) ∙ desk.left_full stopped

  -- a run that is over, and was kept whole, has an outcome
  pub ended : is_over old ≡ true → old.limits.room ≡ old.limits.entries → IsSome old.state.outcome
  ended over whole = by old.state.outcome refl where
    by : (o : Option Outcome) → old.state.outcome ≡ o → IsSome old.state.outcome
    by (Some how) is = subst IsSome (sym is) refl
    by None is = absurd (false≢true (sym (rw (is, desk.lasts whole) refl) ∙ over))

-- no call was made
pub opened : {S : Type 0} (run : ℕ) (first : S → Type 0) (takes refuses : S → List Entry → S → Type 0) (Made : List Entry → Type 0) (limits : Limits) (bodies : ℕ) (capacities : List ℕ) (sink : S) → first sink → Made []
    → IsDesk run first takes refuses Made (opening_log run limits bodies capacities) 0 sink (record { list = []; room = limits.room; lasting = limits.room })
opened run first takes refuses Made limits bodies capacities sink is_first none = record {
  run_is = refl;
  counted = none_yet limits.machines;
  began = sink;
  is_first = is_first;
  pieces = [];
  behind = sink;
  taken = refl;
  left_so = refl;
  sized = All-nil (IsFull limits);
  left_full = λ stopped. absurd (false≢true stopped);
  few = omega arith;
  legal = refl;
  made = none;
  whole = λ e. refl;
  lasts = λ e. refl;
  no_outcome = λ stopped. refl;
  none_left = λ stopped. refl;
  empty = λ e. refl;
  room = λ e. omega arith;
  lasting = λ e. omega arith;
  fits = All-nil Fits;
}
