-- What a run came to, of whose history each piece was handed out, the last one too.
use Rattle.std.specs.Prelude.{is_none}
use Rattle.std.proofs.Common.{Bool, ◌≡◌, ◌≢◌, ◌<◌, ◌^◌, ℕ, List, [], ◌∷◌, ◌++◌, Option, None, Some, Result, Ok, IfOk, length, ap, refl, sym, subst, ◌∙◌, arith}
use Rattle.gmp_seq.proofs.Counts.{legal_total}
use Rattle.gmp_seq.proofs.InOrder.{legal_in_order}
use Rattle.gmp_seq.specs.declared.call.Entry.{Entry}
use Rattle.gmp_seq.specs.declared.call.Limits.{Limits}
use Rattle.gmp_seq.specs.declared.call.Outcome.{Outcome}
use Rattle.gmp_seq.specs.Run.{IsLegal}
use Rattle.gmp_run.proofs.Desks.{joined_with_left, some_full, takes_one_more}
use Rattle.gmp_run.specs.Counts.{all_calls}
use Rattle.gmp_said.specs.Said.{AreSaid, Blocks, Resumes}
use Rattle.gmp_run.specs.declared.ending.Report.{Report}
use Rattle.gmp_run.specs.Desks.{IsLeftSo, TakesAll, joined, with_left}
use Rattle.gmp_run.specs.Reports.{IsPiecesReport, IsRunReport, SaysPieces}
use Rattle.gmp_host.specs.declared.ending.Ended.{Ended}
use Rattle.gmp_host.specs.declared.traced.Traced.{Traced}
use Rattle.gmp_host.specs.Traced.{IsTraced}
use Rattle.gmp_host.proofs.Again.{run_again, traced_of}
use Rattle.gmp_host.specs.Ends.{IsOfLegalRun, IsOfPieces, IsSaidInPieces, IsSaidToStop, StopsPieces, TakesLeft, TellsNobody, TellsOf}

module _ {T S : Type 0} (takes refuses : S → List Entry → S → Type 0) (limits : Limits) (capacities : List ℕ) (bodies : ℕ) (began : S) (r : Report T) (mid : S)
    (p : IsPiecesReport takes refuses limits capacities bodies began r mid) where
  -- there are no more calls than a run has entries
  pub few_calls : all_calls r.logs.items < 2 ^ 64
  few_calls =
      let all = joined p.pieces ++ r.history.list in
      let most = (legal_in_order limits bodies capacities all p.report.last p.report.within p.report.legal).together.entries in
      let total = legal_total limits bodies capacities all p.report.last p.report.legal in
      let calls = p.report.calls in
      let few = p.report.within.entries.1 in
      omega (arith, most, total, calls, few)

  -- of a run that has an outcome the sink is as the pieces left it
  taken_whole : (outcome : Outcome) → r.outcome ≡ Some outcome → TakesAll takes began p.pieces mid
  taken_whole outcome is =
      let same : mid ≡ p.behind = subst (λ (o : Option Outcome). IsLeftSo refuses (is_none o) p.behind r.history.list mid) is p.left_so in
      subst (TakesAll takes began p.pieces) (sym same) p.taken

  -- with what was left behind them
  with_last : (sink : S) (ended : Ended) → TakesLeft takes mid r.history.list sink → Some ended.outcome ≡ r.outcome → ended.entries ≡ all_calls r.logs.items → TellsNobody ended
      → (q : IsOfPieces takes limits capacities bodies began ended sink) × (q.pieces ≡ with_left p.pieces r.history.list)
  with_last sink ended took outcome entries nobody =
      let all = joined_with_left p.pieces r.history.list in (
        record {
          pieces = with_left p.pieces r.history.list;
          taken = takes_rest p.pieces r.history.list (taken_whole ended.outcome (sym outcome)) took;
          sized = record { full = p.pieces; left = r.history.list; are = refl; sized = p.sized; few = p.few };
          last = p.report.last;
          legal = subst (λ (h : List Entry). IsLegal limits bodies capacities h p.report.last) (sym all) p.report.legal;
          outcome = p.report.outcome ∙ sym outcome;
          entries = ap (λ (h : List Entry). length h) all ∙ (p.report.calls ∙ sym entries);
          within = p.report.within;
          nobody = nobody;
        },
        refl,
      ) where
        takes_rest : (pieces : List (List Entry)) (left : List Entry) → TakesAll takes began pieces mid → TakesLeft takes mid left sink → TakesAll takes began (with_left pieces left) sink
        takes_rest pieces [] taken none = subst (TakesAll takes began pieces) (sym none) taken
        takes_rest pieces (e ∷ left) taken took = takes_one_more takes began mid sink pieces (e ∷ left) taken took

  pub in_pieces : (sink : S) (ended : Ended) → TakesLeft takes mid r.history.list sink → Some ended.outcome ≡ r.outcome → ended.entries ≡ all_calls r.logs.items → TellsNobody ended
      → IsOfPieces takes limits capacities bodies began ended sink
  in_pieces sink ended took outcome entries nobody = (with_last sink ended took outcome entries nobody).0

  -- what was said along them, and in what was left
  pub said_along : (resumes : Resumes T) (blocks : Blocks T) (given : List T) (sink : S) (ended : Ended) → TakesLeft takes mid r.history.list sink → Some ended.outcome ≡ r.outcome → ended.entries ≡ all_calls r.logs.items → TellsNobody ended
      → AreSaid resumes blocks limits capacities given (joined p.pieces ++ r.history.list) r.bodies.items
      → (q : IsOfPieces takes limits capacities bodies began ended sink) × (back : List T) × AreSaid resumes blocks limits capacities given (joined q.pieces) back
  said_along resumes blocks given sink ended took outcome entries nobody said =
      let last = with_last sink ended took outcome entries nobody in
      (last.0, r.bodies.items, subst (λ (h : List Entry). AreSaid resumes blocks limits capacities given h r.bodies.items) (sym (ap joined last.1 ∙ joined_with_left p.pieces r.history.list)) said)

  -- the sink refused what is left
  stopped : (behind sink : S) → TakesAll takes began p.pieces behind → refuses behind r.history.list sink → r.history.list ≢ []
      → (q : StopsPieces takes refuses limits capacities bodies began sink) × (joined q.pieces ++ q.left ≡ joined p.pieces ++ r.history.list)
  stopped behind sink taken refused some = (
    record {
      pieces = p.pieces;
      left = r.history.list;
      behind = behind;
      taken = taken;
      refused = refused;
      sized = p.sized;
      some = some;
      few = p.few;
      last = p.report.last;
      legal = p.report.legal;
      full = λ none. p.left_full (sym p.report.outcome ∙ none);
      within = p.report.within;
    },
    refl,
  )

  pub stopped_on_the_way : r.outcome ≡ None → (q : StopsPieces takes refuses limits capacities bodies began mid) × (joined q.pieces ++ q.left ≡ joined p.pieces ++ r.history.list)
  stopped_on_the_way none = stopped p.behind mid p.taken (subst (λ (o : Option Outcome). IsLeftSo refuses (is_none o) p.behind r.history.list mid) none p.left_so) (some_full p.report.within (p.left_full none))

  pub stopped_at_last : (sink : S) (outcome : Outcome) → r.outcome ≡ Some outcome → refuses mid r.history.list sink → r.history.list ≢ []
      → (q : StopsPieces takes refuses limits capacities bodies began sink) × (joined q.pieces ++ q.left ≡ joined p.pieces ++ r.history.list)
  stopped_at_last sink outcome is refused some = stopped mid sink (taken_whole outcome is) refused some

-- one that its sink stopped, on the way or at the last piece
pub said_to_stop : {T S : Type 0} {resumes : Resumes T} {blocks : Blocks T} (takes refuses : S → List Entry → S → Type 0) (limits limits' : Limits) (capacities capacities' : List ℕ) (given : List T) (began : S) (r : Report T) (mid sink : S) (run : ℕ) (is_fair : Bool)
    → limits ≡ limits' → capacities ≡ capacities' → (says : SaysPieces run is_fair resumes blocks takes refuses limits capacities given began r mid)
    → ((q : StopsPieces takes refuses limits capacities (length given) began sink) × (joined q.pieces ++ q.left ≡ joined says.0.0.pieces ++ r.history.list)) → IsSaidToStop resumes blocks takes refuses limits' capacities' given began sink
said_to_stop {resumes = resumes} {blocks = blocks} takes refuses limits limits' capacities capacities' given began r mid sink run is_fair same_limits same_capacities says q =
    subst (λ (l : Limits). IsSaidToStop resumes blocks takes refuses l capacities' given began sink) same_limits
    (subst (λ (cs : List ℕ). IsSaidToStop resumes blocks takes refuses limits cs given began sink) same_capacities
    (q.0, r.bodies.items, subst (λ (h : List Entry). AreSaid resumes blocks limits capacities given h r.bodies.items) (sym q.1) says.1))

-- what is so of the value that came
pub of_ok : {A E : Type 0} (P : A → Type 0) (ran : Result A E) (r : A) → ran ≡ Ok r → IfOk ran P → P r
of_ok P ran r is so = subst (λ (x : Result _ _). IfOk x P) is so

-- a run whose history was kept whole
pub whole_run : {T : Type 0} (limits : Limits) (capacities : List ℕ) (bodies : ℕ) (r : Report T) (ended : Ended) → IsRunReport limits capacities bodies [] r → r.outcome ≡ Some ended.outcome → length r.history.list ≡ ended.entries
    → TellsOf limits bodies capacities r.history.list ended.outcome ended.waiting.items ended.lately.items → (run : IsOfLegalRun limits capacities bodies ended) × (run.history ≡ r.history.list)
whole_run limits capacities bodies r ended p outcome entries tells = (record { history = r.history.list; last = p.last; legal = p.legal; outcome = p.outcome ∙ outcome; entries = entries; within = p.within; tells = tells }, refl)

-- what was said, under the same limits and capacities
pub said_same : {T : Type 0} {resumes : Resumes T} {blocks : Blocks T} (limits limits' : Limits) (capacities capacities' : List ℕ) (given : List T) (h : List Entry) (back : List T) → limits ≡ limits' → capacities ≡ capacities'
    → AreSaid resumes blocks limits capacities given h back → AreSaid resumes blocks limits' capacities' given h back
said_same {resumes = resumes} {blocks = blocks} limits limits' capacities capacities' given h back limits_are capacities_are said =
    subst (λ (l : Limits). AreSaid resumes blocks l capacities' given h back) limits_are (subst (λ (cs : List ℕ). AreSaid resumes blocks limits cs given h back) capacities_are said)

-- one whose history went out in pieces
pub said_pieces : {T S : Type 0} {resumes : Resumes T} {blocks : Blocks T} (takes refuses : S → List Entry → S → Type 0) (limits limits' : Limits) (capacities capacities' : List ℕ) (given : List T) (began : S) (r : Report T) (mid sink : S) (ended : Ended) (run : ℕ) (is_fair : Bool)
    → limits ≡ limits' → capacities ≡ capacities' → SaysPieces run is_fair resumes blocks takes refuses limits capacities given began r mid → TakesLeft takes mid r.history.list sink → Some ended.outcome ≡ r.outcome → ended.entries ≡ all_calls r.logs.items → TellsNobody ended
    → IsSaidInPieces resumes blocks takes limits' capacities' given began ended sink
said_pieces {resumes = resumes} {blocks = blocks} takes refuses limits limits' capacities capacities' given began r mid sink ended run is_fair same_limits same_capacities says took outcome entries nobody =
    subst (λ (l : Limits). IsSaidInPieces resumes blocks takes l capacities' given began ended sink) same_limits
    (subst (λ (cs : List ℕ). IsSaidInPieces resumes blocks takes limits cs given began ended sink) same_capacities
    (said_along takes refuses limits capacities (length given) began r mid says.0.0 resumes blocks given sink ended took outcome entries nobody says.1))

-- and its trace, under the same limits and capacities
pub traced_whole : {T : Type 0} (limits limits' : Limits) (capacities capacities' : List ℕ) (bodies : ℕ) (r : Report T) (t : Traced) → limits ≡ limits' → capacities ≡ capacities' → IsRunReport limits capacities bodies [] r
    → r.outcome ≡ Some t.ended.outcome → length r.history.list ≡ t.ended.entries → TellsOf limits bodies capacities r.history.list t.ended.outcome t.ended.waiting.items t.ended.lately.items
    → t.history.list ≡ r.history.list → t.limits ≡ limits' → t.capacities.items ≡ capacities' → t.bodies ≡ bodies → IsTraced limits' capacities' bodies t
traced_whole limits limits' capacities capacities' bodies r t limits_are capacities_are p outcome entries tells history of_limits of_capacities of_bodies =
    by (whole_run limits capacities bodies r t.ended p outcome entries tells) where
      by : ((run : IsOfLegalRun limits capacities bodies t.ended) × (run.history ≡ r.history.list)) → IsTraced limits' capacities' bodies t
      by (run, is) = again (run_again limits limits' capacities capacities' limits_are capacities_are t.ended t.ended refl refl refl refl bodies run) where
        again : ((other : IsOfLegalRun limits' capacities' bodies t.ended) × (other.history ≡ run.history)) → IsTraced limits' capacities' bodies t
        again (other, same) = traced_of limits' capacities' bodies t other (history ∙ sym is ∙ sym same) of_limits of_capacities of_bodies
