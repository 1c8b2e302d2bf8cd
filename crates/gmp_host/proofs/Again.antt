-- What a run by a core, and its trace, are told of.
use Rattle.std.proofs.Common.{◌≡◌, ◌⊎◌, inl, inr, ℕ, Bool, List, Result, Ok, Err, IfOk, IfErr, Some, length, ap, refl, sym, subst, ◌∙◌}
use Rattle.gmp_base.specs.declared.ask.Ask.{Ask}
use Rattle.gmp_base.specs.declared.ask.Woke.{Woke}
use Rattle.gmp_base.specs.declared.number.GNo.{GNo}
use Rattle.gmp_seq.specs.declared.call.Entry.{Entry}
use Rattle.gmp_seq.specs.declared.call.Limits.{Limits}
use Rattle.gmp_seq.specs.declared.call.Outcome.{Outcome}
use Rattle.gmp_seq.specs.Fits.{AreLimits}
use Rattle.gmp_seq.specs.Run.{IsLegal}
use Rattle.gmp_acts.specs.System.{BookRun}
use Rattle.gmp_chance.specs.declared.dealer.Next.{Next}
use Rattle.gmp_said.specs.Said.{AreSaid, Blocks, Resumes}
use Rattle.gmp_waits.specs.declared.ending.Waiting.{Waiting}
use Rattle.gmp_host.specs.declared.ending.Ended.{Ended}
use Rattle.gmp_host.specs.declared.ending.Short.{Short}
use Rattle.gmp_host.specs.declared.ending.Short.TheVariants as short
use Rattle.gmp_host.specs.declared.traced.Traced.{Traced}
use Rattle.gmp_host.specs.Ends.{IsOfLegalRun, IsSaidRun, TellsOf}
use Rattle.gmp_host.specs.Played.{HasNoDrawnEnd, IsDrawnOut, IsPlayedOut}
use Rattle.gmp_host.specs.Traced.{IsSaidTrace, IsTraced}

-- Results

pub ok_map : {A E : Type 0} (P Q : A → Type 0) (r : Result A E) → IfOk r P → ((x : A) → P x → Q x) → IfOk r Q
ok_map P Q (Ok x) p so = so x p
ok_map P Q (Err e) p so = tt

pub err_of : {A E : Type 0} (P : E → Type 0) (x : E) (r : Result A E) → IfErr r (λ (e : E). e ≡ x) → P x → IfErr r P
err_of P x (Ok a) same p = tt
err_of P x (Err e) same p = subst P (sym same) p

-- what is told of a run that was made is no bad limit
pub no_bad_limits : (e : Short) → (e ≡ short.NoEnd) ⊎ (e ≡ short.OutOfMemory) → e ≡ short.BadLimits → ⊥
no_bad_limits e (inl endless) bad = let no : short.NoEnd ≡ short.BadLimits = sym endless ∙ bad in absurd cc
no_bad_limits e (inr memory) bad = let no : short.OutOfMemory ≡ short.BadLimits = sym memory ∙ bad in absurd cc

-- The run of a book

module _ (limits : Limits) (capacities : List ℕ) (bodies : ℕ) (book : BookRun) (ended : Ended) (opened : (book.limits ≡ limits) × (book.capacities ≡ capacities) × (book.bodies ≡ bodies))
    (legal : IsLegal book.limits book.bodies book.capacities book.history book.state) (within : AreLimits book.limits book.bodies book.capacities)
    (outcome : book.state.outcome ≡ Some ended.outcome) (entries : length book.history ≡ ended.entries) where
  -- it is one from this opening, and this is its history
  pub legal_told : TellsOf limits bodies capacities book.history ended.outcome ended.waiting.items ended.lately.items → (run : IsOfLegalRun limits capacities bodies ended) × (run.history ≡ book.history)
  legal_told =
      subst (λ (l : Limits). TellsOf l bodies capacities book.history ended.outcome ended.waiting.items ended.lately.items → (run : IsOfLegalRun l capacities bodies ended) × (run.history ≡ book.history)) opened.0
      (subst (λ (cs : List ℕ). TellsOf book.limits bodies cs book.history ended.outcome ended.waiting.items ended.lately.items → (run : IsOfLegalRun book.limits cs bodies ended) × (run.history ≡ book.history)) opened.1
      (subst (λ (n : ℕ). TellsOf book.limits n book.capacities book.history ended.outcome ended.waiting.items ended.lately.items → (run : IsOfLegalRun book.limits book.capacities n ended) × (run.history ≡ book.history)) opened.2
      (λ tells. (record { history = book.history; last = book.state; legal = legal; outcome = outcome; entries = entries; within = within; tells = tells }, refl))))

-- the opening is in range
pub within_opening : (limits : Limits) (capacities : List ℕ) (bodies : ℕ) (book : BookRun) → (book.limits ≡ limits) × (book.capacities ≡ capacities) × (book.bodies ≡ bodies)
    → AreLimits book.limits book.bodies book.capacities → AreLimits limits bodies capacities
within_opening limits capacities bodies book opened within =
    subst (λ (l : Limits). AreLimits l bodies capacities) opened.0
    (subst (λ (cs : List ℕ). AreLimits book.limits bodies cs) opened.1
    (subst (λ (n : ℕ). AreLimits book.limits n book.capacities) opened.2 within))

-- The same told again, of limits and capacities that are these, and of an end that differs in who is lost

module _ (limits limits' : Limits) (capacities capacities' : List ℕ) (limits_are : limits ≡ limits') (capacities_are : capacities ≡ capacities') (ended ended' : Ended) (outcome : ended.outcome ≡ ended'.outcome) (entries : ended.entries ≡ ended'.entries)
    (waiting : ended.waiting.items ≡ ended'.waiting.items) (lately : ended.lately.items ≡ ended'.lately.items) where
  told_again : (bodies : ℕ) (history : List Entry) → TellsOf limits bodies capacities history ended.outcome ended.waiting.items ended.lately.items
      → TellsOf limits bodies capacities history ended'.outcome ended'.waiting.items ended'.lately.items
  told_again bodies history tells =
      subst (λ (o : Outcome). TellsOf limits bodies capacities history o ended'.waiting.items ended'.lately.items) outcome
      (subst (λ (ws : List Waiting). TellsOf limits bodies capacities history ended.outcome ws ended'.lately.items) waiting
      (subst (λ (gs : List GNo). TellsOf limits bodies capacities history ended.outcome ended.waiting.items gs) lately tells))

  pub run_again : (bodies : ℕ) (run : IsOfLegalRun limits capacities bodies ended) → (again : IsOfLegalRun limits' capacities' bodies ended') × (again.history ≡ run.history)
  run_again bodies run =
      subst (λ (l : Limits). (again : IsOfLegalRun l capacities' bodies ended') × (again.history ≡ run.history)) limits_are
      (subst (λ (cs : List ℕ). (again : IsOfLegalRun limits cs bodies ended') × (again.history ≡ run.history)) capacities_are
      (record { history = run.history; last = run.last; legal = run.legal; outcome = run.outcome ∙ ap Some outcome; entries = run.entries ∙ entries; within = run.within; tells = told_again bodies run.history run.tells }, refl))

  pub played_again : {T : Type 0} (resumed : T → Woke → Ask → T → Type 0) (called : T → ℕ → T → Type 0) (is_fair : Bool) (bodies : List T) (history : List Entry) (Keeps : Type 0)
      → ((p : IsPlayedOut resumed called is_fair limits capacities bodies ended) × (Keeps → history ≡ p.last.core.system.book.history))
      → (p : IsPlayedOut resumed called is_fair limits' capacities' bodies ended') × (Keeps → history ≡ p.last.core.system.book.history)
  played_again resumed called is_fair bodies history Keeps p =
      subst (λ (l : Limits). (p : IsPlayedOut resumed called is_fair l capacities' bodies ended') × (Keeps → history ≡ p.last.core.system.book.history)) limits_are
      (subst (λ (cs : List ℕ). (p : IsPlayedOut resumed called is_fair limits cs bodies ended') × (Keeps → history ≡ p.last.core.system.book.history)) capacities_are
      (record { last = p.0.last; played = p.0.played; ends = record { outcome = p.0.ends.outcome ∙ ap Some outcome; entries = p.0.ends.entries ∙ entries; tells = told_again (length bodies) p.0.last.core.system.book.history p.0.ends.tells } }, p.1))

  pub drawn_again : {T D : Type 0} (resumed : T → Woke → Ask → T → Type 0) (called : T → ℕ → T → Type 0) (deals : D → List Next → ℕ → ℕ → D → Type 0) (dealer : D) (is_fair : Bool) (bodies : List T) (history : List Entry) (Keeps : Type 0)
      → ((d : IsDrawnOut resumed called deals dealer is_fair limits capacities bodies ended) × (Keeps → history ≡ d.last.core.system.book.history))
      → (d : IsDrawnOut resumed called deals dealer is_fair limits' capacities' bodies ended') × (Keeps → history ≡ d.last.core.system.book.history)
  drawn_again resumed called deals dealer is_fair bodies history Keeps d =
      subst (λ (l : Limits). (d : IsDrawnOut resumed called deals dealer is_fair l capacities' bodies ended') × (Keeps → history ≡ d.last.core.system.book.history)) limits_are
      (subst (λ (cs : List ℕ). (d : IsDrawnOut resumed called deals dealer is_fair limits cs bodies ended') × (Keeps → history ≡ d.last.core.system.book.history)) capacities_are
      (record { last = d.0.last; drawn = d.0.drawn; ends = record { outcome = d.0.ends.outcome ∙ ap Some outcome; entries = d.0.ends.entries ∙ entries; tells = told_again (length bodies) d.0.last.core.system.book.history d.0.ends.tells } }, d.1))

-- and that it came to no outcome
pub drawn_end : {T D : Type 0} (limits limits' : Limits) (capacities capacities' : List ℕ) → limits ≡ limits' → capacities ≡ capacities' → (resumed : T → Woke → Ask → T → Type 0) (called : T → ℕ → T → Type 0) (deals : D → List Next → ℕ → ℕ → D → Type 0) (dealer : D) (is_fair : Bool) (bodies : List T)
    → HasNoDrawnEnd resumed called deals dealer is_fair limits capacities bodies → HasNoDrawnEnd resumed called deals dealer is_fair limits' capacities' bodies
drawn_end limits limits' capacities capacities' limits_are capacities_are resumed called deals dealer is_fair bodies end =
    subst (λ (l : Limits). HasNoDrawnEnd resumed called deals dealer is_fair l capacities' bodies) limits_are
    (subst (λ (cs : List ℕ). HasNoDrawnEnd resumed called deals dealer is_fair limits cs bodies) capacities_are end)

-- With its trace

-- it is the trace of this run
pub traced_of : (limits : Limits) (capacities : List ℕ) (bodies : ℕ) (t : Traced) (run : IsOfLegalRun limits capacities bodies t.ended) → t.history.list ≡ run.history → t.limits ≡ limits → t.capacities.items ≡ capacities → t.bodies ≡ bodies
    → IsTraced limits capacities bodies t
traced_of limits capacities bodies t run history limits_are capacities_are bodies_are = record { run = run; history = history; limits_are = limits_are; capacities_are = capacities_are; bodies_are = bodies_are }

-- what the trace says was said is what was said in the run
pub said_run : {T : Type 0} (resumes : Resumes T) (blocks : Blocks T) (limits : Limits) (capacities : List ℕ) (given : List T) (t : Traced) → IsTraced limits capacities (length given) t → IsSaidTrace resumes blocks limits capacities given t
    → IsSaidRun resumes blocks limits capacities given t.ended
said_run resumes blocks limits capacities given t traced (back, said) = (traced.run, back, subst (λ (h : List Entry). AreSaid resumes blocks limits capacities given h back) traced.history said)
