-- Turns one after another.
use Rattle.std.proofs.Common.{◌≡◌, ℕ, List, [], ◌∷◌, ◌++◌, Option, None, Some, length, map, refl, ap, subst, ◌∙◌}
use Rattle.std.proofs.lemmas.List.{append-nil}
use Rattle.gmp_seq.specs.declared.call.Entry.{Entry}
use Rattle.gmp_seq.specs.declared.call.Limits.{Limits}
use Rattle.gmp_seq.specs.Run.{IsStep}
use Rattle.gmp_seq.specs.State.{State, opening}
use Rattle.gmp_said.specs.Said.{Blocks, IsSaid, LeadsSpeakers, Resumes, RunsTurns, Speaker, entries_of, unheard}

entries_join : (t u : List (Option Entry)) → entries_of (t ++ u) ≡ entries_of t ++ entries_of u
entries_join [] u = refl
entries_join (Some e ∷ t) u = ap (λ (l : List Entry). e ∷ l) (entries_join t u)
entries_join (None ∷ t) u = entries_join t u

module _ {T : Type 0} (resumes : Resumes T) (blocks : Blocks T) (limits : Limits) where
  abbrev Runs : State → List (Speaker T) → List (Option Entry) → State → List (Speaker T) → Type 0
  Runs = RunsTurns resumes blocks limits

  turns_join : (a b c : State) (x y z : List (Speaker T)) (t u : List (Option Entry)) → Runs a x t b y → Runs b y u c z → Runs a x (t ++ u) c z
  turns_join a b c x y z [] u same after = subst (λ (s : State). Runs s x u c z) same.0 (subst (λ (q : List (Speaker T)). Runs b q u c z) same.1 after)
  turns_join a b c x y z (Some e ∷ t) u (mid, between, step, leads, rest) after = (mid, between, step, leads, turns_join mid b c between y z t u rest after)
  turns_join a b c x y z (None ∷ t) u (between, passes, rest) after = (between, passes, turns_join a b c between y z t u rest after)

  module _ (capacities : List ℕ) (given : List T) (h : List Entry) (s : State) (speakers now : List (Speaker T)) (said : IsSaid resumes blocks limits capacities given h s speakers) where
    abbrev start : State
    start = opening limits (length given) capacities

    -- one entry more
    pub says_more : (e : Entry) (s' : State) → IsStep limits e s s' → LeadsSpeakers resumes blocks e.m e.call e.reply s.table speakers now → IsSaid resumes blocks limits capacities given (h ++ e ∷ []) s' now
    says_more e s' step leads = (
      said.0 ++ Some e ∷ [],
      entries_join said.0 (Some e ∷ []) ∙ ap (λ (l : List Entry). l ++ e ∷ []) said.1,
      turns_join start s s' (map unheard given) speakers now said.0 (Some e ∷ []) said.2 (s', now, step, leads, (refl, refl)),
    )

    -- turns that made no entry
    pub says_on : (turns : List (Option Entry)) → entries_of turns ≡ [] → Runs s speakers turns s now → IsSaid resumes blocks limits capacities given h s now
    says_on turns none runs = (
      said.0 ++ turns,
      entries_join said.0 turns ∙ ap (λ (l : List Entry). entries_of said.0 ++ l) none ∙ append-nil (entries_of said.0) ∙ said.1,
      turns_join start s s (map unheard given) speakers now said.0 turns said.2 runs,
    )
