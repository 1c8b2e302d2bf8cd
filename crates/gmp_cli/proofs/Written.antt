-- What is written of a run that was played.
use Rattle.std.proofs.Common.{◌≡◌, ℕ, All, List, length, sym, ap, ◌∙◌, subst}
use Rattle.gmp_seq.specs.Fits.{AreLimits, Fits}
use Rattle.gmp_acts.specs.Headline.{Headline, SameOpening}
use Rattle.gmp_script.specs.Script.{Commands}
use Rattle.gmp_trace.specs.HasText.{HasText}
use Rattle.gmp_trace.specs.Text.{Content, end_of}
use Rattle.gmp_trace.specs.Text.Begins.{AtOpening}
use Rattle.gmp_trace.proofs.Numbered.{legal_text}
use Rattle.gmp_words.proofs.Whole.{kept_whole}
use Rattle.gmp_words.specs.declared.options.Settings.{Settings}
use Rattle.gmp_cli.specs.Plays.{IsPlayed, Stage, opening_stage}
use Rattle.gmp_words.specs.Runs.{IsTraceOf, limits_of}
use Rattle.gmp_cli.specs.Step.{IsRunOf}

module _ (s : Settings) (capacities readings : List ℕ) (bodies : List Commands) (before behind : Stage) (x : Content)
    (opened : before ≡ opening_stage s.fair (limits_of s) capacities readings bodies) (same : SameOpening before.core.system.book behind.core.system.book)
    (head : Headline behind.core.system.book.run behind.core.system.book.limits behind.core.system.book.bodies behind.core.system.book.capacities behind.core.system) (within : AreLimits behind.core.system.book.limits behind.core.system.book.bodies behind.core.system.book.capacities) (fits : All Fits behind.core.system.book.history)
    (limits_are : x.limits ≡ limits_of s) (stock : x.bodies ≡ length bodies) (begun : x.begins ≡ AtOpening capacities) (entries : x.entries ≡ behind.core.system.book.history) (ended : x.end ≡ end_of behind.core.system.book.state.outcome) where
  limits_stay : x.limits ≡ behind.core.system.book.limits
  limits_stay = limits_are ∙ sym (same.limits ∙ ap (λ (o : Stage). o.core.system.book.limits) opened)

  bodies_stay : x.bodies ≡ behind.core.system.book.bodies
  bodies_stay = stock ∙ sym (same.bodies ∙ ap (λ (o : Stage). o.core.system.book.bodies) opened)

  rooms_stay : capacities ≡ behind.core.system.book.capacities
  rooms_stay = sym (same.capacities ∙ ap (λ (o : Stage). o.core.system.book.capacities) opened)

  pub is_trace : IsTraceOf (limits_of s) capacities x
  is_trace = record {
    opened = limits_are;
    begun = begun;
    within = rw (limits_stay, bodies_stay, rooms_stay) within;
    last = behind.core.system.book.state;
    legal = rw (limits_stay, bodies_stay, rooms_stay, entries) head.legal;
    ended = ended;
  }

  pub is_run : IsPlayed s.acts s.word before behind → IsRunOf s capacities readings bodies x
  is_run played = record {
    stock = stock;
    last = behind;
    played = subst (λ (o : Stage). IsPlayed s.acts s.word o behind) opened played;
    entries = entries;
    ended = ended;
  }

  pub has_text : HasText x
  unfolding is_trace
  has_text = legal_text x capacities behind.core.system.book.state begun is_trace.within (kept_whole x.limits s limits_are) is_trace.legal (rw entries fits)
