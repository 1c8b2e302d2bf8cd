use Rattle.std.proofs.Common.{◌≡◌, ◌++◌, ℕ, List}
use Rattle.gmp_trace.specs.declared.trace.Version.{Version}
use Rattle.gmp_trace.specs.declared.trace.Version.TheVariants.{One, Two, Four}
use Rattle.gmp_trace.specs.Text.{header}
use Rattle.gmp_trace.proofs.whole.version_at.Goals as goal

none : (text : List ℕ) → ((rest : List ℕ) → text ≡ header One ++ rest → ⊥) → ((rest : List ℕ) → text ≡ header Two ++ rest → ⊥)
    → ((rest : List ℕ) → text ≡ header Four ++ rest → ⊥) → (v : Version) (rest : List ℕ) → text ≡ header v ++ rest → ⊥
none text one two four One rest is = one rest is
none text one two four Two rest is = two rest is
none text one two four Four rest is = four rest is

pub returns-in-None : goal.returns-in-None
returns-in-None c = none c.args.text.now c.in_default.ensures c.in_default-behind.ensures c.in-None.ensures
