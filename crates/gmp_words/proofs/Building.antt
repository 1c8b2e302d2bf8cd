-- The shape of a command to which options are added in turn.
use Rattle.std.proofs.Common.{◌≡◌, ◌∙◌, ◌+◌, ◌<◌, ℕ, false, List, [], ◌∷◌, ◌++◌, map, take, get_or, length, ap, ap₂, sym, append_assoc, Result, Ok, Err, IfOk, IsOkAnd}
use Rattle.std.proofs.lemmas.List.{map_more}
use Rattle.clap.specs.Words.{AddsArg, AddsSubcommand, App, Rule, Shape, app_of, rule_of, shape_of, with_subcommand}
use Rattle.clap.specs.declared.builder.arg.Arg.{Arg}
use Rattle.clap.specs.declared.builder.command.Command.{Command}
use Rattle.clap.specs.declared.builder.command.Command.TheViews.{out-Command}
use Rattle.gmp_words.specs.Program.{with_more}

-- one more option
pub one_more : (old new : Command) (a : Arg) → AddsArg old a new → a.global ≡ false → shape_of new ≡ with_more (shape_of old) (rule_of a ∷ [])
one_more old new a adds local = ap (λ (p : App). p.top) (adds.shape local)

-- the same behind others
pub one_further : (old new : Command) (a : Arg) (s : Shape) (rs : List Rule) (r : Rule) → AddsArg old a new → a.global ≡ false
    → shape_of old ≡ with_more s rs → rule_of a ≡ r → shape_of new ≡ with_more s (rs ++ r ∷ [])
one_further old new a s rs r adds local so_far is =
    one_more old new a adds local ∙ ap₂ (λ (t : Shape) q. with_more t (q ∷ [])) so_far is
    ∙ ap (λ all. record s { rules = all }) (append_assoc s.rules rs (r ∷ []))

pub still_local : (old new : Command) (a : Arg) → AddsArg old a new → a.global ≡ false → (out-Command old).has_globals ≡ false
    → (out-Command new).has_globals ≡ false
still_local old new a adds local none = rw (none, local) at adds.globals

-- options in turn are options at once
pub one_after : {X : Type 0} (f : X → Rule) (s now new : Shape) (r : Rule) (xs : List X) (i : ℕ) (x : X) → i < length xs
    → r ≡ f (get_or xs i x) → now ≡ with_more s (map f (take i xs)) → new ≡ with_more now (r ∷ []) → new ≡ with_more s (map f (take (i + 1) xs))
one_after f s now new r xs i x lt at so_far next =
    next ∙ ap (with_more now) (ap (λ q. q ∷ []) at) ∙ ap (λ (t : Shape). with_more t (f (get_or xs i x) ∷ [])) so_far
    ∙ ap (λ rs. record s { rules = rs }) (append_assoc s.rules (map f (take i xs)) (f (get_or xs i x) ∷ []))
    ∙ ap (with_more s) (sym (map_more f xs i x lt))

-- one more command
pub one_command : (old sub new : Command) (a : App) (s : Shape) → AddsSubcommand old sub new → (out-Command sub).has_globals ≡ false
    → app_of old ≡ a → shape_of sub ≡ s → app_of new ≡ with_subcommand a s
one_command old sub new a s adds local so_far is = adds.shape local ∙ ap₂ with_subcommand so_far is

-- the same of one that may not have been made
pub one_made : {E : Type 0} (old : Command) (made : Result Command E) (new : Command) (a : App) (s : Shape)
    → IsOkAnd made (λ sub. AddsSubcommand old sub new) → IfOk made (λ sub. (out-Command sub).has_globals ≡ false)
    → app_of old ≡ a → IfOk made (λ sub. shape_of sub ≡ s) → app_of new ≡ with_subcommand a s
one_made old (Ok sub) new a s adds local so_far is = one_command old sub new a s adds local so_far is
one_made old (Err e) new a s adds local so_far is = absurd adds
