use Rattle.std.proofs.Common.{◌≡◌, ◌⊎◌, ◌∙◌, List, [], ◌∷◌, ap, inl, inr, map, rules, string_bytes, subst, sym, tests}
use Rattle.clap.specs.Words.{App, HasKind, IsAmong, Kinds, Text, app_of, fault_of, is_simple, is_simple_and_free, kind_of, subcommand_of, subcommand_rows_of}
use Rattle.clap.specs.declared.error.Error.{Error}
use Rattle.clap.specs.declared.error.kind.ErrorKind.TheVariants as kind
use Rattle.gmp_words.specs.declared.options.CommandLine.{CommandLine as Line}
use Rattle.gmp_words.specs.declared.said.Said.TheVariants as said
use Rattle.gmp_words.specs.Program.{gmp}
use Rattle.gmp_words.specs.Words.{AreSaid, IsHelp}
use Rattle.gmp_words.proofs.Simple.{gmp_is_free, gmp_is_simple}
use Rattle.gmp_words.proofs.words.command_line.Goals as goal

has_of : (app : App) (words : List Text) (e : Error) → app ≡ gmp → HasKind (fault_of app words) e → HasKind (fault_of gmp words) e
has_of app words e is has = subst (λ (a : App). HasKind (fault_of a words) e) is has

-- where nothing is wrong memory is
memory_alone : (kinds : Kinds) (e : Error) → HasKind kinds e → kinds ≡ [] → kind_of e ≡ kind.OutOfMemory
memory_alone kinds e has none = by (subst (λ (k : Kinds). HasKind k e) none has) where
  by : HasKind [] e → kind_of e ≡ kind.OutOfMemory
  by (inl memory) = memory
  by (inr one) = absurd one

-- an error of help is of one that may come
help_among : (kinds : Kinds) (e : Error) → HasKind kinds e → IsHelp (kind_of e) → IsAmong kind.DisplayHelp kinds ⊎ IsAmong kind.DisplayVersion kinds
help_among kinds e (inl memory) (inl help) = absurd (let never : kind.OutOfMemory ≡ kind.DisplayHelp = sym memory ∙ help in cc)
help_among kinds e (inl memory) (inr version) = absurd (let never : kind.OutOfMemory ≡ kind.DisplayVersion = sym memory ∙ version in cc)
help_among kinds e (inr among) (inl help) = inl (subst (λ k. IsAmong k kinds) help among)
help_among kinds e (inr among) (inr version) = inr (subst (λ k. IsAmong k kinds) version among)

-- where help alone may come, it comes, or memory is refused
help_alone : (kinds : Kinds) (e : Error) → HasKind kinds e → (kinds ≡ kind.DisplayHelp ∷ []) ⊎ (kinds ≡ kind.DisplayVersion ∷ []) → IsHelp (kind_of e) ⊎ (kind_of e ≡ kind.OutOfMemory)
help_alone kinds e (inl memory) which = inr memory
help_alone kinds e (inr among) (inl help) = by (subst (IsAmong (kind_of e)) help among) where
  by : IsAmong (kind_of e) (kind.DisplayHelp ∷ []) → IsHelp (kind_of e) ⊎ (kind_of e ≡ kind.OutOfMemory)
  by (inl is) = inl (inl is)
  by (inr never) = absurd never
help_alone kinds e (inr among) (inr version) = by (subst (IsAmong (kind_of e)) version among) where
  by : IsAmong (kind_of e) (kind.DisplayVersion ∷ []) → IsHelp (kind_of e) ⊎ (kind_of e ≡ kind.OutOfMemory)
  by (inl is) = inl (inr is)
  by (inr never) = absurd never

no_help : (kinds : Kinds) → kinds ≡ [] → (kinds ≡ kind.DisplayHelp ∷ []) ⊎ (kinds ≡ kind.DisplayVersion ∷ []) → ⊥
no_help kinds none (inl help) = let never : [] ≡ kind.DisplayHelp ∷ [] = sym none ∙ help in cc
no_help kinds none (inr version) = let never : [] ≡ kind.DisplayVersion ∷ [] = sym none ∙ version in cc

pub returns-in-Ok-line_of-clause-ok : goal.returns-in-Ok-line_of-clause-ok
returns-in-Ok-line_of-clause-ok c =
    let app = c.in_ok-command.ensures in
    let found = c.in-Ok.ensures.ok.2 (ap is_simple app ∙ gmp_is_simple) in
    subst (λ entered. AreSaid entered c.in-Ok-line_of.line)
    (found.1 ∙ ap (λ (a : App). subcommand_of a (map string_bytes c.args.words.now)) app) c.in-Ok-line_of.ensures.ok

pub returns-in-Ok-line_of-clause-taken : goal.returns-in-Ok-line_of-clause-taken
returns-in-Ok-line_of-clause-taken c =
    let app = c.in_ok-command.ensures in
    sym (ap (λ (a : App). fault_of a (map string_bytes c.args.words.now)) app) ∙ c.in-Ok.ensures.kinds (ap is_simple_and_free app ∙ gmp_is_free)

pub returns-in-Err-clause-refused : goal.returns-in-Err-clause-refused
returns-in-Err-clause-refused c = λ none some line said.
    let app = c.in_ok-command.ensures in
    let has = has_of (app_of c.in_ok-command.command) (map string_bytes c.args.words.now) c.in-Err.error app (c.in-Err.ensures.kinds (ap is_simple_and_free app ∙ gmp_is_free)) in
    some (c.refused.ensures.memory (memory_alone (fault_of gmp (map string_bytes c.args.words.now)) c.in-Err.error has none))

pub returns-in-Err-clause-help : goal.returns-in-Err-clause-help
returns-in-Err-clause-help c = λ zero.
    let app = c.in_ok-command.ensures in
    let has = has_of (app_of c.in_ok-command.command) (map string_bytes c.args.words.now) c.in-Err.error app (c.in-Err.ensures.kinds (ap is_simple_and_free app ∙ gmp_is_free)) in
    help_among (fault_of gmp (map string_bytes c.args.words.now)) c.in-Err.error has (c.refused.ensures.asked zero)

pub returns-in-Err-clause-shown : goal.returns-in-Err-clause-shown
returns-in-Err-clause-shown c = λ asked.
    let app = c.in_ok-command.ensures in
    let has = has_of (app_of c.in_ok-command.command) (map string_bytes c.args.words.now) c.in-Err.error app (c.in-Err.ensures.kinds (ap is_simple_and_free app ∙ gmp_is_free)) in
    by (help_alone (fault_of gmp (map string_bytes c.args.words.now)) c.in-Err.error has asked) where
      by : IsHelp (kind_of c.in-Err.error) ⊎ (kind_of c.in-Err.error ≡ kind.OutOfMemory) → (c.refused.result.status ≡ 0) ⊎ (c.refused.result.said ≡ said.OutOfMemory)
      by (inl help) = c.refused.ensures.help help
      by (inr memory) = inr (c.refused.ensures.memory memory)

pub returns-clause-refused : goal.returns-clause-refused
returns-clause-refused c = λ none some line said.
    let app = c.in_ok-command.ensures in
    let found = c.in-Ok.ensures.ok.2 (ap is_simple app ∙ gmp_is_simple) in
    let nothing : (l : Line) → AreSaid (subcommand_rows_of c.in-Ok.matches) l → ⊥ = search (rules, tests) in
    nothing line (subst (λ entered. AreSaid entered line) (sym (found.1 ∙ ap (λ (a : App). subcommand_of a (map string_bytes c.args.words.now)) app)) said)

pub returns-clause-shown : goal.returns-clause-shown
returns-clause-shown c = λ asked.
    let app = c.in_ok-command.ensures in
    absurd (no_help (fault_of gmp (map string_bytes c.args.words.now)) (sym (ap (λ (a : App). fault_of a (map string_bytes c.args.words.now)) app) ∙ c.in-Ok.ensures.kinds (ap is_simple_and_free app ∙ gmp_is_free)) asked)
