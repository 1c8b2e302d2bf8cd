use Rattle.std.proofs.Common.{◌≡◌, ◌∙◌, List, None, Option, Some, rules, subst, sym, tests}
use Rattle.clap.specs.Words.{Row, found_of, rows_of, subcommand_rows_of}
use Rattle.gmp_words.specs.declared.options.CommandLine.{CommandLine as Line}
use Rattle.gmp_words.specs.Words.{AreGiven, AreSaid, AreWanted, lanes_by, options_of}
use Rattle.gmp_words.proofs.words.line_of.Goals as goal

no_some : {A : Type 0} {o : Option A} {a : A} → o ≡ None → o ≡ Some a → ⊥
no_some none some = let never : None ≡ Some _ = sym none ∙ some in cc

pub returns-in_err-wanted-clause-err : goal.returns-in_err-wanted-clause-err
returns-in_err-wanted-clause-err c =
    let none : (w : _) → AreWanted (rows_of (found_of c.in-Some.options.now)) w → ⊥ = search (rules, tests) in
    let rows : options_of (subcommand_rows_of c.args.matches.now) ≡ rows_of (found_of c.in-Some.options.now) = search (rules, tests) in
    let refused : (line : Line) → AreSaid (subcommand_rows_of c.args.matches.now) line → ⊥ =
    λ line said. none line.settings.wanted (subst (λ (r : List Row). AreWanted r line.settings.wanted) rows said.options.wanted) in
    search (rules, tests)

pub returns-in_err-by-clause-err : goal.returns-in_err-by-clause-err
returns-in_err-by-clause-err c =
    let none : lanes_by (rows_of (found_of c.in-Some.options.now)) ≡ None = search (rules, tests) in
    let rows : options_of (subcommand_rows_of c.args.matches.now) ≡ rows_of (found_of c.in-Some.options.now) = search (rules, tests) in
    let refused : (line : Line) → AreSaid (subcommand_rows_of c.args.matches.now) line → ⊥ =
    λ line said. no_some none (subst (λ (r : List Row). lanes_by r ≡ Some line.settings.by) rows said.options.by) in
    search (rules, tests)

pub returns-in_err-settings-clause-err : goal.returns-in_err-settings-clause-err
returns-in_err-settings-clause-err c =
    let none : (s : _) → AreGiven (rows_of (found_of c.in-Some.options.now)) s → ⊥ = search (rules, tests) in
    let rows : options_of (subcommand_rows_of c.args.matches.now) ≡ rows_of (found_of c.in-Some.options.now) = search (rules, tests) in
    let refused : (line : Line) → AreSaid (subcommand_rows_of c.args.matches.now) line → ⊥ =
    λ line said. none line.settings (subst (λ (r : List Row). AreGiven r line.settings) rows said.options) in
    search (rules, tests)

pub returns-clause-ok : goal.returns-clause-ok
returns-clause-ok c =
    let rows : options_of (subcommand_rows_of c.args.matches.now) ≡ rows_of (found_of c.in-Some.options.now) = search (rules, tests) in
    let given : AreGiven (rows_of (found_of c.in-Some.options.now)) c.in_ok-settings.settings = search (rules, tests) in
    record {
      task = search (rules, tests);
      options = subst (λ (r : List Row). AreGiven r c.in_ok-settings.settings) (sym rows) given;
      folder = search (rules, tests);
      file = search (rules, tests);
    }
