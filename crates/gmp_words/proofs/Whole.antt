-- A run by the program's settings is kept whole.
use Rattle.std.proofs.Common.{◌≡◌, true, refl, sym, subst}
use Rattle.std.proofs.lemmas.Bool.{eq-eqb}
use Rattle.gmp_seq.specs.declared.call.Limits.{Limits}
use Rattle.gmp_trace.specs.Pieces.{is_whole}
use Rattle.gmp_words.specs.declared.options.Settings.{Settings}
use Rattle.gmp_words.specs.Runs.{limits_of}

pub kept_whole : (limits : Limits) (s : Settings) → limits ≡ limits_of s → is_whole limits ≡ true
kept_whole limits s are = subst (λ (l : Limits). is_whole l ≡ true) (sym are) (eq-eqb s.entries s.entries refl)
