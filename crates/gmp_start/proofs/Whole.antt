-- The whole test, from its parts.
use Rattle.std.proofs.Common.{◌≡◌, ℕ, ◌<◌, ◌≤◌, false, ◌&&◌, sum, refl, sym, arith}
use Rattle.std.proofs.lemmas.Bool.{lt-ltb, ltb-true, false_from_ne_true}
use Rattle.std.proofs.lemmas.List.Folds.{list_all-map}
use Rattle.std.specs.List.{list_all}
use Rattle.gmp_seq.specs.declared.call.Limits.{Limits}
use Rattle.gmp_start.specs.declared.start.Start.{Start}
use Rattle.gmp_start.specs.declared.start.StartChannel.{StartChannel}
use Rattle.gmp_start.specs.Start.{channel_of, machines_of, state_of, table_of}
use Rattle.gmp_start.specs.Fit.{channel_fits, fits, machines_fit, table_fits}

pub fits_is : (limits : Limits) (s : Start) (made : ℕ) → made ≡ sum s.counts.items → made < limits.entries
    → fits limits (state_of s) ≡ (list_all (λ (c : StartChannel). channel_fits (channel_of c)) s.channels.items && table_fits made (machines_of s) (table_of s) && machines_fit (machines_of s) (table_of s))
fits_is limits s made is few =
    rw (lt-ltb (sum s.counts.items) limits.entries (omega (arith, is, few)), list_all-map channel_fits channel_of s.channels.items, sym is) refl

pub fits_not : (limits : Limits) (s : Start) → limits.entries ≤ sum s.counts.items → fits limits (state_of s) ≡ false
fits_not limits s full =
    rw (false_from_ne_true _ (λ e. let less = ltb-true (sum s.counts.items) limits.entries e in omega (arith, less, full))) refl
