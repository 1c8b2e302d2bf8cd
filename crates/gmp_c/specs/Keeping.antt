-- What a handle holds, once what it lent is given back.
use Rattle.std.specs.Prelude.{ℕ, List}
use Rattle.gmp_stand.specs.Parting.{Parting}
use Rattle.gmp_stand.specs.Standing.{Standing}
use Rattle.gmp_c.specs.declared.checker.Checker.{Checker}
use Rattle.gmp_c.specs.declared.handle.Handle.{Handle}
use Rattle.gmp_c.specs.declared.parts.Parts.{Parts}

-- the handle whose box holds w
abbrev pub with_value : Handle → Standing → Handle
with_value h w = record { at = h.at; alloc = h.alloc; value = w }

-- the checker that was fed this text
abbrev pub with_text : Checker → List ℕ → Checker
with_text c text = record { at = c.at; alloc = c.alloc; value = text }

-- the parts of which this was written
abbrev pub with_parting : Parts → Parting → Parts
with_parting p w = record { at = p.at; alloc = p.alloc; value = w }
