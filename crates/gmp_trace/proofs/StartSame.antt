-- The lines of two states that have no outcome are the same only where the states are.
use Rattle.std.proofs.Common.{◌≡◌, ℕ, ◌+◌, List, [], ◌∷◌, ◌++◌, refl, ap₂}
use Rattle.gmp_seq.specs.declared.status.Goroutine.{Goroutine}
use Rattle.gmp_seq.specs.Channels.{Channel}
use Rattle.gmp_seq.specs.State.{State}
use Rattle.gmp_trace.specs.StartForms.{chan_lines, row_lines, state_lines}

same_rows : (g : ℕ) (xs ys : List Goroutine) → row_lines g xs ≡ row_lines g ys → xs ≡ ys
same_rows g [] [] is = refl
same_rows g [] (y ∷ ys) is = absurd cc
same_rows g (x ∷ xs) [] is = absurd cc
same_rows g (x ∷ xs) (y ∷ ys) is =
    let first : x ≡ y = cc in
    let others : row_lines (g + 1) xs ≡ row_lines (g + 1) ys = cc in
    ap₂ (λ (a : Goroutine) (b : List Goroutine). a ∷ b) first (same_rows (g + 1) xs ys others)

same_parts : (c : ℕ) (xs ys : List Channel) (gs hs : List Goroutine) → chan_lines c xs ++ row_lines 0 gs ≡ chan_lines c ys ++ row_lines 0 hs → (xs ≡ ys) × (gs ≡ hs)
same_parts c [] [] gs hs is = (refl, same_rows 0 gs hs is)
same_parts c [] (y ∷ ys) [] hs is = absurd cc
same_parts c [] (y ∷ ys) (g ∷ gs) hs is = absurd cc
same_parts c (x ∷ xs) [] gs [] is = absurd cc
same_parts c (x ∷ xs) [] gs (h ∷ hs) is = absurd cc
same_parts c (x ∷ xs) (y ∷ ys) gs hs is =
    let first : x ≡ y = cc in
    let others : chan_lines (c + 1) xs ++ row_lines 0 gs ≡ chan_lines (c + 1) ys ++ row_lines 0 hs = cc in
    let rest = same_parts (c + 1) xs ys gs hs others in
    (ap₂ (λ (a : Channel) (b : List Channel). a ∷ b) first rest.0, rest.1)

pub same_state : (made said : ℕ) (s t : State) → s.outcome ≡ t.outcome → state_lines made s ≡ state_lines said t → (made ≡ said) × (s ≡ t)
same_state made said s t lasts is =
    let number : made ≡ said = cc in
    let clock : s.table.clock ≡ t.table.clock = cc in
    let arrivals : s.table.arrivals ≡ t.table.arrivals = cc in
    let active : s.machines.active ≡ t.machines.active = cc in
    let counts : s.counts ≡ t.counts = cc in
    let holders : s.machines.holders ≡ t.machines.holders = cc in
    let modes : s.machines.modes ≡ t.machines.modes = cc in
    let spinning : s.machines.spinning ≡ t.machines.spinning = cc in
    let marked : s.machines.marked ≡ t.machines.marked = cc in
    let others : chan_lines 0 s.channels ++ row_lines 0 s.table.goroutines ≡ chan_lines 0 t.channels ++ row_lines 0 t.table.goroutines = cc in
    let rest = same_parts 0 s.channels t.channels s.table.goroutines t.table.goroutines others in
    let channels = rest.0 in
    let goroutines = rest.1 in
    let table : s.table ≡ t.table = rw (goroutines, arrivals, clock) refl in
    let machines : s.machines ≡ t.machines = rw (holders, modes, spinning, marked, active) refl in
    let same : s ≡ t = rw (table, channels, machines, counts, lasts) refl in
    (number, same)
