-- A state that can be said has the forms and the sizes, and a run from it ends in one that can be said.
use Rattle.std.proofs.Common.{◌≡◌, ◌≤◌, ◌<◌, ◌^◌, ℕ, zero, suc, ◌+◌, None, Some, List, [], ◌∷◌, ◌++◌, length, sum, refl, sym, subst, arith}
use Rattle.std.proofs.lemmas.List.Elements.{All-cons, All-nil}
use Rattle.std.specs.List.{slice_get, All}
use Rattle.gmp_seq.proofs.InOrder.{legal_in_order, step_together}
use Rattle.gmp_seq.proofs.Manned.{status_of}
use Rattle.gmp_seq.proofs.Sizes.{legal_sizes}
use Rattle.gmp_seq.specs.declared.call.Entry.{Entry}
use Rattle.gmp_seq.specs.declared.call.Limits.{Limits}
use Rattle.gmp_seq.specs.declared.status.Goroutine.{Goroutine}
use Rattle.gmp_seq.specs.declared.status.Status.{Status}
use Rattle.gmp_seq.specs.declared.status.Status.TheVariants as status
use Rattle.gmp_seq.specs.Channels.{Channel}
use Rattle.gmp_seq.specs.Fits.{AreLimits, FitsCall}
use Rattle.gmp_seq.specs.Laws.{FitsTogether, HasSizes}
use Rattle.gmp_seq.specs.Run.{Run, IsLegal}
use Rattle.gmp_seq.specs.State.{State}
use Rattle.gmp_start.proofs.Active.{active_run, sizes_run}
use Rattle.gmp_start.proofs.Keeping.{legal_forms, run_forms}
use Rattle.gmp_start.specs.Forms.{HasForms, IsFormed, IsFormedChannel}
use Rattle.gmp_trace.specs.StartForms.{AreLines, FitsStatus, HasLines, Passed, StartLine, chan_lines, row_lines}
use Rattle.gmp_trace.specs.StartWhole.{IsStart}
use Rattle.gmp_trace.proofs.StartSaid.{said}

module _ (limits : Limits) (bodies : ℕ) where
  -- the lines of channels, and where the next ones stand
  chans_back : (c : ℕ) (xs : List Channel) (rest : List StartLine) (p : Passed) → p.channels ≡ c → c ≤ limits.channels → AreLines limits bodies p (chan_lines c xs ++ rest)
      → All IsFormedChannel xs × (c + length xs ≤ limits.channels) × ((q : Passed) × (q.channels ≡ c + length xs) × AreLines limits bodies q rest)
  chans_back c [] rest p many few are = (All-nil IsFormedChannel, omega (arith, few), (p, omega (arith, many), are))
  chans_back c (x ∷ xs) rest p many few (plain, may, are) =
      let later = chans_back (c + 1) xs rest _ (omega (arith, many)) (let less = may.2 in omega arith) are in
      (All-cons IsFormedChannel x xs (record { capacity = may.3; items = may.5 }) later.0, omega (arith, later.1), (later.2.0, omega (arith, later.2.1), later.2.2))

  formed : (channels : ℕ) (s : Status) → FitsStatus limits.machines channels s → IsFormed channels s
  formed channels (status.Ready place answer) h = h
  formed channels (status.Waiting w) h = h.1
  formed channels status.Dormant h = tt
  formed channels status.Dead h = tt
  formed channels (status.Running m) h = tt
  formed channels (status.Calling m) h = tt

  rows_back : (channels g : ℕ) (xs : List Goroutine) (p : Passed) → p.channels ≡ channels → AreLines limits bodies p (row_lines g xs)
      → (i : ℕ) (does : Status) → status_of (slice_get xs i) ≡ Some does → IsFormed channels does
  rows_back channels g [] p many are i does at = absurd cc
  rows_back channels g (x ∷ xs) p many (plain, may, are) zero does at =
      let same : x.status ≡ does = cc in
      subst (IsFormed channels) same (formed channels x.status (subst (λ (n : ℕ). FitsStatus limits.machines n x.status) many may.4))
  rows_back channels g (x ∷ xs) p many (plain, may, are) (suc i) does at = rows_back channels (g + 1) xs _ many are i does at

  pub forms_back : (made : ℕ) (s : State) → HasLines limits bodies made s → HasForms limits s
  forms_back made s has =
      let heads = has.lines in
      let parts = chans_back 0 s.channels (row_lines 0 s.table.goroutines) _ refl (omega arith) heads.2.2.2.2.2.2 in
      record {
        rows = λ g does at. rows_back (length s.channels) 0 s.table.goroutines parts.2.0 (omega (arith, parts.2.1)) parts.2.2 g.0 does at;
        few_channels = omega (arith, parts.1);
        channels = parts.0;
        clock = heads.1.2;
      }

  pub sizes_back : (made : ℕ) (s : State) → HasLines limits bodies made s → HasSizes limits bodies s
  sizes_back made s has =
      let lines = has.lines in
      record { goroutines = has.stock; holders = lines.2.2.1.1; modes = lines.2.2.2.1.1; spinning = lines.2.2.2.2.1.1; marked = lines.2.2.2.2.2.1.1; counts = lines.2.1.1 }

run_together : (limits : Limits) (old new : State) (h : List Entry) → FitsTogether limits old → Run limits old h new → FitsTogether limits new
run_together limits old new [] together same = subst (FitsTogether limits) (sym same) together
run_together limits old new (e ∷ h) together (mid, step, rest) = run_together limits mid new h (step_together limits e old mid together step) rest

pub run_lines : (limits : Limits) (bodies made : ℕ) (old new : State) (h : List Entry) → limits.entries < 2 ^ 63
    → HasLines limits bodies made old → FitsTogether limits old → All (λ (e : Entry). FitsCall e.call) h → Run limits old h new
    → HasLines limits bodies (sum new.counts) new
run_lines limits bodies made old new h low has together fit run =
    let head = has.lines.1 in
    let before = sizes_back limits bodies made old has in
    let procs = before.holders in
    let sizes = sizes_run limits bodies old new h before run in
    let rows = sizes.holders in
    let few = head.5 in
    let active = active_run limits old new h (record { some = head.4; all = omega (arith, few, procs) }) run in
    let most = active.all in
    said limits bodies new low (run_together limits old new h together run) sizes (run_forms limits old new h (forms_back limits bodies made old has) fit run)
    active.some (omega (arith, most, rows))

pub legal_lines : (limits : Limits) (bodies : ℕ) (capacities : List ℕ) (h : List Entry) (s : State) → AreLimits limits bodies capacities
    → All (λ (e : Entry). FitsCall e.call) h → IsLegal limits bodies capacities h s → HasLines limits bodies (sum s.counts) s
legal_lines limits bodies capacities h s are fit run =
    let order = legal_in_order limits bodies capacities h s are run in
    let sizes = legal_sizes limits bodies capacities h s are run in
    let rows = sizes.holders in
    let most = order.active.1 in
    said limits bodies s are.entries.1 order.together sizes (legal_forms limits bodies capacities h s are fit run) order.active.0 (omega (arith, most, rows))

pub run_start : (limits : Limits) (bodies : ℕ) (old new : State) (h : List Entry) → limits.entries < 2 ^ 63 → IsStart limits bodies old
    → All (λ (e : Entry). FitsCall e.call) h → Run limits old h new → new.outcome ≡ None → IsStart limits bodies new
run_start limits bodies old new h low start fit run lasts =
    record {
      lines = run_lines limits bodies (sum old.counts) old new h low start.lines start.together fit run;
      lasts = lasts;
      together = run_together limits old new h start.together run;
    }

pub legal_start : (limits : Limits) (bodies : ℕ) (capacities : List ℕ) (h : List Entry) (s : State) → AreLimits limits bodies capacities
    → All (λ (e : Entry). FitsCall e.call) h → IsLegal limits bodies capacities h s → s.outcome ≡ None → IsStart limits bodies s
legal_start limits bodies capacities h s are fit run lasts =
    record { lines = legal_lines limits bodies capacities h s are fit run; lasts = lasts; together = (legal_in_order limits bodies capacities h s are run).together }
