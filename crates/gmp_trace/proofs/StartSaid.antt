-- A state that has the forms can be said.
use Rattle.std.proofs.Common.{◌≡◌, ◌≤◌, ◌<◌, ◌^◌, ℕ, zero, suc, ◌+◌, Option, None, Some, List, [], ◌∷◌, ◌++◌, length, sum, refl, sym, ap, subst, arith, codes, append_assoc}
use Rattle.std.proofs.lemmas.Grind.{flat_map-append}
use Rattle.std.proofs.lemmas.List.Elements.{All-head, All-tail, All-cons, All-nil}
use Rattle.std.proofs.lemmas.List.Sums.{sum_by-cons}
use Rattle.std.proofs.lemmas.Option.{slice_get_within}
use Rattle.std.specs.List.{slice_get, All}
use Rattle.std.specs.Prelude.{IfSome}
use Rattle.gmp_base.specs.declared.number.CNo.{CNo}
use Rattle.gmp_base.specs.declared.number.GNo.{GNo}
use Rattle.gmp_base.specs.declared.number.MNo.{MNo}
use Rattle.gmp_base.specs.declared.number.PNo.{PNo}
use Rattle.gmp_base.specs.Fits.{IsWord}
use Rattle.gmp_seq.proofs.Epochs.{epoch_of}
use Rattle.gmp_seq.proofs.Manned.{status_of}
use Rattle.gmp_seq.specs.declared.call.Limits.{Limits}
use Rattle.gmp_seq.specs.declared.status.Goroutine.{Goroutine}
use Rattle.gmp_seq.specs.declared.status.Mode.{Mode}
use Rattle.gmp_seq.specs.declared.status.Mode.TheVariants as mode
use Rattle.gmp_seq.specs.declared.status.Status.{Status}
use Rattle.gmp_seq.specs.declared.status.Status.TheVariants as status
use Rattle.gmp_seq.specs.Channels.{Channel}
use Rattle.gmp_seq.specs.Laws.{FitsTogether, HasSizes}
use Rattle.gmp_seq.specs.State.{State}
use Rattle.gmp_seq.specs.Table.{epoch_at, status_at}
use Rattle.gmp_start.specs.Forms.{HasForms, IsFormedChannel, IsFormedWait}
use Rattle.gmp_trace.specs.StartForms.{AreLines, FitsStatus, HasLines, Passed, StartLine, chan_lines, line_text, lines_text, row_lines, state_lines}
use Rattle.gmp_trace.specs.StartForms.StartLine.{Chan, Row}
use Rattle.gmp_trace.specs.StartText.{channels_text, goroutines_text, start_text}

-- The text

chans_text : (c : ℕ) (xs : List Channel) → channels_text c xs ≡ lines_text (chan_lines c xs)
chans_text c [] = refl
chans_text c (x ∷ xs) = ap (λ (t : List ℕ). line_text (Chan c x) ++ t) (chans_text (c + 1) xs)

rows_text : (g : ℕ) (xs : List Goroutine) → goroutines_text g xs ≡ lines_text (row_lines g xs)
rows_text g [] = refl
rows_text g (x ∷ xs) = ap (λ (t : List ℕ). line_text (Row g x) ++ t) (rows_text (g + 1) xs)

pub text_is : (made : ℕ) (s : State) → start_text made s ≡ lines_text (state_lines made s) ++ codes "begin\n"
unfolding start_text
text_is made s =
    rw (chans_text 0 s.channels, rows_text 0 s.table.goroutines, flat_map-append line_text (chan_lines 0 s.channels) (row_lines 0 s.table.goroutines)) (simp append_assoc)

-- Lists

pub all_from : {A : Type 0} (P : A → Type 0) (xs : List A) → ((i : ℕ) (x : A) → slice_get xs i ≡ Some x → P x) → All P xs
all_from P [] h = All-nil P
all_from P (x ∷ xs) h = All-cons P x xs (h 0 x refl) (all_from P xs (λ i. h (suc i)))

low_all : (most : ℕ) (xs : List ℕ) → sum xs ≤ most → most < 2 ^ 63 → All IsWord xs
low_all most [] le few = All-nil IsWord
low_all most (x ∷ xs) le few =
    let both = sum_by-cons (λ (n : ℕ). n) x xs in All-cons IsWord x xs (omega (arith, le, few, both)) (low_all most xs (omega (arith, le, both)) few)

-- Channels

-- a channel that a line can say
pub record IsSaid (x : Channel) : Type 0 where
  pub formed : IsFormedChannel x
  pub within : length x.items ≤ x.capacity

module _ (limits : Limits) (bodies : ℕ) where
  chans_are : (c : ℕ) (xs : List Channel) (rest : List StartLine) (p : Passed) → All IsSaid xs → c + length xs ≤ limits.channels
      → p.lines ≡ 6 + c → p.rows ≡ 0 → p.channels ≡ c
      → ((q : Passed) → q.lines ≡ 6 + (c + length xs) → q.rows ≡ 0 → q.channels ≡ c + length xs → AreLines limits bodies q rest)
      → AreLines limits bodies p (chan_lines c xs ++ rest)
  chans_are c [] rest p said few lines rows channels then = then p (omega (arith, lines)) rows (omega (arith, channels))
  chans_are c (x ∷ xs) rest p said few lines rows channels then =
      let first : IsSaid x = All-head IsSaid x xs said in (
        refl,
        (lines, rows, (omega (arith, few)), first.formed.capacity, (let within = first.within in let low = first.formed.capacity in omega arith), first.formed.items),
        chans_are (c + 1) xs rest _ (All-tail IsSaid x xs said) (omega (arith, few)) (omega (arith, lines)) rows (omega (arith, channels))
            (λ q a b d. then q (omega (arith, a)) b (omega (arith, d))),
      )

  -- what a goroutine's line says
  pub record IsRow (channels : ℕ) (x : Goroutine) : Type 0 where
    pub epoch : IsWord x.epoch
    pub status : FitsStatus limits.machines channels x.status

  rows_are : (channels g : ℕ) (xs : List Goroutine) (p : Passed) → All (IsRow channels) xs → g + length xs ≤ bodies → 6 ≤ p.lines → p.rows ≡ g → p.channels ≡ channels
      → AreLines limits bodies p (row_lines g xs)
  rows_are channels g [] p said few lines rows many = tt
  rows_are channels g (x ∷ xs) p said few lines rows many =
      let first : IsRow channels x = All-head (IsRow channels) x xs said in (
        refl,
        (lines, rows, omega (arith, few), first.epoch, subst (λ (n : ℕ). FitsStatus limits.machines n x.status) (sym many) first.status),
        rows_are channels (g + 1) xs _ (All-tail (IsRow channels) x xs said) (omega (arith, few)) (omega (arith, lines)) (omega (arith, rows)) many,
      )

-- A state

module _ (limits : Limits) (bodies : ℕ) (s : State) (low : limits.entries < 2 ^ 63) (together : FitsTogether limits s) (sizes : HasSizes limits bodies s) (forms : HasForms limits s) where
  made_low : sum s.counts < 2 ^ 63
  made_low = let most = together.entries in omega arith

  machine_low : (m : MNo) (x : Mode) → slice_get s.machines.modes m.0 ≡ Some x → m.0 < limits.machines
  machine_low m x at = let within = slice_get_within s.machines.modes m.0 x at in let all = sizes.modes in omega arith

  status_fits : (g : GNo) (does : Status) → status_at s.table g ≡ Some does → FitsStatus limits.machines (length s.channels) does
  status_fits g (status.Ready place answer) at = forms.rows g (status.Ready place answer) at
  status_fits g (status.Running m) at = machine_low m mode.Awake (together.runner g m at).0
  status_fits g (status.Calling m) at = machine_low m mode.Calling ((together.caller m).0 (g, at))
  status_fits g (status.Waiting w) at =
      let formed : IsFormedWait (length s.channels) w = forms.rows g (status.Waiting w) at in
      let arrived = together.arrived g w at in
      let arrivals = together.arrivals in
      let made = made_low in
      (omega arith, formed)
  status_fits g status.Dormant at = tt
  status_fits g status.Dead at = tt

  row_is : (i : ℕ) (x : Goroutine) → slice_get s.table.goroutines i ≡ Some x → IsRow limits bodies (length s.channels) x
  row_is i x at =
      let g : GNo = record { 0 = i } in
      let epoch : epoch_at s.table g ≡ x.epoch = ap epoch_of at in
      let most = together.epochs g in
      let made = made_low in
      record { epoch = omega arith; status = status_fits g x.status (ap status_of at) }

  holder_is : (i : ℕ) (x : Option MNo) → slice_get s.machines.holders i ≡ Some x → IfSome x (λ (m : MNo). m.0 < limits.machines)
  holder_is i None at = tt
  holder_is i (Some m) at = let p : PNo = record { 0 = i } in machine_low m mode.Awake (together.holder m p at)

  channel_is : (i : ℕ) (x : Channel) → slice_get s.channels i ≡ Some x → IsSaid x
  channel_is i x at = let c : CNo = record { 0 = i } in record { formed = all_at s.channels i x forms.channels at; within = together.room c x at } where
    all_at : (xs : List Channel) (i : ℕ) (x : Channel) → All IsFormedChannel xs → slice_get xs i ≡ Some x → IsFormedChannel x
    all_at [] i x all at = absurd cc
    all_at (y ∷ ys) zero x all at = let same : y ≡ x = cc in subst IsFormedChannel same (All-head IsFormedChannel y ys all)
    all_at (y ∷ ys) (suc i) x all at = all_at ys i x (All-tail IsFormedChannel y ys all) at

  pub said : 1 ≤ s.machines.active → s.machines.active ≤ limits.procs → HasLines limits bodies (sum s.counts) s
  said some few =
      let made = made_low in
      let arrivals = together.arrivals in
      record {
        lines = ((
          refl,
          (refl, omega arith, forms.clock, omega arith, some, few),
          (
            refl,
            (refl, sizes.counts, low_all (sum s.counts) s.counts (omega arith) made),
            (
              refl,
              (refl, sizes.holders, all_from (λ (h : Option MNo). IfSome h (λ (m : MNo). m.0 < limits.machines)) s.machines.holders holder_is),
              (
                refl,
                (refl, sizes.modes),
                (
                  refl,
                  (refl, sizes.spinning),
                  (
                    refl,
                    (refl, sizes.marked),
                    chans_are limits bodies 0 s.channels (row_lines 0 s.table.goroutines) _ (all_from IsSaid s.channels channel_is) (let few = forms.few_channels in omega arith) refl refl refl
                        (λ q a b d. rows_are limits bodies (length s.channels) 0 s.table.goroutines q (all_from (IsRow limits bodies (length s.channels)) s.table.goroutines row_is)
                        (let all = sizes.goroutines in omega arith) (omega (arith, a)) b (omega (arith, d))),
                  ),
                ),
              ),
            ),
          ),
        ));
        stock = sizes.goroutines;
      }
