-- An audit of what a run reports finds each machine right.
use Rattle.std.proofs.Common.{◌≡◌, ℕ, zero, suc, ◌+◌, ◌<◌, ◌≤◌, Bool, true, false, cond, All, List, [], ◌∷◌, Option, None, Some, add-one, eqb, leb, filter, length, map, replicate, slice_get, slice_index, refl, sym, ap, subst, ◌∙◌, arith}
use Rattle.std.specs.List.{range_with_len}
use Rattle.std.proofs.lemmas.Bool.{eq-eqb, eqb-true, leb-false, leb-true, ne_eqb}
use Rattle.std.proofs.lemmas.List.{length-append, length-replicate}
use Rattle.std.proofs.lemmas.List.Elements.{All-cons, All-head, All-nil, All-tail}
use Rattle.std.proofs.lemmas.List.FromFn.{filter_of_map_range_with_len_more}
use Rattle.std.proofs.lemmas.Option.{slice_get_past}
use Rattle.gmp_base.specs.declared.number.MNo.{MNo}
use Rattle.gmp_seq.proofs.Epochs.{at_set}
use Rattle.gmp_seq.specs.declared.call.Entry.{Entry}
use Rattle.gmp_seq.specs.declared.call.Limits.{Limits}
use Rattle.gmp_seq.specs.Run.{IsLegal, Run}
use Rattle.gmp_seq.specs.State.{State, opening}
use Rattle.gmp_history.specs.Audit.{AgreesWithLogs, entries_of, logged_of}
use Rattle.gmp_history.specs.declared.auditing.PassLog.{PassLog}
use Rattle.gmp_run.specs.Reports.{AreCounts, AreLogs}

-- Entries

entries_more : (e : Entry) (h : List Entry) (m : ℕ) → entries_of (e ∷ h) m ≡ cond (eqb e.m.0 m) 1 0 + entries_of h m
entries_more e h m = by (eqb e.m.0 m) where
  by : (b : Bool) → length {A = Entry} (cond b (e ∷ filter (λ (x : Entry). eqb x.m.0 m) h) (filter (λ (x : Entry). eqb x.m.0 m) h)) ≡ cond b 1 0 + entries_of h m
  by true = omega arith
  by false = omega arith

-- a machine that is not there makes none
none_of : (limits : Limits) (old new : State) (h : List Entry) (m : ℕ) → Run limits old h new → slice_get old.counts m ≡ None → entries_of h m ≡ 0
none_of limits old new [] m run past = refl
none_of limits old new (e ∷ h) m (mid, (number, (ongoing, effect, counted, ended)), rest) past =
    let other : e.m.0 ≡ m → ⊥ = λ is. (let both : None ≡ Some e.k = sym past ∙ subst (λ (k : ℕ). slice_get old.counts k ≡ Some e.k) is number in cc) in
    let after : slice_get mid.counts m ≡ None =
    ap (λ (l : List ℕ). slice_get l m) counted ∙ at_set (λ (o : Option ℕ). o ≡ None) old.counts e.m.0 m (slice_index old.counts e.m.0 + 1) (λ is. absurd (other is)) past in
    let none = none_of limits mid new h m rest after in
    entries_more e h m ∙ (ap (λ (b : Bool). cond b 1 0 + entries_of h m) (ne_eqb e.m.0 m other) ∙ omega (arith, none))

is_there : (limits : Limits) (bodies : ℕ) (capacities : List ℕ) (h : List Entry) (s : State) → IsLegal limits bodies capacities h s → (m : ℕ) → 0 < entries_of h m → m < limits.machines
is_there limits bodies capacities h s legal m some = by (leb limits.machines m) refl where
  by : (b : Bool) → leb limits.machines m ≡ b → m < limits.machines
  by true is =
      let past = leb-true limits.machines m is in
      let many = length-replicate {A = ℕ} limits.machines 0 in
      let none = none_of limits (opening limits bodies capacities) s h m legal (slice_get_past (replicate limits.machines 0) m (omega (arith, past, many))) in
      absurd (omega (arith, none, some))
  by false is = leb-false limits.machines m is

-- Logs

logged_more : (l : PassLog) (logs : List PassLog) (m : ℕ) → logged_of (l ∷ logs) m ≡ cond (eqb l.m.0 m) (l.calls ∷ logged_of logs m) (logged_of logs m)
logged_more l logs m = by (eqb l.m.0 m) where
  by : (b : Bool) → map (λ (x : PassLog). x.calls) (cond b (l ∷ filter (λ (x : PassLog). eqb x.m.0 m) logs) (filter (λ (x : PassLog). eqb x.m.0 m) logs))
      ≡ cond b (l.calls ∷ logged_of logs m) (logged_of logs m)
  by true = refl
  by false = refl

each : (h : List Entry) (m : ℕ) (logs : List PassLog) → AreCounts h logs → All (λ (calls : ℕ). calls ≡ entries_of h m) (logged_of logs m)
each h m [] are = All-nil (λ (calls : ℕ). calls ≡ entries_of h m)
each h m (l ∷ logs) are = by (eqb l.m.0 m) refl (each h m logs (All-tail (λ (x : PassLog). x.calls ≡ entries_of h x.m.0) l logs are)) where
  by : (b : Bool) → eqb l.m.0 m ≡ b → All (λ (calls : ℕ). calls ≡ entries_of h m) (logged_of logs m) → All (λ (calls : ℕ). calls ≡ entries_of h m) (logged_of (l ∷ logs) m)
  by true is rest =
      let own : l.calls ≡ entries_of h m = All-head (λ (x : PassLog). x.calls ≡ entries_of h x.m.0) l logs are ∙ ap (entries_of h) (eqb-true l.m.0 m is) in
      subst (All (λ (calls : ℕ). calls ≡ entries_of h m)) (sym (logged_more l logs m ∙ ap (λ (b : Bool). cond b (l.calls ∷ logged_of logs m) (logged_of logs m)) is))
      (All-cons (λ (calls : ℕ). calls ≡ entries_of h m) l.calls (logged_of logs m) own rest)
  by false is rest = subst (All (λ (calls : ℕ). calls ≡ entries_of h m)) (sym (logged_more l logs m ∙ ap (λ (b : Bool). cond b (l.calls ∷ logged_of logs m) (logged_of logs m)) is)) rest

-- how often a number stands among these
abbrev times : ℕ → List MNo → ℕ
times m numbers = length (filter (λ (i : MNo). eqb i.0 m) numbers)

logged_times : (m : ℕ) (logs : List PassLog) → length (logged_of logs m) ≡ times m (map (λ (l : PassLog). l.m) logs)
logged_times m [] = refl
logged_times m (l ∷ logs) = ap (λ (x : List ℕ). length x) (logged_more l logs m) ∙ by (eqb l.m.0 m) (logged_times m logs) where
  by : (b : Bool) → length (logged_of logs m) ≡ times m (map (λ (x : PassLog). x.m) logs) → length {A = ℕ} (cond b (l.calls ∷ logged_of logs m) (logged_of logs m))
      ≡ length {A = MNo} (cond b (l.m ∷ filter (λ (i : MNo). eqb i.0 m) (map (λ (x : PassLog). x.m) logs)) (filter (λ (i : MNo). eqb i.0 m) (map (λ (x : PassLog). x.m) logs)))
  by true rest = ap (λ (n : ℕ). suc n) rest
  by false rest = rest

number : ℕ → MNo
number k = record { 0 = k }

-- of the first numbers, one more
times_more : (m n : ℕ) → times m (map number (range_with_len 0 (n + 1))) ≡ times m (map number (range_with_len 0 n)) + cond (eqb n m) 1 0
unfolding number
times_more m n =
    ap (λ (l : List MNo). length l) (filter_of_map_range_with_len_more (λ (i : MNo). eqb i.0 m) number 0 n n (omega arith))
    ∙ (length-append (filter (λ (i : MNo). eqb i.0 m) (map number (range_with_len 0 n))) (cond (eqb n m) (number n ∷ []) [])
    ∙ ap (λ (k : ℕ). times m (map number (range_with_len 0 n)) + k) (by (eqb n m))) where
      by : (b : Bool) → length {A = MNo} (cond b (record { 0 = n } ∷ []) []) ≡ cond b 1 0
      by true = refl
      by false = refl

not_yet : (m n : ℕ) → n ≤ m → times m (map number (range_with_len 0 n)) ≡ 0
not_yet m zero less = refl
not_yet m (suc n) less =
    let before = not_yet m n (omega (arith, less)) in
    let other : n ≡ m → ⊥ = λ e. omega (arith, e, less) in
    ap (λ (k : ℕ). times m (map number (range_with_len 0 k))) (sym (add-one n)) ∙ (times_more m n
    ∙ (ap (λ (b : Bool). times m (map number (range_with_len 0 n)) + cond b 1 0) (ne_eqb n m other) ∙ omega (arith, before)))

once : (m n : ℕ) → m < n → times m (map number (range_with_len 0 n)) ≡ 1
once m zero less = absurd (omega (arith, less))
once m (suc n) less = ap (λ (k : ℕ). times m (map number (range_with_len 0 k))) (sym (add-one n)) ∙ (times_more m n ∙ by (eqb n m) refl (once m n)) where
  by : (b : Bool) → eqb n m ≡ b → (m < n → times m (map number (range_with_len 0 n)) ≡ 1) → times m (map number (range_with_len 0 n)) + cond (eqb n m) 1 0 ≡ 1
  by true is rest =
      let same = eqb-true n m is in
      let before = not_yet m n (omega (arith, same)) in
      ap (λ (b : Bool). times m (map number (range_with_len 0 n)) + cond b 1 0) is ∙ omega (arith, before)
  by false is rest =
      let other : n ≡ m → ⊥ = λ e. (let both : true ≡ false = sym (eq-eqb n m e) ∙ is in cc) in
      let before = rest (omega (arith, less, other)) in
      ap (λ (b : Bool). times m (map number (range_with_len 0 n)) + cond b 1 0) is ∙ omega (arith, before)

-- the logs of a report agree with its entries
pub agrees : (limits : Limits) (bodies : ℕ) (capacities : List ℕ) (h : List Entry) (s : State) (logs : List PassLog) → IsLegal limits bodies capacities h s → AreLogs limits.machines logs → AreCounts h logs
    → (m : ℕ) → AgreesWithLogs h logs m
unfolding number
agrees limits bodies capacities h s logs legal are counted m = record {
  one = λ some. logged_times m logs ∙ (ap (times m) are ∙ once m limits.machines (is_there limits bodies capacities h s legal m some));
  each = each h m logs counted;
}
