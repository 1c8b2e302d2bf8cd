-- One entry more is counted.
use Rattle.std.proofs.Common.{◌≡◌, ℕ, suc, ◌+◌, ◌-◌, ◌<◌, ◌≤◌, ◌==◌, true, cond, None, Some, List, [], ◌∷◌, ◌++◌, length, get_or, drop, refl, sym, ap, ◌∙◌, arith, inl, inr, add-one, append_assoc, drop-cons}
use Rattle.std.proofs.lemmas.Bool.{agree_below, agree_below_at}
use Rattle.std.proofs.lemmas.Bool.Decides.{eqb_tells}
use Rattle.std.proofs.lemmas.Grind.{get_or-set_at}
use Rattle.std.proofs.lemmas.List.{get_or-set_other, get_or-replicate, drop_all}
use Rattle.std.proofs.lemmas.List.Sums.{sum_by-append}
use Rattle.std.proofs.Math.ListN.{set, replicate}
use Rattle.std.specs.Str.{bytes_eq}
use Rattle.gmp_base.specs.declared.number.MNo.{MNo}
use Rattle.gmp_seq.specs.declared.call.Call.{Call}
use Rattle.gmp_seq.specs.declared.call.Call.TheVariants as call
use Rattle.gmp_seq.specs.declared.call.Entry.{Entry}
use Rattle.gmp_history.specs.Heads.{kind_of}
use Rattle.gmp_trace.specs.HasText.{turns}
use Rattle.gmp_trace.specs.Summary.{CountsCalls, CountsMachines, call_line, calls_named, call_lines, machine_line, machine_lines, call_name, kind_name, names}

calls_more : (name : List ℕ) (es : List Entry) (e : Entry) → calls_named name (es ++ e ∷ []) ≡ calls_named name es + cond (bytes_eq (call_name e.call) name) 1 0
calls_more name es e = sum_by-append (λ (x : Entry). cond (bytes_eq (call_name x.call) name) 1 0) es (e ∷ []) ∙ omega arith

turns_more : (m : MNo) (es : List Entry) (e : Entry) → turns m (es ++ e ∷ []) ≡ turns m es + cond (e.m.0 == m.0) 1 0
turns_more m es e = sum_by-append (λ (x : Entry). cond (x.m.0 == m.0) 1 0) es (e ∷ []) ∙ omega arith

-- the first word of a call goes by its kind
pub named : (c : Call) → kind_name (kind_of c) ≡ call_name c
named (call.Send None v) = refl
named (call.Send (Some c) v) = refl
named (call.Recv None) = refl
named (call.Recv (Some c)) = refl
named (call.Close None) = refl
named (call.Close (Some c)) = refl
named (call.Len None) = refl
named (call.Len (Some c)) = refl
named (call.Cap None) = refl
named (call.Cap (Some c)) = refl
named c = refl

pub machines_more : (counts : List ℕ) (es : List Entry) (e : Entry) → length counts ≡ 256 → CountsMachines counts es → e.m.0 < 256
    → CountsMachines (set counts e.m.0 (get_or counts e.m.0 0 + 1)) (es ++ e ∷ [])
machines_more counts es e size h there m lt =
    let who : MNo = record { 0 = m } in
    elim (eqb_tells e.m.0 m) [
      | inl same ↦ rw (turns_more who es e, same.0) (get_or-set_at counts e.m.0 m _ 0 (sym same.1) (omega arith) ∙ ap (λ (k : ℕ). k + 1) (ap (λ (k : ℕ). get_or counts k 0) same.1 ∙ h m lt))
      | inr other ↦ rw (turns_more who es e, other.0) (get_or-set_other counts e.m.0 m _ 0 (λ q. other.1 (sym q)) ∙ h m lt ∙ omega arith)
    ]

-- the name at a place is that of no other place
is_one_of : (j : ℕ) → j < 30 → agree_below (λ i. bytes_eq (get_or names i []) (get_or names j [])) (λ i. i == j) 30 ≡ true
unfolding names
is_one_of j lt = agree_below_at (λ j. agree_below (λ i. bytes_eq (get_or names i []) (get_or names j [])) (λ i. i == j) 30) (λ j. true) 30 j refl lt

is_one : (i j : ℕ) → i < 30 → j < 30 → bytes_eq (get_or names i []) (get_or names j []) ≡ (i == j)
is_one i j h k = agree_below_at (λ i. bytes_eq (get_or names i []) (get_or names j [])) (λ i. i == j) 30 i (is_one_of j k) h

pub calls_counted : (counts : List ℕ) (es : List Entry) (e : Entry) (place : ℕ) → length counts ≡ 30 → CountsCalls counts es → place < 30
    → get_or names place [] ≡ call_name e.call → CountsCalls (set counts place (get_or counts place 0 + 1)) (es ++ e ∷ [])
calls_counted counts es e place size h there is i lt =
    let name = get_or names i [] in
    let one : bytes_eq (call_name e.call) name ≡ (place == i) = ap (λ (w : List ℕ). bytes_eq w name) (sym is) ∙ is_one place i there lt in
    elim (eqb_tells place i) [
      | inl same ↦ rw (calls_more name es e, one, same.0) (get_or-set_at counts place i _ 0 (sym same.1) (omega arith) ∙ ap (λ (k : ℕ). k + 1) (ap (λ (k : ℕ). get_or counts k 0) same.1 ∙ h i lt))
      | inr other ↦ rw (calls_more name es e, one, other.0) (get_or-set_other counts place i _ 0 (λ q. other.1 (sym q)) ∙ h i lt ∙ omega arith)
    ]

-- a machine more has a line
pub machine_lines_next : (m n : ℕ) (es : List Entry) (out : List ℕ) → m < n
    → out ++ machine_lines m (n - m) es ≡ (out ++ machine_line m (turns (record { 0 = m }) es)) ++ machine_lines (m + 1) (n - (m + 1)) es
machine_lines_next m n es out below =
    let left : n - m ≡ suc (n - (m + 1)) = omega arith in
    rw left (sym (append_assoc out (machine_line m (turns (record { 0 = m }) es)) (machine_lines (m + 1) (n - (m + 1)) es)))

pub machine_lines_none : (m n : ℕ) (es : List Entry) → n ≡ m → machine_lines m (n - m) es ≡ []
machine_lines_none m n es same = let none : n - m ≡ 0 = omega arith in rw none refl

-- nothing is counted yet
pub machines_none : (zeros : List ℕ) (es : List Entry) → zeros ≡ replicate 256 0 → es ≡ [] → CountsMachines zeros es
machines_none zeros es is none m lt = rw (is, none) (get_or-replicate 256 m 0 0 lt)

pub calls_none : (zeros : List ℕ) (es : List Entry) → zeros ≡ replicate 30 0 → es ≡ [] → CountsCalls zeros es
calls_none zeros es is none i lt = rw (is, none) (get_or-replicate 30 i 0 0 lt)

names_all : length names ≡ 30
unfolding names
names_all = refl

-- a call more has a line
pub call_lines_next : (place : ℕ) (es : List Entry) (out : List ℕ) → place < 30
    → out ++ call_lines (drop place names) es
    ≡ (out ++ call_line (get_or names place []) (calls_named (get_or names place []) es)) ++ call_lines (drop (place + 1) names) es
call_lines_next place es out lt =
    let name = get_or names place [] in
    let parts : drop place names ≡ name ∷ drop (place + 1) names = rw add-one (drop-cons names place [] (omega (arith, names_all))) in
    ap (λ (ns : List (List ℕ)). out ++ call_lines ns es) parts ∙ sym (append_assoc out (call_line name (calls_named name es)) (call_lines (drop (place + 1) names) es))

pub call_lines_none : (place : ℕ) (es : List Entry) → 30 ≤ place → call_lines (drop place names) es ≡ []
call_lines_none place es past = ap (λ (ns : List (List ℕ)). call_lines ns es) (drop_all place names (omega (arith, names_all)))

-- a space more
pub spaces_next : (out : List ℕ) (n i : ℕ) → i < n → out ++ replicate (n - i) 32 ≡ (out ++ 32 ∷ []) ++ replicate (n - (i + 1)) 32
spaces_next out n i below =
    let left : n - i ≡ suc (n - (i + 1)) = omega arith in
    rw left (sym (append_assoc out (32 ∷ []) (replicate (n - (i + 1)) 32)))
