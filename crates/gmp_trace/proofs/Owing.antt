-- What a writer is owed, and what went out.
use Rattle.std.proofs.Common.{◌≡◌, ℕ, suc, ◌+◌, ◌<◌, ◌^◌, List, [], ◌∷◌, ◌++◌, get_or, length, drop, Option, Some, None, Ok, Err, Result, IfErr, refl, sym, ap, ◌∙◌, append_assoc, add-one, drop-cons, arith}
use Rattle.std.proofs.lemmas.List.{append-nil}
use Rattle.std.specs.Io.KnownBytes.{Appends}
use Rattle.gmp_seq.specs.declared.call.Entry.{Entry}
use Rattle.gmp_trace.specs.declared.writing.WriteError.{WriteError}
use Rattle.gmp_trace.specs.declared.writing.WriteError.TheVariants.{OutOfMemory}
use Rattle.gmp_trace.specs.Pieces.{entry_text, entries_text}
use Rattle.gmp_trace.specs.Text.{AppendsStart, Begins, IsCounted, Owes, first_number}
use Rattle.gmp_trace.specs.Text.Begins.{AtOpening, AtState}

pub counted_low : (b : Begins) → IsCounted b → first_number b < 2 ^ 63
counted_low (AtOpening capacities) h = omega arith
counted_low (AtState s) h = h

-- the text of the entries from entry i on, of which the first of all has number n, begins with that of entry i
pub entries_text-next : (n i : ℕ) (es : List Entry) (e : Entry) (out : List ℕ) → i < length es → e ≡ get_or es i e
    → out ++ entries_text (n + i) (drop i es) ≡ (out ++ entry_text (n + i) e) ++ entries_text (n + (i + 1)) (drop (i + 1) es)
entries_text-next n i es e out below is =
    let parts : drop i es ≡ e ∷ drop (i + 1) es = rw (add-one i) (drop-cons es i e below ∙ ap (λ (x : Entry). x ∷ drop (suc i) es) (sym is)) in
    let next : n + i + 1 ≡ n + (i + 1) = omega arith in
    ap (λ (rest : List Entry). out ++ entries_text (n + i) rest) parts
    ∙ sym (append_assoc out (entry_text (n + i) e) (entries_text (n + i + 1) (drop (i + 1) es)))
    ∙ ap (λ (k : ℕ). (out ++ entry_text (n + i) e) ++ entries_text k (drop (i + 1) es)) next

-- nothing went out
Appends-nothing : (old : Option (List ℕ)) → Appends old old []
Appends-nothing None = tt
Appends-nothing (Some xs) = sym (append-nil xs)

-- two writes one after the other
Appends-twice : (old mid new : Option (List ℕ)) (a b : List ℕ) → Appends old mid a → Appends mid new b → Appends old new (a ++ b)
Appends-twice None mid new a b one two = tt
Appends-twice (Some xs) None new a b one two = absurd one
Appends-twice (Some xs) (Some ys) None a b one two = absurd two
Appends-twice (Some xs) (Some ys) (Some zs) a b one two = two ∙ ap (λ (t : List ℕ). t ++ b) one ∙ append_assoc xs a b

-- what was gathered goes out
pub Owes-paid : (old mid new : Option (List ℕ)) (gathered pending text : List ℕ)
    → Owes old mid (gathered ++ pending) text → Appends mid new gathered → Owes old new pending text
Owes-paid old mid new gathered pending text (gone, one, is) two =
    (gone ++ gathered, Appends-twice old mid new gone gathered one two, append_assoc gone gathered pending ∙ is)

-- what was pending, with the end of the text behind it, goes out
pub Appends-settled : (old mid new : Option (List ℕ)) (pending text end : List ℕ)
    → Owes old mid pending text → Appends mid new (pending ++ end) → Appends old new (text ++ end)
Appends-settled old mid new pending text end (gone, one, is) two =
    let both = Appends-twice old mid new gone (pending ++ end) one two in
    let same : gone ++ (pending ++ end) ≡ text ++ end = sym (append_assoc gone pending end) ∙ ap (λ (t : List ℕ). t ++ end) is in
    rw same at both

-- at the start all is owed
pub AppendsStart-none : (old : Option (List ℕ)) (text : List ℕ) → AppendsStart old old text
AppendsStart-none old text = (text, ([], Appends-nothing old, refl))

-- what went out so far is a start of a longer text too
pub AppendsStart-longer : (old new : Option (List ℕ)) (pending text end : List ℕ) → Owes old new pending text → AppendsStart old new (text ++ end)
AppendsStart-longer old new pending text end (gone, one, is) =
    (pending ++ end, (gone, one, sym (append_assoc gone pending end) ∙ ap (λ (t : List ℕ). t ++ end) is))

-- what holds anyway holds where memory was refused
pub on_refusal : (r : Result (Unit {0}) WriteError) (P : Type 0) → P → IfErr r (λ e. e ≡ OutOfMemory → P)
on_refusal (Ok x) P h = tt
on_refusal (Err e) P h = λ _. h
