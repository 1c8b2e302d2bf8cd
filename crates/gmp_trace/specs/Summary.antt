-- The summary of a trace.
use Rattle.std.specs.Prelude.{ℕ, zero, suc, ◌+◌, ◌-◌, ◌==◌, ◌<◌, ◌≡◌, if◌then◌else◌, List, [], ◌∷◌, ◌++◌, codes, count_by, decimal, length, replicate, slice_index, slice_index_or}
use Rattle.std.specs.List.{flat_map}
use Rattle.std.specs.Str.{bytes_eq}
use Rattle.gmp_seq.specs.declared.call.Call.{Call}
use Rattle.gmp_seq.specs.declared.call.Entry.{Entry}
use Rattle.gmp_history.specs.declared.brief.CallKind.{CallKind}
use Rattle.gmp_history.specs.declared.brief.CallKind.TheVariants as kind
use Rattle.gmp_trace.specs.declared.trace.End.{End}
use Rattle.gmp_trace.specs.HasText.{turns}
use Rattle.gmp_trace.specs.Pieces.{Piece, call_pieces, end_pieces, line, number, piece_text}
use Rattle.gmp_trace.specs.Text.{Content}
use Rattle.gmp_trace.specs.Pieces.Piece.{Word}

-- how the run ended
unfoldable pub outcome_line : End → List ℕ
outcome_line end = line (codes "outcome:") (end_pieces end)

-- how many entries there are
unfoldable pub entries_line : ℕ → List ℕ
entries_line n = line (codes "entries:") (number n ∷ [])

-- how many entries a machine has
unfoldable pub machine_line : ℕ → ℕ → List ℕ
machine_line m n = line (codes "machine") (Word (decimal m ++ codes ":") ∷ number n ∷ [])

-- a line for each of n machines from m on
abbrev pub machine_lines : ℕ → ℕ → List Entry → List ℕ
machine_lines m zero es = []
machine_lines m (suc n) es = machine_line m (turns (record { 0 = m }) es) ++ machine_lines (m + 1) n es

-- a word, left in 8 places
abbrev pub left : List ℕ → List ℕ
left word = word ++ replicate (8 - length word) 32

-- a number, right in 8 places
abbrev pub right : ℕ → List ℕ
right n = replicate (8 - length (decimal n)) 32 ++ decimal n

-- how many entries make a call of this name; where there is none, there is no line
unfoldable pub call_line : List ℕ → ℕ → List ℕ
call_line name n = if n == 0 then [] else left name ++ right n ++ codes "\n"

-- the names of calls, in the table's order
unfoldable pub names : List (List ℕ)
names =
    codes "acquire" ∷ codes "take" ∷ codes "put" ∷ codes "claim" ∷ codes "go" ∷ codes "yield" ∷ codes "exit" ∷ codes "make" ∷ codes "send" ∷ codes "recv"
    ∷ codes "close" ∷ codes "len" ∷ codes "cap" ∷ codes "procs" ∷ codes "select" ∷ codes "sleep" ∷ codes "gopark" ∷ codes "ready" ∷ codes "enter" ∷ codes "leave" ∷ codes "spin"
    ∷ codes "woken" ∷ codes "keep" ∷ codes "unspin" ∷ codes "poke" ∷ codes "declare" ∷ codes "bare" ∷ codes "park" ∷ codes "tick" ∷ codes "spawn" ∷ []

abbrev pub first_word : List Piece → List ℕ
first_word [] = []
first_word (p ∷ ps) = piece_text p

-- the first word of a call
abbrev pub call_name : Call → List ℕ
call_name c = first_word (call_pieces c)

-- the first word of the calls of a kind
abbrev pub kind_name : CallKind → List ℕ
kind_name kind.Acquire = codes "acquire"
kind_name kind.Take = codes "take"
kind_name kind.Put = codes "put"
kind_name kind.Claim = codes "claim"
kind_name kind.Go = codes "go"
kind_name kind.Spawn = codes "spawn"
kind_name kind.Yield = codes "yield"
kind_name kind.Exit = codes "exit"
kind_name kind.Make = codes "make"
kind_name kind.Send = codes "send"
kind_name kind.SendNil = codes "send"
kind_name kind.Recv = codes "recv"
kind_name kind.RecvNil = codes "recv"
kind_name kind.Close = codes "close"
kind_name kind.CloseNil = codes "close"
kind_name kind.Len = codes "len"
kind_name kind.LenNil = codes "len"
kind_name kind.Cap = codes "cap"
kind_name kind.CapNil = codes "cap"
kind_name kind.Select = codes "select"
kind_name kind.Sleep = codes "sleep"
kind_name kind.Procs = codes "procs"
kind_name kind.Gopark = codes "gopark"
kind_name kind.Ready = codes "ready"
kind_name kind.Enter = codes "enter"
kind_name kind.Leave = codes "leave"
kind_name kind.Spin = codes "spin"
kind_name kind.Woken = codes "woken"
kind_name kind.Keep = codes "keep"
kind_name kind.Unspin = codes "unspin"
kind_name kind.Poke = codes "poke"
kind_name kind.Declare = codes "declare"
kind_name kind.Bare = codes "bare"
kind_name kind.Park = codes "park"
kind_name kind.Tick = codes "tick"

-- how many entries make a call of this name
abbrev pub calls_named : List ℕ → List Entry → ℕ
calls_named name es = count_by (λ (e : Entry). bytes_eq (call_name e.call) name) es

-- a line for each of these names
abbrev pub call_lines : List (List ℕ) → List Entry → List ℕ
call_lines names es = flat_map (λ name. call_line name (calls_named name es)) names

-- the counts of machines are those of these entries
abbrev pub CountsMachines : List ℕ → List Entry → Type 0
CountsMachines counts es = (m : ℕ) → m < 256 → slice_index counts m ≡ turns (record { 0 = m }) es

-- the counts of calls, in the table's order, are those of these entries
abbrev pub CountsCalls : List ℕ → List Entry → Type 0
CountsCalls counts es = (i : ℕ) → i < 30 → slice_index counts i ≡ calls_named (slice_index_or names i []) es

-- the summary of a trace
abbrev pub summary_text : Content → List ℕ
summary_text x = outcome_line x.end ++ entries_line (length x.entries) ++ machine_lines 0 x.limits.machines x.entries ++ call_lines names x.entries
