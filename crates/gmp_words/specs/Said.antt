-- What is said at the end: its text, and the statuses that go with it.
use Rattle.std.specs.Prelude.{ℕ, Bool, true, false, ◌==◌, ◌||◌, List, [], ◌∷◌, ◌++◌, codes, decimal, string_bytes}
use Rattle.gmp_words.specs.declared.said.Untraced.{Untraced}
use Rattle.gmp_words.specs.declared.said.Untraced.TheVariants.{Astray, Crowded, TooLong}
use Rattle.gmp_words.specs.declared.said.Said.{Said}
use Rattle.gmp_trace.specs.declared.bad.Bad.{Bad}
use Rattle.gmp_trace.specs.declared.bad.Why.{Why}
use Rattle.gmp_trace.specs.declared.bad.Why.TheVariants as why
use Rattle.gmp_trace.specs.declared.writing.WriteError.{WriteError}
use Rattle.gmp_trace.specs.declared.writing.WriteError.TheVariants as write_error
use Rattle.gmp_trace.specs.Bad.{bad_text}
use Rattle.gmp_words.specs.declared.said.Said.TheVariants.{Nothing, BadLine, BadTrace, BadPart, Apart, InputTooLong, Unopened, InputUnreadable, OutputFailed, BadLimits, OutOfMemory, Mismatch, NoRun, NoTrace, Usage}

-- why there is no trace
abbrev pub untraced_text : Untraced → List ℕ
untraced_text (Crowded procs) = codes "gmp: no trace: too few processors: " ++ (decimal procs ++ 10 ∷ [])
untraced_text TooLong = codes "gmp: no trace: it would have more than 1000000 entries" ++ 10 ∷ []
untraced_text Astray = codes "gmp: audit: no run follows the choices" ++ 10 ∷ []

abbrev pub text_of : Said → List ℕ
text_of Nothing = []
text_of (BadLine line) = codes "gmp: line " ++ (decimal line ++ (codes ": bad script line" ++ 10 ∷ []))
text_of (BadTrace bad) = codes "gmp: " ++ (bad_text bad ++ 10 ∷ [])
text_of (BadPart part bad) = codes "gmp: part " ++ (decimal part ++ (codes ": " ++ (bad_text bad ++ 10 ∷ [])))
text_of (Apart part) = codes "gmp: part " ++ (decimal part ++ (codes ": apart" ++ 10 ∷ []))
text_of InputTooLong = codes "gmp: input too long" ++ 10 ∷ []
text_of (Unopened name) = codes "gmp: " ++ (string_bytes name ++ (codes ": can't be opened" ++ 10 ∷ []))
text_of InputUnreadable = codes "gmp: input unreadable" ++ 10 ∷ []
text_of OutputFailed = codes "gmp: output failed" ++ 10 ∷ []
text_of BadLimits = codes "gmp: bad limits" ++ 10 ∷ []
text_of OutOfMemory = codes "gmp: out of memory" ++ 10 ∷ []
text_of (Mismatch m) = codes "gmp: audit: machine " ++ (decimal m.0 ++ 10 ∷ [])
text_of NoRun = codes "gmp: audit: no run" ++ 10 ∷ []
text_of (NoTrace why) = untraced_text why
text_of (Usage text) = string_bytes text

-- the program may end so with this status: 0 main ended, the check passed, or no run has what is not wanted, 2 all asleep, 3 book full, 4 no
-- end yet, 7 a fault, 8 a leak, 9 not known, 10 main can't end; 1 input, output, script or trace, 5 memory, 6 a count of calls that is not that of
-- the history, parts that are no run, a run that is none of the script, or no trace, 64 limits or command line; help that was asked for is 0
abbrev pub goes_with : Said → ℕ → Bool
goes_with Nothing status = status == 0 || (status == 2 || (status == 3 || (status == 4 || (status == 7 || (status == 8 || (status == 9 || status == 10))))))
goes_with (BadLine line) status = status == 1
goes_with (BadTrace bad) status = status == 1
goes_with (BadPart part bad) status = status == 1
goes_with (Apart part) status = status == 1
goes_with InputTooLong status = status == 1
goes_with (Unopened name) status = status == 1
goes_with InputUnreadable status = status == 1
goes_with OutputFailed status = status == 1
goes_with BadLimits status = status == 64
goes_with OutOfMemory status = status == 5
goes_with (Mismatch m) status = status == 6
goes_with NoRun status = status == 6
goes_with (NoTrace why) status = status == 6
goes_with (Usage text) status = status == 64 || status == 0

-- what may be said where the input could not be had
abbrev pub is_of_input : Said → Bool
is_of_input InputTooLong = true
is_of_input InputUnreadable = true
is_of_input OutOfMemory = true
is_of_input _ = false

-- what may be said where the script could not be had
abbrev pub is_of_script : Said → Bool
is_of_script (BadLine line) = true
is_of_script OutOfMemory = true
is_of_script _ = false

-- what may be said of a script that was read
abbrev pub is_of_run : Said → Bool
is_of_run Nothing = true
is_of_run OutputFailed = true
is_of_run BadLimits = true
is_of_run OutOfMemory = true
is_of_run _ = false

-- what may be said by `step`
abbrev pub is_of_step : Said → Bool
is_of_step (BadTrace bad) = false
is_of_step (BadPart part bad) = false
is_of_step (Apart part) = false
is_of_step (Mismatch m) = false
is_of_step NoRun = false
is_of_step (Unopened name) = false
is_of_step (NoTrace why) = false
is_of_step (Usage text) = false
is_of_step _ = true

-- what may be said by `explore`
abbrev pub is_of_explore : Said → Bool
is_of_explore (NoTrace why) = true
is_of_explore said = is_of_step said

-- what is said of the first bad line that was found, or that memory was refused
abbrev pub said_for : Why → Bad → Said
said_for why.OutOfMemory bad = OutOfMemory
said_for other bad = BadTrace bad

-- what is said where a text was not written whole
abbrev pub said_of_write : WriteError → Said
said_of_write write_error.Device = OutputFailed
said_of_write write_error.OutOfMemory = OutOfMemory

-- the word is one of a line
abbrev pub is_of_line : Why → Bool
is_of_line why.OutOfMemory = false
is_of_line _ = true

-- what may be said where the trace is not right
abbrev pub is_of_trace : Said → Bool
is_of_trace (BadTrace bad) = is_of_line bad.why
is_of_trace OutOfMemory = true
is_of_trace _ = false

-- what may be said by `check`
abbrev pub is_of_check : Said → Bool
is_of_check Nothing = true
is_of_check OutputFailed = true
is_of_check said = is_of_input said || is_of_trace said

-- what may be said by `cut`
abbrev pub is_of_cut : Said → Bool
is_of_cut BadLimits = true
is_of_cut said = is_of_check said

-- what may be said where a part of a run is not right
abbrev pub is_of_part : Said → Bool
is_of_part (BadPart part bad) = is_of_line bad.why
is_of_part OutOfMemory = true
is_of_part _ = false

-- or doesn't go on where the one before stops
abbrev pub is_of_next : Said → Bool
is_of_next (Apart part) = true
is_of_next said = is_of_part said

-- what may be said by `join`
abbrev pub is_of_join : Said → Bool
is_of_join Nothing = true
is_of_join OutputFailed = true
is_of_join (BadTrace bad) = is_of_line bad.why
is_of_join said = is_of_input said || is_of_next said

-- what is wrong is found before anything is written
abbrev pub is_before_writing : Said → Bool
is_before_writing (BadLine line) = true
is_before_writing (BadTrace bad) = true
is_before_writing (BadPart part bad) = true
is_before_writing (Apart part) = true
is_before_writing InputTooLong = true
is_before_writing (Unopened name) = true
is_before_writing InputUnreadable = true
is_before_writing BadLimits = true
is_before_writing (Mismatch m) = true
is_before_writing (NoTrace why) = true
is_before_writing _ = false

-- what may be said where the command line was not read
abbrev pub is_of_words : Said → Bool
is_of_words (Usage text) = true
is_of_words OutOfMemory = true
is_of_words _ = false
