-- Whether the logs of machines say how many entries of a history are theirs.
use Rattle.std.specs.Prelude.{◌≡◌, ℕ, ◌<◌, ◌==◌, min, List, length, filter, map, sum, All}
use Rattle.gmp_seq.specs.declared.call.Entry.{Entry}
use Rattle.gmp_history.specs.declared.auditing.Mismatch.{Mismatch}
use Rattle.gmp_history.specs.declared.auditing.PassLog.{PassLog}
use Rattle.gmp_history.specs.declared.auditing.Tally.{Tally}

-- how many entries are machine m's
abbrev pub entries_of : List Entry → ℕ → ℕ
entries_of history m = length (filter (λ (e : Entry). e.m.0 == m) history)

-- the counts that the logs of machine m say
abbrev pub logged_of : List PassLog → ℕ → List ℕ
logged_of logs m = map (λ (l : PassLog). l.calls) (filter (λ (l : PassLog). l.m.0 == m) logs)

-- their sum, as far as a u64 holds it
abbrev pub said_of : List PassLog → ℕ → ℕ
said_of logs m = min (sum (logged_of logs m)) 18446744073709551615

-- a machine that has entries has one log, and each of its logs says how many they are
pub record AgreesWithLogs (history : List Entry) (logs : List PassLog) (m : ℕ) : Type 0 where
  pub one : 0 < entries_of history m → length (logged_of logs m) ≡ 1
  pub each : All (λ (calls : ℕ). calls ≡ entries_of history m) (logged_of logs m)

-- the least machine that disagrees, with what its logs say together and how many entries it has
pub record IsMismatch (history : List Entry) (logs : List PassLog) (e : Mismatch) : Type 0 where
  pub disagrees : AgreesWithLogs history logs e.m.0 → ⊥
  pub least : (m : ℕ) → m < e.m.0 → AgreesWithLogs history logs m
  pub said : e.said ≡ said_of logs e.m.0
  pub found : e.found ≡ entries_of history e.m.0

-- what is counted of machine m
abbrev pub tally_of : List Entry → List PassLog → ℕ → Tally
tally_of history logs m = record { found = entries_of history m; logs = length (logged_of logs m); said = said_of logs m }

abbrev pub no_tally : Tally
no_tally = record { found = 0; logs = 0; said = 0 }
