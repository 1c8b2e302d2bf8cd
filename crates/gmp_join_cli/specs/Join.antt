-- What `join` says and writes.
use Rattle.std.specs.Prelude.{◌≡◌, ◌≢◌, ℕ, ◌+◌, ◌<◌, List, ◌++◌, Option, None, Some, IfSome, length}
use Rattle.std.specs.Io.KnownBytes.{Appends, Consumes}
use Rattle.gmp_seq.specs.Run.{Run}
use Rattle.gmp_start.specs.declared.start.Start.{Start}
use Rattle.gmp_start.specs.Start.{state_of}
use Rattle.gmp_trace.specs.declared.bad.Bad.{Bad}
use Rattle.gmp_trace.specs.declared.trace.End.TheVariants as end_
use Rattle.gmp_trace.specs.Text.{Content, text}
use Rattle.gmp_check.specs.Checked.{start_of}
use Rattle.gmp_parts.specs.Parts.{AreInOrder, Follows, IsRightTrace, Parts, count, entries_of, joined_text, texts, whole}
use Rattle.gmp_parts.specs.Parts.Parts.{NoPart, Then}
use Rattle.gmp_judge.specs.Judged.{IsWrong}
use Rattle.gmp_join_cli.specs.declared.joining.Joined.{Joined}
use Rattle.gmp_join_cli.specs.declared.stopping.Stop.{Stop}

-- The bytes are the texts of right traces, one behind another, each of which goes on where the one before stops. As one trace they are right
-- too: one run from the state before the first entry to that behind the last.
pub record IsRunInParts (parts : Parts) (last : Content) (bytes : List ℕ) : Type 0 where
  pub in_order : AreInOrder (Then parts last)
  pub one_run : IsRightTrace (whole parts last)
  pub read : bytes ≡ texts (Then parts last)

-- What was read is a run in parts, and what was written tells how long it is.
pub record WritesJoined (input old new : Option (List ℕ)) : Type 0 where
  pub parts : Parts
  pub last : Content
  pub in_order : AreInOrder (Then parts last)
  pub one_run : IsRightTrace (whole parts last)
  pub read : IfSome input (λ all. all ≡ texts (Then parts last))
  pub written : Appends old new (joined_text parts last)

-- they are a run in parts
abbrev pub HasRunInParts : List ℕ → Type 0
HasRunInParts bytes = (parts : Parts) × (last : Content) × IsRunInParts parts last bytes

-- Behind parts in order come these bytes, which are the text of no right trace, and this is their first bad line. They would be part n.
pub record IsBadPart (n : ℕ) (bad : Bad) (all : List ℕ) : Type 0 where
  pub parts : Parts
  pub in_order : AreInOrder parts
  pub number : n ≡ count parts + 1
  pub bytes : List ℕ
  pub rest : List ℕ
  pub whole : all ≡ texts parts ++ (bytes ++ rest)
  pub wrong : IsWrong bytes bad

-- Behind parts in order comes a right trace that doesn't go on where they stop. It would be part n.
pub record IsApart (n : ℕ) (all : List ℕ) : Type 0 where
  pub parts : Parts
  pub in_order : AreInOrder parts
  pub number : n ≡ count parts + 1
  pub next : Content
  pub right : IsRightTrace next
  pub apart : Follows parts next → ⊥
  pub rest : List ℕ
  pub whole : all ≡ texts parts ++ (text next ++ rest)

-- behind parts in order come more than so many bytes
pub record IsLongBehind (most : ℕ) (all : List ℕ) : Type 0 where
  pub parts : Parts
  pub in_order : AreInOrder parts
  pub rest : List ℕ
  pub whole : all ≡ texts parts ++ rest
  pub long : most < length rest

-- Within the command

-- the trace leads to this state, from which a run may go on; where there is none it ends
abbrev pub StopsAt : Content → Option Start → Type 0
StopsAt x None = x.end ≢ end_.Running
StopsAt x (Some s) = Run x.limits (start_of x) x.entries (state_of s)

-- the trace is of this size, and stops so
pub record IsStop (x : Content) (stop : Stop) : Type 0 where
  pub limits : stop.limits ≡ x.limits
  pub bodies : stop.bodies ≡ x.bodies
  pub end : stop.end ≡ x.end
  pub at : StopsAt x stop.at

-- the last of these parts stops so; where there is none, nothing does
abbrev pub IsLastStop : Parts → Option Stop → Type 0
IsLastStop NoPart last = last ≡ None
IsLastStop (Then parts x) None = ⊥
IsLastStop (Then parts x) (Some stop) = IsStop x stop

-- what is known of these parts, once they are judged
pub record Tells (joined : Joined) (parts : Parts) : Type 0 where
  pub in_order : AreInOrder parts
  pub entries : joined.entries ≡ length (entries_of parts)
  pub count : joined.parts ≡ count parts
  pub last : IsLastStop parts joined.last

-- the bytes are the text of a right trace, and these are the parts with that one
pub record JoinsNext (joined : Joined) (parts : Parts) (bytes : List ℕ) : Type 0 where
  pub next : Content
  pub read : bytes ≡ text next
  pub tells : Tells joined (Then parts next)

-- the bytes are the text of a right trace that doesn't go on where the parts stop
pub record IsNextApart (parts : Parts) (bytes : List ℕ) : Type 0 where
  pub next : Content
  pub right : IsRightTrace next
  pub read : bytes ≡ text next
  pub apart : Follows parts next → ⊥

-- what was read so far are these parts
pub record IsReadSoFar (input now : Option (List ℕ)) (joined : Joined) : Type 0 where
  pub parts : Parts
  pub tells : Tells joined parts
  pub taken : Consumes input now (texts parts)

-- this is known of all that was read
pub record IsTold (input : Option (List ℕ)) (joined : Joined) : Type 0 where
  pub parts : Parts
  pub tells : Tells joined parts
  pub read : IfSome input (λ all. all ≡ texts parts)
