-- Whose an entry is, and which call it makes.
use Rattle.std.specs.Prelude.{None, Some}
use Rattle.gmp_seq.specs.declared.call.Call.{Call}
use Rattle.gmp_seq.specs.declared.call.Call.TheVariants as call
use Rattle.gmp_seq.specs.declared.call.Entry.{Entry}
use Rattle.gmp_history.specs.declared.brief.CallKind.{CallKind}
use Rattle.gmp_history.specs.declared.brief.CallKind.TheVariants as kind
use Rattle.gmp_history.specs.declared.heads.Head.{Head}

-- the kind of a call; one on the nil channel has a kind of its own
abbrev pub kind_of : Call → CallKind
kind_of call.Acquire = kind.Acquire
kind_of call.Take = kind.Take
kind_of (call.Put r) = kind.Put
kind_of (call.Claim r) = kind.Claim
kind_of (call.Go g) = kind.Go
kind_of call.Spawn = kind.Spawn
kind_of call.Yield = kind.Yield
kind_of call.Exit = kind.Exit
kind_of (call.Make capacity) = kind.Make
kind_of (call.Send (Some c) v) = kind.Send
kind_of (call.Send None v) = kind.SendNil
kind_of (call.Recv (Some c)) = kind.Recv
kind_of (call.Recv None) = kind.RecvNil
kind_of (call.Close (Some c)) = kind.Close
kind_of (call.Close None) = kind.CloseNil
kind_of (call.Len (Some c)) = kind.Len
kind_of (call.Len None) = kind.LenNil
kind_of (call.Cap (Some c)) = kind.Cap
kind_of (call.Cap None) = kind.CapNil
kind_of (call.Select cases has_default until) = kind.Select
kind_of (call.Sleep until) = kind.Sleep
kind_of (call.Procs n) = kind.Procs
kind_of call.Gopark = kind.Gopark
kind_of (call.Ready g) = kind.Ready
kind_of call.Enter = kind.Enter
kind_of (call.Leave number) = kind.Leave
kind_of call.Spin = kind.Spin
kind_of call.Woken = kind.Woken
kind_of call.Keep = kind.Keep
kind_of call.Unspin = kind.Unspin
kind_of call.Poke = kind.Poke
kind_of call.Declare = kind.Declare
kind_of call.Bare = kind.Bare
kind_of call.Park = kind.Park
kind_of (call.Tick moment) = kind.Tick

abbrev pub head_of : Entry → Head
head_of e = record { m = e.m; call = kind_of e.call }
