-- What a call does to the shelf is in turn.
use Rattle.std.proofs.Common.{◌≡◌, inl, inr, List, [], ◌∷◌, Some, sym, ◌∙◌}
use Rattle.std.proofs.lemmas.List.{append-nil}
use Rattle.gmp_base.specs.declared.number.GNo.{GNo}
use Rattle.gmp_seq.specs.declared.call.Call.{Call}
use Rattle.gmp_seq.specs.declared.call.Call.TheVariants as call
use Rattle.gmp_seq.specs.declared.call.Reply.{Reply}
use Rattle.gmp_seq.specs.declared.call.Reply.TheVariants as reply
use Rattle.gmp_seq.specs.Table.{Table}
use Rattle.gmp_fair.specs.Fair.{InTurn}
use Rattle.gmp_goroutines.specs.Shelf.{Shelves}

as_was : (old new : List GNo) → new ≡ old → InTurn old new
as_was old new e = inl ([], e ∙ sym (append-nil old))

pub in_turn : (c : Call) (answer : Reply) (t now : Table) (old new : List GNo) → Shelves c answer t now old new → InTurn old new
in_turn call.Take (reply.Ticket r) t now old new h = inr (r.g, h)
in_turn call.Take reply.Nothing t now old new h = as_was old new h.1
in_turn (call.Put r) answer t now old new h = inl (r.g ∷ [], h)
in_turn call.Yield (reply.Shelved r) t now old new h = inl (r.g ∷ [], h)
in_turn (call.Leave number) (reply.Shelved r) t now old new h = inl (r.g ∷ [], h)
in_turn (call.Close (Some c)) (reply.Closed n) t now old new h = inl (h.0, h.2)
in_turn (call.Tick moment) answer t now old new h = inl (h.0, h.2)
in_turn _ answer t now old new h = as_was old new h
