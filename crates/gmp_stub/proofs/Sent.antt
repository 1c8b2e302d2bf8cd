-- Boards and stubs name no thread's key, so they may go to another thread.
use Rattle.std.proofs.Common.{ℕ, zero, suc, List, [], ◌∷◌, map}
use base.Stored.{Gv}
use base.Shift.{Keyless}
use denote.RattleType.{RattleType}
use denote.Param.Send.{IsSend}
use Rattle.gmp_stub.specs.Rows.{chain, row, board_owns, stub_owns}
use Rattle.gmp_stub.specs.contracts.Board as Board
use Rattle.gmp_stub.specs.contracts.Stub as Stub

chain-Keyless : (xs : List Gv) (γ : ℕ) → Keyless (chain xs γ)
chain-Keyless [] γ = (tt, tt)
chain-Keyless (x ∷ xs) γ = λ c. (tt, (tt, (tt, chain-Keyless xs c.1)))

row_Keyless : (i : ℕ) (x : Gv) (γ : ℕ) → Keyless (row i x γ)
row_Keyless zero x γ = λ c. (tt, tt)
row_Keyless (suc i) x γ = λ c. (tt, row_Keyless i x c.1)

board_keyless : {X : Type 0} (code : X → Gv) (γ : ℕ) (vs : List X) → Keyless (board_owns code γ vs)
unfolding board_owns
board_keyless code γ vs = chain-Keyless (map code vs) γ

stub_keyless : {X : Type 0} (code : X → Gv) (γ i : ℕ) (v : X) → Keyless (stub_owns code γ i v)
unfolding stub_owns
stub_keyless code γ i v = row_Keyless i (code v) γ

pub board_send : (X : RattleType) → IsSend (Board.the_row X)
board_send X = record { owned = λ d vs. ((λ vss. (tt, ((λ uss. (tt, tt)), tt))), board_keyless X.coded.code d.name d.values); leaving = λ k f vs. tt }

pub stub_send : (X : RattleType) → IsSend (Stub.the_row X)
stub_send X = record { owned = λ d vs. ((λ vss. (tt, ((λ uss. (tt, tt)), tt))), stub_keyless X.coded.code d.name d.at d.value); leaving = λ k f vs. tt }
