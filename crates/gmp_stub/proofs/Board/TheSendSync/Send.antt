use denote.RattleType.{RattleType}
use denote.Param.Send.{IsSend}
use Rattle.gmp_stub.proofs.Sent.{board_send}
use Rattle.gmp_stub.specs.contracts.Board.{the_row}

pub send : (X : RattleType) → IsSend (the_row X)
send = board_send
