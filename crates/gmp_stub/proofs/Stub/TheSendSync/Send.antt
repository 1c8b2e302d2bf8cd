use denote.RattleType.{RattleType}
use denote.Param.Send.{IsSend}
use Rattle.gmp_stub.proofs.Sent.{stub_send}
use Rattle.gmp_stub.specs.contracts.Stub.{the_row}

pub send : (X : RattleType) → IsSend (the_row X)
send = stub_send
