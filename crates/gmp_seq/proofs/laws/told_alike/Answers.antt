use Rattle.gmp_seq.proofs.Told.{sender_alike, receiver_alike, closed_receiver, closed_sender}
use Rattle.gmp_seq.proofs.laws.told_alike.Goals as goal

pub returns : goal.returns
returns c = record { sender = sender_alike; receiver = receiver_alike; closed_to_receivers = closed_receiver; closed_to_senders = closed_sender }
