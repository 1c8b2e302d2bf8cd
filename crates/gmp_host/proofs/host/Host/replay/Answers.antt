use Rattle.gmp_host.proofs.host.Host.replay.Goals as goal

pub returns-clause-drawn : goal.returns-clause-drawn
returns-clause-drawn g c = rw (← c.new.ensures) c.replay_dealt.ensures.drawn
