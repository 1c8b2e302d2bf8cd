use Rattle.std.proofs.Common.{◌≡◌, [], ◌∷◌, nat_lt, true, Some, ℕ, rules, arith, ap}
use Rattle.std.proofs.lemmas.Bool.{cond-true}
use Rattle.gmp_base.specs.declared.number.Readiness.{Readiness}
use Rattle.gmp_seq.specs.Table.{epoch_at}
use Rattle.gmp_start.specs.Start.{table_of}
use Rattle.gmp_explain.specs.Spoken.{Ticket}
use Rattle.gmp_explain.specs.Stated.{latest_said}
use Rattle.gmp_explain.proofs.Spoken.{as_said, one}
use Rattle.gmp_explain.proofs.before.tell_latest.Goals as goal

pub returns : goal.returns
returns g c =
    let t = table_of c.args.story.now.last in
    let r : Readiness = record { g = c.args.g; epoch = epoch_at t c.args.g } in
    let some : nat_lt 0 (epoch_at t c.args.g) ≡ true = search (rules, arith) in
    as_said g.S.Sink.told c.args.sink.now c.tell.new.self (latest_said t c.args.g) (Ticket r ∷ []) (cond-true _ _ _ some)
    (one g.S.Sink.told c.args.sink.now c.tell.new.self (Ticket r) c.in_ok-tell.ensures (ap (λ (n : ℕ). let x : Readiness = record { g = c.args.g; epoch = n } in Some (Ticket x)) c.epoch-epoch.ensures))
