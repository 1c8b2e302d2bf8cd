use Rattle.std.proofs.Common.{◌≡◌, ◌∙◌, ℕ, IfErr, List, ap, length, rules, subst, sym, tests, vec_len}
use Rattle.gmp_seq.specs.declared.call.Entry.{Entry}
use Rattle.gmp_turn.specs.Whole.{IsWholeRun}
use Rattle.gmp_host.specs.declared.ending.Short.TheVariants as short
use Rattle.gmp_host.specs.Ends.{TellsOf}
use Rattle.gmp_host.specs.Played.{HasNoEnd}
use Rattle.gmp_host.proofs.Again.{err_of, legal_told, no_bad_limits, within_opening}
use Rattle.gmp_host.proofs.stepping.play_all.Goals as goal

-- the run came to no outcome
pub returns-in_err-ended-clause-endless : goal.returns-in_err-ended-clause-endless
returns-in_err-ended-clause-endless g c =
    let same : IfErr c.from_residual-in_err-ended.result (λ e. e ≡ c.in_err-ended.field-0.0) = search (rules, tests) in
    err_of (λ e. e ≡ short.NoEnd → HasNoEnd g.T.InHand.resumed g.T.InHand.called c.args.is_fair c.args.limits c.args.capacities.now c.args.bodies.items) c.in_err-ended.field-0.0 c.from_residual-in_err-ended.result same
    (λ is. record { last = c.in_ok-player.player; played = c.in_ok-player.ensures.played; none = sym c.outcome.ensures ∙ c.in_err-ended.ensures.none is })

pub returns-in_err-ended-clause-limits : goal.returns-in_err-ended-clause-limits
returns-in_err-ended-clause-limits g c =
    let kinds = c.in_err-ended.ensures.kinds in
    let same : IfErr c.from_residual-in_err-ended.result (λ e. e ≡ c.in_err-ended.field-0.0) = search (rules, tests) in
    err_of (λ e. e ≡ short.BadLimits → _ → ⊥) c.in_err-ended.field-0.0 c.from_residual-in_err-ended.result same (λ bad _. no_bad_limits c.in_err-ended.field-0.0 kinds bad)

-- memory was refused once the run was made
pub returns-in_err-ended-clause-memory : goal.returns-in_err-ended-clause-memory
returns-in_err-ended-clause-memory g c =
    let book = c.in_ok-player.player.core.system.book in
    let same : IfErr c.from_residual-in_err-ended.result (λ e. e ≡ c.in_err-ended.field-0.0) = search (rules, tests) in
    let within = within_opening c.args.limits c.args.capacities.now (length c.args.bodies.items) book c.in_ok-player.ensures.opened c.history.ensures.within in
    err_of (λ e. e ≡ short.OutOfMemory → IsWholeRun c.args.limits (length c.args.bodies.items) c.args.capacities.now) c.in_err-ended.field-0.0 c.from_residual-in_err-ended.result same (λ is. (within, c.in_ok-player.ensures.whole))

-- it is legal, and its history is kept
pub returns-clause-ended : goal.returns-clause-ended
returns-clause-ended g c =
    let book = c.in_ok-player.player.core.system.book in
    let entries = ap (λ h. length h) (sym c.history.ensures.entries) ∙ c.in_ok-ended.ensures.entries in
    let size : vec_len c.args.bodies ≡ length c.args.bodies.items = search rules in
    let count =
    subst (λ (n : ℕ). TellsOf c.args.limits n c.args.capacities.now c.history.result.now.list c.in_ok-ended.field-0.outcome c.in_ok-ended.field-0.waiting.items c.in_ok-ended.field-0.lately.items) (c.len-count.ensures ∙ size) c.in_ok-ended.ensures.tells in
    let tells =
    subst (λ (h : List Entry). TellsOf c.args.limits (length c.args.bodies.items) c.args.capacities.now h c.in_ok-ended.field-0.outcome c.in_ok-ended.field-0.waiting.items c.in_ok-ended.field-0.lately.items) c.history.ensures.entries count in
    let told = legal_told c.args.limits c.args.capacities.now (length c.args.bodies.items) book c.in_ok-ended.field-0 c.in_ok-player.ensures.opened c.history.ensures.headline.legal c.history.ensures.within
    (sym c.outcome.ensures ∙ c.in_ok-ended.ensures.outcome) entries tells in
    (told.0, λ keeps. c.in_ok-history.ensures keeps ∙ (c.history-2.ensures.entries ∙ sym told.1))

pub returns-clause-played : goal.returns-clause-played
returns-clause-played g c =
    let size : vec_len c.args.bodies ≡ length c.args.bodies.items = search rules in
    let count =
    subst (λ (n : ℕ). TellsOf c.args.limits n c.args.capacities.now c.history.result.now.list c.in_ok-ended.field-0.outcome c.in_ok-ended.field-0.waiting.items c.in_ok-ended.field-0.lately.items) (c.len-count.ensures ∙ size) c.in_ok-ended.ensures.tells in
    let tells =
    subst (λ (h : List Entry). TellsOf c.args.limits (length c.args.bodies.items) c.args.capacities.now h c.in_ok-ended.field-0.outcome c.in_ok-ended.field-0.waiting.items c.in_ok-ended.field-0.lately.items) c.history.ensures.entries count in (
      record {
        last = c.in_ok-player.player;
        played = c.in_ok-player.ensures.played;
        ends = record { outcome = sym c.outcome.ensures ∙ c.in_ok-ended.ensures.outcome; entries = ap (λ h. length h) (sym c.history.ensures.entries) ∙ c.in_ok-ended.ensures.entries; tells = tells };
      },
      λ keeps. c.in_ok-history.ensures keeps ∙ c.history-2.ensures.entries,
    )
