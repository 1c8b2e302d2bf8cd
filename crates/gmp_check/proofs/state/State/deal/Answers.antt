use Rattle.std.proofs.Common.{◌≡◌, true, None, [], ◌∷◌, sym, ap, subst, ◌∙◌}
use Rattle.gmp_base.specs.declared.ask.Fault.TheVariants as fault
use Rattle.gmp_check.proofs.Deciding.{decides_as}
use Rattle.gmp_check.specs.Decides.{Decides}
use Rattle.gmp_seq.specs.Channels.{names_no_missing}
use Rattle.gmp_seq.specs.declared.call.Reply.TheVariants as reply
use Rattle.gmp_seq.specs.declared.call.Taken.TheVariants as taken
use Rattle.gmp_seq.specs.declared.status.Kind.TheVariants as kind
use Rattle.gmp_seq.specs.State.{State}
use Rattle.gmp_seq.specs.Step.{Blocks, Communicates, Deals}
use Rattle.gmp_seq.specs.Waits.{channel_of}
use Rattle.gmp_check.proofs.state.State.deal.Goals as goal

pub returns-in-Sent-clause-decides : goal.returns-in-Sent-clause-decides
returns-in-Sent-clause-decides c =
    let old = c.args.self.now in
    let made : names_no_missing old.channels (channel_of c.args.case) ≡ true =
    ap (λ (s : State). names_no_missing s.channels (channel_of c.args.case)) (sym c.self.view_is)
    ∙ ap (names_no_missing c.self.inside.channels) (sym c.channel_of.ensures) ∙ sym c.has-has.ensures ∙ c.if-has-2.true in
    subst (λ r. Decides (Deals c.args.g c.args.case r) old c.communicate-in-Sent.new.self c.communicate-in-Sent.result) (sym c.in-Sent.is)
    (decides_as (Communicates c.args.case (taken.Sent c.in-Sent.to)) (Deals c.args.g c.args.case (reply.Sent c.in-Sent.to)) old c.communicate-in-Sent.new.self c.communicate-in-Sent.result (λ other is. (made, is)) (λ other is. is.1) c.communicate-in-Sent.ensures.decides)

pub returns-in-Got-clause-decides : goal.returns-in-Got-clause-decides
returns-in-Got-clause-decides c =
    let old = c.args.self.now in
    let made : names_no_missing old.channels (channel_of c.args.case) ≡ true =
    ap (λ (s : State). names_no_missing s.channels (channel_of c.args.case)) (sym c.self.view_is)
    ∙ ap (names_no_missing c.self.inside.channels) (sym c.channel_of.ensures) ∙ sym c.has-has.ensures ∙ c.if-has-3.true in
    subst (λ r. Decides (Deals c.args.g c.args.case r) old c.communicate-in-Got.new.self c.communicate-in-Got.result) (sym c.in-Got.is)
    (decides_as (Communicates c.args.case (taken.Got c.in-Got.v c.in-Got.sent c.in-Got.from)) (Deals c.args.g c.args.case (reply.Got c.in-Got.v c.in-Got.sent c.in-Got.from)) old c.communicate-in-Got.new.self c.communicate-in-Got.result (λ other is. (made, is)) (λ other is. is.1) c.communicate-in-Got.ensures.decides)

pub returns-in-SendOnClosed-clause-decides : goal.returns-in-SendOnClosed-clause-decides
returns-in-SendOnClosed-clause-decides c =
    let old = c.args.self.now in
    let made : names_no_missing old.channels (channel_of c.args.case) ≡ true =
    ap (λ (s : State). names_no_missing s.channels (channel_of c.args.case)) (sym c.self.view_is)
    ∙ ap (names_no_missing c.self.inside.channels) (sym c.channel_of.ensures) ∙ sym c.has-has.ensures ∙ c.if-has.true in
    subst (λ r. Decides (Deals c.args.g c.args.case r) old c.communicate.new.self c.communicate.result) (sym (c.in-Fault.is ∙ ap reply.Fault c.in-SendOnClosed.is))
    (decides_as (Communicates c.args.case taken.Failed) (Deals c.args.g c.args.case (reply.Fault fault.SendOnClosed)) old c.communicate.new.self c.communicate.result (λ other is. (made, is)) (λ other is. is.1) c.communicate.ensures.decides)

pub returns-in-Waits-clause-decides : goal.returns-in-Waits-clause-decides
returns-in-Waits-clause-decides c =
    let old = c.args.self.now in
    let made : names_no_missing old.channels (channel_of c.args.case) ≡ true =
    ap (λ (s : State). names_no_missing s.channels (channel_of c.args.case)) (sym c.self.view_is)
    ∙ ap (names_no_missing c.self.inside.channels) (sym c.channel_of.ensures) ∙ sym c.has-has.ensures ∙ c.if-has-4.true in
    subst (λ r. Decides (Deals c.args.g c.args.case r) old c.block.new.self c.block.result) (sym c.in-Waits.is)
    (decides_as (Blocks c.args.g kind.Plain (c.args.case ∷ []) None) (Deals c.args.g c.args.case (reply.Waits)) old c.block.new.self c.block.result (λ other is. (made, is)) (λ other is. is.1) c.block.ensures.decides)
