use Rattle.std.proofs.Common.{◌≡◌, ◌∙◌, ◌++◌, ◌∷◌, [], map, length, List, arith, sym, ap, subst}
use Rattle.std.proofs.lemmas.List.{length-append, length-map, map-append}
use Rattle.gmp_seq.specs.Channels.{Channel}
use Rattle.gmp_start.specs.Start.{channel_of}
use Rattle.gmp_trace.proofs.StartPushing.{channels_more}
use Rattle.gmp_trace.specs.StartNext.{AreChannels}
use Rattle.gmp_trace.proofs.start.channels.channels_of.Goals as goal

pub loop-count-preserved : goal.loop-count-preserved
loop-count-preserved c =
    let items : c.push.new.self.items ≡ c.loop-count.channels.items ++ c.in-Some.channel ∷ [] = c.in_ok-push.ensures.items in
    let mapped : map channel_of c.push.new.self.items ≡ map channel_of c.loop-count.channels.items ++ channel_of c.in-Some.channel ∷ [] =
    ap (map channel_of) items ∙ map-append channel_of c.loop-count.channels.items (c.in-Some.channel ∷ []) in
    let many = c.loop-count.invariant.1 in (
      subst (λ (xs : List Channel). AreChannels c.args.limits c.args.bodies c.args.text.now xs c.in-Some.more.now) (sym mapped)
          (channels_more c.args.limits c.args.bodies c.loop-count.count c.args.text.now (map channel_of c.loop-count.channels.items) c.loop-count.rest.now (channel_of c.in-Some.channel) c.in-Some.more.now
          c.loop-count.invariant.0 (length-map c.loop-count.channels.items channel_of ∙ many) (rw c.in-Some.is at c.in_ok-channel.ensures)),
      ap length items ∙ length-append c.loop-count.channels.items (c.in-Some.channel ∷ []) ∙ omega (arith, many),
    )
