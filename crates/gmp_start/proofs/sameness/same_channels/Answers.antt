use Rattle.std.proofs.Common.{◌≡◌, map, rules, arith, sym, ap, ◌∙◌, below_more, Some}
use Rattle.std.proofs.lemmas.List.{length-map}
use Rattle.std.specs.List.{slice_get}
use Rattle.gmp_start.specs.Start.{channel_of}
use Rattle.gmp_start.proofs.Loops.{mapped, same_lists}
use Rattle.gmp_start.proofs.sameness.same_channels.Goals as goal

pub returns-then-not-same_channel : goal.returns-then-not-same_channel
returns-then-not-same_channel c =
    let i = c.loop-i.i in
    let x = c.index-a-i.result in
    let y = c.index-b-i.result in
    let one = mapped channel_of c.args.a.now i x (omega arith) c.index-a-i.is in
    let two = mapped channel_of c.args.b.now i y (omega arith) c.index-b-i.is in (
      (λ f. search (rules, f)),
      (λ e. c.if-not-same_channel.ensures.1 (let both : Some (channel_of x) ≡ Some (channel_of y) = sym one ∙ ap (λ l. slice_get l i) e ∙ two in cc)),
    )

pub loop-i-preserved : goal.loop-i-preserved
loop-i-preserved c =
    let i = c.loop-i.i in
    let x = c.index-a-i.result in
    let y = c.index-b-i.result in
    let one = mapped channel_of c.args.a.now i x (omega arith) c.index-a-i.is in
    let two = mapped channel_of c.args.b.now i y (omega arith) c.index-b-i.is in
    below_more _ _ c.loop-i.invariant (one ∙ ap Some (c.if-not-same_channel.ensures.0 (search rules)) ∙ sym two)

pub returns : goal.returns
returns c =
    let a = c.args.a.now in
    let b = c.args.b.now in (
      (λ t. same_lists (map channel_of a) (map channel_of b) (omega (arith, length-map a channel_of, length-map b channel_of))
          (λ k lt. c.loop-i.invariant k (omega (arith, lt, length-map a channel_of)))),
      (λ e. search rules),
    )
