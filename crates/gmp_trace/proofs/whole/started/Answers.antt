use Rattle.std.proofs.Common.{◌≡◌, ◌≤◌, ◌<◌, ◌^◌, ℕ, refl, sym, ap, ◌∙◌, length, sum, List, [], slice_index, arith}
use Rattle.std.proofs.lemmas.List.{length-map}
use Rattle.gmp_seq.specs.declared.call.Limits.{Limits}
use Rattle.gmp_seq.specs.Fits.{AreLimits}
use Rattle.gmp_start.specs.declared.start.Start.{Start}
use Rattle.gmp_start.specs.Start.{channel_of, state_of}
use Rattle.gmp_trace.specs.StartWhole.{IsStart}
use Rattle.gmp_trace.proofs.Body.{each_within}
use Rattle.gmp_trace.proofs.StartBack.{forms_back}
use Rattle.gmp_trace.proofs.whole.started.Goals as goal

within : (most : ℕ) (xs ys : List ℕ) (m : ℕ) → slice_index ys m ≡ slice_index xs m → sum xs < most → slice_index ys m < most
within most xs ys m same few = let one = each_within xs m in omega (arith, one, same, few)

few_listed : (limits : Limits) (bodies : ℕ) (s : Start) → AreLimits limits bodies [] → IsStart limits bodies (state_of s) → length s.channels.items ≤ 1024
few_listed limits bodies s range is =
    let forms = forms_back limits bodies (sum s.counts.items) (state_of s) is.lines in
    let listed = forms.few_channels in
    let most = range.channels.1 in
    let same = length-map s.channels.items channel_of in
    omega (arith, listed, most, same)

pub begin_line-requires-clause-channels : goal.begin_line-requires-clause-channels
begin_line-requires-clause-channels c =
    let is = rw c.in-Ok-found.is at c.in-Ok.ensures.found in
    few_listed c.args.limits c.args.bodies c.in-Ok-found.found.0 c.requires.range is.start

pub begin_line-requires-clause-stock : goal.begin_line-requires-clause-stock
begin_line-requires-clause-stock c =
    let is = rw c.in-Ok-found.is at c.in-Ok.ensures.found in
    omega (arith, is.start.lines.stock, c.requires.range.stock)

pub returns-clause-first : goal.returns-clause-first
returns-clause-first c =
    let is = rw c.in-Ok-found.is at c.in-Ok.ensures.found in
    let start = c.in-Ok-found.found.0 in
    let few = is.start.together.entries in
    let most = c.requires.range.entries.1 in
    let listed = few_listed c.args.limits c.args.bodies start c.requires.range is.start in
    let same = length-map start.channels.items channel_of in
    let counts : sum start.counts.items < 2 ^ 63 = omega (arith, few, most) in
    record {
      small = record {
        machines = omega (arith, c.requires.range.machines);
        number = omega (arith, few, most, c.made.ensures);
        lines = omega (arith, is.start.lines.stock, listed, c.requires.range.stock, c.begin_line.ensures, c.from-2.ensures);
        made = λ m lt. within (2 ^ 63) start.counts.items c.made_by.result m (c.made_by.ensures m lt ∙ ap (λ (xs : List ℕ). slice_index xs m) c.deref.ensures.value) counts;
      };
      machines = refl;
      number = sym c.made.ensures;
      lines = omega (arith, same, c.begin_line.ensures, c.from-2.ensures);
      made = λ m lt. c.made_by.ensures m.0 lt ∙ ap (λ (xs : List ℕ). slice_index xs m.0) c.deref.ensures.value;
    }
