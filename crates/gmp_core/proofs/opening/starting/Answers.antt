use Rattle.std.proofs.Common.{◌≡◌, [], ◌∷◌, ◌++◌, List, map, reverse, length, sym, ap, ◌∙◌, arith, rules}
use Rattle.std.proofs.lemmas.List.{append_assoc, length-append, reverse-append, reverse-reverse}
use Rattle.gmp_base.specs.declared.pass.Pass.{Pass}
use Rattle.gmp_driver.specs.Machine.{Machine}
use Rattle.gmp_core.specs.Opening.{at_start}
use Rattle.gmp_core.proofs.opening.starting.Goals as goal

pub loop-pass-init : goal.loop-pass-init
loop-pass-init g c = record {
  done = ([], search rules, c.requires.empty);
  room = let none = ap (λ (l : List (Machine _ _)). length l) c.requires.empty in let room = c.requires.room in omega (arith, none, room);
}

pub loop-pass-preserved : goal.loop-pass-preserved
loop-pass-preserved g c =
    let done = c.loop-pass.invariant.done in
    record {
      done = (
        c.in-Some.pass ∷ done.0,
        done.1 ∙ ap (λ (l : List Pass). l ++ done.0) c.in-Some.ensures.items ∙ append_assoc c.pop.new.self.items (c.in-Some.pass ∷ []) done.0,
        c.push_reserved.ensures.items ∙ rw (done.2, c.new_fair.ensures) (sym (reverse-append (at_start c.args.is_fair c.args.procs c.in-Some.pass ∷ []) (map (at_start c.args.is_fair c.args.procs) done.0))),
      );
      room =
          let passes = ap (λ (l : List Pass). length l) c.in-Some.ensures.items ∙ length-append c.pop.new.self.items (c.in-Some.pass ∷ []) in
          let drivers = ap (λ (l : List (Machine _ _)). length l) c.push_reserved.ensures.items ∙ length-append c.loop-pass.drivers.items (c.new_fair.result ∷ []) in
          let capacity = c.push_reserved.ensures.capacity in
          let room = c.loop-pass.invariant.room in
          omega (arith, passes, drivers, capacity, room);
    }

pub returns : goal.returns
returns g c =
    let done = c.loop-pass.invariant.done in
    let none : c.loop-pass.passes.items ≡ [] = search rules in
    c.reverse.ensures.items ∙ ap reverse done.2 ∙ reverse-reverse (map (at_start c.args.is_fair c.args.procs) done.0) ∙ ap (map (at_start c.args.is_fair c.args.procs)) (sym (done.1 ∙ ap (λ (l : List Pass). l ++ done.0) none))
