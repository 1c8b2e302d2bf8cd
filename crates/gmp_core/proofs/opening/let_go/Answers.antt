use Rattle.std.proofs.Common.{◌∷◌, [], IsSome, List, get_or, length, ap, ◌∙◌, subst, arith}
use Rattle.std.proofs.Math.Seq.{get_or-append_seam}
use Rattle.std.proofs.lemmas.List.{get_or_append_left, length-append}
use Rattle.gmp_driver.specs.Machine.{Machine}
use Rattle.gmp_core.proofs.opening.let_go.Goals as goal

pub loop-driver-preserved : goal.loop-driver-preserved
loop-driver-preserved g c = λ k d within.
    let items = c.in-Some.ensures.items in
    let longer = ap (λ (l : List (Machine _ _)). length l) items ∙ length-append c.pop.new.self.items (c.in-Some.driver ∷ []) in
    let here = get_or_append_left c.pop.new.self.items (c.in-Some.driver ∷ []) d k within in
    subst (λ (x : Machine _ _). IsSome x.pass) (ap (λ (l : List (Machine _ _)). get_or l k d) items ∙ here) (c.loop-driver.invariant k d (omega (arith, within, longer)))

pub into_pass-requires : goal.into_pass-requires
into_pass-requires g c =
    let items = c.in-Some.ensures.items in
    let rest = c.pop.new.self.items in
    let last = c.in-Some.driver in
    let longer = ap (λ (l : List (Machine _ _)). length l) items ∙ length-append rest (last ∷ []) in
    let here = ap (λ (l : List (Machine _ _)). get_or l (length rest) last) items ∙ get_or-append_seam rest last [] last in
    subst (λ (x : Machine _ _). IsSome x.pass) here (c.loop-driver.invariant (length rest) last (omega (arith, longer)))
