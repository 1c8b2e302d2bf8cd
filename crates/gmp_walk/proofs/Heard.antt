-- Entries that a listener hears, one more.
use Rattle.std.proofs.Common.{List, [], ◌∷◌, ◌++◌, refl, subst}
use Rattle.gmp_seq.specs.declared.call.Entry.{Entry}
use Rattle.gmp_seq.specs.declared.call.Limits.{Limits}
use Rattle.gmp_seq.specs.declared.status.Goroutine.{Goroutine}
use Rattle.gmp_seq.specs.Run.{IsStep}
use Rattle.gmp_seq.specs.State.{State}
use Rattle.gmp_walk.specs.Led.{RunsHeard}

pub hears_next : {L : Type 0} (hears : L → Entry → List Goroutine → L → Type 0) (limits : Limits) (old mid new : State) (h : List Entry) (e : Entry) (l between l' : L)
    → RunsHeard hears limits old h mid l between → IsStep limits e mid new → hears between e new.table.goroutines l' → RunsHeard hears limits old (h ++ e ∷ []) new l l'
hears_next {L} hears limits old mid new [] e l between l' (state, same) step heard =
    let from : IsStep limits e old new = subst (λ (s : State). IsStep limits e s new) state step in
    let first : hears l e new.table.goroutines l' = subst (λ (x : L). hears x e new.table.goroutines l') same heard in
    (new, l', from, first, (refl, refl))
hears_next {L} hears limits old mid new (d ∷ h) e l between l' (s, x, one, two, rest) step heard =
    (s, x, one, two, hears_next hears limits s mid new h e x between l' rest step heard)
