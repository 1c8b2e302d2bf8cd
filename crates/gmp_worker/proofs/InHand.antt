-- What a machine has in hand that is about to resume a body, or to make a blocking call.
use Rattle.std.proofs.Common.{◌≡◌, Option, Some, None, subst, sym}
use Rattle.gmp_base.specs.declared.ask.Woke.{Woke}
use Rattle.gmp_base.specs.declared.number.GNo.{GNo}
use Rattle.gmp_driver.specs.declared.act.Act.TheVariants as act
use Rattle.gmp_driver.specs.declared.place.Place.{Place}
use Rattle.gmp_driver.specs.declared.place.Place.TheVariants as place
use Rattle.gmp_driver.specs.declared.registers.CalledParts.{CalledParts}
use Rattle.gmp_driver.specs.declared.registers.HeldParts.{HeldParts}
use Rattle.gmp_driver.specs.declared.registers.Registers.{Registers}
use Rattle.gmp_driver.specs.Bodies.{body_at}
use Rattle.gmp_driver.specs.Machine.{Machine, held_at}
use Rattle.gmp_driver.specs.Seen.{seen}
use Rattle.gmp_driver.specs.Table.{act_at, next_act}
use Rattle.gmp_worker.specs.Local.{CalledWhere, HeldWhere}

none_is_some : {X : Type 0} (x : X) → ◌≡◌ {A = Option X} (Some x) None → ⊥
none_is_some x e = absurd cc

some_is : {X : Type 0} (x y : X) → ◌≡◌ {A = Option X} (Some x) (Some y) → y ≡ x
some_is x y e = cc

module _ {T Q : Type 0} where
  -- a goroutine that runs, with what its body is to be told
  pub held_where : (x : Machine T Q) (woke : Woke) (body : T) (P : HeldParts T → Type 0) → next_act x ≡ act.Resume → Some woke ≡ held_at x.place x.hand.held → Some body ≡ body_at x.place x.hand
      → ((g : GNo) → P (record { g = g; woke = woke; body = body })) → HeldWhere x P
  held_where x woke body P = at x.place x.hand where
    at : (here : Place) (hand : Registers T Q) → act_at (seen x) here ≡ act.Resume → Some woke ≡ held_at here hand.held → Some body ≡ body_at here hand
        → ((g : GNo) → P (record { g = g; woke = woke; body = body })) → HeldWhere (record x { hand = hand }) P
    at place.Run hand is told its p = run hand.held told its where
      run : (held : Option (HeldParts T)) → Some woke ≡ held_at place.Run held → Some body ≡ body_at place.Run (record hand { held = held }) → HeldWhere (record x { hand = record hand { held = held } }) P
      run None told its = absurd (none_is_some woke told)
      run (Some h) told its =
          subst (λ (w : Woke). P (record { g = h.g; woke = w; body = h.body })) (sym (some_is woke h.woke told))
          (subst (λ (b : T). P (record { g = h.g; woke = woke; body = b })) (sym (some_is body h.body its)) (p h.g))
    at place.Block hand is told its p = (let no : act.Block ≡ act.Resume = is in absurd cc)
    at here hand is told its p = absurd (none_is_some body its)

  -- a goroutine in its blocking call
  pub called_where : (x : Machine T Q) (body : T) (P : CalledParts T → Type 0) → next_act x ≡ act.Block → Some body ≡ body_at x.place x.hand
      → ((g : GNo) → P (record { g = g; body = body })) → CalledWhere x P
  called_where x body P = at x.place x.hand where
    at : (here : Place) (hand : Registers T Q) → act_at (seen x) here ≡ act.Block → Some body ≡ body_at here hand
        → ((g : GNo) → P (record { g = g; body = body })) → CalledWhere (record x { hand = hand }) P
    at place.Block hand is its p = call hand.called its where
      call : (called : Option (CalledParts T)) → Some body ≡ body_at place.Block (record hand { called = called }) → CalledWhere (record x { hand = record hand { called = called } }) P
      call None its = absurd (none_is_some body its)
      call (Some c) its = subst (λ (b : T). P (record { g = c.g; body = b })) (sym (some_is body c.body its)) (p c.g)
    at place.Run hand is its p = (let no : act.Resume ≡ act.Block = is in absurd cc)
    at here hand is its p = absurd (none_is_some body its)
