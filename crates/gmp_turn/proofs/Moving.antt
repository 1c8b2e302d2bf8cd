-- Bodies and owners stay, in the hand or in their places, each way that they go by a reply.
use Rattle.std.proofs.Common.{◌≡◌, ◌⊎◌, inl, inr, ℕ, List, Option, None, Some, IsNone, refl, sym, true≢false}
use Rattle.std.specs.Option.{option_map}
use Rattle.gmp_base.specs.declared.ask.Woke.{Woke}
use Rattle.gmp_base.specs.declared.number.GNo.{GNo}
use Rattle.gmp_base.specs.declared.refusal.Refusal.{Refusal}
use Rattle.gmp_base.specs.declared.refusal.Refusal.TheVariants.{OutOfMemory}
use Rattle.gmp_base.specs.declared.value.Called.{Called}
use Rattle.gmp_base.specs.declared.value.Held.{Held}
use Rattle.gmp_base.specs.declared.value.Proc.{Proc}
use Rattle.gmp_seq.specs.declared.call.Reply.{Reply}
use Rattle.gmp_seq.specs.declared.call.Reply.TheVariants as reply
use Rattle.gmp_book.specs.declared.values.Way.{Way}
use Rattle.gmp_book.specs.declared.values.Way.TheVariants.{Stays, Home, OutOfPlace, IntoCall, OutOfCall}
use Rattle.gmp_book.specs.Hands.{HandsBody, HandsOwner, handed_back, with_home, with_owner}
use Rattle.gmp_driver.specs.declared.registers.CalledParts.{CalledParts}
use Rattle.gmp_driver.specs.declared.registers.HeldParts.{HeldParts}
use Rattle.gmp_driver.specs.declared.registers.ProcParts.{ProcParts}
use Rattle.gmp_driver.specs.Loads.{called_of, called_parts, held_of, held_parts, proc_of, proc_parts}
use Rattle.gmp_driver.specs.Registers.{first_of}
use Rattle.gmp_turn.specs.Values.{AreOut, KeepsValues, called_body, held_body, proc_owner}
use Rattle.gmp_turn.proofs.Keeping.{come_out, go_home, stay}

alone : {X : Type 0} (o : Option X) → first_of o None ≡ o
alone None = refl
alone (Some x) = refl

module _ {T : Type 0} where
  -- the body of goroutine i among these two
  abbrev pub body_of : Option (HeldParts T) → Option (CalledParts T) → ℕ → Option T
  body_of h c i = first_of (held_body h i) (called_body c i)

  -- what a call uses of the bodies in hand, and what it leaves, suits the way that the body goes
  abbrev pub MayGo : Way → Option (HeldParts T) → Option (CalledParts T) → Option (HeldParts T) → Option (CalledParts T) → Type 0
  MayGo Stays used used_called left left_called = Unit {0}
  MayGo Home used used_called left left_called = (left ≡ None) × (left_called ≡ None) × (IsNone used ⊎ IsNone used_called)
  MayGo OutOfPlace used used_called left left_called = (used ≡ None) × (used_called ≡ None) × (left ≡ None) × (left_called ≡ None)
  MayGo IntoCall used used_called left left_called = (used_called ≡ None) × (left ≡ None) × (left_called ≡ None)
  MayGo OutOfCall used used_called left left_called = (used ≡ None) × (left ≡ None) × (left_called ≡ None)

  module _ (run : ℕ) (old : List (Option T)) where
    pub give_held : (h : Option (HeldParts T)) (c : Option (CalledParts T)) → IsNone h ⊎ IsNone c → AreOut (body_of h c) old → KeepsValues (body_of h c) (body_of None c) old (with_home (option_map (held_of run) h) None old)
    give_held None c one out = stay _ _ old (λ i. refl) out
    give_held (Some h) None one out = go_home _ _ old h.g.0 h.body (λ i. alone _) (λ i. refl) out
    give_held (Some h) (Some c) (inl e) out = absurd (true≢false e)
    give_held (Some h) (Some c) (inr e) out = absurd (true≢false e)

    pub give_called : (h : Option (HeldParts T)) (c : Option (CalledParts T)) → IsNone h ⊎ IsNone c → AreOut (body_of h c) old → KeepsValues (body_of h c) (body_of h None) old (with_home None (option_map (called_of run) c) old)
    give_called h None one out = stay _ _ old (λ i. refl) out
    give_called None (Some c) one out = go_home _ _ old c.g.0 c.body (λ i. refl) (λ i. refl) out
    give_called (Some h) (Some c) (inl e) out = absurd (true≢false e)
    give_called (Some h) (Some c) (inr e) out = absurd (true≢false e)

  module _ (run n : ℕ) (g : GNo) (told : Woke) (old new : List (Option T)) (bh : Option (Held T)) (bc : Option (Called T)) (lh : Option (HeldParts T)) (lc : Option (CalledParts T)) where
    abbrev Kept : Way → Option (HeldParts T) → Option (CalledParts T) → Type 0
    Kept w h c =
        MayGo w h c lh lc → HandsBody w n g told (option_map (held_of run) h) (option_map (called_of run) c) bh bc old new → AreOut (body_of (first_of h lh) (first_of c lc)) old
        → KeepsValues (body_of (first_of h lh) (first_of c lc)) (body_of (first_of (option_map held_parts bh) lh) (first_of (option_map called_parts bc) lc)) old new

    pub body_kept : (w : Way) (h : Option (HeldParts T)) (c : Option (CalledParts T)) → Kept w h c
    body_kept Stays None None f k out = rw (k.0, k.1, k.2) (stay _ _ old (λ i. refl) out)
    body_kept Stays None (Some c) f k out = rw (k.0, k.1, k.2) (stay _ _ old (λ i. refl) out)
    body_kept Stays (Some h) None f k out = rw (k.0, k.1, k.2) (stay _ _ old (λ i. refl) out)
    body_kept Stays (Some h) (Some c) f k out = rw (k.0, k.1, k.2) (stay _ _ old (λ i. refl) out)
    body_kept Home None None f k out = rw (k.0, k.1, k.2) (stay _ _ old (λ i. refl) out)
    body_kept Home None (Some c) f k out = rw (k.0, k.1, k.2, f.0, f.1) (give_called run old None (Some c) (inl refl) (rw f.0 at out))
    body_kept Home (Some h) None f k out = rw (k.0, k.1, k.2, f.0, f.1) (give_held run old (Some h) None (inr refl) (rw f.1 at out))
    body_kept Home (Some h) (Some c) f k out = absurd (elim f.2 [ inl e ↦ true≢false e | inr e ↦ true≢false e ])
    body_kept OutOfPlace h c f k out = rw (k.1, k.2, k.4, f.0, f.1, f.2, f.3) (come_out _ _ old g.0 k.0 (λ i. refl) (λ i. alone _) k.3)
    body_kept IntoCall None c f k out = rw (k.0, k.1, k.2, f.0, f.1, f.2) (stay _ _ old (λ i. refl) (rw (f.0, f.1, f.2) at out))
    body_kept IntoCall (Some h) c f k out = rw (k.0, k.1, k.2, f.0, f.1, f.2) (stay _ _ old (λ i. sym (alone _)) (rw (f.0, f.2) at out))
    body_kept OutOfCall h None f k out = rw (k.0, k.1, k.2, f.0, f.1, f.2) (stay _ _ old (λ i. refl) (rw (f.0, f.1, f.2) at out))
    body_kept OutOfCall h (Some c) f k out = rw (k.0, k.1, k.2, f.0, f.1, f.2) (stay _ _ old (λ i. alone _) (rw (f.0, f.1) at out))

  -- a goroutine that is handed back has its body
  pub held_again : (run : ℕ) (why : Refusal) (h l : Option (HeldParts T)) (i : ℕ) → held_body (first_of (option_map held_parts (option_map (handed_back why) (option_map (held_of run) h))) l) i ≡ held_body (first_of h l) i
  held_again run why None l i = refl
  held_again run OutOfMemory (Some h) l i = refl
  held_again run _ (Some h) l i = refl

  pub held_same : (run : ℕ) (h : Option (HeldParts T)) → option_map held_parts (option_map (held_of run) h) ≡ h
  held_same run None = refl
  held_same run (Some h) = refl

  pub called_same : (run : ℕ) (c : Option (CalledParts T)) → option_map called_parts (option_map (called_of run) c) ≡ c
  called_same run None = refl
  called_same run (Some c) = refl

module _ {Q : Type 0} where
  -- what a call uses and what it leaves suits the way that the owner goes
  abbrev pub MayPass : Reply → Option (ProcParts Q) → Option (ProcParts Q) → Type 0
  MayPass (reply.Proc p) used left = (used ≡ None) × (left ≡ None)
  MayPass (reply.Runs p) used left = (used ≡ None) × (left ≡ None)
  MayPass (reply.Entered p woken) used left = left ≡ None
  MayPass (reply.Idle p) used left = left ≡ None
  MayPass _ used left = Unit {0}

  pub proc_same : (run : ℕ) (x : Option (ProcParts Q)) → option_map proc_parts (option_map (proc_of run) x) ≡ x
  proc_same run None = refl
  proc_same run (Some x) = refl

  pub give_owner : (run : ℕ) (old : List (Option Q)) (x : Option (ProcParts Q)) → AreOut (proc_owner x) old → KeepsValues (proc_owner x) (proc_owner None) old (with_owner (option_map (proc_of run) x) old)
  give_owner run old None out = stay _ _ old (λ i. refl) out
  give_owner run old (Some x) out = go_home _ _ old x.p.0 x.owner (λ i. refl) (λ i. refl) out

  module _ (run n : ℕ) (old new : List (Option Q)) (x l : Option (ProcParts Q)) (back : Option (Proc Q)) where
    pub owner_kept : (answer : Reply) → MayPass answer x l → HandsOwner answer n (option_map (proc_of run) x) back old new → AreOut (proc_owner (first_of x l)) old
        → KeepsValues (proc_owner (first_of x l)) (proc_owner (first_of (option_map proc_parts back) l)) old new
    owner_kept (reply.Proc p) f k out = rw (k.1, k.3, f.0, f.1) (come_out _ _ old p.0 k.0 (λ i. refl) (λ i. refl) k.2)
    owner_kept (reply.Runs p) f k out = rw (k.1, k.3, f.0, f.1) (come_out _ _ old p.0 k.0 (λ i. refl) (λ i. refl) k.2)
    owner_kept (reply.Entered p woken) f k out = rw (k.0, k.1, f, alone x) (give_owner run old x (rw (f, alone x) at out))
    owner_kept (reply.Idle p) f k out = rw (k.0, k.1, f, alone x) (give_owner run old x (rw (f, alone x) at out))
    owner_kept _ f k out = rw (k.0, k.1, proc_same run x) (stay _ _ old (λ i. refl) out)
