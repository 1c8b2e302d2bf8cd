-- What one try at a queue came to, as the act that the machine named.
use Rattle.std.proofs.Common.{◌≡◌, ℕ, Bool, true, false, is_some, List, Option, None, Some, refl, sym, ap, subst, ◌∙◌}
use Rattle.std.specs.Prelude.{IfSome}
use Rattle.gmp_base.specs.declared.number.PNo.{PNo}
use Rattle.gmp_driver.specs.declared.act.Act.{Act}
use Rattle.gmp_driver.specs.declared.act.Act.TheVariants as act
use Rattle.gmp_driver.specs.declared.act.Frequent.{Frequent}
use Rattle.gmp_driver.specs.declared.act.Told.{Told}
use Rattle.gmp_driver.specs.declared.registers.Registers.{Registers}
use Rattle.gmp_driver.specs.Frequent.{act_of}
use Rattle.gmp_driver.specs.Hunt.{begun, victim_of}
use Rattle.gmp_driver.specs.Local.{IsSteal, pop_for}
use Rattle.gmp_driver.specs.Machine.{Machine}
use Rattle.gmp_driver.specs.Seen.{seen}
use Rattle.gmp_driver.specs.Table.{next_act}
use Rattle.gmp_queue.specs.declared.ends.Owner.{Owner}
use Rattle.gmp_queue.specs.declared.ends.Thief.{Thief}
use Rattle.gmp_worker.specs.AtQueue.{IsToldOf, PopsFor, Pushes, Steals, StealsFrom, Tries, TurnsOnQueue}
use Rattle.gmp_worker.specs.Drawn.{drawn_for}
use Rattle.rand_pcg.specs.Lcg.{Lcg}

-- the act that is named in few bytes comes next
pub is_named : {T : Type 0} (x : Machine T Owner) (f which : Frequent) → f ≡ which → IfSome (act_of f) (λ (a : Act). next_act x ≡ a) → IfSome (act_of which) (λ (a : Act). next_act x ≡ a)
is_named x f which is named = subst (λ (h : Frequent). IfSome (act_of h) (λ (a : Act). next_act x ≡ a)) is named

module _ {T : Type 0} (x now : Machine T Owner) (Step : Told → Registers T Owner → Type 0) (told : IsToldOf x Step now) where
  pub told_pass : now.pass ≡ x.pass
  told_pass = ap (λ (y : Machine T Owner). y.pass) told.machine

  pub told_run : now.run ≡ x.run
  told_run = ap (λ (y : Machine T Owner). y.run) told.machine

  turned : (a : Act) → next_act x ≡ a → (word : ℕ) (thieves thieves' : List Thief) → Tries a x word x.hand thieves told.what told.hand thieves' → TurnsOnQueue x thieves word now thieves'
  turned a is word thieves thieves' tries = record {
    what = told.what;
    hand = told.hand;
    tries = subst (λ (b : Act). Tries b x word x.hand thieves told.what told.hand thieves') (sym is) tries;
    machine = told.machine;
  }

module _ {T : Type 0} (x now : Machine T Owner) (word : ℕ) (thieves : List Thief) where
  pub popped : (b : Bool) → next_act x ≡ pop_for b → IsToldOf x (PopsFor b x.run x.hand) now → TurnsOnQueue x thieves word now thieves
  popped false is told = turned x now (PopsFor false x.run x.hand) told act.Pop is word thieves thieves (told.step, refl)
  popped true is told = turned x now (PopsFor true x.run x.hand) told act.Drain is word thieves thieves (told.step, refl)

  pub pushed : next_act x ≡ act.Push → IsToldOf x (Pushes x.run x.hand) now → TurnsOnQueue x thieves word now thieves
  pushed is told = turned x now (Pushes x.run x.hand) told act.Push is word thieves thieves (told.step, refl)

  module _ (v : PNo) (thieves' : List Thief) where
    pub stole : next_act x ≡ act.Steal v → IsToldOf x (StealsFrom x None v thieves thieves') now → TurnsOnQueue x thieves word now thieves'
    stole is told = turned x now (StealsFrom x None v thieves thieves') told (act.Steal v) is word thieves thieves' told.step

    pub hunted : next_act x ≡ act.Hunt → v ≡ victim_of x.procs (begun (seen x) word) → IsToldOf x (StealsFrom x (Some word) v thieves thieves') now → TurnsOnQueue x thieves word now thieves'
    hunted is first told =
        let k = told.step in
        turned x now (StealsFrom x (Some word) v thieves thieves') told act.Hunt is word thieves thieves'
        (k.0, k.1, subst (λ (u : PNo). Steals x.run u thieves (is_some x.hand.to_claim) x.hand k.0 told.hand thieves') first k.2)

module _ (a : Act) where
  -- an act that draws no word leaves the generator
  pub undrawn : (b : Act) (g : Lcg) → a ≡ b → g ≡ (drawn_for b g).1 → g ≡ (drawn_for a g).1
  undrawn b g is same = same ∙ ap (λ (d : Act). (drawn_for d g).1) (sym is)

  pub is_steal : (drawn : Option ℕ) (b : Act) → a ≡ b → IsSteal b drawn → IsSteal a drawn
  is_steal drawn b is steals = subst (λ (d : Act). IsSteal d drawn) (sym is) steals

-- what was drawn for the act that is next, whose name is given: the word, and the generator that is left
module _ (next named : Act) (g left : Lcg) (word : ℕ) (is : named ≡ next) (drawn : (word, left) ≡ drawn_for named g) where
  is_drawn : (word, left) ≡ drawn_for next g
  is_drawn = drawn ∙ ap (λ (a : Act). drawn_for a g) is

  pub word_of : word ≡ (drawn_for next g).0
  word_of = ap (λ (d : ℕ × Lcg). d.0) is_drawn

  pub left_of : left ≡ (drawn_for next g).1
  left_of = ap (λ (d : ℕ × Lcg). d.1) is_drawn
