-- How the bodies that the machines' acts leave stand to the speakers that the history leaves: where a machine is about to make the call that its
-- body asked for, the body is one ask ahead, and all others are the same. What a machine tells the goroutine that it runs is what the speaker is
-- told next. Where it is about to end a blocking call, it does so with what the body's last command says.
use Rattle.std.proofs.Common.{◌≡◌, inl, inr, ℕ, ◌<◌, List, length, get_or, set, map, Option, None, Some, refl, sym, ap, subst, ◌∙◌, arith, get_or-set_same, get_or-set_other}
use Rattle.std.proofs.lemmas.Bool.{cases_eq}
use Rattle.std.proofs.lemmas.List.{length-set}
use Rattle.std.proofs.lemmas.Option.{slice_get-map}
use Rattle.std.specs.List.{slice_get}
use Rattle.std.specs.Option.{option_map}
use Rattle.gmp_base.specs.declared.ask.Ask.{Ask}
use Rattle.gmp_base.specs.declared.ask.Woke.{Woke}
use Rattle.gmp_base.specs.declared.number.GNo.{GNo}
use Rattle.gmp_base.specs.declared.number.MNo.{MNo}
use Rattle.gmp_driver.specs.declared.registers.HeldParts.{HeldParts}
use Rattle.gmp_acts.proofs.Kept.{at_machine}
use Rattle.gmp_acts.proofs.Turning.{same_goroutine}
use Rattle.gmp_acts.specs.Hands.{PlainMachine}
use Rattle.gmp_acts.specs.System.{called_number, held_number, no_machine}
use Rattle.gmp_script.specs.Script.{AsksTold, Commands, asked_last}
use Rattle.gmp_seq.proofs.Manned.{set_at}
use Rattle.gmp_said.specs.Said.{Speaker, unheard}
use Rattle.gmp_said.specs.Standing.{due_at}
use Rattle.gmp_scene.specs.Scripted.{Speakers}

-- the machine is about to make the call that this goroutine, which it has in hand, asked for
abbrev pub IsAsking : PlainMachine → GNo → Ask → Type 0
IsAsking x g asked = (due_at x.place ≡ Some (inl asked)) × (held_number x.hand.held ≡ Some g)

-- the machine is about to end the blocking call of this goroutine, with this number
abbrev pub IsBringing : PlainMachine → GNo → ℕ → Type 0
IsBringing x g number = (due_at x.place ≡ Some (inr number)) × (called_number x.hand.called ≡ Some g)

-- the last command of its body says so
pub record Says (g : GNo) (number : ℕ) (stock : List (Option Commands)) : Type 0 where
  pub body : Commands
  pub in_stock : slice_get stock g.0 ≡ Some (Some body)
  pub says : number ≡ asked_last body

-- its body asked so, and the history does not have it yet
pub record IsAhead (g : GNo) (asked : Ask) (stock : List (Option Commands)) (now : Speakers) : Type 0 where
  pub before : Speaker Commands
  pub after : Commands
  pub in_stock : slice_get stock g.0 ≡ Some (Some after)
  pub in_now : slice_get now g.0 ≡ Some before
  pub asks : AsksTold before.body before.woke asked after

abbrev pub NoneAsks : List PlainMachine → GNo → Type 0
NoneAsks ms g = (n : MNo) (asked : Ask) → n.0 < length ms → IsAsking (get_or ms n.0 no_machine) g asked → ⊥

-- a speaker's body, as it stands in the stock
abbrev pub body_of : Option (Speaker Commands) → Option (Option Commands)
body_of o = option_map (λ (s : Speaker Commands). Some s.body) o

-- what a speaker is told next
abbrev pub woke_of : Option (Speaker Commands) → Option Woke
woke_of o = option_map (λ (s : Speaker Commands). s.woke) o

pub record Ties (ms : List PlainMachine) (stock : List (Option Commands)) (now : Speakers) : Type 0 where
  pub ahead : (n : MNo) (g : GNo) (asked : Ask) → n.0 < length ms → IsAsking (get_or ms n.0 no_machine) g asked → IsAhead g asked stock now
  pub even : (g : GNo) → NoneAsks ms g → slice_get stock g.0 ≡ body_of (slice_get now g.0)
  pub told : (n : MNo) (h : HeldParts Unit) → n.0 < length ms → (get_or ms n.0 no_machine).hand.held ≡ Some h → woke_of (slice_get now h.g.0) ≡ Some h.woke
  pub brings : (n : MNo) (g : GNo) (number : ℕ) → n.0 < length ms → IsBringing (get_or ms n.0 no_machine) g number → Says g number stock

-- what holds of machine n, and not of machine m, still holds of n once m is another
still : (P : PlainMachine → Type 0) (ms : List PlainMachine) (m n : MNo) (x : PlainMachine) → (P (get_or ms m.0 no_machine) → ⊥) → P (get_or ms n.0 no_machine) → P (get_or (set ms m.0 x) n.0 no_machine)
still P ms m n x not h =
    elim (cases_eq n.0 m.0) [
      | inl same ↦ absurd (not (subst (λ (i : ℕ). P (get_or ms i no_machine)) same h))
      | inr differ ↦ subst P (sym (get_or-set_other ms m.0 n.0 x no_machine differ)) h
    ]

there : (ms : List PlainMachine) (m n : MNo) (x : PlainMachine) → n.0 < length (set ms m.0 x) → n.0 < length ms
there ms m n x h = let l = length-set ms m.0 x in omega (arith, h, l)

there' : (ms : List PlainMachine) (m n : MNo) (x : PlainMachine) → n.0 < length ms → n.0 < length (set ms m.0 x)
there' ms m n x h = let l = length-set ms m.0 x in omega (arith, h, l)

-- whose body stands in the stock
pub speaker_of : (o : Option (Speaker Commands)) (b : Commands) → Some (Some b) ≡ body_of o → (s : Speaker Commands) × (o ≡ Some s) × (s.body ≡ b)
speaker_of None b e = absurd (let no : Some (Some b) ≡ None = e in cc)
speaker_of (Some s) b e = (s, refl, (let same : Some (Some b) ≡ Some (Some s.body) = e in let is : b ≡ s.body = cc in sym is))

same_woke : (s : Speaker Commands) (o : Option (Speaker Commands)) (told : Woke) → o ≡ Some s → woke_of o ≡ Some told → told ≡ s.woke
same_woke s o told at is = let e : Some told ≡ Some s.woke = sym is ∙ ap (λ (p : Option (Speaker Commands)). woke_of p) at in let same : told ≡ s.woke = cc in same

-- a write at another goroutine's place
elsewhere : {A : Type 0} (xs : List A) (g h : GNo) (x y : A) → slice_get xs g.0 ≡ Some x → (h ≡ g → ⊥) → slice_get (set xs g.0 y) h.0 ≡ slice_get xs h.0
elsewhere xs g h x y at apart =
    elim (set_at xs g.0 x y h.0 at) [
      | inl here ↦ absurd (apart (same_goroutine h g here.0))
      | inr other ↦ other.1
    ]

written : {A : Type 0} (xs : List A) (k : ℕ) (x y : A) → slice_get xs k ≡ Some x → slice_get (set xs k y) k ≡ Some y
written xs k x y at = elim (set_at xs k x y k at) [ inl here ↦ here.1 | inr other ↦ absurd (other.0 refl) ]

-- machine m becomes x'
module _ (ms : List PlainMachine) (m : MNo) (x' : PlainMachine) (stock : List (Option Commands)) (now : Speakers) (inside : m.0 < length ms) (t : Ties ms stock now) where
  -- whoever is about to end a blocking call still is, with the same body
  brings_still : ((g : GNo) (number : ℕ) → IsBringing x' g number → Says g number stock) → (n : MNo) (g : GNo) (number : ℕ) → n.0 < length (set ms m.0 x')
      → IsBringing (get_or (set ms m.0 x') n.0 no_machine) g number → Says g number stock
  brings_still new n g number within bringing = at_machine (λ (i : MNo) (y : PlainMachine). IsBringing y g number → Says g number stock) ms m n x' inside
      (λ q. new g number q) (λ ne q. t.brings n g number (there ms m n x' within) q) bringing

  -- whoever runs is told the same
  told_still : ((h : HeldParts Unit) → x'.hand.held ≡ Some h → (get_or ms m.0 no_machine).hand.held ≡ Some h) → (n : MNo) (h : HeldParts Unit) → n.0 < length (set ms m.0 x')
      → (get_or (set ms m.0 x') n.0 no_machine).hand.held ≡ Some h → woke_of (slice_get now h.g.0) ≡ Some h.woke
  told_still had n h within held = at_machine (λ (i : MNo) (y : PlainMachine). y.hand.held ≡ Some h → woke_of (slice_get now h.g.0) ≡ Some h.woke) ms m n x' inside
      (λ e. t.told m h inside (had h e)) (λ ne e. t.told n h (there ms m n x' within) e) held

  -- it neither was nor is about to make a body's call
  pub ties_quiet : ((g : GNo) (asked : Ask) → IsAsking (get_or ms m.0 no_machine) g asked → ⊥) → ((g : GNo) (asked : Ask) → IsAsking x' g asked → ⊥)
      → ((h : HeldParts Unit) → x'.hand.held ≡ Some h → (get_or ms m.0 no_machine).hand.held ≡ Some h)
      → ((g : GNo) (number : ℕ) → IsBringing x' g number → Says g number stock) → Ties (set ms m.0 x') stock now
  ties_quiet was is had new = record {
    brings = brings_still new;
    told = told_still had;
    ahead = λ n g asked within asking. at_machine (λ (i : MNo) (y : PlainMachine). IsAsking y g asked → IsAhead g asked stock now) ms m n x' inside
        (λ a. absurd (is g asked a)) (λ ne a. t.ahead n g asked (there ms m n x' within) a) asking;
    even = λ g none. t.even g (λ n asked within asking. none n asked (there' ms m n x' within) (still (λ (y : PlainMachine). IsAsking y g asked) ms m n x' (was g asked) asking));
  }

  -- the goroutine that it runs asks
  pub ties_asks : (h : HeldParts Unit) (asked : Ask) (before after : Commands) → (get_or ms m.0 no_machine).hand.held ≡ Some h → x'.hand.held ≡ (get_or ms m.0 no_machine).hand.held
      → ((i : GNo) (a : Ask) → IsAsking (get_or ms m.0 no_machine) i a → ⊥) → due_at x'.place ≡ Some (inl asked)
      → ((n : MNo) (a : Ask) → n.0 < length ms → IsAsking (get_or ms n.0 no_machine) h.g a → n ≡ m)
      → ((n : MNo) (number : ℕ) → n.0 < length ms → IsBringing (get_or ms n.0 no_machine) h.g number → ⊥) → slice_get stock h.g.0 ≡ Some (Some before) → AsksTold before h.woke asked after
      → Ties (set ms m.0 x') (set stock h.g.0 (Some after)) now
  ties_asks h asked before after held same was due alone none_brings at asks =
      let g : GNo = h.g in
      let stock' : List (Option Commands) = set stock g.0 (Some after) in
      let is : IsAsking x' g asked = (due, ap held_number (same ∙ held)) in
      let nobody : NoneAsks ms g = λ (n : MNo) (a : Ask) within asking. was g a (subst (λ (i : MNo). IsAsking (get_or ms i.0 no_machine) g a) (alone n a within asking) asking) in
      let its = speaker_of (slice_get now g.0) before (sym at ∙ t.even g nobody) in
      let told : h.woke ≡ its.0.woke = same_woke its.0 (slice_get now g.0) h.woke its.1 (t.told m h inside held) in
      let here : IsAhead g asked stock' now = record {
        before = its.0;
        after = after;
        in_stock = written stock g.0 (Some before) (Some after) at;
        in_now = its.1;
        asks = subst (λ (b : Commands). AsksTold b its.0.woke asked after) (sym its.2) (subst (λ (w : Woke). AsksTold before w asked after) told asks);
      } in
      record {
        ahead = λ n i a within asking. at_machine (λ (j : MNo) (y : PlainMachine). IsAsking y i a → IsAhead i a stock' now) ms m n x' inside
            (λ q. let eg : g ≡ i = (let e = sym is.1 ∙ q.1 in cc) in let ea : asked ≡ a = (let e = sym is.0 ∙ q.0 in cc) in
            subst (λ (j : GNo). IsAhead j a stock' now) eg (subst (λ (b : Ask). IsAhead g b stock' now) ea here))
            (λ ne q. let within' = there ms m n x' within in let old = t.ahead n i a within' q in record {
              before = old.before;
              after = old.after;
              in_stock = elsewhere stock g i (Some before) (Some after) at (λ e. nobody n a within' (subst (λ (j : GNo). IsAsking (get_or ms n.0 no_machine) j a) e q)) ∙ old.in_stock;
              in_now = old.in_now;
              asks = old.asks;
            })
            asking;
        even = λ i none.
            let apart : i ≡ g → ⊥ = (λ e. none m asked (there' ms m m x' inside) (subst (λ (y : PlainMachine). IsAsking y i asked) (sym (get_or-set_same ms m.0 x' no_machine inside)) (subst (λ (j : GNo). IsAsking x' j asked) (sym e) is))) in
            elsewhere stock g i (Some before) (Some after) at apart
            ∙ t.even i (λ n a within asking. none n a (there' ms m n x' within) (still (λ (y : PlainMachine). IsAsking y i a) ms m n x' (was i a) asking));
        told = told_still (λ i e. sym same ∙ e);
        brings = λ n i number within bringing. at_machine (λ (j : MNo) (y : PlainMachine). IsBringing y i number → Says i number stock') ms m n x' inside
            (λ q. absurd (let no : Some (inl asked) ≡ Some (inr number) = sym is.0 ∙ q.0 in cc))
            (λ ne q. let within' = there ms m n x' within in let old = t.brings n i number within' q in record {
              body = old.body;
              in_stock = elsewhere stock g i (Some before) (Some after) at
                  (λ e. none_brings n number within' (subst (λ (j : GNo). IsBringing (get_or ms n.0 no_machine) j number) e q)) ∙ old.in_stock;
              says = old.says;
            })
            bringing;
      }

  -- The speaker of goroutine g is another, with the body of the stock. No other machine runs it; x' may, and tells it what the speaker is told
  -- next. Of no other goroutine machine m was about to make a call, and now it is about to make none.
  pub ties_turns : (g : GNo) (s s' : Speaker Commands) → slice_get now g.0 ≡ Some s → slice_get stock g.0 ≡ Some (Some s'.body)
      → ((h : HeldParts Unit) → x'.hand.held ≡ Some h → (h.g ≡ g) × (h.woke ≡ s'.woke))
      → ((n : MNo) → n.0 < length ms → held_number (get_or ms n.0 no_machine).hand.held ≡ Some g → n ≡ m)
      → ((i : GNo) (a : Ask) → IsAsking (get_or ms m.0 no_machine) i a → i ≡ g) → ((i : GNo) (a : Ask) → IsAsking x' i a → ⊥) → ((i : GNo) (number : ℕ) → IsBringing x' i number → ⊥)
      → Ties (set ms m.0 x') stock (set now g.0 s')
  ties_turns g s s' has in_stock holds alone was asks_none brings_none = record {
    brings = brings_still (λ i number q. absurd (brings_none i number q));
    ahead = λ n i a within asking. at_machine (λ (j : MNo) (y : PlainMachine). IsAsking y i a → IsAhead i a stock (set now g.0 s')) ms m n x' inside
        (λ q. absurd (asks_none i a q))
        (λ ne q. let within' = there ms m n x' within in let old = t.ahead n i a within' q in record {
          before = old.before;
          after = old.after;
          in_stock = old.in_stock;
          in_now = elsewhere now g i s s' has (λ e. ne (alone n within' (q.1 ∙ ap Some e))) ∙ old.in_now;
          asks = old.asks;
        })
        asking;
    even = λ i none. elim (cases_eq i.0 g.0) [
      | inl same ↦
          let e : i ≡ g = same_goroutine i g same in
          subst (λ (j : GNo). slice_get stock j.0 ≡ body_of (slice_get (set now g.0 s') j.0)) (sym e) (in_stock ∙ sym (ap (λ (o : Option (Speaker Commands)). body_of o) (written now g.0 s s' has)))
      | inr differ ↦
          let apart : i ≡ g → ⊥ = (λ e. differ (ap (λ (j : GNo). j.0) e)) in
          t.even i (λ n a within asking. none n a (there' ms m n x' within) (still (λ (y : PlainMachine). IsAsking y i a) ms m n x' (λ q. apart (was i a q)) asking))
          ∙ sym (ap (λ (o : Option (Speaker Commands)). body_of o) (elsewhere now g i s s' has apart))
    ];
    told = λ n h within held. at_machine (λ (j : MNo) (y : PlainMachine). y.hand.held ≡ Some h → woke_of (slice_get (set now g.0 s') h.g.0) ≡ Some h.woke) ms m n x' inside
        (λ e. let is = holds h e in
        subst (λ (j : GNo). woke_of (slice_get (set now g.0 s') j.0) ≡ Some h.woke) (sym is.0) (ap (λ (o : Option (Speaker Commands)). woke_of o) (written now g.0 s s' has) ∙ ap Some (sym is.1)))
        (λ ne e. let within' = there ms m n x' within in
        ap (λ (o : Option (Speaker Commands)). woke_of o) (elsewhere now g h.g s s' has (λ q. ne (alone n within' (ap held_number e ∙ ap Some q)))) ∙ t.told n h within' e)
        held;
  }

-- at the opening no machine has a goroutine in hand, or is about to make such a call
pub ties_opening : (ms : List PlainMachine) (script : List Commands) → ((n : MNo) → n.0 < length ms → (due_at (get_or ms n.0 no_machine).place ≡ None) × ((get_or ms n.0 no_machine).hand.held ≡ None))
    → Ties ms (map Some script) (map unheard script)
ties_opening ms script none = record {
  ahead = λ n g asked within asking. absurd (let no : None ≡ Some (inl asked) = sym (none n within).0 ∙ asking.0 in cc);
  even = λ g _. slice_get-map Some script g.0 ∙ unheard_body (slice_get script g.0) ∙ sym (ap (λ (o : Option (Speaker Commands)). body_of o) (slice_get-map unheard script g.0));
  told = λ n h within held. absurd (let no : None ≡ Some h = sym (none n within).1 ∙ held in cc);
  brings = λ n g number within bringing. absurd (let no : None ≡ Some (inr number) = sym (none n within).0 ∙ bringing.0 in cc);
} where
  unheard_body : (o : Option Commands) → option_map Some o ≡ body_of (option_map unheard o)
  unheard_body None = refl
  unheard_body (Some b) = refl
