-- A core that has made no act.
use Rattle.std.proofs.Common.{◌≡◌, ℕ, ◌<◌, Bool, zero, suc, List, [], ◌∷◌, map, length, get_or, true, refl, sym, ap, subst, ◌∙◌, arith, Option, Some, None}
use Rattle.std.proofs.lemmas.List.{get_or_default, same_lists}
use Rattle.std.proofs.lemmas.List.FromFn.{get_or-map-range_with_len, length-map-range_with_len}
use Rattle.std.specs.List.{range_with_len, slice_get}
use Rattle.gmp_base.specs.declared.pass.Pass.{Pass}
use Rattle.gmp_base.specs.declared.refusal.Refusal.{Refusal}
use Rattle.gmp_base.specs.declared.refusal.Refusal.TheVariants.{BadLimits, OutOfMemory}
use Rattle.gmp_seq.specs.declared.call.Limits.{Limits}
use Rattle.gmp_seq.specs.Fits.{AreLimits}
use Rattle.gmp_book.specs.Book.{BookContents, MayOpen, WhyUnopened, opening_book, opening_passes}
use Rattle.gmp_driver.specs.Machine.{Machine}
use Rattle.gmp_driver.specs.Registers.{first_of, nothing}
use Rattle.gmp_acts.specs.Hands.{PlainMachine, plain_machine}
use Rattle.gmp_acts.specs.Headline.{machine_at_start, opening_system}
use Rattle.gmp_acts.specs.System.{System}
use Rattle.gmp_acts.proofs.Watching.{opening_watchful}
use Rattle.gmp_acts.proofs.Whole.{opening_sound}
use Rattle.gmp_fair.specs.Fair.{AllSteady}
use Rattle.gmp_fair.proofs.Steady.{opening_steady}
use Rattle.gmp_turn.specs.Values.{AreOut, body_in, owner_in}
use Rattle.gmp_core.specs.Inside.{IsCore, Parts, system_of}
use Rattle.gmp_core.specs.Opening.{at_start}
use Rattle.gmp_core.specs.Queues.{Rings}
use Rattle.gmp_core.specs.Whole.{stock_of}
use Rattle.gmp_core.proofs.Stock.{map_same, no_some, none_has}

-- Lists

listed : {X : Type 0} (xs : List X) (d : X) → map (λ (i : ℕ). get_or xs i d) (range_with_len 0 (length xs)) ≡ xs
listed xs d =
    same_lists _ xs (length-map-range_with_len (λ (i : ℕ). get_or xs i d) 0 (length xs))
    (λ k e within.
    let inside : k < length xs = (let l = length-map-range_with_len (λ (i : ℕ). get_or xs i d) 0 (length xs) in omega (arith, l, within)) in
    get_or-map-range_with_len (λ (i : ℕ). get_or xs i d) 0 (length xs) k k e inside (omega arith) ∙ get_or_default xs k d e inside)

-- Machines at their start

pub passes_long : (run n : ℕ) → length (opening_passes run n) ≡ n
passes_long run n = length-map-range_with_len _ 0 n

abbrev pub first_pass : ℕ → ℕ → Pass
first_pass run m = record { run = run; m = record { 0 = m }; calls = 0; seen = 0 }

starts_plain : (T : Type 0) (is_fair : Bool) (run : ℕ) (limits : Limits) (ns : List ℕ)
    → map plain_machine (map (at_start {T = T} {Q = Unit} is_fair limits.procs) (map (first_pass run) ns)) ≡ map (machine_at_start is_fair run limits) ns
starts_plain T is_fair run limits [] = refl
starts_plain T is_fair run limits (n ∷ ns) = ap (λ (l : List PlainMachine). machine_at_start is_fair run limits n ∷ l) (starts_plain T is_fair run limits ns)

hand_empty : {T : Type 0} (is_fair : Bool) (procs : ℕ) (passes : List Pass) (m : ℕ) (x : Machine T Unit) → slice_get (map (at_start is_fair procs) passes) m ≡ Some x → x.hand ≡ nothing
hand_empty is_fair procs [] m x is = absurd (let no : None ≡ Some x = is in cc)
hand_empty {T = T} is_fair procs (pass ∷ passes) zero x is = (let its : Some (at_start {T = T} {Q = Unit} is_fair procs pass) ≡ Some x = is in let e : at_start is_fair procs pass ≡ x = cc in ap (λ (y : Machine T Unit). y.hand) (sym e))
hand_empty is_fair procs (pass ∷ passes) (suc m) x is = hand_empty is_fair procs passes m x is

module _ {T : Type 0} (is_fair : Bool) (run : ℕ) (limits : Limits) (capacities : List ℕ) (bodies : List T) (owners : List (Unit {0})) where
  abbrev machines : List (Machine T Unit)
  machines = map (at_start is_fair limits.procs) (opening_passes run limits.machines)

  abbrev book : BookContents T Unit
  book = opening_book run limits capacities bodies owners

  abbrev c : Rings → Parts T
  c rings = record { book = book; rings = rings; machines = machines }

  pub opening_is : (rings : Rings) → rings.queues ≡ (opening_system is_fair run limits (length bodies) capacities).queues
      → system_of (c rings) ≡ opening_system is_fair run limits (length bodies) capacities
  opening_is rings queues =
      ap (λ (l : List PlainMachine). let k : System = record { book = (opening_system is_fair run limits (length bodies) capacities).book; queues = rings.queues; machines = l; own = [] } in k) (starts_plain T is_fair run limits (range_with_len 0 limits.machines))
      ∙ rw queues refl

  nothing_out : {X : Type 0} (f : Machine T Unit → ℕ → Option X) (places : List (Option X)) → ((x : Machine T Unit) (i : ℕ) → x.hand ≡ nothing → f x i ≡ None)
      → (m : ℕ) (x : Machine T Unit) → slice_get machines m ≡ Some x → AreOut (f x) places
  nothing_out f places none m x is i some = absurd (no_some (f x i) (none x i (hand_empty is_fair limits.procs (opening_passes run limits.machines) m x is)) some)

  pub opening_core : (rings : Rings) → rings.queues ≡ (opening_system is_fair run limits (length bodies) capacities).queues → AreLimits limits (length bodies) capacities
      → rings.room ≡ length bodies → IsCore (c rings)
  opening_core rings queues within tickets = record {
    out = [];
    sound = rw (opening_is rings queues) (opening_sound is_fair run limits (length bodies) capacities within);
    watchful = rw (opening_is rings queues) (opening_watchful is_fair run limits (length bodies) capacities within);
    bodies = nothing_out (λ (x : Machine T Unit). body_in x.hand) book.bodies (λ x i e. ap (λ h. body_in h i) e);
    owners = nothing_out (λ (x : Machine T Unit). owner_in x.hand) book.owners (λ x i e. ap (λ h. owner_in h i) e);
    tickets_room = tickets;
    few = omega arith;
    lasts = refl;
    fits = λ i d within. absurd (omega (arith, within));
  }

  -- fair machines are steady
  pub steady_at : (rings : Rings) → rings.queues ≡ (opening_system is_fair run limits (length bodies) capacities).queues → AreLimits limits (length bodies) capacities
      → is_fair ≡ true → AllSteady (system_of (c rings))
  steady_at rings queues within fair =
      subst AllSteady (sym (opening_is rings queues ∙ ap (λ (b : Bool). opening_system b run limits (length bodies) capacities) fair)) (opening_steady run limits (length bodies) capacities within)

  pub opening_stock : stock_of machines book.bodies ≡ map Some bodies
  opening_stock =
      map_same _ _ (range_with_len 0 (length (map Some bodies)))
      (λ i. ap (λ (o : Option T). first_of o (get_or (map Some bodies) i None))
      (none_has (λ (x : Machine T Unit). body_in x.hand i) machines (λ n y at. ap (λ h. body_in h i) (hand_empty is_fair limits.procs (opening_passes run limits.machines) n y at))))
      ∙ listed (map Some bodies) None

-- why the book is not opened is why the core is not
pub why_core : (limits : Limits) (bodies owners : ℕ) (capacities : List ℕ) (why : Refusal) → owners ≡ limits.procs
    → WhyUnopened (MayOpen limits bodies capacities owners) why → WhyUnopened (AreLimits limits bodies capacities) why
why_core limits bodies owners capacities BadLimits count out = λ within. out (within, count)
why_core limits bodies owners capacities OutOfMemory count may = may.0
why_core limits bodies owners capacities _ count none = absurd none
