-- The own queue: whoever holds a processor takes the first of its queue but for one look aside in 16 claims.
use Rattle.std.proofs.Common.{◌≡◌, ◌⊎◌, inl, inr, ℕ, suc, ◌+◌, ◌*◌, ◌<◌, ◌≤◌, nat_le, nat_lt, Bool, true, false, if◌then◌else◌, List, [], ◌∷◌, ◌++◌, length, get_or, set, is_some, refl, sym, ap, subst, ◌∙◌, arith, Option, None, Some, count_by}
use Rattle.std.proofs.lemmas.Bool.{cases_eq, cases_lt, false≢true}
use Rattle.std.proofs.lemmas.Bool.Decides.{nat_tests}
use Rattle.std.proofs.lemmas.List.{get_or-set_same, length-append}
use Rattle.std.proofs.lemmas.List.Sums.{get_or-le-sum_by}
use Rattle.gmp_base.specs.declared.ask.Ask.{Ask}
use Rattle.gmp_base.specs.declared.ask.Ask.TheVariants as ask
use Rattle.gmp_base.specs.declared.number.MNo.{MNo}
use Rattle.gmp_base.specs.declared.number.PNo.{PNo}
use Rattle.gmp_base.specs.declared.number.Readiness.{Readiness}
use Rattle.gmp_base.specs.declared.refusal.Refusal.TheVariants as refusal
use Rattle.gmp_seq.specs.declared.call.Reply.{Reply}
use Rattle.gmp_seq.specs.declared.call.Reply.TheVariants as reply
use Rattle.gmp_seq.specs.Step.{closed_in, ticket_in}
use Rattle.gmp_driver.specs.declared.act.Act.{Act}
use Rattle.gmp_driver.specs.declared.act.Act.TheVariants as act
use Rattle.gmp_driver.specs.declared.act.Told.{Told}
use Rattle.gmp_driver.specs.declared.act.Told.TheVariants as told
use Rattle.gmp_driver.specs.declared.place.Place.{Place}
use Rattle.gmp_driver.specs.declared.place.Place.TheVariants as place
use Rattle.gmp_driver.specs.declared.seen.Seen.{Seen}
use Rattle.gmp_driver.specs.declared.registers.ProcParts.{ProcParts}
use Rattle.gmp_driver.specs.Fits.{SuitsPlace}
use Rattle.gmp_driver.specs.Own.{with_found}
use Rattle.gmp_driver.specs.Seen.{number_of, own_processor, seen}
use Rattle.gmp_driver.specs.Table.{act_at, after, after_ask, next_place, next_turns, raised}
use Rattle.gmp_acts.specs.declared.choice.Choice.{Choice}
use Rattle.gmp_acts.specs.Acts.{Acts, DoesAct, own_taken_from, queue_of, with_local, with_queue}
use Rattle.gmp_acts.specs.Hands.{PlainHand, PlainMachine}
use Rattle.gmp_acts.specs.System.{System, in_queue, is_same, machine_at, no_machine, queue_at}
use Rattle.gmp_acts.proofs.Moving.{queue_within}
use Rattle.gmp_fair.specs.Fair.{IsBehind, IsSteady, Stands, WaitsAtHome, claims_of, leads_to_claim}
use Rattle.gmp_fair.proofs.Lines.{Nearer, nearer, stands_counts, ticket_self}
use Rattle.gmp_fair.proofs.Shapes.{Rests, Shape, Tells, same_number, shape}
use Rattle.gmp_fair.proofs.Weights.{CanCome, claimed, le_15}
use Rattle.gmp_fair.proofs.Queue.{out_most, queue_there}
use Rattle.gmp_acts.specs.Sound.{Agrees}
use Rattle.gmp_fair.proofs.Served.{Kept, kept_on, kept_turns}

-- One step of the program

-- what of 16 may still be claimed beside the queue
abbrev pub home : Place → ℕ → ℕ
home (place.Ticking now) turns = 16
home place.Keep turns = 16 + turns
home place.Glance turns = 16 + turns
home (place.Peek v) turns = 16 + turns
home place.Global turns = 16 + turns
home place.Spin turns = 16 + turns
home (place.Hunt q) turns = 16 + turns
home (place.More v goal) turns = 16 + turns
home (place.StoreMore v goal) turns = 16 + turns
home (place.PutMore v goal) turns = 16 + turns
home place.Unspin turns = 16 + turns
home place.Claim turns = 16 + turns
home place.Look turns = turns
home place.Drain turns = turns
home place.PutDrain turns = turns
home place.Run turns = turns
home (place.Do asked) turns = turns
home place.Store turns = turns
home place.PutStore turns = turns
home place.Poke turns = turns
home place.Drop turns = turns
home here turns = 0

-- places at which a processor may be held
abbrev is_home : Place → Bool
is_home place.Start = false
is_home place.Block = false
is_home (place.Leave number) = false
is_home place.Bare = false
is_home (place.Scan v) = false
is_home place.Have = false
is_home place.PutHave = false
is_home place.Park = false
is_home place.Rest = false
is_home (place.Mind deadline) = false
is_home (place.MindTick now) = false
is_home place.Done = false
is_home here = true

-- while the own queue has a ticket, a look finds one, or the clock is to be read
abbrev Fine : Place → Told → ℕ → Type 0
Fine place.Look told.Empty turns = ⊥
Fine place.Look (told.Moment now) turns = 16 ≤ turns
Fine here what turns = Unit {0}

-- what a ticket of the own queue pays
abbrev gain : Place → Told → ℕ
gain place.Look told.Got = 16
gain here what = 0

up_home : (here : Place) (turns : ℕ) → home here turns ≤ 16 + turns
up_home (place.Ticking now) turns = omega arith
up_home here turns = omega arith

gain_most : (here : Place) (what : Told) → gain here what ≤ 16
gain_most place.Look told.Got = omega arith
gain_most here what = omega arith

asks_home : (asked : Ask) (answer : Reply) (turns : ℕ) → home (after_ask asked answer) turns ≤ turns
asks_home asked reply.Waits turns = omega arith
asks_home asked (reply.Shelved r) turns = omega arith
asks_home asked reply.Dead turns = omega arith
asks_home asked (reply.Entered p m) turns = omega arith
asks_home asked reply.MainEnded turns = omega arith
asks_home asked (reply.Number before) turns = by (raised before asked) where
  by : (b : Bool) → home (if b then place.Poke else place.Run) turns ≤ turns
  by true = omega arith
  by false = omega arith
asks_home asked answer turns = by (is_some (ticket_in answer)) (nat_lt 0 (closed_in answer)) where
  by : (b c : Bool) → home (if b then place.Store else (if c then place.Poke else place.Run)) turns ≤ turns
  by true c = omega arith
  by false true = omega arith
  by false false = omega arith

module _ (s : Seen) where
  abbrev Pays : Place → Told → Type 0
  Pays here what = 15 * claimed here what + home (next_place s here what) (next_turns s here what) ≤ home here s.turns + gain here what

  -- from places with 16 to spare, whatever the next
  spare : (there : Place) → 15 * 0 + home there s.turns ≤ 16 + s.turns + 0
  spare there = (let u = up_home there s.turns in omega (arith, u))

  pays : (here : Place) (what : Told) → is_home here ≡ true → Fine here what s.turns → (leads_to_claim here ≡ true → s.turns ≤ 15) → Pays here what
  pays (place.Ticking now) (told.Replied (reply.Woke n)) h f l = (let u = up_home (next_place s (place.Ticking now) (told.Replied (reply.Woke n))) 0 in omega (arith, u))
  pays (place.Ticking now) (told.Refused refusal.Over) h f l = omega arith
  pays (place.Ticking now) _ h f l = omega arith
  pays place.Keep (told.Replied (reply.Answer false)) h f l = by (is_some s.aside) where
    by : (b : Bool) → 15 * 0 + (if b then 16 else s.turns) ≤ 16 + s.turns + 0
    by true = omega arith
    by false = omega arith
  pays place.Keep what h f l = spare (next_place s place.Keep what)
  pays place.Claim (told.Replied reply.Held) h f l = (let t = l refl in omega (arith, t))
  pays place.Claim what h f l = spare (next_place s place.Claim what)
  pays place.Look told.Got h f l = omega arith
  pays place.Look (told.Moment now) h f l = omega (arith, f)
  pays place.Look told.Empty h f l = absurd f
  pays place.Look (told.Refused refusal.Over) h f l = omega arith
  pays place.Look _ h f l = omega arith
  pays place.Drain told.Drained h f l = omega arith
  pays place.Drain told.Empty h f l = omega arith
  pays place.Drain (told.Refused refusal.Over) h f l = omega arith
  pays place.Drain _ h f l = omega arith
  pays place.PutDrain (told.Replied reply.Shelf) h f l = omega arith
  pays place.PutDrain (told.Refused refusal.Over) h f l = omega arith
  pays place.PutDrain _ h f l = omega arith
  pays place.Run (told.Asked asked) h f l = omega arith
  pays place.Run (told.Refused refusal.Over) h f l = omega arith
  pays place.Run _ h f l = omega arith
  pays (place.Do asked) (told.Replied answer) h f l = (let a = asks_home asked answer s.turns in omega (arith, a))
  pays (place.Do (ask.Make capacity)) (told.Refused refusal.OutOfMemory) h f l = omega arith
  pays (place.Do asked) (told.Refused refusal.Over) h f l = omega arith
  pays (place.Do asked) _ h f l = omega arith
  pays place.Store told.Pushed h f l = omega arith
  pays place.Store told.PushRefused h f l = omega arith
  pays place.Store (told.Refused refusal.Over) h f l = omega arith
  pays place.Store _ h f l = omega arith
  pays place.PutStore (told.Replied reply.Shelf) h f l = omega arith
  pays place.PutStore (told.Refused refusal.Over) h f l = omega arith
  pays place.PutStore _ h f l = omega arith
  pays place.Poke (told.Replied (reply.Wakes n)) h f l = omega arith
  pays place.Poke (told.Replied reply.Nothing) h f l = omega arith
  pays place.Poke (told.Refused refusal.Over) h f l = omega arith
  pays place.Poke _ h f l = omega arith
  pays place.Drop (told.Replied (reply.Idle q)) h f l = omega arith
  pays place.Drop (told.Refused refusal.Over) h f l = omega arith
  pays place.Drop _ h f l = omega arith
  pays place.Over told.Surrendered h f l = omega arith
  pays place.Over told.Nothing h f l = omega arith
  pays place.Over (told.Refused refusal.Over) h f l = omega arith
  pays place.Over _ h f l = omega arith
  pays place.Glance what h f l = spare (next_place s place.Glance what)
  pays (place.Peek v) what h f l = spare (next_place s (place.Peek v) what)
  pays place.Global what h f l = spare (next_place s place.Global what)
  pays place.Spin what h f l = spare (next_place s place.Spin what)
  pays (place.Hunt q) what h f l = spare (next_place s (place.Hunt q) what)
  pays (place.More v goal) what h f l = spare (next_place s (place.More v goal) what)
  pays (place.StoreMore v goal) what h f l = spare (next_place s (place.StoreMore v goal) what)
  pays (place.PutMore v goal) what h f l = spare (next_place s (place.PutMore v goal) what)
  pays place.Unspin what h f l = spare (next_place s place.Unspin what)
  pays _ what h f l = absurd (false≢true h)

-- A machine that holds a processor stands at one of these places

filled : (o : Option (ProcParts Unit)) (p : PNo) → number_of o ≡ Some p → is_some o ≡ true
filled None p e = absurd (let no : None ≡ Some p = e in cc)
filled (Some x) p e = refl

home_of : (here : Place) (hand : PlainHand) (p : PNo) → SuitsPlace here hand → own_processor hand ≡ Some p → is_home here ≡ true
home_of place.Start hand p f own = absurd (false≢true (sym f.has_processor ∙ filled hand.processor p own))
home_of place.Block hand p f own = absurd (false≢true (sym f.has_processor ∙ filled hand.processor p own))
home_of (place.Leave number) hand p f own = absurd (false≢true (sym f.has_processor ∙ filled hand.processor p own))
home_of place.Bare hand p f own = absurd (false≢true (sym f.has_processor ∙ filled hand.processor p own))
home_of (place.Scan v) hand p f own = absurd (false≢true (sym f.has_processor ∙ filled hand.processor p own))
home_of place.Have hand p f own = absurd (false≢true (sym f.has_processor ∙ filled hand.processor p own))
home_of place.PutHave hand p f own = absurd (false≢true (sym f.has_processor ∙ filled hand.processor p own))
home_of place.Park hand p f own = absurd (false≢true (sym f.has_processor ∙ filled hand.processor p own))
home_of place.Rest hand p f own = absurd (false≢true (sym f.has_processor ∙ filled hand.processor p own))
home_of (place.Mind deadline) hand p f own = absurd (false≢true (sym f.has_processor ∙ filled hand.processor p own))
home_of (place.MindTick now) hand p f own = absurd (false≢true (sym f.has_processor ∙ filled hand.processor p own))
home_of place.Done hand p f own = absurd (false≢true (sym f.has_processor ∙ filled hand.processor p own))
home_of _ hand p f own = refl

abbrev is_look : Place → Bool
is_look place.Look = true
is_look here = false

look_is : (here : Place) → is_look here ≡ true → here ≡ place.Look
look_is place.Look e = refl
look_is _ e = absurd (false≢true e)

fine_else : (here : Place) (what : Told) (turns : ℕ) → is_look here ≡ false → Fine here what turns × (gain here what ≡ 0)
fine_else place.Look what turns e = absurd (false≢true (sym e))
fine_else _ what turns e = (tt, refl)

ge_16 : (n : ℕ) → nat_le 16 n ≡ true → 16 ≤ n
ge_16 n e = grind (arith, nat_tests, e)

-- One act

abbrev pub HomeCounts : System → System → MNo → ℕ → ℕ → Type 0
HomeCounts k k' m j i = 15 * claims_of k' m + 16 * i + home (machine_at k' m).place (machine_at k' m).turns ≤ 15 * claims_of k m + 16 * j + home (machine_at k m).place (machine_at k m).turns

abbrev Step : ℕ → ℕ → Type 0
Step j i = (j ≡ i) ⊎ (j ≡ suc i)

rest_home : (k k' : System) (m : MNo) (j i : ℕ) → Rests k m k' → Step j i → HomeCounts k k' m j i
rest_home k k' m j i r come =
    let w : home (machine_at k' m).place (machine_at k' m).turns ≡ home (machine_at k m).place (machine_at k m).turns = ap (λ (x : PlainMachine). home x.place x.turns) r.now in
    let c = r.claims in
    elim come [ inl e ↦ omega (arith, w, c, e) | inr e ↦ omega (arith, w, c, e) ]

module _ (r : Readiness) (p : PNo) (k : System) (m : MNo) (inside : m.0 < length k.machines) (steady : IsSteady (machine_at k m)) (here : is_home (machine_at k m).place ≡ true) (j i : ℕ) where
  abbrev X : PlainMachine
  X = machine_at k m

  tells_home : (k' : System) (t : Tells k m k') → Fine (machine_at k m).place t.what (machine_at k m).turns → ((gain (machine_at k m).place t.what ≡ 0) × Step j i) ⊎ (j ≡ suc i) → HomeCounts k k' m j i
  tells_home k' t fine come =
      let goes = pays (seen (record X { pass = t.pass; hand = t.hand })) X.place t.what here fine steady.left in
      let now : home (machine_at k' m).place (machine_at k' m).turns ≡ home (next_place (seen (record X { pass = t.pass; hand = t.hand })) X.place t.what) (next_turns (seen (record X { pass = t.pass; hand = t.hand })) X.place t.what) =
      ap (λ (x : PlainMachine). home x.place x.turns) t.now in
      let c = t.claims in
      let g = gain_most X.place t.what in
      elim come [
        | inl w ↦ (let z = w.0 in elim w.1 [ inl e ↦ omega (arith, goes, now, c, z, e) | inr e ↦ omega (arith, goes, now, c, z, e) ])
        | inr e ↦ omega (arith, goes, now, c, g, e)
      ]

  own_machine : (x : PlainMachine) → get_or (set k.machines m.0 x) m.0 no_machine ≡ x
  own_machine x = get_or-set_same k.machines m.0 x no_machine inside

  module _ (at : (machine_at k m).place ≡ place.Look) (own : own_processor (machine_at k m).hand ≡ Some p) (behind : IsBehind j r (queue_at k p)) where
    abbrev Near : System → Type 0
    Near k' = ((j ≡ i) × (came : List Readiness) × (queue_at k' p ≡ queue_at k p ++ came)) ⊎ (j ≡ suc i)

    abbrev looked : (what : Told) (hand : PlainHand) (queues : List (List Readiness)) → CanCome what place.Look (machine_at k m).turns → Tells k m (with_local k m (after (record (machine_at k m) { hand = hand }) what, queues))
    looked what hand queues come = record {
      what = what;
      pass = X.pass;
      hand = hand;
      now = own_machine (after (record X { hand = hand }) what);
      comes = subst (λ (q : Place). CanCome what q X.turns) (sym at) come;
      claims = omega arith;
    }

    clock : (now : ℕ) → nat_le 16 (machine_at k m).turns ≡ true → Step j i → HomeCounts k (with_local k m (after (machine_at k m) (told.Moment now), k.queues)) m j i
    clock now full come =
        tells_home (with_local k m (after X (told.Moment now), k.queues)) (looked (told.Moment now) X.hand k.queues tt)
        (subst (λ (q : Place). Fine q (told.Moment now) X.turns) (sym at) (ge_16 X.turns full)) (inl (ap (λ (q : Place). gain q (told.Moment now)) at, come))

    found : (queue : List Readiness) → queue_at k p ≡ queue → nat_le 16 (machine_at k m).turns ≡ false
        → Near (with_local k m (own_taken_from false (machine_at k m) k.queues queue)) → HomeCounts k (with_local k m (own_taken_from false (machine_at k m) k.queues queue)) m j i
    found [] is few near =
        let some = stands_counts is_same ticket_self (queue_at k p) j r behind in
        let none : count_by (is_same r) (queue_at k p) ≡ 0 = ap (count_by (is_same r)) is in
        absurd (omega (arith, some, none))
    found (t ∷ rest) is few near =
        let queues : List (List Readiness) = with_queue k.queues (own_processor X.hand) rest in
        let now : get_or queues p.0 [] ≡ rest = ap (λ (o : Option PNo). get_or (with_queue k.queues o rest) p.0 []) own ∙ get_or-set_same k.queues p.0 rest [] (queue_within k.queues p.0 t rest is) in
        let a : length (queue_at k p) ≡ length (t ∷ rest) = ap length is in
        let nearer_by : j ≡ suc i = elim near [
          | inl w ↦ (let b : length rest ≡ length (queue_at k p ++ w.1) = ap length (sym now ∙ w.2) in let c = length-append (queue_at k p) w.1 in absurd (omega (arith, a, b, c)))
          | inr one ↦ one
        ] in
        tells_home (with_local k m (after (record X { hand = with_found t false X.hand }) told.Got, queues)) (looked told.Got (with_found t false X.hand) queues (le_15 X.turns few))
        (subst (λ (q : Place). Fine q told.Got X.turns) (sym at) tt) (inr nearer_by)

    looks_home : (choice : Choice) (k' : System) → Near k' → Step j i → Acts k m choice k' → HomeCounts k k' m j i
    looks_home choice k' near come acts =
        let d : DoesAct (if nat_le 16 X.turns then act.Clock None else act.Pop) k m choice k' = subst (λ (a : Act). DoesAct a k m choice k') (ap (act_at (seen X)) at) (acts.by_place inside) in
        by (nat_le 16 X.turns) refl d
      where
        by : (b : Bool) → nat_le 16 (machine_at k m).turns ≡ b → DoesAct (if b then act.Clock None else act.Pop) k m choice k' → HomeCounts k k' m j i
        by true full d = subst (λ (e : System). HomeCounts k e m j i) (sym d) (clock choice.moment full come)
        by false few d =
            let is : queue_of k.queues (own_processor X.hand) ≡ queue_at k p = ap (queue_of k.queues) own in
            subst (λ (e : System). HomeCounts k e m j i) (sym d) (found (queue_of k.queues (own_processor X.hand)) (sym is) few (subst Near d near))

-- Acts in a row

pub begins_home : (m : MNo) (p : PNo) (r : Readiness) (moves : List (MNo × Choice)) (k k' : System) → WaitsAtHome m p r k moves k' → Stands r (queue_at k p) × (own_processor (machine_at k m).hand ≡ Some p)
begins_home m p r [] k k' w = w.0
begins_home m p r (move ∷ moves) k k' w = w.0

step_home : (r : Readiness) (p : PNo) (m : MNo) (procs : ℕ) (k : System) (n : MNo) (choice : Choice) (k' : System) (j : ℕ) → Kept m procs k → Acts k n choice k'
    → IsBehind j r (queue_at k p) → own_processor (machine_at k m).hand ≡ Some p → Stands r (queue_at k' p) → (i : ℕ) × IsBehind i r (queue_at k' p) × HomeCounts k k' m j i
step_home r p m procs k n choice k' j kept acts behind own stands = elim (cases_lt n.0 (length k.machines)) [
  | inl inside ↦ by_shape (shape k n choice k' inside acts)
  | inr past ↦ (
    j,
    subst (λ (e : System). IsBehind j r (queue_at e p)) (sym (acts.else_none past)) behind,
    subst (λ (e : System). HomeCounts k e m j j) (sym (acts.else_none past)) (omega arith),
  )
] where
  once : in_queue r (queue_at k p) ≤ 1
  once =
      let a = get_or-le-sum_by (in_queue r) k.queues p.0 [] (queue_there k p r j behind) in
      let b = kept.sound.tickets r in
      let c = out_most r k.book.state.table in
      omega (arith, a, b, c)

  mine : Agrees k.book m (machine_at k m)
  mine = kept.sound.each m kept.inside

  here : is_home (machine_at k m).place ≡ true
  here = home_of (machine_at k m).place (machine_at k m).hand p (mine.driver.fits (ap is_some mine.has_pass)) own

  by_own : (i : ℕ) → n ≡ m → Tells k m k' ⊎ Rests k m k' → ((j ≡ i) × (came : List Readiness) × (queue_at k' p ≡ queue_at k p ++ came)) ⊎ (j ≡ suc i) → Step j i → HomeCounts k k' m j i
  by_own i same (inr rest) near come = rest_home k k' m j i rest come
  by_own i same (inl t) near come = by (is_look (machine_at k m).place) refl where
    by : (b : Bool) → is_look (machine_at k m).place ≡ b → HomeCounts k k' m j i
    by true e = looks_home r p k m kept.inside (kept.steady m kept.inside) here j i (look_is (machine_at k m).place e) own behind choice k' near come (subst (λ (q : MNo). Acts k q choice k') same acts)
    by false e =
        let f = fine_else (machine_at k m).place t.what (machine_at k m).turns e in
        tells_home r p k m kept.inside (kept.steady m kept.inside) here j i k' t f.0 (inl (f.1, come))

  by_step : (i : ℕ) → Shape k n k' → ((j ≡ i) × (came : List Readiness) × (queue_at k' p ≡ queue_at k p ++ came)) ⊎ (j ≡ suc i) → Step j i → HomeCounts k k' m j i
  by_step i h near come = elim (cases_eq m.0 n.0) [
    | inl e ↦ by_own i (sym (same_number m n e)) (subst (λ (q : MNo). Tells k q k' ⊎ Rests k q k') (sym (same_number m n e)) h.own) near come
    | inr other ↦ rest_home k k' m j i (h.others m (λ e. other (ap (λ (q : MNo). q.0) e))) come
  ]

  by_shape : Shape k n k' → (i : ℕ) × IsBehind i r (queue_at k' p) × HomeCounts k k' m j i
  by_shape h = by_near (nearer is_same ticket_self r j (queue_at k p) (queue_at k' p) (h.queues p) once behind stands) where
    by_near : Nearer r j (queue_at k p) (queue_at k' p) → (i : ℕ) × IsBehind i r (queue_at k' p) × HomeCounts k k' m j i
    by_near (inl (b, came, is)) = (j, b, by_step j h (inl (refl, came, is)) (inl refl))
    by_near (inr (i, e, b)) = (i, b, by_step i h (inr e) (inr e))

run_home : (r : Readiness) (p : PNo) (m : MNo) (procs : ℕ) (moves : List (MNo × Choice)) (k k' : System) (j : ℕ) → Kept m procs k → IsBehind j r (queue_at k p) → WaitsAtHome m p r k moves k' → (i : ℕ) × HomeCounts k k' m j i
run_home r p m procs [] k k' j kept behind w = (j, subst (λ (e : System). HomeCounts k e m j j) (sym w.1) (omega arith))
run_home r p m procs (move ∷ moves) k k' j kept behind w =
    let one = step_home r p m procs k move.0 move.1 w.1 j kept w.2 behind w.0.1 (begins_home m p r moves w.1 k' w.3).0 in
    let rest = run_home r p m procs moves w.1 k' one.0 (kept_on m procs k move.0 move.1 w.1 kept w.2) one.1 w.3 in
    (rest.0, (let a = one.2 in let b = rest.1 in omega (arith, a, b)))

pub home_bound : (r : Readiness) (p : PNo) (m : MNo) (procs : ℕ) (moves : List (MNo × Choice)) (k k' : System) (j : ℕ) → Kept m procs k → IsBehind j r (queue_at k p) → WaitsAtHome m p r k moves k'
    → 15 * claims_of k' m ≤ 15 * claims_of k m + 16 * (j + 2)
home_bound r p m procs moves k k' j kept behind w =
    let all = run_home r p m procs moves k k' j kept behind w in
    let c = all.1 in
    let u = up_home (machine_at k m).place (machine_at k m).turns in
    let t = kept_turns m procs k kept in
    omega (arith, c, u, t)
