-- Runs of the core by a script's bodies, from the opening.
use Rattle.std.proofs.Common.{◌≡◌, ℕ, Bool, zero, suc, ◌<◌, List, [], ◌∷◌, map, length, get_or, set, Option, None, Some, refl, sym, ap, ◌∙◌, arith}
use Rattle.std.proofs.lemmas.List.{length-map, set-get_or}
use Rattle.std.proofs.lemmas.List.FromFn.{length-map-range_with_len, get_or-map-range_with_len}
use Rattle.std.proofs.lemmas.Option.{get_or_from_slice_get}
use Rattle.std.specs.List.{slice_get, slice_set}
use Rattle.gmp_base.specs.declared.number.MNo.{MNo}
use Rattle.gmp_seq.specs.declared.call.Limits.{Limits}
use Rattle.gmp_seq.specs.Fits.{AreLimits}
use Rattle.gmp_driver.specs.Table.{next_act}
use Rattle.gmp_acts.proofs.Whole.{opening_sound}
use Rattle.gmp_acts.specs.declared.choice.Choice.{Choice}
use Rattle.gmp_acts.specs.Hands.{PlainMachine}
use Rattle.gmp_acts.specs.Headline.{machine_at_start, opening_system}
use Rattle.gmp_acts.specs.System.{System, machine_at, no_machine}
use Rattle.gmp_core.specs.declared.want.Want.{Want}
use Rattle.gmp_core.specs.declared.want.Want.TheVariants as want
use Rattle.gmp_core.specs.Whole.{Whole, wanted_by}
use Rattle.gmp_script.specs.Script.{Commands}
use Rattle.gmp_said.specs.Said.{unheard}
use Rattle.gmp_said.specs.Standing.{due_at}
use Rattle.gmp_scene.specs.Reached.{IsRunOf}
use Rattle.gmp_scene.specs.Scripted.{Speakers}
use Rattle.gmp_core.specs.Plays.{IsDealt}
use Rattle.gmp_cli.specs.Clock.{ClockState}
use Rattle.gmp_cli.specs.Plays.{AnswersCommand, AsksCommand, IsPlayed, Plays, Reads, Stage, opening_stage}
use Rattle.gmp_step_laws.specs.Played.{MakesAll}
use Rattle.gmp_step_laws.specs.Refused.{IsRunButMakes}
use Rattle.gmp_step_laws.specs.Scheduled.{ActsBy, IsUnmade, LeadsStock, NoneUnmade}
use Rattle.gmp_step_laws.proofs.Follows.{Follows, act_follows, kept}
use Rattle.gmp_step_laws.proofs.Ties.{ties_opening}

-- At the opening

none_due : (is_fair : Bool) (run : ℕ) (limits : Limits) (n : MNo) (bodies : ℕ) (capacities : List ℕ) → n.0 < length (opening_system is_fair run limits bodies capacities).machines
    → (due_at (get_or (opening_system is_fair run limits bodies capacities).machines n.0 no_machine).place ≡ None)
    × ((get_or (opening_system is_fair run limits bodies capacities).machines n.0 no_machine).hand.held ≡ None)
none_due is_fair run limits n bodies capacities within =
    let count = length-map-range_with_len (machine_at_start is_fair run limits) 0 limits.machines in
    let at = get_or-map-range_with_len (machine_at_start is_fair run limits) 0 limits.machines n.0 n.0 no_machine (omega (arith, within, count)) (omega arith) in
    (ap (λ (x : PlainMachine). due_at x.place) at, ap (λ (x : PlainMachine). x.hand.held) at)

opening_follows : (is_fair : Bool) (run : ℕ) (limits : Limits) (capacities : List ℕ) (script : List Commands) → AreLimits limits (length script) capacities
    → Follows limits capacities script (Unit {0}) (opening_system is_fair run limits (length script) capacities) (map Some script)
opening_follows is_fair run limits capacities script are = record {
  sound = opening_sound is_fair run limits (length script) capacities are;
  limits_are = refl;
  now = map unheard script;
  many = length-map script unheard;
  said = ([], refl, (refl, refl));
  whole = λ _. (refl, refl);
  ties = λ _. ties_opening (opening_system is_fair run limits (length script) capacities).machines script (λ n within. none_due is_fair run limits n (length script) capacities within);
}

-- What follows of the history

abbrev Script : Limits → List ℕ → List Commands → System → Type 0
Script limits capacities script k = (after : Speakers) × IsRunOf limits capacities script k.book.history k.book.state after

abbrev ScriptButMakes : Limits → List ℕ → List Commands → System → Type 0
ScriptButMakes limits capacities script k = (after : Speakers) × IsRunButMakes limits capacities script k.book.history k.book.state after

whole_of : (limits : Limits) (capacities : List ℕ) (script : List Commands) (P : Type 0) (k : System) (stock : List (Option Commands)) → Follows limits capacities script P k stock → P → Script limits capacities script k
whole_of limits capacities script P k stock f p = (f.now, f.whole p)

any_of : (limits : Limits) (capacities : List ℕ) (script : List Commands) (P : Type 0) (k : System) (stock : List (Option Commands)) → Follows limits capacities script P k stock → ScriptButMakes limits capacities script k
any_of limits capacities script P k stock f = (f.now, f.said)

-- Any scheduling

acts_follow : (limits : Limits) (capacities : List ℕ) (script : List Commands) (moves : List (MNo × Choice)) (P : Type 0) (k : System) (stock : List (Option Commands)) (k' : System) (stock' : List (Option Commands))
    → (acts : ActsBy k stock moves k' stock') → Follows limits capacities script P k stock → Follows limits capacities script (P × NoneUnmade k stock moves k' stock' acts) k' stock'
acts_follow limits capacities script [] P k stock k' stock' acts f = kept limits capacities script P (P × Unit {0}) (λ q. q.0) k k' stock stock' acts.0 acts.1 f
acts_follow limits capacities script (move ∷ moves) P k stock k' stock' acts f =
    let one = act_follows limits capacities script P k stock move.0 move.1 acts.0 acts.1 acts.2 acts.3 f in
    let rest = acts_follow limits capacities script moves (P × (¬ (IsUnmade k move.0 acts.0))) acts.0 acts.1 k' stock' acts.4 one in
    kept limits capacities script ((P × (¬ (IsUnmade k move.0 acts.0))) × NoneUnmade acts.0 acts.1 moves k' stock' acts.4) (P × NoneUnmade k stock (move ∷ moves) k' stock' acts)
    (λ q. ((q.0, q.1.0), q.1.1)) k' k' stock' stock' refl refl rest

pub scheduled_whole : (is_fair : Bool) (run : ℕ) (limits : Limits) (capacities : List ℕ) (bodies : List Commands) (moves : List (MNo × Choice)) (last : System) (stock : List (Option Commands))
    → AreLimits limits (length bodies) capacities → (acts : ActsBy (opening_system is_fair run limits (length bodies) capacities) (map Some bodies) moves last stock)
    → NoneUnmade (opening_system is_fair run limits (length bodies) capacities) (map Some bodies) moves last stock acts → (after : Speakers) × IsRunOf limits capacities bodies last.book.history last.book.state after
scheduled_whole is_fair run limits capacities bodies moves last stock are acts none =
    whole_of limits capacities bodies _ last stock (acts_follow limits capacities bodies moves (Unit {0}) _ _ last stock acts (opening_follows is_fair run limits capacities bodies are)) (tt, none)

pub scheduled_any : (is_fair : Bool) (run : ℕ) (limits : Limits) (capacities : List ℕ) (bodies : List Commands) (moves : List (MNo × Choice)) (last : System) (stock : List (Option Commands))
    → AreLimits limits (length bodies) capacities → ActsBy (opening_system is_fair run limits (length bodies) capacities) (map Some bodies) moves last stock
    → (after : Speakers) × IsRunButMakes limits capacities bodies last.book.history last.book.state after
scheduled_any is_fair run limits capacities bodies moves last stock are acts =
    any_of limits capacities bodies _ last stock (acts_follow limits capacities bodies moves (Unit {0}) _ _ last stock acts (opening_follows is_fair run limits capacities bodies are))

-- `step`

-- a blocking call leaves its body as it was
stays_put : (stock : List (Option Commands)) (i : ℕ) (body after : Commands) → slice_get stock i ≡ Some (Some body) → after ≡ body → slice_set stock i (Some after) ≡ stock
stays_put stock i body after has stays =
    ap (λ (x : Option Commands). set stock i x) (ap Some stays ∙ sym (get_or_from_slice_get stock i (Some body) (Some body) has)) ∙ set-get_or stock i (Some body)

leads_dealt : (w : Want) (k : Whole Commands) (clock : ClockState) (m : MNo) (choice : Choice) (stock' : List (Option Commands)) (clock' : ClockState)
    → IsDealt AsksCommand AnswersCommand Reads w k clock m choice stock' clock' → LeadsStock w k.system m choice k.stock stock'
leads_dealt want.Ask k clock m choice stock' clock' d = record { g = d.g; in_hand = d.in_hand; before = d.before; has = d.has; told = d.told; holds = d.holds; after = d.after; asks = d.asks_so.0; goes = d.stock }
leads_dealt want.Number k clock m choice stock' clock' d =
    record { g = d.g; in_hand = d.in_hand; body = d.before; has = d.has; says = d.answers_so.0.0; stays = d.stock ∙ stays_put k.stock d.g.0 d.before d.after d.has d.answers_so.0.1 }
leads_dealt (want.Moment minded) k clock m choice stock' clock' d = d.stock
leads_dealt want.Nothing k clock m choice stock' clock' d = d.stock

plays_follow : (limits : Limits) (capacities : List ℕ) (script : List Commands) (P : Type 0) (word n : ℕ) (s s' : Stage) → (plays : Plays word n s s') → Follows limits capacities script P s.core.system s.core.stock
    → Follows limits capacities script (P × MakesAll word n s s' plays) s'.core.system s'.core.stock
plays_follow limits capacities script P word zero s s' plays f =
    kept limits capacities script P (P × Unit {0}) (λ q. q.0) s.core.system s'.core.system s.core.stock s'.core.stock (ap (λ (x : Stage). x.core.system) plays) (ap (λ (x : Stage). x.core.stock) plays) f
plays_follow limits capacities script P word (suc n) s s' plays f =
    let before = plays_follow limits capacities script P word n s plays.0 plays.1 f in
    let one = act_follows limits capacities script (P × MakesAll word n s plays.0 plays.1) plays.0.core.system plays.0.core.stock plays.2.m plays.2.choice s'.core.system s'.core.stock plays.2.acts
    (leads_dealt (wanted_by (next_act (machine_at plays.0.core.system plays.2.m))) plays.0.core plays.0.outside plays.2.m plays.2.choice s'.core.stock s'.outside plays.2.deals) before in
    kept limits capacities script ((P × MakesAll word n s plays.0 plays.1) × (¬ (IsUnmade plays.0.core.system plays.2.m s'.core.system))) (P × MakesAll word (suc n) s s' plays) (λ q. ((q.0, q.1.0), q.1.1))
    s'.core.system s'.core.system s'.core.stock s'.core.stock refl refl one

pub step_whole : (is_fair : Bool) (acts word : ℕ) (limits : Limits) (capacities readings : List ℕ) (bodies : List Commands) (last : Stage) → AreLimits limits (length bodies) capacities
    → (played : IsPlayed acts word (opening_stage is_fair limits capacities readings bodies) last) → MakesAll word played.made (opening_stage is_fair limits capacities readings bodies) last played.plays
    → (after : Speakers) × IsRunOf limits capacities bodies last.core.system.book.history last.core.system.book.state after
step_whole is_fair acts word limits capacities readings bodies last are played all =
    whole_of limits capacities bodies _ last.core.system last.core.stock
    (plays_follow limits capacities bodies (Unit {0}) word played.made (opening_stage is_fair limits capacities readings bodies) last played.plays (opening_follows is_fair 0 limits capacities bodies are)) (tt, all)

pub step_any : (is_fair : Bool) (acts word : ℕ) (limits : Limits) (capacities readings : List ℕ) (bodies : List Commands) (last : Stage) → AreLimits limits (length bodies) capacities
    → IsPlayed acts word (opening_stage is_fair limits capacities readings bodies) last → (after : Speakers) × IsRunButMakes limits capacities bodies last.core.system.book.history last.core.system.book.state after
step_any is_fair acts word limits capacities readings bodies last are played =
    any_of limits capacities bodies _ last.core.system last.core.stock
    (plays_follow limits capacities bodies (Unit {0}) word played.made (opening_stage is_fair limits capacities readings bodies) last played.plays (opening_follows is_fair 0 limits capacities bodies are))
