-- What was said, at its bounds: where the history is handed out or the run is stopped, before the first call, and at the end.
use Rattle.std.specs.Prelude.{◌||◌}
use Rattle.std.proofs.Common.{◌≡◌, ◌⊎◌, inl, inr, ℕ, zero, suc, Bool, true, false, List, [], ◌∷◌, Option, None, Some, is_some, length, map, slice_get, refl, sym, ap, subst, ◌∙◌, arith}
use Rattle.std.proofs.lemmas.Bool.{false≢true}
use Rattle.gmp_base.specs.declared.number.GNo.{GNo}
use Rattle.gmp_seq.specs.declared.call.Entry.{Entry}
use Rattle.gmp_seq.specs.declared.call.Limits.{Limits}
use Rattle.gmp_seq.specs.Fits.{AreLimits}
use Rattle.gmp_seq.specs.State.{State, opening}
use Rattle.gmp_journal.specs.Log.{Log, is_over}
use Rattle.gmp_journal.specs.Segments.{handed_out}
use Rattle.gmp_driver.specs.Machine.{Machine}
use Rattle.gmp_acts.specs.Hands.{PlainMachine}
use Rattle.gmp_acts.specs.System.{called_number, held_number}
use Rattle.gmp_said.specs.Said.{AreLast, Blocks, IsLast, IsSaid, Resumes, Speaker, unheard}
use Rattle.gmp_said.specs.Standing.{HasExactly, Owns}
use Rattle.gmp_said.proofs.Owning.{exactly, opening_has, plain_calling, plain_running}
use Rattle.gmp_said.proofs.Standing.{none_in}
use Rattle.gmp_run.specs.Boards.{AreFirst}
use Rattle.gmp_run.specs.Speakers.{AreHeard, AreHeardLast}
use Rattle.gmp_run.proofs.Places.{free_at, map_get}

-- The history alone changed, or the run was stopped too.

or_true : (b : Bool) → (b || true) ≡ true
or_true true = refl
or_true false = refl

module _ {T Q : Type 0} (resumes : Resumes T) (blocks : Blocks T) (given_bodies : List T) (machines : ℕ) (log : Log) (board : List (Machine T Q)) (places : List (Option T)) (h : List Entry)
    (heard : AreHeard resumes blocks given_bodies machines log board places h) where
  pub heard_out : AreHeard resumes blocks given_bodies machines (handed_out log) board places h
  heard_out = record { speakers = heard.speakers; said = heard.said; inside = heard.inside; in_hand = heard.in_hand; owns = heard.owns }

  pub heard_stopped : AreHeard resumes blocks given_bodies machines (record (handed_out log) { stopped = true }) board places h
  heard_stopped = record {
    speakers = heard.speakers;
    said = heard.said;
    inside = λ i b e. inside i b (heard.inside i b e);
    in_hand = heard.in_hand;
    owns = λ m x on. ((heard.owns m x on).0, λ goes. absurd (false≢true (sym goes ∙ or_true (is_some log.state.outcome))));
  } where
    inside : (i : ℕ) (b : T) → (s : Speaker T) × (slice_get heard.speakers i ≡ Some s) × ((s.body ≡ b) ⊎ ((is_over log ≡ true) × IsLast resumes blocks log.state.table (record { 0 = i }) s b))
        → (s : Speaker T) × (slice_get heard.speakers i ≡ Some s) × ((s.body ≡ b) ⊎ ((is_some log.state.outcome || true ≡ true) × IsLast resumes blocks log.state.table (record { 0 = i }) s b))
    inside i b (s, has, inl as_was) = (s, has, inl as_was)
    inside i b (s, has, inr later) = (s, has, inr (or_true (is_some log.state.outcome), later.1))

  -- once all are in the book
  pub heard_last : AreHeardLast resumes blocks given_bodies log places h
  heard_last = record { speakers = heard.speakers; said = heard.said; inside = heard.inside }

-- Before the first call

map_unheard : {T : Type 0} (xs : List T) (i : ℕ) (b : T) → slice_get (map Some xs) i ≡ Some (Some b) → slice_get (map unheard xs) i ≡ Some (unheard b)
map_unheard [] i b e = absurd (let wrong : None ≡ Some (Some b) = e in cc)
map_unheard (x ∷ xs) zero b e = (let same : Some (Some x) ≡ Some (Some b) = e in let is : x ≡ b = cc in ap (λ (y : _). Some (unheard y)) is)
map_unheard (x ∷ xs) (suc i) b e = map_unheard xs i b e

module _ {T Q : Type 0} (resumes : Resumes T) (blocks : Blocks T) (given_bodies : List T) (machines run : ℕ) (is_fair : Bool) (log : Log) (board : List (Machine T Q)) where
  pub heard_start : log.state ≡ opening log.limits (length given_bodies) log.capacities → AreLimits log.limits (length given_bodies) log.capacities → log.limits.machines ≡ machines
      → AreFirst machines run is_fair log.limits.procs board → length board ≡ machines → AreHeard resumes blocks given_bodies machines log board (map Some given_bodies) []
  heard_start state within count first long = record {
    speakers = map unheard given_bodies;
    said = ([], refl, (state, refl));
    inside = λ i b e. (unheard b, map_unheard given_bodies i b e, inl refl);
    in_hand = λ p x found i b e. absurd (let none = none_in x.hand (free p x found).0 (free p x found).1 i in let wrong : None ≡ Some b = sym none ∙ e in cc);
    owns = λ m x on. (
        let is = first m x on in
        let none = opening_has log.limits (length given_bodies) log.capacities within (record { 0 = m }) (let place = on.1 in omega (arith, place, count)) in
        let at_state : HasExactly log.state.table (record { 0 = m }) None None = subst (λ (s : State). HasExactly s.table (record { 0 = m }) None None) (sym state) none in
        let held : held_number x.hand.held ≡ None = sym (plain_running x.hand.held) ∙ ap (λ (y : PlainMachine). held_number y.hand.held) is in
        let called : called_number x.hand.called ≡ None = sym (plain_calling x.hand.called) ∙ ap (λ (y : PlainMachine). called_number y.hand.called) is in
        subst (λ (o : Option GNo). Owns (is_over log) log.state.table (record { 0 = m }) o (called_number x.hand.called)) (sym held)
        (subst (λ (o : Option GNo). Owns (is_over log) log.state.table (record { 0 = m }) None o) (sym called) (exactly (is_over log) log.state.table (record { 0 = m }) None None at_state)));
  } where
    free : (p : ℕ) (x : Machine T Q) → slice_get board p ≡ Some x → (x.hand.held ≡ None) × (x.hand.called ≡ None)
    free = free_at machines run is_fair log.limits.procs board long first

-- At the end

module _ {T : Type 0} (resumes : Resumes T) (blocks : Blocks T) (given_bodies : List T) (log : Log) (limits : Limits) (capacities : List ℕ) (bodies : List T) (h h' : List Entry) where
  pub said_last : log.limits ≡ limits → log.capacities ≡ capacities → h' ≡ h → AreHeardLast resumes blocks given_bodies log (map Some bodies) h
      → (last : State) × (speakers : List (Speaker T)) × IsSaid resumes blocks limits capacities given_bodies h' last speakers × AreLast resumes blocks last.table speakers bodies
  said_last limits_are rooms_are same heard = (
    log.state,
    heard.speakers,
    subst (λ (k : List Entry). IsSaid resumes blocks limits capacities given_bodies k log.state heard.speakers) (sym same)
        (subst (λ (l : Limits). IsSaid resumes blocks l capacities given_bodies h log.state heard.speakers) limits_are
        (subst (λ (cs : List ℕ). IsSaid resumes blocks log.limits cs given_bodies h log.state heard.speakers) rooms_are heard.said)),
    λ i b e. by i b (heard.inside i b (map_get bodies i b e)),
  ) where
    by : (i : ℕ) (b : T) → (s : Speaker T) × (slice_get heard.speakers i ≡ Some s) × ((s.body ≡ b) ⊎ ((is_over log ≡ true) × IsLast resumes blocks log.state.table (record { 0 = i }) s b))
        → (s : Speaker T) × (slice_get heard.speakers i ≡ Some s) × IsLast resumes blocks log.state.table (record { 0 = i }) s b
    by i b (s, has, inl as_was) = (s, has, inl as_was)
    by i b (s, has, inr later) = (s, has, later.1)
