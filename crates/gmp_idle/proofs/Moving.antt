-- What each call does to the machines, by the first idle processor and the first parked machine.
use Rattle.std.proofs.Common.{◌≡◌, ℕ, ◌<◌, ◌≤◌, ◌==◌, ◌⊎◌, Bool, true, false, not, ◌&&◌, Option, Some, None, List, get_or, map, replicate, set, refl, sym, ap, subst, ◌∙◌, inl, inr, arith}
use Rattle.std.specs.Prelude.{count_by, is_none, position, slice_get, take}
use Rattle.std.specs.List.{list_any}
use Rattle.std.proofs.lemmas.Bool.{cases_lt, eqb-true}
use Rattle.std.proofs.lemmas.List.{get_or-replicate, get_or_past, length-replicate, set_comm}
use Rattle.std.proofs.lemmas.List.Folds.{list_any_at, sum_by-replicate}
use Rattle.std.proofs.lemmas.List.Quantifiers.{position-Some}
use Rattle.std.proofs.lemmas.Option.{slice_get-get_or, slice_get_within, unwrap_or-slice_get}
use Rattle.gmp_base.specs.declared.number.MNo.{MNo}
use Rattle.gmp_base.specs.declared.number.PNo.{PNo}
use Rattle.gmp_seq.specs.declared.call.Reply.TheVariants as reply
use Rattle.gmp_seq.specs.declared.status.Mode.{Mode}
use Rattle.gmp_seq.specs.declared.status.Mode.TheVariants.{Awake, Parked, Calling}
use Rattle.gmp_seq.specs.Machines.{Machines, awake_marked, is_awake_mode, Enters, Holds, IsAwake, IsParked, MayKeep, Pokes, has_processor, how_many_spin, is_held_by, is_parked_mode, set_holder, set_mode, some_idle, some_parked, wants_poke}
use Rattle.gmp_idle.specs.Kept.{HaveFlags, flag_of}
use Rattle.gmp_idle.specs.Replies.{poke_reply}
use Rattle.gmp_idle.specs.Tables.{WakesLeast}
use Rattle.gmp_idle.proofs.Holding.{flag-set_same, flag_told, given_up, holder_within, list_any-count_by, number_of, taken, turned}
use Rattle.gmp_idle.proofs.Marking.{first_below, not-not, some_first}

-- The first ones

nobody : (holder : Option MNo) → is_none holder ≡ true → holder ≡ None
nobody None e = refl
nobody (Some m) e = absurd cc

pub first_idle : (holders : List (Option MNo)) (i : ℕ) → position is_none holders ≡ Some i → slice_get holders i ≡ Some None
first_idle holders i first =
    let none : Option MNo = None in
    let there = position-Some is_none holders i none first in
    slice_get-get_or holders i none there.0 ∙ ap Some (nobody (get_or holders i none) there.1)

parked_mode : (mode : Mode) → is_parked_mode mode ≡ true → mode ≡ Parked
parked_mode Parked e = refl
parked_mode _ e = absurd cc

pub first_parked : (modes : List Mode) (i : ℕ) → position is_parked_mode modes ≡ Some i → slice_get modes i ≡ Some Parked
first_parked modes i first =
    let there = position-Some is_parked_mode modes i Parked first in
    slice_get-get_or modes i Parked there.0 ∙ ap Some (parked_mode (get_or modes i Parked) there.1)

some_is_parked : (modes : List Mode) (i : ℕ) → position is_parked_mode modes ≡ Some i → list_any is_parked_mode modes ≡ true
some_is_parked modes i first =
    let there = position-Some is_parked_mode modes i Parked first in
    list_any_at is_parked_mode modes i Parked there.0 there.1

held_by : (m : MNo) (holder : Option MNo) → is_held_by m holder ≡ true → holder ≡ Some m
held_by m None e = absurd cc
held_by m (Some n) e = ap (λ (k : ℕ). Some (record { 0 = k })) (sym (eqb-true m.0 n.0 e))

-- whether its processor is among the active ones, of a machine that has one
pub keeps : (w : Machines) (m : MNo) (r : Bool) → IsAwake w m → has_processor w m ≡ true → r ≡ list_any (is_held_by m) (take w.active w.holders)
    → MayKeep m (reply.Answer r) w w
keeps w m r awake has told =
    let none : Option MNo = None in
    let first = some_first (is_held_by m) w.holders has in
    let there = position-Some (is_held_by m) w.holders first.0 none first.1 in
    let holds = slice_get-get_or w.holders first.0 none there.0 ∙ ap Some (held_by m (get_or w.holders first.0 none) there.1) in
    (awake, record { 0 = first.0 }, holds, told ∙ first_below (is_held_by m) w.holders w.active first.0 first.1, refl)

-- What is kept

-- nobody holds a processor, and no machine is in a blocking call
pub kept_at_first : (procs machines : ℕ) → HaveFlags (replicate procs None) (replicate machines Awake) (replicate machines false) (replicate machines false)
kept_at_first procs machines = record {
  flags = length-replicate machines false ∙ sym (length-replicate machines Awake);
  spinners = length-replicate machines false ∙ sym (length-replicate machines Awake);
  held = λ m. none_held m ∙ ap number_of (sym (unset m));
  callers = λ m calls. unset m;
}
  where
    none_held : (m : MNo) → count_by (is_held_by m) (replicate procs None) ≡ 0
    none_held m =
        let none : Option MNo = None in
        let counted = sum_by-replicate (λ h. number_of (is_held_by m h)) procs none in
        omega (arith, counted)

    unset : (m : MNo) → flag_of (replicate machines false) m ≡ false
    unset m = unwrap_or-slice_get (replicate machines false) m.0 false ∙ by_place (cases_lt m.0 machines)
      where
        by_place : (m.0 < machines) ⊎ (machines ≤ m.0) → get_or (replicate machines false) m.0 false ≡ false
        by_place (inl below) = get_or-replicate machines m.0 false false below
        by_place (inr past) =
            let long = length-replicate machines false in
            get_or_past (replicate machines false) m.0 false (omega arith)

module _ (holders : List (Option MNo)) (modes : List Mode) (holding spinning : List Bool) (kept : HaveFlags holders modes holding spinning) where
  -- a machine that is awake and holds no processor takes the first idle one
  pub kept_taken : (m : MNo) (i : ℕ) → slice_get modes m.0 ≡ Some Awake → list_any (is_held_by m) holders ≡ false → position is_none holders ≡ Some i
      → HaveFlags (set holders i (Some m)) modes (set holding m.0 true) spinning
  kept_taken m i awake bare first =
      taken holders modes holding spinning kept m i (first_idle holders i first) (flag_told holders modes holding spinning m kept ∙ bare)
      (slice_get_within modes m.0 Awake awake) busy
    where
      busy : (n : MNo) → slice_get modes n.0 ≡ Some Calling → n.0 ≡ m.0 → ⊥
      busy n calls same =
          let here : slice_get modes m.0 ≡ Some Calling = ap (slice_get modes) (sym same) ∙ calls in
          cc

  pub kept_woken : (r : Option MNo) (woken : List Mode) → WakesLeast r modes woken → HaveFlags holders woken holding spinning
  kept_woken None woken wakes = rw wakes.1 kept
  kept_woken (Some n) woken wakes = rw wakes.1 (turned holders modes holding spinning kept n Awake (λ e. absurd cc))

  -- a machine that gave up its processor holds none
  pub bare_after : (m : MNo) (i : ℕ) → slice_get holders i ≡ Some (Some m) → list_any (is_held_by m) (set holders i None) ≡ false
  bare_after m i holds =
      let free = given_up holders modes holding spinning kept m i holds in
      let within = holder_within holders modes holding spinning kept m i holds in
      sym (flag_told (set holders i None) modes (set holding m.0 false) spinning m free) ∙ flag-set_same holding m.0 m false within refl

  -- a machine that holds no processor goes into a blocking call, and another may have woken
  pub kept_entered : (m : MNo) (r : Option MNo) (woken : List Mode) → list_any (is_held_by m) holders ≡ false → WakesLeast r modes woken
      → HaveFlags holders (set woken m.0 Calling) holding spinning
  kept_entered m r woken bare wakes =
      turned holders woken holding spinning (kept_woken r woken wakes) m Calling (λ e. flag_told holders modes holding spinning m kept ∙ bare)

  -- a machine in a blocking call holds no processor
  pub bare_in_call : (m : MNo) → slice_get modes m.0 ≡ Some Calling → list_any (is_held_by m) holders ≡ false
  bare_in_call m calls = sym (flag_told holders modes holding spinning m kept) ∙ kept.callers m calls

-- The relations

-- nobody spins where no flag is true
pub spinners : (w : Machines) → (how_many_spin w == 0) ≡ not (list_any (λ b. b) w.spinning)
spinners w = sym (not-not (how_many_spin w == 0)) ∙ ap not (sym (list_any-count_by (λ b. b) w.spinning))

-- nobody spins, and a processor is idle
abbrev pub may_wake : Machines → Bool
may_wake w = (how_many_spin w == 0) && some_idle w

pub may_wake_with : (w : Machines) (calm : Bool) → (how_many_spin w == 0) ≡ calm → may_wake w ≡ (calm && some_idle w)
may_wake_with w calm e = ap (λ (a : Bool). a && some_idle w) e

both : (a b c : Bool) → (a && b && c) ≡ ((a && b) && c)
both true b c = refl
both false b c = refl

wants : (w : Machines) (may some : Bool) → may_wake w ≡ may → some_parked w ≡ some → wants_poke w ≡ (may && some)
wants w may some e parked =
    both (how_many_spin w == 0) (some_idle w) (some_parked w) ∙ (ap (λ (a : Bool). a && some_parked w) e ∙ ap (λ (a : Bool). may && a) parked)

pub pokes : (old value : Machines) (m : MNo) (r : Option MNo) (woken : List Mode) → old ≡ value → IsAwake value m → may_wake old ≡ true → WakesLeast r old.modes woken
    → Pokes m (poke_reply r) value (record { holders = old.holders; modes = woken; spinning = old.spinning; marked = old.marked; active = old.active })
pokes old value m None woken is awake may wakes = (
  awake,
  ap wants_poke (sym is) ∙ wants old true false may wakes.0,
  ap (λ (ms : List Mode). record old { modes = ms }) wakes.1 ∙ is,
)
pokes old value m (Some n) woken is awake may wakes = (
  awake,
  ap wants_poke (sym is) ∙ wants old true true may (some_is_parked old.modes n.0 wakes.0),
  subst (λ (w : Machines). IsParked w n) is (first_parked old.modes n.0 wakes.0),
  ap (λ (ms : List Mode). record old { modes = ms }) wakes.1 ∙ ap (λ (w : Machines). set_mode w n Awake) is,
)

-- between, the machine's processor is idle, and nothing else is done
pub enters : (between value : Machines) (m : MNo) (p : PNo) (r : Option MNo) (woken : List Mode) → between ≡ set_holder value p None → IsAwake value m
    → Holds value m p → WakesLeast r between.modes woken
    → Enters m (reply.Entered p r) value (record { holders = between.holders; modes = set woken m.0 Calling; spinning = between.spinning; marked = map is_awake_mode (set woken m.0 Calling); active = between.active })
enters between value m p None woken is awake holds wakes = (
  holds,
  ap some_parked (sym is) ∙ wakes.0,
  ap (λ (ms : List Mode). awake_marked (set_mode (record between { modes = ms }) m Calling)) wakes.1 ∙ ap (λ (w : Machines). awake_marked (set_mode w m Calling)) is,
)
enters between value m p (Some n) woken is awake holds wakes =
    let parked = first_parked between.modes n.0 wakes.0 in
    let here : slice_get between.modes m.0 ≡ Some Awake = subst (λ (w : Machines). IsAwake w m) (sym is) awake in
    let turned : set woken m.0 Calling ≡ set (set between.modes m.0 Calling) n.0 Awake =
    ap (λ ms. set ms m.0 Calling) wakes.1 ∙ set_comm between.modes n.0 m.0 Awake Calling (apart between.modes n.0 m.0 parked here) in (
      holds,
      subst (λ (w : Machines). IsParked w n) is parked,
      ap (λ (ms : List Mode). awake_marked (record between { modes = ms })) turned ∙ ap (λ (w : Machines). awake_marked (set_mode (set_mode w m Calling) n Awake)) is,
    )
  where
    apart : (modes : List Mode) (i j : ℕ) → slice_get modes i ≡ Some Parked → slice_get modes j ≡ Some Awake → i ≡ j → ⊥
    apart modes i j parked awake same =
        let there : slice_get modes j ≡ Some Parked = ap (slice_get modes) (sym same) ∙ parked in
        cc
