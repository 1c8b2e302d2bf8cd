-- What is played of a script ends in one way, where memory is refused for no make.
use Rattle.std.proofs.Common.{◌≡◌, ◌⊎◌, inl, inr, ℕ, Bool, zero, suc, ◌<◌, ◌≤◌, ◌+◌, ◌%◌, true, false, Option, Some, List, length, sym, ap, subst, ◌∙◌, arith}
use Rattle.std.proofs.Math.Nat.{mod-lt}
use Rattle.std.proofs.lemmas.Bool.{cases_lt}
use Rattle.std.specs.List.{slice_get, slice_set}
use Rattle.gmp_base.specs.declared.ask.Ask.{Ask}
use Rattle.gmp_base.specs.declared.ask.Woke.{Woke}
use Rattle.gmp_base.specs.declared.number.GNo.{GNo}
use Rattle.gmp_base.specs.declared.number.MNo.{MNo}
use Rattle.gmp_seq.specs.declared.call.Limits.{Limits}
use Rattle.gmp_seq.specs.Fits.{AreLimits}
use Rattle.gmp_driver.specs.Table.{next_act}
use Rattle.gmp_acts.proofs.Moving.{act_sound}
use Rattle.gmp_acts.proofs.Whole.{opening_sound}
use Rattle.gmp_acts.specs.declared.choice.Choice.{Choice}
use Rattle.gmp_acts.specs.Acts.{Acts}
use Rattle.gmp_acts.specs.Sound.{IsSound}
use Rattle.gmp_acts.specs.System.{System, machine_at}
use Rattle.gmp_core.specs.declared.want.Want.{Want}
use Rattle.gmp_core.specs.declared.want.Want.TheVariants as want
use Rattle.gmp_core.specs.Whole.{TakesFixed, Whole, wanted_by}
use Rattle.gmp_core.specs.Plays.{IsDealt, IsSettled, PlaysOne}
use Rattle.gmp_core.specs.Stage.{AreParked, HasTurn, IsOver, machines_of, parked}
use Rattle.gmp_script.specs.Script.{AsksNext, AsksTold, Commands, asked_last, heard}
use Rattle.gmp_cli.specs.Clock.{ClockState}
use Rattle.gmp_cli.specs.Plays.{AnswersCommand, AsksCommand, IsPlayed, Plays, Reads, Stage, opening_stage}
use Rattle.gmp_step_laws.specs.Played.{MakesAll}
use Rattle.gmp_step_laws.specs.Scheduled.{IsUnmade}
use Rattle.gmp_step_laws.proofs.Fixed.{ReadsAlike, SettledAlike, acts_fixed}

-- Whose turn it is

turn_past : (k : System) (turn : ℕ) (m n : MNo) → (h : HasTurn k turn m) → (g : HasTurn k turn n) → h.passed < g.passed → ⊥
turn_past k turn m n h g less =
    let asleep : parked k ((turn + h.passed) % machines_of k) ≡ true = g.asleep h.passed less in
    let awake : parked k ((turn + h.passed) % machines_of k) ≡ false = ap (parked k) (sym h.there) ∙ h.awake in
    let no : true ≡ false = sym asleep ∙ awake in cc

one_turn : (k : System) (turn : ℕ) (m n : MNo) → HasTurn k turn m → HasTurn k turn n → m ≡ n
one_turn k turn m n h g =
    let number : m.0 ≡ n.0 = elim (cases_lt h.passed g.passed) [
      | inl less ↦ absurd (turn_past k turn m n h g less)
      | inr past ↦
          elim (cases_lt g.passed h.passed) [
            | inl less ↦ absurd (turn_past k turn n m g h less)
            | inr past_too ↦
                let same : h.passed ≡ g.passed = omega (arith, past, past_too) in
                h.there ∙ ap (λ (i : ℕ). (turn + i) % machines_of k) same ∙ sym g.there
          ]
    ] in
    ap (λ (i : ℕ). let x : MNo = record { 0 = i } in x) number

-- What an act is dealt

-- what is read of a choice, and what is left of bodies and clock
record DealtAlike (w : Want) (x y : Choice) (stock too : List (Option Commands)) (clock clock_too : ClockState) : Type 0 where
  reads : ReadsAlike w x y
  stock_is : stock ≡ too
  clock_is : clock ≡ clock_too

same_goroutine : (o : Option GNo) (g h : GNo) → o ≡ Some g → o ≡ Some h → g ≡ h
same_goroutine o g h one two = let e : Some g ≡ Some h = sym one ∙ two in let same : g ≡ h = cc in same

same_body : (stock : List (Option Commands)) (g h : GNo) (x y : Commands) → g ≡ h → slice_get stock g.0 ≡ Some (Some x) → slice_get stock h.0 ≡ Some (Some y) → x ≡ y
same_body stock g h x y same one two =
    let e : Some (Some x) ≡ Some (Some y) = sym one ∙ ap (λ (i : GNo). slice_get stock i.0) same ∙ two in let is : x ≡ y = cc in is

same_woke : (o : Option Woke) (x y : Woke) → o ≡ Some x → o ≡ Some y → x ≡ y
same_woke o x y one two = let e : Some x ≡ Some y = sym one ∙ two in let same : x ≡ y = cc in same

-- a body asks in one way by what it is told
asks_once : (before too : Commands) (told told_too : Woke) (asked asked_too : Ask) (after after_too : Commands) → before ≡ too → told ≡ told_too → AsksTold before told asked after
    → AsksTold too told_too asked_too after_too → (asked ≡ asked_too) × (after ≡ after_too)
asks_once before too told told_too asked asked_too after after_too same alike h k =
    let first : AsksTold too told_too asked after = subst (λ (b : Commands). AsksNext b asked after) (ap (λ (b : Commands). heard told b) same ∙ ap (λ (w : Woke). heard w too) alike) h in
    (first.asks ∙ sym k.asks, λ i. record { commands = (first.same ∙ sym k.same) i; next = (first.goes ∙ sym k.goes) i })

dealt_alike : (w : Want) (k : Whole Commands) (clock : ClockState) (m : MNo) (x y : Choice) (stock too : List (Option Commands)) (clock' clock_too : ClockState)
    → IsDealt AsksCommand AnswersCommand Reads w k clock m x stock clock' → IsDealt AsksCommand AnswersCommand Reads w k clock m y too clock_too
    → DealtAlike w x y stock too clock' clock_too
dealt_alike want.Ask k clock m x y stock too clock' clock_too d e =
    let g = same_goroutine _ d.g e.g d.in_hand e.in_hand in
    let body = same_body k.stock d.g e.g d.before e.before g d.has e.has in
    let told = same_woke _ d.told e.told d.holds e.holds in
    let asks = asks_once d.before e.before d.told e.told x.ask y.ask d.after e.after body told d.asks_so.0 e.asks_so.0 in
    record {
      reads = asks.0;
      stock_is = d.stock ∙ (λ i. slice_set k.stock (g i).0 (Some (asks.1 i))) ∙ sym e.stock;
      clock_is = d.asks_so.1 ∙ sym e.asks_so.1;
    }
dealt_alike want.Number k clock m x y stock too clock' clock_too d e =
    let g = same_goroutine _ d.g e.g d.in_hand e.in_hand in
    let body = same_body k.stock d.g e.g d.before e.before g d.has e.has in
    let after : d.after ≡ e.after = d.answers_so.0.1 ∙ body ∙ sym e.answers_so.0.1 in
    record {
      reads = d.answers_so.0.0 ∙ ap asked_last body ∙ sym e.answers_so.0.0;
      stock_is = d.stock ∙ (λ i. slice_set k.stock (g i).0 (Some (after i))) ∙ sym e.stock;
      clock_is = d.answers_so.1 ∙ sym e.answers_so.1;
    }
dealt_alike (want.Moment minded) k clock m x y stock too clock' clock_too d e =
    record { reads = d.shows_so.0 ∙ sym e.shows_so.0; stock_is = d.stock ∙ sym e.stock; clock_is = d.shows_so.1 ∙ sym e.shows_so.1 }
dealt_alike want.Nothing k clock m x y stock too clock' clock_too d e =
    record { reads = tt; stock_is = d.stock ∙ sym e.stock; clock_is = d.outside ∙ sym e.outside }

-- One act

abbrev PlaysSo : ℕ → Stage → Stage → Type 0
PlaysSo = PlaysOne AsksCommand AnswersCommand Reads

-- an act, whose make is not refused
abbrev MakesOne : ℕ → Stage → Stage → Type 0
MakesOne word s s' = (one : PlaysSo word s s') × (¬ (IsUnmade s.core.system one.m s'.core.system))

settled_alike : (word : ℕ) (x y : Choice) → IsSettled word x → IsSettled word y → SettledAlike x y
settled_alike word x y h k = record { word = h.word ∙ sym k.word; pushed = h.pushed ∙ sym k.pushed; sure = h.sure ∙ sym k.sure }

-- of one machine
machine_once : (word : ℕ) (s a b : Stage) (m : MNo) (x y : Choice) → IsSound s.core.system → IsSettled word x → IsSettled word y
    → IsDealt AsksCommand AnswersCommand Reads (wanted_by (next_act (machine_at s.core.system m))) s.core s.outside m x a.core.stock a.outside
    → IsDealt AsksCommand AnswersCommand Reads (wanted_by (next_act (machine_at s.core.system m))) s.core s.outside m y b.core.stock b.outside
    → Acts s.core.system m x a.core.system → Acts s.core.system m y b.core.system → TakesFixed s.core m x.word a.core → TakesFixed s.core m y.word b.core
    → (¬ (IsUnmade s.core.system m a.core.system)) → (¬ (IsUnmade s.core.system m b.core.system)) → a.turn ≡ m.0 + 1 → b.turn ≡ m.0 + 1 → a ≡ b
machine_once word s a b m x y sound settled settled_too deals deals_too acts acts_too fixed fixed_too made made_too turn turn_too =
    let dealt = dealt_alike (wanted_by (next_act (machine_at s.core.system m))) s.core s.outside m x y a.core.stock b.core.stock a.outside b.outside deals deals_too in
    let core = acts_fixed s.core a.core b.core m x y (settled_alike word x y settled settled_too) sound fixed fixed_too made made_too dealt.reads acts acts_too in
    λ i. record { core = record { system = core.0 i; stock = dealt.stock_is i; shelf = core.1 i }; outside = dealt.clock_is i; turn = (turn ∙ sym turn_too) i }

act_once : (word : ℕ) (s a b : Stage) → IsSound s.core.system → MakesOne word s a → MakesOne word s b → a ≡ b
act_once word s a b sound (p, made) (q, made_too) =
    let same : q.m ≡ p.m = one_turn s.core.system s.turn q.m p.m q.next p.next in
    machine_once word s a b p.m p.choice q.choice sound p.settled q.settled p.deals
    (subst (λ (m : MNo). IsDealt AsksCommand AnswersCommand Reads (wanted_by (next_act (machine_at s.core.system m))) s.core s.outside m q.choice b.core.stock b.outside) same q.deals)
    p.acts (subst (λ (m : MNo). Acts s.core.system m q.choice b.core.system) same q.acts) p.fixed (subst (λ (m : MNo). TakesFixed s.core m q.choice.word b.core) same q.fixed)
    made (subst (λ (m : MNo). ¬ (IsUnmade s.core.system m b.core.system)) same made_too) p.turn (q.turn ∙ ap (λ (m : MNo). m.0 + 1) same)

-- Acts in a row

-- a play, of whose makes none is refused
abbrev MakesSo : ℕ → ℕ → Stage → Stage → Type 0
MakesSo word n s s' = (plays : Plays word n s s') × MakesAll word n s s' plays

sound_on : (word n : ℕ) (s s' : Stage) → IsSound s.core.system → Plays word n s s' → IsSound s'.core.system
sound_on word zero s s' sound same = subst (λ (x : Stage). IsSound x.core.system) (sym same) sound
sound_on word (suc n) s s' sound (mid, plays, one) = act_sound mid.core.system one.m one.choice s'.core.system one.acts (sound_on word n s mid sound plays)

plays_once : (word n : ℕ) (s a b : Stage) → IsSound s.core.system → MakesSo word n s a → MakesSo word n s b → a ≡ b
plays_once word zero s a b sound (h, made) (k, made_too) = h ∙ sym k
plays_once word (suc n) s a b sound ((mid, plays, one), (made, one_made)) ((mid_too, plays_too, one_too), (made_too, one_made_too)) =
    let same : mid_too ≡ mid = plays_once word n s mid_too mid sound (plays_too, made_too) (plays, made) in
    act_once word mid a b (sound_on word n s mid sound plays) (one, one_made) (subst (λ (x : Stage). MakesOne word x b) same (one_too, one_made_too))

-- a longer play goes on from where a shorter one is
goes_on : (word n many : ℕ) (s b : Stage) → n < many → MakesSo word many s b → (mid next : Stage) × MakesSo word n s mid × PlaysSo word mid next
goes_on word n zero s b less makes = absurd (omega (arith, less))
goes_on word n (suc k) s b less ((mid, plays, one), (made, one_made)) =
    elim (cases_lt n k) [
      | inl shorter ↦ goes_on word n k s mid shorter (plays, made)
      | inr past ↦ (let same : k ≡ n = omega (arith, less, past) in (mid, b, subst (λ (i : ℕ). MakesSo word i s mid) same (plays, made), one))
    ]

-- where no machine is left to act none has its turn
no_turn : (k : System) (turn : ℕ) (m : MNo) → HasTurn k turn m → AreParked k → ⊥
no_turn k turn m turn_is parked_all =
    let few = turn_is.few in
    let within : m.0 < machines_of k = subst (λ (i : ℕ). i < machines_of k) (sym turn_is.there) (mod-lt (turn + turn_is.passed) (omega (arith, few))) in
    let no : true ≡ false = sym (parked_all m within) ∙ turn_is.awake in cc

-- so none is longer than one that has ended
no_longer : (acts word n many : ℕ) (s a b : Stage) → IsSound s.core.system → MakesSo word n s a → IsOver a.core.system ⊎ (n ≡ acts) ⊎ AreParked a.core.system → many ≤ acts → n < many
    → MakesSo word many s b → ⊥
no_longer acts word n many s a b sound makes ends few less longer =
    let on = goes_on word n many s b less longer in
    let same : on.0 ≡ a = plays_once word n s on.0 a sound on.2 makes in
    let one : PlaysSo word a on.1 = subst (λ (x : Stage). PlaysSo word x on.1) same on.3 in
    elim ends [
      | inl over ↦ one.lasts over
      | inr more ↦
          elim more [
            | inl all ↦ omega (arith, all, few, less)
            | inr parked_all ↦ no_turn a.core.system a.turn one.m one.next parked_all
          ]
    ]

pub one_end : (is_fair : Bool) (acts word : ℕ) (limits : Limits) (capacities readings : List ℕ) (bodies : List Commands) (a b : Stage) → AreLimits limits (length bodies) capacities
    → (p : IsPlayed acts word (opening_stage is_fair limits capacities readings bodies) a) → MakesAll word p.made (opening_stage is_fair limits capacities readings bodies) a p.plays
    → (q : IsPlayed acts word (opening_stage is_fair limits capacities readings bodies) b) → MakesAll word q.made (opening_stage is_fair limits capacities readings bodies) b q.plays → a ≡ b
one_end is_fair acts word limits capacities readings bodies a b are p made q made_too =
    let s = opening_stage is_fair limits capacities readings bodies in
    let sound : IsSound s.core.system = opening_sound is_fair 0 limits (length bodies) capacities are in
    elim (cases_lt p.made q.made) [
      | inl less ↦ absurd (no_longer acts word p.made q.made s a b sound (p.plays, made) p.ends q.few less (q.plays, made_too))
      | inr past ↦
          elim (cases_lt q.made p.made) [
            | inl less ↦ absurd (no_longer acts word q.made p.made s b a sound (q.plays, made_too) q.ends p.few less (p.plays, made))
            | inr past_too ↦
                let same : q.made ≡ p.made = omega (arith, past, past_too) in
                plays_once word p.made s a b sound (p.plays, made) (subst (λ (i : ℕ). MakesSo word i s b) same (q.plays, made_too))
          ]
    ]
