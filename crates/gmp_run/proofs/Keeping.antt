-- A desk and its board are kept by each turn of a machine at the book.
use Rattle.std.proofs.Common.{◌≡◌, ℕ, Bool, List, Option, None, Some, Result, Ok, Err, slice_get, slice_set, refl, sym, ap, subst, ◌∙◌}
use Rattle.gmp_base.specs.declared.number.MNo.{MNo}
use Rattle.gmp_base.specs.declared.pass.Pass.{Pass}
use Rattle.gmp_base.specs.declared.refusal.Refusal.{Refusal}
use Rattle.gmp_history.specs.Brief.{HistoryContents}
use Rattle.gmp_seq.specs.declared.call.Call.{Call}
use Rattle.gmp_seq.specs.declared.call.Entry.{Entry}
use Rattle.gmp_seq.specs.declared.call.Reply.{Reply}
use Rattle.gmp_book.specs.Book.{BookContents}
use Rattle.gmp_driver.specs.declared.act.Act.{Act}
use Rattle.gmp_driver.specs.declared.act.Act.TheVariants as act
use Rattle.gmp_driver.specs.declared.act.Value.{Value}
use Rattle.gmp_driver.specs.Fits.{SuitsPlace}
use Rattle.gmp_driver.specs.Machine.{Machine}
use Rattle.gmp_driver.specs.Table.{next_act}
use Rattle.gmp_acts.specs.Hands.{plain_machine}
use Rattle.gmp_journal.specs.Log.{Log, entries_made}
use Rattle.gmp_journal.specs.Refusals.{Says}
use Rattle.gmp_turn.specs.Surrenders.{Surrenders, surrendered}
use Rattle.gmp_turn.proofs.Ending.{log_after}
use Rattle.gmp_turn.specs.Turns.{Turns}
use Rattle.gmp_worker.specs.Turn.{TakesTurn}
use Rattle.rand_pcg.specs.Lcg.{Lcg}
use Rattle.gmp_said.specs.Said.{Blocks, Resumes}
use Rattle.gmp_said.specs.Standing.{HandSaid}
use Rattle.gmp_run.specs.Boards.{AreCounted, AreLed}
use Rattle.gmp_run.specs.Bodies.{ArePlaced, HandLed}
use Rattle.gmp_run.specs.Desks.{IsDesk}
use Rattle.gmp_run.specs.Speakers.{AreAccounted, AreHeard}
use Rattle.gmp_run.specs.Trails.{GoesAlone, GoesOn}
use Rattle.gmp_run.proofs.Boards.{calls, of_pass, stays}
use Rattle.gmp_run.proofs.Desks.{recorded, unchanged}
use Rattle.gmp_run.proofs.Leading.{acts, enters}
use Rattle.gmp_run.proofs.Making.{gives, makes, refused}
use Rattle.gmp_run.proofs.Trails.{goes}
use Rattle.gmp_run.proofs.Turning.{all_call_heard, all_refusal_heard, all_surrender_heard}

-- no line refuses what was answered
allowed : (wants : Type 0) (lines : Option Refusal) → Says wants lines None → lines ≡ None
allowed wants None says = refl
allowed wants (Some why) says = absurd cc

-- The machine at this place of the board makes the turn, after acts of its own.
module _ {T Q S : Type 0} (resumes : Resumes T) (blocks : Blocks T) (given : List T) (run : ℕ) (is_fair : Bool) (machines : ℕ) (first : S → Type 0) (takes refuses : S → List Entry → S → Type 0) (total total' : ℕ) (sink : S) (spare : HistoryContents)
    (board : List (Machine T Q)) (at : ℕ) (left : Machine T Q) (there : slice_get board at ≡ Some left) where
  -- what is kept of a history with this book and these machines
  abbrev Made : List (Machine T Q) → BookContents T Q → List Entry → Type 0
  Made all book h = AreAccounted resumes blocks given machines run is_fair book.log all book.bodies h

  -- what the desk keeps of this book, with these machines
  abbrev Keeps : ℕ → List (Machine T Q) → BookContents T Q → Type 0
  Keeps count all book = IsDesk run first takes refuses (Made all book) book.log count sink spare

  abbrev Heard : List (Machine T Q) → BookContents T Q → List Entry → Type 0
  Heard all book h = ∥ AreHeard resumes blocks given machines book.log all book.bodies h ∥₁

  module _ (x : Machine T Q) (book : BookContents T Q) (x' : Machine T Q) (book' : BookContents T Q) (alone : ∥ GoesAlone (plain_machine left) (plain_machine x) ∥₁) (led : ∥ HandLed resumes blocks left.hand x.hand ∥₁)
      (said : ∥ HandSaid resumes blocks left.place left.hand x.place x.hand ∥₁) (placed : ∥ ArePlaced resumes blocks given board book.bodies ∥₁) (desk : Keeps total board book) where
    -- no entry was made
    acted : book'.log ≡ book.log → GoesOn (plain_machine x) (plain_machine x') → ((h : List Entry) → Heard board book h → Heard (slice_set board at x') book' h) → entries_made book'.log ≡ total' → Keeps total' (slice_set board at x') book'
    acted same one hears counted =
        unchanged run first takes refuses (Made board book) (Made (slice_set board at x') book') book.log book'.log total total' sink spare desk same
        (λ h made. (
          subst (λ (l : Log). AreLed machines run is_fair l (slice_set board at x') h) (sym same) (acts machines run is_fair board at left x x' there alone book.log h (goes (plain_machine x) (plain_machine x') one) made.0),
          hears h made.1,
        )) counted

    turned : (asked : Call) (word : ℕ) (result : Result Reply Refusal) → next_act x ≡ act.Call asked → SuitsPlace x.place x.hand → x.pass ≡ left.pass → AreCounted book.log.state.counts machines board
        → Turns x book asked word result x' book' → entries_made book'.log ≡ total' → Keeps total' (slice_set board at x') book'
    turned asked word (Ok answer) is fits same are t counted =
        let own = of_pass book.log.state.counts machines board are at left x there same t.before t.pass in
        recorded run first takes refuses (Made board book) (Made (slice_set board at x') book') book.log book'.log total total' sink spare desk t.before t.behind asked answer _
        (allowed _ _ t.refused) t.records
        (λ h made. (
          enters machines run is_fair board at left x x' there alone book.log book'.log h (record { m = t.before.m; k = t.before.calls; call = asked; reply = answer }) t.records.opened own.0 (own.1, t.records.step)
              (makes x x' book book' asked word answer is fits t) made.0,
          all_call_heard resumes blocks given board at left x there alone led said machines x' book book' placed h made.1 asked word answer is fits t own.0 own.1,
        )) counted
    turned asked word (Err why) is fits same are t counted =
        let own = of_pass book.log.state.counts machines board are at left x there same t.before t.pass in
        acted (ap (λ (b : BookContents T Q). b.log) t.err.0) (refused x x' book book' asked word why is t)
        (λ h heard. all_refusal_heard resumes blocks given board at left x there alone led said machines x' book book' placed h heard asked word why is fits t own.0) counted

    surrendered_at : (which : Option Value) (result : Result Unit Refusal) → next_act x ≡ act.Surrender which → x.pass ≡ left.pass → AreCounted book.log.state.counts machines board
        → Surrenders x book which result x' book' → entries_made book'.log ≡ total' → Keeps total' (slice_set board at x') book'
    surrendered_at which result is same are t counted =
        let own = of_pass book.log.state.counts machines board are at left x there same t.before t.pass in
        acted (ap (λ (b : BookContents T Q). b.log) t.places ∙ log_after which result (surrendered x t.before which) book) (gives x x' book book' which result is t)
        (λ h heard. all_surrender_heard resumes blocks given board at left x there alone led said machines x' book book' placed h heard which result is t own.0) counted

    pub kept : (a : Act) → next_act x ≡ a → (g : Lcg) (woken : Option MNo) (g' : Lcg) → SuitsPlace x.place x.hand → x.pass ≡ left.pass → AreCounted book.log.state.counts machines board
        → TakesTurn a x book g woken x' book' g' → entries_made book'.log ≡ total' → Keeps total' (slice_set board at x') book'
    kept (act.Call asked) is g woken g' fits same are t counted = turned asked _ t.0 is fits same are t.1 counted
    kept (act.Surrender which) is g woken g' fits same are t counted = surrendered_at which t.0 is same are t.1 counted
    kept act.Pop is g woken g' fits same are t counted = absurd t
    kept act.Drain is g woken g' fits same are t counted = absurd t
    kept act.Push is g woken g' fits same are t counted = absurd t
    kept act.Hunt is g woken g' fits same are t counted = absurd t
    kept (act.Steal v) is g woken g' fits same are t counted = absurd t
    kept act.Resume is g woken g' fits same are t counted = absurd t
    kept act.Block is g woken g' fits same are t counted = absurd t
    kept (act.Clock minded) is g woken g' fits same are t counted = absurd t
    kept act.Nothing is g woken g' fits same are t counted = absurd t

-- The machines on the board, of which the one at this place makes the turn.
module _ {T Q : Type 0} (machines : ℕ) (board : List (Machine T Q)) (at : ℕ) (left : Machine T Q) (there : slice_get board at ≡ Some left) where
  called : (x : Machine T Q) (book : BookContents T Q) (asked : Call) (word : ℕ) (result : Result Reply Refusal) (x' : Machine T Q) (book' : BookContents T Q)
      → Turns x book asked word result x' book' → x.pass ≡ left.pass → AreCounted book.log.state.counts machines board → AreCounted book'.log.state.counts machines (slice_set board at x')
  called x book asked word (Ok answer) x' book' t same are =
      subst (λ (counts : List ℕ). AreCounted counts machines (slice_set board at x')) (sym t.records.step.2)
      (calls book.log.state.counts machines board are at left x there same x' t.before (entries_made book'.log) t.pass
      (ap (λ (y : Machine T Q). y.pass) t.machine ∙ ap (λ (p : Pass). Some p) t.records.pass))
  called x book asked word (Err why) x' book' t same are =
      subst (λ (b : BookContents T Q). AreCounted b.log.state.counts machines (slice_set board at x')) (sym t.err.0)
      (stays book.log.state.counts machines board are at left x there same x' (ap (λ (y : Machine T Q). y.pass) t.machine ∙ (ap (λ (p : Pass). Some p) t.err.1 ∙ sym t.pass)))

  gives_back : (x : Machine T Q) (book : BookContents T Q) (which : Option Value) (result : Result Unit Refusal) (x' : Machine T Q) (book' : BookContents T Q)
      → Surrenders x book which result x' book' → x.pass ≡ left.pass → AreCounted book.log.state.counts machines board → AreCounted book'.log.state.counts machines (slice_set board at x')
  gives_back x book which result x' book' t same are =
      let log : book'.log ≡ book.log = ap (λ (b : BookContents T Q). b.log) t.places ∙ log_after which result (surrendered x t.before which) book in
      subst (λ (l : Log). AreCounted l.state.counts machines (slice_set board at x')) (sym log)
      (stays book.log.state.counts machines board are at left x there same x' (ap (λ (y : Machine T Q). y.pass) t.machine ∙ sym t.pass))

  pub counted : (a : Act) (x : Machine T Q) (book : BookContents T Q) (g : Lcg) (woken : Option MNo) (x' : Machine T Q) (book' : BookContents T Q) (g' : Lcg)
      → TakesTurn a x book g woken x' book' g' → x.pass ≡ left.pass → AreCounted book.log.state.counts machines board → AreCounted book'.log.state.counts machines (slice_set board at x')
  counted (act.Call asked) x book g woken x' book' g' t = called x book asked _ t.0 x' book' t.1
  counted (act.Surrender which) x book g woken x' book' g' t = gives_back x book which t.0 x' book' t.1
  counted act.Pop x book g woken x' book' g' t = absurd t
  counted act.Drain x book g woken x' book' g' t = absurd t
  counted act.Push x book g woken x' book' g' t = absurd t
  counted act.Hunt x book g woken x' book' g' t = absurd t
  counted (act.Steal v) x book g woken x' book' g' t = absurd t
  counted act.Resume x book g woken x' book' g' t = absurd t
  counted act.Block x book g woken x' book' g' t = absurd t
  counted (act.Clock minded) x book g woken x' book' g' t = absurd t
  counted act.Nothing x book g woken x' book' g' t = absurd t
