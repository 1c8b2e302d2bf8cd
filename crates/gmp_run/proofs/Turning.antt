-- Bodies are kept by each turn of a machine at the book.
use Rattle.std.specs.Prelude.{is_some}
use Rattle.std.proofs.Common.{◌≡◌, ℕ, Bool, ◌+◌, List, [], ◌∷◌, ◌++◌, Option, Some, IsNone, Result, Ok, Err, map, length, slice_get, slice_set, refl, sym, ap, subst}
use Rattle.std.specs.Option.{option_map}
use Rattle.std.proofs.Math.Logic.{∥∥₁_elim, ∥∥₁_map, ∥∥₁_prop}
use Rattle.gmp_base.specs.declared.number.MNo.{MNo}
use Rattle.gmp_base.specs.declared.number.Readiness.{Readiness}
use Rattle.gmp_base.specs.declared.refusal.Refusal.{Refusal}
use Rattle.gmp_seq.specs.declared.call.Call.{Call}
use Rattle.gmp_seq.specs.declared.call.Call.TheVariants as call
use Rattle.gmp_seq.specs.declared.call.Reply.{Reply}
use Rattle.gmp_book.specs.Book.{BookContents}
use Rattle.gmp_driver.specs.declared.act.Act.{Act}
use Rattle.gmp_driver.specs.declared.act.Act.TheVariants as act
use Rattle.gmp_driver.specs.declared.act.Value.{Value}
use Rattle.gmp_driver.specs.declared.registers.CalledParts.{CalledParts}
use Rattle.gmp_driver.specs.Fits.{SuitsPlace}
use Rattle.gmp_driver.specs.Machine.{Machine}
use Rattle.gmp_driver.specs.Table.{next_act}
use Rattle.gmp_driver.specs.Uses.{Uses}
use Rattle.gmp_driver.proofs.Uses.{uses}
use Rattle.gmp_acts.specs.Hands.{PlainMachine, plain, plain_called, plain_machine}
use Rattle.gmp_turn.specs.Surrenders.{Surrenders}
use Rattle.gmp_turn.specs.Turns.{Turns}
use Rattle.gmp_turn.specs.Values.{AreOut, body_in}
use Rattle.gmp_turn.proofs.Keeping.{stay}
use Rattle.gmp_run.proofs.Kept.{bodies_at_end, bodies_turned}
use Rattle.gmp_worker.specs.Turn.{TakesTurn}
use Rattle.rand_pcg.specs.Lcg.{Lcg}
use Rattle.gmp_seq.specs.declared.call.Entry.{Entry}
use Rattle.gmp_journal.specs.Log.{Log}
use Rattle.gmp_said.specs.Standing.{HandSaid}
use Rattle.gmp_run.specs.Boards.{AreFirst}
use Rattle.gmp_said.specs.Said.{Blocks, Resumes}
use Rattle.gmp_run.specs.Bodies.{ArePlaced, HandLed, HoldsOne}
use Rattle.gmp_run.specs.Trails.{GoesAlone}
use Rattle.gmp_run.specs.Speakers.{AreHeard}
use Rattle.gmp_run.proofs.Hearing.{heard_call, heard_refusal, heard_settled, heard_surrender}
use Rattle.gmp_run.proofs.Holding.{after_one, alone_one, goes_one, one_plain, plain_one}
use Rattle.gmp_run.proofs.Making.{gives, makes, refused}
use Rattle.gmp_run.proofs.Places.{begun, free_at, still_out, turned}

module _ {T Q : Type 0} (resumes : Resumes T) (blocks : Blocks T) (given : List T) (board : List (Machine T Q)) (at : ℕ) (left x : Machine T Q) (there : slice_get board at ≡ Some left)
    (alone : GoesAlone (plain_machine left) (plain_machine x)) (led : HandLed resumes blocks left.hand x.hand) where
  abbrev Placed : List (Machine T Q) → List (Option T) → Type 0
  Placed = ArePlaced resumes blocks given

  holds : (places : List (Option T)) → Placed board places → HoldsOne x.hand
  holds places are = one_plain x.hand (alone_one (plain_machine left) (plain_machine x) alone (plain_one left.hand (are.one at left there)))

  -- it was seen as it is now
  settled : (places : List (Option T)) → Placed board places → Placed (slice_set board at x) places
  settled places are =
      let out = still_out resumes blocks given board at left there places x.hand led are in
      turned resumes blocks given board at left there places x.hand led are x places (stay _ _ places (λ i. refl) out) (holds places are)

  module _ (x' : Machine T Q) (book book' : BookContents T Q) (are : Placed board book.bodies) where
    out : AreOut (body_in x.hand) book.bodies
    out = still_out resumes blocks given board at left there book.bodies x.hand led are

    one : HoldsOne x.hand
    one = holds book.bodies are

    called_one : (asked : Call) (word : ℕ) (result : Result Reply Refusal) → next_act x ≡ act.Call asked → SuitsPlace x.place x.hand → Turns x book asked word result x' book' → HoldsOne x'.hand
    called_one asked word (Ok answer) is fits t =
        let made = makes x x' book book' asked word answer is fits t in
        let free : (r : Readiness) → asked ≡ call.Claim r → IsNone (plain x.hand).called =
        λ r e. (let u : Uses (call.Claim r) x.hand = subst (λ (c : Call). Uses c x.hand) e (uses x asked is fits) in ap (λ (o : Option (CalledParts T)). is_some (option_map plain_called o)) u.2) in
        one_plain x'.hand
        (subst (λ (y : PlainMachine). HoldsOne y.hand) (sym made.machine) (after_one book.log.state.table asked answer (plain x.hand) free (plain_one x.hand one)))
    called_one asked word (Err why) is fits t = one_plain x'.hand (goes_one (plain_machine x) (plain_machine x') (refused x x' book book' asked word why is t) (plain_one x.hand one))

    called : (asked : Call) (word : ℕ) (result : Result Reply Refusal) → next_act x ≡ act.Call asked → SuitsPlace x.place x.hand → Turns x book asked word result x' book' → Placed (slice_set board at x') book'.bodies
    called asked word result is fits t =
        turned resumes blocks given board at left there book.bodies x.hand led are x' book'.bodies (bodies_turned x x' book book' asked word is fits result t out) (called_one asked word result is fits t)

    gives_back : (which : Option Value) (result : Result Unit Refusal) → next_act x ≡ act.Surrender which → Surrenders x book which result x' book' → Placed (slice_set board at x') book'.bodies
    gives_back which result is t =
        turned resumes blocks given board at left there book.bodies x.hand led are x' book'.bodies (bodies_at_end x book x' book' which result t one out)
        (one_plain x'.hand (goes_one (plain_machine x) (plain_machine x') (gives x x' book book' which result is t) (plain_one x.hand one)))

    -- what was said, in the same turn
    module _ (machines : ℕ) (said : HandSaid resumes blocks left.place left.hand x.place x.hand) (h : List Entry) (heard : AreHeard resumes blocks given machines book.log board book.bodies h) where
      call_heard : (asked : Call) (word : ℕ) (answer : Reply) (is : next_act x ≡ act.Call asked) (fits : SuitsPlace x.place x.hand) (t : Turns x book asked word (Ok answer) x' book') → t.before.m.0 + (at + 1) ≡ machines
          → slice_get book.log.state.counts t.before.m.0 ≡ Some t.before.calls
          → AreHeard resumes blocks given machines book'.log (slice_set board at x') book'.bodies (h ++ record { m = t.before.m; k = t.before.calls; call = asked; reply = answer } ∷ [])
      call_heard asked word answer is fits t its number =
          heard_call resumes blocks given machines board at left x there led said x' book book' are (bodies_turned x x' book book' asked word is fits (Ok answer) t out) (called_one asked word (Ok answer) is fits t) h heard
          asked word answer is fits t its number

      refusal_heard : (asked : Call) (word : ℕ) (why : Refusal) (is : next_act x ≡ act.Call asked) (fits : SuitsPlace x.place x.hand) (t : Turns x book asked word (Err why) x' book') → t.before.m.0 + (at + 1) ≡ machines
          → AreHeard resumes blocks given machines book'.log (slice_set board at x') book'.bodies h
      refusal_heard asked word why is fits t its =
          heard_refusal resumes blocks given machines board at left x there led said x' book book' are (bodies_turned x x' book book' asked word is fits (Err why) t out) (called_one asked word (Err why) is fits t) h heard
          asked word why is fits t its

      surrender_heard : (which : Option Value) (result : Result Unit Refusal) (is : next_act x ≡ act.Surrender which) (t : Surrenders x book which result x' book') → t.before.m.0 + (at + 1) ≡ machines
          → AreHeard resumes blocks given machines book'.log (slice_set board at x') book'.bodies h
      surrender_heard which result is t its =
          heard_surrender resumes blocks given machines board at left x there led said x' book book' are (bodies_at_end x book x' book' which result t one out)
          (one_plain x'.hand (goes_one (plain_machine x) (plain_machine x') (gives x x' book book' which result is t) (plain_one x.hand one))) h heard which result is one t.before.m.0 its t

    placed : (a : Act) → next_act x ≡ a → (g : Lcg) (woken : Option MNo) (g' : Lcg) → SuitsPlace x.place x.hand → TakesTurn a x book g woken x' book' g' → Placed (slice_set board at x') book'.bodies
    placed (act.Call asked) is g woken g' fits t = called asked _ t.0 is fits t.1
    placed (act.Surrender which) is g woken g' fits t = gives_back which t.0 is t.1
    placed act.Pop is g woken g' fits t = absurd t
    placed act.Drain is g woken g' fits t = absurd t
    placed act.Push is g woken g' fits t = absurd t
    placed act.Hunt is g woken g' fits t = absurd t
    placed (act.Steal v) is g woken g' fits t = absurd t
    placed act.Resume is g woken g' fits t = absurd t
    placed act.Block is g woken g' fits t = absurd t
    placed (act.Clock minded) is g woken g' fits t = absurd t
    placed act.Nothing is g woken g' fits t = absurd t

-- The same, as far as is known of what lies under the lock.
module _ {T Q : Type 0} (resumes : Resumes T) (blocks : Blocks T) (given : List T) (board : List (Machine T Q)) (at : ℕ) (left x : Machine T Q) (there : slice_get board at ≡ Some left)
    (alone : ∥ GoesAlone (plain_machine left) (plain_machine x) ∥₁) (led : ∥ HandLed resumes blocks left.hand x.hand ∥₁) where
  pub all_settled : (places : List (Option T)) → ∥ ArePlaced resumes blocks given board places ∥₁ → ∥ ArePlaced resumes blocks given (slice_set board at x) places ∥₁
  all_settled places known =
      ∥∥₁_elim known ∥∥₁_prop (λ are. ∥∥₁_elim alone ∥∥₁_prop (λ since. ∥∥₁_map led (λ on. settled resumes blocks given board at left x there since on places are)))

  module _ (said : ∥ HandSaid resumes blocks left.place left.hand x.place x.hand ∥₁) (machines : ℕ) where
    abbrev Heard : Log → List (Machine T Q) → List (Option T) → List Entry → Type 0
    Heard log all places h = ∥ AreHeard resumes blocks given machines log all places h ∥₁

    pub all_settled_heard : (log : Log) (places : List (Option T)) → ∥ ArePlaced resumes blocks given board places ∥₁ → (h : List Entry) → Heard log board places h → Heard log (slice_set board at x) places h
    all_settled_heard log places known h heard =
        ∥∥₁_elim known ∥∥₁_prop (λ are. ∥∥₁_elim alone ∥∥₁_prop (λ since. ∥∥₁_elim led ∥∥₁_prop (λ on. ∥∥₁_elim said ∥∥₁_prop (λ spoke. ∥∥₁_map heard (λ was.
        heard_settled resumes blocks given machines board at left x there on spoke log places h was are (holds resumes blocks given board at left x there since on places are))))))

    module _ (x' : Machine T Q) (book book' : BookContents T Q) (known : ∥ ArePlaced resumes blocks given board book.bodies ∥₁) (h : List Entry) (heard : Heard book.log board book.bodies h) where
      pub all_call_heard : (asked : Call) (word : ℕ) (answer : Reply) (is : next_act x ≡ act.Call asked) (fits : SuitsPlace x.place x.hand) (t : Turns x book asked word (Ok answer) x' book') → t.before.m.0 + (at + 1) ≡ machines
          → slice_get book.log.state.counts t.before.m.0 ≡ Some t.before.calls
          → Heard book'.log (slice_set board at x') book'.bodies (h ++ record { m = t.before.m; k = t.before.calls; call = asked; reply = answer } ∷ [])
      all_call_heard asked word answer is fits t its number =
          ∥∥₁_elim known ∥∥₁_prop (λ are. ∥∥₁_elim alone ∥∥₁_prop (λ since. ∥∥₁_elim led ∥∥₁_prop (λ on. ∥∥₁_elim said ∥∥₁_prop (λ spoke. ∥∥₁_map heard (λ was.
          call_heard resumes blocks given board at left x there since on x' book book' are machines spoke h was asked word answer is fits t its number)))))

      pub all_refusal_heard : (asked : Call) (word : ℕ) (why : Refusal) (is : next_act x ≡ act.Call asked) (fits : SuitsPlace x.place x.hand) (t : Turns x book asked word (Err why) x' book') → t.before.m.0 + (at + 1) ≡ machines
          → Heard book'.log (slice_set board at x') book'.bodies h
      all_refusal_heard asked word why is fits t its =
          ∥∥₁_elim known ∥∥₁_prop (λ are. ∥∥₁_elim alone ∥∥₁_prop (λ since. ∥∥₁_elim led ∥∥₁_prop (λ on. ∥∥₁_elim said ∥∥₁_prop (λ spoke. ∥∥₁_map heard (λ was.
          refusal_heard resumes blocks given board at left x there since on x' book book' are machines spoke h was asked word why is fits t its)))))

      pub all_surrender_heard : (which : Option Value) (result : Result Unit Refusal) (is : next_act x ≡ act.Surrender which) (t : Surrenders x book which result x' book') → t.before.m.0 + (at + 1) ≡ machines
          → Heard book'.log (slice_set board at x') book'.bodies h
      all_surrender_heard which result is t its =
          ∥∥₁_elim known ∥∥₁_prop (λ are. ∥∥₁_elim alone ∥∥₁_prop (λ since. ∥∥₁_elim led ∥∥₁_prop (λ on. ∥∥₁_elim said ∥∥₁_prop (λ spoke. ∥∥₁_map heard (λ was.
          surrender_heard resumes blocks given board at left x there since on x' book book' are machines spoke h was which result is t its)))))

  pub all_placed : (x' : Machine T Q) (book book' : BookContents T Q) → ∥ ArePlaced resumes blocks given board book.bodies ∥₁ → (g : Lcg) (woken : Option MNo) (g' : Lcg) → SuitsPlace x.place x.hand
      → TakesTurn (next_act x) x book g woken x' book' g' → ∥ ArePlaced resumes blocks given (slice_set board at x') book'.bodies ∥₁
  all_placed x' book book' known g woken g' fits t =
      ∥∥₁_elim known ∥∥₁_prop (λ are. ∥∥₁_elim alone ∥∥₁_prop (λ since. ∥∥₁_map led (λ on. placed resumes blocks given board at left x there since on x' book book' are (next_act x) refl g woken g' fits t)))

-- all are in, and each machine is at its start
pub at_start : {T Q : Type 0} (resumes : Resumes T) (blocks : Blocks T) (given : List T) (board : List (Machine T Q)) (machines run : ℕ) (is_fair : Bool) (procs : ℕ) → length board ≡ machines → AreFirst machines run is_fair procs board
    → ArePlaced resumes blocks given board (map Some given)
at_start resumes blocks given board machines run is_fair procs long first = begun resumes blocks given board (free_at machines run is_fair procs board long first)
