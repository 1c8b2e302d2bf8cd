-- A turn that is answered is an act of several machines.
use Rattle.std.proofs.Common.{◌≡◌, ℕ, ◌+◌, List, [], ◌∷◌, ◌++◌, Option, Some, Ok, refl, ap, subst, ◌∙◌}
use Rattle.gmp_base.specs.declared.number.MNo.{MNo}
use Rattle.gmp_base.specs.declared.pass.Pass.{Pass}
use Rattle.gmp_seq.specs.declared.call.Call.{Call}
use Rattle.gmp_seq.specs.declared.call.Entry.{Entry}
use Rattle.gmp_seq.specs.declared.call.Reply.{Reply}
use Rattle.gmp_seq.specs.Step.{Step}
use Rattle.gmp_book.specs.Book.{BookContents}
use Rattle.gmp_driver.specs.declared.act.Act.TheVariants as act
use Rattle.gmp_driver.specs.declared.act.Told.TheVariants as told
use Rattle.gmp_driver.specs.Fits.{SuitsPlace}
use Rattle.gmp_driver.specs.Machine.{Machine}
use Rattle.gmp_driver.specs.Table.{after, next_act}
use Rattle.gmp_driver.proofs.Uses.{uses}
use Rattle.gmp_acts.specs.declared.made.Made.{Made}
use Rattle.gmp_acts.specs.Acts.{Accepted, IsGranted}
use Rattle.gmp_acts.specs.Hands.{PlainHand, PlainMachine, hand_after, plain, plain_machine}
use Rattle.gmp_acts.specs.System.{count_of_all}
use Rattle.gmp_acts.proofs.Replies.{replies}
use Rattle.gmp_turn.specs.Acts.{run_of}
use Rattle.gmp_turn.specs.Turns.{Turns, hand_with, handed_out, is_to_claim, load_back}
use Rattle.gmp_turn.proofs.Back.{backs}
use Rattle.gmp_acts.proofs.Plain.{after_plain}

pub same_pass : (p q : Pass) (o : Option Pass) → o ≡ Some p → o ≡ Some q → p ≡ q
same_pass p q o a b = cc

module _ {T Q : Type 0} (x x' : Machine T Q) (book book' : BookContents T Q) (m : MNo) (asked : Call) (word : ℕ) (answer : Reply) (own : List Made) (is : next_act x ≡ act.Call asked) (fits : SuitsPlace x.place x.hand)
    (granted : IsGranted (plain_machine x) m asked (run_of book.log)) (turned : Turns x book asked word (Ok answer) x' book') where
  same : turned.before ≡ granted.may.pass
  same = same_pass turned.before granted.may.pass x.pass turned.pass granted.may.has_pass

  its : turned.before.m ≡ m
  its = ap (λ (p : Pass). p.m) same ∙ granted.may.its

  abbrev entry_of : MNo → ℕ → Entry
  entry_of i n = record { m = i; k = n; call = asked; reply = answer }

  number : turned.before.calls ≡ granted.may.pass.calls
  number = ap (λ (p : Pass). p.calls) same

  abbrev hand : PlainHand
  hand = hand_after book.log.state.table asked answer (plain x.hand)

  -- what it holds in plain parts
  holds : plain (hand_with asked x.hand (load_back turned.behind (is_to_claim asked (handed_out x turned.before asked)) turned.back)) ≡ hand
  holds =
      (backs x.run turned.before turned.behind turned.back book book' asked answer x.hand (uses x asked is fits)
      (replies book.log.limits turned.before.m asked answer book.log.state book'.log.state turned.records.step.1) turned.hands).0

  abbrev told_so : Pass → PlainHand → PlainMachine
  told_so p h = after (record (plain_machine x) { pass = Some p; hand = h }) (told.Replied answer)

  pub accepted : Accepted (plain_machine x) m asked (run_of book.log) own (plain_machine x') (run_of book'.log) (own ++ record { m = m; call = asked; reply = answer } ∷ [])
  accepted = record {
    granted = granted;
    answer = answer;
    step = subst (λ (i : MNo). Step book.log.limits i asked answer book.log.state book'.log.state) its turned.records.step;
    entry = turned.records.entry ∙ ap (λ (e : Entry). book.log.history ++ e ∷ []) (ap (λ (i : MNo). entry_of i turned.before.calls) its ∙ ap (entry_of m) (number ∙ granted.may.turn));
    opened = ap run_of turned.records.opened;
    made = refl;
    machine = ap plain_machine turned.machine ∙ after_plain _ (told.Replied answer) ∙ ap (told_so turned.behind) holds
        ∙ ap (λ (p : Pass). told_so p hand) (turned.records.pass ∙ ap (λ (p : Pass). let q : Pass = record p { calls = p.calls + 1; seen = count_of_all (run_of book'.log) } in q) same);
  }
