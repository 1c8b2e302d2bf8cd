-- What comes back of a surrender, which is made at Over alone.
use Rattle.std.proofs.Common.{◌≡◌, inl, inr, ℕ, Bool, true, false, if◌then◌else◌, nat_le, Option, None, Some, Result, Ok, Err, refl, sym, subst}
use Rattle.gmp_base.specs.declared.number.Readiness.{Readiness}
use Rattle.gmp_base.specs.declared.pass.Pass.{Pass}
use Rattle.gmp_base.specs.declared.refusal.Refusal.{Refusal}
use Rattle.gmp_base.specs.declared.refusal.Refusal.TheVariants as refusal
use Rattle.gmp_seq.specs.declared.call.Call.TheVariants as call
use Rattle.gmp_driver.specs.declared.act.Act.TheVariants as act
use Rattle.gmp_driver.specs.declared.act.Told.TheVariants as told
use Rattle.gmp_driver.specs.declared.act.Value.{Value}
use Rattle.gmp_driver.specs.declared.act.Value.TheVariants as value
use Rattle.gmp_driver.specs.declared.load.Load.{Load}
use Rattle.gmp_driver.specs.declared.place.Place.{Place}
use Rattle.gmp_driver.specs.declared.place.Place.TheVariants as place
use Rattle.gmp_driver.specs.declared.registers.Registers.{Registers}
use Rattle.gmp_driver.specs.declared.seen.Seen.{Seen}
use Rattle.gmp_driver.specs.Loads.{IsOfRun, load_of, parts_of}
use Rattle.gmp_driver.specs.declared.registers.CalledParts.{CalledParts}
use Rattle.gmp_driver.specs.declared.registers.HeldParts.{HeldParts}
use Rattle.gmp_driver.specs.declared.registers.ProcParts.{ProcParts}
use Rattle.gmp_driver.specs.Fits.{SuitsPlace, HasNothing}
use Rattle.gmp_driver.specs.Machine.{Machine}
use Rattle.gmp_driver.specs.Registers.{AreFilledOnce, first_value, joined, unused, used}
use Rattle.gmp_driver.specs.Seen.{seen}
use Rattle.gmp_driver.specs.Table.{act_at, after, claim_call, next_act, next_place, put_call}
use Rattle.gmp_book.specs.Book.{BookContents}
use Rattle.gmp_turn.specs.Surrenders.{book_after, left_after, load_without, surrendered, told_back}

look : (b : Bool) (which : Option Value) → (if b then act.Clock None else act.Pop) ≡ act.Surrender which → ⊥
look true which e = cc
look false which e = cc

puts : (o : Option Readiness) (which : Option Value) → put_call o ≡ act.Surrender which → ⊥
puts None which e = cc
puts (Some r) which e = cc

claims : (b : Bool) (o : Option Readiness) (which : Option Value) → (if b then act.Call call.Poke else claim_call o) ≡ act.Surrender which → ⊥
claims true o which e = cc
claims false None which e = cc
claims false (Some r) which e = cc

pub at_over : (s : Seen) (here : Place) (which : Option Value) → act_at s here ≡ act.Surrender which → (here ≡ place.Over) × (s.first ≡ which)
at_over s place.Over which e = (refl, cc)
at_over s place.Look which e = absurd (look (nat_le 16 s.turns) which e)
at_over s (place.PutMore v goal) which e = absurd (puts s.to_store which e)
at_over s place.PutDrain which e = absurd (puts s.to_store which e)
at_over s place.PutStore which e = absurd (puts s.to_store which e)
at_over s place.PutHave which e = absurd (puts s.to_claim which e)
at_over s place.Claim which e = absurd (claims s.fresh s.to_claim which e)
at_over s (place.Hunt None) which e = absurd (let no : ⊥ = cc in no)
at_over s (place.Hunt (Some r)) which e = absurd (let no : ⊥ = cc in no)
at_over s _ which e = absurd (let no : ⊥ = cc in no)

over_fits : {T Q : Type 0} (s : Seen) (why : Refusal) (hand : Registers T Q) → SuitsPlace (next_place s place.Over (told.Refused why)) hand
over_fits s refusal.Over hand = tt
over_fits s _ hand = tt

module _ {T Q : Type 0} (run : ℕ) (pass : Pass) (hand : Registers T Q) where
  abbrev out : Option Value → Load T Q
  out which = load_of run pass (used (act.Surrender which) hand)

  pub of_run : (which : Option Value) → IsOfRun run (out which) → IsOfRun run (load_without which (out which))
  of_run (Some value.Held) h = record { pass = h.pass; held = tt; called = h.called; to_claim = h.to_claim; to_store = h.to_store; proc = h.proc }
  of_run (Some value.Called) h = record { pass = h.pass; held = h.held; called = tt; to_claim = h.to_claim; to_store = h.to_store; proc = h.proc }
  of_run (Some value.ToClaim) h = record { pass = h.pass; held = h.held; called = h.called; to_claim = tt; to_store = h.to_store; proc = h.proc }
  of_run (Some value.ToStore) h = record { pass = h.pass; held = h.held; called = h.called; to_claim = h.to_claim; to_store = tt; proc = h.proc }
  of_run (Some value.Proc) h = record { pass = h.pass; held = h.held; called = h.called; to_claim = h.to_claim; to_store = h.to_store; proc = tt }
  of_run None h = h

  pub apart : (which : Option Value) → AreFilledOnce (unused (act.Surrender which) hand) (parts_of (out which))
  apart (Some value.Held) = record { processor = inr refl; held = inl refl; called = inr refl; to_claim = inr refl; to_store = inr refl }
  apart (Some value.Called) = record { processor = inr refl; held = inr refl; called = inl refl; to_claim = inr refl; to_store = inr refl }
  apart (Some value.ToClaim) = record { processor = inr refl; held = inr refl; called = inr refl; to_claim = inl refl; to_store = inr refl }
  apart (Some value.ToStore) = record { processor = inr refl; held = inr refl; called = inr refl; to_claim = inr refl; to_store = inl refl }
  apart (Some value.Proc) = record { processor = inl refl; held = inr refl; called = inr refl; to_claim = inr refl; to_store = inr refl }
  apart None = record { processor = inr refl; held = inr refl; called = inr refl; to_claim = inr refl; to_store = inr refl }

  pub apart_after : (which : Option Value) (result : Result Unit Refusal) → AreFilledOnce (unused (act.Surrender which) hand) (parts_of (left_after which result (out which)))
  apart_after which (Err why) = apart which
  apart_after None (Ok done) = apart None
  apart_after (Some value.Held) (Ok done) = record { processor = inr refl; held = inr refl; called = inr refl; to_claim = inr refl; to_store = inr refl }
  apart_after (Some value.Called) (Ok done) = record { processor = inr refl; held = inr refl; called = inr refl; to_claim = inr refl; to_store = inr refl }
  apart_after (Some value.ToClaim) (Ok done) = record { processor = inr refl; held = inr refl; called = inr refl; to_claim = inr refl; to_store = inr refl }
  apart_after (Some value.ToStore) (Ok done) = record { processor = inr refl; held = inr refl; called = inr refl; to_claim = inr refl; to_store = inr refl }
  apart_after (Some value.Proc) (Ok done) = record { processor = inr refl; held = inr refl; called = inr refl; to_claim = inr refl; to_store = inr refl }

  pub run_after : (which : Option Value) (result : Result Unit Refusal) → IsOfRun run (out which) → IsOfRun run (left_after which result (out which))
  run_after which (Err why) h = h
  run_after which (Ok done) h = of_run which h

-- with no value first there is none
none_left : {T Q : Type 0} (p : Option (ProcParts Q)) (h : Option (HeldParts T)) (c : Option (CalledParts T)) (t s : Option Readiness)
    → first_value (let r : Registers T Q = record { processor = p; held = h; called = c; to_claim = t; to_store = s } in r) ≡ None
    → HasNothing (let r : Registers T Q = record { processor = p; held = h; called = c; to_claim = t; to_store = s } in r)
none_left None None None None None e = record { has_processor = refl; has_held = refl; has_called = refl; has_to_claim = refl; has_to_store = refl }
none_left p (Some h) c t s e = absurd cc
none_left p None (Some c) t s e = absurd cc
none_left p None None (Some t) s e = absurd cc
none_left p None None None (Some s) e = absurd cc
none_left (Some p) None None None None e = absurd cc

refused_fits : {T Q : Type 0} (s : Seen) (here : Place) (why : Refusal) (hand : Registers T Q) → here ≡ place.Over → SuitsPlace (next_place s here (told.Refused why)) hand
refused_fits s here why hand e = subst (λ (p : Place). SuitsPlace (next_place s p (told.Refused why)) hand) (sym e) (over_fits s why hand)

pub pass_after : {T Q : Type 0} (which : Option Value) (result : Result Unit Refusal) (load : Load T Q) → (left_after which result load).pass ≡ load.pass
pass_after which (Err why) load = refl
pass_after (Some value.Held) (Ok done) load = refl
pass_after (Some value.Called) (Ok done) load = refl
pass_after (Some value.ToClaim) (Ok done) load = refl
pass_after (Some value.ToStore) (Ok done) load = refl
pass_after (Some value.Proc) (Ok done) load = refl
pass_after None (Ok done) load = refl

pub fits_after : {T Q : Type 0} (x : Machine T Q) (pass : Pass) (which : Option Value) (result : Result Unit Refusal) → next_act x ≡ act.Surrender which
    → (let hand = joined (parts_of (left_after which result (surrendered x pass which))) (unused (act.Surrender which) x.hand) in SuitsPlace (after (record x { hand = hand }) (told_back which result)).place hand)
fits_after x pass (Some v) (Ok done) is = rw (at_over (seen x) x.place (Some v) is).0 tt
fits_after x pass (Some v) (Err why) is =
    let hand = joined (parts_of (surrendered x pass (Some v))) (unused (act.Surrender (Some v)) x.hand) in
    refused_fits (seen (record x { hand = hand })) x.place why hand (at_over (seen x) x.place (Some v) is).0
fits_after x pass None (Ok done) is = (let w = at_over (seen x) x.place None is in rw w.0 (none_left x.hand.processor x.hand.held x.hand.called x.hand.to_claim x.hand.to_store w.1))
fits_after x pass None (Err why) is = (let w = at_over (seen x) x.place None is in rw w.0 (none_left x.hand.processor x.hand.held x.hand.called x.hand.to_claim x.hand.to_store w.1))

pub log_after : {T Q : Type 0} (which : Option Value) (result : Result Unit Refusal) (load : Load T Q) (book : BookContents T Q) → (book_after which result load book).log ≡ book.log
log_after which (Err why) load book = refl
log_after None (Ok done) load book = refl
log_after (Some value.Held) (Ok done) load book = refl
log_after (Some value.Called) (Ok done) load book = refl
log_after (Some value.ToClaim) (Ok done) load book = refl
log_after (Some value.ToStore) (Ok done) load book = refl
log_after (Some value.Proc) (Ok done) load book = refl
