-- Bodies and owners stay in their places by each call that is accepted.
use Rattle.std.proofs.Common.{◌≡◌, ℕ, Bool, true, false, not, Option, None, Some, List, map, set, length, length-set, is_some, refl, sym, ap, ◌∙◌, inl, inr}
use Rattle.std.specs.Prelude.{is_none}
use Rattle.gmp_base.specs.declared.ask.Woke.{Woke}
use Rattle.gmp_base.specs.declared.number.GNo.{GNo}
use Rattle.gmp_base.specs.declared.number.MNo.{MNo}
use Rattle.gmp_base.specs.declared.number.PNo.{PNo}
use Rattle.gmp_base.specs.declared.value.Called.{Called}
use Rattle.gmp_base.specs.declared.value.Held.{Held}
use Rattle.gmp_base.specs.declared.value.Proc.{Proc}
use Rattle.gmp_seq.specs.declared.call.Call.{Call}
use Rattle.gmp_seq.specs.declared.call.Limits.{Limits}
use Rattle.gmp_seq.specs.declared.call.Reply.{Reply}
use Rattle.gmp_seq.specs.declared.call.Reply.TheVariants as reply
use Rattle.gmp_seq.specs.declared.status.Status.{Status}
use Rattle.gmp_seq.specs.declared.status.Status.TheVariants as status
use Rattle.gmp_seq.specs.Laws.{IsInOrder}
use Rattle.gmp_seq.specs.Machines.{Holds, IsIdle, Machines}
use Rattle.gmp_seq.specs.State.{State}
use Rattle.gmp_seq.specs.Table.{IsHeld, Table, is_held, status_at}
use Rattle.gmp_seq.proofs.OneEach.{row_at}
use Rattle.gmp_book.specs.Slots.{is_filled, is_vacant}
use Rattle.gmp_base.specs.declared.pass.Pass.{Pass}
use Rattle.gmp_journal.specs.Grants.{Grants, Suits}
use Rattle.gmp_journal.specs.Handed.{goroutine_in, processor_in}
use Rattle.gmp_journal.specs.Log.{Log, Records}
use Rattle.gmp_book.specs.declared.values.Values.{Values}
use Rattle.gmp_book.specs.declared.values.Way.{Way}
use Rattle.gmp_book.specs.declared.values.Way.TheVariants as way
use Rattle.gmp_book.specs.Book.{BodiesIn, IsBook, OwnersIn}
use Rattle.gmp_book.specs.Hands.{FitsBody, FitsHome, FitsOwner, HasVacantPlace, HandsBody, HandsOwner, claimed, handed_of, way_of, with_home, with_owner}
use Rattle.gmp_book.specs.Kinds.{hands_called, hands_held, hands_proc}
use Rattle.gmp_book.proofs.Bodies.{filled_at, is_in, set_map, vacant_at}
use Rattle.gmp_book.proofs.Handing.{CalledBy, HandedBy, HeldBy, ProcBy, handed_by}
use Rattle.gmp_book.proofs.Moves.{BodyMoves, BothMove, OwnerMoves, idles, ins, moves}

-- Places

pub row_vacant : {T : Type 0} (t : Table) (bodies : List (Option T)) (g : GNo) (s : Status) → BodiesIn t bodies → status_at t g ≡ Some s → is_held s ≡ true → is_vacant bodies g.0 ≡ true
row_vacant t bodies g s kept at out =
    let row = row_at t g s at in
    vacant_at is_in bodies t.goroutines g.0 row.0 kept row.1 (ap (λ (x : Status). not (is_held x)) row.2 ∙ ap not out)

-- a place changes as the test does
place_set : {X : Type 0} (slots : List (Option X)) (old new : List Bool) (i j : ℕ) (slot : Option X) → map is_some slots ≡ old → i ≡ j → new ≡ set old j (is_some slot)
    → map is_some (set slots i slot) ≡ new
place_set slots old new i j slot kept same is =
    set_map is_some slots i slot ∙ (ap (λ (bs : List Bool). set bs i (is_some slot)) kept ∙ (ap (λ (k : ℕ). set old k (is_some slot)) same ∙ sym is))

-- What is not handed in

no_held : {T : Type 0} (b : Bool) (m : MNo) (t : Table) (o : Option (Held T)) → b ≡ false → HeldBy b m t o → o ≡ None
no_held false m t None e by = refl
no_held false m t (Some h) e by = absurd by
no_held true m t o e by = absurd cc

no_called : {T : Type 0} (b : Bool) (m : MNo) (t : Table) (o : Option (Called T)) → b ≡ false → CalledBy b m t o → o ≡ None
no_called false m t None e by = refl
no_called false m t (Some c) e by = absurd by
no_called true m t o e by = absurd cc

no_proc : {Q : Type 0} (b : Bool) (m : MNo) (w : Machines) (o : Option (Proc Q)) → b ≡ false → ProcBy b m w o → o ≡ None
no_proc false m w None e by = refl
no_proc false m w (Some x) e by = absurd by
no_proc true m w o e by = absurd cc

-- Bodies

module _ {T : Type 0} (limits : Limits) (old : State) (m : MNo) (order : IsInOrder limits old) (bodies : List (Option T)) (kept : BodiesIn old.table bodies) where
  home_fits : (hb cb : Bool) (h : Option (Held T)) (c : Option (Called T)) → cb ≡ not hb → HeldBy hb m old.table h → CalledBy cb m old.table c → FitsHome h c bodies
  home_fits true false (Some h) None e held called = row_vacant old.table bodies h.g (status.Running m) kept held refl
  home_fits true false (Some h) (Some c) e held called = absurd called
  home_fits true false None c e held called = absurd held
  home_fits true true h c e held called = absurd cc
  home_fits false true None (Some c) e held called = row_vacant old.table bodies c.g (status.Calling m) kept called refl
  home_fits false true None None e held called = absurd called
  home_fits false true (Some h) c e held called = absurd held
  home_fits false false h c e held called = absurd cc

  pub home_in : (hb cb : Bool) (h : Option (Held T)) (c : Option (Called T)) (new : Table) (g : GNo) → cb ≡ not hb → HeldBy hb m old.table h → CalledBy cb m old.table c → IsHeld old.table g m
      → ins new ≡ set (ins old.table) g.0 true → (BodiesIn new (with_home h c bodies)) × (length (with_home h c bodies) ≡ length bodies)
  home_in true false (Some h) None new g e held called its is =
      (place_set bodies (ins old.table) (ins new) h.g.0 g.0 (Some h.body) kept (ap (λ (k : GNo). k.0) (order.together.one_goroutine m h.g g (inl held) its)) is, length-set bodies h.g.0 (Some h.body))
  home_in true false (Some h) (Some c) new g e held called its is = absurd called
  home_in true false None c new g e held called its is = absurd held
  home_in true true h c new g e held called its is = absurd cc
  home_in false true None (Some c) new g e held called its is =
      (place_set bodies (ins old.table) (ins new) c.g.0 g.0 (Some c.body) kept (ap (λ (k : GNo). k.0) (order.together.one_goroutine m c.g g (inr called) its)) is, length-set bodies c.g.0 (Some c.body))
  home_in false true None None new g e held called its is = absurd called
  home_in false true (Some h) c new g e held called its is = absurd held
  home_in false false h c new g e held called its is = absurd cc

  module _ {Q : Type 0} (asked : Call) (new : Table) (proc : Bool) (v : Values T Q) (by : HandedBy (hands_held asked) (hands_called asked) proc m old v) where
    pub fits_body : (w : Way) → BodyMoves w asked m old.table new → FitsBody w (claimed asked) v.held v.called bodies
    fits_body way.Stays moves = tt
    fits_body way.Home moves = home_fits (hands_held asked) (hands_called asked) v.held v.called moves.1 by.held_by by.called_by
    fits_body way.OutOfPlace moves =
        (no_held (hands_held asked) m old.table v.held moves.1 by.held_by, filled_at is_in bodies old.table.goroutines (claimed asked).0 moves.2 kept moves.3 moves.4)
    fits_body way.IntoCall moves = no_called (hands_called asked) m old.table v.called moves.1 by.called_by
    fits_body way.OutOfCall moves = no_held (hands_held asked) m old.table v.held moves.1 by.held_by

    pub bodies_in : (w : Way) (run : ℕ) (told : Woke) (held' : Option (Held T)) (called' : Option (Called T)) (bodies' : List (Option T)) → BodyMoves w asked m old.table new
        → HandsBody w run (claimed asked) told v.held v.called held' called' bodies bodies' → BodiesIn new bodies' × (length bodies' ≡ length bodies)
    bodies_in way.Stays run told held' called' bodies' moves hands = rw hands.2 (kept ∙ sym moves, refl)
    bodies_in way.Home run told held' called' bodies' moves hands =
        rw hands.2 (home_in (hands_held asked) (hands_called asked) v.held v.called new moves.2 moves.1 by.held_by by.called_by moves.3 moves.4)
    bodies_in way.OutOfPlace run told held' called' bodies' moves hands =
        rw hands.4 (place_set bodies (ins old.table) (ins new) (claimed asked).0 (claimed asked).0 None kept refl moves.5, length-set bodies (claimed asked).0 None)
    bodies_in way.IntoCall run told held' called' bodies' moves hands = rw hands.2 (kept ∙ sym moves.2, refl)
    bodies_in way.OutOfCall run told held' called' bodies' moves hands = rw hands.2 (kept ∙ sym moves.2, refl)

-- Owners

module _ {Q : Type 0} (limits : Limits) (old : State) (m : MNo) (order : IsInOrder limits old) (owners : List (Option Q)) (kept : OwnersIn old.machines owners) where
  place_fits : (b : Bool) (x : Option (Proc Q)) → b ≡ true → ProcBy b m old.machines x → HasVacantPlace x owners
  place_fits true (Some x) e by = vacant_at is_none owners old.machines.holders x.p.0 (Some m) kept by refl
  place_fits true None e by = absurd by
  place_fits false x e by = absurd cc

  place_in : (b : Bool) (x : Option (Proc Q)) (new : Machines) (p : PNo) → b ≡ true → ProcBy b m old.machines x → Holds old.machines m p → idles new ≡ set (idles old.machines) p.0 true
      → OwnersIn new (with_owner x owners) × (length (with_owner x owners) ≡ length owners)
  place_in true (Some x) new p e by holds is =
      (place_set owners (idles old.machines) (idles new) x.p.0 p.0 (Some x.owner) kept (ap (λ (k : PNo). k.0) (order.together.one_processor m x.p p by holds)) is, length-set owners x.p.0 (Some x.owner))
  place_in true None new p e by holds is = absurd by
  place_in false x new p e by holds is = absurd cc

  out_fits : (b : Bool) (x : Option (Proc Q)) (p : PNo) → b ≡ false → ProcBy b m old.machines x → IsIdle old.machines p → (x ≡ None) × (is_filled owners p.0 ≡ true)
  out_fits b x p e by idle = (no_proc b m old.machines x e by, filled_at is_none owners old.machines.holders p.0 None kept idle refl)

  module _ {T : Type 0} (asked : Call) (new : Machines) (held called : Bool) (v : Values T Q) (by : HandedBy held called (hands_proc asked) m old v) where
    pub fits_owner : (answer : Reply) → OwnerMoves answer asked m old.machines new → FitsOwner answer v.proc owners
    fits_owner (reply.Proc p) moves = out_fits (hands_proc asked) v.proc p moves.2 by.proc_by moves.3
    fits_owner (reply.Runs p) moves = out_fits (hands_proc asked) v.proc p moves.2 by.proc_by moves.3
    fits_owner (reply.Entered p woken) moves = place_fits (hands_proc asked) v.proc moves.0 by.proc_by
    fits_owner (reply.Idle p) moves = place_fits (hands_proc asked) v.proc moves.0 by.proc_by
    fits_owner _ moves = tt

    pub owners_in : (answer : Reply) (run : ℕ) (proc' : Option (Proc Q)) (owners' : List (Option Q)) → OwnerMoves answer asked m old.machines new
        → HandsOwner answer run v.proc proc' owners owners' → OwnersIn new owners' × (length owners' ≡ length owners)
    owners_in (reply.Proc p) run proc' owners' moves hands =
        rw hands.3 (place_set owners (idles old.machines) (idles new) p.0 p.0 None kept refl moves.4, length-set owners p.0 None)
    owners_in (reply.Runs p) run proc' owners' moves hands =
        rw hands.3 (place_set owners (idles old.machines) (idles new) p.0 p.0 None kept refl moves.4, length-set owners p.0 None)
    owners_in (reply.Entered p woken) run proc' owners' moves hands = rw hands.1 (place_in (hands_proc asked) v.proc new p moves.0 by.proc_by moves.1 moves.2)
    owners_in (reply.Idle p) run proc' owners' moves hands = rw hands.1 (place_in (hands_proc asked) v.proc new p moves.0 by.proc_by moves.1 moves.2)
    owners_in _ run proc' owners' moves hands = rw hands.1 (kept ∙ sym moves, refl)

-- A book of these parts

abbrev pub Placed : {T Q : Type 0} → Log → List (Option T) → List (Option Q) → Type 0
Placed log bodies owners = IsBook (record { log = log; bodies = bodies; owners = owners })

module _ {T Q : Type 0} (old now : Log) (bodies : List (Option T)) (owners : List (Option Q)) (kept : Placed old bodies owners) where
  pub placed : (bodies' : List (Option T)) (owners' : List (Option Q)) → now ≡ record old { history = now.history; state = now.state; shelf = now.shelf }
      → BodiesIn now.state.table bodies' × (length bodies' ≡ length bodies) → OwnersIn now.state.machines owners' × (length owners' ≡ length owners) → Placed now bodies' owners'
  placed bodies' owners' opened bodies_are owners_are = record {
    bodies_count = bodies_are.1 ∙ (kept.bodies_count ∙ ap (λ (l : Log). l.bodies) (sym opened));
    owners_count = owners_are.1 ∙ (kept.owners_count ∙ ap (λ (l : Log). l.limits.procs) (sym opened));
    bodies = λ none on. bodies_are.0;
    owners = λ none on. owners_are.0;
  }

  module _ (order : IsInOrder old.limits old.state) (before after : Pass) (v : Values T Q) (asked : Call) (answer : Reply) (suits : Suits asked (handed_of v))
      (grants : Grants before.m (goroutine_in (handed_of v)) (processor_in (handed_of v)) asked old.state) (records : Records old before asked answer now after) where
    moved : BothMove asked answer before.m old.state now.state
    moved = moves old.limits before.m asked answer old.state now.state records.step.1

    by : HandedBy (hands_held asked) (hands_called asked) (hands_proc asked) before.m old.state v
    by = handed_by before.m old.state v asked suits grants

    pub body_fits : FitsBody (way_of answer) (claimed asked) v.held v.called bodies
    body_fits =
        fits_body old.limits old.state before.m order bodies (kept.bodies records.step.0 records.lasts) asked now.state.table (hands_proc asked) v by (way_of answer) moved.0

    pub owner_fits : FitsOwner answer v.proc owners
    owner_fits =
        fits_owner old.limits old.state before.m order owners (kept.owners records.step.0 records.lasts) asked now.state.machines (hands_held asked) (hands_called asked) v by answer moved.1

    pub settled : (run : ℕ) (told : Woke) (held' : Option (Held T)) (called' : Option (Called T)) (proc' : Option (Proc Q)) (bodies' : List (Option T)) (owners' : List (Option Q))
        → HandsBody (way_of answer) run (claimed asked) told v.held v.called held' called' bodies bodies' → HandsOwner answer run v.proc proc' owners owners' → Placed now bodies' owners'
    settled run told held' called' proc' bodies' owners' body owner =
        placed bodies' owners' records.opened
        (bodies_in old.limits old.state before.m order bodies (kept.bodies records.step.0 records.lasts) asked now.state.table (hands_proc asked) v by (way_of answer) run told held' called' bodies' moved.0 body)
        (owners_in old.limits old.state before.m order owners (kept.owners records.step.0 records.lasts) asked now.state.machines (hands_held asked) (hands_called asked) v by answer run proc' owners' moved.1 owner)
