-- When memory is wanted.
use Rattle.std.proofs.Common.{◌≡◌, ℕ, ◌<◌, ◌≤◌, Result, Ok, Err, Some, None, List, [], ◌∷◌, ◌++◌, length, refl, sym, subst}
use Rattle.std.specs.List.{slice_get}
use Rattle.std.specs.Result.{OnErr}
use Rattle.gmp_base.specs.declared.number.CNo.{CNo}
use Rattle.gmp_base.specs.declared.number.GNo.{GNo}
use Rattle.gmp_base.specs.declared.number.MNo.{MNo}
use Rattle.gmp_seq.specs.declared.call.Call.{Call}
use Rattle.gmp_seq.specs.declared.call.Call.TheVariants as call
use Rattle.gmp_seq.specs.declared.call.Entry.{Entry}
use Rattle.gmp_seq.specs.declared.call.Limits.{Limits}
use Rattle.gmp_seq.specs.declared.call.Reply.{Reply}
use Rattle.gmp_seq.specs.declared.call.Reply.TheVariants as reply
use Rattle.gmp_seq.specs.Channels.{Channel, new_channel}
use Rattle.gmp_seq.specs.Run.{IsStep}
use Rattle.gmp_seq.specs.State.{State}
use Rattle.gmp_seq.specs.Step.{Effect, Makes, counted_one}
use Rattle.gmp_seq.specs.Table.{IsRunning}
use Rattle.gmp_check.specs.Calls.{IsMake}
use Rattle.gmp_check.specs.Decides.{Leads}

pub on_error : {T E : Type 0} (r : Result T E) (P : Type 0) → P → OnErr r P
on_error (Ok x) P is = tt
on_error (Err e) P is = is

-- a channel can be made by the next number
pub makes_next : (limits : Limits) (capacity : ℕ) (answer : Reply) (c : CNo) (old : List Channel) → answer ≡ reply.Channel c → capacity ≤ 4096 → length old < limits.channels
    → c.0 ≡ length old → Leads (Makes limits capacity answer) old
makes_next limits capacity answer c old is small room next =
    subst (λ r. Leads (Makes limits capacity r) old) (sym is) (old ++ new_channel capacity ∷ [], (small, room, next, refl))

-- and then so does the call of a machine that runs a goroutine
pub make_leads : (limits : Limits) (m : MNo) (g : GNo) (capacity : ℕ) (x : Call) (answer : Reply) (s t : State) → t ≡ s → x ≡ call.Make capacity → IsRunning s.table g m
    → Leads (Makes limits capacity answer) t.channels → IsMake x × Leads (Effect limits m x answer) s
make_leads limits m g capacity x answer s t same is runs (channels, makes) =
    let makes_here = subst (λ (y : State). Makes limits capacity answer y.channels channels) same makes in
    ((capacity, is), subst (λ k. Leads (Effect limits m k answer) s) (sym is) (record s { channels = channels }, (g, runs, (makes_here, refl, refl))))

-- and so does the entry, by its number and while the run lasts
pub entry_leads : (limits : Limits) (e : Entry) (s : State) → slice_get s.counts e.m.0 ≡ Some e.k → s.outcome ≡ None → IsMake e.call × Leads (Effect limits e.m e.call e.reply) s
    → IsMake e.call × Leads (IsStep limits e) s
entry_leads limits e s number ongoing ((capacity, is), (new, effect)) =
    let after : State = counted_one limits e.m e.reply (record s { channels = new.channels }) in
    let makes = subst (λ k. Effect limits e.m k e.reply s new) is effect in
    let made : Effect limits e.m e.call e.reply s after = subst (λ k. Effect limits e.m k e.reply s after) (sym is) (makes.0, makes.1, (makes.2.0, refl, refl)) in
    ((capacity, is), (after, (number, (ongoing, made, refl, refl))))
