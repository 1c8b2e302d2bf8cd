use Rattle.std.proofs.Common.{◌≡◌, ℕ, ◌++◌, List, [], ◌∷◌, true, false, inl, inr, Option, Some, length, map, max, ap, sym, ◌∙◌, rules}
use Rattle.std.proofs.lemmas.List.{length-map}
use Rattle.std.specs.Option.{option_map_or, unwrap_or}
use Rattle.gmp_base.specs.declared.number.CNo.{CNo}
use Rattle.gmp_base.specs.declared.number.Readiness.{Readiness}
use Rattle.gmp_seq.specs.Channels.{capacity_at, items_at}
use Rattle.gmp_seq.specs.Table.{due_answer, how_many_woken, least_of}
use Rattle.gmp_start.specs.declared.start.StartChannel.{StartChannel}
use Rattle.gmp_base.specs.declared.ask.Fault.TheVariants as fault
use Rattle.gmp_seq.specs.declared.call.Call.TheVariants as call
use Rattle.gmp_seq.specs.declared.call.Reply.{Reply}
use Rattle.gmp_seq.specs.declared.call.Reply.TheVariants as reply
use Rattle.gmp_start.specs.Start.{channel_of, state_of}
use Rattle.gmp_allowed.specs.declared.numbered.Naming.TheVariants as naming
use Rattle.gmp_allowed.specs.Tried.{Before, IsEntered, IsNamed, IsOfRow, next_word}
use Rattle.gmp_allowed.proofs.Results.{on_ok}
use Rattle.gmp_allowed.proofs.Tries.{acquires, capacities, closes, count_same, declares, entered_same, enters, exits, has_left, has_number_or, has_row_or, has_sort, has_these, keeps, lengths, looks, makes, parks, pokes, readies, rows_same, sets, spawns, spins, starts, takes, ticks, yields}
use Rattle.gmp_allowed.proofs.replies.add_candidates.Goals as goal

pub returns-in-Take : goal.returns-in-Take
returns-in-Take c =
    let a = c.args in
    let s = state_of a.last.now in
    let new = c.of_rows_or.new.out.items in
    on_ok c.of_rows_or.result
    (λ sort. has_row_or a.m a.call.now call.Take s c.deref.result.now reply.Nothing a.out.now.items new c.in-Take.is c.deref.ensures.value sort (takes a.m s)) c.of_rows_or.ensures

pub returns-in-Spawn : goal.returns-in-Spawn
returns-in-Spawn c =
    let a = c.args in
    let s = state_of a.last.now in
    let new = c.of_rows_or-in-Spawn.new.out.items in
    on_ok c.of_rows_or-in-Spawn.result
    (λ sort. has_row_or a.m a.call.now call.Spawn s c.deref-in-Spawn.result.now (reply.Fault fault.NoSuchBody) a.out.now.items new c.in-Spawn.is c.deref-in-Spawn.ensures.value sort (spawns a.m s))
    c.of_rows_or-in-Spawn.ensures

pub returns-in-Yield : goal.returns-in-Yield
returns-in-Yield c =
    let a = c.args in
    let s = state_of a.last.now in
    let rows = s.table.goroutines in
    let out = a.out.now.items in
    let new = c.of_rows.new.out.items in
    on_ok c.of_rows.result
    (λ sort. has_sort a.m a.call.now call.Yield s (Before (IsOfRow a.m call.Yield rows) (length rows)) out new c.in-Yield.is
    (rows_same a.m a.call.now call.Yield c.deref-in-Yield.result.now rows out new c.in-Yield.is c.deref-in-Yield.ensures.value sort) (yields a.m s)) c.of_rows.ensures

pub returns-in-Leave : goal.returns-in-Leave
returns-in-Leave c =
    let a = c.args in
    let s = state_of a.last.now in
    on_ok c.of_leave.result (λ sort. has_left a.m a.call.now c.in-Leave.field-0 s a.out.now.items c.of_leave.new.out.items c.in-Leave.is sort) c.of_leave.ensures

pub returns-in-Acquire : goal.returns-in-Acquire
returns-in-Acquire c =
    let a = c.args in
    let s = state_of a.last.now in
    let count : c.len.result ≡ length s.machines.holders = search rules in
    on_ok c.of_numbers_or_nothing.result
    (λ sort. has_number_or a.m a.call.now call.Acquire s naming.Proc c.len.result (length s.machines.holders) a.out.now.items c.of_numbers_or_nothing.new.out.items c.in-Acquire.is count sort (acquires a.m s))
    c.of_numbers_or_nothing.ensures

pub returns-in-Poke : goal.returns-in-Poke
returns-in-Poke c =
    let a = c.args in
    let s = state_of a.last.now in
    let count : c.len-in-Poke.result ≡ length s.machines.modes = search rules in
    on_ok c.of_numbers_or_nothing-in-Poke.result
    (λ sort. has_number_or a.m a.call.now call.Poke s naming.Wakes c.len-in-Poke.result (length s.machines.modes) a.out.now.items c.of_numbers_or_nothing-in-Poke.new.out.items c.in-Poke.is count sort (pokes a.m s))
    c.of_numbers_or_nothing-in-Poke.ensures

pub returns-in-Declare : goal.returns-in-Declare
returns-in-Declare c =
    let a = c.args in
    let s = state_of a.last.now in
    let count : c.len-in-Declare.result ≡ length s.machines.holders = search rules in
    on_ok c.of_numbers.result
    (λ sort. has_sort a.m a.call.now call.Declare s (Before (IsNamed naming.Idle) (length s.machines.holders)) a.out.now.items c.of_numbers.new.out.items c.in-Declare.is
    (count_same naming.Idle c.len-in-Declare.result (length s.machines.holders) a.out.now.items c.of_numbers.new.out.items count sort) (declares a.m s)) c.of_numbers.ensures

pub returns-in-Enter : goal.returns-in-Enter
returns-in-Enter c =
    let a = c.args in
    let s = state_of a.last.now in
    let count : c.len-in-Enter.result ≡ length s.machines.modes = search rules in
    on_ok c.of_enter.result
    (λ sort. has_sort a.m a.call.now call.Enter s (Before (IsEntered a.m (length s.machines.modes) s.machines.holders) (length s.machines.holders)) a.out.now.items c.of_enter.new.out.items c.in-Enter.is
    (entered_same a.m c.len-in-Enter.result (length s.machines.modes) c.deref-in-Enter.result.now s.machines.holders a.out.now.items c.of_enter.new.out.items count c.deref-in-Enter.ensures.value sort)
    (enters a.m s)) c.of_enter.ensures

pub returns-in-Make : goal.returns-in-Make
returns-in-Make c =
    let a = c.args in
    let s = state_of a.last.now in
    let count : c.len-in-Make.result ≡ length a.last.now.channels.items = search rules in
    on_ok c.of_make.result
    (λ is. has_these a.m a.call.now (call.Make c.in-Make.field-0) s a.out.now.items c.of_make.new.out.items _ c.in-Make.is is
    (λ r. makes a.m c.in-Make.field-0 s c.channel_at.result c.len-in-Make.result r (count ∙ sym (length-map a.last.now.channels.items channel_of)) c.channel_at.ensures)) c.of_make.ensures

pub returns-in-Close-Some : goal.returns-in-Close-Some
returns-in-Close-Some c =
    let a = c.args in
    let s = state_of a.last.now in
    let close = c.in-Close-Some in
    let some : close.field-0 ≡ Some close.c = rw close.is at close.field-0-is in
    on_ok c.of_close.result
    (λ is. has_these a.m a.call.now (call.Close (Some close.c)) s a.out.now.items c.of_close.new.out.items _ (close.is ∙ ap (λ (o : Option CNo). call.Close o) some) is
    (λ r. closes a.m close.c s c.how_many_wait.result r (c.how_many_wait.ensures s.table (sym c.deref-in-Close-Some.ensures.value)))) c.of_close.ensures

pub returns-in-Len : goal.returns-in-Len
returns-in-Len c =
    let a = c.args in
    let s = state_of a.last.now in
    on_ok c.of_number.result
    (λ is. has_these a.m a.call.now (call.Len c.in-Len.c) s a.out.now.items c.of_number.new.out.items _ c.in-Len.is is
    (λ r. lengths a.m c.in-Len.c s c.length_of.result r
    (c.length_of.ensures ∙ ap (λ (l : List StartChannel). option_map_or (λ n. length (items_at (map channel_of l) n)) c.in-Len.c 0) c.deref-in-Len.ensures.value))) c.of_number.ensures

pub returns-in-Cap : goal.returns-in-Cap
returns-in-Cap c =
    let a = c.args in
    let s = state_of a.last.now in
    on_ok c.of_number-in-Cap.result
    (λ is. has_these a.m a.call.now (call.Cap c.in-Cap.c) s a.out.now.items c.of_number-in-Cap.new.out.items _ c.in-Cap.is is
    (λ r. capacities a.m c.in-Cap.c s c.capacity_of.result r
    (c.capacity_of.ensures ∙ ap (λ (l : List StartChannel). option_map_or (λ n. capacity_at (map channel_of l) n) c.in-Cap.c 0) c.deref-in-Cap.ensures.value))) c.of_number-in-Cap.ensures

pub returns-in-Procs : goal.returns-in-Procs
returns-in-Procs c =
    let a = c.args in
    let s = state_of a.last.now in
    let out = a.out.now.items in
    let new = c.of_number-in-Procs.new.out.items in
    let active : c.from.result ≡ s.machines.active = search rules in
    on_ok c.of_number-in-Procs.result
    (λ is. has_these a.m a.call.now (call.Procs c.in-Procs.field-0) s out new (reply.Number s.machines.active ∷ reply.Fault fault.BadProcs ∷ []) c.in-Procs.is
    (is ∙ ap (λ (n : ℕ). out ++ reply.Number n ∷ reply.Fault fault.BadProcs ∷ []) active) (sets a.m c.in-Procs.field-0 s)) c.of_number-in-Procs.ensures

pub returns-in-Go : goal.returns-in-Go
returns-in-Go c =
    let a = c.args in
    let s = state_of a.last.now in
    let h = c.in-Go.h in
    let out = a.out.now.items in
    let new = c.of_readied.new.out.items in
    let l : List Reply = reply.Ticket (next_word s.table h) ∷ reply.Fault fault.NoSuchBody ∷ reply.Fault fault.AlreadyStarted ∷ reply.Fault fault.NotParked ∷ [] in
    let next : c.next.result ≡ next_word s.table h = c.next.ensures s.table (sym c.deref-in-Go.ensures.value) in
    on_ok c.of_readied.result
    (λ is. let adds : new ≡ out ++ l = is ∙ ap (λ (x : Readiness). out ++ reply.Ticket x ∷ reply.Fault fault.NoSuchBody ∷ reply.Fault fault.AlreadyStarted ∷ reply.Fault fault.NotParked ∷ []) next in
    elim c.in-Go.is [
      | inl go ↦ has_these a.m a.call.now (call.Go h) s out new l go adds (starts a.m h s)
      | inr ready ↦ has_these a.m a.call.now (call.Ready h) s out new l ready adds (readies a.m h s)
    ]) c.of_readied.ensures

pub returns-in-Exit : goal.returns-in-Exit
returns-in-Exit c =
    let a = c.args in
    let s = state_of a.last.now in
    on_ok c.add_all.result
    (λ is. has_these a.m a.call.now call.Exit s a.out.now.items c.add_all.new.out.items _ c.in-Exit.is is (exits a.m s)) c.add_all.ensures

pub returns-in-Park : goal.returns-in-Park
returns-in-Park c =
    let a = c.args in
    let s = state_of a.last.now in
    let until : c.unwrap_or.result ≡ unwrap_or c.least_deadline.result 0 = search rules in
    on_ok c.of_park.result
    (λ is. has_these a.m a.call.now call.Park s a.out.now.items c.of_park.new.out.items _ c.in-Park.is is
    (λ r. parks a.m s c.unwrap_or.result r (until ∙ ap (λ (o : Option ℕ). unwrap_or o 0) (c.least_deadline.ensures ∙ ap least_of c.deref-in-Park.ensures.value)))) c.of_park.ensures

pub returns-in-Tick : goal.returns-in-Tick
returns-in-Tick c =
    let a = c.args in
    let s = state_of a.last.now in
    on_ok c.add-in-Tick.result
    (λ is. has_these a.m a.call.now (call.Tick c.in-Tick.moment) s a.out.now.items c.add-in-Tick.new.out.items _ c.in-Tick.is is
    (λ r. ticks a.m c.in-Tick.moment s c.how_many_due.result r
    (let now : c.max-now.result ≡ max s.table.clock c.in-Tick.moment = search rules in
    c.how_many_due.ensures s.table (sym c.deref-in-Tick.ensures.value) ∙ ap (λ (n : ℕ). how_many_woken (due_answer n) s.table) now))) c.add-in-Tick.ensures

pub returns-in-Spin : goal.returns-in-Spin
returns-in-Spin c =
    let a = c.args in
    let s = state_of a.last.now in
    let out = a.out.now.items in
    let new = c.add_all-in-Spin.new.out.items in
    let either : List Reply = reply.Answer true ∷ reply.Answer false ∷ [] in
    on_ok c.add_all-in-Spin.result
    (λ adds. elim c.in-Spin.is [
      | inl is ↦ has_these a.m a.call.now call.Spin s out new either is adds (spins a.m s)
      | inr (inl is) ↦ has_these a.m a.call.now call.Woken s out new either is adds (looks a.m s)
      | inr (inr is) ↦ has_these a.m a.call.now call.Keep s out new either is adds (keeps a.m s)
    ]) c.add_all-in-Spin.ensures
