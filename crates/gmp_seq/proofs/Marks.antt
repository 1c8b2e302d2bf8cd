-- Whoever is marked is awake.
use Rattle.std.proofs.Common.{◌≡◌, ℕ, Bool, true, false, Option, None, Some, List, refl, sym, ap, subst, ◌∙◌}
use Rattle.std.proofs.lemmas.Bool.{false≢true}
use Rattle.std.proofs.lemmas.Option.{slice_get-map}
use Rattle.std.specs.List.{slice_get}
use Rattle.std.specs.Option.{option_map, unwrap_or}
use Rattle.gmp_base.specs.declared.ask.Fault.TheVariants as fault
use Rattle.gmp_base.specs.declared.cases.Case.{Case}
use Rattle.gmp_base.specs.declared.cases.Case.TheVariants as case
use Rattle.gmp_base.specs.declared.number.CNo.{CNo}
use Rattle.gmp_base.specs.declared.number.GNo.{GNo}
use Rattle.gmp_base.specs.declared.number.MNo.{MNo}
use Rattle.gmp_seq.proofs.Epochs.{at_set}
use Rattle.gmp_seq.specs.declared.call.Call.{Call}
use Rattle.gmp_seq.specs.declared.call.Call.TheVariants as call
use Rattle.gmp_seq.specs.declared.call.Limits.{Limits}
use Rattle.gmp_seq.specs.declared.call.Reply.{Reply}
use Rattle.gmp_seq.specs.declared.call.Reply.TheVariants as reply
use Rattle.gmp_seq.specs.declared.status.Mode.{Mode}
use Rattle.gmp_seq.specs.declared.status.Mode.TheVariants as mode
use Rattle.gmp_seq.specs.Machines
use Rattle.gmp_seq.specs.State.{State, SameMachines}
use Rattle.gmp_seq.specs.Step

abbrev pub MarksAwake : Machines.Machines → Type 0
MarksAwake w = (m : MNo) → Machines.is_marked w m ≡ true → Machines.IsAwake w m

-- one machine wakes
wake_marks : (w : Machines.Machines) (n : MNo) → MarksAwake w → MarksAwake (Machines.set_mode w n mode.Awake)
wake_marks w n marks m marked = at_set (λ (o : Option Mode). o ≡ Some mode.Awake) w.modes n.0 m.0 mode.Awake (λ same. refl) (marks m marked)

-- one is marked no more
unmark_marks : (w : Machines.Machines) (n : MNo) → MarksAwake w → MarksAwake (Machines.unmarked w n)
unmark_marks w n marks m marked =
    marks m (at_set (λ (o : Option Bool). unwrap_or o false ≡ true → Machines.is_marked w m ≡ true) w.marked n.0 m.0 false (λ same e. absurd (false≢true e)) (λ e. e) marked)

-- those that are awake are marked
awake_marks : (w : Machines.Machines) → MarksAwake (Machines.awake_marked w)
awake_marks w m marked = by_row (slice_get w.modes m.0) refl (sym (ap (λ (o : Option Bool). unwrap_or o false) (slice_get-map Machines.is_awake_mode w.modes m.0)) ∙ marked) where
  by_row : (o : Option Mode) → slice_get w.modes m.0 ≡ o → unwrap_or (option_map Machines.is_awake_mode o) false ≡ true → slice_get w.modes m.0 ≡ Some mode.Awake
  by_row None at e = absurd (false≢true e)
  by_row (Some mode.Awake) at e = at
  by_row (Some mode.Parked) at e = absurd (false≢true e)
  by_row (Some mode.Calling) at e = absurd (false≢true e)

acquires : (m : MNo) (answer : Reply) (old new : Machines.Machines) → MarksAwake old → Machines.Acquires m answer old new → MarksAwake new
acquires m (reply.Proc p) old new marks (awake, bare, idle, is) = subst MarksAwake (sym is) (λ n marked. marks n marked)
acquires m reply.Nothing old new marks (awake, bare, none, is) = subst MarksAwake (sym is) marks
acquires m _ old new marks h = absurd h

spins : (m : MNo) (answer : Reply) (old new : Machines.Machines) → MarksAwake old → Machines.Spins m answer old new → MarksAwake new
spins m (reply.Answer true) old new marks (awake, may, is) = subst MarksAwake (sym is) (λ n marked. marks n marked)
spins m (reply.Answer false) old new marks (awake, may, is) = subst MarksAwake (sym is) marks
spins m _ old new marks h = absurd h

unspins : (m : MNo) (answer : Reply) (old new : Machines.Machines) → MarksAwake old → Machines.Unspins m answer old new → MarksAwake new
unspins m reply.Done old new marks (awake, is) = subst MarksAwake (sym is) (λ n marked. marks n marked)
unspins m _ old new marks h = absurd h

pokes : (m : MNo) (answer : Reply) (old new : Machines.Machines) → MarksAwake old → Machines.Pokes m answer old new → MarksAwake new
pokes m (reply.Wakes n) old new marks (awake, wants, parked, is) = subst MarksAwake (sym is) (wake_marks old n marks)
pokes m reply.Nothing old new marks (awake, wants, is) = subst MarksAwake (sym is) marks
pokes m _ old new marks h = absurd h

declares : (m : MNo) (answer : Reply) (old new : Machines.Machines) → MarksAwake old → Machines.Declares m answer old new → MarksAwake new
declares m (reply.Idle p) old new marks (still, holds, is) = subst MarksAwake (sym is) (unmark_marks (Machines.set_holder old p None) m (λ n marked. marks n marked))
declares m _ old new marks h = absurd h

bares : (m : MNo) (answer : Reply) (old new : Machines.Machines) → MarksAwake old → Machines.Bares m answer old new → MarksAwake new
bares m reply.Done old new marks (bare, is) = subst MarksAwake (sym is) (unmark_marks old m marks)
bares m _ old new marks h = absurd h

looks : (m : MNo) (answer : Reply) (old new : Machines.Machines) → MarksAwake old → Machines.Looks m answer old new → MarksAwake new
looks m (reply.Answer true) old new marks (awake, is) = subst MarksAwake (sym is) marks
looks m (reply.Answer false) old new marks (parked, is) = subst MarksAwake (sym is) marks
looks m _ old new marks h = absurd h

sets : (n : ℕ) (answer : Reply) (old new : Machines.Machines) → MarksAwake old → Machines.Sets n answer old new → MarksAwake new
sets n (reply.Number before) old new marks (good, told, is) = subst MarksAwake (sym is) (λ m marked. marks m marked)
sets n (reply.Fault fault.BadProcs) old new marks (bad, is) = subst MarksAwake (sym is) marks
sets n _ old new marks h = absurd h

keeps : (m : MNo) (answer : Reply) (old new : Machines.Machines) → MarksAwake old → Machines.MayKeep m answer old new → MarksAwake new
keeps m (reply.Answer b) old new marks (awake, p, holds, told, is) = subst MarksAwake (sym is) marks
keeps m _ old new marks h = absurd h

enters : (m : MNo) (answer : Reply) (old new : Machines.Machines) → Machines.Enters m answer old new → MarksAwake new
enters m (reply.Entered p None) old new (holds, none, is) = subst MarksAwake (sym is) (awake_marks (Machines.set_mode (Machines.set_holder old p None) m mode.Calling))
enters m (reply.Entered p (Some n)) old new (holds, parked, is) =
    subst MarksAwake (sym is) (awake_marks (Machines.set_mode (Machines.set_mode (Machines.set_holder old p None) m mode.Calling) n mode.Awake))
enters m _ old new h = absurd h

returns : (m : MNo) (answer : Reply) (old new : Machines.Machines) → MarksAwake old → Machines.Returns m answer old new → MarksAwake new
returns m (reply.Runs p) old new marks (idle, is) = subst MarksAwake (sym is) (λ n marked. wake_marks old m marks n marked)
returns m (reply.Shelved r) old new marks (none, is) = subst MarksAwake (sym is) (wake_marks old m marks)
returns m _ old new marks h = absurd h

stay : (old new : State) → SameMachines old new → MarksAwake old.machines → MarksAwake new.machines
stay old new same marks = subst MarksAwake (sym same) marks

deals : (g : GNo) (c : Case) (answer : Reply) (old new : State) → Step.Deals g c answer old new → SameMachines old new
deals g c (reply.Sent to) old new (made, (how, goes, told, is, same)) = same
deals g c (reply.Got v sent from) old new (made, (how, goes, told, is, same)) = same
deals g c (reply.Fault fault.SendOnClosed) old new (made, (how, goes, told, is, same)) = same
deals g c reply.Waits old new (made, (none, is, channels, same)) = same
deals g c (reply.Fault fault.NoSuchChannel) old new (made, (is, channels, same)) = same
deals g c _ old new h = absurd h

selects : (g : GNo) (cases : List Case) (has_default : Bool) (until : Option ℕ) (answer : Reply) (old new : State) → Step.Selects g cases has_default until answer old new → SameMachines old new
selects g cases has_default until (reply.Chose i told) old new (made, c, at, (how, goes, told_is, is, same)) = same
selects g cases has_default until reply.Default old new (made, allowed, none, (is, channels, same)) = same
selects g cases has_default until reply.Waits old new (made, no_default, (none, is, channels, same)) = same
selects g cases has_default until (reply.Fault fault.NoSuchChannel) old new (made, (is, channels, same)) = same
selects g cases has_default until _ old new h = absurd h

closes : (c : Option CNo) (answer : Reply) (old new : State) → Step.Closes c answer old new → SameMachines old new
closes (Some c) (reply.Closed n) old new (made, open_, channels, is, count, same) = same
closes (Some c) (reply.Fault fault.CloseOfClosed) old new (made, closed, (is, channels, same)) = same
closes (Some c) (reply.Fault fault.NoSuchChannel) old new (made, (is, channels, same)) = same
closes None (reply.Fault fault.CloseOfNil) old new (is, channels, same) = same
closes _ _ old new h = absurd h

-- who is marked doesn't park
park_marks : (w : Machines.Machines) (m : MNo) → Machines.is_marked w m ≡ false → MarksAwake w → MarksAwake (Machines.set_mode w m mode.Parked)
park_marks w m unmarked marks n marked =
    at_set (λ (o : Option Mode). o ≡ Some mode.Awake) w.modes m.0 n.0 mode.Parked
    (λ same. absurd (false≢true (sym unmarked ∙ ap (λ (i : ℕ). unwrap_or (slice_get w.marked i) false) same ∙ marked))) (marks n marked)

parks : (m : MNo) (answer : Reply) (old new : State) → MarksAwake old.machines → Step.Parks m answer old new → MarksAwake new.machines
parks m reply.Work old new marks (work, (is, channels, same)) = stay old new same marks
parks m reply.AllAsleep old new marks (work, asleep, (is, channels, same)) = stay old new same marks
parks m (reply.Mind until) old new marks (work, astir, minds, (is, channels, same)) = stay old new same marks
parks m reply.LookAgain old new marks (work, astir, minds, marked, (is, channels, same)) = stay old new same marks
parks m reply.Parked old new marks (work, astir, minds, unmarked, is, channels, machines) = subst MarksAwake (sym machines) (park_marks old.machines m unmarked marks)
parks m _ old new marks h = absurd h

pub effect_marks : (limits : Limits) (m : MNo) (c : Call) (answer : Reply) (old new : State) → MarksAwake old.machines → Step.Effect limits m c answer old new → MarksAwake new.machines
effect_marks limits m call.Acquire answer old new marks (h, is, rest) = acquires m answer _ _ marks h
effect_marks limits m call.Take answer old new marks (awake, (h, rest, same)) = stay old new same marks
effect_marks limits m (call.Put r) answer old new marks (awake, (h, rest, same)) = stay old new same marks
effect_marks limits m (call.Claim r) answer old new marks (free, holds, (h, rest, same)) = stay old new same marks
effect_marks limits m (call.Go k) answer old new marks (g, running, (h, rest, same)) = stay old new same marks
effect_marks limits m call.Spawn answer old new marks (g, running, (h, rest, same)) = stay old new same marks
effect_marks limits m call.Yield answer old new marks (g, running, (h, rest, same)) = stay old new same marks
effect_marks limits m call.Exit answer old new marks (g, running, (h, rest, same)) = stay old new same marks
effect_marks limits m (call.Make capacity) answer old new marks (g, running, (h, is, same)) = stay old new same marks
effect_marks limits m (call.Send c v) answer old new marks (g, running, h) = stay old new (deals g (case.Send c v) answer old new h) marks
effect_marks limits m (call.Recv c) answer old new marks (g, running, h) = stay old new (deals g (case.Recv c) answer old new h) marks
effect_marks limits m (call.Close c) answer old new marks (g, running, h) = stay old new (closes c answer old new h) marks
effect_marks limits m (call.Len c) answer old new marks (g, running, (h, is, same)) = stay old new same marks
effect_marks limits m (call.Cap c) answer old new marks (g, running, (h, is, same)) = stay old new same marks
effect_marks limits m (call.Procs n) answer old new marks (g, running, (h, is, rest)) = sets n answer _ _ marks h
effect_marks limits m (call.Select cases has_default until) answer old new marks (few, (g, running, h)) = stay old new (selects g cases has_default until answer old new h) marks
effect_marks limits m (call.Sleep until) answer old new marks (g, running, (h, rest, same)) = stay old new same marks
effect_marks limits m call.Gopark answer old new marks (g, running, (h, rest, same)) = stay old new same marks
effect_marks limits m (call.Ready k) answer old new marks (g, running, (h, rest, same)) = stay old new same marks
effect_marks limits m call.Enter answer old new marks (g, running, (is, h, rest)) = enters m answer _ _ h
effect_marks limits m (call.Leave number) answer old new marks (g, calling, (h, machines, rest)) = returns m answer _ _ marks machines
effect_marks limits m call.Spin answer old new marks (free, (h, is, rest)) = spins m answer _ _ marks h
effect_marks limits m call.Woken answer old new marks (h, is, rest) = looks m answer _ _ marks h
effect_marks limits m call.Keep answer old new marks (h, is, rest) = keeps m answer _ _ marks h
effect_marks limits m call.Unspin answer old new marks (h, is, rest) = unspins m answer _ _ marks h
effect_marks limits m call.Poke answer old new marks (h, is, rest) = pokes m answer _ _ marks h
effect_marks limits m call.Declare answer old new marks (free, (h, is, rest)) = declares m answer _ _ marks h
effect_marks limits m call.Bare answer old new marks (h, is, rest) = bares m answer _ _ marks h
effect_marks limits m call.Park answer old new marks (bare, h) = parks m answer old new marks h
effect_marks limits m (call.Tick moment) answer old new marks (awake, (h, rest, same)) = stay old new same marks
