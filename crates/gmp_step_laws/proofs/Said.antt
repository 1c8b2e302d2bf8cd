-- What a script's bodies said is a run of the script, but that they pass over the makes that were refused.
use Rattle.std.proofs.Common.{◌≡◌, ℕ, zero, suc, List, [], ◌∷◌, Option, None, Some, length, map, slice_get, slice_set, refl, sym, ap, subst, ◌∙◌}
use Rattle.std.proofs.lemmas.List.{length-map}
use Rattle.std.proofs.lemmas.Option.{slice_get-map}
use Rattle.std.specs.Option.{option_map}
use Rattle.gmp_base.specs.declared.ask.Ask.{Ask}
use Rattle.gmp_base.specs.declared.ask.Ask.TheVariants as ask
use Rattle.gmp_base.specs.declared.ask.Woke.{Woke}
use Rattle.gmp_base.specs.declared.ask.Woke.TheVariants as woke
use Rattle.gmp_base.specs.declared.number.MNo.{MNo}
use Rattle.gmp_seq.specs.declared.call.Call.{Call}
use Rattle.gmp_seq.specs.declared.call.Call.TheVariants as call
use Rattle.gmp_seq.specs.declared.call.Entry.{Entry}
use Rattle.gmp_seq.specs.declared.call.Limits.{Limits}
use Rattle.gmp_seq.specs.declared.call.Reply.{Reply}
use Rattle.gmp_seq.specs.State.{State, opening}
use Rattle.gmp_seq.specs.Step.{woke_after}
use Rattle.gmp_seq.specs.Table.{Table, stored_at}
use Rattle.gmp_script.specs.Script.{AsksTold, BringsLast, Commands}
use Rattle.gmp_scene.specs.Scripted.{LeadsBodies, Speakers}
use Rattle.gmp_said.specs.Said.{AsksFor, Blocks, IsSaid, LeadsSpeakers, PassesMake, Resumes, RunsTurns, Speaker, unheard}
use Rattle.gmp_step_laws.specs.Refused.{IsRunButMakes}

map_set : {X Y : Type 0} (f : X → Y) (xs : List X) (i : ℕ) (x : X) → map f (slice_set xs i x) ≡ slice_set (map f xs) i (f x)
map_set f [] i x = refl
map_set f (y ∷ ys) zero x = refl
map_set f (y ∷ ys) (suc i) x = ap (λ (zs : List _). f y ∷ zs) (map_set f ys i x)

map_twice : {X Y Z : Type 0} (f : X → Y) (h : Y → Z) (xs : List X) → map h (map f xs) ≡ map (λ (x : X). h (f x)) xs
map_twice f h [] = refl
map_twice f h (x ∷ xs) = ap (λ (zs : List _). h (f x) ∷ zs) (map_twice f h xs)

-- Bodies of which each is one of a script
module _ {T : Type 0} (resumes : Resumes T) (blocks : Blocks T) (of : T → Commands) (asks : (b : T) (told : Woke) (asked : Ask) (c : T) → resumes b told asked c → AsksTold (of b) told asked (of c))
    (brings : (b : T) (number : ℕ) (c : T) → blocks b number c → BringsLast (of b) number (of c)) where
  abbrev speaker_of : Speaker T → Speaker Commands
  speaker_of s = record { body = of s.body; woke = s.woke }

  abbrev speakers_of : List (Speaker T) → Speakers
  speakers_of speakers = map (λ (s : Speaker T). speaker_of s) speakers

  there : (speakers : List (Speaker T)) (i : ℕ) (s : Speaker T) → slice_get speakers i ≡ Some s → slice_get (speakers_of speakers) i ≡ Some (speaker_of s)
  there speakers i s e = slice_get-map (λ (q : Speaker T). speaker_of q) speakers i ∙ ap (λ (o : Option (Speaker T)). option_map (λ (q : Speaker T). speaker_of q) o) e

  set_so : (x y : List (Speaker T)) (i : ℕ) (s : Speaker T) → y ≡ slice_set x i s → speakers_of y ≡ slice_set (speakers_of x) i (speaker_of s)
  set_so x y i s e = ap speakers_of e ∙ map_set (λ (q : Speaker T). speaker_of q) x i s

  asked_leads : (m : MNo) (what : Call) (answer : Reply) (t : Table) (x y : List (Speaker T)) → AsksFor resumes blocks m what answer t x y → AsksFor AsksTold BringsLast m what answer t (speakers_of x) (speakers_of y)
  asked_leads m what answer t x y a = record {
    g = a.g;
    runs = a.runs;
    before = speaker_of a.before;
    has = there x a.g.0 a.before a.has;
    asked = a.asked;
    after = of a.after;
    asks = asks a.before.body a.before.woke a.asked a.after a.asks;
    calls = a.calls;
    goes = set_so x y a.g.0 (record { body = a.after; woke = woke_after answer }) a.goes;
  }

  leads : (m : MNo) (what : Call) (answer : Reply) (t : Table) (x y : List (Speaker T)) → LeadsSpeakers resumes blocks m what answer t x y → LeadsBodies m what answer t (speakers_of x) (speakers_of y)
  leads m (call.Claim r) answer t x y a = record { before = speaker_of a.before; has = there x r.g.0 a.before a.has; goes = set_so x y r.g.0 (record { body = a.before.body; woke = stored_at t r.g }) a.goes }
  leads m (call.Leave number) answer t x y a = record {
    g = a.g;
    calls = a.calls;
    before = speaker_of a.before;
    has = there x a.g.0 a.before a.has;
    after = of a.after;
    brings = brings a.before.body number a.after a.brings;
    goes = set_so x y a.g.0 (record { body = a.after; woke = woke.Number number }) a.goes;
  }
  leads m call.Acquire answer t x y same = ap speakers_of same
  leads m call.Take answer t x y same = ap speakers_of same
  leads m (call.Put r) answer t x y same = ap speakers_of same
  leads m call.Spin answer t x y same = ap speakers_of same
  leads m call.Woken answer t x y same = ap speakers_of same
  leads m call.Keep answer t x y same = ap speakers_of same
  leads m call.Unspin answer t x y same = ap speakers_of same
  leads m call.Poke answer t x y same = ap speakers_of same
  leads m call.Declare answer t x y same = ap speakers_of same
  leads m call.Bare answer t x y same = ap speakers_of same
  leads m call.Park answer t x y same = ap speakers_of same
  leads m (call.Tick moment) answer t x y same = ap speakers_of same
  leads m what answer t x y h = asked_leads m what answer t x y h

  passes : (limits : Limits) (s : State) (x y : List (Speaker T)) → PassesMake resumes blocks limits s x y → PassesMake AsksTold BringsLast limits s (speakers_of x) (speakers_of y)
  passes limits s x y a = record {
    lasts = a.lasts;
    m = a.m;
    g = a.g;
    runs = a.runs;
    before = speaker_of a.before;
    has = there x a.g.0 a.before a.has;
    capacity = a.capacity;
    after = of a.after;
    asks = asks a.before.body a.before.woke (ask.Make a.capacity) a.after a.asks;
    wants = a.wants;
    goes = set_so x y a.g.0 (record { body = a.after; woke = woke.NoMemory }) a.goes;
  }

  turns_of : (limits : Limits) (a b : State) (x y : List (Speaker T)) (turns : List (Option Entry)) → RunsTurns resumes blocks limits a x turns b y → RunsTurns AsksTold BringsLast limits a (speakers_of x) turns b (speakers_of y)
  turns_of limits a b x y [] (same, is) = (same, ap speakers_of is)
  turns_of limits a b x y (Some e ∷ turns) (mid, between, step, how, rest) =
      (mid, speakers_of between, step, leads e.m e.call e.reply a.table x between how, turns_of limits mid b between y turns rest)
  turns_of limits a b x y (None ∷ turns) (between, make, rest) = (speakers_of between, passes limits a x between make, turns_of limits a b between y turns rest)

  opening_of : (given : List T) → speakers_of (map unheard given) ≡ map unheard (map of given)
  opening_of given = map_twice unheard (λ (q : Speaker T). speaker_of q) given ∙ sym (map_twice of unheard given)

  pub script_said : (limits : Limits) (capacities : List ℕ) (given : List T) (h : List Entry) (last : State) (speakers : List (Speaker T)) → IsSaid resumes blocks limits capacities given h last speakers
      → IsRunButMakes limits capacities (map of given) h last (speakers_of speakers)
  script_said limits capacities given h last speakers (turns, entries, runs) = (
    turns,
    entries,
    subst (λ (n : ℕ). RunsTurns AsksTold BringsLast limits (opening limits n capacities) (map unheard (map of given)) turns last (speakers_of speakers)) (sym (length-map given of))
        (subst (λ (begun : Speakers). RunsTurns AsksTold BringsLast limits (opening limits (length given) capacities) begun turns last (speakers_of speakers)) (opening_of given)
        (turns_of limits (opening limits (length given) capacities) last (map unheard given) speakers turns runs)),
  )
