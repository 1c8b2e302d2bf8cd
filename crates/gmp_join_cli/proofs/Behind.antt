-- What is known of the input, behind the parts that were taken.
use Rattle.std.proofs.Common.{◌≡◌, ◌∙◌, ℕ, ◌+◌, ◌<◌, List, [], ◌++◌, Option, None, Some, IfSome, length, refl, sym, ap, subst}
use Rattle.std.proofs.lemmas.List.{append_assoc, append-nil}
use Rattle.std.specs.Io.KnownBytes.{Appends, Consumes, IsAtEnd}
use Rattle.gmp_trace.specs.declared.bad.Bad.{Bad}
use Rattle.gmp_trace.specs.declared.trace.End.{End}
use Rattle.gmp_trace.specs.Summary.{entries_line, outcome_line}
use Rattle.gmp_trace.specs.Text.{Content, text}
use Rattle.gmp_judge.specs.Judged.{IsWrong}
use Rattle.gmp_join_cli.specs.declared.joining.Joined.{Joined}
use Rattle.gmp_join_cli.specs.declared.stopping.Stop.{Stop}
use Rattle.gmp_parts.proofs.Parts.{one_run}
use Rattle.gmp_join_cli.specs.Join.{HasRunInParts, IsApart, IsBadPart, IsLastStop, IsLongBehind, IsNextApart, IsReadSoFar, IsStop, IsTold, JoinsNext, Tells, WritesJoined}
use Rattle.gmp_parts.specs.Parts.{AreInOrder, Parts, count, entries_of, joined_text, parts_line, texts}
use Rattle.gmp_parts.specs.Parts.Parts.{NoPart, Then}

pub long_behind : (input now : Option (List ℕ)) (most : ℕ) (joined : Joined) → IsReadSoFar input now joined → IfSome now (λ rest. most < length rest) → IfSome input (IsLongBehind most)
long_behind None now most joined so_far long = tt
long_behind (Some all) None most joined so_far long = absurd so_far.taken
long_behind (Some all) (Some rest) most joined so_far long =
    record { parts = so_far.parts; in_order = so_far.tells.in_order; rest = rest; whole = so_far.taken; long = long }

pub bad_behind : (input now later : Option (List ℕ)) (joined : Joined) (bytes : List ℕ) (n : ℕ) (bad : Bad) → IsReadSoFar input now joined → Consumes now later bytes
    → (n ≡ joined.parts + 1) × IsWrong bytes bad → IfSome input (IsBadPart n bad)
bad_behind None now later joined bytes n bad so_far taken is = tt
bad_behind (Some all) None later joined bytes n bad so_far taken is = absurd so_far.taken
bad_behind (Some all) (Some rest) None joined bytes n bad so_far taken is = absurd taken
bad_behind (Some all) (Some rest) (Some more) joined bytes n bad so_far taken is =
    record {
      parts = so_far.parts;
      in_order = so_far.tells.in_order;
      number = is.0 ∙ ap (λ k. k + 1) so_far.tells.count;
      bytes = bytes;
      rest = more;
      whole = so_far.taken ∙ ap (λ (l : List ℕ). texts so_far.parts ++ l) taken;
      wrong = is.1;
    }

pub apart_behind : (input now later : Option (List ℕ)) (joined : Joined) (bytes : List ℕ) (n : ℕ) → IsReadSoFar input now joined → Consumes now later bytes
    → (n ≡ joined.parts + 1) × ((parts : Parts) → Tells joined parts → IsNextApart parts bytes) → IfSome input (IsApart n)
apart_behind None now later joined bytes n so_far taken is = tt
apart_behind (Some all) None later joined bytes n so_far taken is = absurd so_far.taken
apart_behind (Some all) (Some rest) None joined bytes n so_far taken is = absurd taken
apart_behind (Some all) (Some rest) (Some more) joined bytes n so_far taken is =
    let apart = is.1 so_far.parts so_far.tells in
    record {
      parts = so_far.parts;
      in_order = so_far.tells.in_order;
      number = is.0 ∙ ap (λ k. k + 1) so_far.tells.count;
      next = apart.next;
      right = apart.right;
      apart = apart.apart;
      rest = more;
      whole = so_far.taken ∙ ap (λ (l : List ℕ). texts so_far.parts ++ l) (taken ∙ ap (λ (l : List ℕ). l ++ more) apart.read);
    }

one_more : (input now later : Option (List ℕ)) (before bytes next : List ℕ) → Consumes input now before → Consumes now later bytes → bytes ≡ next → Consumes input later (before ++ next)
one_more None now later before bytes next taken more is = tt
one_more (Some all) None later before bytes next taken more is = absurd taken
one_more (Some all) (Some rest) None before bytes next taken more is = absurd more
one_more (Some all) (Some rest) (Some end) before bytes next taken more is =
    taken ∙ ap (λ (l : List ℕ). before ++ l) (more ∙ ap (λ (l : List ℕ). l ++ end) is) ∙ sym (append_assoc before next end)

pub read_on : (input now later : Option (List ℕ)) (joined new : Joined) (bytes : List ℕ) → IsReadSoFar input now joined → Consumes now later bytes
    → ((parts : Parts) → Tells joined parts → JoinsNext new parts bytes) → IsReadSoFar input later new
read_on input now later joined new bytes so_far taken joins =
    let next = joins so_far.parts so_far.tells in
    record {
      parts = Then so_far.parts next.next;
      tells = next.tells;
      taken = one_more input now later (texts so_far.parts) bytes (text next.next) so_far.taken taken next.read;
    }

read_whole : (input now : Option (List ℕ)) (before : List ℕ) → Consumes input now before → IsAtEnd now → IfSome input (λ all. all ≡ before)
read_whole None now before taken end = tt
read_whole (Some all) None before taken end = absurd taken
read_whole (Some all) (Some rest) before taken end = taken ∙ ap (λ (l : List ℕ). before ++ l) end ∙ append-nil before

pub all_told : (input now : Option (List ℕ)) (joined : Joined) → IsReadSoFar input now joined → IsAtEnd now → IsTold input joined
all_told input now joined so_far end =
    record { parts = so_far.parts; tells = so_far.tells; read = read_whole input now (texts so_far.parts) so_far.taken end }

-- What the command writes

same_text : (parts : Parts) (x : Content) (end : End) (n k : ℕ) → end ≡ x.end → n ≡ length (entries_of (Then parts x)) → k ≡ count (Then parts x)
    → outcome_line end ++ entries_line n ++ parts_line k ≡ joined_text parts x
same_text parts x end n k ends entries counts =
    ap (λ (e : End). outcome_line e ++ entries_line n ++ parts_line k) ends
    ∙ ap (λ (m : ℕ). outcome_line x.end ++ entries_line m ++ parts_line k) entries
    ∙ ap (λ (m : ℕ). outcome_line x.end ++ entries_line (length (entries_of (Then parts x))) ++ parts_line m) counts

-- where a part stops there is a last one
last_of : (parts : Parts) (stop : Stop) → IsLastStop parts (Some stop) → (before : Parts) × (x : Content) × (parts ≡ Then before x) × IsStop x stop
last_of NoPart stop is = absurd cc
last_of (Then before x) stop is = (before, x, refl, is)

none_before : (parts : Parts) → IsLastStop parts None → parts ≡ NoPart
none_before NoPart is = refl
none_before (Then before x) is = absurd is

module _ (input : Option (List ℕ)) (joined : Joined) (stop : Stop) (told : IsTold input joined) (at : joined.last ≡ Some stop) where
  last_is : (before : Parts) × (x : Content) × (told.parts ≡ Then before x) × IsStop x stop
  last_is = last_of told.parts stop (subst (λ (last : Option Stop). IsLastStop told.parts last) at told.tells.last)

  in_order : AreInOrder (Then last_is.0 last_is.1)
  in_order = subst AreInOrder last_is.2 told.tells.in_order

  read : IfSome input (λ all. all ≡ texts (Then last_is.0 last_is.1))
  read = subst (λ (parts : Parts). IfSome input (λ all. all ≡ texts parts)) last_is.2 told.read

  same : outcome_line stop.end ++ entries_line joined.entries ++ parts_line joined.parts ≡ joined_text last_is.0 last_is.1
  same =
      same_text last_is.0 last_is.1 stop.end joined.entries joined.parts last_is.3.end
      (told.tells.entries ∙ ap (λ (parts : Parts). length (entries_of parts)) last_is.2)
      (told.tells.count ∙ ap count last_is.2)

  pub writes_joined : (old new : Option (List ℕ)) → Appends old new (outcome_line stop.end ++ entries_line joined.entries ++ parts_line joined.parts)
      → WritesJoined input old new
  writes_joined old new appends =
      record {
        parts = last_is.0;
        last = last_is.1;
        in_order = in_order;
        one_run = one_run last_is.0 last_is.1 in_order;
        read = read;
        written = subst (λ (l : List ℕ). Appends old new l) same appends;
      }

  pub has_run : IfSome input HasRunInParts
  has_run = there input read where
    there : (known : Option (List ℕ)) → IfSome known (λ all. all ≡ texts (Then last_is.0 last_is.1)) → IfSome known HasRunInParts
    there None is = tt
    there (Some all) is = (last_is.0, last_is.1, record { in_order = in_order; one_run = one_run last_is.0 last_is.1 in_order; read = is })

-- where no part was there, nothing was
pub was_empty : (input : Option (List ℕ)) (joined : Joined) → IsTold input joined → joined.last ≡ None → IfSome input (λ all. all ≡ [])
was_empty input joined told none =
    let no_part : told.parts ≡ NoPart = none_before told.parts (subst (λ (last : Option Stop). IsLastStop told.parts last) none told.tells.last) in
    subst (λ (parts : Parts). IfSome input (λ all. all ≡ texts parts)) no_part told.read
