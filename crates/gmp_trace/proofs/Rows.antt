-- The call and the reply that words were written for are those that they are taken for.
use Rattle.std.proofs.Common.{◌≡◌, ℕ, zero, suc, ◌<◌, ◌≤◌, ◌^◌, ◌==◌, Bool, true, false, List, [], ◌∷◌, ◌++◌, map, length, Option, Some, None, refl, ap, ap₂, ◌∙◌, append_assoc, arith, rules, decimal, codes, IfSome, IsTrue, All}
use Rattle.std.specs.List.{AllByRecursion}
use Rattle.std.specs.Str.{bytes_eq}
use Rattle.std.proofs.lemmas.List.{map-append}
use Rattle.std.proofs.lemmas.List.Elements.{All-head, All-tail}
use Rattle.gmp_base.specs.declared.ask.Fault.{Fault}
use Rattle.gmp_base.specs.declared.ask.Fault.TheVariants as fault
use Rattle.gmp_base.specs.declared.cases.Case.{Case}
use Rattle.gmp_base.specs.declared.cases.Case.TheVariants as case
use Rattle.gmp_base.specs.declared.number.CNo.{CNo}
use Rattle.gmp_base.specs.declared.number.MNo.{MNo}
use Rattle.gmp_base.specs.declared.number.PNo.{PNo}
use Rattle.gmp_base.specs.declared.number.Readiness.{Readiness}
use Rattle.gmp_base.specs.Fits.{IsWord, IsChannelNumber, FitsCase}
use Rattle.gmp_base.specs.Numbers.{fault_number}
use Rattle.gmp_seq.specs.declared.call.Call.{Call}
use Rattle.gmp_seq.specs.declared.call.Call.TheVariants as call
use Rattle.gmp_seq.specs.declared.call.Relay.{Relay}
use Rattle.gmp_seq.specs.declared.call.Reply.{Reply}
use Rattle.gmp_seq.specs.declared.call.Reply.TheVariants as reply
use Rattle.gmp_seq.specs.declared.call.Taken.{Taken}
use Rattle.gmp_seq.specs.declared.call.Taken.TheVariants as taken
use Rattle.gmp_seq.specs.Fits.{FitsReadiness, FitsCall, FitsReply, FitsRelay, FitsTaken, IsMachineNumber}
use Rattle.gmp_trace.specs.HasText.{answers}
use Rattle.gmp_trace.specs.Pieces.{Piece, piece_text, channel_text, case_text, readiness, boolean, call_pieces, reply_pieces, default_pieces, until_pieces, served_pieces, moved_pieces, woken_pieces, taken_pieces}
use Rattle.gmp_trace.specs.Pieces.Piece.{OfCase}
use Rattle.gmp_trace.specs.Guess.{parted, number_read, narrow, byte_at, word_at, readiness_read, channel_read, is_case, case_read, leading_cases, default_of, until_of, select_read, call_named, call_of, fault_of, served_of, relay_of, woken_of, taken_of, idle_of, shelf_of, reply_named, reply_of}
use Rattle.gmp_trace.proofs.Numbers.{number_again, narrow_again, decimal_digits, IsDigit}
use Rattle.gmp_trace.proofs.Lexing.{HasNo, pair_parted, parted_again, decimal_has_no}
use Rattle.gmp_trace.proofs.WordRows.{select_pieces}

-- a number of its bits
pub small_again : (bits n : ℕ) → n < 2 ^ bits → n < 2 ^ 64 → narrow bits (number_read (decimal n)) ≡ n
small_again bits n h w = rw (number_again n w) (narrow_again bits n h)

again8 : (n : ℕ) → n < 2 ^ 8 → narrow 8 (number_read (decimal n)) ≡ n
again8 n h = small_again 8 n h (omega arith)

again16 : (n : ℕ) → n < 2 ^ 16 → narrow 16 (number_read (decimal n)) ≡ n
again16 n h = small_again 16 n h (omega arith)

pub readiness_again : (r : Readiness) → FitsReadiness r → readiness_read (piece_text (readiness r)) ≡ r
unfolding readiness_read
readiness_again r h = rw (pair_parted r.g.0 r.epoch (omega (arith, h.0)), again16 r.g.0 h.0, number_again r.epoch h.1) refl

-- ---- channels and cases

not_nil : (ds : List ℕ) → AllByRecursion IsDigit ds → bytes_eq ds (codes "nil") ≡ false
not_nil [] h = refl
not_nil (d ∷ ds) h = let other : (d == 110) ≡ false = search (rules, h.0) in rw other refl

channel_again : (c : Option CNo) → IfSome c IsChannelNumber → channel_read (channel_text c) ≡ c
unfolding channel_read
channel_again None h = refl
channel_again (Some c) h = rw (not_nil (decimal c.0) (decimal_digits c.0 (omega arith)), again16 c.0 h) refl

channel_has_no : (c : Option CNo) → IfSome c IsChannelNumber → HasNo 58 (channel_text c)
channel_has_no None h = (omega arith, (omega arith, (omega arith, tt)))
channel_has_no (Some c) h = decimal_has_no 58 c.0 (omega arith) (omega arith)

case_apart : (c : Option CNo) (v : ℕ) → IfSome c IsChannelNumber → parted 58 (channel_text c ++ codes ":" ++ decimal v) ≡ (channel_text c, decimal v)
case_apart c v h = ap (λ (t : List ℕ). parted 58 t) (append_assoc (channel_text c) (codes ":") (decimal v)) ∙ parted_again 58 (channel_text c) (decimal v) (channel_has_no c h)

case_again : (c : Case) → FitsCase c → case_read (case_text c) ≡ c
unfolding case_read parted
case_again (case.Send c v) h = rw (case_apart c v h.0, channel_again c h.0, number_again v h.1) refl
case_again (case.Recv c) h = ap case.Recv (channel_again c h)

case_is : (c : Case) → is_case (case_text c) ≡ true
unfolding is_case parted
case_is (case.Send c v) = refl
case_is (case.Recv c) = refl

-- ---- selects

cases_again : (cases : List Case) (n : ℕ) (rest : List (List ℕ)) → length cases ≤ n → All FitsCase cases → is_case (word_at 0 rest) ≡ false
    → leading_cases n (map piece_text (map OfCase cases) ++ rest) ≡ (cases, rest)
cases_again [] zero rest short h other = refl
cases_again [] (suc n) [] short h other = refl
cases_again [] (suc n) (w ∷ rest) short h other = rw other refl
cases_again (c ∷ cases) zero rest short h other = absurd (omega arith)
cases_again (c ∷ cases) (suc n) rest short h other =
    rw (case_is c, case_again c (All-head FitsCase c cases h), cases_again cases n rest (omega arith) (All-tail FitsCase c cases h) other) refl

-- what follows the cases of a select
option_words : Bool → Option ℕ → List (List ℕ)
option_words has_default until = map piece_text (default_pieces has_default ++ until_pieces until)

option_no_case : (has_default : Bool) (until : Option ℕ) → is_case (word_at 0 (option_words has_default until)) ≡ false
unfolding is_case parted option_words
option_no_case true until = refl
option_no_case false None = refl
option_no_case false (Some d) = refl

default_again : (has_default : Bool) (until : Option ℕ) → default_of (option_words has_default until) ≡ (has_default, map piece_text (until_pieces until))
unfolding option_words
default_again true until = refl
default_again false None = refl
default_again false (Some d) = refl

until_again : (until : Option ℕ) → IfSome until IsWord → until_of (map piece_text (until_pieces until)) ≡ until
until_again None h = refl
until_again (Some d) h = rw (number_again d h) refl

select_words : (cases : List Case) (has_default : Bool) (until : Option ℕ)
    → map piece_text (map OfCase cases ++ default_pieces has_default ++ until_pieces until) ≡ map piece_text (map OfCase cases) ++ option_words has_default until
unfolding option_words
select_words cases has_default until =
    ap (λ (ps : List Piece). map piece_text ps) (select_pieces cases has_default until)
    ∙ map-append piece_text (map OfCase cases) (default_pieces has_default ++ until_pieces until)

select_again : (cases : List Case) (has_default : Bool) (until : Option ℕ) → FitsCall (call.Select cases has_default until)
    → select_read (map piece_text (map OfCase cases ++ default_pieces has_default ++ until_pieces until)) ≡ call.Select cases has_default until
unfolding select_read
select_again cases has_default until h =
    rw (
      select_words cases has_default until,
      cases_again cases 8 (option_words has_default until) h.0 h.1 (option_no_case has_default until),
      default_again has_default until,
      until_again until h.2,
    ) refl

-- ---- calls

pub call_again : (c : Call) → FitsCall c → call_of (map piece_text (call_pieces c)) ≡ c
unfolding call_named
call_again (call.Put r) h = ap call.Put (readiness_again r h)
call_again (call.Claim r) h = ap call.Claim (readiness_again r h)
call_again (call.Go g) h = rw (again16 g.0 h) refl
call_again (call.Make capacity) h = ap call.Make (small_again 32 capacity h (omega arith))
call_again (call.Send c v) h = ap₂ call.Send (channel_again c h.0) (number_again v h.1)
call_again (call.Recv c) h = ap call.Recv (channel_again c h)
call_again (call.Close c) h = ap call.Close (channel_again c h)
call_again (call.Len c) h = ap call.Len (channel_again c h)
call_again (call.Cap c) h = ap call.Cap (channel_again c h)
call_again (call.Procs n) h = rw (again8 n h) refl
call_again (call.Select cases has_default until) h = select_again cases has_default until h
call_again (call.Sleep until) h = ap call.Sleep (number_again until h)
call_again (call.Ready g) h = rw (again16 g.0 h) refl
call_again (call.Leave n) h = ap call.Leave (number_again n h)
call_again (call.Tick moment) h = ap call.Tick (number_again moment h)
call_again _ h = refl

-- ---- replies

served_again : (name : List ℕ) (to : Option Readiness) → IfSome to FitsReadiness → served_of (name ∷ map piece_text (served_pieces to)) ≡ to
served_again name None h = refl
served_again name (Some r) h = ap Some (readiness_again r h)

relay_again : (a b c : List ℕ) (from : Option Relay) → IfSome from FitsRelay → relay_of (a ∷ b ∷ c ∷ map piece_text (moved_pieces from)) ≡ from
relay_again a b c None h = refl
relay_again a b c (Some x) h = rw (readiness_again x.sender h.0, number_again x.value h.1) refl

woken_again : (a b : List ℕ) (m : Option MNo) → IfSome m IsMachineNumber → woken_of (a ∷ b ∷ map piece_text (woken_pieces m)) ≡ m
woken_again a b None h = refl
woken_again a b (Some m) h = rw (again8 m.0 h) refl

true_again : (b : Bool) → (byte_at 0 (piece_text (boolean b)) == 116) ≡ b
true_again true = refl
true_again false = refl

taken_again : (t : Taken) → FitsTaken t → taken_of (map piece_text (taken_pieces t)) ≡ t
unfolding taken_of
taken_again (taken.Sent to) h = ap taken.Sent (served_again (codes "sent") to h)
taken_again (taken.Got v sent from) h =
    rw (number_again v h.0, true_again sent, relay_again (codes "got") (decimal v) (piece_text (boolean sent)) from h.1) refl
taken_again taken.Failed h = refl

fault_again : (f : Fault) → fault_of (number_read (decimal (fault_number f))) ≡ f
unfolding fault_of
fault_again fault.NoSuchBody = rw (number_again 1 (omega arith)) refl
fault_again fault.AlreadyStarted = rw (number_again 2 (omega arith)) refl
fault_again fault.NoSuchChannel = rw (number_again 3 (omega arith)) refl
fault_again fault.SendOnClosed = rw (number_again 4 (omega arith)) refl
fault_again fault.CloseOfClosed = rw (number_again 5 (omega arith)) refl
fault_again fault.CloseOfNil = rw (number_again 6 (omega arith)) refl
fault_again fault.NotParked = rw (number_again 7 (omega arith)) refl
fault_again fault.BadCapacity = rw (number_again 8 (omega arith)) refl
fault_again fault.TooManyChannels = rw (number_again 9 (omega arith)) refl
fault_again fault.BadProcs = rw (number_again 10 (omega arith)) refl

-- only a declare is answered that its processor is idle, and only an enter what woke
idle_declares : (asked : Call) (p : PNo) → IsTrue (answers asked (reply.Idle p)) → idle_of asked p None ≡ reply.Idle p
unfolding idle_of
idle_declares call.Declare p h = refl
idle_declares _ p h = absurd cc

idle_enters : (asked : Call) (p : PNo) (m : Option MNo) → IsTrue (answers asked (reply.Entered p m)) → idle_of asked p m ≡ reply.Entered p m
unfolding idle_of
idle_enters call.Enter p m h = refl
idle_enters _ p m h = absurd cc

-- a text that begins with digits is not empty
pair_not_empty : (ds rest : List ℕ) → bytes_eq (ds ++ codes "." ++ rest) [] ≡ false
pair_not_empty [] rest = refl
pair_not_empty (d ∷ ds) rest = refl

shelved_again : (r : Readiness) → FitsReadiness r → shelf_of (piece_text (readiness r)) ≡ reply.Shelved r
shelved_again r h = rw (pair_not_empty (decimal r.g.0) (decimal r.epoch), readiness_again r h) refl

pub reply_again : (asked : Call) (r : Reply) → IsTrue (answers asked r) → FitsReply r → reply_of asked (map piece_text (reply_pieces r)) ≡ r
unfolding reply_named
reply_again asked (reply.Proc p) a h = rw (again8 p.0 h) refl
reply_again asked (reply.Ticket r) a h = ap reply.Ticket (readiness_again r h)
reply_again asked (reply.Fault f) a h = ap reply.Fault (fault_again f)
reply_again asked (reply.Shelved r) a h = shelved_again r h
reply_again asked (reply.Channel c) a h = rw (again16 c.0 h) refl
reply_again asked (reply.Sent to) a h = ap reply.Sent (served_again (codes "sent") to h)
reply_again asked (reply.Got v sent from) a h =
    rw (number_again v h.0, true_again sent, relay_again (codes "got") (decimal v) (piece_text (boolean sent)) from h.1) refl
reply_again asked (reply.Closed n) a h = ap reply.Closed (number_again n h)
reply_again asked (reply.Number n) a h = ap reply.Number (number_again n h)
reply_again asked (reply.Chose i told) a h = ap₂ reply.Chose (again8 i h.0) (taken_again told h.1)
reply_again asked (reply.Entered p m) a h =
    rw (again8 p.0 h.0, woken_again (codes "idle") (decimal p.0) m h.1) (idle_enters asked p m a)
reply_again asked (reply.Runs p) a h = rw (again8 p.0 h) refl
reply_again asked (reply.Answer true) a h = refl
reply_again asked (reply.Answer false) a h = refl
reply_again asked (reply.Wakes m) a h = rw (again8 m.0 h) refl
reply_again asked (reply.Idle p) a h = rw (again8 p.0 h) (idle_declares asked p a)
reply_again asked (reply.Mind until) a h = ap reply.Mind (number_again until h)
reply_again asked (reply.Woke n) a h = ap reply.Woke (number_again n h)
reply_again asked _ a h = refl
