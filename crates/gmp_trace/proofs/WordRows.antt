-- The words of a call and of a reply are words, and no arrow is among them.
use Rattle.std.proofs.Common.{◌≡◌, ℕ, ◌<◌, ◌^◌, Bool, true, false, List, [], ◌∷◌, ◌++◌, map, refl, sym, ap, ◌∙◌, append_assoc, arith, decimal, codes, Option, Some, None, IfSome, All}
use Rattle.std.proofs.lemmas.Fmt.{decimal_nonempty}
use Rattle.std.proofs.lemmas.List.{append-nil}
use Rattle.std.proofs.lemmas.List.Elements.{All-head, All-tail}
use Rattle.std.specs.Str.{bytes_eq}
use Rattle.gmp_base.specs.declared.ask.Fault.{Fault}
use Rattle.gmp_base.specs.declared.ask.Fault.TheVariants as fault
use Rattle.gmp_base.specs.declared.cases.Case.{Case}
use Rattle.gmp_base.specs.declared.cases.Case.TheVariants as case
use Rattle.gmp_base.specs.declared.number.CNo.{CNo}
use Rattle.gmp_base.specs.declared.number.MNo.{MNo}
use Rattle.gmp_base.specs.declared.number.Readiness.{Readiness}
use Rattle.gmp_base.specs.Fits.{IsWord, IsChannelNumber, FitsCase}
use Rattle.gmp_seq.specs.declared.call.Call.{Call}
use Rattle.gmp_seq.specs.declared.call.Call.TheVariants as call
use Rattle.gmp_seq.specs.declared.call.Relay.{Relay}
use Rattle.gmp_seq.specs.declared.call.Reply.{Reply}
use Rattle.gmp_seq.specs.declared.call.Reply.TheVariants as reply
use Rattle.gmp_seq.specs.declared.call.Taken.{Taken}
use Rattle.gmp_seq.specs.declared.call.Taken.TheVariants as taken
use Rattle.gmp_seq.specs.Fits.{FitsReadiness, FitsCall, FitsReply, FitsRelay, FitsTaken, IsMachineNumber}
use Rattle.gmp_trace.specs.Pieces.{Piece, piece_text, channel_text, case_text, boolean, readiness, call_pieces, reply_pieces, default_pieces, until_pieces, served_pieces, moved_pieces, woken_pieces, fault_pieces, taken_pieces, got_pieces}
use Rattle.gmp_trace.specs.Pieces.Piece.{OfCase}
use Rattle.gmp_trace.proofs.Numbers.{decimal_digits}
use Rattle.gmp_trace.proofs.Lexing.{is_plain, is_word, are_words, plain_digits, plain-append, no_arrow}

-- ---- one word

pub decimal_plain : (n : ℕ) → n < 2 ^ 64 → is_plain (decimal n) ≡ true
decimal_plain n h = plain_digits (decimal n) (decimal_digits n h)

pub decimal_word : (n : ℕ) → n < 2 ^ 64 → is_word (decimal n) ≡ true
decimal_word n h =
    let other : bytes_eq (decimal n) (codes "->") ≡ false =
    ap (λ (t : List ℕ). bytes_eq t (codes "->")) (sym (append-nil (decimal n))) ∙ no_arrow (decimal n) [] (decimal_digits n h) (decimal_nonempty n h) in
    rw (decimal_plain n h, other) refl

pub pair_word : (a b : ℕ) → a < 2 ^ 64 → b < 2 ^ 64 → is_word (decimal a ++ codes "." ++ decimal b) ≡ true
pair_word a b h k =
    let plain : is_plain (decimal a ++ codes "." ++ decimal b) ≡ true =
    plain-append (decimal a ++ codes ".") (decimal b) (plain-append (decimal a) (codes ".") (decimal_plain a h) refl) (decimal_plain b k) in
    let other : bytes_eq (decimal a ++ codes "." ++ decimal b) (codes "->") ≡ false =
    ap (λ (t : List ℕ). bytes_eq t (codes "->")) (append_assoc (decimal a) (codes ".") (decimal b))
    ∙ no_arrow (decimal a) (codes "." ++ decimal b) (decimal_digits a h) (decimal_nonempty a h) in
    rw (plain, other) refl

pub readiness_word : (r : Readiness) → FitsReadiness r → is_word (piece_text (readiness r)) ≡ true
readiness_word r h = pair_word r.g.0 r.epoch (omega (arith, h.0)) h.1

pub channel_word : (c : Option CNo) → IfSome c IsChannelNumber → is_word (channel_text c) ≡ true
channel_word None h = refl
channel_word (Some c) h = decimal_word c.0 (omega arith)

channel_plain : (c : Option CNo) → IfSome c IsChannelNumber → is_plain (channel_text c) ≡ true
channel_plain None h = refl
channel_plain (Some c) h = decimal_plain c.0 (omega arith)

pub case_word : (c : Case) → FitsCase c → is_word (case_text c) ≡ true
case_word (case.Send c v) h =
    let plain : is_plain (codes "send:" ++ channel_text c ++ codes ":" ++ decimal v) ≡ true =
    plain-append (codes "send:" ++ channel_text c ++ codes ":") (decimal v)
    (plain-append (codes "send:" ++ channel_text c) (codes ":") (plain-append (codes "send:") (channel_text c) refl (channel_plain c h.0)) refl)
    (decimal_plain v h.1) in
    rw plain refl
case_word (case.Recv c) h =
    let plain : is_plain (codes "recv:" ++ channel_text c) ≡ true = plain-append (codes "recv:") (channel_text c) refl (channel_plain c h) in
    rw plain refl

-- ---- calls

cases_words : (cases : List Case) (rest : List Piece) → All FitsCase cases → are_words (map piece_text rest) ≡ true
    → are_words (map piece_text (map OfCase cases ++ rest)) ≡ true
cases_words [] rest h p = p
cases_words (c ∷ cases) rest h p = rw (case_word c (All-head FitsCase c cases h), cases_words cases rest (All-tail FitsCase c cases h) p) refl

options_words : (has_default : Bool) (until : Option ℕ) → IfSome until IsWord → are_words (map piece_text (default_pieces has_default ++ until_pieces until)) ≡ true
options_words true None h = refl
options_words true (Some d) h = rw (decimal_word d h) refl
options_words false None h = refl
options_words false (Some d) h = rw (decimal_word d h) refl

pub select_pieces : (cases : List Case) (has_default : Bool) (until : Option ℕ)
    → map OfCase cases ++ default_pieces has_default ++ until_pieces until ≡ map OfCase cases ++ (default_pieces has_default ++ until_pieces until)
select_pieces cases has_default until = append_assoc (map OfCase cases) (default_pieces has_default) (until_pieces until)

pub call_words : (c : Call) → FitsCall c → are_words (map piece_text (call_pieces c)) ≡ true
call_words (call.Put r) h = rw (readiness_word r h) refl
call_words (call.Claim r) h = rw (readiness_word r h) refl
call_words (call.Go g) h = rw (decimal_word g.0 (omega arith)) refl
call_words (call.Make capacity) h = rw (decimal_word capacity (omega arith)) refl
call_words (call.Send c v) h = rw (channel_word c h.0, decimal_word v h.1) refl
call_words (call.Recv c) h = rw (channel_word c h) refl
call_words (call.Close c) h = rw (channel_word c h) refl
call_words (call.Len c) h = rw (channel_word c h) refl
call_words (call.Cap c) h = rw (channel_word c h) refl
call_words (call.Procs n) h = rw (decimal_word n (omega arith)) refl
call_words (call.Select cases has_default until) h =
    ap (λ (ps : List Piece). are_words (map piece_text ps)) (select_pieces cases has_default until)
    ∙ cases_words cases (default_pieces has_default ++ until_pieces until) h.1 (options_words has_default until h.2)
call_words (call.Sleep until) h = rw (decimal_word until h) refl
call_words (call.Ready g) h = rw (decimal_word g.0 (omega arith)) refl
call_words (call.Leave n) h = rw (decimal_word n h) refl
call_words (call.Tick moment) h = rw (decimal_word moment h) refl
call_words _ h = refl

-- ---- replies

boolean_word : (b : Bool) → is_word (piece_text (boolean b)) ≡ true
boolean_word true = refl
boolean_word false = refl

served_words : (to : Option Readiness) → IfSome to FitsReadiness → are_words (map piece_text (served_pieces to)) ≡ true
served_words None h = refl
served_words (Some r) h = rw (readiness_word r h) refl

moved_words : (from : Option Relay) → IfSome from FitsRelay → are_words (map piece_text (moved_pieces from)) ≡ true
moved_words None h = refl
moved_words (Some x) h = rw (readiness_word x.sender h.0, decimal_word x.value h.1) refl

woken_words : (m : Option MNo) → IfSome m IsMachineNumber → are_words (map piece_text (woken_pieces m)) ≡ true
woken_words None h = refl
woken_words (Some m) h = rw (decimal_word m.0 (omega arith)) refl

fault_words : (f : Fault) → are_words (map piece_text (fault_pieces f)) ≡ true
fault_words fault.NoSuchBody = rw (decimal_word 1 (omega arith)) refl
fault_words fault.AlreadyStarted = rw (decimal_word 2 (omega arith)) refl
fault_words fault.NoSuchChannel = rw (decimal_word 3 (omega arith)) refl
fault_words fault.SendOnClosed = rw (decimal_word 4 (omega arith)) refl
fault_words fault.CloseOfClosed = rw (decimal_word 5 (omega arith)) refl
fault_words fault.CloseOfNil = rw (decimal_word 6 (omega arith)) refl
fault_words fault.NotParked = rw (decimal_word 7 (omega arith)) refl
fault_words fault.BadCapacity = rw (decimal_word 8 (omega arith)) refl
fault_words fault.TooManyChannels = rw (decimal_word 9 (omega arith)) refl
fault_words fault.BadProcs = rw (decimal_word 10 (omega arith)) refl

got_words : (v : ℕ) (sent : Bool) (from : Option Relay) → IsWord v → IfSome from FitsRelay → are_words (map piece_text (got_pieces v sent from)) ≡ true
got_words v sent from h k = rw (decimal_word v h, boolean_word sent, moved_words from k) refl

taken_words : (t : Taken) → FitsTaken t → are_words (map piece_text (taken_pieces t)) ≡ true
taken_words (taken.Sent to) h = rw (served_words to h) refl
taken_words (taken.Got v sent from) h = got_words v sent from h.0 h.1
taken_words taken.Failed h = fault_words fault.SendOnClosed

pub reply_words : (r : Reply) → FitsReply r → are_words (map piece_text (reply_pieces r)) ≡ true
reply_words (reply.Proc p) h = rw (decimal_word p.0 (omega arith)) refl
reply_words (reply.Ticket r) h = rw (readiness_word r h) refl
reply_words (reply.Fault f) h = fault_words f
reply_words (reply.Shelved r) h = rw (readiness_word r h) refl
reply_words (reply.Channel c) h = rw (decimal_word c.0 (omega arith)) refl
reply_words (reply.Sent to) h = rw (served_words to h) refl
reply_words (reply.Got v sent from) h = got_words v sent from h.0 h.1
reply_words (reply.Closed n) h = rw (decimal_word n h) refl
reply_words (reply.Number n) h = rw (decimal_word n h) refl
reply_words (reply.Chose i told) h = rw (decimal_word i (omega (arith, h.0)), taken_words told h.1) refl
reply_words (reply.Entered p m) h = rw (decimal_word p.0 (omega (arith, h.0)), woken_words m h.1) refl
reply_words (reply.Runs p) h = rw (decimal_word p.0 (omega arith)) refl
reply_words (reply.Answer b) h = rw (boolean_word b) refl
reply_words (reply.Wakes m) h = rw (decimal_word m.0 (omega arith)) refl
reply_words (reply.Idle p) h = rw (decimal_word p.0 (omega arith)) refl
reply_words (reply.Mind until) h = rw (decimal_word until h) refl
reply_words (reply.Woke n) h = rw (decimal_word n h) refl
reply_words _ h = refl
