-- What a history's rows stand for stays, whatever is added beside them.
use Rattle.std.proofs.Common.{◌≡◌, Bool, ℕ, zero, suc, ◌+◌, ◌^◌, ◌<◌, ◌≤◌, List, [], ◌∷◌, ◌++◌, length, get_or, slice_get, Option, None, Some, refl, ap, ◌∙◌, arith, length-append}
use Rattle.std.specs.Prelude.{All}
use Rattle.std.proofs.lemmas.List.{map-append}
use Rattle.std.proofs.lemmas.List.Elements.{All-append}
use Rattle.std.proofs.lemmas.Option.{slice_get-map}
use Rattle.gmp_seq.specs.declared.call.Call.{Call}
use Rattle.gmp_seq.specs.declared.call.Call.TheVariants as call
use Rattle.gmp_seq.specs.declared.call.Entry.{Entry}
use Rattle.gmp_seq.specs.declared.call.Relay.{Relay}
use Rattle.gmp_seq.specs.declared.call.Reply.{Reply}
use Rattle.gmp_seq.specs.declared.call.Reply.TheVariants as reply
use Rattle.gmp_seq.specs.declared.call.Taken.TheVariants as taken
use Rattle.gmp_history.specs.declared.brief.CallKind.{CallKind}
use Rattle.gmp_history.specs.declared.brief.CallKind.TheVariants as kind
use Rattle.gmp_history.specs.declared.brief.Choosing.{Choosing}
use Rattle.gmp_history.specs.declared.brief.ReplyKind.{ReplyKind}
use Rattle.gmp_history.specs.declared.brief.ReplyKind.TheVariants as short
use Rattle.gmp_history.specs.declared.brief.Row.{Row}
use Rattle.gmp_history.specs.declared.brief.Served.{Served}
use Rattle.gmp_history.specs.Brief.{IsCallIn, IsIn, IsReplyIn, call_of, chose_of, choosing_in, entries_of, entry_of, got_of, reply_of, select_of, served_by, served_list, served_of}
use Rattle.gmp_history.specs.Kept.{IsHistory}

get_kept : {A : Type 0} (xs ys : List A) (i : ℕ) → i < length xs → slice_get (xs ++ ys) i ≡ slice_get xs i
get_kept [] ys i l = absurd (omega arith)
get_kept (x ∷ xs) ys zero l = refl
get_kept (x ∷ xs) ys (suc i) l = get_kept xs ys i (omega arith)

call_kept : (s s' : List Choosing) (b : CallKind) (number word : ℕ) → IsCallIn (length s) b word → call_of (s ++ s') b number word ≡ call_of s b number word
call_kept s s' kind.Select number word l = ap select_of (get_kept s s' word l)
call_kept s s' b number word l = refl

reply_kept : (r r' : List Served) (b : ReplyKind) (small number word : ℕ) → IsReplyIn (length r) b word → reply_of (r ++ r') b small number word ≡ reply_of r b small number word
reply_kept r r' short.GotFrom small number word l = ap (λ x. got_of (served_of x)) (get_kept r r' word l)
reply_kept r r' short.ChoseGotFrom small number word l = ap (λ x. chose_of small (served_of x)) (get_kept r r' word l)
reply_kept r r' b small number word l = refl

entry_kept : (s s' : List Choosing) (r r' : List Served) (x : Row) → IsIn (length s) (length r) x → entry_of (s ++ s') (r ++ r') x ≡ entry_of s r x
entry_kept s s' r r' x h = (
    let again : Reply = reply_of (r ++ r') x.reply x.reply_small x.reply_number x.reply_word in
    let whole : Call = call_of s x.call x.call_number x.call_word in
    let first : entry_of (s ++ s') (r ++ r') x ≡ record { m = x.m; k = x.k; call = whole; reply = again } = ap (λ (c : Call). record { m = x.m; k = x.k; call = c; reply = again }) (call_kept s s' x.call x.call_number x.call_word h.call) in
    let rest : record { m = x.m; k = x.k; call = whole; reply = again } ≡ entry_of s r x = ap (λ (a : Reply). record { m = x.m; k = x.k; call = whole; reply = a }) (reply_kept r r' x.reply x.reply_small x.reply_number x.reply_word h.reply) in
    first ∙ rest)

rows_kept : (s s' : List Choosing) (r r' : List Served) (rows : List Row) → All (IsIn (length s) (length r)) rows → entries_of (s ++ s') (r ++ r') rows ≡ entries_of s r rows
rows_kept s s' r r' [] h = refl
rows_kept s s' r r' (x ∷ rows) h = (
    let first : entry_of (s ++ s') (r ++ r') x ≡ entry_of s r x = entry_kept s s' r r' x (h zero x (omega arith)) in
    let rest = rows_kept s s' r r' rows (λ i d l. h (suc i) d (omega arith)) in
    ap (λ (e : Entry). e ∷ entries_of (s ++ s') (r ++ r') rows) first ∙ ap (λ (l : List Entry). entry_of s r x ∷ l) rest)

-- a row goes last, with what its call and its reply add
pub pushed : (s s' s'' : List Choosing) (r r' r'' : List Served) (rows rows' : List Row) (row : Row) (call : Call) (reply : Reply)
    → All (IsIn (length s) (length r)) rows → s' ≡ s ++ s'' → r' ≡ r ++ r'' → rows' ≡ rows ++ row ∷ [] → call_of s' row.call row.call_number row.call_word ≡ call → reply_of r' row.reply row.reply_small row.reply_number row.reply_word ≡ reply
    → entries_of s' r' rows' ≡ entries_of s r rows ++ record { m = row.m; k = row.k; call = call; reply = reply } ∷ []
pushed s s' s'' r r' r'' rows rows' row call reply named es er erows ecall ereply = (
    let last : entry_of s' r' row ≡ record { m = row.m; k = row.k; call = call; reply = reply } = ap (λ (c : Call). record { m = row.m; k = row.k; call = c; reply = reply_of r' row.reply row.reply_small row.reply_number row.reply_word }) ecall ∙ ap (λ (a : Reply). record { m = row.m; k = row.k; call = call; reply = a }) ereply in
    let kept : entries_of s' r' rows ≡ entries_of s r rows = rw (es, er, rows_kept s s'' r r'' rows named) in
    ap (entries_of s' r') erows ∙ map-append (entry_of s' r') rows (row ∷ []) ∙ ap (λ (l : List Entry). l ++ entry_of s' r' row ∷ []) kept ∙ ap (λ (e : Entry). entries_of s r rows ++ e ∷ []) last)

call_in_more : (n n' : ℕ) (b : CallKind) (word : ℕ) → n ≤ n' → IsCallIn n b word → IsCallIn n' b word
call_in_more n n' kind.Select word l h = omega (arith, l, h)
call_in_more n n' b word l h = tt

reply_in_more : (n n' : ℕ) (b : ReplyKind) (word : ℕ) → n ≤ n' → IsReplyIn n b word → IsReplyIn n' b word
reply_in_more n n' short.GotFrom word l h = omega (arith, l, h)
reply_in_more n n' short.ChoseGotFrom word l h = omega (arith, l, h)
reply_in_more n n' b word l h = tt

few_choosings : (c : Call) → length (choosing_in c) ≤ 1
few_choosings (call.Select cases has_default until) = omega arith
few_choosings c = omega arith

few_list : (v : ℕ) (sent : Bool) (from : Option Relay) → length (served_list v sent from) ≤ 1
few_list v sent None = omega arith
few_list v sent (Some x) = omega arith

few_served : (a : Reply) → length (served_by a) ≤ 1
few_served (reply.Got v sent from) = few_list v sent from
few_served (reply.Chose i (taken.Got v sent from)) = few_list v sent from
few_served a = omega arith

only : {A : Type 0} (P : A → Type 0) (x : A) → P x → All P (x ∷ [])
only P x p zero d l = p
only P x p (suc k) d l = absurd (omega arith)

pub one_more : (s s' : List Choosing) (r r' : List Served) (rows rows' : List Row) (row : Row) (call : Call) (reply : Reply) (room lasting space space' space'' : ℕ)
    → IsHistory rows s r room lasting space space' space'' → s' ≡ s ++ choosing_in call → r' ≡ r ++ served_by reply → rows' ≡ rows ++ row ∷ []
    → IsCallIn (length s') row.call row.call_word → IsReplyIn (length r') row.reply row.reply_word → length rows < room → room < 2 ^ 32 → IsHistory rows' s' r' room lasting space space' space''
one_more s s' r r' rows rows' row call reply room lasting space space' space'' h es er erows there there' free small = (
    let ls : length s' ≡ length s + length (choosing_in call) = ap length es ∙ length-append s (choosing_in call) in
    let lr : length r' ≡ length r + length (served_by reply) = ap length er ∙ length-append r (served_by reply) in
    let lrows : length rows' ≡ length rows + 1 = ap length erows ∙ length-append rows (row ∷ []) in
    let more : length s ≤ length s' = omega (arith, ls) in
    let more' : length r ≤ length r' = omega (arith, lr) in
    let before : All (IsIn (length s') (length r')) rows = λ i d l. (let x = h.named i d l in record { call = call_in_more (length s) (length s') (get_or rows i d).call (get_or rows i d).call_word more x.call; reply = reply_in_more (length r) (length r') (get_or rows i d).reply (get_or rows i d).reply_word more' x.reply }) in
    let last : All (IsIn (length s') (length r')) (row ∷ []) = only (IsIn (length s') (length r')) row (record { call = there; reply = there' }) in
    record {
      named = rw erows (All-append (IsIn (length s') (length r')) rows (row ∷ []) before last);
      few = omega (arith, lrows, free, small);
      few_choosings = omega (arith, ls, lrows, few_choosings call, h.few_choosings);
      few_served = omega (arith, lr, lrows, few_served reply, h.few_served);
      lasts = h.lasts;
      choosings_last = h.choosings_last;
      served_last = h.served_last;
      rows_room = h.rows_room;
      choosings_room = omega (arith, ls, lrows, few_choosings call, h.choosings_room);
      served_room = omega (arith, lr, lrows, few_served reply, h.served_room);
    })

-- the entry at a place
pub got : (s : List Choosing) (r : List Served) (rows : List Row) (i : ℕ) (row : Row) (call : Call) (reply : Reply)
    → slice_get rows i ≡ Some row → call ≡ call_of s row.call row.call_number row.call_word → reply ≡ reply_of r row.reply row.reply_small row.reply_number row.reply_word
    → Some (record { m = row.m; k = row.k; call = call; reply = reply }) ≡ slice_get (entries_of s r rows) i
got s r rows i row call reply at ecall ereply = rw (slice_get-map (entry_of s r) rows i, at, ecall, ereply) refl

pub got_none : (s : List Choosing) (r : List Served) (rows : List Row) (i : ℕ) → slice_get rows i ≡ None → None ≡ slice_get (entries_of s r rows) i
got_none s r rows i at = rw (slice_get-map (entry_of s r) rows i, at) refl
