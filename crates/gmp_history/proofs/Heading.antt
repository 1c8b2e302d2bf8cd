-- The head of a row is that of its entry; the entry behind the first n.
use Rattle.std.proofs.Common.{◌≡◌, ℕ, zero, suc, ◌<◌, List, [], ◌∷◌, ◌++◌, Option, None, Some, get_or, length, take, refl, sym, ap, ◌∙◌, arith}
use Rattle.std.specs.Prelude.{map, slice_get}
use Rattle.gmp_seq.specs.declared.call.Entry.{Entry}
use Rattle.gmp_history.specs.declared.brief.CallKind.{CallKind}
use Rattle.gmp_history.specs.declared.brief.CallKind.TheVariants as kind
use Rattle.gmp_history.specs.declared.brief.Choosing.{Choosing}
use Rattle.gmp_history.specs.declared.brief.Row.{Row}
use Rattle.gmp_history.specs.declared.brief.Served.{Served}
use Rattle.gmp_history.specs.declared.heads.Head.{Head}
use Rattle.gmp_history.specs.Brief.{call_of, entries_of, entry_of, row_head, select_of}
use Rattle.gmp_history.specs.Heads.{head_of, kind_of}

select_kept : (x : Option Choosing) → kind_of (select_of x) ≡ kind.Select
select_kept None = refl
select_kept (Some x) = refl

kind_kept : (s : List Choosing) (b : CallKind) (number word : ℕ) → kind_of (call_of s b number word) ≡ b
kind_kept s kind.Select number word = select_kept (slice_get s word)
kind_kept s b number word = refl

pub heads_kept : (s : List Choosing) (r : List Served) (rows : List Row) → map row_head rows ≡ map head_of (entries_of s r rows)
heads_kept s r [] = refl
heads_kept s r (x ∷ rows) =
    let rest : map row_head rows ≡ map head_of (entries_of s r rows) = heads_kept s r rows in
    ap (λ (k : CallKind). record { m = x.m; call = k } ∷ map row_head rows) (sym (kind_kept s x.call x.call_number x.call_word))
    ∙ ap (λ (l : List Head). head_of (entry_of s r x) ∷ l) rest

-- the entry whose head comes behind those of the first n
pub record Next (list : List Entry) (n : ℕ) (h : Head) : Type 0 where
  pub entry : Entry
  pub more : take (suc n) list ≡ take n list ++ entry ∷ []
  pub own : head_of entry ≡ h

pub next_entry : (list : List Entry) (n : ℕ) (h : Head) → n < length (map head_of list) → h ≡ get_or (map head_of list) n h → Next list n h
next_entry [] n h lt is = absurd (omega arith)
next_entry (e ∷ list) zero h lt is = record { entry = e; more = refl; own = sym is }
next_entry (e ∷ list) (suc n) h lt is =
    let p = next_entry list n h (omega arith) is in
    record { entry = p.entry; more = ap (λ (l : List Entry). e ∷ l) p.more; own = p.own }
