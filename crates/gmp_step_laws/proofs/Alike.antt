-- Where the scheduler leaves a choice, what is fixed fixes the reply, and who is on the shelf.
use Rattle.std.proofs.Common.{◌≡◌, ℕ, Option, None, Some, List, ◌∷◌, ◌++◌, sym, ap, ◌∙◌}
use Rattle.gmp_base.specs.declared.number.GNo.{GNo}
use Rattle.gmp_base.specs.declared.number.MNo.{MNo}
use Rattle.gmp_base.specs.declared.number.PNo.{PNo}
use Rattle.gmp_goroutines.specs.Shelf.{Shelves, WokenLast}
use Rattle.gmp_journal.specs.Grants.{Chooses}
use Rattle.gmp_seq.specs.declared.call.Call.{Call}
use Rattle.gmp_seq.specs.declared.call.Call.TheVariants as call
use Rattle.gmp_seq.specs.declared.call.Limits.{Limits}
use Rattle.gmp_seq.specs.declared.call.Reply.{Reply}
use Rattle.gmp_seq.specs.declared.call.Reply.TheVariants as reply
use Rattle.gmp_seq.specs.Laws.{FitsTogether}
use Rattle.gmp_seq.specs.State.{State}
use Rattle.gmp_seq.specs.Table.{Table}
use Rattle.gmp_table.specs.declared.wake.Wake.{Wake}
use Rattle.gmp_table.specs.declared.wake.Wake.TheVariants as wake
use Rattle.gmp_step_laws.proofs.WakeOrders.{wakes_one_way}

-- what two replies to one call have alike, where the scheduler leaves a choice
abbrev pub AreAlike : Call → Reply → Reply → Type 0
AreAlike call.Acquire (reply.Proc p) (reply.Proc q) = p ≡ q
AreAlike call.Take (reply.Ticket r) (reply.Ticket t) = r.g ≡ t.g
AreAlike call.Spawn (reply.Ticket r) (reply.Ticket t) = r.g ≡ t.g
AreAlike (call.Leave number) (reply.Runs p) (reply.Runs q) = p ≡ q
AreAlike call.Enter (reply.Entered p (Some n)) (reply.Entered q (Some o)) = n ≡ o
AreAlike call.Poke (reply.Wakes n) (reply.Wakes o) = n ≡ o
AreAlike (call.Select cases has_default until) (reply.Chose i told) (reply.Chose j too) = i ≡ j
AreAlike _ answer too = Unit {0}

same_number : (o : Option ℕ) (a b : ℕ) → o ≡ Some a → o ≡ Some b → a ≡ b
same_number o a b one two = let e : Some a ≡ Some b = sym one ∙ two in let same : a ≡ b = cc in same

pub alike : (c : Call) (word : ℕ) (answer too : Reply) (s : State) (shelf : List GNo) → Chooses c word answer s shelf → Chooses c word too s shelf → AreAlike c answer too
alike call.Acquire word (reply.Proc p) (reply.Proc q) s shelf h k = ap (λ (n : ℕ). let p : PNo = record { 0 = n } in p) (same_number _ p.0 q.0 h k)
alike call.Acquire word (reply.Proc p) too s shelf h k = tt
alike call.Acquire word answer too s shelf h k = tt
alike call.Take word (reply.Ticket r) (reply.Ticket t) s shelf h k = let e : Some r.g ≡ Some t.g = sym h ∙ k in let same : r.g ≡ t.g = cc in same
alike call.Take word (reply.Ticket r) too s shelf h k = tt
alike call.Take word answer too s shelf h k = tt
alike call.Spawn word (reply.Ticket r) (reply.Ticket t) s shelf h k = ap (λ (n : ℕ). let g : GNo = record { 0 = n } in g) (same_number _ r.g.0 t.g.0 h k)
alike call.Spawn word (reply.Ticket r) too s shelf h k = tt
alike call.Spawn word answer too s shelf h k = tt
alike (call.Leave number) word (reply.Runs p) (reply.Runs q) s shelf h k = ap (λ (n : ℕ). let p : PNo = record { 0 = n } in p) (same_number _ p.0 q.0 h k)
alike (call.Leave number) word (reply.Runs p) too s shelf h k = tt
alike (call.Leave number) word answer too s shelf h k = tt
alike call.Enter word (reply.Entered p (Some n)) (reply.Entered q (Some o)) s shelf h k = ap (λ (n : ℕ). let m : MNo = record { 0 = n } in m) (same_number _ n.0 o.0 h k)
alike call.Enter word (reply.Entered p (Some n)) too s shelf h k = tt
alike call.Enter word answer too s shelf h k = tt
alike call.Poke word (reply.Wakes n) (reply.Wakes o) s shelf h k = ap (λ (n : ℕ). let m : MNo = record { 0 = n } in m) (same_number _ n.0 o.0 h k)
alike call.Poke word (reply.Wakes n) too s shelf h k = tt
alike call.Poke word answer too s shelf h k = tt
alike (call.Select cases has_default until) word (reply.Chose i told) (reply.Chose j too) s shelf h k = same_number _ i j h k
alike (call.Select cases has_default until) word (reply.Chose i told) too s shelf h k = tt
alike (call.Select cases has_default until) word answer too s shelf h k = tt
alike c word answer too s shelf h k = tt

-- The shelf

woken_once : (limits : Limits) (s : State) → FitsTogether limits s → (why : Wake) (old a b : List GNo) → WokenLast why s.table old a → WokenLast why s.table old b → a ≡ b
woken_once limits s together why old a b (gs, order, is) (hs, order_too, is_too) =
    is ∙ ap (λ (l : List GNo). old ++ l) (wakes_one_way limits s together why gs hs order order_too) ∙ sym is_too

-- a call does one thing to the shelf
pub shelf_fixed : (limits : Limits) (s : State) → FitsTogether limits s → (c : Call) (answer : Reply) (now : Table) (old a b : List GNo) → Shelves c answer s.table now old a
    → Shelves c answer s.table now old b → a ≡ b
shelf_fixed limits s together call.Take (reply.Ticket r) now old a b h k = let e : r.g ∷ a ≡ r.g ∷ b = sym h ∙ k in let same : a ≡ b = cc in same
shelf_fixed limits s together call.Take reply.Nothing now old a b h k = h.1 ∙ sym k.1
shelf_fixed limits s together call.Take _ now old a b h k = h ∙ sym k
shelf_fixed limits s together (call.Put r) answer now old a b h k = h ∙ sym k
shelf_fixed limits s together call.Yield (reply.Shelved r) now old a b h k = h ∙ sym k
shelf_fixed limits s together call.Yield _ now old a b h k = h ∙ sym k
shelf_fixed limits s together (call.Leave number) (reply.Shelved r) now old a b h k = h ∙ sym k
shelf_fixed limits s together (call.Leave number) _ now old a b h k = h ∙ sym k
shelf_fixed limits s together (call.Close (Some c)) (reply.Closed n) now old a b h k = woken_once limits s together (wake.Closed c) old a b h k
shelf_fixed limits s together (call.Close (Some c)) _ now old a b h k = h ∙ sym k
shelf_fixed limits s together (call.Close None) answer now old a b h k = h ∙ sym k
shelf_fixed limits s together (call.Tick moment) answer now old a b h k = woken_once limits s together (wake.Due now.clock) old a b h k
shelf_fixed limits s together _ answer now old a b h k = h ∙ sym k
