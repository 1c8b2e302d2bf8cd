-- A body asks in one way.
use Rattle.std.proofs.Common.{◌≡◌, ℕ, List, sym, ap, ◌∙◌}
use Rattle.gmp_base.specs.declared.ask.Ask.{Ask}
use Rattle.gmp_script.specs.declared.commands.Command.{Command}
use Rattle.gmp_script.specs.Script.{AsksNext, Commands}

-- it is its commands, and the place of the next one
body_is : (b c : Commands) → b.commands ≡ c.commands → b.next ≡ c.next → b ≡ c
body_is b c commands next =
    let by_next : ℕ → Commands = λ n. record { commands = b.commands; next = n } in
    let by_list : List Command → Commands = λ l. record { commands = l; next = c.next } in
    ap by_next next ∙ ap by_list commands

-- one ask is next, and one body is behind it
pub next_once : (before : Commands) (a b : Ask) (x y : Commands) → AsksNext before a x → AsksNext before b y → (a ≡ b) × (x ≡ y)
next_once before a b x y p q = (p.asks ∙ sym q.asks, body_is x y (p.same ∙ sym q.same) (p.goes ∙ sym q.goes))
