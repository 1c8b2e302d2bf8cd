use Rattle.std.proofs.Common.{◌≡◌, [], subst, sym, arith}
use Rattle.std.specs.Global.{Vec}
use Rattle.std.specs.List.{AllZip}
use Rattle.std.proofs.lemmas.List.Elements.{All-weaker}
use Rattle.gmp_queue.specs.declared.ends.Thief.{Thief}
use Rattle.gmp_queue.specs.Opened.{IsFreshThiefOf}
use Rattle.gmp_queue.proofs.opening.rows.Goals as goal

no_thief : (row : Vec Thief) → row.items ≡ [] → AllZip IsFreshThiefOf [] row.items
no_thief row e = subst (AllZip IsFreshThiefOf []) (sym e) tt

pub returns : goal.returns
returns c = ((let i = c.loop.invariant in omega arith), All-weaker (λ (row : Vec Thief). row.items ≡ []) (λ (row : Vec Thief). AllZip IsFreshThiefOf [] row.items) no_thief c.loop.rows.items c.loop.invariant.1)
