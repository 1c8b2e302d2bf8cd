-- `add` adds a row at the end of the chain. Assumes `Logic`.
use Rattle.std.proofs.Common.{ℕ, List, [], ◌∷◌, ◌++◌, length, refl}
use mir.Syntax.{a_type, named}
use mir.Val.{Val, vptr}
use mir.MapTy.{inst_fn}
use base.Logic.{SProp, emp}
use base.Fml.{ftrue, fsep, flft}
use types.Kit.{‵, raw, ◌⊛◌, later, ◌$◌, ◌∵◌, !, qed, by, move, keep, split, join, fsplit, fsplit3, fjoin, fjoin3, use0, use1, await, feq_i}
use types.Run.{no_more, and_then, returns, enter}
use types.ByLocal.{alloc_all, pass_all, free_all, look_at, get, sets}
use types.Part.{agg}
use contract.Monad.{fact, fact_i}
use contract.Running.{tables}
use denote.Exit.{yes}
use denote.RattleType.{RattleType, owns}
use denote.Signature.{types_at, plain}
use denote.Builtin.{RefOf}
use denote.Ref.{mut_vals, mut_Tells, shr_vals, shr_Tells}
use denote.Steps.{nothing, opens, closes}
use denote.Param.{param, layouts}
use denote.Triple.Walked.{Stays, stay_dropped, stay_ref, walk_of, Goes-dropped, Goes-ref}
use Rattle.std.proofs.raw_atomic.Walks.{proved, leaves}
use Rattle.gmp_stub.specs.Boards.{IsAdded}
use Rattle.gmp_stub.specs.Rows.{board_owns, stub_owns}
use Rattle.gmp_stub.specs.contracts.Board as Board
use Rattle.gmp_stub.specs.contracts.Stub as Stub
use Rattle.gmp_stub.proofs.Steps as steps
use Rattle.gmp_stub.proofs.Fields.{token, Token, token_made}
use Rattle.gmp_stub.specs.contracts.Board.add.{ended, clauses}
use Rattle.gmp_stub.specs.contracts.Board.add.Key.{name as #self}
use Rattle.gmp_stub.proofs.Board.add.Statement.{statement}
use Rattle.gmp_stub.proofs.Board.add.Code as code

pub add_spec : {M : Type 1} → statement M
add_spec 𝓤 𝓛 𝓜 𝓡 wired X LX =
    let H = 𝓛.H in let 𝓣 = tables 𝓤 H 𝓜 𝓡 𝓡.env in let X' : RattleType = param 0 X in let En = ended X in let inst = layouts (a_type ∷ []) (X, tt) in let fn = inst_fn inst code.function in let c = clauses X 𝓛 𝓜.mem 𝓡.returns in
    let Bd : RattleType = Board.the_row X' in let cd = X'.coded.code in
    let hs : Stays En.signature.params En.kept = (stay_ref (0 ∷ []) tt (plain (λ _. Bd)), (stay_dropped (RefOf (1 ∷ []) tt (plain (λ _. X')) (λ _. tt)) yes, tt)) in
    proved 𝓛 En hs c 𝓜 𝓡 (Goes-ref 𝓛 3 0 tt (plain (λ _. Bd)), (Goes-dropped 𝓛 3 (RefOf (1 ∷ []) tt (plain (λ _. X')) (λ _. tt)) yes (λ κs x f. refl), tt)) (#self inst) fn (code.unfolded 𝓤 H 𝓜 𝓡 wired (X, tt))
    (λ κs. (mut_vals, (shr_vals, tt))) (λ κs. (mut_Tells (named 0) κs.0 Bd, (shr_Tells (named 1) κs.1.0 X', tt))) (λ κs qs bounds a gh are.
    let b : ℕ = a.0.ref_ptr.0 in let o : ℕ = a.0.ref_ptr.1 in let u : Val = vptr b o in let w : Val = vptr a.1.0.ref_ptr.0 a.1.0.ref_ptr.1 in
    let h : Bd.Denot = a.0.now in let v : X'.Denot = a.1.0.now in let h' : Bd.Denot = record { marker = h.marker; name = h.name; values = h.values ++ v ∷ [] } in
    let r : (Stub.the_row X').Denot = record { marker = record {}; name = h.name; at = length h.values; value = v } in
    let Told : Type 0 = IsAdded h h' r v in
    let y : (walk_of 𝓛 En hs c).Ghost = ((κs, qs, bounds, a, (u ∷ [], (w ∷ [], tt))), gh) in let Post : Val → SProp 𝓤 = (walk_of 𝓛 En hs c).post y in
    qed 𝓛 (((‵ (flft κs.0 qs.0) ⊛ ‵ (fsep (flft κs.1.0 qs.1.0) (fsep (flft κs.1.1.0 qs.1.1.0) ftrue))) ⊛ ‵ (owns (types_at En.signature.params κs) a y.0.4)) ∷ raw ((c κs a).requires gh) ∷ []) ∵
    keep ! (0 ∷ []) $ split ! $ split ! $ move ! (2 ∷ []) $ fsplit ! $ fsplit3 ! $ keep ! (1 ∷ 2 ∷ 4 ∷ 5 ∷ []) $
    -- [two parts of self; its token; the other tokens]
    enter ! 𝓣.C 𝓣.Λ fn (u ∷ w ∷ []) Post $ alloc_all ! (λ l. pass_all ! refl ((tt, tt), ((tt, tt), tt)) $ opens ! tt Bd b o (λ ts. move ! (1 ∷ []) $ fsplit ! $ move ! (1 ∷ []) $
    use1 𝓛 (later (‵ (board_owns cd h.name h'.values) ⊛ ‵ (stub_owns cd h.name (length h.values) v))) (steps.adds 𝓛 X'.coded h.name h.values v) $ await ! tt $ split ! $ move ! (2 ∷ 0 ∷ []) $ fjoin ! $
    -- [the board; its stub; the cell; the open borrow, in three entries; tokens]
    move ! (2 ∷ 0 ∷ 3 ∷ 4 ∷ 5 ∷ []) $ closes ! tt Bd h' ts b o $ feq_i ! (List Val) (u ∷ []) (u ∷ []) refl $ fjoin3 ! $
    -- [self; its token; the stub; tokens]
    nothing ! $ nothing ! $ fjoin ! $ move ! (1 ∷ 0 ∷ []) $ fjoin ! $ move ! (1 ∷ 3 ∷ []) $ join ! $
    -- [all tokens; the parameters; the stub]
    move ! (2 ∷ []) $ use0 𝓛 (‵ ((Token X').own_val (record {}, tt) (token ∷ []))) (token_made X' 𝓛) $ fjoin ! $ sets ! (agg ! (no_more !)) refl (tt, tt) $ sets ! (agg ! (and_then ! (get ! refl) (no_more !))) refl (tt, (tt, tt)) $
    use0 𝓛 (raw (fact 𝓤 Told)) (fact_i 𝓤 Told (emp 𝓤) (record { name = refl; values = refl; stub_name = refl; stub_at = refl; stub_value = refl })) $
    returns ! (look_at ! 0 refl) $ free_all ! refl $ keep ! (2 ∷ 3 ∷ 1 ∷ 0 ∷ []) $ by ! (leaves 𝓛 En hs c y token r (h', (tt, tt)) (tt, (tt, tt))))))
