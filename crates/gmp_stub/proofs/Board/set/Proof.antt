-- `set` sets the two halves of a row. Assumes `Logic`.
use Rattle.std.proofs.Common.{◌≡◌, ℕ, List, [], ◌∷◌, slice_get, slice_set, Some, refl, sym}
use mir.Syntax.{a_type, named}
use mir.Val.{Val, vptr, vunit}
use mir.MapTy.{inst_fn}
use base.Logic.{SProp, emp}
use base.Fml.{ftrue, fsep, flft}
use types.Kit.{‵, raw, ◌⊛◌, given, later, ◌$◌, ◌∵◌, !, qed, by, move, keep, drop, split, join, fsplit, fsplit3, fjoin, fjoin3, learn, use0, use2, await, rewrite, feq_i}
use types.Run.{unit_lit, of_opd, returns, enter}
use types.ByLocal.{alloc_all, pass_all, free_all, look_at, sets}
use contract.Monad.{fact, fact_i}
use contract.Running.{tables}
use denote.Exit.{yes}
use denote.RattleType.{RattleType, owns}
use denote.Signature.{types_at, plain}
use denote.Builtin.{RefOf}
use denote.Ref.{mut_vals, mut_Tells, shr_vals, shr_Tells}
use denote.Steps.{nothing, opens, closes}
use denote.Param.{param, layouts}
use denote.Triple.Walked.{Stays, stay_dropped, stay_ref, walk_of, Goes-dropped, Goes-ref}
use Rattle.std.proofs.raw_atomic.Walks.{proved, leaves}
use Rattle.gmp_stub.specs.Boards.{IsSet}
use Rattle.gmp_stub.specs.Rows.{board_owns, stub_owns}
use Rattle.gmp_stub.specs.contracts.Board as Board
use Rattle.gmp_stub.specs.contracts.Stub as Stub
use Rattle.gmp_stub.proofs.Steps as steps
use Rattle.gmp_stub.specs.contracts.Board.set.{ended, clauses}
use Rattle.gmp_stub.specs.contracts.Board.set.Key.{name as #self}
use Rattle.gmp_stub.proofs.Board.set.Statement.{statement}
use Rattle.gmp_stub.proofs.Board.set.Code as code

pub set_spec : {M : Type 1} → statement M
set_spec 𝓤 𝓛 𝓜 𝓡 wired X LX =
    let H = 𝓛.H in let 𝓣 = tables 𝓤 H 𝓜 𝓡 𝓡.env in let X' : RattleType = param 0 X in let En = ended X in let inst = layouts (a_type ∷ []) (X, tt) in let fn = inst_fn inst code.function in let c = clauses X 𝓛 𝓜.mem 𝓡.returns in
    let Bd : RattleType = Board.the_row X' in let St : RattleType = Stub.the_row X' in let cd = X'.coded.code in
    let hs : Stays En.signature.params En.kept = (stay_ref (0 ∷ []) tt (plain (λ _. Bd)), (stay_ref (1 ∷ []) tt (plain (λ _. St)), (stay_dropped (RefOf (2 ∷ []) tt (plain (λ _. X')) (λ _. tt)) yes, tt))) in
    proved 𝓛 En hs c 𝓜 𝓡 (Goes-ref 𝓛 4 0 tt (plain (λ _. Bd)), (Goes-ref 𝓛 4 1 tt (plain (λ _. St)), (Goes-dropped 𝓛 4 (RefOf (2 ∷ []) tt (plain (λ _. X')) (λ _. tt)) yes (λ κs x f. refl), tt))) (#self inst) fn (code.unfolded 𝓤 H 𝓜 𝓡 wired (X, tt))
    (λ κs. (mut_vals, (mut_vals, (shr_vals, tt)))) (λ κs. (mut_Tells (named 0) κs.0 Bd, (mut_Tells (named 1) κs.1.0 St, (shr_Tells (named 2) κs.1.1.0 X', tt)))) (λ κs qs bounds a gh are.
    let b : ℕ = a.0.ref_ptr.0 in let o : ℕ = a.0.ref_ptr.1 in let b' : ℕ = a.1.0.ref_ptr.0 in let o' : ℕ = a.1.0.ref_ptr.1 in
    let u : Val = vptr b o in let u' : Val = vptr b' o' in let w : Val = vptr a.1.1.0.ref_ptr.0 a.1.1.0.ref_ptr.1 in
    let h : Bd.Denot = a.0.now in let s : St.Denot = a.1.0.now in let v : X'.Denot = a.1.1.0.now in
    let h' : Bd.Denot = record { marker = h.marker; name = h.name; values = slice_set h.values s.at v } in let s' : St.Denot = record { marker = s.marker; name = s.name; at = s.at; value = v } in
    let Had : Type 0 = slice_get h.values s.at ≡ Some s.value in
    let Told : Type 0 = IsSet h h' s s' v in
    let y : (walk_of 𝓛 En hs c).Ghost = ((κs, qs, bounds, a, (u ∷ [], (u' ∷ [], (w ∷ [], tt)))), gh) in let Post : Val → SProp 𝓤 = (walk_of 𝓛 En hs c).post y in
    qed 𝓛 (((‵ (flft κs.0 qs.0) ⊛ ‵ (flft κs.1.0 qs.1.0) ⊛ ‵ (fsep (flft κs.1.1.0 qs.1.1.0) (fsep (flft κs.1.1.1.0 qs.1.1.1.0) ftrue))) ⊛ ‵ (owns (types_at En.signature.params κs) a y.0.4)) ∷ raw (fact 𝓤 _) ∷ given (s.name ≡ h.name) (‵ ftrue) ∷ []) ∵
    move ! (2 ∷ []) $ learn ! (λ same. drop ! $ keep ! (0 ∷ []) $ split ! $ move ! (1 ∷ []) $ fsplit ! $ fsplit3 ! $ move ! (3 ∷ []) $ fsplit ! $ fsplit3 ! $ move ! (7 ∷ []) $ split ! $ move ! (1 ∷ []) $ split ! $ keep ! (8 ∷ 9 ∷ 2 ∷ 4 ∷ 5 ∷ 0 ∷ 1 ∷ []) $
    -- [two parts of self; its token; two parts of the stub; its token; the other tokens]
    enter ! 𝓣.C 𝓣.Λ fn (u ∷ u' ∷ w ∷ []) Post $ alloc_all ! (λ l. pass_all ! refl ((tt, tt), ((tt, tt), ((tt, tt), tt))) $ opens ! tt Bd b o (λ cs. move ! (5 ∷ 6 ∷ 7 ∷ []) $ opens ! tt St b' o' (λ ds.
    move ! (1 ∷ []) $ fsplit ! $ move ! (7 ∷ []) $ fsplit ! $ move ! (1 ∷ 3 ∷ []) $ rewrite ! 1 (λ (j : ℕ). ‵ (stub_owns cd j s.at s.value)) same refl $
    use2 𝓛 (later (given Had (‵ (board_owns cd h.name h'.values) ⊛ ‵ (stub_owns cd h.name s.at v)))) (steps.sets 𝓛 X'.coded h.name h.values s.at s.value v) $ await ! tt $ learn ! (λ had. split ! $
    rewrite ! 1 (λ (j : ℕ). ‵ (stub_owns cd j s.at v)) (sym same) refl $ move ! (2 ∷ 0 ∷ []) $ fjoin ! $ move ! (2 ∷ 1 ∷ []) $ fjoin ! $
    move ! (2 ∷ 0 ∷ 3 ∷ 4 ∷ 5 ∷ []) $ closes ! tt St s' ds b' o' $ move ! (4 ∷ 3 ∷ 5 ∷ 6 ∷ 7 ∷ []) $ closes ! tt Bd h' cs b o $
    sets ! (of_opd ! (unit_lit !)) refl (tt, tt) $
    feq_i ! (List Val) (u ∷ []) (u ∷ []) refl $ fjoin3 ! $ move ! (2 ∷ 3 ∷ []) $ feq_i ! (List Val) (u' ∷ []) (u' ∷ []) refl $ fjoin3 ! $ nothing ! $ nothing ! $ fjoin ! $ move ! (1 ∷ 0 ∷ []) $ fjoin ! $ move ! (1 ∷ 0 ∷ []) $ fjoin ! $
    -- [the parameters; self's token; the stub's token; the other tokens]
    move ! (2 ∷ 3 ∷ []) $ join ! $ move ! (2 ∷ 0 ∷ []) $ join ! $
    feq_i ! (List Val) (vunit ∷ []) (vunit ∷ []) refl $ use0 𝓛 (raw (fact 𝓤 Told)) (fact_i 𝓤 Told (emp 𝓤) (record { agreed = had; name = refl; values = refl; stub_name = refl; stub_at = refl; stub_value = refl })) $
    returns ! (look_at ! 0 refl) $ free_all ! refl $ keep ! (2 ∷ 3 ∷ 1 ∷ 0 ∷ []) $ by ! (leaves 𝓛 En hs c y vunit tt (h', (s', (tt, tt))) (tt, (tt, (tt, tt))))))))))
