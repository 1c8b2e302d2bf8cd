-- `get` lends what the box holds, and the parts follow it.
use Rattle.std.proofs.Common.{◌≡◌, ℕ, List, [], ◌∷◌, ◌++◌, refl, sym, ap, subst}
use seplogic.Ra.Ura.{Ura}
use base.Fraction.{full_share}
use mir.Syntax.{Fn, named}
use mir.Raw.{raw as bare}
use mir.Val.{Val, vptr, vstruct, vcons, vnil, of_list}
use base.Logic.{SProp, ent, sep, emp, never, via, fst∗}
use base.Fml.{Lft, GName, Share, Fml, ftrue, flft, fsep}
use prog.Memory.{Memory}
use prog.Routine.{Routine}
use prog.Wp.{Env, Calls, Loops, WpFn}
use types.Logic.{Logic, sem}
use types.Kit.{‵, ◌⊛◌, some, at_ret, ◌$◌, ◌∵◌, !, qed, by, move, keep, use1, drop, split, join, pick, fsplit, fsplit3, fjoin, fpick, suffices, frame, done, raw, later, await, group, fpack, feq_l, feq_i, rewrite}
use types.Part.{whole, sub, look_in}
use types.Run.{stop, fld, load, of_opd, first, blocks, exec, returns, enter, addr}
use types.ByLocal.{alloc_all, pass_all, free_all, look_at, get, through, sets, env, sets_last}
use contract.Monad.{Fun}
use contract.Running.{tables}
use denote.Exit.{no}
use denote.RattleType.{RattleType, Valss, owns}
use denote.Builtin.{RawPtr}
use denote.Memory.{part_at, mem, cell_at, part_of, lone}
use denote.RawPtr.{Ptr, block_ptr, null_ptr, ptr_val, in_a_block}
use denote.Ref.{MutRef, mut_vals, mut_Tells}
use denote.Signature.{plain, mut_ref_to}
use denote.Steps.{nothing, opens}
use denote.Struct.Struct.{within}
use denote.Struct.Owning.{shape}
use denote.Follow.{follows, Part, lends_Part}
use denote.Triple.Clauses.{Clauses}
use denote.Triple.Entry.{on_entry}
use denote.Triple.Walked.{says, Stays, stay_dropped, walk_of, ends_at, Goes-spent_ref}
use Rattle.std_alloc.proofs.VecSteps.Shapes.{after}
use Rattle.std.specs.contracts.impls.GlobalAllocator.TheImpl.{ghosts}
use Rattle.std.specs.Box.Ownership.{box_owns}
use Rattle.std.proofs.raw_atomic.Walks.{proved}
use Rattle.gmp_stand.specs.Parting.{Parting}
use Rattle.gmp_c.specs.declared.parts.Parts.{Parts}
use Rattle.gmp_stand.specs.contracts.parting.PartText as piece_text
use Rattle.gmp_c.specs.contracts.parts.Parts as parts
use Rattle.gmp_c.specs.Keeping.{with_parting}
use Rattle.gmp_c.specs.contracts.parts.Parts.get as F
use Rattle.gmp_c.specs.contracts.parts.Parts.get.Key.{name as #self}
use Rattle.gmp_c.proofs.parts.Parts.get.Statement.{statement}
use Rattle.gmp_c.proofs.parts.Parts.get.Code as code

abbrev R : RattleType
R = piece_text.the_row

abbrev B : RattleType
B = parts.the_row

abbrev fn : Fn
fn = code.function

abbrev word : ℕ → ℕ → Val
word b o = vstruct (vcons (vptr b o) vnil)

abbrev stayed : Stays F.ended.signature.params F.ended.kept
stayed = (stay_dropped (mut_ref_to (0 ∷ []) tt (plain (λ _. B))) no, tt)

module _ {M : Type 1} {𝓤 : Ura M} (𝓛 : Logic 𝓤) (at_mem : Memory → SProp 𝓤) (run : Routine → Fun 𝓤) (κ : Lft) (q : Share) (rb ro : ℕ) (γ : GName) (h : Parts) where
  open 𝓛 use {H, A}

  abbrev spec : Clauses 𝓤 F.ended
  spec = F.clauses 𝓛 at_mem run

  abbrev bound : (walk_of 𝓛 F.ended stayed spec).Ghost
  bound = (((κ, tt), (q, tt), tt, (record { ref_ptr = (rb, ro); ghost_name = γ; now = h }, tt), (vptr rb ro ∷ [], tt)), tt)

  abbrev Post : Val → SProp 𝓤
  Post = (walk_of 𝓛 F.ended stayed spec).post bound

  abbrev token : Ptr → Fml
  token p = ghosts.dealloc_token h.alloc (bare (lone R.mir)) p

  module _ (b o : ℕ) where
    -- all of the handle but what its box holds
    abbrev Rest : Fml
    Rest = fsep (token (block_ptr b o)) (cell_at full_share B.mir (word b o ∷ []) rb ro)

    back : h.at ≡ block_ptr b o → (w : Parting) → ent 𝓤 (sep 𝓤 (sem 𝓛 ((mem R).own_at w b o)) (sem 𝓛 Rest)) (sem 𝓛 ((mem B).own_at (with_parting h w) rb ro))
    unfolding part_of
    back e w =
        qed 𝓛 (‵ (part_at R full_share w b o) ∷ ‵ Rest ∷ []) ∵ move ! (1 ∷ []) $ fsplit ! $ move ! (2 ∷ 0 ∷ []) $ fjoin ! $
        rewrite ! 0 (λ (p : Ptr). ‵ (box_owns (ghosts.dealloc_token h.alloc) R p w)) (sym e) refl $
        nothing ! $ feq_i ! (List Val) (vptr b o ∷ []) (ptr_val h.at ∷ []) (ap (λ (p : Ptr). ptr_val p ∷ []) (sym e)) $ fjoin ! $
        feq_i ! (List Val) (word b o ∷ []) (word b o ∷ []) refl $ fjoin ! $
        fpack ! (Valss (RawPtr ∷ [])) (within (shape parts.the_type) (h.at, tt) (word b o ∷ [])) (vptr b o ∷ [], tt) $ fjoin ! $
        move ! (1 ∷ 0 ∷ []) $ fjoin ! $
        fpack ! (List Val) (λ us. fsep (cell_at full_share B.mir us rb ro) (B.own_val (with_parting h w) us)) (word b o ∷ []) $ done !

    exits : (γ' : GName)
        → ent 𝓤 (sep 𝓤 (sem 𝓛 ((MutRef (named 0) κ R).own_val (record { ref_ptr = (b, o); ghost_name = γ'; now = h.value }) (vptr b o ∷ []))) (sep 𝓤 (A.lft κ q) (sem 𝓛 (follows B R γ γ' (with_parting h))))) (Post (vptr b o))
    exits γ' =
        qed 𝓛 (‵ ((MutRef (named 0) κ R).own_val (record { ref_ptr = (b, o); ghost_name = γ'; now = h.value }) (vptr b o ∷ [])) ∷ ‵ (flft κ q) ∷ ‵ (follows B R γ γ' (with_parting h)) ∷ []) ∵
        suffices ! _ (ends_at 𝓛 F.ended stayed spec bound (vptr b o) (record { ref_ptr = (b, o); ghost_name = γ'; now = h.value }) (tt, tt) (tt, tt)) $
        nothing ! $ nothing ! $ fjoin ! $ join ! $ nothing ! $ move ! (2 ∷ 0 ∷ []) $ join ! $ join ! $ frame ! $ says ! refl $ done !

  module _ (C : Calls 𝓤 H) (Λ : Loops 𝓤 H) where
    walk : ent 𝓤 (on_entry 𝓛 F.ended.signature (κ, tt) (q, tt) (record { ref_ptr = (rb, ro); ghost_name = γ; now = h }, tt) (vptr rb ro ∷ [], tt)) (WpFn 𝓤 H C Λ fn (vptr rb ro ∷ []) Post)
    walk =
        qed 𝓛 ((‵ (flft κ q) ⊛ ‵ ftrue) ∷ ‵ (owns (MutRef (named 0) κ B ∷ []) (record { ref_ptr = (rb, ro); ghost_name = γ; now = h }, tt) (vptr rb ro ∷ [], tt)) ∷ []) ∵
        enter ! C Λ fn (vptr rb ro ∷ []) _ $
        alloc_all ! (λ l. pass_all ! refl ((tt, tt), tt) $
        let En : Env 𝓤 H = env fn.locals l in
        move ! (1 ∷ []) $ fsplit ! $ fsplit3 ! $ drop ! $ move ! (3 ∷ []) $ split ! $ move ! (2 ∷ 3 ∷ 0 ∷ []) $
        opens ! tt B {h = h} rb ro (λ vs. move ! (1 ∷ []) $ fsplit ! $ fpick ! (λ vss. fsplit ! $ feq_l ! (λ ev. fsplit ! $ feq_l ! (λ ep. drop ! $
        in_a_block ! h.at (λ p. box_owns (ghosts.dealloc_token h.alloc) R p h.value) (fst∗ 𝓤 (never 𝓤) (sem 𝓛 (token null_ptr))) (λ b o e. fsplit ! $
        let ws : vs ≡ word b o ∷ [] = subst (λ (p : Ptr). vs ≡ vstruct (of_list (ptr_val p ∷ [])) ∷ []) e (subst (λ (ps : List Val). vs ≡ vstruct (of_list (ps ++ [])) ∷ []) ep ev) in
        rewrite ! 2 (λ (us : List Val). ‵ (cell_at full_share B.mir us rb ro)) ws refl $
        -- [what the box holds; the token; the word; the open borrow; obs; auth]
        first ! $ blocks ! $
        sets ! (of_opd ! (load ! (through ! refl (fld ! refl (stop !))) (look_in ! 2 (sub ! 0 refl (whole !))))) refl (tt, tt) $
        sets ! (of_opd ! (get ! refl)) refl (tt, tt) $
        sets_last ! (addr ! (through ! refl (stop !))) refl (tt, tt) $
        exec ! C Λ En (after 1 fn.body) (at_ret En Post) $
        sets ! (of_opd ! (get ! refl)) refl (tt, tt) $
        move ! (1 ∷ 2 ∷ []) $ fjoin ! $ move ! (2 ∷ 3 ∷ 4 ∷ 1 ∷ 0 ∷ []) $ group ! 5 $
        use1 𝓛 (later (some (λ (γ' : GName). raw (Part 𝓛 B R (with_parting h) (named 0) κ q rb ro b o γ (sem 𝓛 (Rest b o)) (back b o e) h.value γ'))))
        (lends_Part 𝓛 B R (with_parting h) (named 0) κ q rb ro b o γ (sem 𝓛 (Rest b o)) (back b o e) (B.coded.code h) (B.coded.code h) h.value) $ await ! tt $ pick ! (λ γ'.
        returns ! (look_at ! 0 refl) $ free_all ! refl $
        keep ! (0 ∷ []) $ by ! (exits b o γ'))))))))

pub get_spec : {M : Type 1} → statement M
get_spec 𝓤 𝓛 𝓜 𝓡 wired =
    let 𝓣 = tables 𝓤 𝓛.H 𝓜 𝓡 𝓡.env in
    proved 𝓛 F.ended stayed (F.clauses 𝓛 𝓜.mem 𝓡.returns) 𝓜 𝓡 (Goes-spent_ref 𝓛 1 (0 ∷ []) tt (plain (λ _. B)), tt) #self fn (code.unfolded 𝓤 𝓛.H 𝓜 𝓡 wired)
    (λ κs. (mut_vals, tt)) (λ κs. (mut_Tells (named 0) κs.0 B, tt))
    (λ κs qs bounds a g are. via 𝓤 _ (fst∗ 𝓤 _ (emp 𝓤)) (walk 𝓛 𝓜.mem 𝓡.returns κs.0 qs.0 a.0.ref_ptr.0 a.0.ref_ptr.1 a.0.ghost_name a.0.now 𝓣.C 𝓣.Λ))
