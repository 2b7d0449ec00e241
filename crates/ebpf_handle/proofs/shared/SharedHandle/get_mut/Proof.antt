-- `get_mut` reads the pointer, tests it, and lends what the handle owns; the handle follows what is written there.
use Rattle.std.proofs.Common.{◌≡◌, ℕ, List, [], ◌∷◌, refl, sym, ap, ◌∙◌, lit<}
use seplogic.Ra.Ura.{Ura}
use base.Fraction.{full_share}
use mir.Syntax.{named}
use mir.Raw.{raw as bare}
use mir.Val.{Val, vptr, vcons, vnil}
use base.Logic.{SProp, ent, sep, emp, id⊢}
use base.Fml.{Lft, GName, Share, Fml, ftrue, fsep, flft, fres}
use types.Logic.{Logic, sem}
use types.Kit.{‵, raw, ◌⊛◌, some, later, at_ret, ◌$◌, ◌∵◌, !, qed, by, done, move, keep, split, split3, join, fsplit, fsplit3, fjoin, fpack, pick}
use types.Kit.{group, use0, use1, await, rewrite, feq_i}
use types.Run.{stop, fld, load, addr, lit, of_opd, bin, no_more, and_then, first, blocks, branches, exec, skips, returns, returns_within, enter}
use types.ByLocal.{alloc_all, pass_all, free_all, look_at, get, through, sets, sets_last, env}
use types.Part.{agg, sub, whole, look_in}
use types.Match.{live}
use contract.Monad.{fact, fact_i}
use contract.Running.{tables}
use denote.Exit.{no}
use denote.RattleType.{RattleType, owns}
use denote.Signature.{types_at, plain, mut_ref_to}
use denote.Memory.{cell_at, part_at, part_of, lone, mem}
use denote.Param.{layout}
use denote.RawPtr.{Ptr, block_ptr, null_ptr, tests_null}
use denote.Ref.{MutRef, mut_vals, mut_Tells}
use denote.Follow.{follows, follows_by, Part, lends_Part}
use denote.Steps.{nothing, opens, closes}
use denote.Triple.Walked.{Stays, stay_dropped, walk_of, Goes-spent_ref}
use Rattle.std.proofs.raw_atomic.Walks.{proved, leaves}
use Rattle.std.proofs.alloc.Shapes.{after}
use Rattle.std.proofs.option.Made.{Some-of, none_of}
use Rattle.std.specs.Prelude.{Option, Some, None}
use Rattle.std.specs.contracts.option.Option as option
use Rattle.std.specs.contracts.impls.GlobalAllocator.TheImpl.{ghosts}
use Rattle.ebpf_handle.specs.Ownership.{heap, held}
use Rattle.ebpf_handle.specs.Lending.{with_shared}
use Rattle.ebpf_handle.proofs.Values.{Good, pointer_good, word, Held, held_out, held_in, cases}
use Rattle.ebpf_host.specs.contracts.shared.Shared.{the_row as Shared}
use Rattle.ebpf_handle.specs.contracts.shared.SharedHandle as C
use Rattle.ebpf_handle.specs.contracts.shared.SharedHandle.get_mut.{ended, clauses}
use Rattle.ebpf_handle.specs.contracts.shared.SharedHandle.get_mut.Key.{name as #self}
use Rattle.ebpf_handle.proofs.shared.SharedHandle.get_mut.Statement.{statement}
use Rattle.ebpf_handle.proofs.shared.SharedHandle.get_mut.Code as code

abbrev Row : RattleType
Row = C.the_row

-- the handle's cell, at the pointer to the block, and the right to free that block
abbrev Rest : (b o b' o' : ℕ) → Fml
Rest b o b' o' = fsep (ghosts.dealloc_token heap (bare (lone Shared.mir)) (block_ptr b' o')) (cell_at full_share Row.mir (word (block_ptr b' o') ∷ []) b o)

-- with any shared in the block the rest makes the handle
back : {M : Type 1} {𝓤 : Ura M} (𝓛 : Logic 𝓤) (h : Row.Denot) (b o b' o' : ℕ) → h.at ≡ block_ptr b' o' → (w : Shared.Denot)
    → ent 𝓤 (sep 𝓤 (sem 𝓛 ((mem Shared).own_at w b' o')) (sem 𝓛 (Rest b o b' o'))) (sem 𝓛 ((mem Row).own_at (with_shared h w) b o))
unfolding part_of
back {𝓤 = 𝓤} 𝓛 h b o b' o' is w = let p : Ptr = block_ptr b' o' in
    qed 𝓛 (‵ (part_at Shared full_share w b' o') ∷ ‵ (Rest b o b' o') ∷ []) ∵ move ! (1 ∷ []) $ fsplit ! $ move ! (2 ∷ 0 ∷ []) $ fjoin ! $
    use1 𝓛 (‵ (held Shared p (Some w))) (id⊢ 𝓤 _) $ held_in Shared ! p (Some w) $
    rewrite ! 0 (λ (s : Ptr). ‵ ((Held Shared).own_val (record { at = s; value = Some w }) (word p ∷ []))) (sym is) refl $
    use1 𝓛 (‵ (Row.own_val (with_shared h w) (word p ∷ []))) (id⊢ 𝓤 _) $ move ! (1 ∷ 0 ∷ []) $ fjoin ! $
    fpack ! (List Val) (λ us. fsep (cell_at full_share Row.mir us b o) (Row.own_val (with_shared h w) us)) (word p ∷ []) $ done !

pub get_mut_spec : {M : Type 1} → statement M
unfolding follows_by
get_mut_spec 𝓤 𝓛 𝓜 𝓡 wired =
    let H = 𝓛.H in let 𝓣 = tables 𝓤 H 𝓜 𝓡 𝓡.env in let c = clauses 𝓛 𝓜.mem 𝓡.returns in let fn = code.function in let R : RattleType = Shared in
    let self = mut_ref_to (0 ∷ []) tt (plain (λ _. Row)) in let hs : Stays ended.signature.params ended.kept = (stay_dropped self no, tt) in
    proved 𝓛 ended hs c 𝓜 𝓡 (Goes-spent_ref 𝓛 1 (0 ∷ []) tt (plain (λ _. Row)), tt) #self fn (code.unfolded 𝓤 H 𝓜 𝓡 wired)
    (λ κs. (mut_vals, tt)) (λ κs. (mut_Tells (named 0) κs.0 Row, tt)) (λ κs qs bounds a gh are.
    let b : ℕ = a.0.ref_ptr.0 in let o : ℕ = a.0.ref_ptr.1 in let κ : Lft = κs.0 in let q : Share = qs.0 in let γ : GName = a.0.ghost_name in
    let h : Row.Denot = a.0.now in let code' = Row.coded.code in let Cell = λ (xs : List Val). ‵ (cell_at full_share Row.mir xs b o) in
    let y : (walk_of 𝓛 ended hs c).Ghost = ((κs, qs, bounds, a, (vptr b o ∷ [], tt)), gh) in let Post : Val → SProp 𝓤 = (walk_of 𝓛 ended hs c).post y in
    let Lent : RattleType = MutRef (named 0) κ R in let Out : RattleType = option.the_row Lent in
    qed 𝓛 (((‵ (flft κ q) ⊛ ‵ ftrue) ⊛ ‵ (owns (types_at ended.signature.params κs) a y.0.4)) ∷ raw ((c κs a).requires gh) ∷ []) ∵
    split ! $ split ! $ move ! (2 ∷ []) $ fsplit ! $ fsplit3 ! $ keep ! (1 ∷ 2 ∷ 4 ∷ 5 ∷ []) $
    enter ! 𝓣.C 𝓣.Λ fn (vptr b o ∷ []) Post $ alloc_all ! (λ l. pass_all ! refl ((tt, tt), tt) $ let Ev = env fn.locals l in
    opens ! tt Row b o (λ us. move ! (1 ∷ []) $ use1 𝓛 (‵ ((Held R).own_val (record { at = h.at; value = h.value }) us)) (id⊢ 𝓤 _) $
    held_out R ! (record { at = h.at; value = h.value }) us (λ ws.
    -- [what the handle owns; its cell; the open borrow, in three entries; true; the locals]
    cases R ! h.at h.value
    (λ is none. let good : Good (layout Out) (live 0 vnil) = (tt, (record { fits = lit< tt }, tt)) in let word_is = λ (xs : Ptr). word xs ∷ [] in
    rewrite ! 0 Cell (ws ∙ ap word_is is) refl $
    sets ! (of_opd ! (load ! (through ! refl (fld ! refl (stop !))) (look_in ! 0 (sub ! 0 refl (whole !))))) refl (pointer_good null_ptr) $
    feq_i ! Ptr null_ptr null_ptr refl $ use1 𝓛 (‵ (held R null_ptr None)) (id⊢ 𝓤 _) $
    rewrite ! 0 (λ (x : Option R.Denot). ‵ (held R null_ptr x)) (sym none) refl $ rewrite ! 0 (λ (p : Ptr). ‵ (held R p h.value)) (sym is) refl $
    held_in R ! h.at h.value $ use1 𝓛 (‵ (Row.own_val h (word h.at ∷ []))) (id⊢ 𝓤 _) $
    rewrite ! 1 Cell (ap word_is (sym is)) refl $ move ! (1 ∷ 0 ∷ []) $ closes ! tt Row h (word h.at ∷ []) b o $
    -- [the handle's value; its borrow; the token; true; the locals]
    sets ! (of_opd ! (get ! refl)) refl (pointer_good null_ptr) $ sets ! (of_opd ! (get ! refl)) refl (pointer_good null_ptr) $
    sets ! (bin ! (get ! refl) (lit ! tt) tt) refl (tt, tt) $ first ! $ branches ! (get ! refl)
    (λ _. sets ! (agg ! (and_then ! (lit ! tt) (no_more !))) refl good $
    use1 𝓛 (‵ (fres γ (code' h))) (𝓛.names.obs-res γ (code' h)) $
    use0 𝓛 (raw (fact 𝓤 (h.value ≡ None))) (fact_i 𝓤 (h.value ≡ None) (emp 𝓤) none) $ move ! (1 ∷ 0 ∷ []) $ join ! $ move ! (2 ∷ 3 ∷ []) $ join ! $
    use0 𝓛 (‵ (Out.own_val None (live 0 vnil ∷ []))) (none_of 𝓛 Lent) $ nothing ! $ nothing ! $ fjoin ! $
    -- [nothing of the parameter; the result; the tokens; what is ensured]
    returns_within ! Post refl (look_at ! 0 refl) $ free_all ! refl $ keep ! (2 ∷ 0 ∷ 1 ∷ 3 ∷ []) $
    by ! (leaves 𝓛 ended hs c y (live 0 vnil) None (tt, tt) (tt, tt)))
    (λ wrong. absurd wrong))
    (λ b' o' v is holds may. let p : Ptr = block_ptr b' o' in let here : Val = vptr b' o' in let made : Val = live 1 (vcons here vnil) in
    let good : Good (layout Out) made = (tt, (record { fits = lit< tt }, (tt, tt))) in let Left = sem 𝓛 (Rest b o b' o') in let again = back 𝓛 h b o b' o' is in
    rewrite ! 1 Cell (ws ∙ ap (λ (s : Ptr). word s ∷ []) is) refl $
    sets ! (of_opd ! (load ! (through ! refl (fld ! refl (stop !))) (look_in ! 1 (sub ! 0 refl (whole !))))) refl (tt, tt) $
    sets ! (of_opd ! (get ! refl)) refl (tt, tt) $ sets ! (of_opd ! (get ! refl)) refl (tt, tt) $
    sets ! (bin ! (get ! refl) (lit ! tt) (tests_null p may)) refl (tt, tt) $ first ! $ branches ! (get ! refl)
    (λ wrong. absurd wrong)
    (λ _. skips ! $ exec ! 𝓣.C 𝓣.Λ Ev (after 5 fn.body) (at_ret Ev Post) $
    first ! $ blocks ! $ sets_last ! (addr ! (through ! refl (stop !))) refl (tt, tt) $ exec ! 𝓣.C 𝓣.Λ Ev (after 6 fn.body) (at_ret Ev Post) $
    sets ! (of_opd ! (get ! refl)) refl (tt, tt) $ sets ! (agg ! (and_then ! (lit ! tt) (and_then ! (get ! refl) (no_more !)))) refl good $
    fsplit ! $
    -- [the shared; the right to free its block; the handle's cell; the open borrow, in three entries; true; the locals]
    move ! (1 ∷ 2 ∷ []) $ fjoin ! $ move ! (2 ∷ 3 ∷ 4 ∷ 1 ∷ 0 ∷ []) $ group ! 5 $
    use1 𝓛 (later (some (λ (γ' : GName). raw (Part 𝓛 Row R (with_shared h) (named 0) κ q b o b' o' γ Left again v γ'))))
    (lends_Part 𝓛 Row R (with_shared h) (named 0) κ q b o b' o' γ Left again (code' h) (code' h) v) $ await ! tt $ pick ! (λ γ'.
    let r : Lent.Denot = record { ref_ptr = (b', o'); ghost_name = γ'; now = v } in
    use1 𝓛 (‵ (Lent.own_val r (here ∷ [])) ⊛ ‵ (flft κ q) ⊛ ‵ (follows Row R γ γ' (with_shared h))) (id⊢ 𝓤 _) $ split3 ! $
    use1 𝓛 (‵ (Out.own_val (Some r) (made ∷ []))) (Some-of 𝓛 Lent r here) $
    use0 𝓛 (raw (fact 𝓤 (h.value ≡ Some v))) (fact_i 𝓤 (h.value ≡ Some v) (emp 𝓤) holds) $ move ! (3 ∷ 0 ∷ []) $ join ! $ move ! (2 ∷ 3 ∷ []) $ join ! $
    nothing ! $ nothing ! $ fjoin ! $
    -- [nothing of the parameter; the tokens; what is ensured; the result]
    returns ! (look_at ! 0 refl) $ free_all ! refl $ keep ! (1 ∷ 0 ∷ 3 ∷ 2 ∷ []) $
    by ! (leaves 𝓛 ended hs c y made (Some r) (tt, tt) (tt, tt)))))))))
