-- `get` reads the pointer, tests it, and shows the `Arc` that the handle's `&` has.
use Rattle.std.proofs.Common.{◌≡◌, ℕ, List, [], ◌∷◌, refl, sym, ap, ◌∙◌, lit<}
use mir.Syntax.{named}
use mir.Val.{Val, vptr, vcons, vnil}
use base.Logic.{SProp, emp}
use base.Fml.{Lft, Share, ftrue, flft}
use types.Kit.{‵, raw, ◌⊛◌, at_ret, ◌$◌, ◌∵◌, !, qed, by, move, keep, drop, split, join, fsplit, fjoin, use0, use1, rewrite, feq_i}
use types.Run.{stop, fld, load, addr, lit, of_opd, bin, no_more, and_then, first, blocks, branches, exec, skips, returns, returns_within, enter}
use types.ByLocal.{alloc_all, pass_all, free_all, look_at, get, through, sets, sets_last, env}
use types.Part.{agg, sub, whole, look_in}
use types.Match.{live}
use contract.Monad.{fact, fact_i}
use contract.Running.{tables}
use denote.RattleType.{RattleType, owns}
use denote.Signature.{types_at, plain}
use denote.Builtin.{RefOf}
use denote.Copied.{Copied, plain_Copied, Struct-Copied}
use denote.Laws.{Is, shows}
use denote.Memory.{cell_at}
use denote.Opens.{hide, unhide}
use denote.Param.{layout}
use denote.RawPtr.{Ptr, block_ptr, null_ptr, coded_ptr, ptr_own, ptr_val, rawptr_pure, tests_null}
use denote.Ref.{ShrRef, shr_vals, shr_Tells}
use denote.Steps.{nothing, peeks, looks, shuts}
use denote.Struct.Struct.{Struct, Struct-Tells}
use denote.Struct.Laws.{spells, tellss, RawPtr-laws}
use denote.Struct.Owning.{shape}
use denote.Triple.Walked.{Stays, stay_dropped, walk_of, Goes-dropped}
use Rattle.std.proofs.raw_atomic.Walks.{proved, leaves}
use Rattle.std.proofs.alloc.Shapes.{after}
use Rattle.std.proofs.option.Made.{Some-of, none_of}
use Rattle.std.specs.Prelude.{Some, None}
use Rattle.std.specs.contracts.option.Option as option
use Rattle.ebpf_handle.specs.Rows.{shared_row}
use Rattle.ebpf_handle.proofs.Lent.{lent_cases}
use Rattle.ebpf_handle.proofs.Values.{Good, pointer_good, word}
use Rattle.ebpf_handle.specs.contracts.view.ProgramView as C
use Rattle.ebpf_handle.specs.contracts.view.ProgramView.get.{ended, clauses}
use Rattle.ebpf_handle.specs.contracts.view.ProgramView.get.Key.{name as #self}
use Rattle.ebpf_handle.proofs.view.ProgramView.get.Statement.{statement}
use Rattle.ebpf_handle.proofs.view.ProgramView.get.Code as code

abbrev Row : RattleType
Row = C.the_row

-- the handle's word
abbrev Words : RattleType
Words = Struct (shape C.the_type)

told : (p : Ptr) (vs : List Val) → Is Words (p, tt) vs → vs ≡ word p ∷ []
told p vs = Struct-Tells (shape C.the_type) (spells C.the_type.parts (RawPtr-laws, tt)) (tellss C.the_type.parts (RawPtr-laws, tt)) (p, tt) vs

pub get_spec : {M : Type 1} → statement M
get_spec 𝓤 𝓛 𝓜 𝓡 wired =
    let H = 𝓛.H in let 𝓣 = tables 𝓤 H 𝓜 𝓡 𝓡.env in let c = clauses 𝓛 𝓜.mem 𝓡.returns in let fn = code.function in let R : RattleType = shared_row in
    let self = RefOf (0 ∷ []) tt (plain (λ _. Row)) (λ _. tt) in let hs : Stays ended.signature.params ended.kept = (stay_dropped self ended.kept.0, tt) in
    let copied : Copied 𝓛 Words = Struct-Copied 𝓛 (shape C.the_type) (refl, tt) (plain_Copied 𝓛 Ptr coded_ptr _ ptr_own rawptr_pure ptr_val RawPtr-laws.tells, tt) in
    proved 𝓛 ended hs c 𝓜 𝓡 (Goes-dropped 𝓛 1 self ended.kept.0 (λ κs x f. refl), tt) #self fn (code.unfolded 𝓤 H 𝓜 𝓡 wired)
    (λ κs. (shr_vals, tt)) (λ κs. (shr_Tells (named 0) κs.0 Row, tt)) (λ κs qs bounds a gh are.
    let b : ℕ = a.0.ref_ptr.0 in let o : ℕ = a.0.ref_ptr.1 in let κ : Lft = κs.0 in let q : Share = qs.0 in let h : Row.Denot = a.0.now in
    let y : (walk_of 𝓛 ended hs c).Ghost = ((κs, qs, bounds, a, (vptr b o ∷ [], tt)), gh) in let Post : Val → SProp 𝓤 = (walk_of 𝓛 ended hs c).post y in
    let Ref : RattleType = ShrRef (named 0) κ R in let Out : RattleType = option.the_row Ref in
    qed 𝓛 (((‵ (flft κ q) ⊛ ‵ ftrue) ⊛ ‵ (owns (types_at ended.signature.params κs) a y.0.4)) ∷ raw ((c κs a).requires gh) ∷ []) ∵
    split ! $ split ! $ move ! (2 ∷ []) $ fsplit ! $ fsplit ! $ move ! (1 ∷ []) $ unhide ! $ fsplit ! $ hide ! $
    -- [the word's `&`; what the handle has; what the reference says; nothing; the token; true; what is asked]
    keep ! (0 ∷ 4 ∷ 1 ∷ 5 ∷ []) $
    enter ! 𝓣.C 𝓣.Λ fn (vptr b o ∷ []) Post $ alloc_all ! (λ l. pass_all ! refl ((tt, tt), tt) $ let Ev = env fn.locals l in
    looks ! tt Words copied.opens (h.at, tt) b o (λ q' vs. move ! (1 ∷ []) $ peeks ! Words (Is Words) (shows 𝓛 Words) (h.at, tt) vs (λ is.
    -- [what the word owns; its cell; the way back; its `&`; what the handle has; true; the locals]
    move ! (4 ∷ []) $ lent_cases ! R h.at h.value κ
    (λ null none. let good : Good (layout Out) (live 0 vnil) = (tt, (record { fits = lit< tt }, tt)) in
    let Cell = λ (xs : List Val). ‵ (cell_at q' Words.mir xs b o) in let at : vs ≡ word null_ptr ∷ [] = told h.at vs is ∙ ap (λ (p : Ptr). word p ∷ []) null in
    rewrite ! 1 Cell at refl $
    sets ! (of_opd ! (load ! (through ! refl (fld ! refl (stop !))) (look_in ! 1 (sub ! 0 refl (whole !))))) refl (pointer_good null_ptr) $
    rewrite ! 1 Cell (sym at) refl $ move ! (1 ∷ 0 ∷ 2 ∷ []) $ shuts ! tt Words q' (h.at, tt) vs b o $
    -- [the token; the word's `&`; true; the locals]
    sets ! (of_opd ! (get ! refl)) refl (pointer_good null_ptr) $ sets ! (of_opd ! (get ! refl)) refl (pointer_good null_ptr) $
    sets ! (bin ! (get ! refl) (lit ! tt) tt) refl (tt, tt) $ first ! $ branches ! (get ! refl)
    (λ _. sets ! (agg ! (and_then ! (lit ! tt) (no_more !))) refl good $
    move ! (1 ∷ []) $ drop ! $ join ! $
    use0 𝓛 (raw (fact 𝓤 (h.value ≡ None))) (fact_i 𝓤 (h.value ≡ None) (emp 𝓤) none) $
    use0 𝓛 (‵ (Out.own_val None (live 0 vnil ∷ []))) (none_of 𝓛 Ref) $ nothing ! $ nothing ! $ fjoin ! $
    -- [nothing of the parameter; the result; what is ensured; the tokens]
    returns_within ! Post refl (look_at ! 0 refl) $ free_all ! refl $ keep ! (3 ∷ 0 ∷ 1 ∷ 2 ∷ []) $
    by ! (leaves 𝓛 ended hs c y (live 0 vnil) None (tt, tt) (tt, tt)))
    (λ wrong. absurd wrong))
    (λ b' o' v block holds may. let p : Ptr = block_ptr b' o' in let here : Val = vptr b' o' in let made : Val = live 1 (vcons here vnil) in
    let good : Good (layout Out) made = (tt, (record { fits = lit< tt }, (tt, tt))) in let r : Ref.Denot = record { ref_ptr = (b', o'); now = v } in
    let Cell = λ (xs : List Val). ‵ (cell_at q' Words.mir xs b o) in let at : vs ≡ word p ∷ [] = told h.at vs is ∙ ap (λ (s : Ptr). word s ∷ []) block in
    hide ! $ rewrite ! 2 Cell at refl $
    sets ! (of_opd ! (load ! (through ! refl (fld ! refl (stop !))) (look_in ! 2 (sub ! 0 refl (whole !))))) refl (tt, tt) $
    rewrite ! 2 Cell (sym at) refl $ move ! (2 ∷ 1 ∷ 3 ∷ []) $ shuts ! tt Words q' (h.at, tt) vs b o $
    -- [the token; the `Arc`'s `&`; the word's; true; the locals]
    sets ! (of_opd ! (get ! refl)) refl (tt, tt) $ sets ! (of_opd ! (get ! refl)) refl (tt, tt) $
    sets ! (bin ! (get ! refl) (lit ! tt) (tests_null p may)) refl (tt, tt) $ first ! $ branches ! (get ! refl)
    (λ wrong. absurd wrong)
    (λ _. skips ! $ exec ! 𝓣.C 𝓣.Λ Ev (after 5 fn.body) (at_ret Ev Post) $
    first ! $ blocks ! $ sets_last ! (addr ! (through ! refl (stop !))) refl (tt, tt) $ exec ! 𝓣.C 𝓣.Λ Ev (after 6 fn.body) (at_ret Ev Post) $
    sets ! (of_opd ! (get ! refl)) refl (tt, tt) $ sets ! (agg ! (and_then ! (lit ! tt) (and_then ! (get ! refl) (no_more !)))) refl good $
    move ! (1 ∷ []) $ feq_i ! (List Val) (here ∷ []) (here ∷ []) refl $ fjoin ! $
    use1 𝓛 (‵ (Out.own_val (Some r) (made ∷ []))) (Some-of 𝓛 Ref r here) $
    use0 𝓛 (raw (fact 𝓤 (h.value ≡ Some v))) (fact_i 𝓤 (h.value ≡ Some v) (emp 𝓤) holds) $ move ! (2 ∷ 4 ∷ []) $ join ! $ nothing ! $ nothing ! $ fjoin ! $
    -- [nothing of the parameter; the tokens; what is ensured; the result; the word's `&`]
    returns ! (look_at ! 0 refl) $ free_all ! refl $ keep ! (1 ∷ 0 ∷ 3 ∷ 2 ∷ []) $
    by ! (leaves 𝓛 ended hs c y made (Some r) (tt, tt) (tt, tt))))))))
