-- `ebpf_program_share` makes a `&` of the handle that it is lent, and passes on the rest.
use Rattle.std.proofs.Common.{◌≡◌, ℕ, List, [], ◌∷◌, ◌++◌, refl, sym, ap, ◌∙◌, subst, w32, Bor}
use mir.Syntax.{named}
use mir.Val.{Val, vptr}
use base.Logic.{SProp, ent, never, fst∗, id⊢}
use base.Fml.{Lft, Share, ftrue, flft}
use prog.Wp.{WpFn}
use types.Kit.{‵, raw, ◌⊛◌, some, later, at_ret, ◌$◌, ◌∵◌, !, qed, by, move, keep, drop, split, join, fsplit, fjoin, pick, group, use1, await}
use types.Kit.{rewrite, feq_i, suffices}
use types.Run.{stop, addr, of_opd, no_more, and_then, first, blocks, exec, returns, enter}
use types.ByLocal.{alloc_all, pass_all, free_all, look_at, get, through, sets, sets_last, lands_as, env}
use types.Logic.{sem}
use contract.Running.{tables}
use denote.RattleType.{RattleType, owns}
use denote.Signature.{types_at}
use denote.Builtin.{u32}
use denote.Laws.{Is, shows}
use denote.Memory.{shared_of}
use denote.Opens.{hide}
use denote.RawPtr.{Ptr, null_ptr, in_a_block, block_of, count_of, rawptr_vals, rawptr_Tells}
use denote.Ref.{MutRef, mut_vals}
use denote.Plain.{uint_Lawful}
use denote.Steps.{nothing, peeks}
use denote.Struct.Lending.{lent_at}
use denote.Triple.Call.{calls_at}
use denote.Triple.Clauses.{Lasts, lasts, at_exit}
use denote.Triple.Spec.{triple_of}
use denote.Triple.Table.{framed}
use denote.Triple.Walked.{Stays, walk_of}
use Rattle.std.proofs.alloc.Calls.{handle_tells}
use Rattle.std.proofs.alloc.Shapes.{after}
use Rattle.std.proofs.raw_atomic.Walks.{proved_at, leaves}
use Rattle.std.specs.contracts.alloc.Global as global
use Rattle.std.proofs.alloc.Global.TheLaws as global_laws
use Rattle.std.specs.contracts.impls.GlobalAllocator.TheImpl.{ghosts}
use Rattle.ebpf_handle.proofs.Loosened.{al}
use Rattle.ebpf_handle.specs.contracts.program.ProgramHandle.{the_row as handle_row}
use Rattle.ebpf_handle.specs.contracts.view.ProgramView.{the_row as view_row}
use Rattle.ebpf_host_c.proofs.Passing.{passes, Goes-passes}
use Rattle.ebpf_host_c.specs.contracts.share.share_shown as g
use Rattle.ebpf_host_c.proofs.share.share_shown.Met.{met}
use Rattle.ebpf_host_c.specs.contracts.share.ebpf_program_share as f
use Rattle.ebpf_host_c.proofs.share.ebpf_program_share.Statement.{statement}
use Rattle.ebpf_host_c.proofs.share.ebpf_program_share.Code as code

abbrev stayed : Stays f.ended.signature.params f.ended.kept
stayed = passes f.ended.signature.params f.ended.kept

pub ebpf_program_share_spec : {M : Type 1} → statement M
ebpf_program_share_spec 𝓤 𝓛 𝓜 𝓡 wired =
    let c = f.clauses 𝓛 𝓜.mem 𝓡.returns in let 𝓣 = tables 𝓤 𝓛.H 𝓜 𝓡 𝓡.env in let W = walk_of 𝓛 f.ended stayed c in let fn = code.function in
    let Z : RattleType = global.the_row in let LZ = global_laws.the_row_laws in
    proved_at 𝓛 f.ended stayed c 𝓜 𝓡 (Goes-passes 𝓛 1 f.ended.signature.params f.ended.kept)
    f.Key.name fn (code.unfolded 𝓤 𝓛.H 𝓜 𝓡 wired) (λ y are.
    let κs = y.0.0 in let qs = y.0.1 in let a = y.0.3 in let vss = y.0.4 in let loan = y.1 in
    let heap = a.0 in let other = a.1.0 in let p₀ : Ptr = a.1.1.0 in let α : Lft = loan.0 in let q : Share = loan.1 in let x : view_row.Denot = loan.2 in
    let Post : Val → SProp 𝓤 = W.post y in let Run : List Val → SProp 𝓤 = λ ws. WpFn 𝓤 𝓛.H 𝓣.C 𝓣.Λ fn ws Post in
    let tok₀ = ‵ (flft κs.0 qs.0) in
    qed 𝓛 (((tok₀ ⊛ ‵ ftrue) ⊛ ‵ (owns (types_at f.signature.params κs) a vss)) ∷ (‵ (flft α q) ⊛ ‵ (lent_at view_row p₀ x α)) ∷ []) ∵
    split ! $ move ! (1 ∷ []) $ fsplit ! $ handle_tells (al view_row Z LZ ghosts) ! heap vss.0 (λ h told fits.
    move ! (3 ∷ []) $ split ! $ move ! (1 ∷ []) $
    in_a_block ! p₀ (λ p. lent_at view_row p x α) (fst∗ 𝓤 (never 𝓤) (sem 𝓛 (shared_of view_row x (block_of null_ptr) (count_of null_ptr) α))) (λ b o e.
    let values : List Val = h ∷ vptr other.ref_ptr.0 other.ref_ptr.1 ∷ vptr b o ∷ [] in
    let at : vss.1.1.0 ≡ vptr b o ∷ [] = rawptr_Tells p₀ vss.1.1.0 are.1.1.0 ∙ ap (λ (p : Ptr). rawptr_vals p) e in
    suffices ! (Run values) (subst (λ (us : List Val). ent 𝓤 (Run values) (Run us)) (sym (λ i. told i ++ (are.1.0.0 i ++ (at i ++ [])))) (id⊢ 𝓤 (Run values))) $
    -- [what is lent; its token; the heap's handle; the other parameters; the tokens]
    enter ! 𝓣.C 𝓣.Λ fn values Post $ alloc_all ! (λ l. pass_all ! refl (fits, ((tt, tt), ((tt, tt), tt))) $ let Ev = env fn.locals l in
    sets ! (of_opd ! (get ! refl)) refl fits $ sets ! (addr ! (through ! refl (stop !))) refl (tt, tt) $
    first ! $ blocks ! $ sets ! (of_opd ! (get ! refl)) refl (tt, tt) $ sets ! (of_opd ! (get ! refl)) refl (tt, tt) $
    sets_last ! (addr ! (through ! refl (stop !))) refl (tt, tt) $ exec ! 𝓣.C 𝓣.Λ Ev (after 3 fn.body) (at_ret Ev Post) $
    sets ! (of_opd ! (get ! refl)) refl (tt, tt) $
    move ! (4 ∷ []) $ split ! $ move ! (0 ∷ 3 ∷ 1 ∷ []) $ group ! 3 $ move ! (3 ∷ []) $ fsplit ! $
    rewrite ! 0 (λ (us : List Val). ‵ ((MutRef (named 0) κs.0 handle_row).own_val other us)) are.1.0.0 refl $ move ! (1 ∷ []) $ fsplit ! $ drop ! $
    move ! (3 ∷ []) $ fsplit ! $ drop ! $ hide ! $ feq_i ! (List Val) (vptr b o ∷ []) (vptr b o ∷ []) refl $ fjoin ! $ fjoin ! $
    move ! (1 ∷ 0 ∷ []) $ fjoin ! $ move ! (2 ∷ 0 ∷ []) $ fjoin ! $ move ! (1 ∷ 0 ∷ []) $ join ! $ nothing ! $ move ! (1 ∷ 0 ∷ []) $ join ! $
    let G = triple_of 𝓛 g.signature (g.spec 𝓛 𝓜.mem 𝓡.returns) in
    let shown : Bor view_row.Denot = record { ref_ptr = (b, o); now = x } in
    let z : G.Ghost = (((κs.0, (α, tt)), (qs.0, (q, tt)), tt, (heap, (other, (shown, tt))), (h ∷ [], (mut_vals other, (vptr b o ∷ [], tt)))), tt) in
    use1 𝓛 (raw (G.pre z)) (id⊢ 𝓤 _) $
    calls_at ! (framed 𝓤 𝓛.H 𝓜 𝓣) G (met 𝓤 𝓛 𝓜 𝓡 (code.calls-ebpf_host_c::share::share_shown 𝓡.env wired)) z
    (and_then ! (get ! refl) (and_then ! (get ! refl) (and_then ! (get ! refl) (no_more !)))) (λ v.
    use1 𝓛 (later (some (λ (r : ℕ). ((tok₀ ⊛ (‵ (flft α q) ⊛ ‵ ftrue)) ⊛ ‵ (u32.own_val r (v ∷ []))) ⊛
    some (λ (ws : Lasts g.ended z.0.0 z.0.3). ‵ (lasts g.ended z.0.0 z.0.3 ws) ⊛ raw ((g.clauses 𝓛 𝓜.mem 𝓡.returns z.0.0 z.0.3).ensures z.1 r (at_exit g.ended z.0.0 z.0.3 ws)))))) (id⊢ 𝓤 _) $
    await ! tt $ pick ! (λ r. split ! $ split ! $ move ! (1 ∷ []) $
    peeks ! u32 (Is u32) (shows 𝓛 u32) r (v ∷ []) (λ is. lands_as ! refl refl ((uint_Lawful 𝓛 w32).typed r _ is).0 $
    -- [the result; the tokens; what is said of the parameters; the locals]
    move ! (2 ∷ []) $ pick ! (λ ws. split ! $ move ! (3 ∷ []) $ split ! $ move ! (1 ∷ []) $ split ! $ move ! (2 ∷ 1 ∷ []) $ join ! $
    -- [the tokens; that of the loan; what is had of the parameters; what is ensured; the result; the locals]
    returns ! (look_at ! 0 refl) $ free_all ! refl $ move ! (1 ∷ 3 ∷ []) $ join ! $ keep ! (1 ∷ 2 ∷ 3 ∷ 0 ∷ []) $
    by ! (leaves 𝓛 f.ended stayed c y v r ws (tt, (tt, (tt, tt))))))))))))
