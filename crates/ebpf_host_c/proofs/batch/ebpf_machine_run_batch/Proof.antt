-- `ebpf_machine_run_batch` makes a `&` of the handle that it is lent, and passes on the rest.
use Rattle.std.proofs.Common.{ℕ, List, [], ◌∷◌, ◌++◌, length, refl, w32, w64, Bor}
use mir.Syntax.{named}
use lib.Dec.{T}
use mir.Val.{Val, vptr, vint, has_ty, WT}
use base.Logic.{SProp, never, fst∗, id⊢}
use base.Fml.{Lft, Share, ftrue, flft}
use prog.Wp.{WpFn}
use types.Kit.{‵, raw, ◌⊛◌, some, later, prop, at_ret, ◌$◌, ◌∵◌, !, qed, by, move, keep, drop, split, join, fsplit, fjoin, pick, group, use1}
use types.Kit.{await, regoal, feq_i}
use types.Run.{stop, from, hop, fld, addr, of_opd, no_more, and_then, first, blocks, exec, returns, enter}
use types.ByLocal.{alloc_all, pass_all, free_all, look_at, get, get_in, through, sets, sets_last, lands_as, env}
use types.Part.{agg, sub, whole, look_in}
use types.Logic.{sem}
use contract.Running.{tables}
use denote.RattleType.{owns}
use denote.Signature.{types_at}
use denote.Builtin.{u8, u32, u64, usize}
use denote.Memory.{shared_of, lone}
use denote.Opens.{hide}
use denote.RawPtr.{Ptr, block_ptr, null_ptr, in_a_block, block_of, count_of, rawptr_vals, rawptr_Tells}
use denote.Ref.{mut_vals, mut_Tells}
use denote.Slice.{slice_val, MutSlice, ShrSlice, mut_slice_vals, mut_slice_Tells, shr_slice_vals, shr_slice_Tells}
use denote.Plain.{uint_vals, uint_Tells, uint_Lawful}
use denote.Laws.{Is, shows}
use denote.Steps.{nothing, peeks}
use denote.Struct.Lending.{lent_at}
use denote.Triple.Call.{calls_at}
use denote.Triple.Clauses.{Lasts, lasts, at_exit}
use denote.Triple.Spec.{triple_of}
use denote.Triple.Table.{framed}
use denote.Triple.Walked.{Stays, walk_of}
use Rattle.ebpf_host_c.proofs.Passing.{passes, Goes-passes}
use Rattle.std.proofs.alloc.Shapes.{after}
use Rattle.std.proofs.raw_atomic.Walks.{proved, leaves}
use Rattle.ebpf_handle.specs.contracts.machine.MachineHandle.{the_row as machine_row}
use Rattle.ebpf_handle.specs.contracts.view.ProgramView.{the_row as view_row}
use Rattle.ebpf_host_c.specs.contracts.reported.Reported.{the_row as report_row}
use Rattle.ebpf_host_c.specs.contracts.batch.batch_shown as g
use Rattle.ebpf_host_c.proofs.batch.batch_shown.Met.{met}
use Rattle.ebpf_host_c.specs.contracts.batch.ebpf_machine_run_batch as f
use Rattle.ebpf_host_c.proofs.batch.ebpf_machine_run_batch.Statement.{statement}
use Rattle.ebpf_host_c.proofs.batch.ebpf_machine_run_batch.Code as code

abbrev stayed : Stays f.ended.signature.params f.ended.kept
stayed = passes f.ended.signature.params f.ended.kept

pub ebpf_machine_run_batch_spec : {M : Type 1} → statement M
ebpf_machine_run_batch_spec 𝓤 𝓛 𝓜 𝓡 wired =
    let c = f.clauses 𝓛 𝓜.mem 𝓡.returns in let 𝓣 = tables 𝓤 𝓛.H 𝓜 𝓡 𝓡.env in let W = walk_of 𝓛 f.ended stayed c in let fn = code.function in
    proved 𝓛 f.ended stayed c 𝓜 𝓡 (Goes-passes 𝓛 4 f.ended.signature.params f.ended.kept)
    f.Key.name fn (code.unfolded 𝓤 𝓛.H 𝓜 𝓡 wired)
    (λ κs. (mut_vals, (rawptr_vals, (shr_slice_vals, (uint_vals w64, (mut_slice_vals, (mut_vals, tt)))))))
    (λ κs. (mut_Tells (named 0) κs.0 machine_row, (rawptr_Tells, (shr_slice_Tells (named 1) κs.1.0 u8, (uint_Tells w64, (mut_slice_Tells (named 2) κs.1.1.0 report_row, (mut_Tells (named 3) κs.1.1.1.0 usize, tt)))))))
    (λ κs qs bounds a loan are.
    let machine = a.0 in let p₀ : Ptr = a.1.0 in let s = a.1.1.0 in let n = a.1.1.1.0 in let ys = a.1.1.1.1.0 in let rep = a.1.1.1.1.1.0 in
    let α : Lft = loan.0 in let q : Share = loan.1 in let x : view_row.Denot = loan.2 in
    let y : Ptr → W.Ghost = λ p. ((κs, qs, bounds, (machine, (p, a.1.1)), (mut_vals machine, (rawptr_vals p, (shr_slice_vals s, (uint_vals w64 n, (mut_slice_vals ys, (mut_vals rep, tt))))))), loan) in
    let vals : Ptr → List Val = λ p. mut_vals machine ++ (rawptr_vals p ++ (shr_slice_vals s ++ (uint_vals w64 n ++ (mut_slice_vals ys ++ (mut_vals rep ++ []))))) in
    let tok₀ = ‵ (flft κs.0 qs.0) in let tok₁ = ‵ (flft κs.1.0 qs.1.0) in let tok₂ = ‵ (flft κs.1.1.0 qs.1.1.0) in let tok₃ = ‵ (flft κs.1.1.1.0 qs.1.1.1.0) in
    qed 𝓛 (((tok₀ ⊛ (tok₁ ⊛ (tok₂ ⊛ (tok₃ ⊛ ‵ ftrue)))) ⊛ ‵ (owns (types_at f.signature.params κs) a (y p₀).0.4)) ∷ (‵ (flft α q) ⊛ ‵ (lent_at view_row p₀ x α)) ∷ []) ∵
    split ! $ move ! (2 ∷ []) $ split ! $ move ! (1 ∷ []) $
    in_a_block ! p₀ (λ p. lent_at view_row p x α) (fst∗ 𝓤 (never 𝓤) (sem 𝓛 (shared_of view_row x (block_of null_ptr) (count_of null_ptr) α))) (λ b o e.
    regoal ! (λ p. prop (WpFn 𝓤 𝓛.H 𝓣.C 𝓣.Λ fn (vals p) (W.post (y p)))) e refl $
    -- [what is lent; the token; the tokens; the parameters]
    let many : T (has_ty (lone (ShrSlice (named 1) κs.1.0 u8).mir) (slice_val s.ref_ptr (length s.now))) × WT (slice_val s.ref_ptr (length s.now)) = (tt, (tt, (record { fits = are.1.1.0.0.1.0 }, tt))) in
    let more : T (has_ty (lone (MutSlice (named 2) κs.1.1.0 report_row).mir) (slice_val ys.ref_ptr (length ys.now))) × WT (slice_val ys.ref_ptr (length ys.now)) = (tt, (tt, (record { fits = are.1.1.1.1.0.0.1.0 }, tt))) in
    let few : T (has_ty (lone u64.mir) (vint w64 n)) × WT (vint w64 n) = (tt, record { fits = are.1.1.1.0.1 }) in
    let Post : Val → SProp 𝓤 = W.post (y (block_ptr b o)) in
    enter ! 𝓣.C 𝓣.Λ fn (vals (block_ptr b o)) Post $ alloc_all ! (λ l. pass_all ! refl ((tt, tt), ((tt, tt), (many, (few, (more, ((tt, tt), tt)))))) $ let Ev = env fn.locals l in
    sets ! (addr ! (through ! refl (stop !))) refl (tt, tt) $
    first ! $ blocks ! $ sets ! (of_opd ! (get ! refl)) refl (tt, tt) $ sets ! (of_opd ! (get ! refl)) refl (tt, tt) $
    sets_last ! (addr ! (through ! refl (stop !))) refl (tt, tt) $ exec ! 𝓣.C 𝓣.Λ Ev (after 2 fn.body) (at_ret Ev Post) $
    sets ! (of_opd ! (get ! refl)) refl (tt, tt) $
    sets ! (of_opd ! (get ! refl)) refl many $
    sets ! (of_opd ! (get ! refl)) refl few $
    sets ! (addr ! (from ! (fld ! refl (hop ! (look_in ! 26 (sub ! 0 refl (whole !))) (stop !))))) refl (tt, tt) $
    sets ! (agg ! (and_then ! (get ! refl) (and_then ! (get_in ! (fld ! refl (stop !)) (sub ! 1 refl (whole !))) (no_more !)))) refl more $
    sets ! (addr ! (through ! refl (stop !))) refl (tt, tt) $
    -- [what is lent; its token; the tokens; the parameters; the locals]
    move ! (2 ∷ []) $ split ! $ move ! (1 ∷ []) $ split ! $ move ! (1 ∷ []) $ split ! $ move ! (1 ∷ []) $ split ! $
    move ! (4 ∷ 6 ∷ 3 ∷ 2 ∷ 0 ∷ 1 ∷ []) $ group ! 6 $ move ! (2 ∷ []) $ fsplit ! $ move ! (1 ∷ []) $ fsplit ! $ drop ! $
    move ! (3 ∷ []) $ fsplit ! $ drop ! $ hide ! $ feq_i ! (List Val) (vptr b o ∷ []) (vptr b o ∷ []) refl $ fjoin ! $ fjoin ! $
    move ! (1 ∷ 0 ∷ []) $ fjoin ! $ move ! (1 ∷ 0 ∷ []) $ join ! $ nothing ! $ move ! (1 ∷ 0 ∷ []) $ join ! $
    let G = triple_of 𝓛 g.signature (g.spec 𝓛 𝓜.mem 𝓡.returns) in
    let shown : Bor view_row.Denot = record { ref_ptr = (b, o); now = x } in
    let z : G.Ghost = (((κs.0, (α, κs.1)), (qs.0, (q, qs.1)), tt, (machine, (shown, a.1.1)), (mut_vals machine, (vptr b o ∷ [], (shr_slice_vals s, (uint_vals w64 n, (mut_slice_vals ys, (mut_vals rep, tt))))))), tt) in
    use1 𝓛 (raw (G.pre z)) (id⊢ 𝓤 _) $
    calls_at ! (framed 𝓤 𝓛.H 𝓜 𝓣) G (met 𝓤 𝓛 𝓜 𝓡 (code.calls-ebpf_host_c::batch::batch_shown 𝓡.env wired)) z
    (and_then ! (get ! refl) (and_then ! (get ! refl) (and_then ! (get ! refl) (and_then ! (get ! refl) (and_then ! (get ! refl) (and_then ! (get ! refl) (no_more !))))))) (λ v.
    use1 𝓛 (later (some (λ (r : ℕ). ((tok₀ ⊛ (‵ (flft α q) ⊛ (tok₁ ⊛ (tok₂ ⊛ (tok₃ ⊛ ‵ ftrue))))) ⊛ ‵ (u32.own_val r (v ∷ []))) ⊛
    some (λ (ws : Lasts g.ended z.0.0 z.0.3). ‵ (lasts g.ended z.0.0 z.0.3 ws) ⊛ raw ((g.clauses 𝓛 𝓜.mem 𝓡.returns z.0.0 z.0.3).ensures z.1 r (at_exit g.ended z.0.0 z.0.3 ws)))))) (id⊢ 𝓤 _) $
    await ! tt $ pick ! (λ r. split ! $ split ! $ move ! (1 ∷ []) $
    peeks ! u32 (Is u32) (shows 𝓛 u32) r (v ∷ []) (λ is. lands_as ! refl refl ((uint_Lawful 𝓛 w32).typed r _ is).0 $
    -- [the result; the tokens; what is said of the parameters; the locals]
    move ! (2 ∷ []) $ pick ! (λ ws. split ! $ move ! (3 ∷ []) $ split ! $ move ! (1 ∷ []) $ split ! $ move ! (2 ∷ 1 ∷ []) $ join ! $
    -- [the tokens; that of the loan; what is had of the parameters; what is ensured; the result; the locals]
    returns ! (look_at ! 0 refl) $ free_all ! refl $ move ! (1 ∷ 3 ∷ []) $ join ! $ keep ! (1 ∷ 2 ∷ 3 ∷ 0 ∷ []) $
    by ! (leaves 𝓛 f.ended stayed c (y (block_ptr b o)) v r ws (tt, (tt, (tt, (tt, (tt, (tt, tt))))))))))))))
