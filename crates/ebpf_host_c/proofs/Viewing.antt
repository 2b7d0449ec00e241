-- A function that makes a `&` of the program's handle that it is lent, and returns the number that its callee says of what the handle holds.
use Rattle.std.proofs.Common.{ℕ, List, [], ◌∷◌, ◌++◌, Option, refl, w32, Bor}
use mir.Syntax
use mir.MapTy
use mir.Table
use mir.Val.{Val, vptr}
use seplogic.Ra.Ura.{Ura}
use base.Logic.{SProp, never, fst∗, id⊢}
use base.Fml.{Lft, Share, ftrue, flft}
use contract.Notation
use prog.Model.{Model}
use prog.Wp.{WpFn, Closed}
use types.Kit.{‵, raw, ◌⊛◌, some, later, prop, at_ret, ◌$◌, ◌∵◌, !, qed, by, move, keep, drop, split, join, fsplit, fjoin, pick, group, use1}
use types.Kit.{await, regoal, feq_i}
use types.Run.{stop, addr, of_opd, no_more, and_then, first, blocks, exec, returns, enter}
use types.ByLocal.{alloc_all, pass_all, free_all, look_at, get, through, sets, sets_last, lands_as, env}
use types.Logic.{Logic, sem}
use contract.Running.{Running, tables}
use denote.RattleType.{owns}
use denote.Signature.{types_at}
use denote.Builtin.{u32}
use denote.Memory.{shared_of}
use denote.Opens.{hide}
use denote.RawPtr.{Ptr, block_ptr, null_ptr, in_a_block, block_of, count_of, rawptr_vals, rawptr_Tells}
use denote.Plain.{uint_Lawful}
use denote.Laws.{Is, shows}
use denote.Steps.{nothing, peeks}
use denote.Struct.Lending.{lent_at}
use denote.Triple.Call.{calls_at}
use denote.Triple.Clauses.{Clauses, Lasts, lasts, at_exit, closing}
use denote.Triple.Spec.{Meets, triple_of}
use denote.Triple.Table.{framed}
use denote.Triple.Walked.{Stays, walk_of}
use Rattle.std.specs.Prelude.{codes}
use Rattle.std.specs.declared.alloc.Global.{Global}
use Rattle.std.specs.declared.sync.Arc.{Arc}
use Rattle.std.proofs.alloc.Shapes.{after}
use Rattle.std.proofs.raw_atomic.Walks.{proved, leaves}
use Rattle.ebpf_handle.specs.declared.view.ProgramView.{ProgramView}
use Rattle.ebpf_handle.specs.contracts.view.ProgramView.{the_row as view_row}
use Rattle.ebpf_host.specs.declared.program.Program.{Program}
use Rattle.ebpf_host_c.proofs.Passing.{passes, Goes-passes}
use Rattle.ebpf_host_c.specs.contracts.about.context_shown as g
use Rattle.ebpf_host_c.specs.contracts.about.ebpf_program_context as f

-- ---- its code

abbrev view_name : Syntax.Head
view_name = (codes "ebpf_handle::view::ProgramView", [])

abbrev view : Syntax.Ty
view = Syntax.ty_named view_name Syntax.tnil

abbrev reference : Syntax.Local
reference = Syntax.local (Syntax.ty_ref Syntax.erased Syntax.imm view) Syntax.value_local

abbrev pointer : Syntax.Local
pointer = Syntax.local Syntax.ty_ptr Syntax.value_local

abbrev of_local : ℕ → Syntax.Rv
of_local n = Syntax.rv_opd (Syntax.copy (Syntax.place n []))

abbrev named : Syntax.Symbol → Syntax.Fn
named callee = record {
  lifetimes = 0;
  outlives = [];
  ty_params = [];
  givens = 0;
  params = 1;
  locals = Syntax.local (Syntax.ty_int w32) Syntax.value_local ∷ pointer ∷ reference ∷ reference ∷ pointer ∷ pointer ∷ [];
  body = Syntax.seq (Syntax.block (Syntax.seq (Syntax.assign (Syntax.place 4 []) (of_local 1))
      (Syntax.seq (Syntax.assign (Syntax.place 5 []) (of_local 4))
      (Syntax.assign (Syntax.place 3 []) (Syntax.addr_of (Syntax.place 5 (Syntax.deref view ∷ [])))))))
      (Syntax.seq (Syntax.assign (Syntax.place 2 []) (of_local 3))
      (Syntax.seq (Syntax.call (Syntax.fn₀ callee) (Syntax.copy (Syntax.place 2 []) ∷ []) (Syntax.place 0 [])) Syntax.return));
}

abbrev pub viewing : Syntax.Symbol → Syntax.Fn
viewing callee = MapTy.spell_fn ((view_name.0, [], Table.fields (Syntax.tcons Syntax.ty_ptr Syntax.tnil)) ∷ []) (named callee)

-- ---- what it and its callee say: a fact of what the handle holds, and of the result

abbrev pub Said : Type 1
Said = Option (Arc Program Global) → ℕ → Type 0

module _ {M : Type 1} {𝓤 : Ura M} (𝓛 : Logic 𝓤) (Q : Said) where
  open Notation.connectives 𝓤 use {⌜◌⌝, ◌∗◌, ⊤ₛ}

  abbrev pub of_shown : Clauses 𝓤 g.ended
  of_shown = λ κs args. record { ghost = Unit {0}; requires = λ _. ⊤ₛ; ensures = λ _ result _. ⌜ Q args.0.now.value result ⌝ }

  abbrev pub of_lent : Clauses 𝓤 f.ended
  of_lent = λ κs args. record {
    ghost = Lft × Share × ProgramView;
    requires = λ loan. sem 𝓛 (flft loan.0 loan.1) ∗ sem 𝓛 (lent_at view_row args.0 loan.2 loan.0);
    ensures = λ loan result _. sem 𝓛 (flft loan.0 loan.1) ∗ ⌜ Q loan.2.value result ⌝;
  }

abbrev stayed : Stays f.ended.signature.params f.ended.kept
stayed = passes f.ended.signature.params f.ended.kept

-- ---- it says of what it is lent what its callee says of the `&`

module _ {M : Type 1} (𝓤 : Ura M) (𝓛 : Logic 𝓤) (𝓜 : Model 𝓤 𝓛.H) (𝓡 : Running 𝓤 𝓛.H 𝓜) (Q : Said) where
  pub viewed : (callee : Syntax.Symbol) (own : Syntax.Callee)
      → Meets 𝓛 g.signature (𝓡.run (𝓡.env (Syntax.fn₀ callee))) (closing 𝓛 g.ended (of_shown 𝓛 Q))
      → Closed 𝓤 𝓛.H (tables 𝓤 𝓛.H 𝓜 𝓡 𝓡.env).C (tables 𝓤 𝓛.H 𝓜 𝓡 𝓡.env).Λ own (viewing callee)
      → Meets 𝓛 f.signature (𝓡.run (𝓡.env own)) (closing 𝓛 f.ended (of_lent 𝓛 Q))
  viewed callee own met closed =
      let c = of_lent 𝓛 Q in let 𝓣 = tables 𝓤 𝓛.H 𝓜 𝓡 𝓡.env in let W = walk_of 𝓛 f.ended stayed c in let fn = viewing callee in
      proved 𝓛 f.ended stayed c 𝓜 𝓡 (Goes-passes 𝓛 0 f.ended.signature.params f.ended.kept)
      own fn closed (λ κs. (rawptr_vals, tt)) (λ κs. (rawptr_Tells, tt))
      (λ κs qs bounds a loan are.
      let p₀ : Ptr = a.0 in let α : Lft = loan.0 in let q : Share = loan.1 in let x : view_row.Denot = loan.2 in
      let y : Ptr → W.Ghost = λ p. ((κs, qs, bounds, (p, tt), (rawptr_vals p, tt)), loan) in
      let vals : Ptr → List Val = λ p. rawptr_vals p ++ [] in
      qed 𝓛 ((‵ ftrue ⊛ ‵ (owns (types_at f.signature.params κs) a (y p₀).0.4)) ∷ (‵ (flft α q) ⊛ ‵ (lent_at view_row p₀ x α)) ∷ []) ∵
      split ! $ move ! (2 ∷ []) $ split ! $ move ! (1 ∷ []) $
      in_a_block ! p₀ (λ p. lent_at view_row p x α) (fst∗ 𝓤 (never 𝓤) (sem 𝓛 (shared_of view_row x (block_of null_ptr) (count_of null_ptr) α))) (λ b o e.
      regoal ! (λ p. prop (WpFn 𝓤 𝓛.H 𝓣.C 𝓣.Λ fn (vals p) (W.post (y p)))) e refl $
      -- [what is lent; its token; the tokens; the parameter]
      let Post : Val → SProp 𝓤 = W.post (y (block_ptr b o)) in
      enter ! 𝓣.C 𝓣.Λ fn (vals (block_ptr b o)) Post $ alloc_all ! (λ l. pass_all ! refl ((tt, tt), tt) $ let Ev = env fn.locals l in
      first ! $ blocks ! $ sets ! (of_opd ! (get ! refl)) refl (tt, tt) $ sets ! (of_opd ! (get ! refl)) refl (tt, tt) $
      sets_last ! (addr ! (through ! refl (stop !))) refl (tt, tt) $ exec ! 𝓣.C 𝓣.Λ Ev (after 1 fn.body) (at_ret Ev Post) $
      sets ! (of_opd ! (get ! refl)) refl (tt, tt) $
      -- [what is lent; its token; the tokens; the parameter; the locals]
      move ! (1 ∷ 2 ∷ []) $ group ! 2 $ move ! (2 ∷ []) $ fsplit ! $ drop ! $
      move ! (2 ∷ []) $ fsplit ! $ drop ! $ hide ! $ feq_i ! (List Val) (vptr b o ∷ []) (vptr b o ∷ []) refl $ fjoin ! $ fjoin ! $
      move ! (1 ∷ 0 ∷ []) $ join ! $ nothing ! $ move ! (1 ∷ 0 ∷ []) $ join ! $
      let G = triple_of 𝓛 g.signature (closing 𝓛 g.ended (of_shown 𝓛 Q)) in
      let shown : Bor view_row.Denot = record { ref_ptr = (b, o); now = x } in
      let z : G.Ghost = (((α, tt), (q, tt), tt, (shown, tt), (vptr b o ∷ [], tt)), tt) in
      use1 𝓛 (raw (G.pre z)) (id⊢ 𝓤 _) $
      calls_at ! (framed 𝓤 𝓛.H 𝓜 𝓣) G met z (and_then ! (get ! refl) (no_more !)) (λ v.
      use1 𝓛 (later (some (λ (r : ℕ). ((‵ (flft α q) ⊛ ‵ ftrue) ⊛ ‵ (u32.own_val r (v ∷ []))) ⊛
      some (λ (ws : Lasts g.ended z.0.0 z.0.3). ‵ (lasts g.ended z.0.0 z.0.3 ws) ⊛ raw ((of_shown 𝓛 Q z.0.0 z.0.3).ensures z.1 r (at_exit g.ended z.0.0 z.0.3 ws)))))) (id⊢ 𝓤 _) $
      await ! tt $ pick ! (λ r. split ! $ split ! $ move ! (1 ∷ []) $
      peeks ! u32 (Is u32) (shows 𝓛 u32) r (v ∷ []) (λ is. lands_as ! refl refl ((uint_Lawful 𝓛 w32).typed r _ is).0 $
      -- [the result; the tokens; what is said of the parameter; the locals]
      move ! (2 ∷ []) $ pick ! (λ ws. split ! $ move ! (3 ∷ []) $ split ! $ move ! (1 ∷ []) $
      -- [the tokens; that of the loan; what is had of the parameter; what is ensured; the result; the locals]
      returns ! (look_at ! 0 refl) $ free_all ! refl $ move ! (1 ∷ 3 ∷ []) $ join ! $ keep ! (1 ∷ 2 ∷ 3 ∷ 0 ∷ []) $
      by ! (leaves 𝓛 f.ended stayed c (y (block_ptr b o)) v r ws (tt, tt)))))))))
