-- A program and the same laid out anew run alike.
use Rattle.std.proofs.Common.{◌≡◌, ℕ, zero, suc, ◌+◌, ◌*◌, ◌≤◌, List, [], ◌∷◌, length, Option, refl, sym, ap, subst, ◌∙◌, arith, inl, inr, ◌⊎◌}
use Rattle.std.specs.Prelude.{map, replicate}
use Rattle.ebpf_insn.specs.declared.insn.Insn.{Insn}
use Rattle.ebpf_state.specs.declared.kinds.KindRow.{KindRow}
use Rattle.ebpf_verify.specs.declared.decl.Decl.{Decl}
use Rattle.ebpf_verify.specs.Subject.{Subject}
use Rattle.ebpf_machine.specs.declared.value.Cell.{Cell}
use Rattle.ebpf_machine.specs.declared.value.Cell.TheVariants.{Unset}
use Rattle.ebpf_machine.specs.Effect.{Found}
use Rattle.ebpf_machine.specs.Renaming.{cell_renamed}
use Rattle.ebpf_machine.specs.World.{Status, Going, Exited, Trapped, first_registers}
use Rattle.ebpf_machine.specs.View.{RunView, ObjectView, CallResult, stepped_from, stepped}
use Rattle.ebpf_machine.proofs.World.Lone.{one_on}
use Rattle.ebpf_layout.specs.Paths.{IsReached}
use Rattle.ebpf_layout.specs.Layout.{IsLaidOut}
use Rattle.ebpf_layout.specs.Running.{run_on, content, IsAsFar, run_of, RunAlike}
use Rattle.ebpf_layout.proofs.PathLemmas.{path_none}
use Rattle.ebpf_layout.proofs.Renamed.{object_placed, laid_view}
use Rattle.ebpf_layout.proofs.Stepping.{step_kept}

run_none : (told : ℕ → CallResult) (v : RunView) → run_on 0 told v ≡ v
unfolding run_on
run_none told v = refl

run_more : (n : ℕ) (told : ℕ → CallResult) (v : RunView) → run_on (suc n) told v ≡ stepped (told (length (run_on n told v).replies)) (run_on n told v)
unfolding run_on
run_more n told v = refl

-- ---- the first view

cells_placed : (place : ℕ → ℕ) (n : ℕ) → map (cell_renamed place) (replicate n Unset) ≡ replicate n Unset
cells_placed place zero = refl
cells_placed place (suc n) = ap (λ (cells : List (Cell ℕ)). Unset ∷ cells) (cells_placed place n)

first_placed : (p q : List (Option Insn)) (place : ℕ → ℕ) (decl : Decl) (rows : List KindRow) (context : List ℕ) → place 0 ≡ 0
    → run_of q decl rows context ≡ laid_view q place 0 (run_of p decl rows context)
first_placed p q place decl rows context first =
    let cells : replicate 512 Unset ≡ map (cell_renamed place) (replicate 512 Unset) = sym (cells_placed place 512) in
    ap (λ (k : ℕ). record (run_of q decl rows context) { pc = k }) (sym first)
    ∙ ap (λ (stack : List (Cell ℕ)). record (run_of q decl rows context)
    { pc = place 0; frame = record { registers = first_registers; stack = stack; output = [] } }) cells

-- ---- instruction by instruction

-- the run in the new program, after some number of instructions, is the run in the old one, after n
pub record IsPaired (p q : List (Option Insn)) (place : ℕ → ℕ) (told : ℕ → CallResult) (old new : RunView) (n : ℕ) : Type 0 where
  pub steps : ℕ
  pub least : n ≤ steps
  pub most : steps ≤ 2 * n
  pub executed : ℕ
  pub same : run_on steps told new ≡ laid_view q place executed (run_on n told old)
  pub program : (run_on n told old).subject.program ≡ p
  pub reached : IsReached p (run_on n told old).pc

-- a run that has ended stays as it is
over_or_going : (s : Status) → ((w : RunView) (result : CallResult) → w.status ≡ s → stepped result w ≡ w) ⊎ (s ≡ Going)
over_or_going Going = inr refl
over_or_going (Exited n) = inl (λ w result e. ap (λ (s : Status). stepped_from s result w) e)
over_or_going (Trapped trap) = inl (λ w result e. ap (λ (s : Status). stepped_from s result w) e)

-- one instruction of the old program, and n more of the new
next_by : (p q : List (Option Insn)) (place : ℕ → ℕ) (told : ℕ → CallResult) (old new now : RunView) (n steps executed : ℕ)
    → suc n ≤ steps → steps ≤ 2 * suc n → run_on (suc n) told old ≡ now
    → run_on steps told new ≡ laid_view q place executed now → now.subject.program ≡ p → IsReached p now.pc → IsPaired p q place told old new (suc n)
next_by p q place told old new now n steps executed least most is same program reached = record {
  steps = steps;
  least = least;
  most = most;
  executed = executed;
  same = same ∙ ap (laid_view q place executed) (sym is);
  program = subst (λ (t : RunView). t.subject.program ≡ p) (sym is) program;
  reached = subst (λ (t : RunView). IsReached p t.pc) (sym is) reached;
}

paired_next : (p q : List (Option Insn)) (laid : IsLaidOut p q) (told : ℕ → CallResult) (old new : RunView) (n : ℕ)
    → IsPaired p q laid.place told old new n → IsPaired p q laid.place told old new (suc n)
paired_next p q laid told old new n h =
    let v = run_on n told old in
    let w = laid_view q laid.place h.executed v in
    let result = told (length v.replies) in
    let here : run_on (suc n) told old ≡ stepped result v = run_more n told old in
    let there : run_on (suc h.steps) told new ≡ stepped result w =
    run_more h.steps told new ∙ ap (λ (t : RunView). stepped (told (length t.replies)) t) h.same in
    let least = h.least in
    let most = h.most in
    elim (over_or_going v.status) [
      | inl over ↦ next_by p q laid.place told old new v n (suc h.steps) h.executed (omega arith) (omega arith) (here ∙ over v result refl)
          (there ∙ over w result refl) h.program h.reached
      | inr going ↦
          let other = told (length (stepped result w).replies) in
          let s = step_kept p q laid v h.executed result other h.program h.reached going in
          let program : (stepped result v).subject.program ≡ p = ap (λ (t : Subject). t.program) (one_on v result going).subject ∙ h.program in
          let further : run_on (suc (suc h.steps)) told new ≡ stepped other (stepped result w) =
          run_more (suc h.steps) told new ∙ ap (λ (t : RunView). stepped (told (length t.replies)) t) there in
          elim s.kept [
            | inl one ↦ next_by p q laid.place told old new (stepped result v) n (suc h.steps) (h.executed + 1) (omega arith) (omega arith) here (there ∙ one)
                program s.reached
            | inr two ↦ next_by p q laid.place told old new (stepped result v) n (suc (suc h.steps)) (h.executed + 1 + 1) (omega arith) (omega arith) here
                (further ∙ two) program s.reached
          ]
    ]

paired : (p q : List (Option Insn)) (laid : IsLaidOut p q) (decl : Decl) (rows : List KindRow) (context : List ℕ) (told : ℕ → CallResult) (n : ℕ)
    → IsPaired p q laid.place told (run_of p decl rows context) (run_of q decl rows context) n
paired p q laid decl rows context told zero =
    let old = run_of p decl rows context in
    let new = run_of q decl rows context in
    let none = run_none told old in
    record {
      steps = 0;
      least = omega arith;
      most = omega arith;
      executed = 0;
      same = run_none told new ∙ first_placed p q laid.place decl rows context laid.first ∙ ap (laid_view q laid.place 0) (sym none);
      program = subst (λ (t : RunView). t.subject.program ≡ p) (sym none) refl;
      reached = subst (λ (t : RunView). IsReached p t.pc) (sym none) (path_none p 0);
    }
paired p q laid decl rows context told (suc n) =
    paired_next p q laid told (run_of p decl rows context) (run_of q decl rows context) n (paired p q laid decl rows context told n)

-- ---- what comes of the runs

contents_placed : (place : ℕ → ℕ) (objects : List ObjectView) → map content (map (object_placed place) objects) ≡ map content objects
contents_placed place [] = refl
contents_placed place (o ∷ objects) = ap (λ (rest : List Found). content o ∷ rest) (contents_placed place objects)

as_far : (q : List (Option Insn)) (place : ℕ → ℕ) (executed : ℕ) (v w : RunView) → w ≡ laid_view q place executed v → IsAsFar v w
as_far q place executed v w same =
    subst (IsAsFar v) (sym same) (record { status = refl; output = refl; replies = refl; taken = refl; objects = contents_placed place v.objects })

pub run_alike : (p q : List (Option Insn)) → IsLaidOut p q → RunAlike p q
run_alike p q laid decl rows context told n =
    let h = paired p q laid decl rows context told n in (
      h.steps,
      h.least,
      h.most,
      as_far q laid.place h.executed (run_on n told (run_of p decl rows context)) (run_on h.steps told (run_of q decl rows context))
          h.same,
    )
