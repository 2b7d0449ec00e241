-- A run of a program and the run of its copies are alike, until that one comes to a stub.
use Rattle.std.proofs.Common.{◌≡◌, ℕ, zero, suc, ◌+◌, ◌*◌, ◌≤◌, Bool, true, false, List, length, Option, Some, refl, sym, ap, subst, ◌∙◌, arith, inl, inr, ◌⊎◌}
use Rattle.std.specs.Prelude.{nat_le}
use Rattle.ebpf_insn.specs.declared.insn.Insn.{Insn}
use Rattle.ebpf_state.specs.declared.kinds.KindRow.{KindRow}
use Rattle.ebpf_verify.specs.declared.decl.Decl.{Decl}
use Rattle.ebpf_verify.specs.Subject.{Subject}
use Rattle.ebpf_machine.specs.Values.{BadCall}
use Rattle.ebpf_machine.specs.Effect.{Effect, Goes, Ends, Traps, Nothing, Write, Ask, Free, Exchange}
use Rattle.ebpf_machine.specs.World.{Status, Going, Exited, Trapped}
use Rattle.ebpf_machine.specs.View.{RunView, CallResult, Null, Granted, Empty, Shelved, done_by, effect_of_view, without_given}
use Rattle.ebpf_layout.specs.Running.{IsAsFar, run_of}
use Rattle.ebpf_unroll.specs.Unrolling.{IsUnrolled}
use Rattle.ebpf_unroll.specs.Counting.{numbered, counted_from, counted, count_on}
use Rattle.ebpf_unroll.proofs.Copied.{on_none, on_more, on_next, on_join, counted_going, copied_view, Stepped, On, Stuck, step_copied}

-- ---- the program stays

pub subject_by : (v : RunView) (reply : CallResult) (e : Effect ℕ) → (done_by e reply v).subject ≡ v.subject
subject_by v reply (Ends n) = refl
subject_by v reply (Traps trap) = refl
subject_by v reply (Goes Nothing to after) = refl
subject_by v reply (Goes (Write name at bytes) to after) = refl
subject_by v reply (Goes (Free name) to after) = refl
subject_by v Null (Goes (Exchange shelf given) to after) = refl
subject_by v Empty (Goes (Exchange shelf given) to after) = refl
subject_by v Granted (Goes (Exchange shelf given) to after) = refl
subject_by v (Shelved bytes) (Goes (Exchange shelf given) to after) = by (nat_le v.subject.decl.held (length (without_given given v.objects))) refl where
  by : (t : Bool) → nat_le v.subject.decl.held (length (without_given given v.objects)) ≡ t
      → (done_by (Goes (Exchange shelf given) to after) (Shelved bytes) v).subject ≡ v.subject
  by true e = rw e refl
  by false e = rw e refl
subject_by v Null (Goes (Ask kind) to after) = refl
subject_by v Empty (Goes (Ask kind) to after) = refl
subject_by v (Shelved bytes) (Goes (Ask kind) to after) = refl
subject_by v Granted (Goes (Ask kind) to after) = by (nat_le v.subject.decl.held (length v.objects)) refl where
  by : (t : Bool) → nat_le v.subject.decl.held (length v.objects) ≡ t → (done_by (Goes (Ask kind) to after) Granted v).subject ≡ v.subject
  by true e = rw e refl
  by false e = rw e refl

program_kept : (v : RunView) (result : CallResult) → v.status ≡ Going → (counted result v).subject ≡ v.subject
program_kept v result going = ap (λ (t : RunView). t.subject) (counted_going v result going) ∙ subject_by (numbered v) result (effect_of_view v)

-- ---- instruction by instruction

pub record IsPaired (q : List (Option Insn)) (of : ℕ → Option ℕ) (told : ℕ → CallResult) (p : List (Option Insn)) (old new : RunView) (n : ℕ) : Type 0 where
  pub steps : ℕ
  pub least : n ≤ steps
  pub most : steps ≤ 2 * n
  pub at : ℕ
  pub executed : ℕ
  pub same : count_on steps told new ≡ copied_view q at executed (count_on n told old)
  pub program : (count_on n told old).subject.program ≡ p
  pub copy : (count_on n told old).status ≡ Going → of at ≡ Some (count_on n told old).pc

abbrev pub IsStuck : (ℕ → CallResult) → RunView → Type 0
IsStuck told new = (m : ℕ) × ((count_on m told new).status ≡ Trapped BadCall)

over_or_going : (s : Status) → ((w : RunView) (result : CallResult) → w.status ≡ s → counted result w ≡ w) ⊎ (s ≡ Going)
over_or_going Going = inr refl
over_or_going (Exited n) = inl (λ w result e. ap (λ (s : Status). counted_from s result w) e)
over_or_going (Trapped trap) = inl (λ w result e. ap (λ (s : Status). counted_from s result w) e)

module _ (p q : List (Option Insn)) (of : ℕ → Option ℕ) (u : IsUnrolled p q of) (told : ℕ → CallResult) (old new : RunView) where
  -- one instruction of the old program, and some of the new
  next_by : (now : RunView) (n steps at executed : ℕ) → suc n ≤ steps → steps ≤ 2 * suc n → count_on (suc n) told old ≡ now
      → count_on steps told new ≡ copied_view q at executed now → now.subject.program ≡ p → (now.status ≡ Going → of at ≡ Some now.pc)
      → IsPaired q of told p old new (suc n)
  next_by now n steps at executed least most is same program copy = record {
    steps = steps;
    least = least;
    most = most;
    at = at;
    executed = executed;
    same = same ∙ ap (copied_view q at executed) (sym is);
    program = subst (λ (t : RunView). t.subject.program ≡ p) (sym is) program;
    copy = subst (λ (t : RunView). t.status ≡ Going → of at ≡ Some t.pc) (sym is) copy;
  }

  by_step : (n : ℕ) (h : IsPaired q of told p old new n) → (count_on n told old).status ≡ Going
      → Stepped q of told (copied_view q h.at h.executed (count_on n told old)) (counted (told (length (count_on n told old).replies)) (count_on n told old))
      → IsPaired q of told p old new (suc n) ⊎ IsStuck told new
  by_step n h going (On k at executed least most is copy) =
      let v = count_on n told old in
      let result = told (length v.replies) in
      let lower = h.least in
      let upper = h.most in
      inl (next_by (counted result v) n (k + h.steps) at executed (omega arith) (omega arith) (on_more n told old)
      (on_join k h.steps told new ∙ ap (count_on k told) h.same ∙ is) (ap (λ (s : Subject). s.program) (program_kept v result going) ∙ h.program) copy)
  by_step n h going (Stuck k trapped) =
      inr (k + h.steps, ap (λ (t : RunView). t.status) (on_join k h.steps told new ∙ ap (count_on k told) h.same) ∙ trapped)

  paired_next : (n : ℕ) → IsPaired q of told p old new n → IsPaired q of told p old new (suc n) ⊎ IsStuck told new
  paired_next n h =
      let v = count_on n told old in
      let w = copied_view q h.at h.executed v in
      let result = told (length v.replies) in
      let lower = h.least in
      let upper = h.most in
      elim (over_or_going v.status) [
        | inl over ↦ inl (next_by v n (suc h.steps) h.at h.executed (omega arith) (omega arith) (on_more n told old ∙ over v result refl)
            (on_next h.steps told new w h.same ∙ over w result refl) h.program h.copy)
        | inr going ↦ by_step n h going (step_copied p q of u told v h.at h.executed h.program going (h.copy going))
      ]

paired : (p q : List (Option Insn)) (of : ℕ → Option ℕ) (u : IsUnrolled p q of) (decl : Decl) (rows : List KindRow) (context : List ℕ)
    (told : ℕ → CallResult) (n : ℕ)
    → IsPaired q of told p (run_of p decl rows context) (run_of q decl rows context) n ⊎ IsStuck told (run_of q decl rows context)
paired p q of u decl rows context told zero =
    let old = run_of p decl rows context in
    let new = run_of q decl rows context in
    let none = on_none told old in
    inl (record {
      steps = 0;
      least = omega arith;
      most = omega arith;
      at = 0;
      executed = 0;
      same = on_none told new ∙ ap (copied_view q 0 0) (sym none);
      program = subst (λ (t : RunView). t.subject.program ≡ p) (sym none) refl;
      copy = subst (λ (t : RunView). t.status ≡ Going → of 0 ≡ Some t.pc) (sym none) (λ going. u.first);
    })
paired p q of u decl rows context told (suc n) = elim (paired p q of u decl rows context told n) [
  | inl h ↦ paired_next p q of u told (run_of p decl rows context) (run_of q decl rows context) n h
  | inr stuck ↦ inr stuck
]

-- ---- what comes of the runs

-- the run of the one program is as far after n instructions as that of the other after as many or at most twice as many
abbrev pub IsAsFarAfter : List (Option Insn) → List (Option Insn) → Decl → List KindRow → List ℕ → (ℕ → CallResult) → ℕ → Type 0
IsAsFarAfter p q decl rows context told n =
    (m : ℕ) × (n ≤ m) × (m ≤ 2 * n) × IsAsFar (count_on n told (run_of p decl rows context)) (count_on m told (run_of q decl rows context))

-- whatever is declared, on any context, whatever the calls are answered: so it is, or the run of the other program comes to a stub
abbrev pub RunCopied : List (Option Insn) → List (Option Insn) → Type 0
RunCopied p q = (decl : Decl) (rows : List KindRow) (context : List ℕ) (told : ℕ → CallResult) (n : ℕ)
    → IsAsFarAfter p q decl rows context told n ⊎ IsStuck told (run_of q decl rows context)

as_far : (q : List (Option Insn)) (at executed : ℕ) (v w : RunView) → w ≡ copied_view q at executed v → IsAsFar v w
as_far q at executed v w same =
    subst (IsAsFar v) (sym same) (record { status = refl; output = refl; replies = refl; taken = refl; objects = refl })

pub run_copied : (p q : List (Option Insn)) (of : ℕ → Option ℕ) → IsUnrolled p q of → RunCopied p q
run_copied p q of u decl rows context told n = elim (paired p q of u decl rows context told n) [
  | inl h ↦ inl (
    h.steps,
    h.least,
    h.most,
    as_far q h.at h.executed (count_on n told (run_of p decl rows context))
        (count_on h.steps told (run_of q decl rows context)) h.same,
  )
  | inr stuck ↦ inr stuck
]
