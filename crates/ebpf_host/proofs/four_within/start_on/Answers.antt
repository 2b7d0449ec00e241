use Rattle.std.proofs.Common.{◌≡◌, ◌≤◌, ◌+◌, ◌*◌, ◌⊎◌, inl, inr, ℕ, List, ◌++◌, length, Ok, Err, subst, arith}
use Rattle.std.specs.Prelude.{Result, IfOk, IfErr}
use Rattle.std.proofs.Math.Nat.{mul-le-mul_right}
use Rattle.ebpf_machine.specs.declared.run.StartFault.{StartFault}
use Rattle.ebpf_machine.specs.declared.run.StartFault.TheVariants.{NoMemory}
use Rattle.ebpf_machine.specs.RunState.{RunState}
use Rattle.ebpf_fours.specs.Beginning.{IsAtStart}
use Rattle.ebpf_host.specs.Contexts.{context_at, given_bytes}
use Rattle.ebpf_host.specs.Four.{HaveStarted}
use Rattle.ebpf_host.specs.Whole.{whole}
use Rattle.ebpf_host.specs.declared.program.Program.{Program}
use Rattle.ebpf_host.proofs.OnContexts.{only_memory_on}
use Rattle.ebpf_host.proofs.four_within.start_on.Goals as goal

-- fewer contexts are there, too
are_there : (few many bytes length : ℕ) → few ≤ many → many * bytes ≤ length → few * bytes ≤ length
are_there few many bytes length fewer there = omega (arith, mul-le-mul_right bytes fewer, there)

-- a run on one of the contexts, with the program's data after it
on_context : {H : Type 0} (p : Program) {there context after : List ℕ} {r : RunState H} → after ≡ p.data.items → there ≡ context
    → IsAtStart p.verified (there ++ after) r → IsAtStart p.verified (whole p context) r
on_context p {there} {r = r} same is at =
    subst (λ (xs : List ℕ). IsAtStart p.verified (whole p xs) r) is (subst (λ (ys : List ℕ). IsAtStart p.verified (there ++ ys) r) same at)

pub context_at-requires : goal.context_at-requires
context_at-requires g c = are_there _ (c.args.number + 4) _ _ (omega arith) c.requires.contexts

pub context_at-requires-2 : goal.context_at-requires-2
context_at-requires-2 g c = are_there _ (c.args.number + 4) _ _ (omega arith) c.requires.contexts

pub context_at-requires-3 : goal.context_at-requires-3
context_at-requires-3 g c = are_there _ (c.args.number + 4) _ _ (omega arith) c.requires.contexts

pub context_at-requires-4 : goal.context_at-requires-4
context_at-requires-4 g c = are_there _ (c.args.number + 4) _ _ (omega arith) c.requires.contexts

pub overflow_add-number : goal.overflow_add-number
overflow_add-number g c = omega (arith, c.requires.few)

pub overflow_add-number-2 : goal.overflow_add-number-2
overflow_add-number-2 g c = omega (arith, c.requires.few)

pub overflow_add-number-3 : goal.overflow_add-number-3
overflow_add-number-3 g c = omega (arith, c.requires.few)

-- what is said of a value that is there
of_value : {T E : Type 0} {P Q : T → Type 0} (r : Result T E) → ((t : T) → P t → Q t) → IfOk r P → IfOk r Q
of_value (Ok t) on is = on t is
of_value (Err e) on is = tt

pub returns-clause-started : goal.returns-clause-started
returns-clause-started g c = of_value {Q = HaveStarted c.args.program.now c.args.contexts.now c.args.number} _ (λ f at. record {
  one = on_context c.args.program.now c.deref.ensures.value c.context_at.ensures at.one;
  two = on_context c.args.program.now c.deref.ensures.value c.context_at-2.ensures at.two;
  three = on_context c.args.program.now c.deref.ensures.value c.context_at-3.ensures at.three;
  four = on_context c.args.program.now c.deref.ensures.value c.context_at-4.ensures at.four;
}) c.start_four.ensures.started

-- and of an error
of_error : {T E : Type 0} {P Q : E → Type 0} (r : Result T E) → ((e : E) → P e → Q e) → IfErr r P → IfErr r Q
of_error (Ok t) on is = tt
of_error (Err e) on is = on e is

either : {A B C : Type 0} → (A → C) → (B → C) → A ⊎ B → C
either one other (inl a) = one a
either one other (inr b) = other b

pub returns-clause-refused : goal.returns-clause-refused
returns-clause-refused g c =
    let p = c.args.program.now in
    let all = c.args.contexts.now in
    let n = c.args.number in
    let only = λ (k : ℕ) (there : List ℕ) (is : there ≡ context_at p k all) (enough : (k + 1) * given_bytes p ≤ length all) (fault : StartFault).
    only_memory_on p all k fault enough is c.deref.ensures.value in
    of_error {Q = λ (fault : StartFault). fault ≡ NoMemory} _ (λ fault. either
    (either (only n _ c.context_at.ensures (are_there _ (n + 4) _ _ (omega arith) c.requires.contexts) fault)
    (only (n + 1) _ c.context_at-2.ensures (are_there _ (n + 4) _ _ (omega arith) c.requires.contexts) fault))
    (either (only (n + 2) _ c.context_at-3.ensures (are_there _ (n + 4) _ _ (omega arith) c.requires.contexts) fault)
    (only (n + 3) _ c.context_at-4.ensures (are_there _ (n + 4) _ _ (omega arith) c.requires.contexts) fault))) c.start_four.ensures.refused
