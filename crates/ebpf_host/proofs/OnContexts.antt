-- Contexts of one program that are one after another have the length that is declared, with the program's data after each. So a run on one of them
-- fails to start only if memory runs out.
use Rattle.std.proofs.Common.{◌≡◌, ◌≤◌, ◌+◌, ◌*◌, ℕ, List, ◌++◌, length, drop, refl, arith, length-append}
use Rattle.std.proofs.lemmas.List.{length-drop, length-take-le}
use Rattle.ebpf_machine.specs.declared.run.StartFault.{StartFault}
use Rattle.ebpf_machine.specs.declared.run.StartFault.TheVariants.{ContextLength, NoMemory}
use Rattle.ebpf_machine.specs.Turns.{IsStartFault}
use Rattle.ebpf_host.specs.declared.program.Program.{Program}
use Rattle.ebpf_host.specs.Contexts.{context_at, given_bytes}
use Rattle.ebpf_host.specs.Whole.{whole}

whole_length : (p : Program) (contexts : List ℕ) (number : ℕ) → (number + 1) * given_bytes p ≤ length contexts
    → length (whole p (context_at p number contexts)) ≡ p.verified.decl.context
whole_length p contexts number there =
    let dropped = length-drop (number * given_bytes p) contexts in
    let given = length-take-le (given_bytes p) (drop (number * given_bytes p) contexts) (omega (arith, dropped, there)) in
    omega (arith, length-append (context_at p number contexts) p.data.items, given, p.fits)

only_memory : (fault : StartFault) (len declared : ℕ) → len ≡ declared → IsStartFault len declared fault → fault ≡ NoMemory
only_memory ContextLength len declared same is = absurd (is same)
only_memory NoMemory len declared same is = refl

-- the same where the context and the data are told by other names
pub only_memory_on : (p : Program) (contexts : List ℕ) (number : ℕ) {there after : List ℕ} (fault : StartFault) → (number + 1) * given_bytes p ≤ length contexts
    → there ≡ context_at p number contexts → after ≡ p.data.items → IsStartFault (length (there ++ after)) p.verified.decl.context fault → fault ≡ NoMemory
only_memory_on p contexts number {there} {after} fault enough is same faulty =
    let long : length (there ++ after) ≡ p.verified.decl.context = rw (is, same) (whole_length p contexts number enough) in
    only_memory fault _ _ long faulty
