-- What is declared for slots that are loaded or refused is in range.
use Rattle.std.proofs.Common.{ℕ, ◌≡◌, ◌≤◌, List, subst}
use Rattle.ebpf_verify.specs.declared.decl.Decl.{Decl}
use Rattle.ebpf_verify.specs.Subject.{Subject}
use Rattle.ebpf_host.specs.declared.refusal.Refusal.{Refusal}
use Rattle.ebpf_host.specs.Loading.{IsInRange}
use Rattle.ebpf_host_c.specs.declared.loading.Loops.{Loops}
use Rattle.ebpf_host_c.specs.declared.loading.Loops.TheVariants as loops
use Rattle.ebpf_host_c.specs.Ways.{IsLoadedBy, IsRefusedBy}

declared_in_range : (context held : ℕ) (decl : Decl) → decl.context ≡ context → decl.held ≡ held → IsInRange context held
declared_in_range context held decl context_is held_is =
    (subst (λ (n : ℕ). n ≤ 4096) context_is decl.small, subst (λ (n : ℕ). n ≤ 64) held_is decl.few)

pub loaded_in_range : (way : Loops) (context held : ℕ) (code : List ℕ) (s : Subject) → IsLoadedBy way context held code s → IsInRange context held
loaded_in_range loops.Refused context held code s h = declared_in_range context held h.decl h.declared.context_is h.declared.held_is
loaded_in_range loops.Unrolled context held code s h = declared_in_range context held h.decl h.declared.context_is h.declared.held_is

pub refused_in_range : (way : Loops) (context held : ℕ) (code : List ℕ) (r : Refusal) → IsRefusedBy way context held code r → IsInRange context held
refused_in_range loops.Refused context held code r h =
    let declared = h.0.judged.declared in declared_in_range context held h.0.judged.decl declared.context_is declared.held_is
refused_in_range loops.Unrolled context held code r h = declared_in_range context held h.decl h.declared.context_is h.declared.held_is
