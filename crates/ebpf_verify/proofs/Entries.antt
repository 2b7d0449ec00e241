-- What comes to the slots, one slot after another, and the verdict that a slot adds.
use Rattle.std.proofs.Common.{◌≡◌, ℕ, ◌+◌, ◌<◌, List, length, Option, Some, None, refl, sym, ap, ◌∙◌, add-one}
use Rattle.std.specs.Prelude.{if◌then◌else◌, ◌==◌}
use Rattle.ebpf_insn.specs.declared.insn.Insn.{Insn}
use Rattle.ebpf_insn.specs.Program.{insn_at}
use Rattle.ebpf_insn.specs.Faults.{lowest}
use Rattle.ebpf_insn.proofs.FaultLemmas.{lowest_at}
use Rattle.ebpf_flow.specs.Edges.{edges_at}
use Rattle.ebpf_state.specs.States.{first_state}
use Rattle.ebpf_verify.specs.declared.entry.EntryState.{EntryState}
use Rattle.ebpf_verify.specs.declared.entry.EntryState.TheVariants.{Unreached, Known}
use Rattle.ebpf_verify.specs.declared.fault.VerifyCode.{VerifyCode}
use Rattle.ebpf_verify.specs.declared.fault.VerifyFault.{VerifyFault}
use Rattle.ebpf_verify.specs.declared.fault.VerifyFault.TheVariants.{Refused, NoMemory}
use Rattle.ebpf_verify.specs.Subject.{Subject}
use Rattle.ebpf_verify.specs.Entry.{arrived, with_sent}
use Rattle.ebpf_verify.specs.Verdict.{refusal_in, refusal_at, IsVerifyFault, IsSlotFault}

-- before the first slot
pub arrived-zero : (p : List (Option Insn)) (t : ℕ) → arrived p 0 t ≡ (if t == 0 then Known first_state else Unreached)
unfolding arrived
arrived-zero p t = refl

-- after one more slot
pub arrived-more : (p : List (Option Insn)) (slot t : ℕ) (here there : EntryState) → here ≡ arrived p slot slot
    → there ≡ arrived p slot t → with_sent (insn_at p slot) (edges_at p slot) slot t here there ≡ arrived p (slot + 1) t
unfolding arrived
arrived-more p slot t here there e f =
    ap (λ (a : EntryState). with_sent (insn_at p slot) (edges_at p slot) slot t a there) e
    ∙ ap (λ (a : EntryState). with_sent (insn_at p slot) (edges_at p slot) slot t (arrived p slot slot) a) f
    ∙ ap (λ (n : ℕ). arrived p n t) (sym (add-one slot))

-- the verdict on a slot, from what came to it
pub refusal_here : (s : Subject) (slot : ℕ) (here : EntryState) (code : Option VerifyCode) → here ≡ arrived s.program slot slot
    → refusal_in s.decl s.rows (insn_at s.program slot) here ≡ code → refusal_at s slot ≡ code
refusal_here s slot here code e h = ap (refusal_in s.decl s.rows (insn_at s.program slot)) (sym e) ∙ h

-- the first slot that is refused decides
pub refused_here : (s : Subject) (slot : ℕ) (here : EntryState) (fault : VerifyFault) → slot < length s.program
    → lowest (refusal_at s) slot ≡ None → here ≡ arrived s.program slot slot
    → IsSlotFault slot (refusal_in s.decl s.rows (insn_at s.program slot) here) fault → IsVerifyFault s fault
refused_here s slot here NoMemory inside before e h = tt
refused_here s slot here (Refused at code) inside before e h =
    rw (h.0) (lowest_at (refusal_at s) slot (length s.program) code before (refusal_here s slot here (Some code) e h.1) inside)
