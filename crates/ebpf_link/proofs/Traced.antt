-- A trace of a program that is not refused, and what is known past its end.
use Rattle.std.proofs.Common.{◌≡◌, ℕ, ◌<◌, ℤ, List, length, Option, Some, None, refl, sym, ap, ◌∙◌, subst}
use Rattle.ebpf_insn.specs.declared.insn.Insn.{Insn}
use Rattle.ebpf_insn.specs.Encoding.{IsWellFormed}
use Rattle.ebpf_insn.specs.Program.{insn_at}
use Rattle.ebpf_insn.proofs.ProgramLemmas.{insn_at_within}
use Rattle.ebpf_flow.specs.Flow.{AreForward, flow_fault}
use Rattle.ebpf_state.specs.declared.kinds.KindRow.{KindRow}
use Rattle.ebpf_verify.specs.declared.decl.Decl.{Decl}
use Rattle.ebpf_verify.specs.declared.entry.EntryState.{EntryState}
use Rattle.ebpf_verify.specs.declared.fault.VerifyCode.{VerifyCode}
use Rattle.ebpf_verify.specs.Subject.{Subject}
use Rattle.ebpf_verify.specs.Traces.{entries_below, looked_at, IsTrace}
use Rattle.ebpf_verify.specs.Verdict.{AreRows, IsAccepted}
use Rattle.ebpf_verify.proofs.Coming.{length-below}
use Rattle.ebpf_link.specs.declared.right.Judged.{Judged}
use Rattle.ebpf_link.specs.declared.right.Judged.TheVariants.{Misled, Refused, Unshown, Shown}
use Rattle.ebpf_link.specs.Apart.{Reaches}
use Rattle.ebpf_link.specs.Right.{IsJudged, IsShown, IsShownAt}

-- each of its slots was looked at
pub all_looked_at : (s : Subject) (entries : List EntryState) (refused : Option (ℕ × VerifyCode)) → IsTrace s entries refused → refused ≡ None
    → length entries ≡ length s.program
all_looked_at s entries refused h none =
    ap length h.all ∙ ap (λ (v : Option (ℕ × VerifyCode)). length (entries_below s.program (looked_at v (length s.program)))) (sym h.refusal ∙ none)
    ∙ length-below s.program (length s.program)

-- so the program is accepted, if its flow has no fault
pub accepted : (p q : List (Option Insn)) (decl : Decl) (rows : List KindRow) (entries : List EntryState) (refused : Option (ℕ × VerifyCode)) → q ≡ p
    → IsWellFormed q → flow_fault q ≡ None → AreForward q → AreRows rows → IsTrace (record { program = q; decl = decl; rows = rows }) entries refused → refused ≡ None
    → IsAccepted (record { program = p; decl = decl; rows = rows })
accepted p q decl rows entries refused same formed flow forward are h none =
    subst (λ (x : List (Option Insn)). IsAccepted (record { program = x; decl = decl; rows = rows })) same (record {
      formed = formed;
      flow = flow;
      forward = forward;
      accepted = sym h.refusal ∙ none;
      rows = are;
    })

-- nothing is at a slot past the end
shown_of : (q : List (Option Insn)) (word : ℤ) → ((slot : ℕ) → slot < length q → IsShownAt q word slot) → (slot : ℕ) (o : Option Insn) → insn_at q slot ≡ o
    → IsShownAt q word slot
shown_of q word each slot (Some i) at = each slot (insn_at_within q slot i at)
shown_of q word each slot None at = record {
  holds = λ dst is. absurd (cc);
  apart = λ other base bytes offset reaches. absurd (subst (λ (o : Option Insn). Reaches o base bytes offset) at reaches);
}

-- what is shown of each slot of a program is shown of all
pub all_shown : (q : List (Option Insn)) (word : ℤ) → ((slot : ℕ) → slot < length q → IsShownAt q word slot) → IsShown q word
all_shown q word each slot = shown_of q word each slot (insn_at q slot) refl

-- ---- what the checks said

pub shown_by : (s : Subject) (word : ℤ) (judged : Judged) → IsJudged s word judged → judged ≡ Shown → IsShown s.program word
shown_by s word judged h is = (subst (IsJudged s word) is h).1

pub unshown_by : (s : Subject) (word : ℤ) (judged : Judged) → IsJudged s word judged → IsAccepted s → (judged ≡ Shown → ⊥) → IsShown s.program word → ⊥
unshown_by s word Misled h accepted other shown = h accepted.flow
unshown_by s word Refused h accepted other shown = h accepted.accepted
unshown_by s word Unshown h accepted other shown = h.1 shown
unshown_by s word Shown h accepted other shown = other refl
