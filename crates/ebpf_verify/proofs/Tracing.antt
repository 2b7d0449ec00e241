-- The entries that are kept, one slot after another.
use Rattle.std.proofs.Common.{◌≡◌, ℕ, suc, ◌+◌, ◌++◌, List, [], ◌∷◌, length, Option, Some, None, refl, sym, ap, subst, ◌∙◌, add-one}
use Rattle.ebpf_insn.specs.declared.insn.Insn.{Insn}
use Rattle.ebpf_insn.specs.Faults.{lowest}
use Rattle.ebpf_verify.specs.declared.entry.EntryState.{EntryState}
use Rattle.ebpf_verify.specs.declared.fault.VerifyCode.{VerifyCode}
use Rattle.ebpf_verify.specs.declared.fault.VerifyFault.{VerifyFault}
use Rattle.ebpf_verify.specs.declared.fault.VerifyFault.TheVariants.{Refused}
use Rattle.ebpf_verify.specs.Subject.{Subject}
use Rattle.ebpf_verify.specs.Entry.{arrived}
use Rattle.ebpf_verify.specs.Traces.{entries_below, looked_at, IsTrace}
use Rattle.ebpf_verify.specs.Verdict.{IsSlotFault, IsVerifyFault, refusal_at, verdict}

-- before the first slot
pub entries_below-zero : (p : List (Option Insn)) → entries_below p 0 ≡ []
unfolding entries_below
entries_below-zero p = refl

-- with the entry of one more slot
pub entries_below-more : (p : List (Option Insn)) (slot : ℕ) (seen : List EntryState) (here : EntryState)
    → here ≡ arrived p slot slot → seen ≡ entries_below p slot → seen ++ here ∷ [] ≡ entries_below p (slot + 1)
unfolding entries_below
entries_below-more p slot seen here e f =
    ap (λ (es : List EntryState). es ++ here ∷ []) f
    ∙ ap (λ (a : EntryState). entries_below p slot ++ a ∷ []) e
    ∙ ap (entries_below p) (sym (add-one slot))

-- the refused slot is the last one that is kept
pub refused_trace : (s : Subject) (seen : List EntryState) (slot at : ℕ) (code : VerifyCode) (refusal : Option VerifyCode) (fault : VerifyFault)
    → fault ≡ Refused at code → IsSlotFault slot refusal fault → IsVerifyFault s fault
    → seen ≡ entries_below s.program (slot + 1) → IsTrace s seen (Some (at, code))
refused_trace s seen slot at code refusal fault is here verdict_is kept =
    let same = (subst (IsSlotFault slot refusal) is here).0 in
    let found = subst (IsVerifyFault s) is verdict_is in record {
      refusal = sym found;
      all =
          kept ∙ ap (entries_below s.program) (add-one slot ∙ ap suc (sym same))
          ∙ ap (λ (o : Option (ℕ × VerifyCode)). entries_below s.program (looked_at o (length s.program))) (sym found);
    }

-- where no slot is refused, all are kept
pub whole_trace : (s : Subject) (seen : List EntryState) (slots : ℕ) → lowest (refusal_at s) slots ≡ None → slots ≡ length s.program
    → seen ≡ entries_below s.program slots → IsTrace s seen None
whole_trace s seen slots fine all kept =
    let accepted : verdict s ≡ None = subst (λ (n : ℕ). lowest (refusal_at s) n ≡ None) all fine in record {
      refusal = sym accepted;
      all = kept ∙ (ap (entries_below s.program) all
          ∙ ap (λ (o : Option (ℕ × VerifyCode)). entries_below s.program (looked_at o (length s.program))) (sym accepted));
    }
