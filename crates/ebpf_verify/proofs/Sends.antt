-- States that are sent along the edges of an instruction.
use Rattle.std.proofs.Common.{◌≡◌, ℕ, zero, suc, Bool, true, false, List, [], ◌∷◌, set, Option, Some, None, IfSome, refl, sym, ap, ◌∙◌}
use Rattle.std.proofs.lemmas.Bool.{eqb-true}
use Rattle.ebpf_flow.specs.Edges.{leads_to}
use Rattle.std.proofs.lemmas.List.{set-set}
use Rattle.ebpf_insn.specs.declared.register.Reg.{Reg}
use Rattle.ebpf_insn.specs.declared.insn.Source.{Source}
use Rattle.ebpf_insn.specs.declared.insn.Source.TheVariants.{Register, Imm}
use Rattle.ebpf_insn.specs.Registers.{number_of}
use Rattle.ebpf_range.specs.declared.range.Range.{Range}
use Rattle.ebpf_state.specs.declared.value.Abs.{Abs}
use Rattle.ebpf_state.specs.declared.value.Abs.TheVariants.{Num}
use Rattle.ebpf_state.specs.StateView.{StateView}
use Rattle.ebpf_state.specs.States.{with_register}
use Rattle.ebpf_verify.specs.declared.entry.EntryState.{EntryState}
use Rattle.ebpf_verify.specs.Branches.{with_operands}
use Rattle.ebpf_verify.specs.Entry.{with_edge}

-- first along the jump, then along the fall
pub sent_twice : (fall jump : Bool) (a b : Option StateView) (c d : Option StateView) (e0 e1 e2 : EntryState)
    → e2 ≡ with_edge a fall e1 → e1 ≡ with_edge b jump e0 → a ≡ c → b ≡ d → e2 ≡ with_edge c fall (with_edge d jump e0)
sent_twice fall jump a b c d e0 e1 e2 p q ac bd =
    p ∙ (ap (λ (s : Option StateView). with_edge s fall e1) ac ∙ ap (with_edge c fall) (q ∙ ap (λ (s : Option StateView). with_edge s jump e0) bd))

-- two places of a list that are written twice have what was written last
set_both : (xs : List Abs) (i j : ℕ) (a b c d : Abs) → set (set (set (set xs i a) j b) i c) j d ≡ set (set xs i c) j d
set_both [] i j a b c d = refl
set_both (x ∷ xs) zero zero a b c d = refl
set_both (x ∷ xs) zero (suc j) a b c d = ap (λ (ys : List Abs). c ∷ ys) (set-set xs j b d)
set_both (x ∷ xs) (suc i) zero a b c d = ap (λ (ys : List Abs). d ∷ ys) (set-set xs i a c)
set_both (x ∷ xs) (suc i) (suc j) a b c d = ap (λ (ys : List Abs). x ∷ ys) (set_both xs i j a b c d)

abbrev with_registers : StateView → List Abs → Option StateView
with_registers s registers = Some (record s { registers = registers })

-- what a branch's operands were set to before is not read again
pub set_again : (left : Reg) (right : Source) (old new : Range × Range) (s t : StateView)
    → with_operands left right (Some old) s ≡ Some t → with_operands left right (Some new) t ≡ with_operands left right (Some new) s
set_again left (Imm z) old new s t e =
    let is : with_register s left (Num old.0) ≡ t = cc in
    rw (← is) (ap (with_registers s) (set-set s.registers (number_of left) (Num old.0) (Num new.0)))
set_again left (Register r) old new s t e =
    let is : with_register (with_register s left (Num old.0)) r (Num old.1) ≡ t = cc in
    rw (← is) (ap (with_registers s) (set_both s.registers (number_of left) (number_of r) (Num old.0) (Num old.1) (Num new.0) (Num new.1)))

-- a slot to which one edge leads alone gets the same in either order
pub either_first : (fall jump : Bool) (a b : Option StateView) (e : EntryState) → (fall ≡ true → jump ≡ true → ⊥)
    → with_edge b jump (with_edge a fall e) ≡ with_edge a fall (with_edge b jump e)
either_first fall jump None b e apart = refl
either_first fall jump (Some a) None e apart = refl
either_first true true (Some a) (Some b) e apart = absurd (apart refl refl)
either_first true false (Some a) (Some b) e apart = refl
either_first false true (Some a) (Some b) e apart = refl
either_first false false (Some a) (Some b) e apart = refl

-- edges to two slots don't both lead to one
pub two_targets : (fall jump : Option ℕ) (t : ℕ) → IfSome fall (λ to. IfSome jump (λ target. (to ≡ target) → ⊥))
    → leads_to fall t ≡ true → leads_to jump t ≡ true → ⊥
two_targets None jump t apart falls jumps = let never : ⊥ = cc in absurd never
two_targets (Some to) None t apart falls jumps = let never : ⊥ = cc in absurd never
two_targets (Some to) (Some target) t apart falls jumps = apart (sym (eqb-true t to falls) ∙ eqb-true t target jumps)
