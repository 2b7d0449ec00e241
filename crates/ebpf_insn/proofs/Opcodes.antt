-- The opcode of each form means that form, and every other number means none.
use Rattle.std.proofs.Common.{rules, ◌≡◌, ◌⊎◌, if◌then◌else◌, ℕ, zero, suc, ◌/◌, ◌%◌, ◌<◌, Bool, true, false, cond, not, eqb, nat_lt, ◌&&◌, ◌||◌}
use Rattle.std.proofs.Common.{◌==◌, List, [], ◌∷◌, Option, Some, None, is_none, refl, sym, ap, ◌∙◌, arith, inl, inr}
use Rattle.std.proofs.lemmas.Bool.{eqb-true, ne_eqb, and_parts, cases_lt}
use Rattle.std.proofs.lemmas.Bool.Decides.{nat_tests}
use Rattle.std.proofs.lemmas.Option.{same_Some, none-some}
use Rattle.std.specs.List.{AllByRecursion, list_all}
use Rattle.ebpf_insn.specs.declared.insn.Width.{Width}
use Rattle.ebpf_insn.specs.declared.insn.Width.TheVariants.{W32, W64}
use Rattle.ebpf_insn.specs.declared.insn.Size.{Size}
use Rattle.ebpf_insn.specs.declared.insn.Size.TheVariants.{B, H, W, D}
use Rattle.ebpf_insn.specs.declared.insn.Order.TheVariants.{Little, Big, Flip}
use Rattle.ebpf_insn.specs.declared.insn.AluOp.{AluOp}
use Rattle.ebpf_insn.specs.declared.insn.AluOp.TheVariants as op
use Rattle.ebpf_insn.specs.declared.insn.Cond.{Cond}
use Rattle.ebpf_insn.specs.declared.insn.Cond.TheVariants as condition
use Rattle.ebpf_insn.specs.declared.opcode.Operand.{Operand}
use Rattle.ebpf_insn.specs.declared.opcode.Operand.TheVariants.{Immediate, Register}
use Rattle.ebpf_insn.specs.declared.opcode.Form.{Form}
use Rattle.ebpf_insn.specs.declared.opcode.Form.TheVariants as form
use Rattle.ebpf_insn.specs.Encoding.{unsigned_of, has_load}
use Rattle.ebpf_insn.specs.Opcodes.{store_class, alu_class, jump_class, alu_code, condition_code, opcode_of, is_among, alu_ops, conditions, forms}
use Rattle.ebpf_insn.specs.Opcodes.{with_code, form_of, alu_op_of, condition_of}

-- ---- the first of a list that has a code

-- which side of a test was taken
chosen : {A : Type 0} (b : Bool) (x y z : A) → cond b x y ≡ z → ((b ≡ true) × (x ≡ z)) ⊎ ((b ≡ false) × (y ≡ z))
chosen true x y z e = inl (refl, e)
chosen false x y z e = inr (refl, e)

pub code_is : {A : Type 0} (code : A → ℕ) (n : ℕ) (items : List A) (a : A) → with_code code n items ≡ Some a → code a ≡ n
code_is code n [] a e = absurd (none-some a e)
code_is code n (b ∷ rest) a e =
    elim (chosen (eqb n (code b)) (Some b) (with_code code n rest) (Some a) e) [
      | inl t ↦ let same : b ≡ a = same_Some b a t.1 in rw (← same) (sym (eqb-true n (code b) t.0))
      | inr t ↦ code_is code n rest a t.1
    ]

-- what holds of each holds of the one that is found
pub holds_of : {A : Type 0} (P : A → Type 0) (code : A → ℕ) (n : ℕ) (items : List A) (a : A) → AllByRecursion P items → with_code code n items ≡ Some a → P a
holds_of P code n [] a all e = absurd (none-some a e)
holds_of P code n (b ∷ rest) a all e =
    elim (chosen (eqb n (code b)) (Some b) (with_code code n rest) (Some a) e) [
      | inl t ↦ let same : b ≡ a = same_Some b a t.1 in rw (← same) all.0
      | inr t ↦ holds_of P code n rest a all.1 t.1
    ]

-- ---- each form

-- a form that an opcode means
abbrev pub IsForm : Form → Type 0
IsForm (form.Alu width o operand) = unsigned_of o ≡ o
IsForm (form.Load size signed) = has_load size signed ≡ true
IsForm _ = Unit {0}

abbrev AluAgain : Width → Operand → AluOp → Type 0
AluAgain width operand o = form_of (opcode_of (form.Alu width o operand)) ≡ Some (form.Alu width (unsigned_of o) operand)

pub alu_again : (width : Width) (operand : Operand) (o : AluOp) → AluAgain width operand o
unfolding form_of
alu_again W32 Immediate o = elim o as (AluAgain W32 Immediate) [ op.Add ↦ refl | op.Sub ↦ refl | op.Mul ↦ refl | op.Div ↦ refl | op.SDiv ↦ refl | op.Or ↦ refl | op.And ↦ refl | op.Lsh ↦ refl | op.Rsh ↦ refl | op.Rem ↦ refl | op.SRem ↦ refl | op.Xor ↦ refl | op.Mov ↦ refl | op.Arsh ↦ refl ]
alu_again W32 Register o = elim o as (AluAgain W32 Register) [ op.Add ↦ refl | op.Sub ↦ refl | op.Mul ↦ refl | op.Div ↦ refl | op.SDiv ↦ refl | op.Or ↦ refl | op.And ↦ refl | op.Lsh ↦ refl | op.Rsh ↦ refl | op.Rem ↦ refl | op.SRem ↦ refl | op.Xor ↦ refl | op.Mov ↦ refl | op.Arsh ↦ refl ]
alu_again W64 Immediate o = elim o as (AluAgain W64 Immediate) [ op.Add ↦ refl | op.Sub ↦ refl | op.Mul ↦ refl | op.Div ↦ refl | op.SDiv ↦ refl | op.Or ↦ refl | op.And ↦ refl | op.Lsh ↦ refl | op.Rsh ↦ refl | op.Rem ↦ refl | op.SRem ↦ refl | op.Xor ↦ refl | op.Mov ↦ refl | op.Arsh ↦ refl ]
alu_again W64 Register o = elim o as (AluAgain W64 Register) [ op.Add ↦ refl | op.Sub ↦ refl | op.Mul ↦ refl | op.Div ↦ refl | op.SDiv ↦ refl | op.Or ↦ refl | op.And ↦ refl | op.Lsh ↦ refl | op.Rsh ↦ refl | op.Rem ↦ refl | op.SRem ↦ refl | op.Xor ↦ refl | op.Mov ↦ refl | op.Arsh ↦ refl ]

abbrev Again : Form → Type 0
Again f = form_of (opcode_of f) ≡ Some f

pub branch_again : (width : Width) (operand : Operand) (c : Cond) → Again (form.Branch width c operand)
unfolding form_of
branch_again W32 Immediate c = elim c as (λ k. Again (form.Branch W32 k Immediate)) [
  | condition.Eq ↦ refl
  | condition.Ne ↦ refl
  | condition.Gt ↦ refl
  | condition.Ge ↦ refl
  | condition.Lt ↦ refl
  | condition.Le ↦ refl
  | condition.Set ↦ refl
  | condition.SGt ↦ refl
  | condition.SGe ↦ refl
  | condition.SLt ↦ refl
  | condition.SLe ↦ refl
]
branch_again W32 Register c = elim c as (λ k. Again (form.Branch W32 k Register)) [
  | condition.Eq ↦ refl
  | condition.Ne ↦ refl
  | condition.Gt ↦ refl
  | condition.Ge ↦ refl
  | condition.Lt ↦ refl
  | condition.Le ↦ refl
  | condition.Set ↦ refl
  | condition.SGt ↦ refl
  | condition.SGe ↦ refl
  | condition.SLt ↦ refl
  | condition.SLe ↦ refl
]
branch_again W64 Immediate c = elim c as (λ k. Again (form.Branch W64 k Immediate)) [
  | condition.Eq ↦ refl
  | condition.Ne ↦ refl
  | condition.Gt ↦ refl
  | condition.Ge ↦ refl
  | condition.Lt ↦ refl
  | condition.Le ↦ refl
  | condition.Set ↦ refl
  | condition.SGt ↦ refl
  | condition.SGe ↦ refl
  | condition.SLt ↦ refl
  | condition.SLe ↦ refl
]
branch_again W64 Register c = elim c as (λ k. Again (form.Branch W64 k Register)) [
  | condition.Eq ↦ refl
  | condition.Ne ↦ refl
  | condition.Gt ↦ refl
  | condition.Ge ↦ refl
  | condition.Lt ↦ refl
  | condition.Le ↦ refl
  | condition.Set ↦ refl
  | condition.SGt ↦ refl
  | condition.SGe ↦ refl
  | condition.SLt ↦ refl
  | condition.SLe ↦ refl
]

load_again : (size : Size) (signed : Bool) → has_load size signed ≡ true → Again (form.Load size signed)
unfolding form_of
load_again size false h = elim size as (λ k. Again (form.Load k false)) [ B ↦ refl | H ↦ refl | W ↦ refl | D ↦ refl ]
load_again B true h = refl
load_again H true h = refl
load_again W true h = refl
load_again D true h = absurd cc

store_again : (size : Size) (operand : Operand) → Again (form.Store size operand)
unfolding form_of
store_again size Immediate = elim size as (λ k. Again (form.Store k Immediate)) [ B ↦ refl | H ↦ refl | W ↦ refl | D ↦ refl ]
store_again size Register = elim size as (λ k. Again (form.Store k Register)) [ B ↦ refl | H ↦ refl | W ↦ refl | D ↦ refl ]

pub form_again : (f : Form) → IsForm f → Again f
unfolding form_of
form_again (form.Alu width o operand) h = alu_again width operand o ∙ ap (λ (k : AluOp). Some (form.Alu width k operand)) h
form_again (form.Neg W32) h = refl
form_again (form.Neg W64) h = refl
form_again (form.Swap Little) h = refl
form_again (form.Swap Big) h = refl
form_again (form.Swap Flip) h = refl
form_again form.Wide h = refl
form_again (form.Load size signed) h = load_again size signed h
form_again (form.Store size operand) h = store_again size operand
form_again form.Jump h = refl
form_again form.JumpFar h = refl
form_again (form.Branch width c operand) h = branch_again width operand c
form_again form.Call h = refl
form_again form.Exit h = refl

-- a number that is the opcode of a form
pub form_found : (n : ℕ) (f : Form) → IsForm f → opcode_of f ≡ n → form_of n ≡ Some f
form_found n f h e = ap form_of (sym e) ∙ form_again f h

-- the form that is found has this opcode, and is one that an opcode means
pub opcode_is : (n : ℕ) (f : Form) → form_of n ≡ Some f → opcode_of f ≡ n
unfolding form_of
opcode_is n f e = code_is opcode_of n forms f e

-- what a test says of each it says of the one that is found
passes : {A : Type 0} (test : A → Bool) (code : A → ℕ) (n : ℕ) (items : List A) (a : A) → list_all test items ≡ true
    → with_code code n items ≡ Some a → test a ≡ true
passes test code n [] a all e = absurd (none-some a e)
passes test code n (b ∷ rest) a all e =
    let parts = and_parts (test b) (list_all test rest) all in
    elim (chosen (eqb n (code b)) (Some b) (with_code code n rest) (Some a) e) [
      | inl t ↦ let same : b ≡ a = same_Some b a t.1 in rw (← same) parts.0
      | inr t ↦ passes test code n rest a parts.1 t.1
    ]

pub opcode_below : (n : ℕ) (f : Form) → form_of n ≡ Some f → n < 256
unfolding form_of
opcode_below n f e =
    let below : nat_lt (opcode_of f) 256 ≡ true = passes (λ g. nat_lt (opcode_of g) 256) opcode_of n forms f refl e in
    let same : opcode_of f ≡ n = code_is opcode_of n forms f e in
    let lt : opcode_of f < 256 = grind (arith, nat_tests) in
    omega arith

pub is_form : (n : ℕ) (f : Form) → form_of n ≡ Some f → IsForm f
unfolding form_of
is_form n f e = holds_of IsForm opcode_of n forms f (search rules) e

pub alu_op_is : (n : ℕ) (o : AluOp) → alu_op_of n ≡ Some o → (alu_code o ≡ n) × (unsigned_of o ≡ o)
alu_op_is n o e = (code_is alu_code n alu_ops o e, holds_of (λ k. unsigned_of k ≡ k) alu_code n alu_ops o (refl, (refl, (refl, (refl, (refl, (refl, (refl, (refl, (refl, (refl, (refl, (refl, tt)))))))))))) e)

-- ---- the numbers that mean no form

-- what each class asks for
abbrev pub has_no_form : ℕ → Bool
has_no_form n =
    let class = n % 8 in
    if class == 0 then not (n == 0x18) else (
    if class == 1 then not (n / 32 == 3) && not (n / 32 == 4 && not (n / 8 % 4 == 3)) else (
    if class == 2 || class == 3 then not (n / 32 == 3) else (
    if class == 4 || class == 7 then not (is_among n (0x84 ∷ 0x87 ∷ 0xd4 ∷ 0xdc ∷ 0xd7 ∷ [])) && is_none (alu_op_of (n / 16)) else (
    not (is_among n (0x05 ∷ 0x06 ∷ 0x85 ∷ 0x95 ∷ [])) && is_none (condition_of (n / 16))))))

unfoldable all_below : (ℕ → Bool) → ℕ → Bool
all_below test zero = true
all_below test (suc n) = test n && all_below test n

all_below_at : (test : ℕ → Bool) (n k : ℕ) → all_below test n ≡ true → k < n → test k ≡ true
unfolding all_below
all_below_at test zero k all lt = absurd (omega arith)
all_below_at test (suc n) k all lt =
    let parts = and_parts (test n) (all_below test n) all in
    elim (cases_lt k n) [
      | inl below ↦ all_below_at test n k parts.1 below
      | inr above ↦ let e : k ≡ n = omega arith in rw e parts.0
    ]

none_of : {A : Type 0} (o : Option A) → is_none o ≡ true → o ≡ None
none_of None e = refl
none_of (Some a) e = absurd cc

abbrev bears_out : ℕ → Bool
bears_out n = not (has_no_form n) || is_none (form_of n)

computed : all_below bears_out 256 ≡ true
unfolding form_of all_below
computed = refl

pub no_form : (n : ℕ) → n < 256 → has_no_form n ≡ true → form_of n ≡ None
no_form n lt none =
    let both : bears_out n ≡ true = all_below_at bears_out 256 n computed lt in
    let here : is_none (form_of n) ≡ true = rw none at both in
    none_of (form_of n) here

pub condition_is : (n : ℕ) (k : Cond) → condition_of n ≡ Some k → condition_code k ≡ n
condition_is n k e = code_is condition_code n conditions k e

pub store_none : (n : ℕ) (operand : Operand) → n < 256 → n % 8 ≡ store_class operand → (n / 32 ≡ 3 → ⊥) → form_of n ≡ None
store_none n Immediate lt class mode = no_form n lt (rw (class, ne_eqb (n / 32) 3 mode) refl)
store_none n Register lt class mode = no_form n lt (rw (class, ne_eqb (n / 32) 3 mode) refl)

pub alu_none : (n : ℕ) (width : Width) → n < 256 → n % 8 ≡ alu_class width
    → is_among n (0x84 ∷ 0x87 ∷ 0xd4 ∷ 0xdc ∷ 0xd7 ∷ []) ≡ false → alu_op_of (n / 16) ≡ None → form_of n ≡ None
alu_none n W32 lt class other none = no_form n lt (rw (class, other, none) refl)
alu_none n W64 lt class other none = no_form n lt (rw (class, other, none) refl)

pub jump_none : (n : ℕ) (width : Width) → n < 256 → n % 8 ≡ jump_class width → is_among n (0x05 ∷ 0x06 ∷ 0x85 ∷ 0x95 ∷ []) ≡ false
    → condition_of (n / 16) ≡ None → form_of n ≡ None
jump_none n W32 lt class other none = no_form n lt (rw (class, other, none) refl)
jump_none n W64 lt class other none = no_form n lt (rw (class, other, none) refl)
