-- Texts that are words: each byte is ASCII, and none separates words, ends a line or begins a comment.
use Rattle.std.proofs.Common.{rules, arith, ◌≡◌, ◌≢◌, ℕ, suc, ◌<◌, ◌^◌, List, [], ◌∷◌, ◌++◌, refl, ap, ◌∙◌, Bool, true, false}
use Rattle.std.specs.Prelude.{ℤ, pos, negsuc, FitsSigned, codes, decimal, not, ◌&&◌, ◌||◌, ◌==◌, nat_lt}
use Rattle.std.specs.Fmt.{signed_decimal}
use Rattle.std.specs.Int.{IsInRange, w16, w32}
use Rattle.std.specs.Int.Signed.{mag}
use Rattle.std.specs.List.{list_all, AllByRecursion}
use Rattle.std.specs.Str.Parse.{AllDigits}
use Rattle.std.proofs.lemmas.Bool.Decides.{nat_tests}
use Rattle.std.proofs.lemmas.Fmt.{digits_decimal}
use Rattle.std.proofs.lemmas.List.Folds.{list_all-append}
use Rattle.std.proofs.lemmas.Str.Parse.{numerals_by_value, tells_digits, digit_from_value}
use Rattle.ebpf_insn.specs.declared.register.Reg.{Reg}
use Rattle.ebpf_insn.specs.declared.register.Reg.TheVariants.{R0}
use Rattle.ebpf_insn.specs.declared.insn.Insn.{Insn}
use Rattle.ebpf_insn.specs.declared.insn.Insn.TheVariants as insn
use Rattle.ebpf_insn.specs.declared.insn.Width.{Width}
use Rattle.ebpf_insn.specs.declared.insn.Width.TheVariants.{W32, W64}
use Rattle.ebpf_insn.specs.declared.insn.Size.{Size}
use Rattle.ebpf_insn.specs.declared.insn.Size.TheVariants as size
use Rattle.ebpf_insn.specs.declared.insn.Order.{Order}
use Rattle.ebpf_insn.specs.declared.insn.Order.TheVariants.{Little}
use Rattle.ebpf_insn.specs.declared.insn.AluOp.{AluOp}
use Rattle.ebpf_insn.specs.declared.insn.AluOp.TheVariants as op
use Rattle.ebpf_insn.specs.declared.insn.Cond.{Cond}
use Rattle.ebpf_insn.specs.declared.insn.Cond.TheVariants as cond
use Rattle.ebpf_insn.specs.declared.insn.Source.{Source}
use Rattle.ebpf_insn.specs.declared.insn.Source.TheVariants.{Register, Imm}
use Rattle.ebpf_insn.specs.Fields.{is_move_of, is_swap_of}
use Rattle.ebpf_insn.specs.Encoding.{IsSource, IsDefined}
use Rattle.ebpf_text.specs.Names.{width_name, size_name, order_name, alu_name, cond_name}
use Rattle.ebpf_text.specs.Mnemonics.{mnemonic_of}
use Rattle.ebpf_text.specs.Operands.{register_text, source_text, offset_text, place_text, operands_of}
use Rattle.ebpf_assembly.specs.Lines.{is_gap, is_newline}
use Rattle.ebpf_assembly.proofs.RegisterNames.{name_of, names}

abbrev pub is_plain : ℕ → Bool
is_plain c = nat_lt c 128 && not (is_gap c || is_newline c || c == 59)

abbrev pub IsPlain : List ℕ → Type 0
IsPlain xs = list_all is_plain xs ≡ true

both : (a b : Bool) → a ≡ true → b ≡ true → (a && b) ≡ true
both true b e f = f
both false b e f = e

pub joined : (xs ys : List ℕ) → IsPlain xs → IsPlain ys → IsPlain (xs ++ ys)
joined xs ys e f = list_all-append is_plain xs ys ∙ both (list_all is_plain xs) (list_all is_plain ys) e f

-- digits
not_at : (c k : ℕ) → c ≢ k → (c == k) ≡ false
not_at c k e = search (rules, e)

tests : (a b c d e f : Bool) → a ≡ false → b ≡ false → c ≡ false → d ≡ false → e ≡ false → f ≡ false → not ((a || b || c || d) || e || f) ≡ true
tests false false false false false false _ _ _ _ _ _ = refl
tests true _ _ _ _ _ p _ _ _ _ _ = absurd (tt_is p) where
  tt_is : true ≡ false → ⊥
  tt_is q = search (rules, q)
tests _ true _ _ _ _ _ p _ _ _ _ = search (rules, p)
tests _ _ true _ _ _ _ _ p _ _ _ = search (rules, p)
tests _ _ _ true _ _ _ _ _ p _ _ = search (rules, p)
tests _ _ _ _ true _ _ _ _ _ p _ = search (rules, p)
tests _ _ _ _ _ true _ _ _ _ _ p = search (rules, p)

below : (c : ℕ) → IsInRange 48 57 c → nat_lt c 128 ≡ true
below c r = grind (arith, nat_tests)

digit : (c : ℕ) → IsInRange 48 57 c → is_plain c ≡ true
digit c r = both (nat_lt c 128) (not (is_gap c || is_newline c || c == 59)) (below c r)
    (tests (c == 32) (c == 9) (c == 13) (c == 44) (c == 10) (c == 59)
    (not_at c 32 (λ e. omega (arith, r, e))) (not_at c 9 (λ e. omega (arith, r, e))) (not_at c 13 (λ e. omega (arith, r, e)))
    (not_at c 44 (λ e. omega (arith, r, e))) (not_at c 10 (λ e. omega (arith, r, e))) (not_at c 59 (λ e. omega (arith, r, e))))

all_digits : (ds : List ℕ) → AllDigits 10 ds → IsPlain ds
all_digits [] d = refl
all_digits (c ∷ cs) d = both (is_plain c) (list_all is_plain cs) (digit c (digit_from_value c d.0)) (all_digits cs d.1)

pub of_decimal : (n : ℕ) → n < 2 ^ 64 → IsPlain (decimal n)
of_decimal n small = all_digits (decimal n) (digits_decimal (numerals_by_value (AllDigits 10) tells_digits) n small)

pub of_signed : (z : ℤ) → mag z < 2 ^ 63 → IsPlain (signed_decimal z)
of_signed (pos n) small = of_decimal n (omega (arith, small))
of_signed (negsuc n) small = of_decimal (suc n) (omega (arith, small))

pub of_offset : (z : ℤ) → mag z < 2 ^ 63 → IsPlain (offset_text z)
of_offset (pos n) small = of_decimal n (omega (arith, small))
of_offset (negsuc n) small = of_decimal (suc n) (omega (arith, small))

named : (r : Reg) → IsPlain (name_of r)
named R0 = refl
named _ = refl

pub of_register : (r : Reg) → IsPlain (register_text r)
of_register r = ap (list_all is_plain) (names r) ∙ named r

pub small32 : (z : ℤ) → FitsSigned w32 z → mag z < 2 ^ 63
small32 z fits = search (rules, fits)

pub small16 : (z : ℤ) → FitsSigned w16 z → mag z < 2 ^ 63
small16 z fits = search (rules, fits)

pub of_source : (s : Source) → IsSource s → IsPlain (source_text s)
of_source (Register r) is = of_register r
of_source (Imm z) is = of_signed z (small32 z is)

pub of_place : (r : Reg) (z : ℤ) → FitsSigned w16 z → IsPlain (place_text r z)
of_place r z fits =
    joined (register_text r) (offset_text z ++ codes "]") (of_register r) (joined (offset_text z) (codes "]") (of_offset z (small16 z fits)) refl)

of_width : (w : Width) → IsPlain (width_name w)
of_width W32 = refl
of_width W64 = refl

of_size : (s : Size) → IsPlain (size_name s)
of_size size.B = refl
of_size _ = refl

of_order : (o : Order) → IsPlain (order_name o)
of_order Little = refl
of_order _ = refl

of_alu : (o : AluOp) → IsPlain (alu_name o)
of_alu op.Add = refl
of_alu _ = refl

of_cond : (c : Cond) → IsPlain (cond_name c)
of_cond cond.Eq = refl
of_cond _ = refl

few_move : (w : Width) (bits : ℕ) → is_move_of w bits ≡ true → bits < 2 ^ 64
few_move W32 bits d = search (rules, d)
few_move W64 bits d = search (rules, d)

few_swap : (bits : ℕ) → is_swap_of bits ≡ true → bits < 2 ^ 64
few_swap bits d = search (rules, d)

pub of_mnemonic : (i : Insn) → IsDefined i → IsPlain (mnemonic_of i)
of_mnemonic (insn.Alu width o dst src) d = joined (alu_name o) (width_name width) (of_alu o) (of_width width)
of_mnemonic (insn.Sext width bits dst src) d =
    joined (codes "movs") (decimal bits ++ (codes "_" ++ width_name width)) refl
    (joined (decimal bits) (codes "_" ++ width_name width) (of_decimal bits (few_move width bits d))
    (joined (codes "_") (width_name width) refl (of_width width)))
of_mnemonic (insn.Neg width dst) d = joined (codes "neg") (width_name width) refl (of_width width)
of_mnemonic (insn.Swap order bits dst) d = joined (order_name order) (decimal bits) (of_order order) (of_decimal bits (few_swap bits d))
of_mnemonic (insn.Wide dst value) d = refl
of_mnemonic (insn.Load s false dst base offset) d = joined (codes "ldx") (size_name s) refl (of_size s)
of_mnemonic (insn.Load s true dst base offset) d = joined (codes "ldxs") (size_name s) refl (of_size s)
of_mnemonic (insn.Store s base offset (Imm z)) d = joined (codes "st") (size_name s) refl (of_size s)
of_mnemonic (insn.Store s base offset (Register r)) d = joined (codes "stx") (size_name s) refl (of_size s)
of_mnemonic (insn.Jump offset) d = refl
of_mnemonic (insn.JumpFar offset) d = refl
of_mnemonic (insn.Branch width c left right offset) d = joined (cond_name c) (width_name width) (of_cond c) (of_width width)
of_mnemonic (insn.Call number) d = refl
of_mnemonic insn.Exit d = refl

pub of_operands : (i : Insn) → IsDefined i → AllByRecursion IsPlain (operands_of i)
of_operands (insn.Alu width o dst src) d = (of_register dst, (of_source src d, tt))
of_operands (insn.Sext width bits dst src) d = (of_register dst, (of_register src, tt))
of_operands (insn.Neg width dst) d = (of_register dst, tt)
of_operands (insn.Swap order bits dst) d = (of_register dst, tt)
of_operands (insn.Wide dst value) d = (of_register dst, (of_decimal value d, tt))
of_operands (insn.Load s signed dst base offset) d = (of_register dst, (of_place base offset d.1, tt))
of_operands (insn.Store s base offset src) d = (of_place base offset d.1, (of_source src d.0, tt))
of_operands (insn.Jump offset) d = (of_offset offset (small16 offset d), tt)
of_operands (insn.JumpFar offset) d = (of_offset offset (small32 offset d), tt)
of_operands (insn.Branch width c left right offset) d = (of_register left, (of_source right d.0, (of_offset offset (small16 offset d.1), tt)))
of_operands (insn.Call number) d = (of_signed number (small32 number d), tt)
of_operands insn.Exit d = tt
