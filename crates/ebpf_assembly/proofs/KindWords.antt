-- The words of kinds whose numbers of bits are written in decimal.
use Rattle.std.proofs.Common.{rules, arith, ◌≡◌, ◌≢◌, ℕ, ◌<◌, List, [], ◌∷◌, ◌++◌, refl, sym, ap, ◌∙◌, subst, Bool, true, false}
use Rattle.std.specs.Prelude.{codes, decimal, not, ◌&&◌, ◌||◌, ◌==◌, nat_lt}
use Rattle.std.specs.List.{list_all}
use Rattle.std.specs.Str.{IsAscii, IsUtf8}
use Rattle.std.proofs.lemmas.Bool.Decides.{nat_tests}
use Rattle.std.proofs.lemmas.Str.{IsUtf8-from_ascii}
use Rattle.std.proofs.lemmas.Str.Ascii.{IsAscii-nil, IsAscii-cons}
use Rattle.ebpf_insn.specs.declared.insn.Width.{Width}
use Rattle.ebpf_insn.specs.declared.insn.Width.TheVariants.{W32, W64}
use Rattle.ebpf_insn.specs.declared.insn.Order.{Order}
use Rattle.ebpf_insn.specs.Fields.{is_move_of, is_swap_of}
use Rattle.ebpf_text.specs.Names.{width_name, order_name}
use Rattle.ebpf_assembly.specs.Lines.{is_gap, is_newline}
use Rattle.ebpf_assembly.specs.Kinds.{IsKind, kind_name, sample}
use Rattle.ebpf_assembly.specs.declared.kind.Kind.{Kind}
use Rattle.ebpf_assembly.proofs.PlainTexts.{is_plain, IsPlain, of_mnemonic}
use Rattle.ebpf_assembly.proofs.Shapes.{eight, sixteen, thirty_two, sixty_four, swap_cases, move_cases}

-- the words
pub swap_16 : (o : Order) → order_name o ++ decimal 16 ≡ order_name o ++ codes "16"
swap_16 o = ap (λ (xs : List ℕ). order_name o ++ xs) sixteen

pub swap_32 : (o : Order) → order_name o ++ decimal 32 ≡ order_name o ++ codes "32"
swap_32 o = ap (λ (xs : List ℕ). order_name o ++ xs) thirty_two

pub swap_64 : (o : Order) → order_name o ++ decimal 64 ≡ order_name o ++ codes "64"
swap_64 o = ap (λ (xs : List ℕ). order_name o ++ xs) sixty_four

abbrev moves : List ℕ → Width → List ℕ
moves bits width = codes "movs" ++ (bits ++ (codes "_" ++ width_name width))

pub move_8 : (w : Width) → moves (decimal 8) w ≡ moves (codes "8") w
move_8 w = ap (λ (xs : List ℕ). moves xs w) eight

pub move_16 : (w : Width) → moves (decimal 16) w ≡ moves (codes "16") w
move_16 w = ap (λ (xs : List ℕ). moves xs w) sixteen

pub move_32 : (w : Width) → moves (decimal 32) w ≡ moves (codes "32") w
move_32 w = ap (λ (xs : List ℕ). moves xs w) thirty_two

pub no_swap : (word : List ℕ) → ((o : Order) → word ≢ order_name o ++ codes "16")
    → ((o : Order) → word ≢ order_name o ++ codes "32") → ((o : Order) → word ≢ order_name o ++ codes "64")
    → (o : Order) (bits : ℕ) → is_swap_of bits ≡ true → word ≢ order_name o ++ decimal bits
no_swap word a b c o bits d =
    swap_cases (λ (n : ℕ). word ≢ order_name o ++ decimal n) (λ e. a o (e ∙ swap_16 o)) (λ e. b o (e ∙ swap_32 o)) (λ e. c o (e ∙ swap_64 o)) bits d

pub no_move : (word : List ℕ) → word ≢ codes "movs8_32" → word ≢ codes "movs16_32" → word ≢ codes "movs8_64"
    → word ≢ codes "movs16_64" → word ≢ codes "movs32_64"
    → (w : Width) (bits : ℕ) → is_move_of w bits ≡ true → word ≢ moves (decimal bits) w
no_move word a b c d e w bits h =
    move_cases (λ (v : Width) (n : ℕ). word ≢ moves (decimal n) v) (λ f. a (f ∙ move_8 W32)) (λ f. b (f ∙ move_16 W32)) (λ f. c (f ∙ move_8 W64))
    (λ f. d (f ∙ move_16 W64)) (λ f. e (f ∙ move_32 W64)) w bits h

-- they are ASCII
parts : (a b : Bool) → (a && b) ≡ true → (a ≡ true) × (b ≡ true)
parts true b e = (refl, e)
parts false b e = search (rules, e)

below : (c : ℕ) → nat_lt c 128 ≡ true → c < 128
below c e = grind (arith, nat_tests)

ascii : (xs : List ℕ) → IsPlain xs → IsAscii xs
ascii [] e = IsAscii-nil
ascii (x ∷ xs) e = IsAscii-cons x xs (below x (parts (nat_lt x 128) (not (is_gap x || is_newline x || x == 59)) both.0).0) (ascii xs both.1) where
  both : (is_plain x ≡ true) × (list_all is_plain xs ≡ true)
  both = parts (is_plain x) (list_all is_plain xs) e

pub no_kind : (word : List ℕ) → (IsUtf8 word → ⊥) → (k : Kind) → IsKind k → word ≢ kind_name k
no_kind word not_utf8 k d e = not_utf8 (subst IsUtf8 (sym e) (IsUtf8-from_ascii (kind_name k) (ascii (kind_name k) (of_mnemonic (sample k) d))))
