-- A name is a text.
use Rattle.std.proofs.Common.{◌≡◌, ℕ, ◌<◌, ◌≤◌, ◌==◌, Bool, true, false, ◌&&◌, nat_le, List, [], ◌∷◌, length, get_or, map, cond, refl, sym, ◌∙◌, ap, arith}
use Rattle.std.specs.List.{list_all, range_with_len}
use Rattle.std.specs.Str.{IsAscii, IsUtf8}
use Rattle.std.proofs.lemmas.Str.{IsUtf8-from_ascii}
use Rattle.std.proofs.lemmas.Str.Ascii.{IsAscii-nil, IsAscii-cons}
use Rattle.std.proofs.lemmas.Bool.{and_parts, and_from}
use Rattle.std.proofs.lemmas.Bool.Decides.{nat_tests}
use Rattle.std.proofs.lemmas.List.FromFn.{get_or-map-range_with_len}
use Rattle.ebpf_reader.specs.declared.names.TheConstants.{NAME_BYTES}
use Rattle.ebpf_reader.specs.Names.{is_name, is_name_byte}

name_byte_small : (c : ℕ) → is_name_byte c ≡ true → c < 128
name_byte_small c h = grind (arith, nat_tests)

name_bytes-IsAscii : (bs : List ℕ) → list_all is_name_byte bs ≡ true → IsAscii bs
name_bytes-IsAscii [] h = IsAscii-nil
name_bytes-IsAscii (c ∷ bs) h =
    let parts = and_parts (is_name_byte c) (list_all is_name_byte bs) h in
    IsAscii-cons c bs (name_byte_small c parts.0) (name_bytes-IsAscii bs parts.1)

pub is_name-IsUtf8 : (word : List ℕ) → is_name word ≡ true → IsUtf8 word
unfolding is_name
is_name-IsUtf8 word h = IsUtf8-from_ascii word (name_bytes-IsAscii word (and_parts _ _ h).1)

-- the test of a word whose length is right
pub is_name-bytes : (word : List ℕ) (test : Bool) → 0 < length word → length word ≤ 32 → test ≡ list_all is_name_byte word → test ≡ is_name word
unfolding is_name
is_name-bytes word test some few same =
    same ∙ sym (ap (λ (b : Bool). b && list_all is_name_byte word) (and_from (nat_le 1 (length word)) (nat_le (length word) 32) (grind (arith, nat_tests)) (grind (arith, nat_tests))))

-- ---- the table of the bytes

abbrev one_if : ℕ → ℕ
one_if c = cond (is_name_byte c) 1 0

table_is : NAME_BYTES ≡ map one_if (range_with_len 0 256)
table_is = refl

is_one : (b : Bool) → (cond b 1 0 == 1) ≡ b
is_one true = refl
is_one false = refl

pub table_says : (c : ℕ) → c < 256 → (get_or NAME_BYTES c 0 == 1) ≡ is_name_byte c
table_says c byte =
    ap (λ (bytes : List ℕ). get_or bytes c 0 == 1) table_is
    ∙ (ap (λ (n : ℕ). n == 1) (get_or-map-range_with_len one_if 0 256 c c 0 byte (omega arith)) ∙ is_one (is_name_byte c))
