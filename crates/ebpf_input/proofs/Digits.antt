-- A text that is decoded holds no blank, so it is its own copy without them.
use Rattle.std.proofs.Common.{◌≡◌, ℕ, ◌≤◌, nat_lt, true, false, not, List, [], ◌∷◌, filter, Result, Ok, Err, Option, Some, None, is_some}
use Rattle.std.proofs.Common.{option_map, unwrap_or, refl, sym, ap, ◌∙◌, arith}
use Rattle.std.proofs.lemmas.Bool.Decides.{nat_tests}
use Rattle.std.specs.List.{AllPass}
use Rattle.std.proofs.lemmas.List.Elements.{All-head, All-tail}
use Rattle.hex.specs.Hex.{is_hex_digit, decode_of}
use Rattle.hex.specs.declared.error.FromHexError.{FromHexError}
use Rattle.hex.proofs.HexLemmas.{decode_of-ok}
use Rattle.ebpf_command.specs.HexText.{hex_bytes, bytes_or_none}
use Rattle.ebpf_input.specs.ProgramText.{is_blank, program_bytes}

abbrev IsDigit : ℕ → Type 0
IsDigit c = is_hex_digit c ≡ true

no_blank : (c : ℕ) → IsDigit c → not (is_blank c) ≡ true
no_blank c digit = grind (arith)

all_kept : (text : List ℕ) → AllPass is_hex_digit text → filter (λ c. not (is_blank c)) text ≡ text
all_kept [] all = refl
all_kept (c ∷ text) all = rw (no_blank c (All-head IsDigit c text all), all_kept text (All-tail IsDigit c text all)) refl

same_text : (text bytes : List ℕ) (r : Result (List ℕ) FromHexError) → decode_of text ≡ r → bytes_or_none r ≡ Some bytes
    → filter (λ c. not (is_blank c)) text ≡ text
same_text text bytes (Ok read) e some = all_kept text (decode_of-ok text read e).1
same_text text bytes (Err why) e some = absurd cc

-- the bytes of a text that is decoded are those of each text with the same digits
pub decoded_whole : {V : Type 0} (items : V → List ℕ) (o : Option V) (text input : List ℕ) → is_some o ≡ true
    → option_map items o ≡ hex_bytes text → filter (λ c. not (is_blank c)) text ≡ filter (λ c. not (is_blank c)) input
    → option_map items o ≡ program_bytes input
decoded_whole items None text input some e same = absurd cc
decoded_whole items (Some v) text input some e same = e ∙ ap hex_bytes (sym (same_text text (items v) (decode_of text) refl (sym e)) ∙ same)

-- the bytes of a text that can be decoded, or else none
pub items_or_none : {V : Type 0} (items : V → List ℕ) (o : Option V) (none : V) (read : Option (List ℕ)) → option_map items o ≡ read
    → items none ≡ [] → items (unwrap_or o none) ≡ unwrap_or read []
items_or_none items None none read e empty = empty ∙ ap (λ (r : Option (List ℕ)). unwrap_or r []) e
items_or_none items (Some v) none read e empty = ap (λ (r : Option (List ℕ)). unwrap_or r []) e

-- a number that isn't above another
pub not_above : (most n : ℕ) → n ≤ most → nat_lt most n ≡ false
not_above most n few = grind (arith, nat_tests)
