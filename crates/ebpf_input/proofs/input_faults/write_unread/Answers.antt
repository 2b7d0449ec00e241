use Rattle.std.proofs.Common.{◌≡◌, ◌++◌, ℕ, List, Some, None, OnOk, codes, decimal, string_bytes, length, filter, refl, sym, ap, ◌∙◌, subst}
use Rattle.std.specs.List.{slice_get}
use Rattle.std.proofs.lemmas.Option.{slice_get_read, slice_get_past}
use Rattle.hex.specs.Hex.{is_hex_digit}
use Rattle.ebpf_input.specs.declared.input_faults.Part.{Part}
use Rattle.ebpf_input.specs.InputFaults.{part_name, place_of_other, other_byte, odd_digits, unread, unread_by}
use Rattle.ebpf_input.proofs.input_faults.write_unread.Goals as goal

-- what is written where a byte may not be
told_byte : (part : Part) (bytes : List ℕ) (place byte : ℕ) → place ≡ place_of_other part bytes → slice_get bytes place ≡ Some byte
    → other_byte part place byte ≡ unread part bytes
told_byte part bytes place byte is there =
    let found = subst (λ (n : ℕ). slice_get bytes n ≡ Some byte) is there in
    ap (λ (n : ℕ). other_byte part n byte) is ∙ sym (ap (unread_by part bytes) found)

-- what is written where each may be, by the name of the part and the number of its digits
told_digits : (part : Part) (bytes : List ℕ) (place digits : ℕ) (name : List ℕ) → place ≡ place_of_other part bytes → slice_get bytes place ≡ None
    → name ≡ part_name part → digits ≡ length (filter is_hex_digit bytes)
    → codes "the " ++ (name ++ (codes " has an odd number of hex digits, " ++ (decimal digits ++ codes ": two make a byte"))) ≡ unread part bytes
told_digits part bytes place digits name is there named counted =
    let found = subst (λ (n : ℕ). slice_get bytes n ≡ None) is there in
    ap (λ (text : List ℕ). codes "the " ++ (text ++ (codes " has an odd number of hex digits, " ++ (decimal digits ++ codes ": two make a byte")))) named
    ∙ (ap (odd_digits part) counted ∙ sym (ap (unread_by part bytes) found))

pub returns-in-Some : goal.returns-in-Some
returns-in-Some c =
    let found = c.in-Some.ensures.lookup in
    let there = slice_get_read c.args.bytes.now _ c.place_of_other-place.result c.in-Some.byte.now refl found.3.0 found.1 in
    subst (λ (words : List ℕ). OnOk c.write_other_byte.result (string_bytes c.write_other_byte.new.text ≡ string_bytes c.args.text.now ++ words))
    (told_byte c.args.part c.args.bytes.now c.place_of_other-place.result c.in-Some.byte.now c.place_of_other-place.ensures there) c.write_other_byte.ensures

pub returns-in-None : goal.returns-in-None
returns-in-None c =
    let found = c.in-None.ensures.lookup in
    let past = slice_get_past c.args.bytes.now c.place_of_other-place.result found.3 in
    subst (λ (words : List ℕ). OnOk c.write.result (string_bytes c.write.new.self ≡ string_bytes c.args.text.now ++ words))
    (told_digits c.args.part c.args.bytes.now c.place_of_other-place.result c.digits_in-digits.result c.name-name.result.now c.place_of_other-place.ensures
    past c.name-name.ensures c.digits_in-digits.ensures)
    c.write.ensures.bytes
