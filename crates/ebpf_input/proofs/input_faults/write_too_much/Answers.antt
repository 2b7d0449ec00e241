use Rattle.std.proofs.Common.{rules, ◌≡◌, ◌∙◌, ◌++◌, ℕ, Bool, false, nat_lt, List, [], length, OnOk, string_bytes, ap, sym, subst, if◌then◌else◌}
use Rattle.std.specs.Prelude.{unwrap_or}
use Rattle.ebpf_command.specs.HexText.{hex_or_dash}
use Rattle.ebpf_input.specs.InputFaults.{too_much, too_many_held, long_context}
use Rattle.ebpf_input.proofs.Digits.{items_or_none, not_above}
use Rattle.ebpf_input.proofs.input_faults.write_too_much.Goals as goal

pub returns : goal.returns
returns c =
    let read = items_or_none (λ v. v.items) c.in_ok-hex_or_dash.field-0 c.new.result (hex_or_dash c.args.context.now)
    (c.in_ok-hex_or_dash.ensures ∙ ap hex_or_dash c.as_bytes.ensures.value) c.new.ensures.items in
    let len : c.len-len.result ≡ length (unwrap_or (hex_or_dash c.args.context.now) []) = rw (← read, ← c.unwrap_or-bytes.ensures) (search rules) in
    let few : nat_lt 64 c.args.held ≡ false = not_above 64 c.args.held c.if-held-gt-MAX_HELD.false in
    let words : too_much c.args.context.now c.args.held ≡ long_context c.len-len.result =
    ap (λ (b : Bool). if b then too_many_held c.args.held else long_context (length (unwrap_or (hex_or_dash c.args.context.now) []))) few
    ∙ ap long_context (sym len) in
    subst (λ (words : List ℕ). OnOk c.write-2.result (string_bytes c.write-2.new.self ≡ string_bytes c.args.text.now ++ words)) (sym words)
    c.write-2.ensures.bytes
