use Rattle.std.proofs.Common.{sym, ◌∙◌}
use Rattle.ebpf_input.proofs.Digits.{decoded_whole}
use Rattle.ebpf_input.proofs.program_text.program_bytes.Goals as goal

pub returns-then-is_some : goal.returns-then-is_some
returns-then-is_some c = decoded_whole (λ v. v.items) c.in_ok-bytes.bytes c.without_last_newline.result.now c.args.input.now
    (sym c.is_some.ensures ∙ c.if-is_some.true) c.in_ok-bytes.ensures.value c.without_last_newline.ensures
