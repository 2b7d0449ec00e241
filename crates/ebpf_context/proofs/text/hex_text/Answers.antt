use Rattle.std.proofs.Common.{◌≡◌, arith, string_bytes}
use Rattle.std.proofs.lemmas.Result.{IfOk-weaker}
use Rattle.hex.specs.Hex.{IsBytes, encode_lower}
use Rattle.ebpf_context.proofs.ReadBack.{read_back}
use Rattle.ebpf_context.proofs.text.hex_text.Goals as goal

pub returns-clause-read : goal.returns-clause-read
returns-clause-read c =
    let fit : IsBytes c.args.bytes.now = λ i. let f = c.type_inv.bytes i in omega arith in
    IfOk-weaker _ (λ text. string_bytes text ≡ encode_lower c.args.bytes.now) _ (λ text is. read_back _ _ fit is) c.encode.ensures
