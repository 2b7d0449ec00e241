use Rattle.std.proofs.Common.{◌<◌, false, arith}
use Rattle.std.proofs.lemmas.Fmt.{hex_byte}
use Rattle.ebpf_explain.proofs.hex.write_byte.Goals as goal

pub returns : goal.returns
returns c =
    let small : c.byte_of-byte.result < 256 = omega arith in
    let written = rw (c.laid_out.ensures, c.in_radix.ensures) at c.write.ensures.bytes in
    rw (← c.byte_of-byte.ensures) (rw (hex_byte false _ small) at written)
