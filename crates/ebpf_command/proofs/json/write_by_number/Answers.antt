use Rattle.std.proofs.Common.{◌<◌, false, arith}
use Rattle.std.proofs.lemmas.Fmt.{hex_byte}
use Rattle.ebpf_command.proofs.json.write_by_number.Goals as goal

pub returns : goal.returns
returns c =
    let small : c.args.byte < 256 = omega arith in
    let written = rw (c.laid_out.ensures, c.in_radix.ensures) at c.write.ensures.bytes in
    rw (hex_byte false c.args.byte small) at written
