use Rattle.std.proofs.Common.{◌≡◌, ◌<◌, false, sym, ◌∙◌, arith}
use Rattle.std.specs.Char.{is_ascii_graphic}
use Rattle.std.proofs.lemmas.Fmt.{hex_byte}
use Rattle.ebpf_input.proofs.input_faults.write_byte.Goals as goal

pub returns-else-is_ascii_graphic : goal.returns-else-is_ascii_graphic
returns-else-is_ascii_graphic c =
    let small : c.args.byte < 256 = omega arith in
    let other : is_ascii_graphic c.args.byte ≡ false = sym c.is_ascii_graphic.ensures.value ∙ c.if-is_ascii_graphic.false in
    let written = rw (c.laid_out.ensures, c.in_radix.ensures) at c.write.ensures.bytes in
    rw other (rw (hex_byte false c.args.byte small) at written)
