use Rattle.std.proofs.Common.{◌∙◌, refl, sym}
use Rattle.ebpf_insn.specs.declared.insn.Width.TheVariants.{W32, W64}
use Rattle.ebpf_assembly.proofs.KindWords.{move_8, move_16, move_32, no_move}
use Rattle.ebpf_assembly.proofs.kind.sign_extension.Goals as goal

pub returns-in-movs8_32 : goal.returns-in-movs8_32
returns-in-movs8_32 c = (refl, c.in-movs8_32.is ∙ sym (move_8 W32))

pub returns-in-movs16_32 : goal.returns-in-movs16_32
returns-in-movs16_32 c = (refl, c.in-movs16_32.is ∙ sym (move_16 W32))

pub returns-in-movs8_64 : goal.returns-in-movs8_64
returns-in-movs8_64 c = (refl, c.in-movs8_64.is ∙ sym (move_8 W64))

pub returns-in-movs16_64 : goal.returns-in-movs16_64
returns-in-movs16_64 c = (refl, c.in-movs16_64.is ∙ sym (move_16 W64))

pub returns-in-movs32_64 : goal.returns-in-movs32_64
returns-in-movs32_64 c = (refl, c.in-movs32_64.is ∙ sym (move_32 W64))

pub returns-in_default : goal.returns-in_default
returns-in_default c =
    no_move _ c.in_default.not-movs8_32 c.in_default.not-movs16_32 c.in_default.not-movs8_64 c.in_default.not-movs16_64 c.in_default.not-movs32_64
