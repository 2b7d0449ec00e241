use Rattle.std.proofs.Common.{◌≢◌, ◌∙◌, ◌++◌, refl, sym}
use Rattle.std.specs.Prelude.{codes}
use Rattle.ebpf_insn.specs.declared.insn.Order.{Order}
use Rattle.ebpf_insn.specs.declared.insn.Order.TheVariants.{Little, Big, Flip}
use Rattle.ebpf_text.specs.Names.{order_name}
use Rattle.ebpf_assembly.proofs.KindWords.{swap_16, swap_32, swap_64, no_swap}
use Rattle.ebpf_assembly.proofs.kind.swap.Goals as goal

pub returns-in-le16 : goal.returns-in-le16
returns-in-le16 c = (refl, c.in-le16.is ∙ sym (swap_16 Little))

pub returns-in-le32 : goal.returns-in-le32
returns-in-le32 c = (refl, c.in-le32.is ∙ sym (swap_32 Little))

pub returns-in-le64 : goal.returns-in-le64
returns-in-le64 c = (refl, c.in-le64.is ∙ sym (swap_64 Little))

pub returns-in-be16 : goal.returns-in-be16
returns-in-be16 c = (refl, c.in-be16.is ∙ sym (swap_16 Big))

pub returns-in-be32 : goal.returns-in-be32
returns-in-be32 c = (refl, c.in-be32.is ∙ sym (swap_32 Big))

pub returns-in-be64 : goal.returns-in-be64
returns-in-be64 c = (refl, c.in-be64.is ∙ sym (swap_64 Big))

pub returns-in-swap16 : goal.returns-in-swap16
returns-in-swap16 c = (refl, c.in-swap16.is ∙ sym (swap_16 Flip))

pub returns-in-swap32 : goal.returns-in-swap32
returns-in-swap32 c = (refl, c.in-swap32.is ∙ sym (swap_32 Flip))

pub returns-in-swap64 : goal.returns-in-swap64
returns-in-swap64 c = (refl, c.in-swap64.is ∙ sym (swap_64 Flip))

pub returns-in_default : goal.returns-in_default
returns-in_default c = no_swap _ sixteen thirty_two sixty_four where
  sixteen : (o : Order) → c.args.word.now ≢ order_name o ++ codes "16"
  sixteen Little = c.in_default.not-le16
  sixteen Big = c.in_default.not-be16
  sixteen Flip = c.in_default.not-swap16

  thirty_two : (o : Order) → c.args.word.now ≢ order_name o ++ codes "32"
  thirty_two Little = c.in_default.not-le32
  thirty_two Big = c.in_default.not-be32
  thirty_two Flip = c.in_default.not-swap32

  sixty_four : (o : Order) → c.args.word.now ≢ order_name o ++ codes "64"
  sixty_four Little = c.in_default.not-le64
  sixty_four Big = c.in_default.not-be64
  sixty_four Flip = c.in_default.not-swap64
