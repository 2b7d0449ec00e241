use Rattle.std.proofs.Common.{List, Option, sym, subst}
use Rattle.ebpf_insn.specs.declared.insn.Insn.{Insn}
use Rattle.ebpf_layout.specs.Layout.{IsLaidAs, copied_in}
use Rattle.ebpf_layout.proofs.Kept.{kept_as}
use Rattle.ebpf_layout.proofs.layout.as_it_is.Goals as goal

pub returns-clause-laid_as : goal.returns-clause-laid_as
returns-clause-laid_as c =
    let p = c.args.program.now in
    let of = c.in_ok-own_slots.field-0.items in
    subst (λ (q : List (Option Insn)). IsLaidAs p q (copied_in of)) (sym c.in_ok-copy_of.ensures)
    (kept_as p c.slots.ensures.formed c.requires of c.in_ok-own_slots.ensures.all c.in_ok-own_slots.ensures.own)
