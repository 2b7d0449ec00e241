use Rattle.std.proofs.Common.{sym, subst, ◌∙◌, ap}
use Rattle.std.specs.Prelude.{◌≡◌, IfSome, length}
use Rattle.ebpf_machine.specs.World.{kinds_of}
use Rattle.ebpf_machine.proofs.Instructions.KindLemmas.{kinds_known}
use Rattle.ebpf_verify.specs.declared.decl.Decl.{Decl}
use Rattle.ebpf_one.proofs.linked.send_linked.Goals as goal

pub send_accepted-requires-clause-declared : goal.send_accepted-requires-clause-declared
send_accepted-requires-clause-declared c =
    let declared = rw c.in-Unrolled.is at c.requires.made in
    subst (λ (d : Decl). IfSome c.args.run (λ r. d.context ≡ length r.context.items)) (sym declared.0) c.requires.declared

pub send_accepted-requires-clause-kinds : goal.send_accepted-requires-clause-kinds
send_accepted-requires-clause-kinds c =
    let declared = rw c.in-Unrolled.is at c.requires.made in ap kinds_of declared.1 ∙ kinds_known c.args.kinds.now c.requires.kinds
