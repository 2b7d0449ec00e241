use Rattle.std.proofs.Common.{◌≡◌, ◌++◌, ◌∷◌, [], List, Option, Some, None, sym, ap, ◌∙◌, arith}
use Rattle.std.proofs.lemmas.List.{append_assoc}
use Rattle.ebpf_insn.specs.declared.insn.Insn.{Insn}
use Rattle.ebpf_insn.specs.Program.{placed}
use Rattle.ebpf_link.proofs.Codes.{count_fits, code_more, two_slots, one_slot}
use Rattle.ebpf_link.proofs.link.push.Goals as goal

pub overflow_add-writer : goal.overflow_add-writer
overflow_add-writer c = let few = count_fits c.args.writer.now.code.items c.args.writer.now.count c.requires.code in omega (arith, few, c.requires.room)

pub returns-in_ok-push-2-clause-code : goal.returns-in_ok-push-2-clause-code
returns-in_ok-push-2-clause-code c =
    let code = c.args.writer.now.code.items in
    let i = c.args.insn in
    let written : c.push-then-slots-eq2.new.self.items ≡ code ++ placed i =
    c.in_ok-push-2.ensures.items ∙ ap (λ (x : List (Option Insn)). x ++ None ∷ []) c.in_ok-push.ensures.items ∙ append_assoc code (Some i ∷ []) (None ∷ [])
    ∙ sym (ap (λ (x : List (Option Insn)). code ++ x) (two_slots i (sym c.slots.ensures.value ∙ c.if-slots-eq2.true))) in
    rw written (code_more code c.args.writer.now.count i c.requires.code c.requires.defined)

pub returns-else-slots-eq2-clause-code : goal.returns-else-slots-eq2-clause-code
returns-else-slots-eq2-clause-code c =
    let code = c.args.writer.now.code.items in
    let i = c.args.insn in
    let written : c.push.new.self.items ≡ code ++ placed i =
    c.in_ok-push.ensures.items ∙ sym (ap (λ (x : List (Option Insn)). code ++ x) (one_slot i (λ e. c.if-slots-eq2.false (c.slots.ensures.value ∙ e)))) in
    rw written (code_more code c.args.writer.now.count i c.requires.code c.requires.defined)
