use Rattle.std.proofs.Common.{◌≡◌, ◌++◌, ◌∷◌, [], List, Option, Some, ap, ◌∙◌, rules}
use Rattle.std.specs.Prelude.{reverse}
use Rattle.std.proofs.lemmas.List.{append_assoc}
use Rattle.ebpf_insn.specs.declared.insn.Insn.{Insn}
use Rattle.ebpf_insn.specs.Program.{placed}
use Rattle.ebpf_layout.specs.Writing.{half_of}
use Rattle.ebpf_layout.proofs.Codes.{count_fits, code_more, halves}
use Rattle.ebpf_layout.proofs.writer.push.Goals as goal

pub overflow_add-writer : goal.overflow_add-writer
overflow_add-writer c = let few = count_fits c.args.writer.now.code.items c.args.writer.now.count c.requires.code in search rules

pub returns-clause-code : goal.returns-clause-code
returns-clause-code c =
    let code = c.args.writer.now.code.items in
    let i = c.args.insn in
    let written : c.push.new.self.items ≡ code ++ reverse (placed i) =
    c.in_ok-push.ensures.items ∙ ap (λ (x : List (Option Insn)). x ++ Some i ∷ []) c.in_ok-push_half.ensures ∙ append_assoc code (half_of i) (Some i ∷ [])
    ∙ ap (λ (x : List (Option Insn)). code ++ x) (halves i) in
    rw written (code_more code c.args.writer.now.count i c.requires.code c.requires.defined c.requires.room)
