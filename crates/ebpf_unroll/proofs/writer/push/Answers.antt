use Rattle.std.proofs.Common.{◌≡◌, ◌++◌, ◌∷◌, [], ℕ, List, Option, Some, ap, ◌∙◌, rules}
use Rattle.ebpf_insn.specs.declared.insn.Insn.{Insn}
use Rattle.ebpf_layout.specs.Writing.{half_of}
use Rattle.ebpf_layout.proofs.Codes.{count_fits}
use Rattle.ebpf_unroll.specs.Written.{half_copied}
use Rattle.ebpf_unroll.proofs.Writing.{written_more, longer}
use Rattle.ebpf_unroll.proofs.writer.push.Goals as goal

pub overflow_add-writer : goal.overflow_add-writer
overflow_add-writer c = let few = count_fits c.args.writer.now.code.items c.args.writer.now.count c.requires.written.coded in search rules

pub returns-clause-written : goal.returns-clause-written
returns-clause-written c =
    let code = c.args.writer.now.code.items in
    let of = c.args.writer.now.of.items in
    let i = c.args.insn in
    let code_is : c.push.new.self.items ≡ (code ++ half_of i) ++ Some i ∷ [] =
    c.in_ok-push.ensures.items ∙ ap (λ (x : List (Option Insn)). x ++ Some i ∷ []) c.in_ok-push_half.ensures in
    let of_is : c.push-2.new.self.items ≡ (of ++ half_copied i) ++ c.args.copied ∷ [] =
    c.in_ok-push-2.ensures.items ∙ ap (λ (x : List (Option ℕ)). x ++ c.args.copied ∷ []) c.in_ok-push_half_copied.ensures in
    rw (code_is, of_is)
    (written_more c.args.old.now code of c.args.writer.now.count i c.args.copied c.requires.written c.requires.room c.requires.defined c.requires.copies)

pub returns-clause-longer : goal.returns-clause-longer
returns-clause-longer c =
    let code = c.args.writer.now.code.items in
    let i = c.args.insn in
    let code_is : c.push.new.self.items ≡ (code ++ half_of i) ++ Some i ∷ [] =
    c.in_ok-push.ensures.items ∙ ap (λ (x : List (Option Insn)). x ++ Some i ∷ []) c.in_ok-push_half.ensures in
    rw code_is (longer code i)
