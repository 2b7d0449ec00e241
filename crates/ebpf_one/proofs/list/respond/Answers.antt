use Rattle.std.proofs.Common.{rules}
use Rattle.ebpf_command.proofs.Written.{performs_answer, performs_nothing}
use Rattle.ebpf_one.specs.SourceText.{ListsInput}
use Rattle.ebpf_one.proofs.Sources.{lists_cuts}
use Rattle.ebpf_one.proofs.list.respond.Goals as goal

pub returns-in_err-bytes : goal.returns-in_err-bytes
returns-in_err-bytes g c = performs_nothing (ListsInput c.args.format c.args.input.now c.args.lines) _ _ _ c.args.writer.now _ (search rules)

pub returns-in_err-answer : goal.returns-in_err-answer
returns-in_err-answer g c = performs_nothing (ListsInput c.args.format c.args.input.now c.args.lines) _ _ _ c.args.writer.now _ (search rules)

pub returns : goal.returns
returns g c =
    performs_answer (ListsInput c.args.format c.args.input.now c.args.lines) (lists_cuts c.args.format c.args.input.now c.args.lines)
    _ _ _ _ c.args.writer.now _ _ _ c.in_ok-answer.answer _
    c.in_ok-bytes.ensures.read c.in_ok-bytes.ensures.consumed c.deref.ensures.value c.in_ok-answer.ensures c.write_answer.ensures
