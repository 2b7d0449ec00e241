use Rattle.std.proofs.Common.{rules}
use Rattle.ebpf_command.proofs.Written.{performs_answer, performs_nothing}
use Rattle.ebpf_one.specs.UnrollText.{UnrollsInput}
use Rattle.ebpf_one.proofs.Unrolls.{unroll_cuts}
use Rattle.ebpf_one.proofs.unroll.respond.Goals as goal

pub returns-in_err-input : goal.returns-in_err-input
returns-in_err-input g c = performs_nothing (UnrollsInput c.args.ask.now c.args.how) _ _ _ c.args.writer.now _ (search rules)

pub returns-in_err-answer : goal.returns-in_err-answer
returns-in_err-answer g c = performs_nothing (UnrollsInput c.args.ask.now c.args.how) _ _ _ c.args.writer.now _ (search rules)

pub returns : goal.returns
returns g c =
    performs_answer (UnrollsInput c.args.ask.now c.args.how) (unroll_cuts c.args.ask.now c.args.how)
    _ _ _ _ c.args.writer.now _ _ _ c.in_ok-answer.answer _
    c.in_ok-input.ensures.read c.in_ok-input.ensures.consumed c.deref.ensures.value c.in_ok-answer.ensures c.write_answer.ensures
