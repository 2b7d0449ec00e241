use Rattle.std.proofs.Common.{rules}
use Rattle.ebpf_command.proofs.Written.{performs_answer, performs_nothing}
use Rattle.ebpf_input.proofs.ObjectResponses.{input_cuts}
use Rattle.ebpf_one.specs.LayOutLinked.{LaysOutInput, LaysOutWithData}
use Rattle.ebpf_one.specs.LayOutText.{LaysOut}
use Rattle.ebpf_one.proofs.Responses.{lay_out_cuts}
use Rattle.ebpf_one.proofs.lay_out.respond.Goals as goal

pub returns-in_err-input : goal.returns-in_err-input
returns-in_err-input g c = performs_nothing (LaysOutInput c.args.ask.now) _ _ _ c.args.writer.now _ (search rules)

pub returns-in_err-answer : goal.returns-in_err-answer
returns-in_err-answer g c = performs_nothing (LaysOutInput c.args.ask.now) _ _ _ c.args.writer.now _ (search rules)

pub returns : goal.returns
returns g c =
    let ask = c.args.ask.now in
    performs_answer (LaysOutInput ask) (input_cuts (LaysOutWithData ask) (LaysOut ask.format) (lay_out_cuts ask.format) ask.input)
    _ _ _ _ c.args.writer.now _ _ _ c.in_ok-answer.answer _
    c.in_ok-input.ensures.read c.in_ok-input.ensures.consumed c.deref.ensures.value c.in_ok-answer.ensures c.write_answer.ensures
