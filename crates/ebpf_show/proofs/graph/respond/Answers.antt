use Rattle.std.proofs.Common.{rules}
use Rattle.ebpf_command.proofs.Written.{performs_answer, performs_nothing}
use Rattle.ebpf_input.proofs.ObjectResponses.{input_cuts}
use Rattle.ebpf_show.specs.GraphInput.{GraphsInput, GraphsWithData}
use Rattle.ebpf_show.specs.Shown.{GraphsAs}
use Rattle.ebpf_show.specs.declared.shown.Shown.TheVariants.{Graph}
use Rattle.ebpf_show.proofs.Responses.{shown_cuts}
use Rattle.ebpf_show.proofs.graph.respond.Goals as goal

pub returns-in_err-input : goal.returns-in_err-input
returns-in_err-input g c = performs_nothing (GraphsInput c.args.ask.now c.args.unroll c.args.states) _ _ _ c.args.writer.now _ (search rules)

pub returns-in_err-answer : goal.returns-in_err-answer
returns-in_err-answer g c = performs_nothing (GraphsInput c.args.ask.now c.args.unroll c.args.states) _ _ _ c.args.writer.now _ (search rules)

pub returns : goal.returns
returns g c =
    let ask = c.args.ask.now in
    performs_answer (GraphsInput ask c.args.unroll c.args.states)
    (input_cuts (GraphsWithData ask c.args.unroll c.args.states) (GraphsAs c.args.unroll c.args.states ask.context.now ask.held)
    (λ form. shown_cuts c.args.unroll (Graph c.args.states) form ask.context.now ask.held) ask.input)
    _ _ _ _ c.args.writer.now _ _ _ c.in_ok-answer.answer _
    c.in_ok-input.ensures.read c.in_ok-input.ensures.consumed c.deref.ensures.value c.in_ok-answer.ensures c.write_answer.ensures
