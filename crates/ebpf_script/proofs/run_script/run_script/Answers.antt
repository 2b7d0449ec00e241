use Rattle.std.proofs.Common.{refl, rules}
use Rattle.std.specs.Option.{option_copied}
use Rattle.ebpf_command.proofs.Written.{consumed_by, performs_err, performs_nothing}
use Rattle.ebpf_report.specs.RunAnswers.{run_response}
use Rattle.ebpf_script.specs.RunText.{RespondsRun}
use Rattle.ebpf_script.proofs.RunLemmas.{run_cuts, wrote, wrote_beginning}
use Rattle.ebpf_script.proofs.run_script.run_script.Goals as goal

pub returns-in_err-input : goal.returns-in_err-input
returns-in_err-input g c = performs_nothing (RespondsRun c.args.ask.covered c.args.ask.format (option_copied c.args.object)) _ _ _ c.args.writer.now _ (search rules)

pub returns-in_err-answer : goal.returns-in_err-answer
returns-in_err-answer g c = performs_nothing (RespondsRun c.args.ask.covered c.args.ask.format (option_copied c.args.object)) _ _ _ c.args.writer.now _ (search rules)

pub returns-in_err-done : goal.returns-in_err-done
returns-in_err-done g c =
    performs_err (RespondsRun c.args.ask.covered c.args.ask.format (option_copied c.args.object)) _ _ _ _ c.args.writer.now _ _ c.from_residual-in_err-done.ensures.0
    (wrote_beginning (RespondsRun c.args.ask.covered c.args.ask.format (option_copied c.args.object)) (run_cuts c.args.ask.covered c.args.ask.format (option_copied c.args.object)) _ _ _ _ _ (run_response c.in_ok-answer.answer)
    c.in_ok-input.ensures.read refl c.in_ok-answer.ensures _ _ c.from_residual-in_err-done.ensures.1 c.in_err-done.ensures.beginning)
    (search rules)

pub returns : goal.returns
returns g c = record {
  response = wrote (RespondsRun c.args.ask.covered c.args.ask.format (option_copied c.args.object)) (run_cuts c.args.ask.covered c.args.ask.format (option_copied c.args.object)) _ _ _ _ _ (run_response c.in_ok-answer.answer)
      c.in_ok-input.ensures.read refl c.in_ok-answer.ensures _ c.in_ok-done.ensures.done c.in_ok-done.ensures.written;
  consumed = consumed_by _ _ _ c.in_ok-input.ensures.read c.in_ok-input.ensures.consumed;
  beginning = tt;
  untouched = tt;
}
