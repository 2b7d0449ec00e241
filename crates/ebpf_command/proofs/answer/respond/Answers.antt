use Rattle.std.proofs.Common.{Ok, refl, rules}
use Rattle.std.specs.Fn.{FnOnceReturnsAt}
use Rattle.ebpf_command.specs.Writing.{AnsweredBy}
use Rattle.ebpf_command.proofs.Written.{performs_nothing, performs_read}
use Rattle.ebpf_command.proofs.answer.respond.Goals as goal

pub returns-in_err-input : goal.returns-in_err-input
returns-in_err-input g c = performs_nothing (AnsweredBy g.F.FnOnce c.args.answer) _ _ _ c.args.writer.now _ (search rules)

pub returns-in_err-answer : goal.returns-in_err-answer
returns-in_err-answer g c = performs_nothing (AnsweredBy g.F.FnOnce c.args.answer) _ _ _ c.args.writer.now _ (search rules)

pub returns : goal.returns
returns g c =
    performs_read (λ xs t. FnOnceReturnsAt g.F.FnOnce c.args.answer xs (Ok t)) _ _ _ _ c.args.writer.now _ _ _ c.in_ok-answer.answer _
    c.in_ok-input.ensures.read c.in_ok-input.ensures.consumed c.deref.ensures.value (c.deref.result, c.in_ok-answer.ensures, refl) c.write_answer.ensures
