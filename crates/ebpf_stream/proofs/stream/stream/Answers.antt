use Rattle.std.proofs.Common.{◌≡◌, Ok, Err, sym, ap, ◌∙◌, subst}
use Rattle.ebpf_reader.specs.declared.script.Dialect.TheVariants.{Setup}
use Rattle.ebpf_reader.specs.ReadScripts.{IsScriptStop, parsed_script}
use Rattle.ebpf_reader.specs.Scripts.{parsed_text}
use Rattle.ebpf_reader.proofs.RunnableLemmas.{text_runnable}
use Rattle.ebpf_stream.proofs.TopLemmas.{fault_begun, fault_written, if_stopped, stream_begun, stream_stopped, stream_written}
use Rattle.ebpf_stream.proofs.stream.stream.Given.{Over}
use Rattle.ebpf_stream.proofs.stream.stream.Goals.{In-Ok, In-Err-Fault}
use Rattle.ebpf_stream.proofs.stream.stream.Goals as goal

-- the text that was read is that of a script, or is refused
parsed : (g : Over) (c : In-Ok g) → parsed_text Setup c.in_ok-text.text.items ≡ Ok (parsed_script c.in-Ok.script)
parsed g c = ap (parsed_text Setup) (sym c.deref.ensures.value) ∙ c.in-Ok.ensures.parsed

refused : (g : Over) (c : In-Err-Fault g) → parsed_text Setup c.in_ok-text.text.items ≡ Err (c.in-Err-Fault.fault.line, c.in-Err-Fault.fault.code)
refused g c =
    ap (parsed_text Setup) (sym c.deref.ensures.value)
    ∙ subst (IsScriptStop (parsed_text Setup c.deref.result.now)) c.in-Err-Fault.field-0-is c.in-Err-Fault.ensures.refused

pub serve_script-requires : goal.serve_script-requires
serve_script-requires g c = text_runnable _ _ _ c.in-Ok.ensures.parsed

pub returns-in-Ok-clause-response : goal.returns-in-Ok-clause-response
returns-in-Ok-clause-response g c =
    stream_written c.args.format (g.S.Read.remaining c.args.script.now) (g.I.Read.remaining c.args.reader.now) (g.W.Write.contents c.args.writer.now) (g.W.Write.contents c.serve_script.new.writer) c.in_ok-text.text.items c.serve_script.result (parsed_script c.in-Ok.script)
    c.in_ok-text.ensures.read (parsed g (goal.at.returns-in-Ok-clause-response g c).In-Ok) c.serve_script.ensures.response

pub returns-in-Ok-clause-stopped : goal.returns-in-Ok-clause-stopped
returns-in-Ok-clause-stopped g c =
    if_stopped c.serve_script.result _ _ _
    (stream_stopped c.args.format (g.S.Read.remaining c.args.script.now) (g.I.Read.remaining c.args.reader.now) (g.W.Write.contents c.args.writer.now) (g.W.Write.contents c.serve_script.new.writer) c.in_ok-text.text.items c.serve_script.result (parsed_script c.in-Ok.script)
    c.in_ok-text.ensures.read (parsed g (goal.at.returns-in-Ok-clause-stopped g c).In-Ok)) c.serve_script.ensures.stopped

pub returns-in-Ok-clause-beginning : goal.returns-in-Ok-clause-beginning
returns-in-Ok-clause-beginning g c =
    stream_begun c.args.format (g.S.Read.remaining c.args.script.now) (g.I.Read.remaining c.args.reader.now) (g.W.Write.contents c.args.writer.now) (g.W.Write.contents c.serve_script.new.writer) c.in_ok-text.text.items c.serve_script.result (parsed_script c.in-Ok.script)
    c.in_ok-text.ensures.read (parsed g (goal.at.returns-in-Ok-clause-beginning g c).In-Ok) c.serve_script.ensures.beginning

pub returns-in-Err-Fault-clause-response : goal.returns-in-Err-Fault-clause-response
returns-in-Err-Fault-clause-response g c =
    fault_written c.args.format (g.S.Read.remaining c.args.script.now) (g.I.Read.remaining c.args.reader.now) (g.W.Write.contents c.args.writer.now) (g.W.Write.contents c.write_answer.new.writer) c.in_ok-text.text.items c.write_answer.result _ _
    c.in_ok-text.ensures.read (refused g (goal.at.returns-in-Err-Fault-clause-response g c).In-Err-Fault) (rw c.in_ok-answer-in-Err-Fault.ensures at c.write_answer.ensures.written)

pub returns-in-Err-Fault-clause-beginning : goal.returns-in-Err-Fault-clause-beginning
returns-in-Err-Fault-clause-beginning g c =
    fault_begun c.args.format (g.S.Read.remaining c.args.script.now) (g.I.Read.remaining c.args.reader.now) (g.W.Write.contents c.args.writer.now) (g.W.Write.contents c.write_answer.new.writer) c.in_ok-text.text.items c.write_answer.result _ _
    c.in_ok-text.ensures.read (refused g (goal.at.returns-in-Err-Fault-clause-beginning g c).In-Err-Fault) (rw c.in_ok-answer-in-Err-Fault.ensures at c.write_answer.ensures.beginning)
