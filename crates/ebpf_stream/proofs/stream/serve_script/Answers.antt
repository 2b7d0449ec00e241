use Rattle.std.proofs.Common.{List, ℕ, Result, Ok, Err, inr, sym, ap, ◌∙◌, subst, map}
use Rattle.std.specs.Prelude.{string_bytes}
use Rattle.ebpf_verify.specs.Subject.{Subject}
use Rattle.ebpf_command.specs.declared.done.Done.{Done}
use Rattle.ebpf_command.specs.declared.done.Done.TheVariants.{Refused}
use Rattle.ebpf_command.specs.declared.done.EngineFault.{EngineFault}
use Rattle.ebpf_command.specs.Response.{refused_response}
use Rattle.ebpf_command.specs.Writing.{Writes}
use Rattle.ebpf_reader.specs.ReadScripts.{parsed_script}
use Rattle.ebpf_report.proofs.VerdictLemmas.{contexts_kept, known_kept}
use Rattle.ebpf_stream.specs.Answering.{position_of}
use Rattle.ebpf_stream.specs.Feeding.{Serves}
use Rattle.ebpf_stream.specs.Serving.{RespondsTo}
use Rattle.ebpf_stream.proofs.RespondLemmas.{begins_part, contexts_of, refuses_begun, refuses_written, writes_all, writes_first}
use Rattle.ebpf_stream.proofs.TopLemmas.{answer_begun, answer_written}
use Rattle.ebpf_stream.proofs.stream.serve_script.Given.{Over}
use Rattle.ebpf_stream.proofs.stream.serve_script.Goals.{After-serve}
use Rattle.ebpf_stream.proofs.stream.serve_script.Goals as goal

pub returns-then-verdicts-clause-response : goal.returns-then-verdicts-clause-response
returns-then-verdicts-clause-response g c =
    refuses_written c.args.format (parsed_script c.args.script) c.in_ok-verdicts.verdicts c.in_ok-verdicts.ensures _ _ _ c.write_answer.result c.if-verdicts.true
    (answer_written (refused_response (string_bytes c.in_ok-verdicts.verdicts.text)) (g.I.Read.remaining c.args.reader.now) (g.W.Write.contents c.args.writer.now) (g.W.Write.contents c.write_answer.new.writer) c.write_answer.result c.write_answer.ensures.written)

pub returns-then-verdicts-clause-beginning : goal.returns-then-verdicts-clause-beginning
returns-then-verdicts-clause-beginning g c =
    refuses_begun c.args.format (parsed_script c.args.script) c.in_ok-verdicts.verdicts c.in_ok-verdicts.ensures _ _ _ c.write_answer.result c.if-verdicts.true
    (answer_begun (refused_response (string_bytes c.in_ok-verdicts.verdicts.text)) (g.I.Read.remaining c.args.reader.now) (g.W.Write.contents c.args.writer.now) (g.W.Write.contents c.write_answer.new.writer) c.write_answer.result c.write_answer.ensures.beginning)

pub load_all-requires : goal.load_all-requires
load_all-requires g c = known_kept _ _ c.in_ok-verdicts.verdicts c.in_ok-verdicts.ensures

pub invariant_of-setup : goal.invariant_of-setup
invariant_of-setup g c = record {
  declared =
      contexts_of c.in_ok-load_all.field-0.items
      ∙ (ap (λ (ss : List Subject). map (λ (s : Subject). s.decl.context) ss) c.in_ok-load_all.ensures.verified
      ∙ contexts_kept _ _ c.in_ok-verdicts.verdicts c.in_ok-verdicts.ensures c.if-verdicts.false);
  alone = c.in_ok-load_all.ensures.alone;
}

-- the reader was served by the programs that were loaded, where this text waited
abbrev ServesOn : (g : Over) (c : After-serve g) → List ℕ → Result (Unit {0}) EngineFault → Type 0
ServesOn g c waited result =
    Serves (record { format = c.args.format; parsed = parsed_script c.args.script; subjects = map (λ p. p.verified) c.in_ok-load_all.field-0.items })
    (g.I.Read.remaining c.args.reader.now) (g.W.Write.contents c.args.writer.now) (g.W.Write.contents c.serve.new.writer)
    (position_of c.serve.new.feed.answers) waited result

pub returns-in-Err-clause-stopped : goal.returns-in-Err-clause-stopped
returns-in-Err-clause-stopped g c = λ other.
    let waits = subst (λ (xs : List ℕ). ServesOn g (goal.at.returns-in-Err-clause-stopped g c).After-serve xs (Err c.in-Err.fault)) c.new.ensures.text c.in-Err.ensures.served in
    inr (writes_first c.args.format (parsed_script c.args.script) c.in_ok-verdicts.verdicts c.in_ok-verdicts.ensures _ c.in_ok-load_all.ensures.verified c.if-verdicts.false c.in-Err.fault Refused _ _ _ (position_of c.serve.new.feed.answers) waits other)

pub returns-in-Err-clause-beginning : goal.returns-in-Err-clause-beginning
returns-in-Err-clause-beginning g c =
    let waits = subst (λ (xs : List ℕ). ServesOn g (goal.at.returns-in-Err-clause-beginning g c).After-serve xs (Err c.in-Err.fault)) c.new.ensures.text c.in-Err.ensures.served in
    begins_part c.args.format (parsed_script c.args.script) c.in_ok-verdicts.verdicts c.in_ok-verdicts.ensures _ c.in_ok-load_all.ensures.verified c.if-verdicts.false c.in-Err.fault Refused _ _ _ (position_of c.serve.new.feed.answers) waits

pub returns-clause-response : goal.returns-clause-response
returns-clause-response g c =
    let waits = subst (λ (xs : List ℕ). ServesOn g (goal.at.returns-clause-response g c).After-serve xs (Ok tt)) c.new.ensures.text c.in_default.ensures.served in
    subst (λ (d : Done). Writes (RespondsTo c.args.format (parsed_script c.args.script)) (g.I.Read.remaining c.args.reader.now) (g.W.Write.contents c.args.writer.now) (g.W.Write.contents c.serve.new.writer) (Ok d)) (sym c.done_by.ensures)
    (writes_all c.args.format (parsed_script c.args.script) c.in_ok-verdicts.verdicts c.in_ok-verdicts.ensures _ c.in_ok-load_all.ensures.verified c.if-verdicts.false _ _ _ (position_of c.serve.new.feed.answers) waits)
