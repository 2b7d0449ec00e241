use Rattle.std.proofs.Common.{◌≡◌, true, map, take, Option, IfErr, sym, ap, ◌∙◌, subst}
use Rattle.ebpf_command.specs.declared.done.FaultCode.{FaultCode}
use Rattle.ebpf_command.specs.Stops.{IsStop}
use Rattle.ebpf_reader.specs.ReadScripts.{parsed_script}
use Rattle.ebpf_reader.specs.ScriptLines.{is_text}
use Rattle.ebpf_reader.specs.Words.{words}
use Rattle.ebpf_reader.proofs.JobLineLemmas.{fault_of_text, fault_unprintable, read_ok, whole_line}
use Rattle.ebpf_reader.proofs.job_line.read_job_line.Goals as goal

pub returns-then-not-is_text-clause-refused : goal.returns-then-not-is_text-clause-refused
returns-then-not-is_text-clause-refused c =
    fault_unprintable (parsed_script c.args.script.now) c.args.line.now (sym c.is_text.ensures ∙ c.if-not-is_text.true)

pub returns-clause-read : goal.returns-clause-read
returns-clause-read c =
    let printable : is_text c.args.line.now ≡ true = sym c.is_text.ensures ∙ c.if-not-is_text.false in
    let found : map (λ w. w.now) c.first_line-line.result.words.now ≡ take 6 (words c.args.line.now) =
    c.first_line-line.result.split ∙ ap (λ l. take 6 (words l)) (whole_line c.args.line.now _ printable c.first_line-line.ensures) in
    read_ok c.read_words.result (parsed_script c.args.script.now) c.args.line.now _ printable found c.read_words.ensures.fine c.read_words.ensures.job

pub returns-clause-refused : goal.returns-clause-refused
returns-clause-refused c =
    let printable : is_text c.args.line.now ≡ true = sym c.is_text.ensures ∙ c.if-not-is_text.false in
    let found : map (λ w. w.now) c.first_line-line.result.words.now ≡ take 6 (words c.args.line.now) =
    c.first_line-line.result.split ∙ ap (λ l. take 6 (words l)) (whole_line c.args.line.now _ printable c.first_line-line.ensures) in
    subst (λ (fault : Option FaultCode). IfErr c.read_words.result (IsStop fault))
    (sym (fault_of_text (parsed_script c.args.script.now) c.args.line.now _ printable found)) c.read_words.ensures.refused
