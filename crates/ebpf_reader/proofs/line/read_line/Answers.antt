use Rattle.std.proofs.Common.{Option, OnOk, IfErr, sym, ap, ◌∙◌, subst}
use Rattle.ebpf_command.specs.declared.done.FaultCode.{FaultCode}
use Rattle.ebpf_command.specs.Stops.{IsStop}
use Rattle.ebpf_reader.specs.ReadScripts.{parsed_script, Adds}
use Rattle.ebpf_reader.specs.Shapes.{Shape, shape_of}
use Rattle.ebpf_reader.specs.Words.{words}
use Rattle.ebpf_reader.proofs.LinesLemmas.{line_fault-text, line_fault-unprintable, added_fine}
use Rattle.ebpf_reader.proofs.ShapeLemmas.{six_say}
use Rattle.ebpf_reader.proofs.line.read_line.Goals as goal

pub returns-then-not-is_line_text-clause-refused : goal.returns-then-not-is_line_text-clause-refused
returns-then-not-is_line_text-clause-refused c =
    line_fault-unprintable c.args.dialect (parsed_script c.args.script.now) c.args.line.now.bytes.now (sym c.is_line_text.ensures ∙ c.if-not-is_line_text.true)

pub returns-clause-fine : goal.returns-clause-fine
returns-clause-fine c =
    let line = c.args.line.now in
    let printable = sym c.is_line_text.ensures ∙ c.if-not-is_line_text.false in
    let fault = line_fault-text c.args.dialect (parsed_script c.args.script.now) line.bytes.now _ printable line.split in
    added_fine c.read_words.result _ _ _ _ fault c.read_words.ensures.ok

pub returns-clause-ok : goal.returns-clause-ok
returns-clause-ok c =
    let line = c.args.line.now in
    let same = ap (shape_of c.args.dialect) line.split ∙ six_say c.args.dialect (words line.bytes.now) in
    subst (λ (s : Shape). OnOk c.read_words.result (Adds s c.args.script.now c.read_words.new.script)) same c.read_words.ensures.ok

pub returns-clause-refused : goal.returns-clause-refused
returns-clause-refused c =
    let line = c.args.line.now in
    let printable = sym c.is_line_text.ensures ∙ c.if-not-is_line_text.false in
    let fault = line_fault-text c.args.dialect (parsed_script c.args.script.now) line.bytes.now _ printable line.split in
    subst (λ (f : Option FaultCode). IfErr c.read_words.result (IsStop f)) (sym fault) c.read_words.ensures.refused
