use Rattle.std.proofs.Common.{◌||◌, ◌==◌, ap, sym, ◌∙◌, arith}
use Rattle.std.specs.List.{list_all}
use Rattle.std.proofs.lemmas.List.{take_all}
use Rattle.std.proofs.lemmas.List.Folds.{list_all_more}
use Rattle.ebpf_reader.specs.ScriptLines.{is_text_byte}
use Rattle.ebpf_reader.proofs.lines.is_script_text.Goals as goal

pub loop-c-preserved : goal.loop-c-preserved
loop-c-preserved c =
    rw (c.loop-c.invariant, c.is_script_byte-all.ensures)
    (sym (list_all_more (λ c. is_text_byte c || c == 10) c.args.text.now c.loop-c.c-index 0 (omega arith)))

pub returns : goal.returns
returns c = c.loop-c.invariant ∙ ap (list_all (λ c. is_text_byte c || c == 10)) (take_all c.loop-c.c-index c.args.text.now (omega arith))
