use Rattle.std.proofs.Common.{ℕ, Option, ap, sym, ◌∙◌, ◌++◌}
use Rattle.std.specs.Prelude.{codes}
use Rattle.std.proofs.lemmas.Result.{on_ok_weaker}
use Rattle.ebpf_assembly.specs.Labels.{names_of}
use Rattle.ebpf_assembly.specs.Names.{target_by}
use Rattle.ebpf_assembly.proofs.Labelling.{jump_text}
use Rattle.ebpf_assembly.proofs.plain.push_plain.Goals as goal

pub returns : goal.returns
returns c =
    on_ok_weaker c.push_target.result
    (λ h. jump_text (names_of c.args.labels.now) c.args.slot c.args.words.now c.in-Some.others.now c.in-Some.last.now c.args.text.now.items _ _
    (sym c.is_jump.ensures ∙ c.if-not-is_jump.false) c.in-Some.ensures.cases.0 c.in_ok-push_words.ensures
    (h ∙ ap (λ (o : Option ℕ). c.push_words-2.new.text.items ++ (target_by c.args.slot c.in-Some.last.now.now o ++ codes " ")) c.slot_of.ensures))
    c.push_target.ensures
