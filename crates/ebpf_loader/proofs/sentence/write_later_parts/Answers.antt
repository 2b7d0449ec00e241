use Rattle.std.proofs.Common.{◌++◌, ℕ, List, take, ap, sym, ◌∙◌}
use Rattle.std.specs.Prelude.{string_bytes}
use Rattle.std.proofs.lemmas.List.{append_assoc}
use Rattle.ebpf_object_file.specs.DataParts.{part_at}
use Rattle.ebpf_loader.specs.Sentences.{later_part, later_parts}
use Rattle.ebpf_loader.proofs.Parts.{parts_more}
use Rattle.ebpf_loader.proofs.sentence.write_later_parts.Goals as goal

pub loop-part-preserved : goal.loop-part-preserved
loop-part-preserved c =
    let file = c.args.file.now in
    let parts = c.args.parts.now in
    let k = c.loop-part.part-index in
    let first = string_bytes c.args.text.now in
    c.in_ok-write_later_part.ensures ∙ ap (λ (b : List ℕ). b ++ later_part file (part_at parts k)) c.loop-part.invariant
    ∙ append_assoc first (later_parts file (take k parts)) (later_part file (part_at parts k))
    ∙ ap (λ (b : List ℕ). first ++ b) (sym (parts_more file parts k c.loop-part-test.true))
