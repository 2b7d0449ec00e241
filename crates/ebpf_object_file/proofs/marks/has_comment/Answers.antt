use Rattle.std.proofs.Common.{[], ◌∷◌, ◌∙◌}
use Rattle.ebpf_object_file.specs.Section.{sections_in}
use Rattle.ebpf_object_file.specs.Source.{named_section}
use Rattle.ebpf_object_file.proofs.Below.{found_any}
use Rattle.ebpf_object_file.proofs.marks.has_comment.Goals as goal

pub returns : goal.returns
returns c =
    c.is_some.ensures ∙ found_any (named_section c.args.file.now (46 ∷ 99 ∷ 111 ∷ 109 ∷ 109 ∷ 101 ∷ 110 ∷ 116 ∷ [])) (sections_in c.args.file.now)
    c.find_section.result c.find_section.ensures
