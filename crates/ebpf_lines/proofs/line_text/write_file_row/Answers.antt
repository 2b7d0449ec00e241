use Rattle.std.proofs.Common.{◌++◌, List, ℕ, map, string_bytes, ap, ◌∙◌}
use Rattle.ebpf_explain.proofs.TextLemmas.{pushed_third}
use Rattle.ebpf_object_file.specs.Shown.{visible_byte}
use Rattle.ebpf_lines.proofs.line_text.write_file_row.Goals as goal

pub returns : goal.returns
returns c =
    pushed_third _ _ _ _ _ _ _ _ c.in_ok-push_str.ensures.bytes
    (c.in_ok-write_visible.ensures ∙ ap (λ (file : List ℕ). string_bytes c.push_str.new.self ++ map visible_byte file) c.source.ensures.file)
    c.push_str-2.ensures.bytes
