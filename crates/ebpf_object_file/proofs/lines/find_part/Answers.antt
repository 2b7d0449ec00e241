use Rattle.std.proofs.Common.{◌≡◌, ℕ, false, ap, sym, ◌∙◌}
use Rattle.ebpf_object_file.specs.Text.{is_named}
use Rattle.ebpf_object_file.specs.Lines.{part_of}
use Rattle.ebpf_object_file.proofs.Parts.{passed_more}
use Rattle.ebpf_object_file.proofs.lines.find_part.Goals as goal

pub loop-rest-preserved : goal.loop-rest-preserved
loop-rest-preserved c =
    let other : is_named c.args.strings.now (part_of c.args.size c.loop-rest.rest.now).name c.args.name.now ≡ false =
    ap (λ (n : ℕ). is_named c.args.strings.now n c.args.name.now) (sym c.in-Some.ensures.1) ∙ sym c.is_named.ensures ∙ c.if-is_named.false in
    rw c.in-Some.ensures.3 (passed_more c.args.size c.args.strings.now c.args.name.now c.args.bytes.now c.loop-rest.rest.now c.loop-rest.invariant
    c.in-Some.ensures.0 other)
